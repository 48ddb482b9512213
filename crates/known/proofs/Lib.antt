pub mod Computed
pub mod Path
