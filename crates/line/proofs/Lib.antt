pub mod Lines
pub mod Updated
