pub mod Numbers
pub mod Rows
pub mod Parts
pub mod Examples
