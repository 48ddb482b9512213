pub mod Graph
pub mod Check
pub mod View
pub mod Held
