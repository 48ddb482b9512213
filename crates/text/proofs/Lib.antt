pub mod Cuts
pub mod Worth
pub mod OneWay
pub mod Steps
