pub mod States
pub mod Records
pub mod Right
pub mod Listed
pub mod Totals
pub mod Example
