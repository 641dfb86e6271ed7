pub mod Plans
pub mod Answers
pub mod Rows
pub mod Budgets
pub mod Keepers
