pub mod Grown
pub mod Seats
pub mod Steps
pub mod Totals
pub mod Walks
