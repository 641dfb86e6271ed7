pub mod State
pub mod Recalls
pub mod Handles
pub mod Clients
pub mod Steps
pub mod Courses
pub mod FrontNfs
