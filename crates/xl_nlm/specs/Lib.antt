pub mod Arguments
pub mod Granted
pub mod Items
pub mod Replies
