pub mod Calls
pub mod Faults
pub mod Replies
pub mod Xdr
