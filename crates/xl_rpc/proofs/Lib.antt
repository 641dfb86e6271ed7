pub mod CallLaws
pub mod ReplyLaws
pub mod XdrLaws
