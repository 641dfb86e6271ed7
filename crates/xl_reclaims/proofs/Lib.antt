pub mod ByNames
pub mod Together
pub mod Within
pub mod LetIn
pub mod Keeps
pub mod HeldLaws
