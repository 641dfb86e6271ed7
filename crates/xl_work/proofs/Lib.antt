pub mod AllLaws
pub mod CallLaws
pub mod CrewLaws
pub mod LifeLaws
pub mod RestLaws
pub mod ServeLaws
pub mod TickLaws
