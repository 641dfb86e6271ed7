pub mod CallLaws
pub mod CountLaws
pub mod DrawnLaws
pub mod GroupLaws
pub mod MadeLaws
pub mod StepLaws
pub mod SumLaws
