pub mod PlanLaws
pub mod BindLaws
pub mod RowLaws
pub mod AsideLaws
pub mod BudgetLaws
pub mod KeeperLaws
pub mod GraceLaws
pub mod RecordLaws
