pub mod paper
pub mod PlanLaws
