pub mod Tests
pub mod PlanLimits
pub mod Refusals
