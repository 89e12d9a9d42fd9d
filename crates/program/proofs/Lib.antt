mod Lists
mod KeptBytes
mod Ends
mod WholeRecords
mod PlayedOn
mod Leaving
mod PlanStages
mod PlanRead
mod PlanTaken
pub mod Pieces
pub mod Determined
pub mod Demand3
