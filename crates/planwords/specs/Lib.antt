pub mod Reads
pub mod Plans
pub mod Drafts
pub mod PlanLines
pub mod PlanLineEdges
