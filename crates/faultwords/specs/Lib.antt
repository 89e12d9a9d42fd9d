pub mod PlanFaults
pub mod FaultsWord
pub mod Asked
pub mod FaultsWordEdges
