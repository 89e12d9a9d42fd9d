pub mod ShareLists
pub mod Counts
pub mod Enumerated
pub mod PlanShares
pub mod Binomial
pub mod CountEdges
