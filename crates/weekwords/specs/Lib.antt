pub mod WeekFaults
pub mod WeekWord
pub mod WeekWordEdges
