pub mod WordsTold
pub mod LineAnswers
pub mod FedBytes
pub mod AnyPieces
pub mod InputEdges
pub mod PlanLines
