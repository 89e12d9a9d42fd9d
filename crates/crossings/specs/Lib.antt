-- A crossing, how it is played, and what is said of it.
pub mod Crossing
pub mod Playing
pub mod Claim
-- worked examples, and boards that are sent back
pub mod Edges
pub mod WrongBoards
