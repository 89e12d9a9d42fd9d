pub mod Fed
pub mod Question
pub mod AnyPieces
pub mod Edges
