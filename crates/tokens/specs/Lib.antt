pub mod Pieces
pub mod Decimal
pub mod Hexadecimal
pub mod TokenEdges
