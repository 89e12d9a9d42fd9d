pub mod Lines
pub mod ReplyEdges
