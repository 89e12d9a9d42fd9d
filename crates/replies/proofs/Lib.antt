pub mod PutOn
pub mod DecimalLength
pub mod ReplyEdges
