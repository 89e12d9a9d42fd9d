pub mod Numbers
pub mod LinkTold
