pub mod Extras
pub mod Best
pub mod Claim
pub mod Reading
pub mod Search
pub mod Edges
