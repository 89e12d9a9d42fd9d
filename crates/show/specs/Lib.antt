pub mod Show
pub mod Reading
pub mod Gathering
pub mod Promises
pub mod Claim
pub mod Delay
pub mod Edges
pub mod Refusals
