pub mod Layout
pub mod Flows
pub mod Asked
pub mod Refusals
