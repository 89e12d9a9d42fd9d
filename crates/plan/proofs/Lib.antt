pub mod Stored
pub mod FlowPart
pub mod Writer
pub mod Reader
pub mod Laws
pub mod RoundTrip
