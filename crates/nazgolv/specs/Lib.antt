pub mod Numbers
pub mod Calls
pub mod Steps
pub mod Hosted
