pub mod Stores
pub mod Words
pub mod Digits
pub mod Answers
pub mod PlayedTo
