pub mod Taking
pub mod AllAnswered
pub mod Written
