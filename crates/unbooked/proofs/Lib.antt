-- the bits of a word
pub mod WordBits
mod Operations
mod Trailing
-- the words of a link
pub mod FrameWords
