pub mod Reading
pub mod CodePlayed
