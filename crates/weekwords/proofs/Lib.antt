pub mod AskedEntries
pub mod SharedMinutes
pub mod WeekFollows
pub mod WeekLines
pub mod WeekWordEdges
