-- What is proved of ways of crossings. Assumes nothing.
pub mod Growing
pub mod States
pub mod Still
pub mod InOrder
pub mod Pairs
pub mod Passed
pub mod Slots
pub mod TwoLinks
pub mod Ways
pub mod Dome
-- where a stream ends
pub mod Ends
-- links in a row, played all together
pub mod PlayedAs
pub mod Rows
-- two crossings with a link in common
pub mod Beside
-- crossings that the code plays
pub mod OfCode
-- a worked example, and boards that are sent back
pub mod Edges
pub mod WrongBoards
