-- A stream's way of links with a crossing between each two, and the ways of a show.
pub mod Ways
pub mod Dome
-- where a stream ends
pub mod Ends
-- crossings that the code plays
pub mod OfCode
-- links in a row, played all together
pub mod Rows
-- two crossings with a link in common
pub mod Beside
-- a worked example, and boards that are sent back
pub mod Edges
pub mod WrongBoards
