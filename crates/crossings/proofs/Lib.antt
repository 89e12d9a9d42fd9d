-- What is proved of crossings. Assumes nothing.
pub mod OneLink
pub mod Kept
pub mod Tiles
pub mod Board
pub mod Crosses
-- a link between two boards
pub mod Neighbours
-- worked examples, and boards that are sent back
pub mod Unfoldings
pub mod Edges
pub mod WrongBoards
