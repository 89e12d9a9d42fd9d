-- the word that asks for a tile, one tile that is asked for, and several
pub mod Asked
pub mod OneTile
pub mod Tiles
-- both links' ticks
pub mod Ticks
-- contracts leave one answer
pub mod OneAnswer
-- a crossing that the code plays
pub mod CodeCrosses
