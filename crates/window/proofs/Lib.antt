-- lists, bytes and ranges of positions
pub mod Tabulated
pub mod Bytes
pub mod Ranges
pub mod RangeLoops
-- going round, the window, ranks, and positions from p on
pub mod GoingRound
pub mod Windows
pub mod Ranks
pub mod FromOn
pub mod PassesFrom
-- one answer to each contract
pub mod OneAnswer
