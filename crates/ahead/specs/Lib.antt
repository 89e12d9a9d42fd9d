-- Tiles sent ahead of their booked slots. RULES 24.1 to 24.9.
pub mod Ahead
pub mod AheadRuns
pub mod SameCalls
pub mod Sendings
pub mod AheadOverLinks
pub mod LessAhead
-- sendings that are told
pub mod WrongSendings
