-- What is proved of tiles sent ahead: each file uses those above it. Assumes nothing.

-- ---- a lend and a credit
-- a lend and a credit: taken, and what they come to
pub mod Ahead
-- ---- two runs
-- a history played again: each answer is that link's
pub mod Replays
-- the search where fewer positions are valid
pub mod FewerValid
-- two links alike but for what flows hold before a slot
pub mod CloseLinks
-- requests on two such links
pub mod CloseRequests
-- the other calls on them
pub mod CloseCalls
-- and resets
pub mod CloseResets
-- two runs: nobody's bookings move
pub mod AheadRuns
-- the same of flows in turn
pub mod AheadInTurn
-- ---- what leaves
-- what leaves: never early or late, never over, one to a slot
pub mod Sendings
-- and in order
pub mod LeaveInOrder
-- bookings alike and sent well, in one
pub mod SendsAhead
-- the slots of a flow's tiles
pub mod TileFields
-- bounds over several links are kept
pub mod AheadOverLinks
-- on the next link tiles leave after their slots on the one before
pub mod LeaveAfter
-- in order, of flows with room
pub mod AheadInOrder
-- in order by slots that are granted in order, and by shares of cells
pub mod AheadByOrder
-- room with tiles sent ahead is room without
pub mod InTurnWithout
-- ---- what is needed, examples, and sendings that are told
-- what is asked of those who send ahead is decided
pub mod AheadDecided
-- a premise left out, and two runs that meet all
pub mod LessAhead
-- the same of tiles that leave in order
pub mod LessInOrder
-- the two premises in `the same calls`, and what each is for
pub mod SameCalls
-- two links, and a tile sent ahead on the second: after it came, and in the very slot in which it comes
pub mod LeaveAfterExamples
-- two shares of cells, and a tile sent ahead
pub mod SharesSentAhead
-- of no tile, twice, too early, as it comes, out of order
pub mod WrongSendings
