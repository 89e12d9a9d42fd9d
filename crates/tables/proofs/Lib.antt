-- rows of holdings: where they stand, and what others know of them
mod Places
pub mod Rows
mod RowRanges
pub mod CarriedRows
pub mod HeldRows
pub mod HoldingChanges
mod Largest
pub mod Bounds
pub mod FreshTables
pub mod UnbookedSlots
pub mod Masks
mod LaterPositions
-- one pass over a row
mod Padded
mod Shifting
mod PaddedFrom
mod Lowered
-- the search
mod Departures
mod ValidSlots
mod FrameWalk
pub mod ValidPositions
pub mod FoundPosition
