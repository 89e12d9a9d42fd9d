-- a link, read and changed
mod Plans
pub mod Readings
mod Updated
pub mod Stored
pub mod FlowBytes
mod StateParts
pub mod FlowLoops
pub mod OneState
-- the calls
mod Words
mod Searches
mod Lefts
pub mod Given
mod Replies
pub mod Requests
mod StateRequests
pub mod Credits
pub mod Stays
mod StartedFlows
mod FreshLinks
mod StateFresh
mod Masks
mod Takers
pub mod Lends
mod Resets
mod StateLends
mod LeavingHeads
mod FrameChanges
pub mod Ticks
mod StateTicks
pub mod Told
pub mod Demand3
pub mod Arrival
pub mod SendingAhead
pub mod Boards
-- a state taken up again
mod OwnerMasks
pub mod Resumed
