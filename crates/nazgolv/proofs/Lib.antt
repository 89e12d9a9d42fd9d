-- a buffer that is turned back, a call that is made, and records that are played
pub mod TurnedBack
pub mod Unmoved
pub mod Stepping
pub mod FreshImages
pub mod PlayRecords
pub mod Playing
pub mod PlayedImages
-- demand 3 of a host's calls, sending ahead, the next board
pub mod Demand3
pub mod Arrival
pub mod SendingAhead
pub mod Boards
