-- What is proved of link images: each file uses those above it. Assumes nothing.
-- numbers of refusals and answers
pub mod Numbers
-- a flow's bookings, and the conditions by slots
pub mod Bookings
pub mod BySlots
-- what each call leaves
pub mod Holdings
pub mod FreshKept
pub mod CreditKept
pub mod LendKept
pub mod ResetKept
pub mod OldHead
pub mod FrameChangeKept
pub mod TickKept
pub mod RequestLeaves
pub mod WalkKept
pub mod BookingKept
pub mod RequestKept
pub mod Closed
-- bytes
pub mod Fields
pub mod FlowParts
pub mod ReadBack
-- when an image is taken
pub mod Conditions
pub mod ValidImage
pub mod ImageValid
pub mod WrittenAgain
pub mod ImageBytes
-- the exported calls, and their chain
pub mod Answers
pub mod Exports
pub mod Results
pub mod Chain
pub mod Play
-- edges
pub mod ImageEdges
