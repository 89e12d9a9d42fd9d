-- What is proved of when a tile arrives: each file uses those above it. Assumes nothing.

-- ---- one link
-- which credits are taken
pub mod AcceptedCredits
-- which lends are answered with a flow
pub mod AnsweredLends
-- which resets are granted
pub mod GrantedResets
-- a request is turned back by its word, or answered by the search
pub mod AnsweredRequests
-- the newest frame has grants of the current frame alone
pub mod GrantsInNewest
-- when a tile is due, and where the search fails
pub mod TimelyRequests
-- the reference scheduler is prompt
pub mod Prompt
-- how far a modest flow's injection frame has got
pub mod Fronts
-- what keeps that, but for requests
pub mod FrontsKept
-- a modest flow's request
pub mod RequestsInTime
-- soon, for words that run ahead
pub mod Soon
-- and for tiles that have come
pub mod SoonOnArrival
-- ---- several links
-- the slots of tiles, by number
pub mod TileSlots
-- grants go from frame to frame in order
pub mod GrantsInOrder
-- two links: modest on the second
pub mod NextLink
-- any number of them
pub mod SeveralLinks
-- ---- cells
-- room in every slot
pub mod EnoughCells
-- credits that give cells back in time
pub mod CreditsInTime
-- what is held is of late + 2 frames
pub mod HeldByFrames
-- so many shares of cells are enough
pub mod SharesOfCells
-- cells credited at the grants
pub mod CellsAtOnce
-- and for words that run ahead
pub mod SharesAhead
-- several links with these cells
pub mod LinksOnArrival
-- ---- bursts, and credits at the next board's grants
-- bursts are asked for soon
pub mod Source
-- and arrive so much later
pub mod FromSource
-- cells credited at the next board's grants
pub mod CreditedByNext
-- every tile arrives
pub mod AllArrive
-- ---- slots in order
-- with room, slots are granted in the order of due tiles
pub mod BooksInOrder
-- so is one with its shares of cells
pub mod SharesInOrder
-- ---- what is needed, examples, and schedulers that are sent back
-- whether a flow is modest is decided
pub mod DelayDecided
-- prompt and soon are false without each premise
pub mod LessTimely
-- two links that attain the bound
pub mod TwoLinksExample
-- the premises on two links are decided
pub mod JoinedDecided
-- with one of them left out a tile is refused or late
pub mod LessJoined
-- a cell fewer is too few
pub mod CellsNeeded
-- schedulers that make a flow wait, or mix up its slots
pub mod WrongDelays
-- two of them meet demand 3
pub mod SlowSchedulers
-- schedulers that refuse credits
pub mod WrongCredits
-- they meet demand 3, prompt and soon
pub mod KeptCells
-- schedulers that refuse lends or resets
pub mod WrongAnswers
-- two links, asked on arrival
pub mod OnArrivalExample
-- a tile that arrives, and a board that stops asking
pub mod AllArriveExample
-- a burst that needs all its frames
pub mod SourceExample
-- two links, credited at the grants
pub mod ByCreditsExample
