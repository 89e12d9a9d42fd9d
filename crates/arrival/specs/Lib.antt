-- When a tile arrives, over one link and over several, and how many cells it takes. RULES 22.1 to 22.13.
pub mod AcceptedCredits
pub mod AnsweredLends
pub mod Delay
pub mod LessTimely
pub mod SeveralLinks
pub mod LessJoined
pub mod EnoughCells
pub mod BooksInOrder
pub mod SharesOfCells
pub mod SharesAhead
pub mod LinksOnArrival
pub mod Source
pub mod CreditedByNext
pub mod AllArrive
-- schedulers that are sent back
pub mod WrongDelays
pub mod WrongCredits
pub mod WrongAnswers
