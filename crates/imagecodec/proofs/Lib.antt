-- tables, flows and holdings that are read, and the link
pub mod ReadTables
pub mod ReadHoldings
pub mod ReadLinks
-- parts that are written, and the link
pub mod WrittenParts
pub mod WrittenLinks
