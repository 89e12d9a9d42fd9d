pub mod AskedFlows
pub mod FaultsFollow
pub mod FaultsLines
pub mod FaultsWordEdges
