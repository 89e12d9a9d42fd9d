-- loops that test or count, and owners
pub mod TestLoops
pub mod Owners
-- the layout, and the plan's part
pub mod Layouts
pub mod PlanParts
-- a flow
pub mod LaterPositions
pub mod StraightRuns
pub mod FlowFields
pub mod FlowParts
-- a link
pub mod LinkFields
pub mod Refusals
pub mod Numbers
