-- The link image, when it is taken, and the calls on it. RULES 12.1 to 12.9.
pub mod Image
pub mod Consistent
pub mod ValidImage
pub mod Exports
pub mod Chain
pub mod Play
-- worked examples
pub mod ImageCases
pub mod ImageEdges
