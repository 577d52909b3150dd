pub mod Widths
pub mod Patterns
pub mod Differences
pub mod Bias
pub mod Pieces
pub mod ByteParts
