pub mod Tests
pub mod Step
pub mod PastOnly
pub mod NewestRow
