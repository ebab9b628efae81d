pub mod Answers
pub mod Bounds
pub mod Cuts
pub mod Keys
pub mod Lists
pub mod Spans
pub mod Tests
