mod BrokenLaws
mod BrokenRanges
mod Cases
mod Chains
mod Climbs
pub mod ContributionLaws
mod Means
pub mod Nearness
mod NodeFacts
mod Orders
mod PieceFacts
mod Pieces
mod Quotients
pub mod Ranges
mod Shapes
mod Shares
mod Stored
mod Sums
mod Units
mod Values
mod Walks
