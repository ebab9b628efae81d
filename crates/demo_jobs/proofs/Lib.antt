mod ListFacts
mod DrawFacts
mod LineFacts
mod ClothFacts
mod Strength
mod BookFacts
mod TableFacts
mod PlainFields
mod RecordsRead
mod WeightsRead
mod CurvesRead
mod JobBookRead
mod DyesRead
mod JobRead
mod JobResolved
mod Lengths
pub mod Accepted
