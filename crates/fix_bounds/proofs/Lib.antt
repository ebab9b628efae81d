pub mod Passed
mod Levels
mod Rounding
mod LongDivision
mod UnitFloor
mod Choices
mod Rounded
