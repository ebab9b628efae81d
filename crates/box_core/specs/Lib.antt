pub mod Cuts
pub mod Meter
pub mod RangeProps
pub mod Ranges
