pub mod Decimal
pub mod FixedPoint
pub mod RoundTrip
pub mod Whole
