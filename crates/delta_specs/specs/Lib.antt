pub mod Cie94
pub mod DeltaFormula
pub mod Laws
