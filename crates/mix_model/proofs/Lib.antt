mod BaseFacts
pub mod ReflectanceRanges
mod Quotients
pub mod DivisorEnds
pub mod ReflectanceEnds
pub mod ReflectanceLaws
pub mod Doses
mod Portions
mod Moved
pub mod MixtureLaws
pub mod StrengthLaws
mod Narrowing
mod QuickScale
mod Examples
