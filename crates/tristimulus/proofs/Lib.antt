mod Sums
pub mod RatioLaws
