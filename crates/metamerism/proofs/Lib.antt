pub mod CorrectionLaws
pub mod DifferenceLaws
pub mod VerdictLaws
mod Standing
mod Lists
pub mod PlaceFacts
mod Verdicts
mod VerdictMeaning
mod CorrectionCalls
mod SampleFacts
mod LightLists
mod TableFacts
