pub mod LabLaw
pub mod LabRanges
mod Parts
mod FLaw
mod FEnds
mod LabCalls
mod Colours
