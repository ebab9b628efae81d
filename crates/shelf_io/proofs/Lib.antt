mod AppendKeeps
mod Changes
mod CreateKeeps
mod Files
pub mod Filling
pub mod Prefixes
pub mod Keeping
mod Promises
mod ReadKeeps
mod ReadSteps
mod Shelves
mod WriteSteps
pub mod Written
