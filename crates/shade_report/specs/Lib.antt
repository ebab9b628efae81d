pub mod Refusals
pub mod Recipes
pub mod Outcomes
