pub mod Evaluation
pub mod Land
pub mod Laws
pub mod Recipes
