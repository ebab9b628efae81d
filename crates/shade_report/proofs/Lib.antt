mod Puts
mod Refused
mod RecipeLines
mod Undecided
