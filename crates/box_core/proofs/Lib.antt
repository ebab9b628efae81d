mod HalfBoxes
mod Splitting
