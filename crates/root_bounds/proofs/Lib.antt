mod Cubes
mod RootEnds
