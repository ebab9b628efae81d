mod Halves
