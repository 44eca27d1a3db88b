mod Elements
mod Rests
mod Keeping
