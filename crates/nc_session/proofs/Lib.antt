pub mod Steady
mod Options
mod WithFiles
mod Ends
mod GeneratedFiles
mod GeneratedEnds
mod Completing
mod ServedLines
mod SessionLeft
mod TakenPieces
mod ValidLoads
mod OneOutput
