pub mod Options
mod EachFile
mod OneFile
mod Joined
mod AllFiles
mod Taking
mod Entering
