mod Few
mod Numbers
mod Highest
