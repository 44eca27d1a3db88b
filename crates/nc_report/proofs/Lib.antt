pub mod Lists
pub mod Digits
pub mod Numbers
pub mod Listed
mod Counted
pub mod Ascii
mod Counting
mod Showing
pub mod ObjectText
