pub mod Mapped
pub mod Ranking
pub mod Best
pub mod Alike
pub mod Sorting
pub mod Choosing
pub mod Unchosen
