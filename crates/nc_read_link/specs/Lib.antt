pub mod Interfaces
pub mod Statics
pub mod Outcomes
pub mod Firsts
pub mod Drafts
