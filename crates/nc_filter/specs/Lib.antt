pub mod Agreement
pub mod Gates
pub mod Names
pub mod Spots
pub mod Tables
pub mod Walks
