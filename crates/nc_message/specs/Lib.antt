pub mod Inputs
pub mod Adjacencies
pub mod Maps
pub mod Views
pub mod Peers
