pub mod Lists
pub mod Sending
pub mod Ends
pub mod Own
pub mod PeerFirst
pub mod Holding
