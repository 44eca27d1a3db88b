pub mod Senders
pub mod Tied
