pub mod Judged
pub mod Told
pub mod Steps
pub mod CaseLists
