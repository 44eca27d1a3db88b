mod Closing
mod Reporting
mod Working
mod Replying
mod Lending
pub mod Carrying
pub mod Marked
pub mod Sufficing
pub mod Unmarked
mod Suited
mod Deciding
mod Bounded
mod Fewer
mod Comparing
mod Drawing
mod Gaining
pub mod Cutting
mod Crowding
mod Cuttable
mod Single
mod Answering
mod Asking
mod GoingOn
