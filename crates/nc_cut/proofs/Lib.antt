pub mod ListLemmas
pub mod ExpansionLemmas
pub mod SizeLemmas
pub mod KnownLemmas
pub mod PageLemmas
pub mod WalkLemmas
pub mod LawLemmas
mod DecidingLemmas
pub mod FirstLemmas
