pub mod BelowLemmas
pub mod ChangedLemmas
pub mod ForgetLemmas
pub mod KeptLemmas
pub mod LawLemmas
pub mod MarkLemmas
pub mod OwnerLemmas
pub mod PartLemmas
pub mod NeededLemmas
pub mod ReachLemmas
pub mod SetLemmas
pub mod StrongLemmas
mod RaiseLemmas
pub mod GrowthLemmas
