pub mod CompareLemmas
pub mod GainLemmas
pub mod JoinLemmas
pub mod NodeLemmas
pub mod WalkLemmas
pub mod LawLemmas
pub mod SessionLemmas
