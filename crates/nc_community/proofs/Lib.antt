pub mod SetLemmas
pub mod MergeLemmas
