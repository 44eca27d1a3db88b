mod KeptLemmas
mod GroupLemmas
mod FieldLemmas
mod ProcessLemmas
mod Finished
mod PrefixLemmas
mod StatementLemmas
pub mod LawLemmas
pub mod LowestLemmas
