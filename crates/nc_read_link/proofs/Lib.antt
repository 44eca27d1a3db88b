pub mod DraftLemmas
pub mod UsualLemmas
