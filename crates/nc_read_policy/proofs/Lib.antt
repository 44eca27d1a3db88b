pub mod DraftLemmas
pub mod WordLemmas
pub mod HeadLemmas
pub mod FrontLemmas
pub mod FrequentLemmas
pub mod RunLemmas
pub mod EntryLaws
pub mod LineLaws
