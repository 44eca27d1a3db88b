pub mod Parents
pub mod CaseSession
pub mod CasePaths
pub mod CaseFlows
