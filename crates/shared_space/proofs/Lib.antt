pub mod ContentRuns
pub mod LawLemmas
pub mod MarkLemmas
pub mod RunLemmas
pub mod UnderLaw
pub mod WriteLemmas
