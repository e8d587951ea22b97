pub mod ContentLemmas
pub mod NamingLemmas
pub mod ReportLemmas
pub mod StepLemmas
pub mod SummaryLemmas
pub mod WholeLemmas
