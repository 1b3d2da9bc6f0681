pub mod MonthLemmas
