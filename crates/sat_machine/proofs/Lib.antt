pub mod StayLemmas
pub mod Doable
pub mod PlanDoables
pub mod MonthDoables
pub mod StepLemmas
pub mod SweepLemmas
pub mod SweptLemmas
pub mod SheetLemmas
