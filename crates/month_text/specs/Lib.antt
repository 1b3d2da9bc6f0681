pub mod MonthText
