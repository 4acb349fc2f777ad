pub mod Eaches
pub mod Fractions
pub mod Percentiles
pub mod Roots
pub mod SortedLists
pub mod TimeParts
pub mod Totals
