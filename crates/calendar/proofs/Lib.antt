-- Laws of the calendar that rules defines, for whoever reckons with dates. (March is what other laws here stand on.)
pub mod Years
pub mod Counting
pub mod March
pub mod Dates
pub mod Instants
pub mod Weeks
pub mod Months
