pub mod OpeningMade
