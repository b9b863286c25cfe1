pub mod CivilDayLemmas
pub mod IsoformatLemmas
pub mod MonthLemmas
pub mod OrderLemmas
pub mod PointLemmas
pub mod SearchLemmas
