pub mod Fronts
pub mod NumberSpellings
pub mod EscapeSpellings
pub mod NameSpellings
pub mod FirstEnds
pub mod CodePoints
