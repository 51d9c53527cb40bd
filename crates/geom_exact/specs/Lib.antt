pub mod Formulas
pub mod Common
pub mod Crossings
pub mod ExtremeLines
pub mod LineSpans
