pub mod OfCode
