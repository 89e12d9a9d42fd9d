pub mod CodeInTime
