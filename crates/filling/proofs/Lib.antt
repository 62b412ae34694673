pub mod JudgedCodes
