pub mod Counts
pub mod Words
pub mod Laws
pub mod Results
pub mod Dues
pub mod Tables
