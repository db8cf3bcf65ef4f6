pub mod Lengths
pub mod Results
pub mod Begins
pub mod Parts
pub mod Cuts
pub mod Stands
pub mod Gaps
pub mod Trips
