pub mod Outers
pub mod Lines
pub mod Payloads
pub mod Calls
pub mod Steps
pub mod InOrder
pub mod Results
