pub mod Deliveries
pub mod Once
pub mod KeepsFirst
