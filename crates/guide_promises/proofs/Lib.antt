pub mod Guide
