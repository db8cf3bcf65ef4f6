pub mod Before
pub mod Says
