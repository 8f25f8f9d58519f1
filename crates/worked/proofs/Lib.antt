pub mod Computed
pub mod Impossible
