pub mod Floor
pub mod Plans
pub mod Laws
