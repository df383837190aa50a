pub mod Branch
pub mod Children
pub mod Order
pub mod Walk
