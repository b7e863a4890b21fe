pub mod Answer
pub mod Laws
pub mod Sessions
