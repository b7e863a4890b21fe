pub mod Address
pub mod Mark
