pub mod AddressRules
pub mod Field
pub mod HalfWords
