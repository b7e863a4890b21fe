pub mod HeaderRules
pub mod Places
pub mod Rules
