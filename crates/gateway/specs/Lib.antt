pub mod Form
pub mod Row
pub mod Forms
