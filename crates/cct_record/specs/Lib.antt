pub mod Body
pub mod Fields
pub mod CarryBody
pub mod CarryTests
pub mod OldBody
pub mod OldCarryBody
pub mod Today
