pub mod Grammar
pub mod Command
pub mod Said
