pub mod Field
pub mod FiniteSum
