pub mod Laws
pub mod Arriving
pub mod Stretches
pub mod Spanning
mod Fitting
mod Summing
mod RowByRow
