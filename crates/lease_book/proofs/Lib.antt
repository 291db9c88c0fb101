pub mod Balance
pub mod Changes
pub mod Gaps
pub mod Nodes
pub mod Order
pub mod Sums
