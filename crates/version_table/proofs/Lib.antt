pub mod Rising
pub mod Changes
pub mod Retracting
pub mod PageLookups
pub mod PageChanges
pub mod PageParts
pub mod Gone
