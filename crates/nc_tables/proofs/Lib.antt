pub mod SideBySide
pub mod RowOrder
pub mod Nested
pub mod LongestPrefix
pub mod RowsAt
pub mod RowPlaces
pub mod State
pub mod Finding
pub mod SessionOrder
pub mod BgpRows
pub mod LongerIn
pub mod ByPrefix
pub mod InOrder
pub mod TableEdits
pub mod Choices
pub mod Spread
mod OwnRows
mod Tables
pub mod RowCount
pub mod Ordered
pub mod Owner
mod ByLevels
pub mod SamePath
mod Remainders
mod PieceBits
mod LongerPath
mod Walk
pub mod SameTables
pub mod NoRoutes
pub mod Settled
