pub mod Vectors
pub mod Laws
pub mod Components
pub mod LiftLists
pub mod SmallTables
pub mod Crushing
pub mod WorkedTable
