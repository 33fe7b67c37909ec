pub mod HeadLists
pub mod OutEdges
pub mod RowGraph
pub mod Shelves
pub mod Stored
