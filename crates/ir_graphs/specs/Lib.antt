pub mod Graphs
pub mod Cuts
pub mod Trees
pub mod Distances
