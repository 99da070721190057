pub mod BinOp
pub mod CastOp
pub mod Mathematics
pub mod Pred
pub mod Residue
