pub use Rattle.laws_of_control.specs.Control
pub mod Soundness
