pub mod Swept
