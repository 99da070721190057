pub mod Results
pub mod Lacking
pub mod Bodies
pub mod Asked
