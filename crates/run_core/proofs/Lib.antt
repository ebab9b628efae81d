mod Ends
mod Judged
pub mod Proper
pub mod Readings
pub mod Table
