mod Arenas
pub mod Certs
mod Emitting
mod Endings
mod Finding
mod Judging
mod Matches
mod Taking
mod Orders
pub mod Ranks
pub mod Results
mod Rising
mod Seen
pub mod Trees
mod Turning
pub mod Valid
pub mod Walks
