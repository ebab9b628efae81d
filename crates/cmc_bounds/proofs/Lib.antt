mod Calls
mod Outward
mod Chosen
mod HueCalls
mod AngleCalls
mod TermCalls
