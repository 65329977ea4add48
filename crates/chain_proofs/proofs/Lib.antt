pub mod Dividing
mod Joining
mod Owning
mod Places
pub mod Plainly
mod Turning
mod Closing
pub mod Renumbered
pub mod Spending
mod Starting
pub mod Charging
mod Parting
