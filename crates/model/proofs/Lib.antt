-- Laws, invariants and theorems of the board of functions; each room uses those above it.
pub mod Tables
pub mod Sums
pub mod Lists
pub mod Lines
pub mod Flight
pub mod Book
pub mod Rings
pub mod Arrivals
pub mod Places
pub mod Fronts
pub mod Agreement
pub mod Search
pub mod Measure
pub mod Deliveries
pub mod Opening
pub mod Theorems
pub mod Drain
