-- What a host hears of its calls, and what is promised of that.
pub mod Heard
pub mod Promise
