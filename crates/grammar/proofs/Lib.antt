pub mod Machine
pub mod Complete
pub mod Places
pub mod Words
pub mod Ends
pub mod Reached
pub mod OneWay
pub mod Worked
