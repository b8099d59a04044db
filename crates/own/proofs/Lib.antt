pub mod Passing
pub mod Trees
pub mod NextLaws
pub mod HeldLaws
pub mod LookingUp
