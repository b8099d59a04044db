pub mod ShallowLaws
pub mod CountLaws
