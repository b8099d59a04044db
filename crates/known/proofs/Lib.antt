pub mod TreeLaws
pub mod RoleLaws
