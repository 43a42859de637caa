mod Endings
pub mod Exact
mod ExprLaws
mod FormLaws
mod HeaderLaws
mod Keeps
mod ProgramLaws
mod Spelled
mod Steps
mod StmtLaws
mod Taken
mod ViewLaws
pub mod Within
