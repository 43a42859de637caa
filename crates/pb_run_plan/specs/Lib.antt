pub mod RunTasks
