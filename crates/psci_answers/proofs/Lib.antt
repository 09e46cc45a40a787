pub mod Answers
mod RunRows
pub mod ScriptRuns
