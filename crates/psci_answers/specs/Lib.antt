pub mod ScriptRun
