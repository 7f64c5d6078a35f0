pub mod Automaton
pub mod Runs
pub mod ReadsWritten
pub mod Stands
pub mod Outcomes
pub mod Advances
