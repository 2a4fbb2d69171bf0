-- Read in this order: arguments that count for themselves alone; values out of what clap finds; borders; words as they are written for a shell.
pub mod Arguments
pub mod Matches
pub mod Borders
pub mod Shell
