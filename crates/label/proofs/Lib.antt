mod Entries
mod Outcomes
