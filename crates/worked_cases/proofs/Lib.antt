mod Expressions
mod Refusals
mod Numbers
mod Searches
mod Labels
mod Cases
