mod Steps
mod TextOfSteps
mod TreesOfFound
mod FoundInSteps
