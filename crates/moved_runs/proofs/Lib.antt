pub mod Words
pub mod States
mod Effects
mod Leads
mod Ends
mod Expansions
mod Steps
pub mod Runs
pub mod Quiet
pub mod PassNumbers
pub mod PassZips
pub mod PassSections
pub mod PassSymbols
pub mod PassListed
pub mod PassData
pub mod PassNames
pub mod PassContents
pub mod PassTargets
pub mod PassBytes
pub mod QuietObjects
pub mod Elements
pub mod Led
pub mod StartLed
pub mod Faultless
pub mod Pairs
pub mod ProgramLeads
pub mod MovedKinds
