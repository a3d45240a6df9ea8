mod Writing
mod Alike
mod Forms
mod StructForms
mod UnionForms
mod Heights
mod Loops
mod AcceptedTables
pub mod Placing
pub mod Flow
mod Fitted
mod Bare
mod AsText
mod Weighing
mod Spread
mod Keyed
mod Kept
mod Tagged
mod Members
mod Prefixing
mod Inlined
mod Others
mod Crowds
pub mod Judges
mod Longs
mod Gathering
mod Inner
mod Rooting
mod EntryOrder
pub mod Trees
mod Wrapping
mod Layers
mod Parts
mod Rounds
