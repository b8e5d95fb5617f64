mod InOrder
mod Counts
mod KindLists
mod Meanings
mod Greatest
mod Opened
mod ListReads
mod LoopSteps
