mod Answering
mod Row
mod Gathered
