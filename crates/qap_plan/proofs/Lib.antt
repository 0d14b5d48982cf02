mod Endings
mod Printing
mod Proofs
mod SplitUps
mod Starts
