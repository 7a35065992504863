mod Premises
mod Skipping
mod Backs
mod Grammars
mod Properties
