mod Runs
mod Said
mod Only
