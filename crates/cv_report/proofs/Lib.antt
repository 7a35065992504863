mod Finding
mod Took
