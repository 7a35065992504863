mod Texts
mod Kept
mod Sums
mod Small
