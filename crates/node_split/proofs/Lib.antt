mod Bounds
mod Exact
