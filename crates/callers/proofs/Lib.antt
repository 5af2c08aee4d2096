mod Arguments
mod Depths
mod Wrapped
