mod Allowing
mod Holders
mod Forming
mod Naming
