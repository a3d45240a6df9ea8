mod Occurring
mod Stepping
mod Prefixing
mod Among
mod Texts
mod Orders
