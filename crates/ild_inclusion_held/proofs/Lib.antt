mod Spelled
mod Finding
mod Among
mod Descending
mod Leading
