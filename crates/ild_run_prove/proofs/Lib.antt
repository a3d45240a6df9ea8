mod Behind
mod Printable
