mod Keeping
mod Within
mod Finding
mod Listing
mod Mapping
