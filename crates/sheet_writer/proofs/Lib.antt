mod Bytes
mod Putting
mod Made
mod Layouts
mod Written
