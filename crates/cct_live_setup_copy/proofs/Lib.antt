mod Written
mod Parts
