mod Numbers
mod Ended
mod Callings
mod Reapings
mod Order
mod LeftOver
mod Batches
