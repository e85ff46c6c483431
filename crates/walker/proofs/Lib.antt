mod Holding
mod Settled
