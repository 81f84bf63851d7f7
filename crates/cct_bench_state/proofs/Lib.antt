mod Accounts
mod Chains
mod Deciding
mod Going
