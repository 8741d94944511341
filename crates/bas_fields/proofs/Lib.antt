mod Decimals
mod Examples
mod NumberBytes
mod Places
mod Spellings
