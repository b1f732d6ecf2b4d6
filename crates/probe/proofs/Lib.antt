-- What the proofs of several functions use.
mod Asking
mod Telling
