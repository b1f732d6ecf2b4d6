-- Laws of replies and calls by numbers.
mod Calling
