-- What the heap of cursors means: the cursors, the heap's shape, what it still has to hand out, and what each step does to that.
pub mod Bag
pub mod Shape
pub mod Cursors
pub mod Unread
pub mod Steps
pub mod Building
