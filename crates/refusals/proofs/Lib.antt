mod Heap
mod Walks
