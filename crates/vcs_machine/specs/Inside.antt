-- What names shapes of the code: invariants and private contracts need it, no reader of a promise does.
pub mod Chips
pub mod Console
pub mod Mirror
pub mod Observing
pub mod Times
pub mod TraceFrames
pub mod Noting
pub mod Waiting
