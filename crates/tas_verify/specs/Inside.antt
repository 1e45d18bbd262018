-- What names shapes of the code: private contracts need it, no reader of a promise does.
pub mod Words
pub mod Playing
pub mod Running
