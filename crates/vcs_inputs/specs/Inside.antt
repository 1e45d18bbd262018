-- What names shapes of the code: private contracts need it, no reader of a promise does.
pub mod PinBits
