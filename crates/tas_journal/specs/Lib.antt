pub mod Text
pub mod Recovery
pub mod RecoveryRun
