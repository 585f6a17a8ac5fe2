pub mod BridgeState
pub mod Targets
