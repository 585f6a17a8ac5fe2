pub mod ConnectLemmas
pub mod EventLemmas
pub mod NetworkLemmas
pub mod PutLemmas
pub mod RunLemmas
pub mod SessionLemmas
pub mod WorkLemmas
