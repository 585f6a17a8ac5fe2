pub mod WrittenLemmas
pub mod LineLemmas
pub mod HexLemmas
pub mod RoomLemmas
