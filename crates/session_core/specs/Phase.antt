-- The states of a session that stands (RFC 5036 section 2.5.4).
use Rattle.std.specs.Prelude.{Bool, true, false}

pub data Phase : Type 0 where
  Initialized : Phase
  OpenSent : Phase
  OpenRec : Phase
  Operational : Phase

-- an Initialization was accepted
abbrev pub is_agreed : Phase → Bool
is_agreed Initialized = false
is_agreed OpenSent = false
is_agreed OpenRec = true
is_agreed Operational = true
