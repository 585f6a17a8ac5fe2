-- What contracts see of an end of a pseudowire (RFC 8077 section 6, RFC 5036 sections 3.5.7, 3.5.10 and 3.5.11).
use Rattle.std.specs.Prelude.{ℕ, Bool, false, Option, None}
use Rattle.pw_signalling.specs.declared.binding.Binding.{Binding}
use Rattle.pw_signalling.specs.declared.told.Told.{Told}

-- What an end has told its peer: nothing, and then the peer may have declined its last label; a label with its content; or that
-- a label is withdrawn, which the peer did not release yet.
pub data LocalPart : Type 0 where
  Idle : Bool → LocalPart
  Advertised : ℕ → Told → LocalPart
  Withdrawing : ℕ → LocalPart

-- an end: what it has told its peer, and what it holds of the peer
pub record EndState : Type 0 where
  pub local : LocalPart
  pub remote : Option Binding

-- nothing was told by either side
abbrev pub fresh : EndState
fresh = record { local = Idle false; remote = None }

-- ---- an end of one state

-- an end that advertises nothing, with whether its peer has declined what it advertised
pub record IdleEnd : Type 0 where
  pub declined : Bool
  pub remote : Option Binding

-- an end that advertises a label with this content
pub record AdvertisedEnd : Type 0 where
  pub label : ℕ
  pub told : Told
  pub remote : Option Binding

-- an end that has withdrawn its label, and waits for the release
pub record WithdrawingEnd : Type 0 where
  pub label : ℕ
  pub remote : Option Binding

-- each of the three as an end of any state
abbrev pub idle_end : IdleEnd → EndState
idle_end e = record { local = Idle e.declined; remote = e.remote }

abbrev pub advertised_end : AdvertisedEnd → EndState
advertised_end e = record { local = Advertised e.label e.told; remote = e.remote }

abbrev pub withdrawing_end : WithdrawingEnd → EndState
withdrawing_end e = record { local = Withdrawing e.label; remote = e.remote }
