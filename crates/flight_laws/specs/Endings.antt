-- How sessions end over a network whose links take everything: an end hears nothing for the hold time, its peer has left, or
-- the connection is lost. No end refuses what another one says.
use Rattle.std.specs.Prelude.{◌≡◌, Bool, true, false, List, [], ◌∷◌}
use Rattle.net_base.specs.declared.trace.entry.Entry.{Entry}
use Rattle.net_base.specs.declared.trace.entry.Entry.TheVariants.{Session}
use Rattle.net_base.specs.declared.trace.state_name.Reason.{Reason}
use Rattle.net_base.specs.declared.trace.state_name.Reason.TheVariants as reason
use Rattle.net_base.specs.declared.trace.state_name.StateName.{StateName}
use Rattle.net_base.specs.declared.trace.state_name.StateName.TheVariants.{Ended}

-- a reason that is no refusal of what the other end says
abbrev pub is_no_refusal : Reason → Bool
is_no_refusal reason.Expired = true
is_no_refusal reason.PeerFatal = true
is_no_refusal reason.Closed = true
is_no_refusal why = false

-- a session that ended, if it did, did so for such a reason
abbrev pub EndsWell : StateName → Type 0
EndsWell (Ended why) = is_no_refusal why ≡ true
EndsWell state = Unit {0}

-- an entry tells of no other end
abbrev pub TellsGoodEnd : Entry → Type 0
TellsGoodEnd (Session edge peer state) = EndsWell state
TellsGoodEnd entry = Unit {0}

-- each end of a session that is told is no refusal
abbrev pub TellGoodEnds : List Entry → Type 0
TellGoodEnds [] = Unit {0}
TellGoodEnds (entry ∷ entries) = TellsGoodEnd entry × TellGoodEnds entries
