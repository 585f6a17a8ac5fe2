-- What contracts see of a switching point of a pseudowire: an end of one segment, and an end of the next one (RFC 6073 section 4).
use Rattle.std.specs.Prelude.{◌&&◌, is_some, Bool, true, false, Option}
use Rattle.pw_signalling.specs.declared.binding.Binding.{Binding}
use Rattle.pw_signalling.specs.End.{EndState, LocalPart, Idle, Advertised, Withdrawing, fresh}
use Rattle.pw_stitch.specs.declared.side.Side.{Side}
use Rattle.pw_stitch.specs.declared.side.Side.TheVariants.{Before, After}
use Rattle.pw_stitch.specs.Side.{opposite}

-- an end of each side, as contracts see it
pub record StitchState : Type 0 where
  pub before : EndState
  pub after : EndState

-- nothing was told on either side
abbrev pub unstitched : StitchState
unstitched = record { before = fresh; after = fresh }

-- the end of a side
abbrev pub end_on : Side → StitchState → EndState
end_on Before stitch = stitch.before
end_on After stitch = stitch.after

-- the end of one side is another one
abbrev pub with_end_on : Side → EndState → StitchState → StitchState
with_end_on Before end stitch = record stitch { before = end }
with_end_on After end stitch = record stitch { after = end }

-- what is held of the peer on the other side
abbrev pub held_across : Side → StitchState → Option Binding
held_across side stitch = (end_on (opposite side) stitch).remote

-- ---- what lets packets through

-- an end that advertises its label
abbrev pub has_told : LocalPart → Bool
has_told (Idle declined) = false
has_told (Advertised label told) = true
has_told (Withdrawing label) = false

-- an end advertises its label, and is bound
abbrev pub is_joined_end : EndState → Bool
is_joined_end end = has_told end.local && is_some end.remote

-- both sides do: packets go through both ways
abbrev pub is_through : StitchState → Bool
is_through stitch = is_joined_end stitch.before && is_joined_end stitch.after
