-- How a switching point passes a packet on: under the label that is bound on the other side, with a TTL that is one less (RFC 6073
-- section 4, RFC 3032 section 2.4.2).
use Rattle.std.specs.Prelude.{◌≡◌, ◌==◌, ◌-◌, not, ℕ, Bool, false, Option, Some, None, Result, Ok, Err, if◌then◌else◌}
use Rattle.pw_signalling.specs.declared.binding.Binding.{Binding}
use Rattle.pw_signalling.specs.End.{LocalPart, Idle, Advertised, Withdrawing}
use Rattle.pw_stitch.specs.declared.swapped.Swapped.{Swapped}
use Rattle.pw_stitch.specs.declared.side.Side.{Side}
use Rattle.pw_stitch.specs.declared.side.Side.TheVariants.{Before, After}
use Rattle.pw_stitch.specs.declared.swap_drop.SwapDrop.{SwapDrop}
use Rattle.pw_stitch.specs.declared.swap_drop.SwapDrop.TheVariants.{NoBinding, Expired}
use Rattle.pw_stitch.specs.Side.{opposite}
use Rattle.pw_stitch.specs.Stitch.{StitchState, held_across}

-- ---- the side by which a packet comes

-- packets with this label come to the end, since it advertises the label
abbrev pub takes_label : ℕ → LocalPart → Bool
takes_label label (Idle declined) = false
takes_label label (Advertised own told) = own == label
takes_label label (Withdrawing own) = false

-- exactly one side advertises the label
abbrev pub IsOfOneSide : ℕ → StitchState → Type 0
IsOfOneSide label stitch = takes_label label stitch.before.local ≡ not (takes_label label stitch.after.local)

-- the side that advertises the label: packets under it come by that side
abbrev pub side_taking : ℕ → StitchState → Side
side_taking label stitch = if takes_label label stitch.before.local then Before else After

-- ---- how it goes on

-- the label under which a packet with this TTL goes on, by what is held of the peer to which it goes
abbrev pub label_onward : Option Binding → ℕ → Result ℕ SwapDrop
label_onward None ttl = Err NoBinding
label_onward (Some binding) ttl = if ttl == 1 then Err Expired else Ok binding.label

-- how a packet goes on by a side, under the label that is bound there
abbrev pub next_by : Side → ℕ → Result ℕ SwapDrop → Result Swapped SwapDrop
next_by side ttl (Err why) = Err why
next_by side ttl (Ok label) = Ok (record { side = side; label = label; ttl = ttl - 1 })

-- what comes by one side goes on by the other
abbrev pub next_across : Side → ℕ → StitchState → Result Swapped SwapDrop
next_across side ttl stitch = next_by (opposite side) ttl (label_onward (held_across side stitch) ttl)

-- how a packet with this label and TTL goes on
abbrev pub swapped : ℕ → ℕ → StitchState → Result Swapped SwapDrop
swapped label ttl stitch = next_across (side_taking label stitch) ttl stitch
