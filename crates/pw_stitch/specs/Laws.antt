-- What holds of every switching point.
use Rattle.std.specs.Prelude.{◌≡◌, ◌≤◌, ◌<◌, ◌-◌, ◌/◌, ◌%◌, ◌++◌, ℕ, true, false, List, Option, Some, Ok, drop}
use Rattle.byteorder.specs.Endian.{big_number}
use Rattle.net_values.specs.Label.{IsLabel}
use Rattle.net_values.specs.declared.addr.Addr.{Addr}
use Rattle.pw_tlvs.specs.declared.point.Point.{Point}
use Rattle.pw_signalling.specs.declared.binding.Binding.{Binding}
use Rattle.pw_signalling.specs.declared.told.Told.{Told}
use Rattle.pw_stitch.specs.declared.side.Side.{Side}
use Rattle.pw_stitch.specs.Accepting.{accepts}
use Rattle.pw_stitch.specs.Passing.{own_point, wanted}
use Rattle.pw_stitch.specs.Relabelling.{relabelled}
use Rattle.pw_stitch.specs.Side.{opposite}
use Rattle.pw_stitch.specs.Stitch.{StitchState, end_on, held_across, is_through}
use Rattle.pw_stitch.specs.Swap.{IsOfOneSide, swapped, takes_label}

-- ---- loops

-- Whatever a switching point has told it does not accept again, whatever switching points it has passed since.
abbrev pub BreaksLoops : Type 0
BreaksLoops = (own : Addr) (far : Option Addr) (pw_id : ℕ) (binding : Binding) (told back : Told) (more : List Point)
    → wanted (own_point pw_id (Some own) far) (Some binding) ≡ Some told → back.points ≡ told.points ++ more → accepts own back ≡ false

-- ---- packets

-- a packet that comes by a side goes on by the other, under the label that is bound there
pub record GoesAcross (side : Side) (label ttl : ℕ) (stitch : StitchState) : Type 0 where
  pub one : IsOfOneSide label stitch
  pub binding : Binding
  pub bound : held_across side stitch ≡ Some binding
  pub next : swapped label ttl stitch ≡ Ok (record { side = opposite side; label = binding.label; ttl = ttl - 1 })

-- Where both sides advertise a label and are bound, a packet that comes by one of them, and whose TTL does not run out, goes on by the
-- other, under the label that is bound there.
abbrev pub CarriesBothWays : Type 0
CarriesBothWays = (stitch : StitchState) (side : Side) (label ttl : ℕ) → is_through stitch ≡ true
    → takes_label label (end_on side stitch).local ≡ true → takes_label label (end_on (opposite side) stitch).local ≡ false → 2 ≤ ttl → GoesAcross side label ttl stitch

-- The fields of the entry in front of a packet: 20 bits of label, 3 of traffic class, the bottom bit, and 8 of TTL (RFC 3032
-- section 2.1)
abbrev pub front_label : List ℕ → ℕ
front_label packet = big_number 4 packet / 4096

-- its traffic class
abbrev pub front_class : List ℕ → ℕ
front_class packet = big_number 4 packet / 512 % 8

-- its bit for the bottom of the stack
abbrev pub front_bottom : List ℕ → ℕ
front_bottom packet = big_number 4 packet / 256 % 2

-- its TTL
abbrev pub front_ttl : List ℕ → ℕ
front_ttl packet = big_number 4 packet % 256

-- another packet has this label and this TTL, and all else is as in the first
pub record IsRelabelled (number left : ℕ) (packet other : List ℕ) : Type 0 where
  pub label : front_label other ≡ number
  pub class : front_class other ≡ front_class packet
  pub bottom : front_bottom other ≡ front_bottom packet
  pub ttl : front_ttl other ≡ left
  pub behind : drop 4 other ≡ drop 4 packet

-- A packet under another label has that label and that TTL, and the same traffic class and bottom bit, with the same behind them.
abbrev pub ChangesLabelAlone : Type 0
ChangesLabelAlone = (label ttl : ℕ) (packet : List ℕ) → IsLabel label → ttl < 256 → IsRelabelled label ttl packet (relabelled label ttl packet)
