-- The ages of packets. A packet is as old as the ticks that have passed since it was sent, and a copy as the packet that it repeats.
-- None lives 64 ticks: no mention of a label lives longer on its way than the label rests (RFC 3032 section 2.1; this project's profile).
use Rattle.std.specs.Prelude.{ℕ, List, [], ◌∷◌, if◌then◌else◌}
use Rattle.net_base.specs.declared.trace.entry.Entry.{Entry}
use Rattle.net_base.specs.declared.trace.entry.Entry.TheVariants.{Aged}
use Rattle.network_model.specs.declared.packet.Packet.{Packet}
use Rattle.network_model.specs.Absorb.{Stepped}
use Rattle.network_model.specs.State.{NetworkState, lives_on, with_older}

-- those that go are told, by rising number
abbrev pub aged_entries : List Packet → List Entry
aged_entries [] = []
aged_entries (p ∷ ps) = if lives_on p then aged_entries ps else Aged p.number ∷ aged_entries ps

-- a tick passes for the packets under way
abbrev pub ageing : NetworkState → Stepped
ageing network = record { state = with_older network; entries = aged_entries network.under_way }
