-- What an edge has told of its pseudowires, and what it holds of its peers, so that whatever it tells of them next can be written.
use Rattle.std.specs.Prelude.{◌≡◌, ◌≢◌, ◌≤◌, ◌<◌, ◌^◌, ℕ, Bool, true, false, Option, Some, None, IfSome, length, if◌then◌else◌}
use Rattle.std.specs.List.{AllByRecursion}
use Rattle.label_space.specs.Kept.{kept_at}
use Rattle.label_space.specs.Labels.{numbers_end}
use Rattle.net_base.specs.declared.plan.Plan.{Plan}
use Rattle.net_base.specs.declared.plan.places.EdgeId.{EdgeId}
use Rattle.net_base.specs.declared.plan.wire_plan.WirePlan.{WirePlan}
use Rattle.net_base.specs.plan.Places.{wire_row}
use Rattle.net_values.specs.Label.{IsLabel}
use Rattle.net_values.specs.Octets.{AreOctets}
use Rattle.pw_tlvs.specs.Written.{IsPointInRange, has_vlan, written_parameters}
use Rattle.ldp_grammar.specs.Written.{IsState, point_tlvs}
use Rattle.pw_signalling.specs.declared.binding.Binding.{Binding}
use Rattle.pw_signalling.specs.declared.told.Told.{Told}
use Rattle.pw_signalling.specs.End.{EndState, LocalPart, Idle, Advertised, Withdrawing}
use Rattle.pw_messages.specs.Content.{params_of}
use Rattle.edge_model.specs.EndPlaces.{is_terminal}
use Rattle.edge_model.specs.Mend.{is_up_with}
use Rattle.edge_model.specs.State.{EdgeState}
use Rattle.flight_laws.specs.Binding.{is_unasked}
use Rattle.flight_laws.specs.Messages.{HaveOctets}

-- a label, and a content whose FEC can be written without its parameters
pub record CanBeMapped (label : ℕ) (told : Told) : Type 0 where
  pub is_label : IsLabel label
  pub kind : told.kind ≤ 0x7FFF
  pub group : told.group < 2 ^ 32

-- a content that a Label Mapping can have: its numbers fit their fields, what is written of it is octets, and it has at most so
-- many points
pub record IsSoundTold (limit : ℕ) (told : Told) : Type 0 where
  pub kind : told.kind ≤ 0x7FFF
  pub group : told.group < 2 ^ 32
  pub mtu : IfSome told.mtu (λ mtu. mtu < 2 ^ 16)
  pub description : length told.description ≤ 80
  pub vlan : has_vlan told.vlan ≡ true
  pub octets : AreOctets (written_parameters (params_of told))
  pub status : IsState told.status
  pub few : length told.points ≤ limit
  pub points : AllByRecursion IsPointInRange told.points
  pub point_octets : HaveOctets (point_tlvs told.points)

-- what an end advertises can be put into a mapping, and the label that it withdraws is one
abbrev pub IsSoundPart : LocalPart → Type 0
IsSoundPart (Idle declined) = Unit {0}
IsSoundPart (Advertised label told) = CanBeMapped label told
IsSoundPart (Withdrawing label) = IsLabel label

-- what an end holds, where it holds a binding
abbrev pub IsSoundHeld : ℕ → Option Binding → Type 0
IsSoundHeld limit None = Unit {0}
IsSoundHeld limit (Some binding) = IsSoundTold limit binding.told

-- an end beside a peer, with which the session is up or not: it has told and holds something only where it is up, and what it holds
-- has at most so many points
abbrev pub IsSoundEnd : ℕ → Bool → EndState → Type 0
IsSoundEnd limit true e = IsSoundPart e.local × IsSoundHeld limit e.remote
IsSoundEnd limit false e = (is_unasked e.local ≡ true) × (e.remote ≡ None)

-- the most points that an edge takes of a wire: a switching point adds its own one to at most two (RFC 6073 section 7.6)
abbrev pub limit_of : EdgeId → Option WirePlan → ℕ
limit_of me None = 3
limit_of me (Some row) = if is_terminal row me then 3 else 2

abbrev pub point_limit : Plan → ℕ → ℕ → ℕ
point_limit plan me wire = limit_of (record { 0 = me }) (wire_row plan (record { 0 = wire }))

-- the next label is one, or none is left; so is each number that is kept; the failure bits are those of RFC 4446 section 3.5; and the ends are sound, with at most
-- so many points by wire
pub record TellsSoundly (limit : ℕ → ℕ) (edge : EdgeState) : Type 0 where
  pub least : 16 ≤ edge.next_label
  pub most : edge.next_label ≤ numbers_end
  pub kept : (label : ℕ) → kept_at label edge.kept ≢ None → IsLabel label
  pub bits : (wire : ℕ) → edge.bits wire ≤ 31
  pub ends : (wire peer : ℕ) → IsSoundEnd (limit wire) (is_up_with (edge.peering peer)) (edge.ends wire peer)
