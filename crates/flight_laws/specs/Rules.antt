-- What holds of every label and of every content that is told, wherever it is: at the edge that gave it, on its way, and at the
-- neighbour that holds it.
use Rattle.std.specs.Prelude.{◌≡◌, ◌≤◌, ◌<◌, ◌==◌, map, ℕ, Bool, true, false, List, [], ◌∷◌, Option, Some, None, is_some}
use Rattle.net_base.specs.declared.plan.Plan.{Plan}
use Rattle.net_base.specs.declared.plan.places.WireId.{WireId}
use Rattle.net_base.specs.declared.plan.wire_plan.WirePlan.{WirePlan}
use Rattle.net_base.specs.plan.Paths.{Expected, PassedPoint, expected, joins}
use Rattle.net_base.specs.plan.Places.{wire_row}
use Rattle.label_space.specs.declared.kept.KeptState.{KeptState}
use Rattle.label_space.specs.declared.kept.KeptState.TheVariants.{Waits, Rests, Free}
use Rattle.label_space.specs.Kept.{kept_at}
use Rattle.pw_tlvs.specs.declared.point.Point.{Point}
use Rattle.pw_tlvs.specs.declared.pw_fec.PwFec.{PwFec}
use Rattle.pw_tlvs.specs.declared.pw_status.PwStatus.{PwStatus}
use Rattle.ldp_grammar.specs.declared.message.Message.{Message}
use Rattle.ldp_grammar.specs.declared.message.Message.TheVariants.{Notification, AddressWithdraw, LabelMapping, LabelWithdraw, LabelRelease}
use Rattle.pw_signalling.specs.declared.binding.Binding.{Binding}
use Rattle.pw_signalling.specs.declared.told.Told.{Told}
use Rattle.pw_signalling.specs.End.{LocalPart, Idle, Advertised, Withdrawing}
use Rattle.pw_messages.specs.Content.{bare_fec_of, content_of, told_with}
use Rattle.edge_model.specs.declared.end_place.EndPlace.{EndPlace}
use Rattle.edge_model.specs.Signal.{end_of_fec}
use Rattle.edge_model.specs.State.{EdgeState}

-- each message is as it should be
abbrev pub AllMessages : (Message → Type 0) → List Message → Type 0
AllMessages P [] = Unit {0}
AllMessages P (message ∷ messages) = P message × AllMessages P messages

-- ---- labels

-- an end owns its label from the advertisement until it is idle
abbrev pub part_owns : LocalPart → ℕ → Bool
part_owns (Idle declined) label = false
part_owns (Advertised own told) label = own == label
part_owns (Withdrawing own) label = own == label

-- a packet of this age, and nothing else, may have been sent before a number began to rest
abbrev pub IsAsOld : Option ℕ → ℕ → Type 0
IsAsOld None ticks = ⊥
IsAsOld (Some age) ticks = ticks ≤ age

-- what a number that is kept may be named by: while it waits, by what concerns the neighbour that it waits for; while it rests, by a packet
-- that is as old; once it is free, by nothing
abbrev pub MayBeKept : ℕ → Option ℕ → Option KeptState → Type 0
MayBeKept peer age None = Unit {0}
MayBeKept peer age (Some (Waits k)) = k.0 ≡ peer
MayBeKept peer age (Some (Rests ticks)) = IsAsOld age ticks
MayBeKept peer age (Some Free) = ⊥

-- a label of this edge may be named with its end of a wire beside a peer, on a packet of this age or elsewhere: it was given before, no
-- other end owns it, and it is not free to be given again
pub record MayBeNamed (edge : EdgeState) (wire peer : ℕ) (age : Option ℕ) (label : ℕ) : Type 0 where
  pub below : label < edge.next_label
  pub owner : (w k : ℕ) → part_owns (edge.ends w k).local label ≡ true → (w ≡ wire) × (k ≡ peer)
  pub kept : MayBeKept peer age (kept_at label edge.kept)

-- elsewhere than on a packet
abbrev pub MayName : EdgeState → ℕ → ℕ → ℕ → Type 0
MayName edge wire peer label = MayBeNamed edge wire peer None label

-- on a packet of this age
abbrev pub MayCarry : EdgeState → ℕ → ℕ → ℕ → ℕ → Type 0
MayCarry edge wire peer age label = MayBeNamed edge wire peer (Some age) label

-- at the end that is named, where there is one
abbrev pub MayNameAt : EdgeState → ℕ → Option EndPlace → ℕ → Type 0
MayNameAt edge peer None label = ⊥
MayNameAt edge peer (Some place) label = MayName edge place.wire.0 peer label

-- the labels of its sender that a message names, on its way to a peer
abbrev pub NamesOwn : Plan → EdgeState → ℕ → Message → Type 0
NamesOwn plan sender peer (LabelMapping id fec label status points) = MayNameAt sender peer (end_of_fec plan sender (record { 0 = peer }) fec) label
NamesOwn plan sender peer (LabelWithdraw id fec (Some label)) = MayNameAt sender peer (end_of_fec plan sender (record { 0 = peer }) fec) label
NamesOwn plan sender peer message = Unit {0}

-- the labels of its receiver that a message names, on its way from a peer
abbrev pub NamesFar : Plan → EdgeState → ℕ → Message → Type 0
NamesFar plan receiver peer (LabelRelease id fec (Some label)) = MayNameAt receiver peer (end_of_fec plan receiver (record { 0 = peer }) fec) label
NamesFar plan receiver peer message = Unit {0}

-- a binding names a label of the edge that is bound to
abbrev pub BindsGiven : EdgeState → ℕ → ℕ → Option Binding → Type 0
BindsGiven edge wire peer None = Unit {0}
BindsGiven edge wire peer (Some binding) = MayName edge wire peer binding.label

-- what is on its way from an edge to a peer, and what the peer holds of it
pub record NamesGiven (plan : Plan) (a b : ℕ) (one other : EdgeState) (out : List Message) : Type 0 where
  pub own : AllMessages (NamesOwn plan one b) out
  pub far : AllMessages (NamesFar plan other a) out
  pub bound : (wire : ℕ) → BindsGiven one wire b (other.ends wire a).remote

-- each label that an end owns may be named with it: it was given before, and no other end owns it
abbrev pub OwnsItsLabels : EdgeState → Type 0
OwnsItsLabels edge = (wire peer label : ℕ) → part_owns (edge.ends wire peer).local label ≡ true → MayName edge wire peer label

-- ---- told contents

-- a passed point as it is told
abbrev pub point_of : PassedPoint → Point
point_of passed = record { pw_id = Some passed.pw_id; local = passed.local; remote = passed.remote }

-- what is expected to be told, with a status or without one
abbrev pub expected_told : Expected → Option PwStatus → Told
expected_told e status = record (content_of e.offer status) { points = map point_of e.points }

-- it tells what the plan has one edge tell another one of a wire, and a status where the offer has one
pub record TellsExpected (plan : Plan) (row : WirePlan) (from to : ℕ) (told : Told) : Type 0 where
  pub content : told ≡ expected_told (expected plan row from to) told.status
  pub carries : is_some told.status ≡ (expected plan row from to).offer.status

-- of the wire that a FEC names, whose segment joins the two edges
pub record TellsOfWire (plan : Plan) (from to : ℕ) (fec : PwFec) (told : Told) : Type 0 where
  pub wire : WireId
  pub row : WirePlan
  pub is : wire_row plan wire ≡ Some row
  pub joined : joins from to row.path ≡ true
  pub named : fec.pw_id ≡ Some row.pw_id
  pub tells : TellsExpected plan row from to told

-- a FEC without parameters, of a wire of which an edge tells another one
pub record NamesTold (plan : Plan) (from to : ℕ) (fec : PwFec) : Type 0 where
  pub wire : WireId
  pub row : WirePlan
  pub is : wire_row plan wire ≡ Some row
  pub joined : joins from to row.path ≡ true
  pub bare : fec ≡ bare_fec_of row.pw_id (expected_told (expected plan row from to) None)

-- a message tells, on its way from an edge to a peer, what the plan has them tell
abbrev pub TellsPlan : Plan → ℕ → ℕ → Message → Type 0
TellsPlan plan from to (LabelMapping id fec label status points) = TellsOfWire plan from to fec (told_with fec status points)
TellsPlan plan from to (LabelWithdraw id fec label) = NamesTold plan from to fec
TellsPlan plan from to (LabelRelease id fec label) = NamesTold plan to from fec
TellsPlan plan from to (Notification id code status (Some fec)) = NamesTold plan from to fec
TellsPlan plan from to (AddressWithdraw id addresses (Some fec) macs) = NamesTold plan from to fec
TellsPlan plan from to message = Unit {0}

-- an end that advertises tells it
abbrev pub NearTells : Plan → WirePlan → ℕ → ℕ → LocalPart → Type 0
NearTells plan row from to (Idle declined) = Unit {0}
NearTells plan row from to (Advertised label told) = TellsExpected plan row from to told
NearTells plan row from to (Withdrawing label) = Unit {0}

-- an end that holds a binding was told it
abbrev pub FarTells : Plan → WirePlan → ℕ → ℕ → Option Binding → Type 0
FarTells plan row from to None = Unit {0}
FarTells plan row from to (Some binding) = TellsExpected plan row from to binding.told

-- what an edge advertises to a peer, what is on its way to it, and what the peer holds
pub record TellsAsPlanned (plan : Plan) (a b : ℕ) (one other : EdgeState) (out : List Message) : Type 0 where
  pub near : (wire : WireId) (row : WirePlan) → wire_row plan wire ≡ Some row → joins a b row.path ≡ true → NearTells plan row a b (one.ends wire.0 b).local
  pub told : AllMessages (TellsPlan plan a b) out
  pub far : (wire : WireId) (row : WirePlan) → wire_row plan wire ≡ Some row → joins a b row.path ≡ true → FarTells plan row a b (other.ends wire.0 a).remote
