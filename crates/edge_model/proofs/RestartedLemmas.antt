-- A restart keeps what was set at an edge.
use Rattle.std.proofs.Common.{◌≡◌, ◌∙◌, ℕ, List, [], ◌∷◌, Option, refl, ap}
use Rattle.label_space.specs.declared.kept.Kept.{Kept}
use Rattle.label_space.specs.declared.kept.KeptState.{KeptState}
use Rattle.label_space.specs.declared.owner.Owner.{Owner}
use Rattle.label_space.specs.Kept.{keeps}
use Rattle.label_space.specs.Labels.{AreDistinctLabels, AreUnkept, emptied, keeps_each}
use Rattle.label_space.proofs.LabelLemmas.{unkept_more}
use Rattle.pw_signalling.specs.End.{fresh}
use Rattle.edge_model.specs.declared.end_place.EndPlace.{EndPlace}
use Rattle.edge_model.specs.Connection.{restarted}
use Rattle.edge_model.specs.Labels.{keeps_owned, owners_of, unless_kept}
use Rattle.edge_model.specs.Restarted.{RestartsKeepSettings, label_numbers, label_owners}
use Rattle.edge_model.specs.State.{EdgeState, with_kept, with_learned, without_ends, without_peerings}
use Rattle.edge_model.specs.Work.{changes}

-- what is owned is not kept, so each number waits where there is room
pub keeps_owned_each : (owners : List Owner) (kept : List Kept) → AreDistinctLabels owners → AreUnkept kept owners → keeps_owned owners kept ≡ keeps_each owners kept
keeps_owned_each [] kept distinct unkept = refl
keeps_owned_each (o ∷ os) kept distinct unkept =
    ap (λ (r : Option KeptState). keeps_owned os (unless_kept r o.label o.peer kept)) unkept.0
    ∙ keeps_owned_each os (keeps o.label o.peer kept) distinct.1 (unkept_more o os kept distinct.0 unkept.0 unkept.1)

-- ends as before the first input own no label
fresh_owners : (places : List EndPlace) → owners_of (λ wire peer. fresh) places ≡ []
fresh_owners [] = refl
fresh_owners (place ∷ places) = fresh_owners places

numbers_restarted : (edge : EdgeState) (room : ℕ) → AreDistinctLabels (label_owners edge) → AreUnkept edge.kept (label_owners edge)
    → label_numbers room (restarted edge) ≡ emptied (label_numbers room edge)
unfolding with_learned without_ends without_peerings with_kept
numbers_restarted edge room distinct unkept =
    let owners : owners_of (λ wire peer. fresh) edge.places ≡ [] = fresh_owners edge.places in
    let kept : keeps_owned (label_owners edge) edge.kept ≡ keeps_each (label_owners edge) edge.kept = keeps_owned_each (label_owners edge) edge.kept distinct unkept in
    λ i. record { next = edge.next_label; room = room; owners = owners i; kept = kept i }

pub restarts_keep_settings : RestartsKeepSettings
unfolding changes with_learned without_ends without_peerings with_kept
restarts_keep_settings = record {
  place = λ edge. refl;
  places = λ edge. refl;
  circuits = λ edge circuit. refl;
  wires = λ edge wire. refl;
  bits = λ edge wire. refl;
  priorities = λ edge wire. refl;
  ticks = λ edge. refl;
  labels = λ edge room distinct unkept. numbers_restarted edge room distinct unkept;
  addresses = λ edge service. refl;
  connections = λ edge peer. refl;
  ends = λ edge wire peer. refl;
  told = λ edge wire. refl;
  choices = λ edge service. refl;
  messages = λ own other. refl;
  pings = λ edge wire. refl;
  input = λ work. refl;
}
