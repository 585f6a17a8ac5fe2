-- What always holds of the pseudowire ends of an edge.
use Rattle.std.specs.Prelude.{◌≡◌, ◌≢◌, ◌≤◌, ◌+◌, ℕ, Bool, false, List, [], ◌∷◌, Option, Some, None, length, map, position}
use Rattle.std.specs.List.{AllByRecursion, find}
use Rattle.net_base.specs.declared.plan.places.SegKey.{SegKey}
use Rattle.label_space.specs.declared.owner.Owner.{Owner}
use Rattle.label_space.specs.Labels.{LabelNumbers, freed, owner_of, owns}
use Rattle.label_space.specs.Laws.{AreLabelsApart as AreNumbersApart}
use Rattle.pw_signalling.specs.End.{EndState, fresh}
use Rattle.pw_signalling.specs.Laws.{own_label}
use Rattle.edge_model.specs.declared.end_place.EndPlace.{EndPlace}
use Rattle.edge_model.specs.EndPlaces.{is_at}
use Rattle.edge_model.specs.Labels.{owner_at}
use Rattle.pw_ends.specs.Ends.{HasKind, Holds, is_label}
use Rattle.pw_ends.specs.Owned.{OwnedList, slot_of}

-- no two places are of one wire and beside one neighbour
abbrev pub AreApart : List EndPlace → Type 0
AreApart [] = Unit {0}
AreApart (place ∷ places) = AllByRecursion (λ other. is_at other.wire.0 other.peer.0 place ≡ false) places × AreApart places

-- the label that an end owns
abbrev pub own_of : EndState → Option ℕ
own_of end = own_label end.local

-- a label is owned in the label space
abbrev pub IsOwned : List Owner → Option ℕ → Type 0
IsOwned owners None = Unit {0}
IsOwned owners (Some label) = owner_of label owners ≢ None

-- the segment that an end belongs to
abbrev pub segment_of : EndPlace → SegKey
segment_of place = record { wire = place.wire; segment = place.segment }

-- the label space says that the end at a place owns the label: the end at that side of that segment, for the neighbour beside it
abbrev pub IsOwner : List Owner → EndPlace → Option ℕ → Type 0
IsOwner owners place None = Unit {0}
IsOwner owners place (Some label) = find (owns label) owners ≡ Some (owner_at place label)

-- so it is of each end
abbrev pub AreOwners : List Owner → List EndPlace → List (Option ℕ) → Type 0
AreOwners owners [] owns = Unit {0}
AreOwners owners (place ∷ places) [] = Unit {0}
AreOwners owners (place ∷ places) (own ∷ others) = IsOwner owners place own × AreOwners owners places others

-- each end holds what can be told on
abbrev pub AreHolding : List EndPlace → List EndState → Type 0
AreHolding [] ends = Unit {0}
AreHolding (place ∷ places) [] = Unit {0}
AreHolding (place ∷ places) (end ∷ ends) = Holds place end.remote × AreHolding places ends

-- two ends own no label both
abbrev pub Differ : Option ℕ → Option ℕ → Type 0
Differ None other = Unit {0}
Differ (Some label) None = Unit {0}
Differ (Some label) (Some other) = label ≢ other

-- no two ends own one label
abbrev pub OwnApart : List (Option ℕ) → Type 0
OwnApart [] = Unit {0}
OwnApart (own ∷ others) = AllByRecursion (Differ own) others × OwnApart others

-- how many ends own a label
abbrev pub one_owned : Option ℕ → ℕ
one_owned None = 0
one_owned (Some label) = 1

abbrev pub count_owned : List (Option ℕ) → ℕ
count_owned [] = 0
count_owned (own ∷ others) = one_owned own + count_owned others

-- what the ends own is owned in the label space, each label by one end, and nothing else is; no label that is owned is kept to be given
-- again
pub record OwnTheirs (owns : List (Option ℕ)) (labels : LabelNumbers) : Type 0 where
  pub owned : AllByRecursion (IsOwned labels.owners) owns
  pub apart : OwnApart owns
  pub few : length labels.owners ≤ count_owned owns
  pub numbers : AreNumbersApart labels

-- the labels of the label space, each with the slot of the end that owns it
pub record IsOwnerIndex (owns : List (Option ℕ)) (labels : LabelNumbers) (index : OwnedList) : Type 0 where
  pub room : index.room ≡ labels.room
  pub same : map (λ o. o.label) index.labels ≡ map (λ o. o.label) labels.owners
  pub slot : (label : ℕ) → slot_of label index.labels ≡ position (is_label label) owns

-- each end has a place of its own, the label space has room for as many labels, and the ends own its labels, by which they are
-- found; the label space has each of them as the label of the end's own segment and side
pub record AreKept (places : List EndPlace) (ends : List EndState) (labels : LabelNumbers) (index : OwnedList) : Type 0 where
  pub count : length ends ≡ length places
  pub apart : AreApart places
  pub room : labels.room ≡ length places
  pub owns : OwnTheirs (map own_of ends) labels
  pub owners : AreOwners labels.owners places (map own_of ends)
  pub kinds : AllByRecursion (λ end. HasKind end.local) ends
  pub slots : IsOwnerIndex (map own_of ends) labels index
  pub holds : AreHolding places ends

-- nothing was told of an end beside a neighbour that has no mark
abbrev pub AreUntold : (ℕ → Bool) → List EndPlace → List EndState → Type 0
AreUntold marks [] ends = Unit {0}
AreUntold marks (place ∷ places) [] = Unit {0}
AreUntold marks (place ∷ places) (end ∷ ends) = (marks place.peer.0 ≡ false → end ≡ fresh) × AreUntold marks places ends

-- the ends are kept, and beside each neighbour of which something was told there is a mark
pub record AreMarked (places : List EndPlace) (ends : List EndState) (labels : LabelNumbers) (index : OwnedList) (marks : ℕ → Bool) : Type 0 where
  pub kept : AreKept places ends labels index
  pub untold : AreUntold marks places ends

-- the label that an end has left is freed
abbrev pub freed_one : Option ℕ → LabelNumbers → LabelNumbers
freed_one None labels = labels
freed_one (Some label) labels = freed label labels
