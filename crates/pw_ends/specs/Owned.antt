-- The labels that are owned, each with the slot of its end.
use Rattle.std.specs.Prelude.{◌≡◌, ◌≤◌, ◌==◌, not, nat_lt, ℕ, Bool, List, length, filter, Option, Some, None, option_map}
use Rattle.std.specs.List.{find}
use Rattle.label_space.specs.Kept.{AreRisingBy, put_by}
use Rattle.pw_ends.specs.declared.owned_labels.OwnedLabel.{OwnedLabel}

-- the most labels that are owned at once, and those that are, in rising order
pub record OwnedList : Type 0 where
  pub room : ℕ
  pub labels : List OwnedLabel

abbrev pub has_label : ℕ → OwnedLabel → Bool
has_label label owned = owned.label == label

-- the label itself
abbrev pub label_in : OwnedLabel → ℕ
label_in owned = owned.label

-- the label is smaller than the number
abbrev pub is_earlier : ℕ → OwnedLabel → Bool
is_earlier number owned = nat_lt owned.label number

-- the slot of the end that owns the label
abbrev pub slot_of : ℕ → List OwnedLabel → Option ℕ
slot_of label labels = option_map (λ owned. owned.slot) (find (has_label label) labels)

-- a label is owned by the end of a slot; it stands at its place among the others
abbrev pub with_owned_label : ℕ → ℕ → OwnedList → OwnedList
with_owned_label label slot owned = record owned { labels = put_by label_in (record { label = label; slot = slot }) owned.labels }

-- a label is owned no longer
abbrev pub without_owned : ℕ → OwnedList → OwnedList
without_owned label owned = record owned { labels = filter (λ o. not (has_label label o)) owned.labels }

-- the same of a label, where there is one
abbrev pub without_owned_one : Option ℕ → OwnedList → OwnedList
without_owned_one None owned = owned
without_owned_one (Some label) owned = without_owned label owned

-- the labels stand in rising order
abbrev pub AreRising : List OwnedLabel → Type 0
AreRising labels = AreRisingBy label_in 0 labels

-- the labels rise, and keep within their room, which is what was reserved
pub record IsOwnedList (room reserved : ℕ) (labels : List OwnedLabel) : Type 0 where
  pub within : length labels ≤ room
  pub has_room : room ≡ reserved
  pub rise : AreRising labels
