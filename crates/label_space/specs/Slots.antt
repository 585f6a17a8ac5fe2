-- The slots of the owners, and the map from labels to their slots.
use Rattle.std.specs.Prelude.{◌≡◌, ℕ, Bool, true, false, nat_eq, List, [], Some, IsSome}
use Rattle.std.specs.List.{find}
use Rattle.std.specs.Option.{option_and_then}
use Rattle.indexmap.specs.IndexMap as map
use Rattle.slab.specs.Slab as slab
use Rattle.label_space.specs.declared.owner.Owner.{Owner}
use Rattle.label_space.specs.Labels.{owns}

-- the values of the slots are exactly the owners, each once
pub record AreSlotsOf (slots : slab.Slab Owner) (owners : List Owner) : Type 0 where
  -- what stands in a slot is an owner
  pub owned : (slot : ℕ) (owner : Owner) → slab.get slots slot ≡ Some owner → find (owns owner.label) owners ≡ Some owner
  -- each owner stands in a slot
  pub kept : (label : ℕ) (owner : Owner) → find (owns label) owners ≡ Some owner → (slot : ℕ) × (slab.get slots slot ≡ Some owner)
  -- and in one alone
  pub once : (slot other : ℕ) (owner : Owner) → slab.get slots slot ≡ Some owner → slab.get slots other ≡ Some owner → slot ≡ other

-- the map gives the label of each owner its slot, and no other label
pub record AreLabelSlots {S : Type 0} (slots : slab.Slab Owner) (index : map.IndexMap ℕ ℕ S) (owners : List Owner) : Type 0 where
  pub finds : (label : ℕ) → option_and_then (slab.get slots) (map.get nat_eq index label) ≡ find (owns label) owners
  pub filled : (label slot : ℕ) → map.get nat_eq index label ≡ Some slot → IsSome (slab.get slots slot)
  pub back : (slot : ℕ) (owner : Owner) → slab.get slots slot ≡ Some owner → map.get nat_eq index owner.label ≡ Some slot

-- as long as the map is asked it gives the labels their slots; else there is no slot
abbrev pub IsLabelIndex : {S : Type 0} → Bool → slab.Slab Owner → map.IndexMap ℕ ℕ S → List Owner → Type 0
IsLabelIndex true slots index owners = AreLabelSlots slots index owners
IsLabelIndex false slots index owners = slots.slots ≡ []
