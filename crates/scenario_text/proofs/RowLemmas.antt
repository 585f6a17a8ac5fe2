-- The items of an array are its values.
use Rattle.std.proofs.Common.{◌≡◌, ◌&&◌, suc, Bool, List, [], ◌∷◌, length, refl, ap}
use Rattle.std.specs.List.{list_all}
use Rattle.toml.specs.Data.{Data}
use Rattle.toml.specs.View.{view, items_view}
use Rattle.toml.specs.declared.value.Value.{Value}
use Rattle.scenario_text.specs.Values.{all_items}
use Rattle.scenario_text.specs.Rows.{items_length}

pub items_length_view : (values : List Value) → items_length (items_view values) ≡ length values
items_length_view [] = refl
items_length_view (v ∷ vs) = ap (λ n. suc n) (items_length_view vs)

pub all_items_view : (test : Data → Bool) (values : List Value) → all_items test (items_view values) ≡ list_all (λ v. test (view v)) values
all_items_view test [] = refl
all_items_view test (v ∷ vs) = ap (λ b. test (view v) && b) (all_items_view test vs)
