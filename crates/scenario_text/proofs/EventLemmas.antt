-- The array of events that is taken out of a document is the one among its arrays.
use Rattle.std.proofs.Common.{◌≡◌, ◌∙◌, ◌≤◌, nat_le, codes, ℕ, Bool, true, false, List, [], Option, Some, None, Result, Ok, Err, IfOk, IfSome, IfNone, length, option_map, refl, sym, ap, subst, leb-true}
use Rattle.toml.specs.Data.{Items, no_items, Members, as_array, get_member}
use Rattle.toml.specs.View.{view, items_view}
use Rattle.toml.specs.declared.value.Value.{Value}
use Rattle.net_base.specs.declared.plan.place.Place.{Place}
use Rattle.net_base.specs.declared.plan.table.Table.TheVariants.{Top, Events, Edge, Service, Group, Circuit, Wire}
use Rattle.command_text.specs.declared.scenario_fault.ScenarioFault.{ScenarioFault}
use Rattle.command_text.specs.declared.scenario_fault.ScenarioFault.TheVariants.{WrongKind, TooMany}
use Rattle.command_text.specs.Reading.{◌>>=◌, checked, found}
use Rattle.command_text.specs.Events.{most_events}
use Rattle.command_text.specs.Places.{place_of_key, top_row}
use Rattle.scenario_text.specs.declared.document_version.DocumentVersion.{DocumentVersion}
use Rattle.scenario_text.specs.Values.{all_items, an_array, is_string, needed, defaulted, read_or}
use Rattle.scenario_text.specs.Rows.{items_length}
use Rattle.scenario_text.specs.Top.{Arrays, a_version, is_table, most_edges, most_services, most_groups, most_circuits, most_wires, few, groups_at, arrays_at, arrays_in, few_in}
use Rattle.scenario_text.specs.Keys.{only_known}
use Rattle.scenario_text.proofs.RowLemmas.{items_length_view}

-- what holds of one answer, and else of another, holds of what is read in steps
mapped : {A : Type 0} (r : Result A ScenarioFault) (P Q : A → Type 0) → ((x : A) → P x → Q x) → IfOk r P → IfOk r Q
mapped (Ok x) P Q f h = f x h
mapped (Err e) P Q f h = tt

same_of : (x y : Items) → ◌≡◌ {A = Result Items ScenarioFault} (Ok x) (Ok y) → x ≡ y
same_of x y e = cc

-- these are what stands at the key of the events, and not too many
abbrev StandAt : Members → Arrays → Type 0
StandAt ms arrays = defaulted no_items (an_array is_string) top_row (codes "events") ms ≡ Ok arrays.events

abbrev AreFew : Arrays → Type 0
AreFew arrays = items_length arrays.events ≤ most_events

abbrev AreFound : Members → Arrays → Type 0
AreFound ms arrays = StandAt ms arrays × AreFew arrays

stand_in : (version : DocumentVersion) (events edges services groups circuits wires : Result Items ScenarioFault)
    → IfOk (events >>= (λ a. edges >>= (λ b. services >>=
    (λ c. groups >>= (λ g. circuits >>= (λ d. wires >>= (λ e. Ok (record { version = version; events = a; edges = b; services = c; groups = g; circuits = d; wires = e }))))))))
    (λ (arrays : Arrays). events ≡ Ok arrays.events)
stand_in version (Err f) edges services groups circuits wires = tt
stand_in version (Ok a) (Err f) services groups circuits wires = tt
stand_in version (Ok a) (Ok b) (Err f) groups circuits wires = tt
stand_in version (Ok a) (Ok b) (Ok c) (Err f) circuits wires = tt
stand_in version (Ok a) (Ok b) (Ok c) (Ok g) (Err f) wires = tt
stand_in version (Ok a) (Ok b) (Ok c) (Ok g) (Ok d) (Err f) = tt
stand_in version (Ok a) (Ok b) (Ok c) (Ok g) (Ok d) (Ok e) = refl

stand_at : (version : DocumentVersion) (ms : Members) → IfOk (arrays_at version ms) (StandAt ms)
unfolding arrays_at
stand_at version ms =
    stand_in version (defaulted no_items (an_array is_string) top_row (codes "events") ms) (defaulted no_items (an_array is_table) top_row (codes "edge") ms)
    (defaulted no_items (an_array is_table) top_row (codes "service") ms) (groups_at version ms) (defaulted no_items (an_array is_table) top_row (codes "circuit") ms)
    (defaulted no_items (an_array is_table) top_row (codes "wire") ms)

few_first : (test : Bool) (fault : ScenarioFault) (rest : Result Bool ScenarioFault) → IfOk (checked fault test >>= (λ few. rest)) (λ _. test ≡ true)
few_first true fault (Ok b) = refl
few_first true fault (Err e) = tt
few_first false fault rest = tt

are_few : (arrays : Arrays) → IfOk (few_in arrays) (λ _. AreFew arrays)
unfolding few_in
are_few arrays =
    mapped (few_in arrays) (λ _. nat_le (items_length arrays.events) most_events ≡ true) (λ _. AreFew arrays) (λ b is. leb-true (items_length arrays.events) most_events is)
    (few_first (nat_le (items_length arrays.events) most_events) (TooMany Events most_events)
    (few most_edges Edge arrays.edges >>= (λ edges. few most_services Service arrays.services >>=
    (λ services. few most_groups Group arrays.groups >>= (λ groups. few most_circuits Circuit arrays.circuits >>= (λ circuits. few most_wires Wire arrays.wires))))))

are_in : (version : Result DocumentVersion ScenarioFault) (read : DocumentVersion → Result Arrays ScenarioFault) (known : DocumentVersion → Result Bool ScenarioFault) (limits : Arrays → Result Bool ScenarioFault)
    (P Q : Arrays → Type 0) → ((v : DocumentVersion) → IfOk (read v) P) → ((arrays : Arrays) → IfOk (limits arrays) (λ _. Q arrays))
    → IfOk (version >>= (λ v. read v >>= (λ arrays. known v >>= (λ k. limits arrays >>= (λ few. Ok arrays))))) (λ arrays. P arrays × Q arrays)
are_in (Err e) read known limits P Q p q = tt
are_in (Ok v) read known limits P Q p q = of_read (read v) (p v)
  where
    of_limits : (arrays : Arrays) (r : Result Bool ScenarioFault) → P arrays → IfOk r (λ _. Q arrays) → IfOk (r >>= (λ few. Ok arrays)) (λ a. P a × Q a)
    of_limits arrays (Ok b) is h = (is, h)
    of_limits arrays (Err e) is h = tt

    of_known : (arrays : Arrays) (k : Result Bool ScenarioFault) → P arrays → IfOk (k >>= (λ _. limits arrays >>= (λ few. Ok arrays))) (λ a. P a × Q a)
    of_known arrays (Ok b) is = of_limits arrays (limits arrays) is (q arrays)
    of_known arrays (Err e) is = tt

    of_read : (r : Result Arrays ScenarioFault) → IfOk r P → IfOk (r >>= (λ arrays. known v >>= (λ k. limits arrays >>= (λ few. Ok arrays)))) (λ a. P a × Q a)
    of_read (Ok arrays) is = of_known arrays (known v) is
    of_read (Err e) is = tt

are_found : (ms : Members) → IfOk (arrays_in ms) (AreFound ms)
unfolding arrays_in
are_found ms = are_in (needed a_version top_row (codes "version") ms) (λ v. arrays_at v ms) (λ v. only_known v Top top_row ms) few_in (StandAt ms) AreFew (λ v. stand_at v ms) are_few

of_test : (place : Place) (test : Bool) (items xs : Items) → (checked (WrongKind place) test >>= (λ all. Ok items)) ≡ Ok xs → items ≡ xs
of_test place true items xs is = same_of items xs is
of_test place false items xs is = absurd (cc)

of_array : (place : Place) (array : Option Items) (events : List Value) (xs : Items) → IfSome array (λ items. items_view events ≡ items)
    → (found (WrongKind place) array >>= (λ items. checked (WrongKind place) (all_items is_string items) >>= (λ all. Ok items))) ≡ Ok xs → items_view events ≡ xs
of_array place None events xs same is = absurd (cc)
of_array place (Some items) events xs same is = same ∙ of_test place (all_items is_string items) items xs is

of_value : (place : Place) (value : Option Value) (events : List Value) (xs : Items) → IfSome value (λ v. IfSome (as_array (view v)) (λ items. items_view events ≡ items)) → IfNone value (events ≡ [])
    → read_or no_items (an_array is_string place) (option_map view value) ≡ Ok xs → items_view events ≡ xs
of_value place None events xs array none is = ap items_view none ∙ same_of no_items xs is
of_value place (Some v) events xs array none is = of_array place (as_array (view v)) events xs array is

abbrev pub IsItems : Option Value → List Value → Type 0
IsItems value events = IfSome value (λ v. IfSome (as_array (view v)) (λ items. items_view events ≡ items))

of_found : (ms : Members) (value : Option Value) (events : List Value) → option_map view value ≡ get_member (codes "events") ms → IsItems value events → IfNone value (events ≡ [])
    → (arrays : Arrays) → AreFound ms arrays → items_view events ≡ arrays.events
of_found ms value events at array none arrays are =
    of_value (place_of_key top_row (codes "events")) value events arrays.events array none (ap (λ d. read_or no_items (an_array is_string (place_of_key top_row (codes "events"))) d) at ∙ are.0)

-- the items of what stands at the key are the events among the arrays
pub taken_events : (ms : Members) (value : Option Value) (events : List Value) → option_map view value ≡ get_member (codes "events") ms → IsItems value events → IfNone value (events ≡ [])
    → IfOk (arrays_in ms) (λ arrays. items_view events ≡ arrays.events)
taken_events ms value events at array none = mapped (arrays_in ms) (AreFound ms) (λ arrays. items_view events ≡ arrays.events) (of_found ms value events at array none) (are_found ms)

-- and they are not too many
pub few_events : (ms : Members) (value : Option Value) (events : List Value) → option_map view value ≡ get_member (codes "events") ms → IsItems value events → IfNone value (events ≡ [])
    → IfOk (arrays_in ms) (λ _. length events ≤ most_events)
few_events ms value events at array none =
    mapped (arrays_in ms) (AreFound ms) (λ _. length events ≤ most_events) (λ arrays are.
    subst (λ (n : ℕ). n ≤ most_events) (ap items_length (sym (of_found ms value events at array none arrays are)) ∙ items_length_view events) are.1) (are_found ms)
