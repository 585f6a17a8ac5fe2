-- Sources of frames, one frame after the other.
use Rattle.std.proofs.Common.{Ordering, ◌≡◌, ◌==◌, ◌&&◌, ◌||◌, ◌++◌, ◌∷◌, ◌∙◌, [], ℕ, Bool, true, false, List, cond, nat_lt, refl, ap, ap₂, sym}
use Rattle.std.proofs.lemmas.Map.Text.{is_eq-slice_cmp}
use Rattle.std.specs.BTreeMap.{is_at}
use Rattle.std.specs.Cmp.Lexicographic.{slice_cmp}
use Rattle.std.specs.Ordering.{is_eq, nat_cmp, ordering_then}
use Rattle.std.specs.declared.cmp.Ordering.TheVariants.{Less, Equal, Greater}
use Rattle.net_values.proofs.NumberLemmas.{less_apart}
use Rattle.std.specs.List.{list_any}
use Rattle.std.specs.Str.{bytes_eq}
use Rattle.net_base.specs.declared.plan.Plan.{Plan}
use Rattle.net_base.specs.declared.plan.places.CircuitId.{CircuitId}
use Rattle.net_base.specs.declared.plan.places.ServiceId.{ServiceId}
use Rattle.net_base.specs.declared.trace.entry.Entry.{Entry}
use Rattle.net_base.specs.declared.trace.entry.Entry.TheVariants.{In}
use Rattle.net_values.specs.declared.mac.Mac.{Mac}
use Rattle.seen_network.specs.Once.{is_sourced_by}
use Rattle.window_audit.specs.Sources.{HasEnteredOnce, HasSources, comes_from, has_source}
use Rattle.window_audit.specs.declared.source.Source.{Source}

pub any_more : (test : Entry → Bool) (es : List Entry) (e : Entry) → list_any test (es ++ e ∷ []) ≡ list_any test es || test e
any_more test [] e = or_none (test e) where
  or_none : (b : Bool) → b || false ≡ b
  or_none true = refl
  or_none false = refl
any_more test (x ∷ xs) e = by (test x) (any_more test xs e) where
  by : (b : Bool) → list_any test (xs ++ e ∷ []) ≡ list_any test xs || test e → b || list_any test (xs ++ e ∷ []) ≡ (b || list_any test xs) || test e
  by true is = refl
  by false is = is

or_false : (b c : Bool) → c ≡ false → b ≡ b || c
or_false true c is = refl
or_false false c is = sym is

-- ---- the order of sources

abbrev pub source_order : Source → Source → Ordering
source_order a b = ordering_then (nat_cmp a.service b.service) (slice_cmp nat_cmp a.address.0 b.address.0)

number_at : (a b : ℕ) → is_eq (nat_cmp a b) ≡ (a == b)
number_at a b = by (nat_lt a b) (a == b) (less_apart a b) where
  by : (l e : Bool) → (l ≡ true → e ≡ false) → is_eq (cond l Less (cond e Equal Greater)) ≡ e
  by true e apart = sym (apart refl)
  by false true apart = refl
  by false false apart = refl

both_at : (o p : Ordering) → is_eq (ordering_then o p) ≡ is_eq o && is_eq p
both_at Less p = refl
both_at Equal p = refl
both_at Greater p = refl

-- a source stands where the other one does where they are the same
source_at : (a b : Source) → is_eq (source_order a b) ≡ a.service == b.service && bytes_eq a.address.0 b.address.0
source_at a b =
    both_at (nat_cmp a.service b.service) (slice_cmp nat_cmp a.address.0 b.address.0)
    ∙ ap₂ (λ (x y : Bool). x && y) (number_at a.service b.service) (is_eq-slice_cmp a.address.0 b.address.0)

pub found_source : (sources : List Source) (s : Source) → list_any (is_at (source_order s)) sources ≡ has_source sources s.service s.address.0
found_source [] s = refl
found_source (x ∷ xs) s = ap₂ (λ (a b : Bool). a || b) (source_at s x) (found_source xs s)

pub put_one : (old new : List Source) (s : Source)
    → ((q : Source) → list_any (is_at (source_order q)) new ≡ cond (is_at (source_order s) q) true (list_any (is_at (source_order q)) old))
    → (other : ServiceId) (address : Mac) → has_source new other.0 address.0 ≡ cond (s.service == other.0 && bytes_eq s.address.0 address.0) true (has_source old other.0 address.0)
put_one old new s put other address =
    let q : Source = record { service = other.0; address = address } in
    sym (found_source new q) ∙ (put q ∙ ap₂ (λ (a b : Bool). cond a true b) (source_at s q) (found_source old q))

pub told_in : (plan : Plan) (circuit : CircuitId) (number : ℕ) (octets : List ℕ) (old new : List Source) (trace : List Entry) → HasEnteredOnce plan circuit octets old new → HasSources plan old trace
    → HasSources plan new (trace ++ In circuit number octets ∷ [])
told_in plan circuit number octets old new trace entered has = λ service address six.
    entered service address six
    ∙ (ap (λ (b : Bool). b || comes_from plan circuit octets service address.0) (has service address six)
    ∙ sym (any_more (is_sourced_by plan service address.0) trace (In circuit number octets)))

pub told_other : (plan : Plan) (e : Entry) (sources : List Source) (trace : List Entry) → ((service : ServiceId) (address : List ℕ) → is_sourced_by plan service address e ≡ false)
    → HasSources plan sources trace
    → HasSources plan sources (trace ++ e ∷ [])
told_other plan e sources trace none has = λ service address six.
    has service address six
    ∙ (or_false (list_any (is_sourced_by plan service address.0) trace) (is_sourced_by plan service address.0 e) (none service address.0)
    ∙ sym (any_more (is_sourced_by plan service address.0) trace e))
