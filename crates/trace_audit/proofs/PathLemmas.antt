-- What is known of the frames that entered and left, and of the packets that were sent, is what the rules say of the trace.
use Rattle.std.proofs.Common.{◌≡◌, ◌+◌, ◌++◌, ◌&&◌, ◌||◌, ◌∙◌, ◌↔◌, not, ℕ, Bool, true, false, List, [], ◌∷◌, Option, Some, None, Result, Ok, Err, cond, nat_eq, refl, sym, ap, subst, append_assoc, append-nil, inl, inr}
use Rattle.std.proofs.lemmas.Bool.{eq-eqb, eqb-true, or_right, and_parts, or_left, not-false}
use Rattle.std.proofs.lemmas.Slice.Eq.{bytes_eq-Decides}
use Rattle.std.specs.List.{list_any}
use Rattle.std.specs.Str.{bytes_eq}
use Rattle.net_values.proofs.BoolLemmas.{clash, or_none}
use Rattle.net_values.proofs.RowLemmas.{same_octets}
use Rattle.net_base.specs.declared.plan.Plan.{Plan}
use Rattle.net_base.specs.declared.plan.places.CircuitId.{CircuitId}
use Rattle.net_base.specs.declared.plan.places.EdgeId.{EdgeId}
use Rattle.net_base.specs.declared.plan.places.ServiceId.{ServiceId}
use Rattle.net_base.specs.declared.plan.places.WireId.{WireId}
use Rattle.net_base.specs.declared.trace.arrival.Arrival.{Arrival}
use Rattle.net_base.specs.declared.trace.arrival.Arrival.TheVariants as arrival
use Rattle.net_base.specs.declared.trace.drop_cause.DropCause.{DropCause}
use Rattle.net_base.specs.declared.trace.entry.Entry.{Entry}
use Rattle.net_base.specs.declared.trace.entry.Entry.TheVariants as entry
use Rattle.net_base.specs.plan.Places.{is_mesh_wire, service_of}
use Rattle.net_base.specs.trace.Isolated.{Among, CameIn, Isolated, IsolatedAfter, IsolatedEntry, inner_at}
use Rattle.net_base.specs.trace.Split.{Split, SplitEntry, SplitSent, is_switching_point}
use Rattle.trace_audit.specs.Arrivals.{Entered, has_come, is_entered, with_came}
use Rattle.trace_audit.specs.Judged.{Judged, begun, came_after, crosses, entered_at, entered_in_service, first_line, has_one, inner_found, is_crossing, is_stray, judges, judges_all, ok_of, with_one}

-- ---- the frames that entered

abbrev entry_came : Plan → Entry → List Entered
entry_came plan e = came_after plan e []

pub came_list : Plan → List Entry → List Entered
came_list plan [] = []
came_list plan (e ∷ es) = entry_came plan e ++ came_list plan es

list-append : (plan : Plan) (xs : List Entry) (e : Entry) → came_list plan (xs ++ e ∷ []) ≡ came_list plan xs ++ entry_came plan e
unfolding came_list
list-append plan [] e = append-nil (entry_came plan e)
list-append plan (x ∷ xs) e = ap (λ (l : List Entered). entry_came plan x ++ l) (list-append plan xs e) ∙ sym (append_assoc (entry_came plan x) (came_list plan xs) (entry_came plan e))

any-append : {A : Type 0} (test : A → Bool) (xs ys : List A) → list_any test (xs ++ ys) ≡ (list_any test xs || list_any test ys)
any-append test [] ys = refl
any-append test (x ∷ xs) ys = by (test x) (any-append test xs ys) where
  by : (b : Bool) → list_any test (xs ++ ys) ≡ (list_any test xs || list_any test ys) → (b || list_any test (xs ++ ys)) ≡ ((b || list_any test xs) || list_any test ys)
  by true rest = refl
  by false rest = rest

-- two frames that are known to be the same are
pub entered_same : (a b : Entered) → is_entered a b ≡ true → a ≡ b
entered_same a b is =
    let first = and_parts (nat_eq a.number b.number) (nat_eq a.service b.service && bytes_eq a.frame b.frame) is in
    let second = and_parts (nat_eq a.service b.service) (bytes_eq a.frame b.frame) first.1 in
    λ i. record { number = eqb-true a.number b.number first.0 i; service = eqb-true a.service b.service second.0 i; frame = (bytes_eq-Decides a.frame b.frame).0 second.1 i }

pub entered_itself : (a : Entered) → is_entered a a ≡ true
entered_itself a = rw (eq-eqb a.number a.number refl, eq-eqb a.service a.service refl, same_octets a.frame) refl

-- a frame more is found, and none that was not there before
pub kept_found : (came : List Entered) (one other : Entered) → has_come (with_came came one) other ≡ (has_come came other || (is_entered other one || false))
kept_found came one other = by (has_come came one) refl where
  here : (b : Bool) → is_entered other one ≡ b → has_come came one ≡ true → has_come came other ≡ (has_come came other || (b || false))
  here true same there = let found : has_come came other ≡ true = subst (λ (x : Entered). has_come came x ≡ true) (sym (entered_same other one same)) there in rw found refl
  here false same there = or_none (has_come came other)

  by : (b : Bool) → has_come came one ≡ b → has_come (cond b came (came ++ one ∷ [])) other ≡ (has_come came other || (is_entered other one || false))
  by true there = here (is_entered other one) refl there
  by false there = any-append (is_entered other) came (one ∷ [])

one_found : (came : List Entered) (kept : Option Entered) (other : Entered) → has_come (with_one came kept) other ≡ (has_come came other || has_come (with_one [] kept) other)
one_found came None other = or_none (has_come came other)
one_found came (Some one) other = kept_found came one other

after_found : (plan : Plan) (e : Entry) (came : List Entered) (other : Entered) → has_come (came_after plan e came) other ≡ (has_come came other || has_come (entry_came plan e) other)
after_found plan (entry.Did event) came other = or_none (has_come came other)
after_found plan entry.Idle came other = or_none (has_come came other)
after_found plan (entry.Said from to octets) came other = or_none (has_come came other)
after_found plan (entry.In circuit number octets) came other = one_found came (entered_at plan circuit number octets) other
after_found plan (entry.Sent from to wire came' packet origin hops octets) came other = or_none (has_come came other)
after_found plan (entry.Copied packet of) came other = or_none (has_come came other)
after_found plan (entry.Aged packet) came other = or_none (has_come came other)
after_found plan (entry.Left circuit origin hops octets) came other = or_none (has_come came other)
after_found plan (entry.Dropped edge origin cause) came other = or_none (has_come came other)
after_found plan (entry.Session edge peer name) came other = or_none (has_come came other)
after_found plan (entry.Wire edge wire down) came other = or_none (has_come came other)
after_found plan (entry.Pong edge wire sequence) came other = or_none (has_come came other)

-- a frame with this number entered the service, and is this one
record HasCome (plan : Plan) (earlier : List Entry) (origin : ℕ) (service : ServiceId) (frame : List ℕ) : Type 0 where
  sender : CircuitId
  entered : List ℕ
  before : Among (entry.In sender origin entered) earlier
  of_service : service_of plan sender ≡ Some service
  as_entered : inner_at plan sender entered ≡ Ok frame

abbrev named : ℕ → ServiceId → List ℕ → Entered
named number service frame = record { number = number; service = service.0; frame = frame }

here_came : (plan : Plan) (circuit : CircuitId) (number : ℕ) (octets : List ℕ) (es : List Entry) (origin : ℕ) (service : ServiceId) (frame : List ℕ) (of : Option ServiceId) (inner : Result (List ℕ) DropCause)
    → service_of plan circuit ≡ of → inner_at plan circuit octets ≡ inner → has_come (with_one [] (entered_in_service number of (ok_of inner))) (named origin service frame) ≡ true
    → HasCome plan (entry.In circuit number octets ∷ es) origin service frame
here_came plan circuit number octets es origin service frame None inner is_of is_inner any = clash any
here_came plan circuit number octets es origin service frame (Some own) (Err why) is_of is_inner any = clash any
here_came plan circuit number octets es origin service frame (Some own) (Ok mine) is_of is_inner any = record {
  sender = circuit;
  entered = octets;
  before = inl (ap (λ (e : Entered). entry.In circuit e.number octets) same);
  of_service = is_of ∙ ap (λ (e : Entered). Some (record { 0 = e.service })) (sym same);
  as_entered = is_inner ∙ ap (λ (e : Entered). Ok e.frame) (sym same);
}
  where
    left : (b : Bool) → (b || false) ≡ true → b ≡ true
    left true e = refl
    left false e = e

    same : named origin service frame ≡ named number own mine
    same = entered_same (named origin service frame) (named number own mine) (left (is_entered (named origin service frame) (named number own mine)) any)

later_came : (plan : Plan) (e : Entry) (es : List Entry) (origin : ℕ) (service : ServiceId) (frame : List ℕ) → HasCome plan es origin service frame → HasCome plan (e ∷ es) origin service frame
later_came plan e es origin service frame come = record { sender = come.sender; entered = come.entered; before = inr come.before; of_service = come.of_service; as_entered = come.as_entered }

come_found : (plan : Plan) (es : List Entry) (origin : ℕ) (service : ServiceId) (frame : List ℕ) → has_come (came_list plan es) (named origin service frame) ≡ true
    → HasCome plan es origin service frame
unfolding came_list
come_found plan [] origin service frame any = clash any
come_found plan (entry.In circuit number octets ∷ es) origin service frame any = by (has_come (with_one [] (entered_at plan circuit number octets)) (named origin service frame)) refl (come_found plan es origin service frame) where
  by : (b : Bool) → has_come (with_one [] (entered_at plan circuit number octets)) (named origin service frame) ≡ b
      → (has_come (came_list plan es) (named origin service frame) ≡ true → HasCome plan es origin service frame) → HasCome plan (entry.In circuit number octets ∷ es) origin service frame
  by true here rest = here_came plan circuit number octets es origin service frame (service_of plan circuit) (inner_at plan circuit octets) refl refl here
  by false not_here rest = later_came plan (entry.In circuit number octets) es origin service frame
      (rest (sym (ap (λ (b : Bool). b || has_come (came_list plan es) (named origin service frame)) not_here)
      ∙ (sym (any-append (is_entered (named origin service frame)) (with_one [] (entered_at plan circuit number octets)) (came_list plan es)) ∙ any)))
come_found plan (entry.Did event ∷ es) origin service frame any = later_came plan _ es origin service frame (come_found plan es origin service frame any)
come_found plan (entry.Idle ∷ es) origin service frame any = later_came plan _ es origin service frame (come_found plan es origin service frame any)
come_found plan (entry.Said from to octets ∷ es) origin service frame any = later_came plan _ es origin service frame (come_found plan es origin service frame any)
come_found plan (entry.Sent from to wire came packet number hops octets ∷ es) origin service frame any = later_came plan _ es origin service frame (come_found plan es origin service frame any)
come_found plan (entry.Copied packet of ∷ es) origin service frame any = later_came plan _ es origin service frame (come_found plan es origin service frame any)
come_found plan (entry.Aged packet ∷ es) origin service frame any = later_came plan _ es origin service frame (come_found plan es origin service frame any)
come_found plan (entry.Left circuit number hops octets ∷ es) origin service frame any = later_came plan _ es origin service frame (come_found plan es origin service frame any)
come_found plan (entry.Dropped edge number cause ∷ es) origin service frame any = later_came plan _ es origin service frame (come_found plan es origin service frame any)
come_found plan (entry.Session edge peer name ∷ es) origin service frame any = later_came plan _ es origin service frame (come_found plan es origin service frame any)
come_found plan (entry.Wire edge wire down ∷ es) origin service frame any = later_came plan _ es origin service frame (come_found plan es origin service frame any)
come_found plan (entry.Pong edge wire sequence ∷ es) origin service frame any = later_came plan _ es origin service frame (come_found plan es origin service frame any)

one_came : (plan : Plan) (sender : CircuitId) (origin : ℕ) (entered : List ℕ) (service : ServiceId) (frame : List ℕ) → service_of plan sender ≡ Some service → inner_at plan sender entered ≡ Ok frame
    → has_come (entry_came plan (entry.In sender origin entered)) (named origin service frame) ≡ true
one_came plan sender origin entered service frame of_service as_entered =
    ap (λ (of : Option ServiceId). has_come (with_one [] (entered_in_service origin of (inner_found plan sender entered))) (named origin service frame)) of_service
    ∙ (ap (λ (inner : Result (List ℕ) DropCause). has_come (with_one [] (entered_in_service origin (Some service) (ok_of inner))) (named origin service frame)) as_entered
    ∙ rw (entered_itself (named origin service frame)) refl)

come_listed : (plan : Plan) (es : List Entry) (sender : CircuitId) (origin : ℕ) (entered : List ℕ) (service : ServiceId) (frame : List ℕ) → Among (entry.In sender origin entered) es
    → service_of plan sender ≡ Some service → inner_at plan sender entered ≡ Ok frame
    → has_come (came_list plan es) (named origin service frame) ≡ true
unfolding came_list
come_listed plan [] sender origin entered service frame among of_service as_entered = absurd among
come_listed plan (e ∷ es) sender origin entered service frame (inl here) of_service as_entered = any-append (is_entered (named origin service frame)) (entry_came plan e) (came_list plan es)
    ∙ or_left (has_come (entry_came plan e) (named origin service frame)) (has_come (came_list plan es) (named origin service frame))
    (ap (λ (x : Entry). has_come (entry_came plan x) (named origin service frame)) (sym here) ∙ one_came plan sender origin entered service frame of_service as_entered)
come_listed plan (e ∷ es) sender origin entered service frame (inr later) of_service as_entered = any-append (is_entered (named origin service frame)) (entry_came plan e) (came_list plan es)
    ∙ or_right (has_come (entry_came plan e) (named origin service frame)) (has_come (came_list plan es) (named origin service frame))
    (come_listed plan es sender origin entered service frame later of_service as_entered)

come_in : (plan : Plan) (earlier : List Entry) (circuit : CircuitId) (origin : ℕ) (octets : List ℕ) (of : Option ServiceId) (inner : Result (List ℕ) DropCause)
    → service_of plan circuit ≡ of → inner_at plan circuit octets ≡ inner
    → has_one (came_list plan earlier) (entered_in_service origin of (ok_of inner)) ≡ true → CameIn plan earlier circuit origin octets
come_in plan earlier circuit origin octets None inner is_of is_inner come = clash come
come_in plan earlier circuit origin octets (Some service) (Err why) is_of is_inner come = clash come
come_in plan earlier circuit origin octets (Some service) (Ok frame) is_of is_inner come =
    let has : HasCome plan earlier origin service frame = come_found plan earlier origin service frame come in
    record {
      sender = has.sender;
      entered = has.entered;
      before = has.before;
      service = service;
      sender_service = has.of_service;
      receiver_service = is_of;
      frame = frame;
      as_entered = has.as_entered;
      as_left = is_inner;
    }

-- what is no stray is isolated, and what is isolated is no stray
pub entry_isolated : (plan : Plan) (earlier : List Entry) (e : Entry) → is_stray plan (came_list plan earlier) e ≡ false → IsolatedEntry plan earlier e
entry_isolated plan earlier (entry.Left circuit origin hops octets) is = come_in plan earlier circuit origin octets (service_of plan circuit) (inner_at plan circuit octets) refl refl (not-false _ is)
entry_isolated plan earlier (entry.Did event) is = tt
entry_isolated plan earlier entry.Idle is = tt
entry_isolated plan earlier (entry.Said from to octets) is = tt
entry_isolated plan earlier (entry.In circuit number octets) is = tt
entry_isolated plan earlier (entry.Sent from to wire came packet origin hops octets) is = tt
entry_isolated plan earlier (entry.Copied packet of) is = tt
entry_isolated plan earlier (entry.Aged packet) is = tt
entry_isolated plan earlier (entry.Dropped edge origin cause) is = tt
entry_isolated plan earlier (entry.Session edge peer name) is = tt
entry_isolated plan earlier (entry.Wire edge wire down) is = tt
entry_isolated plan earlier (entry.Pong edge wire sequence) is = tt

pub isolated_entry : (plan : Plan) (earlier : List Entry) (e : Entry) → IsolatedEntry plan earlier e → is_stray plan (came_list plan earlier) e ≡ false
isolated_entry plan earlier (entry.Left circuit origin hops octets) is =
    ap (λ (of : Option ServiceId). not (has_one (came_list plan earlier) (entered_in_service origin of (inner_found plan circuit octets)))) is.receiver_service
    ∙ (ap (λ (inner : Result (List ℕ) DropCause). not (has_one (came_list plan earlier) (entered_in_service origin (Some is.service) (ok_of inner)))) is.as_left
    ∙ ap not (come_listed plan earlier is.sender origin is.entered is.service is.frame is.before is.sender_service is.as_entered))
isolated_entry plan earlier (entry.Did event) is = refl
isolated_entry plan earlier entry.Idle is = refl
isolated_entry plan earlier (entry.Said from to octets) is = refl
isolated_entry plan earlier (entry.In circuit number octets) is = refl
isolated_entry plan earlier (entry.Sent from to wire came packet origin hops octets) is = refl
isolated_entry plan earlier (entry.Copied packet of) is = refl
isolated_entry plan earlier (entry.Aged packet) is = refl
isolated_entry plan earlier (entry.Dropped edge origin cause) is = refl
isolated_entry plan earlier (entry.Session edge peer name) is = refl
isolated_entry plan earlier (entry.Wire edge wire down) is = refl
isolated_entry plan earlier (entry.Pong edge wire sequence) is = refl

-- ---- all entries

-- what was known of the entries before is of them
pub record Knows (plan : Plan) (earlier : List Entry) (path_audit : Judged) : Type 0 where
  pub came : (one : Entered) → has_come path_audit.came one ≡ has_come (came_list plan earlier) one

pub knows_more : (plan : Plan) (earlier : List Entry) (path_audit : Judged) (e : Entry) → Knows plan earlier path_audit → Knows plan (earlier ++ e ∷ []) (judges plan e path_audit)
unfolding judges
knows_more plan earlier path_audit e knows = record {
  came = λ one.
      after_found plan e path_audit.came one
      ∙ (ap (λ (b : Bool). b || has_come (entry_came plan e) one) (knows.came one)
      ∙ (sym (any-append (is_entered one) (came_list plan earlier) (entry_came plan e)) ∙ ap (λ (l : List Entered). has_come l one) (sym (list-append plan earlier e))));
}

one_same : (a b : List Entered) (one : Option Entered) → ((one : Entered) → has_come a one ≡ has_come b one) → has_one a one ≡ has_one b one
one_same a b None same = refl
one_same a b (Some one) same = same one

-- so the same entries are strays
pub stray_same : (plan : Plan) (earlier : List Entry) (path_audit : Judged) (e : Entry) → Knows plan earlier path_audit → is_stray plan path_audit.came e ≡ is_stray plan (came_list plan earlier) e
stray_same plan earlier path_audit (entry.Left circuit origin hops octets) knows = ap not (one_same path_audit.came (came_list plan earlier) (entered_at plan circuit origin octets) knows.came)
stray_same plan earlier path_audit (entry.Did event) knows = refl
stray_same plan earlier path_audit entry.Idle knows = refl
stray_same plan earlier path_audit (entry.Said from to octets) knows = refl
stray_same plan earlier path_audit (entry.In circuit number octets) knows = refl
stray_same plan earlier path_audit (entry.Sent from to wire came packet origin hops octets) knows = refl
stray_same plan earlier path_audit (entry.Copied packet of) knows = refl
stray_same plan earlier path_audit (entry.Aged packet) knows = refl
stray_same plan earlier path_audit (entry.Dropped edge origin cause) knows = refl
stray_same plan earlier path_audit (entry.Session edge peer name) knows = refl
stray_same plan earlier path_audit (entry.Wire edge wire down) knows = refl
stray_same plan earlier path_audit (entry.Pong edge wire sequence) knows = refl

-- a first line stays the first one
pub stray_stays : (plan : Plan) (es : List Entry) (path_audit : Judged) (line : ℕ) → path_audit.stray ≡ Some line → (judges_all plan path_audit es).stray ≡ Some line
unfolding judges
stray_stays plan [] path_audit line is = is
stray_stays plan (e ∷ es) path_audit line is = stray_stays plan es (judges plan e path_audit) line (ap (λ (o : Option ℕ). first_line o (is_stray plan path_audit.came e) (path_audit.line + 1)) is)

pub crossed_stays : (plan : Plan) (es : List Entry) (path_audit : Judged) (line : ℕ) → path_audit.crossed ≡ Some line → (judges_all plan path_audit es).crossed ≡ Some line
unfolding judges
crossed_stays plan [] path_audit line is = is
crossed_stays plan (e ∷ es) path_audit line is = crossed_stays plan es (judges plan e path_audit) line (ap (λ (o : Option ℕ). first_line o (is_crossing plan e) (path_audit.line + 1)) is)

pub none_some : {P : Type 0} (line : ℕ) → None ≡ Some line → P
none_some line e = absurd (cc e)

pub isolated_by : (plan : Plan) (earlier es : List Entry) (path_audit : Judged) → Knows plan earlier path_audit → path_audit.stray ≡ None → (judges_all plan path_audit es).stray ≡ None → IsolatedAfter plan earlier es
unfolding judges
isolated_by plan earlier [] path_audit knows none last = tt
isolated_by plan earlier (e ∷ es) path_audit knows none last = by (is_stray plan path_audit.came e) refl (λ next. isolated_by plan (earlier ++ e ∷ []) es (judges plan e path_audit) (knows_more plan earlier path_audit e knows) next last) where
  by : (b : Bool) → is_stray plan path_audit.came e ≡ b → ((judges plan e path_audit).stray ≡ None → IsolatedAfter plan (earlier ++ e ∷ []) es) → IsolatedEntry plan earlier e
      × IsolatedAfter plan (earlier ++ e ∷ []) es
  by true strays rest = none_some (path_audit.line + 1) (sym last ∙ stray_stays plan es (judges plan e path_audit) (path_audit.line + 1) (rw (none, strays) refl))
  by false stays rest = (entry_isolated plan earlier e (sym (stray_same plan earlier path_audit e knows) ∙ stays), rest (rw (none, stays) refl))

pub by_isolated : (plan : Plan) (earlier es : List Entry) (path_audit : Judged) → Knows plan earlier path_audit → path_audit.stray ≡ None → IsolatedAfter plan earlier es → (judges_all plan path_audit es).stray ≡ None
unfolding judges
by_isolated plan earlier [] path_audit knows none is = none
by_isolated plan earlier (e ∷ es) path_audit knows none is = by_isolated plan (earlier ++ e ∷ []) es (judges plan e path_audit) (knows_more plan earlier path_audit e knows) (rw (none, stays) refl) is.1 where
  stays : is_stray plan path_audit.came e ≡ false
  stays = stray_same plan earlier path_audit e knows ∙ isolated_entry plan earlier e is.0

-- ---- split horizon

by_one_mesh : (plan : Plan) (from : EdgeId) (wire came : WireId) → crosses plan from wire (arrival.Wire came) ≡ false → is_mesh_wire plan wire ≡ true → is_mesh_wire plan came ≡ true
    → (came ≡ wire) × (is_switching_point plan from wire ≡ true)
by_one_mesh plan from wire came none over by_mesh = by (nat_eq came.0 wire.0) (is_switching_point plan from wire) refl refl where
  by : (a b : Bool) → nat_eq came.0 wire.0 ≡ a → is_switching_point plan from wire ≡ b → (came ≡ wire) × (is_switching_point plan from wire ≡ true)
  by true true same inside = (ap (λ (n : ℕ). record { 0 = n }) (eqb-true came.0 wire.0 same), inside)
  by true false same outside = clash (sym none ∙ rw (over, by_mesh, same, outside) refl)
  by false b other inside = clash (sym none ∙ rw (over, by_mesh, other) refl)

sent_split : (plan : Plan) (from : EdgeId) (wire : WireId) (came : Arrival) → crosses plan from wire came ≡ false → SplitSent plan from wire came
sent_split plan from wire (arrival.Wire came) none = λ over by_mesh. by_one_mesh plan from wire came none over by_mesh
sent_split plan from wire (arrival.Circuit circuit) none = tt
sent_split plan from wire arrival.Own none = tt

split_sent : (plan : Plan) (from : EdgeId) (wire : WireId) (came : Arrival) → SplitSent plan from wire came → crosses plan from wire came ≡ false
split_sent plan from wire (arrival.Wire came) split = by (is_mesh_wire plan wire) (is_mesh_wire plan came) refl refl where
  by : (a b : Bool) → is_mesh_wire plan wire ≡ a → is_mesh_wire plan came ≡ b → ((a && b) && not (nat_eq came.0 wire.0 && is_switching_point plan from wire)) ≡ false
  by true true over by_mesh = let is = split over by_mesh in rw (eq-eqb came.0 wire.0 (ap (λ (w : WireId). w.0) is.0), is.1) refl
  by true false over by_other = refl
  by false b by_spoke is = refl
split_sent plan from wire (arrival.Circuit circuit) split = refl
split_sent plan from wire arrival.Own split = refl

pub entry_split : (plan : Plan) (e : Entry) → is_crossing plan e ≡ false → SplitEntry plan e
entry_split plan (entry.Sent from to wire came packet origin hops octets) is = sent_split plan from wire came is
entry_split plan (entry.Did event) is = tt
entry_split plan entry.Idle is = tt
entry_split plan (entry.Said from to octets) is = tt
entry_split plan (entry.In circuit number octets) is = tt
entry_split plan (entry.Copied packet of) is = tt
entry_split plan (entry.Aged packet) is = tt
entry_split plan (entry.Left circuit origin hops octets) is = tt
entry_split plan (entry.Dropped edge origin cause) is = tt
entry_split plan (entry.Session edge peer name) is = tt
entry_split plan (entry.Wire edge wire down) is = tt
entry_split plan (entry.Pong edge wire sequence) is = tt

pub split_entry : (plan : Plan) (e : Entry) → SplitEntry plan e → is_crossing plan e ≡ false
split_entry plan (entry.Sent from to wire came packet origin hops octets) is = split_sent plan from wire came is
split_entry plan (entry.Did event) is = refl
split_entry plan entry.Idle is = refl
split_entry plan (entry.Said from to octets) is = refl
split_entry plan (entry.In circuit number octets) is = refl
split_entry plan (entry.Copied packet of) is = refl
split_entry plan (entry.Aged packet) is = refl
split_entry plan (entry.Left circuit origin hops octets) is = refl
split_entry plan (entry.Dropped edge origin cause) is = refl
split_entry plan (entry.Session edge peer name) is = refl
split_entry plan (entry.Wire edge wire down) is = refl
split_entry plan (entry.Pong edge wire sequence) is = refl

pub split_by : (plan : Plan) (es : List Entry) (path_audit : Judged) → path_audit.crossed ≡ None → (judges_all plan path_audit es).crossed ≡ None → Split plan es
unfolding judges
split_by plan [] path_audit none last = tt
split_by plan (e ∷ es) path_audit none last = by (is_crossing plan e) refl (λ next. split_by plan es (judges plan e path_audit) next last) where
  by : (b : Bool) → is_crossing plan e ≡ b → ((judges plan e path_audit).crossed ≡ None → Split plan es) → SplitEntry plan e × Split plan es
  by true crosses rest = none_some (path_audit.line + 1) (sym last ∙ crossed_stays plan es (judges plan e path_audit) (path_audit.line + 1) (rw (none, crosses) refl))
  by false stays rest = (entry_split plan e stays, rest (rw (none, stays) refl))

pub by_split : (plan : Plan) (es : List Entry) (path_audit : Judged) → path_audit.crossed ≡ None → Split plan es → (judges_all plan path_audit es).crossed ≡ None
unfolding judges
by_split plan [] path_audit none is = none
by_split plan (e ∷ es) path_audit none is = by_split plan es (judges plan e path_audit) (rw (none, split_entry plan e is.0) refl) is.1

-- ---- the whole trace

pub begun_knows : (plan : Plan) → Knows plan [] begun
unfolding came_list
begun_knows plan = record { came = λ one. refl }

pub strays_told : (plan : Plan) (trace : List Entry) → ((judges_all plan begun trace).stray ≡ None) ↔ Isolated plan trace
strays_told plan trace = (isolated_by plan [] trace begun (begun_knows plan) refl, by_isolated plan [] trace begun (begun_knows plan) refl)

pub crossings_told : (plan : Plan) (trace : List Entry) → ((judges_all plan begun trace).crossed ≡ None) ↔ Split plan trace
crossings_told plan trace = (split_by plan trace begun refl, by_split plan trace begun refl)
