-- What messages are worth: deeper worths are no less, and whatever an edge tells is worth what it says at its ends.
use Rattle.std.proofs.Common.{◌≡◌, ◌≤◌, ◌<◌, ◌+◌, ◌-◌, ◌&&◌, ◌∙◌, ℕ, zero, suc, Bool, true, false, cond, nat_lt, List, [], ◌∷◌, Option, Some, None, option_and_then, refl, sym, ap, subst, arith}
use Rattle.std.proofs.lemmas.Bool.Decides.{nat_tests}
use Rattle.std.proofs.lemmas.Option.{same_Some}
use Rattle.std.specs.List.{AllByRecursion}
use Rattle.net_values.proofs.BoolLemmas.{clash}
use Rattle.net_base.specs.declared.plan.Plan.{Plan}
use Rattle.net_base.specs.declared.plan.places.EdgeId.{EdgeId}
use Rattle.net_base.specs.declared.plan.places.WireId.{WireId}
use Rattle.net_base.specs.declared.plan.wire_plan.WirePlan.{WirePlan}
use Rattle.net_base.specs.plan.Accepted.{IsChecked}
use Rattle.net_base.specs.plan.Paths.{mate_on}
use Rattle.net_base.specs.plan.Places.{wire_row}
use Rattle.net_values.specs.declared.addr.Addr.{Addr}
use Rattle.hvpls_spokes.specs.declared.port.Port.{Port}
use Rattle.hvpls_spokes.specs.declared.port.Port.TheVariants as port
use Rattle.hvpls_spokes.specs.Port.{ports_of}
use Rattle.ldp_grammar.specs.declared.message.Message.{Message}
use Rattle.ldp_grammar.specs.Written.{written}
use Rattle.pw_messages.specs.Sender.{platform_of}
use Rattle.session_core.specs.declared.peers.Peers.{Peers}
use Rattle.edge_model.specs.declared.effect.Effect.{Effect}
use Rattle.edge_model.specs.declared.effect.Effect.TheVariants as effect
use Rattle.edge_model.specs.declared.end_place.EndPlace.{EndPlace}
use Rattle.edge_model.specs.Across.{end_beside}
use Rattle.edge_model.specs.EndPlaces.{end_named, end_places, is_terminal}
use Rattle.edge_model.specs.Ends.{wire_end}
use Rattle.edge_model.specs.State.{EdgeState}
use Rattle.flight_laws.specs.Ends.{ends_at}
use Rattle.flight_laws.proofs.PlaceLemmas.{IsEndOf, IsNamed, NamedEnd, end_of, named_is}
use Rattle.flight_laws.proofs.SaidLemmas.{ready}
use Rattle.flight_laws.proofs.SteadyLemmas.{end_small}
use Rattle.rest_laws.specs.Levels.{Saying, Binds, Withdraws, Releases, States, Clears, is_above, is_higher, level, level_at, level_of, pw_id_of, saying_of}
use Rattle.rest_laws.specs.Rises.{AreSaidAt, IsSaidAt, left_above}
use Rattle.rest_laws.proofs.DueLemmas.{IsPutAt, PutsWell}
use Rattle.quiet_laws.proofs.SpelledLemmas.{same_saying}
use Rattle.quiet_laws.proofs.ToldLemmas.{AreTold, IsTold, Put}
use Rattle.settle_bounds.specs.Worth.{Worths, beside, clear_cost, comes_by, comes_of, end_cost, ends_sum, follow_cost, heard_cost, found_cost, gate, larger, may_follow, mend_cost, message_worth, port_cost, ports_cost, starts_spoke, worth, worth_at, worth_by, worth_named}
use Rattle.settle_bounds.proofs.WalkLemmas.{AreSlots, Costs, IsSlot, Slot, larger_first, larger_second, slots_sum}

-- ---- more costs, more in all

larger_most : (a b n : ℕ) → a ≤ n → b ≤ n → larger a b ≤ n
larger_most a b n one other = by (nat_lt a b) where
  by : (c : Bool) → cond c b a ≤ n
  by true = other
  by false = one

both_most : (a b c d : ℕ) → a ≤ c → b ≤ d → a + b ≤ c + d
both_most a b c d one other = omega (arith, one, other)

then_most : (a b c : ℕ) → a ≤ b → b ≤ c → a ≤ c
then_most a b c one other = omega (arith, one, other)

gate_more : (b : Bool) (m n : ℕ) → m ≤ n → gate b m ≤ gate b n
gate_more true m n le = le
gate_more false m n le = omega arith

pub ends_more : (f g : EndPlace → ℕ) → ((p : EndPlace) → f p ≤ g p) → (places : List EndPlace) → ends_sum f places ≤ ends_sum g places
ends_more f g less [] = omega arith
ends_more f g less (p ∷ ps) = both_most (f p) (ends_sum f ps) (g p) (ends_sum g ps) (less p) (ends_more f g less ps)

module _ (plan : Plan) (me : EdgeId) (f g : Costs) (less : (p : EndPlace) (s : Saying) → f p s ≤ g p s) where
  end_more : (p : EndPlace) → end_cost plan me f p ≤ end_cost plan me g p
  end_more p = both_most (larger (f p Withdraws) (f p Binds)) (f p States + gate (starts_spoke me (wire_row plan p.wire)) (f p Clears)) (larger (g p Withdraws) (g p Binds))
      (g p States + gate (starts_spoke me (wire_row plan p.wire)) (g p Clears))
      (larger_most (f p Withdraws) (f p Binds) (larger (g p Withdraws) (g p Binds))
      (then_most (f p Withdraws) (g p Withdraws) (larger (g p Withdraws) (g p Binds)) (less p Withdraws) (larger_first (g p Withdraws) (g p Binds)))
      (then_most (f p Binds) (g p Binds) (larger (g p Withdraws) (g p Binds)) (less p Binds) (larger_second (g p Withdraws) (g p Binds))))
      (both_most (f p States) (gate (starts_spoke me (wire_row plan p.wire)) (f p Clears)) (g p States) (gate (starts_spoke me (wire_row plan p.wire)) (g p Clears)) (less p States)
      (gate_more (starts_spoke me (wire_row plan p.wire)) (f p Clears) (g p Clears) (less p Clears)))

  pub mend_more : mend_cost plan me f ≤ mend_cost plan me g
  mend_more = ends_more (end_cost plan me f) (end_cost plan me g) end_more (end_places plan me)

  found_more : (o : Option EndPlace) → found_cost f o ≤ found_cost g o
  found_more None = omega arith
  found_more (Some place) = less place Clears

  port_more : (x : Port) → port_cost plan me f x ≤ port_cost plan me g x
  port_more (port.Circuit circuit) = omega arith
  port_more (port.Mesh wire) = found_more (wire_end plan me wire)
  port_more (port.Spoke wire) = found_more (wire_end plan me wire)

  ports_more : (xs : List Port) → ports_cost plan me f xs ≤ ports_cost plan me g xs
  ports_more [] = omega arith
  ports_more (x ∷ xs) = both_most (port_cost plan me f x) (ports_cost plan me f xs) (port_cost plan me g x) (ports_cost plan me g xs) (port_more x) (ports_more xs)

  pub clear_more : (place : EndPlace) (row : WirePlan) → clear_cost plan me f place row ≤ clear_cost plan me g place row
  clear_more place row = by (is_terminal row me) where
    beyond : Option EndPlace
    beyond = end_beside plan me place.wire (mate_on row.path me.0 place.peer.0)

    by : (b : Bool) → cond b (ports_cost plan me f (ports_of plan row.service me)) (found_cost f beyond) ≤ cond b (ports_cost plan me g (ports_of plan row.service me)) (found_cost g beyond)
    by true = ports_more (ports_of plan row.service me)
    by false = found_more beyond

-- ---- deeper

module _ (plan : Plan) (edges : ℕ → EdgeState) where
  module _ (one two : Worths) (less : (from wire to : ℕ) (s : Saying) → one from wire to s ≤ two from wire to s) where
    heard_more : (me : EdgeId) (place : EndPlace) (row : WirePlan) (heard : Saying) (p : EndPlace) (s : Saying) → heard_cost plan edges one me place row heard p s ≤ heard_cost plan edges two me place row heard p s
    heard_more me place row heard p s =
        gate_more (is_above plan edges me.0 (level edges place.wire.0 row place.peer.0 me.0 heard) p s && may_follow plan me place.wire.0 place.peer.0 row heard p s)
        (one me.0 p.wire.0 p.peer.0 s) (two me.0 p.wire.0 p.peer.0 s) (less me.0 p.wire.0 p.peer.0 s)

    mending_more : (me : EdgeId) (place : EndPlace) (row : WirePlan) (heard : Saying) → mend_cost plan me (heard_cost plan edges one me place row heard) ≤ mend_cost plan me (heard_cost plan edges two me place row heard)
    mending_more me place row heard = mend_more plan me (heard_cost plan edges one me place row heard) (heard_cost plan edges two me place row heard) (heard_more me place row heard)

    comes_more : (me : EdgeId) (place : EndPlace) (row : WirePlan) (s : Saying) → comes_of plan edges one me place row s ≤ comes_of plan edges two me place row s
    comes_more me place row Binds = mending_more me place row Binds
    comes_more me place row Withdraws = both_most (one me.0 place.wire.0 place.peer.0 Releases) (mend_cost plan me (heard_cost plan edges one me place row Withdraws))
        (two me.0 place.wire.0 place.peer.0 Releases) (mend_cost plan me (heard_cost plan edges two me place row Withdraws)) (less me.0 place.wire.0 place.peer.0 Releases) (mending_more me place row Withdraws)
    comes_more me place row Releases = mending_more me place row Releases
    comes_more me place row States = mending_more me place row States
    comes_more me place row Clears = clear_more plan me (heard_cost plan edges one me place row Clears) (heard_cost plan edges two me place row Clears) (heard_more me place row Clears) place row

    by_more : (me from wire : ℕ) (o : Option WirePlan) (s : Saying) → suc (comes_by plan edges one me from wire o s) ≤ suc (comes_by plan edges two me from wire o s)
    by_more me from wire None s = omega arith
    by_more me from wire (Some row) s = one_more (comes_of plan edges one (record { 0 = me }) (beside wire from) row s) (comes_of plan edges two (record { 0 = me }) (beside wire from) row s)
        (comes_more (record { 0 = me }) (beside wire from) row s)
      where
        one_more : (a b : ℕ) → a ≤ b → suc a ≤ suc b
        one_more a b le = omega (arith, le)

  worth_more : (n from wire to : ℕ) (s : Saying) → worth plan edges n from wire to s ≤ worth plan edges (suc n) from wire to s
  worth_more zero from wire to s = some (comes_by plan edges (worth plan edges zero) to from wire (wire_row plan (record { 0 = wire })) s) where
    some : (a : ℕ) → 1 ≤ suc a
    some a = omega arith
  worth_more (suc n) from wire to s = by_more (worth plan edges n) (worth plan edges (suc n)) (λ a b c x. worth_more n a b c x) to from wire (wire_row plan (record { 0 = wire })) s

  worth_higher : (k n from wire to : ℕ) (s : Saying) → worth plan edges n from wire to s ≤ worth plan edges (k + n) from wire to s
  worth_higher zero n from wire to s = same (worth plan edges n from wire to s) (worth plan edges (0 + n) from wire to s) (ap (λ (m : ℕ). worth plan edges m from wire to s) (none n)) where
    none : (n : ℕ) → n ≡ 0 + n
    none n = omega arith

    same : (a b : ℕ) → a ≡ b → a ≤ b
    same a b is = omega (arith, is)
  worth_higher (suc k) n from wire to s =
      subst (λ (m : ℕ). worth plan edges n from wire to s ≤ worth plan edges m from wire to s) (later k n)
      (then_most (worth plan edges n from wire to s) (worth plan edges (k + n) from wire to s) (worth plan edges (suc (k + n)) from wire to s) (worth_higher k n from wire to s) (worth_more (k + n) from wire to s))
    where
      later : (k n : ℕ) → suc (k + n) ≡ suc k + n
      later k n = omega arith

  pub worth_deeper : (n m from wire to : ℕ) (s : Saying) → n ≤ m → worth plan edges n from wire to s ≤ worth plan edges m from wire to s
  worth_deeper n m from wire to s le = subst (λ (d : ℕ). worth plan edges n from wire to s ≤ worth plan edges d from wire to s) (parts n m le) (worth_higher (m - n) n from wire to s) where
    parts : (n m : ℕ) → n ≤ m → (m - n) + n ≡ m
    parts n m le = omega (arith, le)

-- ---- what is told, at ends

-- whatever is said at ends is so
abbrev pub AllSlots : (EndPlace → Saying → Type 0) → List Slot → Type 0
AllSlots P [] = Unit {0}
AllSlots P (s ∷ ss) = P s.place s.saying × AllSlots P ss

pub slots_less : (f g : Costs) (ss : List Slot) → AllSlots (λ p s. f p s ≤ g p s) ss → slots_sum f ss ≤ slots_sum g ss
slots_less f g [] all = omega arith
slots_less f g (s ∷ ss) all = both_most (f s.place s.saying) (slots_sum f ss) (g s.place s.saying) (slots_sum g ss) all.0 (slots_less f g ss all.1)

pub slots_both : (P Q R : EndPlace → Saying → Type 0) → ((p : EndPlace) (s : Saying) → P p s → Q p s → R p s) → (ss : List Slot) → AllSlots P ss → AllSlots Q ss → AllSlots R ss
slots_both P Q R follows [] one other = tt
slots_both P Q R follows (s ∷ ss) one other = (follows s.place s.saying one.0 other.0, slots_both P Q R follows ss one.1 other.1)

none_written : (m : Message) (router : Addr) → [] ≡ written m (platform_of router) → ⊥
none_written m router e = absurd (cc (e))

module _ (plan : Plan) (checked : IsChecked plan) (edges : ℕ → EdgeState) (me : EdgeId) where
  -- of messages to neighbours
  abbrev pub paid : List Put → ℕ
  paid [] = 0
  paid (p ∷ ps) = message_worth plan edges me.0 p.to p.message + paid ps

  -- a message to a neighbour says this of the wire with this PW ID
  pub record IsSaying (p : Put) (peer pw : ℕ) (saying : Saying) : Type 0 where
    pub to : p.to ≡ peer
    pub says : saying_of p.message ≡ Some saying
    pub names : pw_id_of p.message ≡ Some pw

  -- whatever message about a wire the octets spell, they say this
  pub spelled_says : (peer pw : ℕ) (octets : List ℕ) (p : Put) (m : Message) (router : Addr) (saying : Saying) → pw < 4294967296 → IsTold plan me.0 peer octets p → octets ≡ written m (platform_of router)
      → saying_of m ≡ Some saying → pw_id_of m ≡ Some pw → IsSaying p peer pw saying
  spelled_says peer pw octets p m router saying low told spelled says names =
      let ends : Peers = ends_at plan me.0 p.to in
      let same = same_saying ends pw low ends.me told.fit.me.four p.message told.said (ready ends p.message told.fit told.said).short m router saying says names (sym spelled ∙ told.spelled) in
      record { to = told.to; says = same.0; names = same.1 }

  pub slot_says : (peer : ℕ) (octets : List ℕ) (p : Put) (s : Slot) → IsTold plan me.0 peer octets p → IsSlot plan me peer octets s → IsSaying p s.place.peer.0 s.place.pw_id s.saying
  slot_says peer octets p s told slot =
      subst (λ (k : ℕ). IsSaying p k s.place.pw_id s.saying) (sym slot.beside)
      (spelled_says peer s.place.pw_id octets p slot.message slot.router s.saying (end_small plan me s.place checked slot.here) told slot.spelled slot.says slot.names)

  same_number : {m n : ℕ} → Some m ≡ Some n → m ≡ n
  same_number e = cc

  same_one : {s t : Saying} → Some s ≡ Some t → s ≡ t
  same_one e = cc

  -- the end that is named
  named_at : (place : EndPlace) → (here : IsEndOf plan me place) → NamedEnd plan me place.peer place.wire here.row
  named_at place here = end_of plan me place.peer place.wire here.row checked here.is here.joined

  worth_like : (p q : EndPlace) (s : Saying) → p.wire.0 ≡ q.wire.0 → p.peer.0 ≡ q.peer.0 → worth_at plan edges me.0 p s ≡ worth_at plan edges me.0 q s
  worth_like p q s w k = ap (λ (n : ℕ). worth_at plan edges me.0 (beside n p.peer.0) s) w ∙ ap (λ (n : ℕ). worth_at plan edges me.0 (beside q.wire.0 n) s) k

  worth_is : (p : Put) (place : EndPlace) (s : Saying) → IsEndOf plan me place → IsSaying p place.peer.0 place.pw_id s → message_worth plan edges me.0 p.to p.message ≡ worth_at plan edges me.0 place s
  worth_is p place s here says =
      let near : NamedEnd plan me place.peer place.wire here.row = named_at place here in
      ap (λ (k : ℕ). message_worth plan edges me.0 k p.message) says.to
      ∙ (ap (λ (o : Option Saying). worth_named plan edges me.0 o (option_and_then (end_named plan me place.peer) (pw_id_of p.message))) says.says
      ∙ (ap (λ (o : Option ℕ). worth_named plan edges me.0 (Some s) (option_and_then (end_named plan me place.peer) o)) says.names
      ∙ (ap (worth_named plan edges me.0 (Some s)) (ap (end_named plan me place.peer) here.pw_id ∙ near.named)
      ∙ worth_like near.place place s (ap (λ (x : WireId). x.0) near.wire_is) (ap (λ (x : EdgeId). x.0) near.peer_is))))

  pub told_least : (es : List Effect) (ps : List Put) (ss : List Slot) → AreTold plan me.0 es ps → AreSlots plan me es ss → paid ps ≤ slots_sum (worth_at plan edges me.0) ss
  told_least [] [] ss told slots = none (slots_sum (worth_at plan edges me.0) ss) where
    none : (n : ℕ) → 0 ≤ n
    none n = omega arith
  told_least [] (p ∷ ps) ss told slots = absurd told
  told_least (effect.Said peer octets ∷ es) ps [] told slots = absurd slots
  told_least (effect.Said peer [] ∷ es) ps (s ∷ ss) told slots = more (worth_at plan edges me.0 s.place s.saying) (paid ps) (slots_sum (worth_at plan edges me.0) ss) (told_least es ps ss told slots.1) where
    more : (w a b : ℕ) → a ≤ b → a ≤ w + b
    more w a b le = omega (arith, le)
  told_least (effect.Said peer (o ∷ os) ∷ es) [] (s ∷ ss) told slots = absurd told
  told_least (effect.Said peer (o ∷ os) ∷ es) (p ∷ ps) (s ∷ ss) told slots =
      one (message_worth plan edges me.0 p.to p.message) (worth_at plan edges me.0 s.place s.saying) (paid ps) (slots_sum (worth_at plan edges me.0) ss)
      (worth_is p s.place s.saying slots.0.here (slot_says peer.0 (o ∷ os) p s told.0 slots.0)) (told_least es ps ss told.1 slots.1)
    where
      one : (m w a b : ℕ) → m ≡ w → a ≤ b → m + a ≤ w + b
      one m w a b is le = omega (arith, is, le)
  told_least (e ∷ es) ps ss told slots = told_least es ps ss told slots

  -- ---- whatever may be said is so

  -- two places of the same wire
  wires_same : (p : Put) (one other : EndPlace) (s t : Saying) → IsEndOf plan me one → IsEndOf plan me other → IsSaying p one.peer.0 one.pw_id s → IsSaying p other.peer.0 other.pw_id t
      → (one.wire.0 ≡ other.wire.0) × ((one.peer.0 ≡ other.peer.0) × (s ≡ t))
  wires_same p one other s t here there says tells =
      let near : NamedEnd plan me one.peer one.wire here.row = named_at one here in
      let far : NamedEnd plan me other.peer other.wire there.row = named_at other there in
      let beside_same : one.peer.0 ≡ other.peer.0 = sym says.to ∙ tells.to in
      let pw_same : one.pw_id ≡ other.pw_id = same_number (sym says.names ∙ tells.names) in
      let named : end_named plan me one.peer here.row.pw_id ≡ end_named plan me other.peer there.row.pw_id =
      (λ i. end_named plan me (record { 0 = beside_same i }) ((sym here.pw_id ∙ (pw_same ∙ there.pw_id)) i)) in
      let places : near.place ≡ far.place = same_Some near.place far.place (sym near.named ∙ (named ∙ far.named)) in (
        ap (λ (x : WireId). x.0) (sym near.wire_is) ∙ (ap (λ (x : EndPlace). x.wire.0) places ∙ ap (λ (x : WireId). x.0) far.wire_is),
        (beside_same, same_one (sym says.says ∙ tells.says)),
      )

  module _ (may : EndPlace → Saying → Bool) (like : (p q : EndPlace) (s : Saying) → p.wire.0 ≡ q.wire.0 → p.peer.0 ≡ q.peer.0 → may p s ≡ may q s) where
    pub may_all : (es : List Effect) (ps : List Put) (ss : List Slot) → AreTold plan me.0 es ps → AreSlots plan me es ss → AllByRecursion (PutsWell plan me may) es → AllSlots (λ p s. may p s ≡ true) ss
    may_all [] ps [] told slots well = tt
    may_all [] ps (s ∷ ss) told slots well = absurd slots
    may_all (effect.Said peer octets ∷ es) ps [] told slots well = absurd slots
    may_all (effect.Said peer [] ∷ es) ps (s ∷ ss) told slots well = absurd (none_written slots.0.message slots.0.router slots.0.spelled)
    may_all (effect.Said peer (o ∷ os) ∷ es) [] (s ∷ ss) told slots well = absurd told
    may_all (effect.Said peer (o ∷ os) ∷ es) (p ∷ ps) (s ∷ ss) told slots well = (here well.0, may_all es ps ss told.1 slots.1 well.1) where
      here : IsPutAt plan me may peer.0 (o ∷ os) → may s.place s.saying ≡ true
      here put =
          let tells : IsSaying p put.place.peer.0 put.place.pw_id put.saying =
          subst (λ (k : ℕ). IsSaying p k put.place.pw_id put.saying) (sym put.beside)
          (spelled_says peer.0 put.place.pw_id (o ∷ os) p put.message put.router put.saying (end_small plan me put.place checked put.here) told.0 put.spelled put.says put.names) in
          let same = wires_same p s.place put.place s.saying put.saying slots.0.here put.here (slot_says peer.0 (o ∷ os) p s told.0 slots.0) tells in
          like s.place put.place s.saying same.0 same.1.0 ∙ (ap (may put.place) same.1.1 ∙ put.allowed)
    may_all (e ∷ es) ps ss told slots well = may_all es ps ss told slots well.1

  -- ---- levels

  -- what the level of a message goes by
  record HasParts (peer : ℕ) (m : Message) : Type 0 where
    saying : Saying
    says : saying_of m ≡ Some saying
    place : EndPlace
    here : IsEndOf plan me place
    beside_it : place.peer.0 ≡ peer
    names : pw_id_of m ≡ Some place.pw_id

  parts_of : (peer : ℕ) (m : Message) (least : ℕ) → level_of plan edges me.0 peer m ≡ Some least → HasParts peer m
  parts_of peer m least has = by (saying_of m) refl has where
    at_place : (saying : Saying) (n : ℕ) → saying_of m ≡ Some saying → pw_id_of m ≡ Some n → (o : Option EndPlace) → end_named plan me (record { 0 = peer }) n ≡ o
        → option_and_then (level_at plan edges me.0 saying) o ≡ Some least → HasParts peer m
    at_place saying n says names None named is = absurd (cc (is))
    at_place saying n says names (Some place) named is =
        let here : IsNamed plan me (record { 0 = peer }) n place = named_is plan me (record { 0 = peer }) n place named in
        record { saying = saying; says = says; place = place; here = here.holds; beside_it = ap (λ (x : EdgeId). x.0) here.peer_is; names = names ∙ ap (λ (k : ℕ). Some k) (sym here.pw_id_is) }

    numbered : (saying : Saying) → saying_of m ≡ Some saying → (o : Option ℕ) → pw_id_of m ≡ o
        → option_and_then (level_at plan edges me.0 saying) (option_and_then (end_named plan me (record { 0 = peer })) o) ≡ Some least → HasParts peer m
    numbered saying says None names is = absurd (cc (is))
    numbered saying says (Some n) names is = at_place saying n says names (end_named plan me (record { 0 = peer }) n) refl is

    by : (o : Option Saying) → saying_of m ≡ o → option_and_then (λ (s : Saying). option_and_then (level_at plan edges me.0 s) (option_and_then (end_named plan me (record { 0 = peer })) (pw_id_of m))) o ≡ Some least
        → HasParts peer m
    by None says is = absurd (cc (is))
    by (Some saying) says is = numbered saying says (pw_id_of m) refl is

  -- the level at an end
  level_here : (p : Put) (place : EndPlace) (s : Saying) → IsEndOf plan me place → IsSaying p place.peer.0 place.pw_id s → level_of plan edges me.0 p.to p.message ≡ level_at plan edges me.0 s place
  level_here p place s here says =
      let near : NamedEnd plan me place.peer place.wire here.row = named_at place here in
      ap (λ (k : ℕ). level_of plan edges me.0 k p.message) says.to
      ∙ (ap (λ (o : Option Saying). option_and_then (λ (x : Saying). option_and_then (level_at plan edges me.0 x) (option_and_then (end_named plan me place.peer) (pw_id_of p.message))) o) says.says
      ∙ (ap (λ (o : Option ℕ). option_and_then (level_at plan edges me.0 s) (option_and_then (end_named plan me place.peer) o)) says.names
      ∙ (ap (option_and_then (level_at plan edges me.0 s)) (ap (end_named plan me place.peer) here.pw_id ∙ near.named)
      ∙ (λ i. level_at plan edges me.0 s (beside (near.wire_is i).0 (near.peer_is i).0)))))

  -- messages that say the same of the same wire are of one level
  same_level : (peer : ℕ) (m n : Message) → saying_of m ≡ saying_of n → pw_id_of m ≡ pw_id_of n → level_of plan edges me.0 peer m ≡ level_of plan edges me.0 peer n
  same_level peer m n says names =
      ap (λ (o : Option Saying). option_and_then (λ (s : Saying). option_and_then (level_at plan edges me.0 s) (option_and_then (end_named plan me (record { 0 = peer })) (pw_id_of m))) o) says
      ∙ ap (λ (o : Option ℕ). option_and_then (λ (s : Saying). option_and_then (level_at plan edges me.0 s) (option_and_then (end_named plan me (record { 0 = peer })) o)) (saying_of n)) names

  higher : (a b : ℕ) → a < b → nat_lt a b ≡ true
  higher a b le = grind (arith, nat_tests)

  pub above_all : (least : ℕ) (es : List Effect) (ps : List Put) (levels : List ℕ) (ss : List Slot) → AreTold plan me.0 es ps → AreSaidAt plan edges me.0 es levels → AllByRecursion (λ l. least < l) levels
      → AreSlots plan me es ss → AllSlots (λ p s. is_above plan edges me.0 least p s ≡ true) ss
  above_all least [] ps levels [] told are above slots = tt
  above_all least [] ps levels (s ∷ ss) told are above slots = absurd slots
  above_all least (effect.Said peer octets ∷ es) ps levels [] told are above slots = absurd slots
  above_all least (effect.Said peer octets ∷ es) ps [] (s ∷ ss) told are above slots = absurd are
  above_all least (effect.Said peer [] ∷ es) ps (l ∷ levels) (s ∷ ss) told are above slots = absurd (none_written slots.0.message slots.0.router slots.0.spelled)
  above_all least (effect.Said peer (o ∷ os) ∷ es) [] (l ∷ levels) (s ∷ ss) told are above slots = absurd told
  above_all least (effect.Said peer (o ∷ os) ∷ es) (p ∷ ps) (l ∷ levels) (s ∷ ss) told are above slots = (here are.0, above_all least es ps levels ss told.1 are.1 above.1 slots.1) where
    here : IsSaidAt plan edges me.0 l peer.0 (o ∷ os) → is_above plan edges me.0 least s.place s.saying ≡ true
    here said =
        let parts : HasParts peer.0 said.message = parts_of peer.0 said.message l said.is in
        let tells : IsSaying p peer.0 parts.place.pw_id parts.saying =
        spelled_says peer.0 parts.place.pw_id (o ∷ os) p said.message said.router parts.saying (end_small plan me parts.place checked parts.here) told.0 said.spelled parts.says parts.names in
        let of_real : level_of plan edges me.0 peer.0 p.message ≡ Some l = same_level peer.0 p.message said.message (tells.says ∙ sym parts.says) (tells.names ∙ sym parts.names) ∙ said.is in
        let of_slot : level_at plan edges me.0 s.saying s.place ≡ Some l =
        sym (level_here p s.place s.saying slots.0.here (slot_says peer.0 (o ∷ os) p s told.0 slots.0)) ∙ (ap (λ (k : ℕ). level_of plan edges me.0 k p.message) told.0.to ∙ of_real) in
        ap (is_higher least) of_slot ∙ higher least l above.0
  above_all least (e ∷ es) ps levels ss told are above slots = above_all least es ps levels ss told are above slots

  -- ---- what follows a message is worth less deep

  pub follow_least : (deep least : ℕ) (may : EndPlace → Saying → Bool) → left_above least ≡ suc deep → (ss : List Slot) → AllSlots (λ p s. is_above plan edges me.0 least p s ≡ true) ss → AllSlots (λ p s. may p s ≡ true) ss
      → slots_sum (worth_at plan edges me.0) ss ≤ slots_sum (follow_cost plan edges (worth plan edges deep) me least may) ss
  follow_least deep least may is ss above allowed =
      slots_less (worth_at plan edges me.0) (follow_cost plan edges (worth plan edges deep) me least may) ss
      (slots_both (λ p s. is_above plan edges me.0 least p s ≡ true) (λ p s. may p s ≡ true) (λ p s. worth_at plan edges me.0 p s ≤ follow_cost plan edges (worth plan edges deep) me least may p s) one ss above allowed)
    where
      one : (p : EndPlace) (s : Saying) → is_above plan edges me.0 least p s ≡ true → may p s ≡ true → worth_at plan edges me.0 p s ≤ follow_cost plan edges (worth plan edges deep) me least may p s
      one p s up near =
          subst (λ (b : Bool). worth_at plan edges me.0 p s ≤ gate b (worth plan edges deep me.0 p.wire.0 p.peer.0 s)) (sym both) (by (level_at plan edges me.0 s p) refl up)
        where
          both : is_above plan edges me.0 least p s && may p s ≡ true
          both = rw (up, near) refl

          less : (a b : ℕ) → nat_lt a b ≡ true → 112 - a ≡ suc deep → 112 - b ≤ deep
          less a b le is = grind (arith, nat_tests)

          by : (o : Option ℕ) → level_at plan edges me.0 s p ≡ o → is_higher least o ≡ true → worth_by plan edges me.0 p s (level_at plan edges me.0 s p) ≤ worth plan edges deep me.0 p.wire.0 p.peer.0 s
          by None at up = clash up
          by (Some l) at up = subst (λ (o : Option ℕ). worth_by plan edges me.0 p s o ≤ worth plan edges deep me.0 p.wire.0 p.peer.0 s) (sym at)
              (worth_deeper plan edges (left_above l) deep me.0 p.wire.0 p.peer.0 s (less least l up is))
