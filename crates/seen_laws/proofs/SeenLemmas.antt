-- What the entries of an edge's work show.
use Rattle.std.proofs.Common.{◌≡◌, ◌+◌, ◌++◌, ◌&&◌, ◌||◌, ◌∙◌, not, ℕ, Bool, true, false, List, [], ◌∷◌, Option, cond, map, nat_eq, refl, sym, ap, subst, arith, append_assoc, inl, inr}
use Rattle.std.proofs.lemmas.Bool.{cases_Bool, eqb-true}
use Rattle.net_values.proofs.BoolLemmas.{and_not, and_not_false}
use Rattle.net_values.proofs.NumberLemmas.{same_number}
use Rattle.net_values.proofs.RowLemmas.{silent_either}
use Rattle.net_base.specs.declared.plan.places.EdgeId.{EdgeId}
use Rattle.net_base.specs.declared.trace.entry.Entry.{Entry}
use Rattle.net_base.specs.declared.trace.entry.Entry.TheVariants as entry
use Rattle.net_base.specs.declared.trace.state_name.StateName.{StateName}
use Rattle.net_base.specs.declared.trace.state_name.StateName.TheVariants as state
use Rattle.edge_model.specs.declared.effect.Effect.{Effect}
use Rattle.edge_model.specs.declared.effect.Effect.TheVariants as effect
use Rattle.flight_laws.specs.Meeting.{said_to}
use Rattle.flight_laws.proofs.WorkLemmas.{said-append, same_end}
use Rattle.network_model.specs.Absorb.{absorb_all, absorb_one, all_entries_of, entries_told}
use Rattle.network_model.specs.State.{NetworkState, with_packet, with_pipe}
use Rattle.network_model.proofs.AbsorbLemmas.{pipe_sends_none}
use Rattle.seen_network.specs.Seen.{Seen, SeenCopy, copy_comes, end_goes, is_shown_up, said_towards, session_told, told_by_itself, with_copies, with_octets, with_rest, with_standing, with_up, without_copy}
use Rattle.seen_network.proofs.CommonLemmas.{session_way, said_way}
use Rattle.seen_laws.specs.Shows.{AreTold, AreUpTo, copy_of, tolds}
use Rattle.seen_laws.specs.Work.{is_told_ended, up_after}
use Rattle.seen_laws.proofs.CopyLemmas.{below_behind, below_more, none_without, without_below}
use Rattle.seen_laws.proofs.TellLemmas.{ended-append, up-append}

-- ---- joined entries

pub tolds-append : (xs ys : List Entry) (seen : Seen) → tolds (xs ++ ys) seen ≡ tolds ys (tolds xs seen)
tolds-append [] ys seen = refl
tolds-append (x ∷ xs) ys seen = tolds-append xs ys (told_by_itself x seen)

pub told-append : (xs ys : List Entry) → AreTold xs → AreTold ys → AreTold (xs ++ ys)
told-append [] ys front back = back
told-append (entry.Did event ∷ xs) ys front back = absurd front
told-append (entry.Idle ∷ xs) ys front back = absurd front
told-append (entry.Said from to octets ∷ xs) ys front back = told-append xs ys front back
told-append (entry.In circuit number octets ∷ xs) ys front back = told-append xs ys front back
told-append (entry.Sent from to wire came packet origin hops octets ∷ xs) ys front back = told-append xs ys front back
told-append (entry.Copied packet of ∷ xs) ys front back = told-append xs ys front back
told-append (entry.Aged packet ∷ xs) ys front back = told-append xs ys front back
told-append (entry.Left circuit origin hops octets ∷ xs) ys front back = told-append xs ys front back
told-append (entry.Dropped edge origin cause ∷ xs) ys front back = told-append xs ys front back
told-append (entry.Session edge peer name ∷ xs) ys front back = told-append xs ys front back
told-append (entry.Wire edge wire down ∷ xs) ys front back = told-append xs ys front back
told-append (entry.Pong edge wire sequence ∷ xs) ys front back = told-append xs ys front back

-- an edge's work tells of no event
pub work_told : (me : EdgeId) (origin hops : ℕ) (es : List Effect) (network : NetworkState) → AreTold (all_entries_of me origin hops es network)
work_told me origin hops [] network = tt
work_told me origin hops (effect.Said peer octets ∷ es) network = work_told me origin hops es (absorb_one me origin hops (effect.Said peer octets) network)
work_told me origin hops (effect.Sent peer wire came octets ∷ es) network = work_told me origin hops es (absorb_one me origin hops (effect.Sent peer wire came octets) network)
work_told me origin hops (effect.Left circuit octets ∷ es) network = work_told me origin hops es network
work_told me origin hops (effect.Dropped cause ∷ es) network = work_told me origin hops es network
work_told me origin hops (effect.Session peer name ∷ es) network = work_told me origin hops es network
work_told me origin hops (effect.Wire wire down ∷ es) network = work_told me origin hops es network
work_told me origin hops (effect.Pong wire sequence ∷ es) network = work_told me origin hops es network
work_told me origin hops (effect.Closed peer ∷ es) network = work_told me origin hops es (absorb_one me origin hops (effect.Closed peer) network)

-- ---- what effects show

joined : (b : Bool) (pipe first more : List ℕ) → cond b (cond b (pipe ++ first) pipe ++ more) (cond b (pipe ++ first) pipe) ≡ cond b (pipe ++ (first ++ more)) pipe
joined true pipe first more = append_assoc pipe first more
joined false pipe first more = refl

silent_pipe : (b : Bool) (pipe : List ℕ) → pipe ≡ cond b (pipe ++ []) pipe
silent_pipe true pipe = sym (same_end pipe)
silent_pipe false pipe = refl

-- what effects of an edge show: its own ends, what they held and what was on its way to them, what it said, and its wires
pub record ShownBy (me : ℕ) (more : List Effect) (old new : Seen) : Type 0 where
  pub near : (k : ℕ) → new.stands me k ≡ (old.stands me k && not (is_told_ended k more))
  pub far : (a b : ℕ) → nat_eq a me ≡ false → new.stands a b ≡ old.stands a b
  pub rest : (k : ℕ) → new.rests me k ≡ cond (is_told_ended k more) [] (old.rests me k)
  pub rests : (a b : ℕ) → nat_eq a me ≡ false → new.rests a b ≡ old.rests a b
  pub inward : (k : ℕ) → nat_eq k me ≡ false → new.pipes k me ≡ cond (is_told_ended k more) [] (old.pipes k me)
  pub outward : (k : ℕ) → nat_eq k me ≡ false → new.pipes me k ≡ cond (old.stands k me) (old.pipes me k ++ said_to k more) (old.pipes me k)
  pub apart : (a b : ℕ) → nat_eq a me ≡ false → nat_eq b me ≡ false → new.pipes a b ≡ old.pipes a b
  pub own : old.stands me me ≡ false → new.pipes me me ≡ cond (is_told_ended me more) [] (old.pipes me me)
  pub up : (wire : ℕ) → new.up me wire ≡ up_after wire more (old.up me wire)
  pub ups : (a wire : ℕ) → nat_eq a me ≡ false → new.up a wire ≡ old.up a wire
  pub on : new.on ≡ old.on

pub shown_then : (me : ℕ) (es fs : List Effect) (a b c : Seen) → ShownBy me es a b → ShownBy me fs b c → ShownBy me (es ++ fs) a c
shown_then me es fs a b c first next = record {
  near = λ k. next.near k ∙ (ap (λ (x : Bool). x && not (is_told_ended k fs)) (first.near k)
      ∙ (and_not (a.stands me k) (is_told_ended k es) (is_told_ended k fs) ∙ ap (λ (x : Bool). a.stands me k && not x) (sym (ended-append k es fs))));
  far = λ x y apart. next.far x y apart ∙ first.far x y apart;
  rest = λ k. next.rest k ∙ (ap (λ (l : List ℕ). cond (is_told_ended k fs) [] l) (first.rest k)
      ∙ (silent_either (is_told_ended k es) (is_told_ended k fs) (a.rests me k) ∙ ap (λ (x : Bool). cond x [] (a.rests me k)) (sym (ended-append k es fs))));
  rests = λ x y apart. next.rests x y apart ∙ first.rests x y apart;
  inward = λ k away. next.inward k away
      ∙ (ap (λ (l : List ℕ). cond (is_told_ended k fs) [] l) (first.inward k away)
      ∙ (silent_either (is_told_ended k es) (is_told_ended k fs) (a.pipes k me) ∙ ap (λ (x : Bool). cond x [] (a.pipes k me)) (sym (ended-append k es fs))));
  outward = λ k away. next.outward k away
      ∙ (rw (first.far k me away, first.outward k away)
      (joined (a.stands k me) (a.pipes me k) (said_to k es) (said_to k fs)) ∙ ap (λ (l : List ℕ). cond (a.stands k me) (a.pipes me k ++ l) (a.pipes me k)) (sym (said-append k es fs)));
  apart = λ x y one other. next.apart x y one other ∙ first.apart x y one other;
  own = λ alone. next.own (first.near me ∙ rw alone refl)
      ∙ (ap (λ (l : List ℕ). cond (is_told_ended me fs) [] l) (first.own alone)
      ∙ (silent_either (is_told_ended me es) (is_told_ended me fs) (a.pipes me me) ∙ ap (λ (x : Bool). cond x [] (a.pipes me me)) (sym (ended-append me es fs))));
  up = λ wire. next.up wire ∙ (ap (up_after wire fs) (first.up wire) ∙ sym (up-append wire es fs (a.up me wire)));
  ups = λ x wire apart. next.ups x wire apart ∙ first.ups x wire apart;
  on = next.on ∙ first.on;
}

-- effects that show nothing of it
pub shows_none : (me : ℕ) (es : List Effect) (old new : Seen) → ((k : ℕ) → is_told_ended k es ≡ false) → ((k : ℕ) → said_to k es ≡ []) → ((wire : ℕ) (up : Bool) → up_after wire es up ≡ up)
    → new.stands ≡ old.stands → new.pipes ≡ old.pipes → new.rests ≡ old.rests → new.up ≡ old.up → new.on ≡ old.on → ShownBy me es old new
shows_none me es old new shuts silent still stands pipes rests ups on = record {
  near = λ k. ap (λ (f : ℕ → ℕ → Bool). f me k) stands ∙ (and_not_false (old.stands me k) ∙ ap (λ (x : Bool). old.stands me k && not x) (sym (shuts k)));
  far = λ a b apart. ap (λ (f : ℕ → ℕ → Bool). f a b) stands;
  rest = λ k. ap (λ (f : ℕ → ℕ → List ℕ). f me k) rests ∙ ap (λ (x : Bool). cond x [] (old.rests me k)) (sym (shuts k));
  rests = λ a b apart. ap (λ (f : ℕ → ℕ → List ℕ). f a b) rests;
  inward = λ k away. ap (λ (f : ℕ → ℕ → List ℕ). f k me) pipes ∙ ap (λ (x : Bool). cond x [] (old.pipes k me)) (sym (shuts k));
  outward = λ k away. ap (λ (f : ℕ → ℕ → List ℕ). f me k) pipes
      ∙ (silent_pipe (old.stands k me) (old.pipes me k) ∙ ap (λ (l : List ℕ). cond (old.stands k me) (old.pipes me k ++ l) (old.pipes me k)) (sym (silent k)));
  apart = λ a b one other. ap (λ (f : ℕ → ℕ → List ℕ). f a b) pipes;
  own = λ alone. ap (λ (f : ℕ → ℕ → List ℕ). f me me) pipes ∙ ap (λ (x : Bool). cond x [] (old.pipes me me)) (sym (shuts me));
  up = λ wire. ap (λ (f : ℕ → ℕ → Bool). f me wire) ups ∙ sym (still wire (old.up me wire));
  ups = λ a wire apart. ap (λ (f : ℕ → ℕ → Bool). f a wire) ups;
  on = on;
}

shows_same : (me : ℕ) (e : Effect) (seen : Seen) → ((k : ℕ) → is_told_ended k (e ∷ []) ≡ false) → ((k : ℕ) → said_to k (e ∷ []) ≡ [])
    → ((wire : ℕ) (up : Bool) → up_after wire (e ∷ []) up ≡ up) → ShownBy me (e ∷ []) seen seen
shows_same me e seen shuts silent still = shows_none me (e ∷ []) seen seen shuts silent still refl refl refl refl refl

-- octets that an edge says
said_shows : (me peer : EdgeId) (octets : List ℕ) (seen : Seen) → ShownBy me.0 (effect.Said peer octets ∷ []) seen (said_towards me.0 peer.0 octets seen)
unfolding with_octets
said_shows me peer octets seen = by (seen.stands peer.0 me.0) refl where
  out : (k : ℕ) (b up : Bool) → seen.stands peer.0 me.0 ≡ up → nat_eq k peer.0 ≡ b
      → cond b (cond up (seen.pipes me.0 peer.0 ++ octets) (seen.pipes me.0 peer.0)) (seen.pipes me.0 k) ≡ cond (seen.stands k me.0) (seen.pipes me.0 k ++ cond b (octets ++ []) []) (seen.pipes me.0 k)
  out k true up is same =
      let e : k ≡ peer.0 = eqb-true k peer.0 same in
      rw e (there up is)
    where
      there : (up : Bool) → seen.stands peer.0 me.0 ≡ up → cond up (seen.pipes me.0 peer.0 ++ octets) (seen.pipes me.0 peer.0)
          ≡ cond (seen.stands peer.0 me.0) (seen.pipes me.0 peer.0 ++ (octets ++ [])) (seen.pipes me.0 peer.0)
      there true is = rw (is, same_end octets) refl
      there false is = rw is refl
  out k false up is other = silent_pipe (seen.stands k me.0) (seen.pipes me.0 k)

  by : (up : Bool) → seen.stands peer.0 me.0 ≡ up → ShownBy me.0 (effect.Said peer octets ∷ []) seen (cond up (with_octets me.0 peer.0 (seen.pipes me.0 peer.0 ++ octets) seen) seen)
  by true is = record {
    near = λ k. and_not_false (seen.stands me.0 k);
    far = λ a b apart. refl;
    rest = λ k. refl;
    rests = λ a b apart. refl;
    inward = λ k away. rw away refl;
    outward = λ k away. rw (same_number me.0) (out k (nat_eq k peer.0) true is refl);
    apart = λ a b one other. rw one refl;
    own = λ alone. rw (same_number me.0) (elim (cases_Bool (nat_eq me.0 peer.0)) [
      | inl same ↦ absurd (cc (sym alone ∙ (ap (λ (n : ℕ). seen.stands n me.0) (eqb-true me.0 peer.0 same) ∙ is)))
      | inr other ↦ rw other refl
    ]);
    up = λ wire. refl;
    ups = λ a wire apart. refl;
    on = refl;
  }
  by false is = record {
    near = λ k. and_not_false (seen.stands me.0 k);
    far = λ a b apart. refl;
    rest = λ k. refl;
    rests = λ a b apart. refl;
    inward = λ k away. refl;
    outward = λ k away. keeps k (nat_eq k peer.0) refl ∙ out k (nat_eq k peer.0) false is refl;
    apart = λ a b one other. refl;
    own = λ alone. refl;
    up = λ wire. refl;
    ups = λ a wire apart. refl;
    on = refl;
  }
    where
      keeps : (k : ℕ) (b : Bool) → nat_eq k peer.0 ≡ b → seen.pipes me.0 k ≡ cond b (seen.pipes me.0 peer.0) (seen.pipes me.0 k)
      keeps k true same = ap (seen.pipes me.0) (eqb-true k peer.0 same)
      keeps k false other = refl

-- a session that has ended
ended_shows : (me peer : EdgeId) (why : Rattle.net_base.specs.declared.trace.state_name.Reason.Reason) (seen : Seen)
    → ShownBy me.0 (effect.Session peer (state.Ended why) ∷ []) seen (end_goes me.0 peer.0 seen)
unfolding with_octets with_standing with_rest
ended_shows me peer why seen = record {
  near = λ k. rw (same_number me.0) (gone (nat_eq k peer.0) (seen.stands me.0 k));
  far = λ a b apart. rw apart refl;
  rest = λ k. rw (same_number me.0) (emptied_by (nat_eq k peer.0) (seen.rests me.0 k));
  rests = λ a b apart. rw apart refl;
  inward = λ k away. there k (nat_eq k peer.0);
  outward = λ k away. kept me.0 k (nat_eq me.0 peer.0) away ∙ silent_pipe (seen.stands k me.0) (seen.pipes me.0 k);
  apart = λ a b one other. kept a b (nat_eq a peer.0) other;
  own = λ alone. there me.0 (nat_eq me.0 peer.0);
  up = λ wire. refl;
  ups = λ a wire apart. refl;
  on = refl;
}
  where
    gone : (b old : Bool) → cond b false old ≡ (old && not (b || false))
    gone true true = refl
    gone true false = refl
    gone false true = refl
    gone false false = refl

    emptied_by : (b : Bool) (octets : List ℕ) → cond b [] octets ≡ cond (b || false) [] octets
    emptied_by true octets = refl
    emptied_by false octets = refl

    there : (k : ℕ) (b : Bool) → cond (b && nat_eq me.0 me.0) [] (seen.pipes k me.0) ≡ cond (b || false) [] (seen.pipes k me.0)
    there k true = rw (same_number me.0) refl
    there k false = refl

    kept : (a b : ℕ) (same : Bool) → nat_eq b me.0 ≡ false → cond (same && nat_eq b me.0) [] (seen.pipes a b) ≡ seen.pipes a b
    kept a b true other = rw other refl
    kept a b false other = refl

-- a wire that is told
wire_shows : (me : EdgeId) (wire : Rattle.net_base.specs.declared.plan.places.WireId.WireId) (down : Option Rattle.net_base.specs.declared.trace.down.Down.Down) (seen : Seen)
    → ShownBy me.0 (effect.Wire wire down ∷ []) seen (with_up me.0 wire.0 (is_shown_up down) seen)
unfolding with_up
wire_shows me wire down seen = record {
  near = λ k. and_not_false (seen.stands me.0 k);
  far = λ a b apart. refl;
  rest = λ k. refl;
  rests = λ a b apart. refl;
  inward = λ k away. refl;
  outward = λ k away. silent_pipe (seen.stands k me.0) (seen.pipes me.0 k);
  apart = λ a b one other. refl;
  own = λ alone. refl;
  up = λ w. rw (same_number me.0) refl;
  ups = λ a w apart. rw apart refl;
  on = refl;
}

-- ---- one effect of an edge, and all of them

session_shows : (me peer : EdgeId) (name : StateName) (seen : Seen) → ShownBy me.0 (effect.Session peer name ∷ []) seen (session_told me.0 peer.0 name seen)
session_shows me peer (state.Ended why) seen = ended_shows me peer why seen
session_shows me peer state.NonExistent seen = shows_same me.0 (effect.Session peer state.NonExistent) seen (λ k. refl) (λ k. refl) (λ wire up. refl)
session_shows me peer state.Initialized seen = shows_same me.0 (effect.Session peer state.Initialized) seen (λ k. refl) (λ k. refl) (λ wire up. refl)
session_shows me peer state.OpenSent seen = shows_same me.0 (effect.Session peer state.OpenSent) seen (λ k. refl) (λ k. refl) (λ wire up. refl)
session_shows me peer state.OpenRec seen = shows_same me.0 (effect.Session peer state.OpenRec) seen (λ k. refl) (λ k. refl) (λ wire up. refl)
session_shows me peer state.Operational seen = shows_same me.0 (effect.Session peer state.Operational) seen (λ k. refl) (λ k. refl) (λ wire up. refl)

one_shows : (me : EdgeId) (origin hops : ℕ) (e : Effect) (network : NetworkState) (seen : Seen) → ShownBy me.0 (e ∷ []) seen (tolds (entries_told me origin hops e network) seen)
unfolding with_copies
one_shows me origin hops (effect.Said peer octets) network seen = said_shows me peer octets seen
one_shows me origin hops (effect.Session peer name) network seen = session_shows me peer name seen
one_shows me origin hops (effect.Wire wire down) network seen = wire_shows me wire down seen
one_shows me origin hops (effect.Sent peer wire came octets) network seen =
    shows_none me.0 (effect.Sent peer wire came octets ∷ []) seen (copy_comes (network.sent + 1) origin seen) (λ k. refl) (λ k. refl) (λ w up. refl) refl refl refl refl refl
one_shows me origin hops (effect.Left circuit octets) network seen = shows_same me.0 (effect.Left circuit octets) seen (λ k. refl) (λ k. refl) (λ w up. refl)
one_shows me origin hops (effect.Dropped cause) network seen = shows_same me.0 (effect.Dropped cause) seen (λ k. refl) (λ k. refl) (λ w up. refl)
one_shows me origin hops (effect.Pong wire sequence) network seen = shows_same me.0 (effect.Pong wire sequence) seen (λ k. refl) (λ k. refl) (λ w up. refl)
one_shows me origin hops (effect.Closed peer) network seen = shows_same me.0 (effect.Closed peer) seen (λ k. refl) (λ k. refl) (λ w up. refl)

pub all_show : (me : EdgeId) (origin hops : ℕ) (es : List Effect) (network : NetworkState) (seen : Seen) → ShownBy me.0 es seen (tolds (all_entries_of me origin hops es network) seen)
all_show me origin hops [] network seen = shows_none me.0 [] seen seen (λ k. refl) (λ k. refl) (λ w up. refl) refl refl refl refl refl
all_show me origin hops (e ∷ es) network seen =
    let first : Seen = tolds (entries_told me origin hops e network) seen in
    let rest : List Entry = all_entries_of me origin hops es (absorb_one me origin hops e network) in
    subst (ShownBy me.0 (e ∷ es) seen) (sym (tolds-append (entries_told me origin hops e network) rest seen))
    (shown_then me.0 (e ∷ []) es seen first (tolds rest first) (one_shows me origin hops e network seen) (all_show me origin hops es (absorb_one me origin hops e network) first))

-- ---- packets

-- what is seen under way, and the count of packets, go together
pub sent_more : (xs : List Rattle.network_model.specs.declared.packet.Packet.Packet) (x : Rattle.network_model.specs.declared.packet.Packet.Packet) → map copy_of (xs ++ x ∷ [])
    ≡ map copy_of xs ++ copy_of x ∷ []
sent_more [] x = refl
sent_more (y ∷ ys) x = ap (λ (l : List SeenCopy). copy_of y ∷ l) (sent_more ys x)

put_sent : (from to : EdgeId) (octets : List ℕ) (network : NetworkState) (b : Bool) → (cond b (with_pipe from to octets network) network).sent ≡ network.sent
unfolding with_pipe
put_sent from to octets network true = refl
put_sent from to octets network false = refl

one_way : (me : EdgeId) (origin hops : ℕ) (e : Effect) (network : NetworkState) (seen : Seen) → AreUpTo network.sent seen.under_way → seen.under_way ≡ map copy_of network.under_way
    → (tolds (entries_told me origin hops e network) seen).under_way ≡ map copy_of (absorb_one me origin hops e network).under_way
unfolding with_copies with_up with_packet
one_way me origin hops (effect.Said peer octets) network seen below same = said_way me.0 peer.0 octets seen ∙ (same ∙ ap (map copy_of) (sym (pipe_sends_none me peer _ network _)))
one_way me origin hops (effect.Session peer name) network seen below same = session_way me.0 peer.0 name seen ∙ same
one_way me origin hops (effect.Wire wire down) network seen below same = same
one_way me origin hops (effect.Sent peer wire came octets) network seen below same =
    ap (λ (l : List SeenCopy). l ++ record { number = network.sent + 1; origin = origin } ∷ []) (none_without network.sent (network.sent + 1) seen.under_way below (omega arith) ∙ same)
    ∙ sym (sent_more network.under_way _)
one_way me origin hops (effect.Left circuit octets) network seen below same = same
one_way me origin hops (effect.Dropped cause) network seen below same = same
one_way me origin hops (effect.Pong wire sequence) network seen below same = same
one_way me origin hops (effect.Closed peer) network seen below same = same ∙ ap (map copy_of) (sym (pipe_sends_none peer me [] network true))

-- a new number is the highest one
one_counted : (me : EdgeId) (origin hops : ℕ) (e : Effect) (network : NetworkState) (seen : Seen) → AreUpTo network.sent seen.under_way
    → AreUpTo (absorb_one me origin hops e network).sent (tolds (entries_told me origin hops e network) seen).under_way
unfolding with_copies with_up with_packet
one_counted me origin hops (effect.Said peer octets) network seen below =
    subst (λ (n : ℕ). AreUpTo n (said_towards me.0 peer.0 octets seen).under_way) (sym (put_sent me peer _ network _)) (subst (AreUpTo network.sent) (sym (said_way me.0 peer.0 octets seen)) below)
one_counted me origin hops (effect.Session peer name) network seen below = subst (AreUpTo network.sent) (sym (session_way me.0 peer.0 name seen)) below
one_counted me origin hops (effect.Wire wire down) network seen below = below
one_counted me origin hops (effect.Sent peer wire came octets) network seen below =
    below_behind (network.sent + 1) (without_copy (network.sent + 1) seen.under_way) (record { number = network.sent + 1; origin = origin })
    (below_more network.sent (network.sent + 1) (without_copy (network.sent + 1) seen.under_way) (omega arith) (without_below network.sent (network.sent + 1) seen.under_way below)) (omega arith)
one_counted me origin hops (effect.Left circuit octets) network seen below = below
one_counted me origin hops (effect.Dropped cause) network seen below = below
one_counted me origin hops (effect.Pong wire sequence) network seen below = below
one_counted me origin hops (effect.Closed peer) network seen below = subst (λ (n : ℕ). AreUpTo n seen.under_way) (sym (put_sent peer me [] network true)) below

-- what is under way is seen, with numbers up to the count
pub record SeesPackets (network : NetworkState) (seen : Seen) : Type 0 where
  pub under_way : seen.under_way ≡ map copy_of network.under_way
  pub counted : AreUpTo network.sent seen.under_way

pub all_way : (me : EdgeId) (origin hops : ℕ) (es : List Effect) (network : NetworkState) (seen : Seen) → SeesPackets network seen
    → SeesPackets (absorb_all me origin hops es network) (tolds (all_entries_of me origin hops es network) seen)
all_way me origin hops [] network seen sees = sees
all_way me origin hops (e ∷ es) network seen sees =
    let first : Seen = tolds (entries_told me origin hops e network) seen in
    let next : NetworkState = absorb_one me origin hops e network in
    subst (SeesPackets (absorb_all me origin hops es next)) (sym (tolds-append (entries_told me origin hops e network) (all_entries_of me origin hops es next) seen))
    (all_way me origin hops es next first (record { under_way = one_way me origin hops e network seen sees.counted sees.under_way; counted = one_counted me origin hops e network seen sees.counted }))
