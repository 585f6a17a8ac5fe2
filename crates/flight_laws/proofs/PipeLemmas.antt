-- What the effects of an edge make of the pipes, and what they tell of sessions.
use Rattle.std.proofs.Common.{◌≡◌, ◌++◌, ◌||◌, ◌∙◌, ℕ, Bool, true, false, cond, nat_eq, List, [], ◌∷◌, refl, sym, ap, append_assoc, inl, inr}
use Rattle.std.proofs.lemmas.Bool.{cases_Bool, eqb-true}
use Rattle.net_values.proofs.NumberLemmas.{same_number}
use Rattle.net_base.specs.declared.plan.places.EdgeId.{EdgeId}
use Rattle.net_base.specs.declared.trace.entry.Entry.{Entry}
use Rattle.edge_model.specs.declared.effect.Effect.{Effect}
use Rattle.edge_model.specs.declared.effect.Effect.TheVariants as effect
use Rattle.edge_model.specs.State.{EdgeState, is_there}
use Rattle.network_model.specs.Absorb.{absorb_all, absorb_one, all_entries_of, put_towards}
use Rattle.network_model.specs.State.{NetworkState, stands, with_packet, with_pipe}
use Rattle.network_model.proofs.CommonLemmas.{one_edges}
use Rattle.flight_laws.specs.Endings.{TellGoodEnds}
use Rattle.flight_laws.specs.Meeting.{TellWell, closes, said_to}
use Rattle.flight_laws.proofs.WorkLemmas.{closes-append, said-append, same_end}

-- ---- one effect

put_edges : (from to : EdgeId) (octets : List ℕ) (network : NetworkState) (b : Bool) → (cond b (with_pipe from to octets network) network).edges ≡ network.edges
unfolding with_pipe
put_edges from to octets network true = refl
put_edges from to octets network false = refl

-- a pipe that another one is put beside
pub pipe_there : (from to : EdgeId) (octets : List ℕ) (network : NetworkState) → (with_pipe from to octets network).pipes from.0 to.0 ≡ octets
unfolding with_pipe
pipe_there from to octets network = rw (same_number from.0, same_number to.0) refl

pub pipe_from : (from to : EdgeId) (octets : List ℕ) (network : NetworkState) (a b : ℕ) → nat_eq a from.0 ≡ false → (with_pipe from to octets network).pipes a b ≡ network.pipes a b
unfolding with_pipe
pipe_from from to octets network a b apart = rw apart refl

pub pipe_to : (from to : EdgeId) (octets : List ℕ) (network : NetworkState) (a b : ℕ) → nat_eq b to.0 ≡ false → (with_pipe from to octets network).pipes a b ≡ network.pipes a b
unfolding with_pipe
pipe_to from to octets network a b apart = elim (cases_Bool (nat_eq a from.0)) [
  | inl same ↦ rw (same, apart) (ap (λ (k : ℕ). network.pipes k b) (sym (eqb-true a from.0 same)))
  | inr other ↦ rw other refl
]

said_from : (me peer : EdgeId) (octets : List ℕ) (place : ℕ) (network : NetworkState)
    → (put_towards me peer octets network).pipes me.0 place ≡ cond (stands network place me.0) (network.pipes me.0 place ++ said_to place (effect.Said peer octets ∷ [])) (network.pipes me.0 place)
said_from me peer octets place network = elim (cases_Bool (nat_eq place peer.0)) [
  | inl same ↦ rw (eqb-true place peer.0 same, same_number peer.0, same_end octets) (there (stands network peer.0 me.0))
  | inr apart ↦ rw (apart, same_end (network.pipes me.0 place)) (other apart (stands network peer.0 me.0) ∙ both (stands network place me.0))
]
  where
    there : (b : Bool) → (cond b (with_pipe me peer (network.pipes me.0 peer.0 ++ octets) network) network).pipes me.0 peer.0 ≡ cond b (network.pipes me.0 peer.0 ++ octets) (network.pipes me.0 peer.0)
    there true = pipe_there me peer (network.pipes me.0 peer.0 ++ octets) network
    there false = refl

    other : nat_eq place peer.0 ≡ false → (b : Bool) → (cond b (with_pipe me peer (network.pipes me.0 peer.0 ++ octets) network) network).pipes me.0 place ≡ network.pipes me.0 place
    other apart true = pipe_to me peer (network.pipes me.0 peer.0 ++ octets) network me.0 place apart
    other apart false = refl

    both : (b : Bool) → network.pipes me.0 place ≡ cond b (network.pipes me.0 place) (network.pipes me.0 place)
    both true = refl
    both false = refl

silent_from : (b : Bool) (octets : List ℕ) → octets ≡ cond b (octets ++ []) octets
silent_from true octets = sym (same_end octets)
silent_from false octets = refl

one_from : (me : EdgeId) (origin hops place : ℕ) (e : Effect) (network : NetworkState) → nat_eq place me.0 ≡ false
    → (absorb_one me origin hops e network).pipes me.0 place ≡ cond (stands network place me.0) (network.pipes me.0 place ++ said_to place (e ∷ [])) (network.pipes me.0 place)
unfolding with_packet
one_from me origin hops place (effect.Said peer octets) network apart = said_from me peer octets place network
one_from me origin hops place (effect.Sent peer wire came octets) network apart = silent_from (stands network place me.0) (network.pipes me.0 place)
one_from me origin hops place (effect.Closed peer) network apart = pipe_to peer me [] network me.0 place apart ∙ silent_from (stands network place me.0) (network.pipes me.0 place)
one_from me origin hops place e network apart = silent_from (stands network place me.0) (network.pipes me.0 place)

said_keeps : (me peer : EdgeId) (octets : List ℕ) (network : NetworkState) (a b : ℕ) (up : Bool) → nat_eq a me.0 ≡ false
    → (cond up (with_pipe me peer octets network) network).pipes a b ≡ network.pipes a b
said_keeps me peer octets network a b true apart = pipe_from me peer octets network a b apart
said_keeps me peer octets network a b false apart = refl

one_to : (me : EdgeId) (origin hops place : ℕ) (e : Effect) (network : NetworkState) → nat_eq place me.0 ≡ false
    → (absorb_one me origin hops e network).pipes place me.0 ≡ cond (closes place (e ∷ [])) [] (network.pipes place me.0)
unfolding with_packet
one_to me origin hops place (effect.Said peer octets) network apart = said_keeps me peer _ network place me.0 (stands network peer.0 me.0) apart
one_to me origin hops place (effect.Closed peer) network apart = elim (cases_Bool (nat_eq place peer.0)) [
  | inl same ↦ rw (eqb-true place peer.0 same, same_number peer.0) (pipe_there peer me [] network)
  | inr other ↦ rw other (pipe_from peer me [] network place me.0 other)
]
one_to me origin hops place (effect.Sent peer wire came octets) network apart = refl
one_to me origin hops place e network apart = refl

one_apart : (me : EdgeId) (origin hops a b : ℕ) (e : Effect) (network : NetworkState) → nat_eq a me.0 ≡ false → nat_eq b me.0 ≡ false → (absorb_one me origin hops e network).pipes a b
    ≡ network.pipes a b
unfolding with_packet
one_apart me origin hops a b (effect.Said peer octets) network apart other = said_keeps me peer _ network a b (stands network peer.0 me.0) apart
one_apart me origin hops a b (effect.Closed peer) network apart other = pipe_to peer me [] network a b other
one_apart me origin hops a b (effect.Sent peer wire came octets) network apart other = refl
one_apart me origin hops a b e network apart other = refl

-- ---- all effects

same_stands : (old new : NetworkState) (a b : ℕ) → new.edges ≡ old.edges → stands new a b ≡ stands old a b
same_stands old new a b same = ap (λ (edges : ℕ → EdgeState). is_there ((edges a).peering b)) same

pub all_edges : (me : EdgeId) (origin hops : ℕ) (es : List Effect) (network : NetworkState) → (absorb_all me origin hops es network).edges ≡ network.edges
all_edges me origin hops [] network = refl
all_edges me origin hops (e ∷ es) network = all_edges me origin hops es (absorb_one me origin hops e network) ∙ one_edges me origin hops e network

joined_from : (b : Bool) (pipe first more all : List ℕ) → all ≡ first ++ more → cond b (cond b (pipe ++ first) pipe ++ more) (cond b (pipe ++ first) pipe) ≡ cond b (pipe ++ all) pipe
joined_from true pipe first more all is = append_assoc pipe first more ∙ ap (λ (l : List ℕ). pipe ++ l) (sym is)
joined_from false pipe first more all is = refl

pub all_from : (me : EdgeId) (origin hops place : ℕ) (es : List Effect) (network : NetworkState) → nat_eq place me.0 ≡ false
    → (absorb_all me origin hops es network).pipes me.0 place ≡ cond (stands network place me.0) (network.pipes me.0 place ++ said_to place es) (network.pipes me.0 place)
all_from me origin hops place [] network apart = silent_from (stands network place me.0) (network.pipes me.0 place)
all_from me origin hops place (e ∷ es) network apart =
    let next : NetworkState = absorb_one me origin hops e network in
    all_from me origin hops place es next apart
    ∙ rw (same_stands network next place me.0 (one_edges me origin hops e network), one_from me origin hops place e network apart)
    (joined_from (stands network place me.0) (network.pipes me.0 place) (said_to place (e ∷ [])) (said_to place es) (said_to place (e ∷ es)) (said-append place (e ∷ []) es))

joined_to : (one others all : Bool) (pipe : List ℕ) → all ≡ (one || others) → cond others [] (cond one [] pipe) ≡ cond all [] pipe
joined_to true true all pipe is = rw is refl
joined_to true false all pipe is = rw is refl
joined_to false true all pipe is = rw is refl
joined_to false false all pipe is = rw is refl

pub all_to : (me : EdgeId) (origin hops place : ℕ) (es : List Effect) (network : NetworkState) → nat_eq place me.0 ≡ false
    → (absorb_all me origin hops es network).pipes place me.0 ≡ cond (closes place es) [] (network.pipes place me.0)
all_to me origin hops place [] network apart = refl
all_to me origin hops place (e ∷ es) network apart =
    let next : NetworkState = absorb_one me origin hops e network in
    all_to me origin hops place es next apart
    ∙ rw (one_to me origin hops place e network apart)
    (joined_to (closes place (e ∷ [])) (closes place es) (closes place (e ∷ es)) (network.pipes place me.0) (closes-append place (e ∷ []) es))

pub all_apart : (me : EdgeId) (origin hops a b : ℕ) (es : List Effect) (network : NetworkState) → nat_eq a me.0 ≡ false → nat_eq b me.0 ≡ false
    → (absorb_all me origin hops es network).pipes a b ≡ network.pipes a b
all_apart me origin hops a b [] network apart other = refl
all_apart me origin hops a b (e ∷ es) network apart other =
    all_apart me origin hops a b es (absorb_one me origin hops e network) apart other ∙ one_apart me origin hops a b e network apart other

-- ---- what is told

pub good-append : (xs ys : List Entry) → TellGoodEnds xs → TellGoodEnds ys → TellGoodEnds (xs ++ ys)
good-append [] ys one other = other
good-append (x ∷ xs) ys one other = (one.0, good-append xs ys one.1 other)

pub all_good : (me : EdgeId) (origin hops : ℕ) (es : List Effect) (network : NetworkState) → TellWell es → TellGoodEnds (all_entries_of me origin hops es network)
all_good me origin hops [] network well = tt
all_good me origin hops (effect.Said peer octets ∷ es) network well = (tt, all_good me origin hops es (absorb_one me origin hops (effect.Said peer octets) network) well.1)
all_good me origin hops (effect.Sent peer wire came octets ∷ es) network well = (tt, all_good me origin hops es (absorb_one me origin hops (effect.Sent peer wire came octets) network) well.1)
all_good me origin hops (effect.Left circuit octets ∷ es) network well = (tt, all_good me origin hops es network well.1)
all_good me origin hops (effect.Dropped cause ∷ es) network well = (tt, all_good me origin hops es network well.1)
all_good me origin hops (effect.Session peer state ∷ es) network well = (well.0, all_good me origin hops es network well.1)
all_good me origin hops (effect.Wire wire down ∷ es) network well = (tt, all_good me origin hops es network well.1)
all_good me origin hops (effect.Pong wire sequence ∷ es) network well = (tt, all_good me origin hops es network well.1)
all_good me origin hops (effect.Closed peer ∷ es) network well = all_good me origin hops es (absorb_one me origin hops (effect.Closed peer) network) well.1
