-- What the effects of an edge leave of the network as it is, and what they tell of frames.
use Rattle.std.proofs.Common.{◌≡◌, ◌+◌, ◌++◌, ◌∙◌, ℕ, Bool, true, false, List, [], ◌∷◌, cond, refl, ap, sym, nat_eq, zero-add, arith}
use Rattle.net_base.specs.declared.plan.places.CircuitId.{CircuitId}
use Rattle.net_base.specs.declared.plan.places.EdgeId.{EdgeId}
use Rattle.net_base.specs.declared.trace.entry.Entry.{Entry}
use Rattle.net_base.specs.declared.trace.entry.Entry.TheVariants.{Left}
use Rattle.edge_model.specs.declared.effect.Effect.{Effect}
use Rattle.edge_model.specs.declared.effect.Effect.TheVariants as effect
use Rattle.edge_model.proofs.SessionLemmas.{are_all}
use Rattle.network_model.specs.declared.packet.Packet.{Packet}
use Rattle.network_model.specs.Absorb.{absorb_all, absorb_one, all_entries_of}
use Rattle.network_model.specs.OnceEach.{LeftWithin, times_left}
use Rattle.network_model.specs.State.{NetworkState, stands, with_packet, with_pipe}

-- joined traces
pub times_left-append : (origin : ℕ) (circuit : CircuitId) (xs ys : List Entry) → times_left origin circuit (xs ++ ys) ≡ times_left origin circuit xs + times_left origin circuit ys
times_left-append origin circuit [] ys = sym (zero-add (times_left origin circuit ys))
times_left-append origin circuit (Left at from hops octets ∷ xs) ys = omega (arith, times_left-append origin circuit xs ys)
times_left-append origin circuit (x ∷ xs) ys = times_left-append origin circuit xs ys

pub within-append : (most origin : ℕ) (xs ys : List Entry) → LeftWithin most origin xs → LeftWithin most origin ys → LeftWithin most origin (xs ++ ys)
within-append most origin [] ys front back = back
within-append most origin (Left at from hops octets ∷ xs) ys front back = (front.0, within-append most origin xs ys front.1 back)
within-append most origin (x ∷ xs) ys front back = within-append most origin xs ys front back

-- the edges and the count of frames stay
pub record IsKept (old new : NetworkState) : Type 0 where
  pub edges : new.edges ≡ old.edges
  pub entered : new.entered ≡ old.entered

kept_then : (a b c : NetworkState) → IsKept a b → IsKept b c → IsKept a c
kept_then a b c first next = record { edges = next.edges ∙ first.edges; entered = next.entered ∙ first.entered }

pipe_keeps : (from to : EdgeId) (octets : List ℕ) (network : NetworkState) (b : Bool) → IsKept network (cond b (with_pipe from to octets network) network)
unfolding with_pipe
pipe_keeps from to octets network true = record { edges = refl; entered = refl }
pipe_keeps from to octets network false = record { edges = refl; entered = refl }

one_keeps : (me : EdgeId) (origin hops : ℕ) (e : Effect) (network : NetworkState) → IsKept network (absorb_one me origin hops e network)
unfolding with_packet
one_keeps me origin hops (effect.Said peer octets) network = pipe_keeps me peer _ network (stands network peer.0 me.0)
one_keeps me origin hops (effect.Sent peer wire came octets) network = record { edges = refl; entered = refl }
one_keeps me origin hops (effect.Closed peer) network = pipe_keeps peer me [] network true
one_keeps me origin hops e network = record { edges = refl; entered = refl }

pub all_keep : (me : EdgeId) (origin hops : ℕ) (es : List Effect) (network : NetworkState) → IsKept network (absorb_all me origin hops es network)
all_keep me origin hops [] network = record { edges = refl; entered = refl }
all_keep me origin hops (e ∷ es) network =
    kept_then network (absorb_one me origin hops e network) (absorb_all me origin hops es (absorb_one me origin hops e network)) (one_keeps me origin hops e network)
    (all_keep me origin hops es (absorb_one me origin hops e network))

-- the packets under way that carry copies of a frame
abbrev pub of_origin : ℕ → List Packet → List Packet
of_origin origin [] = []
of_origin origin (p ∷ ps) = cond (nat_eq p.origin origin) (p ∷ of_origin origin ps) (of_origin origin ps)

pub of_origin-other : (origin : ℕ) (p : Packet) (ps : List Packet) → nat_eq p.origin origin ≡ false → of_origin origin (ps ++ p ∷ []) ≡ of_origin origin ps
of_origin-other origin p [] apart = rw apart refl
of_origin-other origin p (q ∷ ps) apart = ap (λ (l : List Packet). cond (nat_eq q.origin origin) (q ∷ l) l) (of_origin-other origin p ps apart)

pub pipe_leaves : (origin : ℕ) (from to : EdgeId) (octets : List ℕ) (network : NetworkState) (b : Bool) → of_origin origin (cond b (with_pipe from to octets network) network).under_way
    ≡ of_origin origin network.under_way
unfolding with_pipe
pipe_leaves origin from to octets network true = refl
pipe_leaves origin from to octets network false = refl

-- effects of another frame leave them
one_leaves : (origin : ℕ) (me : EdgeId) (other hops : ℕ) (e : Effect) (network : NetworkState) → nat_eq other origin ≡ false
    → of_origin origin (absorb_one me other hops e network).under_way ≡ of_origin origin network.under_way
unfolding with_packet
one_leaves origin me other hops (effect.Said peer octets) network apart = pipe_leaves origin me peer _ network (stands network peer.0 me.0)
one_leaves origin me other hops (effect.Sent peer wire came octets) network apart = of_origin-other origin _ network.under_way apart
one_leaves origin me other hops (effect.Closed peer) network apart = pipe_leaves origin peer me [] network true
one_leaves origin me other hops e network apart = refl

pub all_leave : (origin : ℕ) (me : EdgeId) (other hops : ℕ) (es : List Effect) (network : NetworkState) → nat_eq other origin ≡ false
    → of_origin origin (absorb_all me other hops es network).under_way ≡ of_origin origin network.under_way
all_leave origin me other hops [] network apart = refl
all_leave origin me other hops (e ∷ es) network apart = all_leave origin me other hops es (absorb_one me other hops e network) apart ∙ one_leaves origin me other hops e network apart

-- and tell nothing of it
pub others_tell : (origin : ℕ) (circuit : CircuitId) (me : EdgeId) (other hops : ℕ) (es : List Effect) (network : NetworkState) → nat_eq other origin ≡ false
    → times_left origin circuit (all_entries_of me other hops es network) ≡ 0
others_tell origin circuit me other hops [] network apart = refl
others_tell origin circuit me other hops (effect.Left at octets ∷ es) network apart = rw apart (omega (arith, others_tell origin circuit me other hops es network apart))
others_tell origin circuit me other hops (effect.Said peer octets ∷ es) network apart = others_tell origin circuit me other hops es (absorb_one me other hops (effect.Said peer octets) network) apart
others_tell origin circuit me other hops (effect.Sent peer wire came octets ∷ es) network apart =
    others_tell origin circuit me other hops es (absorb_one me other hops (effect.Sent peer wire came octets) network) apart
others_tell origin circuit me other hops (effect.Closed peer ∷ es) network apart = others_tell origin circuit me other hops es (absorb_one me other hops (effect.Closed peer) network) apart
others_tell origin circuit me other hops (e ∷ es) network apart = others_tell origin circuit me other hops es network apart

-- an edge's own work passes no segment
pub own_within : (most number : ℕ) (me : EdgeId) (origin : ℕ) (es : List Effect) (network : NetworkState) → LeftWithin most number (all_entries_of me origin 0 es network)
own_within most number me origin [] network = tt
own_within most number me origin (effect.Left at octets ∷ es) network = (λ same. omega arith, own_within most number me origin es network)
own_within most number me origin (effect.Said peer octets ∷ es) network = own_within most number me origin es (absorb_one me origin 0 (effect.Said peer octets) network)
own_within most number me origin (effect.Sent peer wire came octets ∷ es) network = own_within most number me origin es (absorb_one me origin 0 (effect.Sent peer wire came octets) network)
own_within most number me origin (effect.Closed peer ∷ es) network = own_within most number me origin es (absorb_one me origin 0 (effect.Closed peer) network)
own_within most number me origin (e ∷ es) network = own_within most number me origin es network

-- ---- effects without a packet

abbrev pub is_no_packet : Effect → Bool
is_no_packet (effect.Sent peer wire came octets) = false
is_no_packet e = true

pub pipe_sends_none : (from to : EdgeId) (octets : List ℕ) (network : NetworkState) (b : Bool) → (cond b (with_pipe from to octets network) network).under_way ≡ network.under_way
unfolding with_pipe
pipe_sends_none from to octets network true = refl
pipe_sends_none from to octets network false = refl

-- they leave the packets under way
pub none_sent : (me : EdgeId) (origin hops : ℕ) (es : List Effect) (network : NetworkState) → are_all is_no_packet es ≡ true → (absorb_all me origin hops es network).under_way ≡ network.under_way
none_sent me origin hops [] network none = refl
none_sent me origin hops (effect.Said peer octets ∷ es) network none =
    none_sent me origin hops es (absorb_one me origin hops (effect.Said peer octets) network) none ∙ pipe_sends_none me peer (network.pipes me.0 peer.0 ++ octets) network (stands network peer.0 me.0)
none_sent me origin hops (effect.Closed peer ∷ es) network none = none_sent me origin hops es (absorb_one me origin hops (effect.Closed peer) network) none ∙ pipe_sends_none peer me [] network true
none_sent me origin hops (effect.Sent peer wire came octets ∷ es) network none = absurd (cc (none))
none_sent me origin hops (e ∷ es) network none = none_sent me origin hops es network none
