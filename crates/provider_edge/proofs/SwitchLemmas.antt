-- A switching point passes a packet on, exit by exit.
use Rattle.std.proofs.Common.{◌≡◌, ◌<◌, ◌≤◌, ◌+◌, ◌-◌, ◌*◌, ◌/◌, ◌%◌, ◌++◌, ◌∷◌, ◌∙◌, [], ℕ, Bool, true, false, List, Option, Some, None, Result, Ok, Err, drop, take, length, refl, ap, sym, arith}
use Rattle.std.proofs.lemmas.List.{append-nil}
use Rattle.net_base.specs.declared.outside.link_call.LinkCall.{LinkCall}
use Rattle.net_base.specs.declared.plan.places.EdgeId.{EdgeId}
use Rattle.net_base.specs.declared.plan.places.WireId.{WireId}
use Rattle.net_base.specs.declared.plan.wire_plan.WirePlan.{WirePlan}
use Rattle.net_base.specs.declared.trace.arrival.Arrival.TheVariants as arrival
use Rattle.net_base.specs.declared.trace.drop_cause.DropCause.{DropCause}
use Rattle.net_base.specs.declared.trace.drop_cause.DropCause.TheVariants as cause
use Rattle.net_base.specs.plan.Paths.{mate}
use Rattle.net_base.specs.plan.Places.{wire_row}
use Rattle.byteorder.specs.Endian.{big_bytes, big_number}
use Rattle.pw_messages.specs.LinkAnswers.{Answers}
use Rattle.eth_encap.specs.declared.stack_entry.StackEntry.{StackEntry}
use Rattle.pw_signalling.specs.End.{EndState, fresh}
use Rattle.pw_stitch.specs.declared.swap_drop.SwapDrop.{SwapDrop}
use Rattle.pw_stitch.specs.Drop.{dropped_for}
use Rattle.pw_stitch.specs.Relabelling.{relabelled}
use Rattle.pw_stitch.specs.Swap.{label_onward}
use Rattle.edge_model.specs.declared.effect.Effect.{Effect}
use Rattle.edge_model.specs.declared.effect.Effect.TheVariants.{Dropped, Sent}
use Rattle.edge_model.specs.declared.end_place.EndPlace.{EndPlace}
use Rattle.edge_model.specs.Packet.{switched, switched_by, switched_to, switched_under, towards}
use Rattle.edge_model.specs.Send.{drops, had_posted, sends}
use Rattle.edge_model.specs.State.{EdgeState}
use Rattle.edge_model.specs.Work.{Work, gives, next_answer, posts}
use Rattle.pw_ends.specs.Ends.{end_in, place_of, seen_ends}
use Rattle.peer_dialogue.specs.Peering.{at_edge}
use Rattle.provider_edge.proofs.BridgeLemmas.{dropped_at}
use Rattle.provider_edge.proofs.PacketLemmas.{row_there}
use Rattle.provider_edge.specs.Lists.{EdgeLists, seen}
use Rattle.provider_edge.proofs.MendLemmas.{me_at}

-- ---- the octets

-- the entry in front is all that is written
pub relabelled_front : (label ttl : ℕ) (octets : List ℕ) → 4 ≤ length octets → relabelled label ttl (take 4 octets) ++ drop 4 octets ≡ relabelled label ttl octets
relabelled_front label ttl [] long = absurd (omega (arith, long))
relabelled_front label ttl (a ∷ []) long = absurd (omega (arith, long))
relabelled_front label ttl (a ∷ b ∷ []) long = absurd (omega (arith, long))
relabelled_front label ttl (a ∷ b ∷ c ∷ []) long = absurd (omega (arith, long))
relabelled_front label ttl (a ∷ b ∷ c ∷ d ∷ rest) long =
    ap (λ (l : List ℕ). l ++ rest) (append-nil (big_bytes 4 (label * 4096 + (big_number 4 (take 4 (a ∷ b ∷ c ∷ d ∷ rest)) / 256 % 16 * 256 + ttl))))

-- ---- the mate

module _ (c : EdgeLists) (told : Answers) (octets : List ℕ) (entry : StackEntry) (place : EndPlace) (found : Option EdgeId) (calls : List LinkCall) (out : List Effect)
    (within : place.wire.0 < length c.plan.wires) (mates : (row : WirePlan) → wire_row c.plan place.wire ≡ Some row → found ≡ mate row c.me.0 place.peer.0) where
  abbrev work : Work
  work = at_edge (seen c) calls out

  by_mate : switched_to told octets entry place found work ≡ switched c.plan told octets entry place work
  by_mate =
      let (row, at) = row_there c.plan.wires place.wire.0 within in
      ap (λ (f : Option EdgeId). switched_to told octets entry place f work) (mates row at)
      ∙ (ap (λ (m : EdgeId). switched_to told octets entry place (mate row m.0 place.peer.0) work) (sym (me_at c calls out))
      ∙ ap (λ (r : Option WirePlan). switched_by told octets entry place r work) (sym at))

  -- an edge between no two others does nothing
  pub alone : found ≡ None → work ≡ switched c.plan told octets entry place work
  alone none = ap (λ (f : Option EdgeId). switched_to told octets entry place f work) (sym none) ∙ by_mate

  ends_of : work.edge.ends ≡ seen_ends c.ends
  unfolding seen at_edge
  ends_of = refl

  to_mate : (to : EdgeId) → found ≡ Some to → switched_under told octets entry place to (label_onward (seen_ends c.ends place.wire.0 to.0).remote entry.ttl) work
      ≡ switched c.plan told octets entry place work
  to_mate to some =
      ap (λ (ends : ℕ → ℕ → EndState). switched_under told octets entry place to (label_onward (ends place.wire.0 to.0).remote entry.ttl) work) (sym ends_of)
      ∙ (ap (λ (f : Option EdgeId). switched_to told octets entry place f work) (sym some) ∙ by_mate)

  -- no end stands beside the mate
  pub no_onward : (to : EdgeId) (given : List Effect) → found ≡ Some to → seen_ends c.ends place.wire.0 to.0 ≡ fresh → given ≡ out ++ Dropped cause.NoBinding ∷ []
      → at_edge (seen c) calls given ≡ switched c.plan told octets entry place work
  no_onward to given some untold gave =
      dropped_at cause.NoBinding (seen c) calls out given gave
      ∙ (ap (λ (e : EndState). switched_under told octets entry place to (label_onward e.remote entry.ttl) work) (sym untold) ∙ to_mate to some)

  -- the packet goes on by the end beside the mate
  pub onward : (to : EdgeId) (slot : ℕ) (x : Work) → found ≡ Some to → (place_of c.ends slot).wire ≡ place.wire → (place_of c.ends slot).peer ≡ to
      → x ≡ switched_under told octets entry (place_of c.ends slot) (place_of c.ends slot).peer (label_onward (end_in c.ends slot).remote entry.ttl) work
      → x ≡ switched c.plan told octets entry place work
  onward to slot x some wire peer is =
      let at : EndPlace = place_of c.ends slot in
      is
      ∙ (alike at at.peer (label_onward (end_in c.ends slot).remote entry.ttl) wire
      ∙ (ap (λ (w : WireId). switched_under told octets entry place at.peer (label_onward (seen_ends c.ends w.0 at.peer.0).remote entry.ttl) work) wire
      ∙ (ap (λ (p : EdgeId). switched_under told octets entry place p (label_onward (seen_ends c.ends place.wire.0 p.0).remote entry.ttl) work) peer
      ∙ to_mate to some)))
    where
      posted : (at : EndPlace) (to : EdgeId) (bytes : List ℕ) (taken : Bool) → at.wire ≡ place.wire → had_posted (towards to at) (arrival.Wire at.wire) bytes taken work
          ≡ had_posted (towards to place) (arrival.Wire place.wire) bytes taken work
      posted at to bytes true same = ap (λ (w : WireId). gives (Sent to w (arrival.Wire w) bytes) (posts to bytes true work)) same
      posted at to bytes false same = refl

      alike : (at : EndPlace) (to : EdgeId) (label : Result ℕ SwapDrop) → at.wire ≡ place.wire → switched_under told octets entry at to label work
          ≡ switched_under told octets entry place to label work
      alike at to (Err why) same = refl
      alike at to (Ok label) same = posted at to (relabelled label (entry.ttl - 1) octets) (next_answer told work) same

-- ---- the label towards it

-- none is bound there, or the TTL has run out
pub not_onward : (told : Answers) (octets : List ℕ) (entry : StackEntry) (place : EndPlace) (to : EdgeId) (label : Result ℕ SwapDrop) (why : SwapDrop) (for : DropCause) (edge : EdgeState) (calls : List LinkCall) (out given : List Effect)
    → label ≡ Err why → for ≡ dropped_for why → given ≡ out ++ Dropped for ∷ [] → at_edge edge calls given ≡ switched_under told octets entry place to label (at_edge edge calls out)
not_onward told octets entry place to label why for edge calls out given is dropped gave =
    dropped_at for edge calls out given gave
    ∙ (ap (λ (d : DropCause). drops d (at_edge edge calls out)) dropped ∙ ap (λ (r : Result ℕ SwapDrop). switched_under told octets entry place to r (at_edge edge calls out)) (sym is))

-- it goes on under the label that is bound there
pub sent_onward : (told : Answers) (octets : List ℕ) (entry : StackEntry) (at place : EndPlace) (label : ℕ) (bound : Result ℕ SwapDrop) (packet : List ℕ) (work x : Work)
    → at ≡ place → bound ≡ Ok label → packet ≡ relabelled label (entry.ttl - 1) octets → x ≡ sends told place (arrival.Wire at.wire) packet work
    → x ≡ switched_under told octets entry place place.peer bound work
sent_onward told octets entry at place label bound packet work x is ok made sent =
    sent
    ∙ (ap (λ (p : EndPlace). sends told place (arrival.Wire p.wire) packet work) is
    ∙ (ap (λ (l : List ℕ). sends told place (arrival.Wire place.wire) l work) made ∙ ap (λ (r : Result ℕ SwapDrop). switched_under told octets entry place place.peer r work) (sym ok)))
