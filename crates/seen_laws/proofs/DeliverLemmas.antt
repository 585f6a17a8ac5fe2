-- What a delivery tells shows what it makes of the network: the edge holds what is left of the octets behind the whole PDUs.
use Rattle.std.proofs.Common.{◌≡◌, ◌≤◌, ◌++◌, ◌&&◌, ◌||◌, ◌∙◌, not, ℕ, Bool, true, false, List, [], Option, Some, None, cond, drop, nat_eq, take, refl, sym, ap, subst, append_assoc}
use Rattle.std.proofs.lemmas.Bool.{eqb-true}
use Rattle.std.proofs.lemmas.List.{take-append-drop}
use Rattle.net_base.specs.declared.plan.Plan.{Plan}
use Rattle.net_base.specs.declared.plan.places.EdgeId.{EdgeId}
use Rattle.net_base.specs.declared.trace.event.Event.TheVariants.{Deliver}
use Rattle.net_values.specs.Octets.{AreOctets}
use Rattle.net_values.proofs.BoolLemmas.{first_holds, clash}
use Rattle.net_values.proofs.NumberLemmas.{same_number, apart_back}
use Rattle.ldp_grammar.proofs.OctetLemmas.{octets_before}
use Rattle.edge_model.specs.Hear.{hears, octets_input}
use Rattle.edge_model.specs.Mend.{mends}
use Rattle.edge_model.specs.State.{Peering, is_there}
use Rattle.edge_model.specs.Work.{Work}
use Rattle.network_model.specs.Absorb.{absorb, begin_at, idle, taken_all}
use Rattle.network_model.specs.Connection.{deliver_event, delivering, is_drained_pipe, losing, losing_work}
use Rattle.network_model.specs.State.{NetworkState, held_by, stands, with_pipe}
use Rattle.flight_laws.specs.Ends.{IsOrdered, ends_at}
use Rattle.flight_laws.specs.Facts.{flight}
use Rattle.flight_laws.specs.Meeting.{closes}
use Rattle.flight_laws.specs.Pair.{ArePaired, StandsIf}
use Rattle.flight_laws.proofs.EventLemmas.{stands_apart}
use Rattle.flight_laws.proofs.SaidLemmas.{all_octets}
use Rattle.seen_network.specs.Seen.{Seen, cut, delivers, with_octets, with_rest}
use Rattle.seen_laws.specs.Events.{IsShown, NoneAlone, WasIdle}
use Rattle.seen_laws.specs.Shows.{IsReadyToShow, Shows}
use Rattle.seen_laws.specs.Work.{TellsChanges, is_told_ended}
use Rattle.seen_laws.proofs.AbsorbLemmas.{on_still, rest_of}
use Rattle.seen_laws.proofs.EventLemmas.{IsButFor, losing_ready, work_shown}
use Rattle.seen_laws.proofs.HeardLemmas.{HoldsRest, KeepsHeld, hears_rest, mends_keep_held}
use Rattle.seen_laws.proofs.InputLemmas.{hears_tell, mends_tell, none}
use Rattle.seen_laws.proofs.TellLemmas.{any}

-- ---- the octets of a connection are octets, and its maximum is one that a session can have

pub record IsHeardBy (plan : Plan) (network : NetworkState) (from to : ℕ) (kept : Peering) : Type 0 where
  pub octets : AreOctets (kept.held ++ network.pipes from to)
  pub most : kept.session.max_pdu ≤ 4096

open_way : (plan : Plan) (network : NetworkState) (from to : ℕ) (kept : Peering) → IsOrdered plan network → nat_eq from to ≡ false → (network.edges to).peering from ≡ Some kept
    → IsHeardBy plan network from to kept
open_way plan network from to kept ordered apart at = record {
  octets = subst (λ (o : Option Peering). AreOctets (held_by o ++ network.pipes from to)) at
      (subst AreOctets (sym pair.back_is) (all_octets (ends_at plan from to) pair.answers stands.between.two pair.talk.answered));
  most = stands.most;
}
  where
    pair : ArePaired (ends_at plan to from) (ends_at plan from to) ((network.edges to).peering from) ((network.edges from).peering to) (flight network to from) (flight network from to)
    pair = ordered.two to from (apart_back from to apart)

    stands : StandsIf (ends_at plan to from) (ends_at plan from to) (Some kept)
    stands = subst (StandsIf (ends_at plan to from) (ends_at plan from to)) at pair.talk.here

module _ (plan : Plan) (network : NetworkState) (seen : Seen) (shows : Shows plan network seen) (alone : NoneAlone network) (from to : EdgeId) (count : ℕ) where
  abbrev later : NetworkState
  later = with_pipe from to (drop count (network.pipes from.0 to.0)) network

  abbrev taken : Seen
  taken = delivers from.0 to.0 count seen

  -- ---- the end that put octets is gone, and all of them were delivered

  drained_but : IsButFor to.0 from.0 seen taken
  unfolding with_octets with_rest
  drained_but = record { stands = λ a b other. refl; pipes = λ a b other. rw other refl; rests = λ a b other. rw other refl; up = refl; on = refl; under_way = refl }

  -- ---- octets are heard

  same_pipes : (a b : ℕ) → taken.pipes a b ≡ later.pipes a b
  unfolding with_octets with_rest with_pipe
  same_pipes a b = by (nat_eq a from.0) (nat_eq b to.0) refl refl where
    by : (x y : Bool) → nat_eq a from.0 ≡ x → nat_eq b to.0 ≡ y
        → cond (x && y) (drop count (seen.pipes from.0 to.0)) (seen.pipes a b)
        ≡ (cond x (λ k. cond (nat_eq k to.0) (drop count (network.pipes from.0 to.0)) (network.pipes from.0 k)) (network.pipes a)) b
    by true true one other = rw other (ap (drop count) (shows.pipes from.0 to.0))
    by true false one other = rw other (shows.pipes a b ∙ ap (λ (n : ℕ). network.pipes n b) (eqb-true a from.0 one))
    by false y one other = shows.pipes a b

  module _ (kept : Peering) (is : (network.edges to.0).peering from.0 ≡ Some kept) (fit : IsHeardBy plan network from.0 to.0 kept) (apart : nat_eq from.0 to.0 ≡ false) where
    abbrev octets : List ℕ
    octets = kept.held ++ take count (network.pipes from.0 to.0)

    abbrev heard : Work
    heard = hears plan taken_all from octets (begin_at network to)

    abbrev work : Work
    work = mends plan taken_all heard

    tells : TellsChanges any (begin_at network to) work
    tells = hears_tell plan taken_all from octets (begin_at network to)

    are_octets : AreOctets octets
    are_octets = octets_before octets (drop count (network.pipes from.0 to.0))
        (subst AreOctets (ap (λ (l : List ℕ). kept.held ++ l) (sym (take-append-drop count (network.pipes from.0 to.0)))
        ∙ sym (append_assoc kept.held (take count (network.pipes from.0 to.0)) (drop count (network.pipes from.0 to.0)))) fit.octets)

    rest : HoldsRest from octets (begin_at network to) heard
    rest = hears_rest plan taken_all from octets (begin_at network to) are_octets (rw is fit.most)

    mended : KeepsHeld heard work
    mended = mends_keep_held plan taken_all heard

    mend_tells : TellsChanges none heard work
    mend_tells = mends_tell plan taken_all heard

    stood_heard : (k : ℕ) → is_there (work.edge.peering k) ≡ true → is_there (heard.edge.peering k) ≡ true
    stood_heard k there = first_holds (is_there (heard.edge.peering k)) (not (is_told_ended k mend_tells.more)) (sym (mend_tells.stands k) ∙ there)

    stood : (k : ℕ) → is_there (work.edge.peering k) ≡ (is_there ((network.edges to.0).peering k) && not (is_told_ended k work.effects))
    stood k = tells.stands k ∙ ap (λ (es : List _). is_there ((network.edges to.0).peering k) && not (is_told_ended k es)) (sym tells.given)

    closed : (k : ℕ) → closes k work.effects ≡ is_told_ended k work.effects
    closed k = ap (closes k) tells.given ∙ (tells.shut k ∙ ap (is_told_ended k) (sym tells.given))

    at_peer : (gone : Bool) (new : Option Peering) → is_there new ≡ (is_there ((network.edges to.0).peering from.0) && not gone) → (is_there new ≡ true → held_by new ≡ cut octets)
        → cond gone [] (cut octets) ≡ held_by new
    at_peer true None there held = refl
    at_peer true (Some x) there held = clash (sym (Rattle.net_values.proofs.BoolLemmas.and_false (is_there ((network.edges to.0).peering from.0))) ∙ sym there)
    at_peer false None there held = clash (there ∙ rw is refl)
    at_peer false (Some x) there held = sym (held refl)

    same_rest : (k : ℕ) → cond (is_told_ended k work.effects) [] (taken.rests to.0 k) ≡ held_by (work.edge.peering k)
    unfolding with_octets with_rest
    same_rest k = rw (same_number to.0) (by (nat_eq k from.0) refl) where
      by : (b : Bool) → nat_eq k from.0 ≡ b → cond (is_told_ended k work.effects) [] (cond b (cut (seen.rests to.0 from.0 ++ take count (seen.pipes from.0 to.0))) (seen.rests to.0 k))
          ≡ held_by (work.edge.peering k)
      by true same = subst (λ (n : ℕ). cond (is_told_ended n work.effects) [] (cut (seen.rests to.0 from.0 ++ take count (seen.pipes from.0 to.0))) ≡ held_by (work.edge.peering n))
          (sym (eqb-true k from.0 same))
          (rw (shows.rests to.0 from.0 ∙ ap held_by is, shows.pipes from.0 to.0)
          (at_peer (is_told_ended from.0 work.effects) (work.edge.peering from.0) (stood from.0) (λ there. mended.kept from.0 there ∙ rest.rest (stood_heard from.0 there))))
      by false other = ap (λ (l : List ℕ). cond (is_told_ended k work.effects) [] l) (shows.rests to.0 k)
          ∙ rest_of (is_told_ended k work.effects) ((network.edges to.0).peering k) (work.edge.peering k) (stood k) (λ there. mended.kept k there ∙ rest.others k other (stood_heard k there))

    heard_ready : IsReadyToShow plan later to work taken
    unfolding with_octets with_rest with_pipe
    heard_ready = record {
      alone = shows.standing to.0 to.0 ∙ alone to.0;
      near = λ k. ap (λ (b : Bool). b && not (is_told_ended k work.effects)) (shows.standing to.0 k) ∙ sym (stood k);
      far = λ a b away. shows.standing a b;
      inward = λ k. rw (same_pipes k to.0, closed k) refl;
      outward = λ a b other. same_pipes a b;
      rest = same_rest;
      rests = λ a b away. rw away (shows.rests a b);
      up = λ wire. rw (shows.up to.0 wire, tells.given) (sym (tells.up wire));
      ups = λ a wire away. shows.up a wire;
      on = on_still plan later to work taken shows.on tells.circuits;
      under_way = shows.under_way;
      counted = shows.counted;
    }

  delivering_shown : IsOrdered plan network → stands network to.0 from.0 ≡ true → IsShown plan (Deliver from to count) network seen (delivering plan from to count network)
  delivering_shown ordered standing = by ((network.edges to.0).peering from.0) refl standing where
    apart : nat_eq from.0 to.0 ≡ false
    apart = stands_apart plan network from.0 to.0 ordered standing

    by : (near : Option Peering) → (network.edges to.0).peering from.0 ≡ near → is_there near ≡ true
        → IsShown plan (Deliver from to count) network seen (absorb to 0 0 (octets_input plan taken_all from (take count (network.pipes from.0 to.0)) near (begin_at network to)) later)
    by None is there = clash there
    by (Some kept) is there = work_shown plan (Deliver from to count) network later seen to 0 0 (work kept is (open_way plan network from.0 to.0 kept ordered apart is) apart)
        (heard_ready kept is (open_way plan network from.0 to.0 kept ordered apart is) apart)

  pub deliver_shown : IsOrdered plan network → IsShown plan (Deliver from to count) network seen (deliver_event plan from to count network)
  deliver_shown ordered = by_stand (stands network to.0 from.0) refl where
    some : stands network to.0 from.0 ≡ true → (drained : Bool) → IsShown plan (Deliver from to count) network seen (cond drained (losing plan to from network) (delivering plan from to count network))
    some standing true = work_shown plan (Deliver from to count) network network seen to 0 0 (losing_work plan network to from)
        (losing_ready plan network to from seen taken shows drained_but alone standing)
    some standing false = delivering_shown ordered standing

    which : stands network to.0 from.0 ≡ true → (any : Bool)
        → IsShown plan (Deliver from to count) network seen (cond any (cond (is_drained_pipe network from.0 to.0) (losing plan to from network) (delivering plan from to count network)) (idle network))
    which standing true = some standing (is_drained_pipe network from.0 to.0)
    which standing false = WasIdle refl

    by_stand : (up : Bool) → stands network to.0 from.0 ≡ up
        → IsShown plan (Deliver from to count) network seen
        (cond (up && (not (is_drained_pipe network from.0 to.0) || not (stands network from.0 to.0)))
        (cond (is_drained_pipe network from.0 to.0) (losing plan to from network) (delivering plan from to count network)) (idle network))
    by_stand true is = which is _
    by_stand false is = WasIdle refl
