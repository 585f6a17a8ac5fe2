-- What an edge makes of an input tells what it makes of connections and wires.
use Rattle.std.proofs.Common.{◌≡◌, ◌+◌, ◌&&◌, ◌∙◌, not, ℕ, zero, suc, Bool, true, false, List, [], ◌∷◌, Option, Some, None, length, refl, sym, ap}
use Rattle.net_base.specs.declared.plan.Plan.{Plan}
use Rattle.net_base.specs.declared.plan.places.EdgeId.{EdgeId}
use Rattle.net_base.specs.declared.plan.places.WireId.{WireId}
use Rattle.net_base.specs.declared.trace.down.Down.{Down}
use Rattle.net_base.specs.declared.trace.state_name.Reason.TheVariants as reason
use Rattle.session_core.specs.Table.{Closed, Ticked}
use Rattle.edge_model.specs.declared.effect.Effect.{Effect}
use Rattle.edge_model.specs.declared.effect.Effect.TheVariants as effect
use Rattle.edge_model.specs.Hear.{hears}
use Rattle.edge_model.specs.Mend.{mends}
use Rattle.edge_model.specs.Put.{put_replies}
use Rattle.edge_model.specs.Session.{ends, happens, happens_to, happens_with_ends}
use Rattle.edge_model.specs.State.{Peering, is_there, with_bits, with_kept, with_learned, with_peering, with_priority, with_renewed, with_ticks, with_wire}
use Rattle.edge_model.specs.Tick.{counted, forgetting, tick_input, ticks_sessions}
use Rattle.edge_model.specs.Wire.{turned_wire}
use Rattle.edge_model.specs.Work.{Work, changes, gives}
use Rattle.pw_messages.specs.LinkAnswers.{Answers}
use Rattle.edge_model.proofs.BridgeLemmas.{is_of_bridging}
use Rattle.edge_model.proofs.HeldLemmas.{clears_keep}
use Rattle.edge_model.proofs.SessionLemmas.{GivesOnly, are_all}
use Rattle.edge_model.proofs.WalkLemmas.{hears_holds, mends_holds}
use Rattle.flight_laws.specs.Meeting.{closes}
use Rattle.network_model.specs.State.{held_by}
use Rattle.seen_network.specs.Seen.{is_shown_up}
use Rattle.seen_laws.specs.Work.{TellsChanges, is_told_ended, up_after}
use Rattle.seen_laws.proofs.TellLemmas.{any, changes_tell, happens_with_ends_tells, hear_tells, mend_tells, tells_not, tells_then}

-- of no peer the edge hears
abbrev pub none : ℕ → Bool
none k = false

pub mends_tell : (plan : Plan) (told : Answers) (work : Work) → TellsChanges none work (mends plan told work)
mends_tell plan told work = mends_holds plan told (TellsChanges none) (mend_tells none plan told) work

-- the edge mends after something
pub then_mends : (plan : Plan) (told : Answers) (first work : Work) → TellsChanges none first work → TellsChanges none first (mends plan told work)
then_mends plan told first work tells = tells_then none first work (mends plan told work) tells (mends_tell plan told work)

-- ---- an end is lost

pub lost_tells : (plan : Plan) (told : Answers) (peer : EdgeId) (work : Work) → TellsChanges none work (mends plan told (happens_with_ends told peer (Closed reason.Closed) work))
lost_tells plan told peer work = then_mends plan told work (happens_with_ends told peer (Closed reason.Closed) work) (happens_with_ends_tells none told peer (Closed reason.Closed) work)

ended_gone : (peer : EdgeId) (why : Rattle.net_base.specs.declared.trace.state_name.Reason.Reason) (work : Work) → (ends peer why work).edge.peering peer.0 ≡ None
unfolding gives changes with_peering
ended_gone peer why work = rw (Rattle.net_values.proofs.NumberLemmas.same_number peer.0) refl

closed_gone : (told : Answers) (peer : EdgeId) (work : Work) → (happens_with_ends told peer (Closed reason.Closed) work).edge.peering peer.0 ≡ None
closed_gone told peer work = ap (λ (peering : ℕ → Option Peering). peering peer.0) (clears_keep peer (happens told peer (Closed reason.Closed) work)) ∙ to (work.edge.peering peer.0) refl where
  to : (kept : Option Peering) → work.edge.peering peer.0 ≡ kept → (happens_to told peer (Closed reason.Closed) kept work).edge.peering peer.0 ≡ None
  to None is = is
  to (Some kept) is = ended_gone peer reason.Closed (put_replies told peer [] work).work

-- the end is gone then
pub lost_gone : (plan : Plan) (told : Answers) (peer : EdgeId) (work : Work) → is_there ((mends plan told (happens_with_ends told peer (Closed reason.Closed) work)).edge.peering peer.0) ≡ false
lost_gone plan told peer work =
    let lost : Work = happens_with_ends told peer (Closed reason.Closed) work in
    let tells : TellsChanges none lost (mends plan told lost) = mends_tell plan told lost in
    tells.stands peer.0 ∙ ap (λ (o : Option Peering). is_there o && not (is_told_ended peer.0 tells.more)) (closed_gone told peer work)

-- ---- a tick

ticks_tell : (told : Answers) (place count : ℕ) (work : Work) → TellsChanges none work (ticks_sessions told place count work)
ticks_tell told place zero work = tells_not none work
ticks_tell told place (suc count) work =
    let first : Work = happens_with_ends told (record { 0 = place }) Ticked work in
    tells_then none work first (ticks_sessions told (place + 1) count first) (happens_with_ends_tells none told (record { 0 = place }) Ticked work) (ticks_tell told (place + 1) count first)

counted_tells : (work : Work) → TellsChanges none work (changes counted work)
unfolding with_kept with_ticks
counted_tells work = changes_tell none counted work refl refl refl refl

forgetting_tells : (plan : Plan) (work : Work) → TellsChanges none work (changes (forgetting plan) work)
unfolding with_learned
forgetting_tells plan work = changes_tell none (forgetting plan) work refl refl refl refl

pub tick_tells : (plan : Plan) (told : Answers) (work : Work) → TellsChanges none work (tick_input plan told work)
tick_tells plan told work =
    let first : Work = changes counted work in
    let ticked : Work = ticks_sessions told 0 (length plan.edges) first in
    then_mends plan told work (changes (forgetting plan) ticked)
    (tells_then none work first (changes (forgetting plan) ticked) (counted_tells work)
    (tells_then none first ticked (changes (forgetting plan) ticked) (ticks_tell told 0 (length plan.edges) first) (forgetting_tells plan ticked)))

-- ---- what is set

pub wire_tells : (wire : WireId) (on : Bool) (work : Work) → TellsChanges none work (changes (turned_wire wire on) work)
unfolding with_wire with_renewed
wire_tells wire true work = changes_tell none (turned_wire wire true) work refl refl refl refl
wire_tells wire false work = changes_tell none (turned_wire wire false) work refl refl refl refl

pub bits_tell : (wire : WireId) (bits : ℕ) (work : Work) → TellsChanges none work (changes (with_bits wire bits) work)
unfolding with_bits
bits_tell wire bits work = changes_tell none (with_bits wire bits) work refl refl refl refl

pub priority_tells : (wire : WireId) (priority : ℕ) (work : Work) → TellsChanges none work (changes (with_priority wire priority) work)
unfolding with_priority
priority_tells wire priority work = changes_tell none (with_priority wire priority) work refl refl refl refl

-- ---- frames, packets and pings

pub record TellsNothing (es : List Effect) : Type 0 where
  pub stays : (k : ℕ) → is_told_ended k es ≡ false
  pub shut : (k : ℕ) → closes k es ≡ false
  pub still : (wire : ℕ) (up : Bool) → up_after wire es up ≡ up

pub bridging_tells : (es : List Effect) → are_all is_of_bridging es ≡ true → TellsNothing es
bridging_tells [] own = record { stays = λ k. refl; shut = λ k. refl; still = λ wire up. refl }
bridging_tells (effect.Left circuit octets ∷ es) own = let rest = bridging_tells es own in record { stays = rest.stays; shut = rest.shut; still = rest.still }
bridging_tells (effect.Sent peer wire came octets ∷ es) own = let rest = bridging_tells es own in record { stays = rest.stays; shut = rest.shut; still = rest.still }
bridging_tells (effect.Dropped cause ∷ es) own = let rest = bridging_tells es own in record { stays = rest.stays; shut = rest.shut; still = rest.still }
bridging_tells (effect.Pong wire sequence ∷ es) own = let rest = bridging_tells es own in record { stays = rest.stays; shut = rest.shut; still = rest.still }
bridging_tells (effect.Said peer octets ∷ es) own = absurd (cc own)
bridging_tells (effect.Session peer name ∷ es) own = absurd (cc own)
bridging_tells (effect.Wire wire down ∷ es) own = absurd (cc own)
bridging_tells (effect.Closed peer ∷ es) own = absurd (cc own)

stays_there : (b x : Bool) → x ≡ false → b ≡ (b && not x)
stays_there true x is = ap (λ (y : Bool). not y) (sym is)
stays_there false x is = refl

pub bridged_tells : (old new : Work) → new.edge.me ≡ old.edge.me → new.edge.circuit_on ≡ old.edge.circuit_on → new.edge.peering ≡ old.edge.peering → new.edge.told_down
    ≡ old.edge.told_down → GivesOnly is_of_bridging old.effects new.effects → TellsChanges none old new
bridged_tells old new me circuits peering downs gives =
    let nothing : TellsNothing gives.more = bridging_tells gives.more gives.own in
    record {
      more = gives.more;
      given = gives.given;
      me = me;
      circuits = circuits;
      stands = λ k. ap (λ (p : ℕ → Option Peering). is_there (p k)) peering ∙ stays_there (is_there (old.edge.peering k)) (is_told_ended k gives.more) (nothing.stays k);
      shut = λ k. nothing.shut k ∙ sym (nothing.stays k);
      up = λ wire. ap (λ (d : ℕ → Option Down). is_shown_up (d wire)) downs ∙ sym (nothing.still wire (is_shown_up (old.edge.told_down wire)));
      kept = λ k apart there. ap (λ (p : ℕ → Option Peering). held_by (p k)) peering;
    }

-- ---- octets

pub hears_tell : (plan : Plan) (told : Answers) (peer : EdgeId) (octets : List ℕ) (work : Work) → TellsChanges any work (mends plan told (hears plan told peer octets work))
hears_tell plan told peer octets work =
    let heard : Work = hears plan told peer octets work in
    tells_then any work heard (mends plan told heard) (hears_holds plan told (TellsChanges any) (hear_tells plan told) peer octets work)
    (mends_holds plan told (TellsChanges any) (mend_tells any plan told) heard)
