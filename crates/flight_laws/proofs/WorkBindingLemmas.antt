-- An edge at work keeps what it leaves of the ends of wires, and what it holds of octets.
use Rattle.std.proofs.Common.{◌≡◌, ◌⊎◌, ◌++◌, ◌∙◌, ℕ, Bool, true, false, cond, nat_eq, List, [], Option, Some, None, refl, sym, ap, subst, inl, inr}
use Rattle.std.proofs.lemmas.Bool.{cases_Bool, eqb-true}
use Rattle.net_values.proofs.BoolLemmas.{clash}
use Rattle.net_base.specs.declared.plan.Plan.{Plan}
use Rattle.net_base.specs.declared.plan.places.EdgeId.{EdgeId}
use Rattle.net_base.specs.declared.plan.places.WireId.{WireId}
use Rattle.net_base.specs.declared.trace.state_name.Reason.TheVariants as reason
use Rattle.net_base.specs.plan.Accepted.{IsChecked}
use Rattle.ldp_grammar.specs.declared.message.Message.{Message}
use Rattle.pw_signalling.specs.declared.binding.Binding.{Binding}
use Rattle.pw_signalling.specs.End.{EndState, LocalPart, Idle, Advertised, Withdrawing}
use Rattle.pw_signalling.specs.Rows.{renew_part, renewed}
use Rattle.session_core.specs.declared.peers.Peers.{Peers}
use Rattle.session_core.specs.Table.{SessionEvent, Outcome, Stay, Goes, Ends, Closed, Ticked, outcome_of}
use Rattle.edge_model.specs.Put.{put_replies}
use Rattle.edge_model.specs.Session.{comes_of, happens, happens_with_ends, says, with_session}
use Rattle.edge_model.specs.State.{EdgeState, Peering, is_there, with_bits, with_renewed, with_wire}
use Rattle.edge_model.specs.Wire.{turned_wire}
use Rattle.edge_model.specs.Work.{Work, changes}
use Rattle.edge_model.proofs.FitLemmas.{turned_wire_keeps}
use Rattle.edge_model.proofs.HeldLemmas.{ended_gone, clears_keep}
use Rattle.network_model.specs.Absorb.{taken_all}
use Rattle.network_model.specs.State.{NetworkState, held_by}
use Rattle.flight_laws.specs.Bound.{AreAnswers, AreBound, AreBoundBy, given_of, HasSaid, IsBoundBy, LeavesBound}
use Rattle.flight_laws.specs.Coming.{and_more}
use Rattle.flight_laws.specs.Ends.{HasTypes, WorksOn, ends_at}
use Rattle.flight_laws.specs.Facts.{LeavesFor, flight}
use Rattle.flight_laws.specs.Meeting.{IsFine, ShowsPlace, closes, said_to}
use Rattle.flight_laws.specs.Messages.{AreSaid, octets_of_all}
use Rattle.flight_laws.specs.Pair.{AreTalking, IsStanding, StayInStep}
use Rattle.flight_laws.proofs.BindingLemmas.{binding_renews}
use Rattle.flight_laws.proofs.ActBindingLemmas.{spared_leaves}
use Rattle.flight_laws.proofs.GivenLemmas.{given_on}
use Rattle.flight_laws.proofs.EventBindingLemmas.{event_spare, leaves_event, leaves_no_event}
use Rattle.flight_laws.proofs.LeaveLemmas.{leaves_same}
use Rattle.flight_laws.proofs.MeetLemmas.{goes_shows}
use Rattle.flight_laws.proofs.ReactLemmas.{closed_in_step, ticked_in_step}
use Rattle.flight_laws.proofs.RowBindingLemmas.{LeavesAll, SaysAll, rows_leave}
use Rattle.flight_laws.proofs.SayLemmas.{says_none, says_spares}
use Rattle.flight_laws.proofs.SpokenLemmas.{says_spoken}
use Rattle.flight_laws.proofs.SteadyLemmas.{IsSteady, steady_rows}
use Rattle.flight_laws.proofs.UniqueLemmas.{said_once}
use Rattle.flight_laws.proofs.WorkingLemmas.{KeptByWork}
use Rattle.flight_laws.proofs.WorksLemmas.{changed_edge, gives_spares, works_kept, works_steady, no_end, put_held}

-- ---- octets that are held

-- these octets are held, where the end stands
abbrev pub HoldsOctets : List ℕ → Option Peering → Type 0
HoldsOctets held None = Unit {0}
HoldsOctets held (Some kept) = kept.held ≡ held

-- of each place but those where a test passes
abbrev pub HoldsAll : (ℕ → Bool) → (ℕ → List ℕ) → Work → Type 0
HoldsAll besides held work = (place : ℕ) → besides place ≡ false → HoldsOctets (held place) (work.edge.peering place)

says_holds : (place : ℕ) (held : List ℕ) (peer : EdgeId) (message : ℕ → Message) (work : Work) → HoldsOctets held (work.edge.peering place)
    → HoldsOctets held ((says taken_all peer message work).work.edge.peering place)
says_holds place held peer message work holds = elim (cases_Bool (nat_eq place peer.0)) [
  | inl same ↦ subst (λ (k : ℕ). HoldsOctets held ((says taken_all peer message work).work.edge.peering k)) (sym (eqb-true place peer.0 same))
      (here (work.edge.peering peer.0) refl (subst (λ (k : ℕ). HoldsOctets held (work.edge.peering k)) (eqb-true place peer.0 same) holds))
  | inr apart ↦ subst (HoldsOctets held) (sym (says_spares place peer message work apart).kept) holds
]
  where
    here : (near : Option Peering) → work.edge.peering peer.0 ≡ near → HoldsOctets held (work.edge.peering peer.0) → HoldsOctets held ((says taken_all peer message work).work.edge.peering peer.0)
    here None at is = subst (λ (w : Work). HoldsOctets held (w.edge.peering peer.0)) (sym (says_none peer message work at)) is
    here (Some kept) at is = subst (HoldsOctets held) (sym (says_spoken peer kept message work at).here) (rw at at is)

-- calm steps keep them
pub held_steady : (plan : Plan) (me : EdgeId) (I : Work → Type 0) (besides : ℕ → Bool) (held : ℕ → List ℕ) → IsSteady plan me I → IsSteady plan me (λ work. I work × HoldsAll besides held work)
held_steady plan me I besides held steady = record {
  placed = λ work i. steady.placed work i.0;
  sound = λ work i. steady.sound work i.0;
  changes = λ change work kept place sound i. (
    steady.changes change work kept place sound i.0,
    λ place here. subst (HoldsOctets (held place)) (sym (ap (λ (e : EdgeState). e.peering place) (changed_edge change work) ∙ ap (λ (f : ℕ → Option Peering). f place) kept)) (i.1 place here),
  );
  gives = λ e work silent i. (steady.gives e work silent i.0, λ place here. subst (HoldsOctets (held place)) (sym (gives_spares place e work silent).kept) (i.1 place here));
  says = λ peer message work up is i. (steady.says peer message work up is i.0, λ place here. says_holds place (held place) peer message work (i.1 place here));
}

comes_holds : (me peer : EdgeId) (kept : Peering) (said : List ℕ) (work : Work) (o : Outcome) → ShowsPlace peer.0 work (Some kept) said false → IsFine me work
    → HoldsOctets kept.held ((comes_of taken_all peer kept o work).edge.peering peer.0)
comes_holds me peer kept said work Stay shows fine = subst (HoldsOctets kept.held) (sym shows.keeps) refl
comes_holds me peer kept said work (Goes next replies) shows fine =
    subst (HoldsOctets kept.held) (sym (goes_shows me peer kept next replies said work shows fine).0.keeps) (put_held replies (with_session next kept))
comes_holds me peer kept said work (Ends why replies) shows fine = subst (HoldsOctets kept.held) (sym (ended_gone peer why (put_replies taken_all peer replies work).work)) tt

-- and so does an event of a session
pub event_holds : (me peer : EdgeId) (place : ℕ) (held : List ℕ) (event : SessionEvent) (work : Work) → IsFine me work
    → ((kept : Peering) → work.edge.peering peer.0 ≡ Some kept → closes peer.0 work.effects ≡ false)
    → HoldsOctets held (work.edge.peering place) → HoldsOctets held ((happens_with_ends taken_all peer event work).edge.peering place)
event_holds me peer place held event work fine unclosed holds = elim (cases_Bool (nat_eq place peer.0)) [
  | inl same ↦ subst (λ (k : ℕ). HoldsOctets held ((happens_with_ends taken_all peer event work).edge.peering k)) (sym (eqb-true place peer.0 same))
      (subst (HoldsOctets held) (sym (ap (λ (f : ℕ → Option Peering). f peer.0) (clears_keep peer (happens taken_all peer event work))))
      (here (work.edge.peering peer.0) refl (subst (λ (k : ℕ). HoldsOctets held (work.edge.peering k)) (eqb-true place peer.0 same) holds)))
  | inr apart ↦ subst (HoldsOctets held) (sym (event_spare place peer event work apart).spares.kept) holds
]
  where
    moved : (kept : Peering) (near : Option Peering) → kept.held ≡ held → HoldsOctets kept.held near → HoldsOctets held near
    moved kept None is holds = tt
    moved kept (Some now) is holds = holds ∙ is

    here : (near : Option Peering) → work.edge.peering peer.0 ≡ near → HoldsOctets held (work.edge.peering peer.0) → HoldsOctets held ((happens taken_all peer event work).edge.peering peer.0)
    here None at is = rw at is
    here (Some kept) at is = rw at (moved kept ((comes_of taken_all peer kept (outcome_of kept.session event) work).edge.peering peer.0) (rw at at is)
        (comes_holds me peer kept (said_to peer.0 work.effects) work (outcome_of kept.session event) (record { keeps = at; says = refl; ended = unclosed kept at }) fine))

-- ---- ends that are declined no longer

renewed_bound : (pw_id : ℕ) (next : ℕ → Bool) (near : LocalPart) (far : Option Binding) (out back : List Message) → IsBoundBy pw_id next near far out back
    → IsBoundBy pw_id next (renew_part near) far out back
renewed_bound pw_id next (Idle declined) far out back is = binding_renews pw_id next declined far out back is
renewed_bound pw_id next (Advertised label told) far out back is = is
renewed_bound pw_id next (Withdrawing label) far out back is = is

turned_end : (wire : WireId) (on : Bool) (edge : EdgeState) (k place : ℕ) → ((turned_wire wire on edge).ends k place ≡ edge.ends k place)
    ⊎ ((turned_wire wire on edge).ends k place ≡ renewed (edge.ends k place))
unfolding with_renewed with_wire
turned_end wire true edge k place = elim (cases_Bool (nat_eq k wire.0)) [
  | inl same ↦ inr (rw same refl)
  | inr apart ↦ inl (rw apart refl)
]
turned_end wire false edge k place = inl refl

turned_label : (wire : WireId) (on : Bool) (edge : EdgeState) → given_of (turned_wire wire on edge) ≡ given_of edge
unfolding with_renewed with_wire
turned_label wire true edge = refl
turned_label wire false edge = refl

turned_bound : (plan : Plan) (a b : ℕ) (wire : WireId) (on : Bool) (edge other : EdgeState) (out back : List Message) → AreBound plan a b edge other out back
    → AreBound plan a b (turned_wire wire on edge) other out back
turned_bound plan a b wire on edge other out back bound = record {
  near = λ w row is joined. subst (λ (n : ℕ → Bool). IsBoundBy row.pw_id n ((turned_wire wire on edge).ends w.0 b).local (other.ends w.0 a).remote out back) (sym (turned_label wire on edge))
      (either (turned_end wire on edge w.0 b) (λ (e : EndState). IsBoundBy row.pw_id (given_of edge) e.local (other.ends w.0 a).remote out back) (bound.near w row is joined)
      (renewed_bound row.pw_id (given_of edge) (edge.ends w.0 b).local (other.ends w.0 a).remote out back (bound.near w row is joined)));
  far = λ w row is joined. either (turned_end wire on edge w.0 b) (λ (e : EndState). IsBoundBy row.pw_id (given_of other) (other.ends w.0 a).local e.remote back out)
      (bound.far w row is joined) (bound.far w row is joined);
}
  where
    either : {x y z : EndState} → (x ≡ y) ⊎ (x ≡ z) → (P : EndState → Type 0) → P y → P z → P x
    either (inl is) P one two = subst P (sym is) one
    either (inr is) P one two = subst P (sym is) two

bits_bound : (plan : Plan) (a b : ℕ) (wire : WireId) (bits : ℕ) (edge other : EdgeState) (out back : List Message) → AreBound plan a b edge other out back
    → AreBound plan a b (with_bits wire bits edge) other out back
unfolding with_bits
bits_bound plan a b wire bits edge other out back bound = record { near = bound.near; far = bound.far }

-- a change that says nothing
changed_leaves : (plan : Plan) (me : EdgeId) (place : ℕ) (far : EdgeState) (out : List ℕ) (answers : List Message) (change : EdgeState → EdgeState) (work : Work)
    → (change work.edge).peering ≡ work.edge.peering
    → ((ms : List Message) → AreBound plan me.0 place work.edge far ms answers → AreBound plan me.0 place (change work.edge) far ms answers)
    → LeavesBound plan me place far out answers work → LeavesBound plan me place far out answers (changes change work)
unfolding changes
changed_leaves plan me place far out answers change work kept follows leaves = record {
  bound = λ ms are is near other. follows ms (leaves.bound ms are is (sym (ap (λ (f : ℕ → Option Peering). is_there (f place)) kept) ∙ near) other);
}

bits_peering : (wire : WireId) (bits : ℕ) (edge : EdgeState) → (with_bits wire bits edge).peering ≡ edge.peering
unfolding with_bits
bits_peering wire bits edge = refl

changed_held : (besides : ℕ → Bool) (held : ℕ → List ℕ) (change : EdgeState → EdgeState) (work : Work) → (change work.edge).peering ≡ work.edge.peering → HoldsAll besides held work
    → HoldsAll besides held (changes change work)
changed_held besides held change work same holds place here =
    subst (HoldsOctets (held place)) (sym (ap (λ (e : EdgeState). e.peering place) (changed_edge change work) ∙ ap (λ (f : ℕ → Option Peering). f place) same)) (holds place here)

-- what is left of a place, by octets
pub leaves_by_octets : (plan : Plan) (network : NetworkState) (me : EdgeId) (place : ℕ) (held : List ℕ) (answers : List Message) (work : Work) → AreAnswers plan network me place held answers
    → HasSaid plan me place (network.edges place) (flight network me.0 place) work → HoldsOctets held (work.edge.peering place)
    → ((kept : Peering) → work.edge.peering place ≡ Some kept → closes place work.effects ≡ false)
    → LeavesBound plan me place (network.edges place) (flight network me.0 place) answers work → LeavesFor (AreBoundBy plan) network me work place
leaves_by_octets plan network me place held answers work are has holds unclosed leaves = record {
  bound = λ messages others said other_said out_is back_is near far. by_end messages others said other_said out_is back_is far (work.edge.peering place) refl near;
}
  where
    by_end : (messages others : List Message) → AreSaid (ends_at plan me.0 place) messages → AreSaid (ends_at plan place me.0) others
        → and_more ((network.edges place).peering me.0) (flight network me.0 place) (said_to place work.effects) ≡ octets_of_all (ends_at plan me.0 place).me messages
        → held_by (work.edge.peering place) ++ cond (closes place work.effects) [] (network.pipes place me.0) ≡ octets_of_all (ends_at plan place me.0).me others
        → is_there ((network.edges place).peering me.0) ≡ true → (near : Option Peering) → work.edge.peering place ≡ near → is_there (work.edge.peering place) ≡ true
        → AreBound plan me.0 place work.edge (network.edges place) messages others
    by_end messages others said other_said out_is back_is far None at near = clash (sym (ap is_there at) ∙ near)
    by_end messages others said other_said out_is back_is far (Some kept) at near =
        let standing : IsStanding (ends_at plan me.0 place) (ends_at plan place me.0) kept = rw at at has.talk.here in
        let held_is : kept.held ≡ held = rw at at holds in
        let open_end : closes place work.effects ≡ false = unclosed kept at in
        let back : kept.held ++ network.pipes place me.0 ≡ octets_of_all (ends_at plan place me.0).me others = rw (at, open_end) at back_is in
        let same : answers ≡ others = said_once (ends_at plan place me.0) answers others standing.between.two are.said other_said
        (sym are.octets ∙ (ap (λ (l : List ℕ). l ++ network.pipes place me.0) (sym held_is) ∙ back)) in
        subst (AreBound plan me.0 place work.edge (network.edges place) messages) same (leaves.bound messages said out_is near far)

-- no place
abbrev pub no_place : ℕ → Bool
no_place place = false

module _ (plan : Plan) (network : NetworkState) (me : EdgeId) (checked : IsChecked plan) (types : HasTypes plan) (held : ℕ → List ℕ) (answers : ℕ → List Message) where
  -- an edge at work: in order, with these octets held, and with the ends of wires of each place bound
  abbrev pub WorksHeld : Work → Type 0
  WorksHeld work = WorksOn plan network me work × HoldsAll no_place held work

  abbrev pub LeavesThese : Work → Type 0
  LeavesThese work = LeavesAll plan me checked network.edges (flight network me.0) answers work

  abbrev pub WorksBound : Work → Type 0
  WorksBound work = WorksHeld work × LeavesThese work

  all_said : (work : Work) → WorksOn plan network me work → SaysAll plan me checked network.edges (flight network me.0) answers work
  all_said work works place away = let left = (works.left place away).leaves in record { messages = left.messages; answers = left.answers; out_is = left.out_is; talk = left.talk }

  held_works : IsSteady plan me WorksHeld
  held_works = held_steady plan me (WorksOn plan network me) no_place held (works_steady plan network me)

  event_works : (peer : EdgeId) (event : SessionEvent) (work : Work)
      → ((own other : Peers) (kept : Peering) (far : Option Peering) (ms rest : List Message) → AreTalking own other (Some kept) far ms rest
      → StayInStep own other kept far ms rest (outcome_of kept.session event))
      → WorksOn plan network me work → LeavesThese work → LeavesThese (happens_with_ends taken_all peer event work)
  event_works peer event work step works leaves place away = elim (cases_Bool (nat_eq place peer.0)) [
    | inl same ↦ subst (λ (k : ℕ). LeavesBound plan me k (network.edges k) (flight network me.0 k) (answers k) (happens_with_ends taken_all peer event work)) (sym (eqb-true place peer.0 same))
        (by_end (subst (λ (k : ℕ). nat_eq k me.0 ≡ false) (eqb-true place peer.0 same) away) (work.edge.peering peer.0) refl)
    | inr other ↦ spared_leaves plan me place (network.edges place) (flight network me.0 place) (answers place) work (happens_with_ends taken_all peer event work)
        (event_spare place peer event work other) (leaves place away)
  ]
    where
      by_end : nat_eq peer.0 me.0 ≡ false → (near : Option Peering) → work.edge.peering peer.0 ≡ near
          → LeavesBound plan me peer.0 (network.edges peer.0) (flight network me.0 peer.0) (answers peer.0) (happens_with_ends taken_all peer event work)
      by_end off None at = leaves_no_event plan me peer (network.edges peer.0) (flight network me.0 peer.0) (answers peer.0) event work at
      by_end off (Some kept) at =
          let has : HasSaid plan me peer.0 (network.edges peer.0) (flight network me.0 peer.0) work = all_said work works peer.0 off in
          leaves_event plan me peer (network.edges peer.0) (flight network me.0 peer.0) (answers peer.0) (answers peer.0) has.answers event kept work has works.fine at
          ((works.left peer.0 off).unclosed kept at)
          (step (ends_at plan me.0 peer.0) (ends_at plan peer.0 me.0) kept ((network.edges peer.0).peering me.0) has.messages has.answers (rw at at has.talk)) (λ goes ms bound. bound)
          (leaves peer.0 off)

  event_held : (peer : EdgeId) (event : SessionEvent) (work : Work) → WorksOn plan network me work → HoldsAll no_place held work → HoldsAll no_place held (happens_with_ends taken_all peer event work)
  event_held peer event work works holds place here =
      event_holds me peer place (held place) event work works.fine (λ kept at. unclosed kept at (cases_Bool (nat_eq peer.0 me.0))) (holds place here)
    where
      unclosed : (kept : Peering) → work.edge.peering peer.0 ≡ Some kept → (nat_eq peer.0 me.0 ≡ true) ⊎ (nat_eq peer.0 me.0 ≡ false) → closes peer.0 work.effects ≡ false
      unclosed kept at (inl same) = absurd (no_end kept (sym works.alone ∙ (ap work.edge.peering (sym (eqb-true peer.0 me.0 same)) ∙ at)))
      unclosed kept at (inr away) = (works.left peer.0 away).unclosed kept at

  pub bound_work_kept : KeptByWork plan me WorksBound
  bound_work_kept =
      let base : KeptByWork plan me (WorksOn plan network me) = works_kept plan network me checked types in
      record {
        rows = rows_leave plan me checked network.edges (flight network me.0) answers types WorksHeld (steady_rows plan me checked types WorksHeld held_works)
            (λ work works. works.0.sound) (λ work works. all_said work works.0);
        closed = λ peer work all. (
          (base.closed peer work all.0.0, event_held peer (Closed reason.Closed) work all.0.0 all.0.1),
          event_works peer (Closed reason.Closed) work (λ own other kept far ms rest t. closed_in_step own other kept far ms rest t) all.0.0 all.1,
        );
        ticked = λ peer work all. (
          (base.ticked peer work all.0.0, event_held peer Ticked work all.0.0 all.0.1),
          event_works peer Ticked work (λ own other kept far ms rest t. ticked_in_step own other kept far ms rest t) all.0.0 all.1,
        );
        bridges = λ old new bridged all. (
          (base.bridges old new bridged all.0.0, λ place here. subst (HoldsOctets (held place)) (sym (ap (λ (f : ℕ → Option Peering). f place) bridged.peering)) (all.0.1 place here)),
          λ place away. leaves_same plan me place (network.edges place) (flight network me.0 place) (answers place) old new (bridged.said place)
              (λ near. sym (ap (λ (f : ℕ → Option Peering). is_there (f place)) bridged.peering) ∙ near)
              (record { label = given_on old.edge new.edge bridged.keeps.next_label bridged.keeps.kept; ends = λ wire. ap (λ (f : ℕ → ℕ → EndState). f wire place) bridged.keeps.ends })
              (all.1 place away),
        );
        turned = λ wire on work all. (
          (base.turned wire on work all.0.0, changed_held no_place held (turned_wire wire on) work (turned_wire_keeps wire on work.edge) all.0.1),
          λ place away. changed_leaves plan me place (network.edges place) (flight network me.0 place) (answers place) (turned_wire wire on) work (turned_wire_keeps wire on work.edge)
              (λ ms bound. turned_bound plan me.0 place wire on work.edge (network.edges place) ms (answers place) bound) (all.1 place away),
        );
        bits = λ wire bits work few all. (
          (base.bits wire bits work few all.0.0, changed_held no_place held (with_bits wire bits) work (bits_peering wire bits work.edge) all.0.1),
          λ place away. changed_leaves plan me place (network.edges place) (flight network me.0 place) (answers place) (with_bits wire bits) work (bits_peering wire bits work.edge)
              (λ ms bound. bits_bound plan me.0 place wire bits work.edge (network.edges place) ms (answers place) bound) (all.1 place away),
        );
      }

  -- what it leaves of a place, by octets
  pub leaves_octets : ((place : ℕ) → nat_eq place me.0 ≡ false → AreAnswers plan network me place (held place) (answers place)) → (work : Work) → WorksBound work → (place : ℕ)
      → nat_eq place me.0 ≡ false
      → LeavesFor (AreBoundBy plan) network me work place
  leaves_octets are work all place away =
      leaves_by_octets plan network me place (held place) (answers place) work (are place away) (all_said work all.0.0 place away) (all.0.1 place refl)
      (λ kept at. (all.0.0.left place away).unclosed kept at) (all.1 place away)
