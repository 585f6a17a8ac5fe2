-- An edge at work, and one that hears a neighbour, say messages of their ends.
use Rattle.std.proofs.Common.{◌≡◌, ◌∙◌, ℕ, false, nat_eq, List, ◌∷◌, Option, Some, None, true, refl, sym, ap, subst, inl, inr}
use Rattle.std.proofs.lemmas.Bool.{cases_Bool, eqb-true}
use Rattle.net_values.proofs.BoolLemmas.{clash}
use Rattle.net_base.specs.declared.plan.Plan.{Plan}
use Rattle.net_base.specs.declared.plan.places.EdgeId.{EdgeId}
use Rattle.net_base.specs.declared.trace.state_name.Reason.TheVariants as reason
use Rattle.net_base.specs.plan.Accepted.{IsChecked}
use Rattle.ldp_grammar.specs.declared.message.Message.{Message}
use Rattle.session_core.specs.declared.peers.Peers.{Peers}
use Rattle.session_core.specs.Table.{Heard, Received, Ticked, Closed}
use Rattle.pw_messages.specs.Sender.{platform_of}
use Rattle.edge_model.specs.Mend.{is_operational, is_up_with}
use Rattle.edge_model.specs.Put.{Spoken}
use Rattle.edge_model.specs.Session.{happens_with_ends, says}
use Rattle.edge_model.specs.State.{Peering, with_bits}
use Rattle.edge_model.specs.Wire.{turned_wire}
use Rattle.edge_model.specs.Work.{Work}
use Rattle.edge_model.proofs.MendLemmas.{says_taken}
use Rattle.network_model.specs.Absorb.{taken_all}
use Rattle.network_model.specs.State.{NetworkState}
use Rattle.flight_laws.specs.Ends.{HasTypes, WorksOn, ends_at}
use Rattle.flight_laws.specs.Pair.{AreTalking, IsStanding, StandsIf}
use Rattle.flight_laws.proofs.ActLemmas.{steady_acts}
use Rattle.flight_laws.proofs.HearLemmas.{HearsOn, hears_kept, hears_steady}
use Rattle.flight_laws.proofs.HearingLemmas.{KeptByHearing, KeptByMessages, message_heard}
use Rattle.flight_laws.proofs.OfferLemmas.{IsOfWires}
use Rattle.flight_laws.proofs.SteadyLemmas.{IsSteady, steady_rows}
use Rattle.flight_laws.proofs.WorkingLemmas.{KeptByWork}
use Rattle.flight_laws.proofs.WorksLemmas.{works_kept, works_steady}
use Rattle.spelling_laws.proofs.PutLemmas.{AllTell, Speaks, bridges_tell, changes_tell, gives_tell, message_tells, speaks_by, unsaid_tells}
use Rattle.spelling_laws.proofs.SessionLemmas.{closed_says, event_tells, heard_says, received_says, ticked_says}

-- ---- steady work

-- what is steady, and says by the plan where an end stands
module _ (plan : Plan) (me : EdgeId) (I : Work → Type 0) (base : IsSteady plan me I)
    (standing : (work : Work) → I work → (k : ℕ) (kept : Peering) → work.edge.peering k ≡ Some kept → Speaks (ends_at plan me.0 k) kept) where
  abbrev pub Telling : Work → Type 0
  Telling work = I work × AllTell plan me.0 work.effects

  says_tells : (to : EdgeId) (message : ℕ → Message) (work : Work) → is_up_with (work.edge.peering to.0) ≡ true → IsOfWires message → Telling work
      → AllTell plan me.0 (says taken_all to message work).work.effects
  says_tells to message work up is i = by (work.edge.peering to.0) refl where
    by : (near : Option Peering) → work.edge.peering to.0 ≡ near → AllTell plan me.0 (says taken_all to message work).work.effects
    by None at = clash (sym (ap is_up_with at) ∙ up)
    by (Some kept) at =
        let speaks : Speaks (ends_at plan me.0 to.0) kept = standing work i.0 to.0 kept at in
        subst (AllTell plan me.0) (sym (ap (λ (s : Spoken). s.work.effects) (says_taken taken_all to message kept work refl at)))
        (message_tells plan me to message kept work speaks (is.said (ends_at plan me.0 to.0) kept.next_id speaks.low) i.1)

  pub telling_steady : IsSteady plan me Telling
  telling_steady = record {
    placed = λ work i. base.placed work i.0;
    sound = λ work i. base.sound work i.0;
    changes = λ change work kept me_is sound i. (base.changes change work kept me_is sound i.0, changes_tell plan me.0 change work i.1);
    gives = λ e work silent i. (base.gives e work silent i.0, gives_tell plan me.0 e work (unsaid_tells plan me.0 e silent.unsaid) i.1);
    says = λ to message work up is i. (base.says to message work up is i.0, says_tells to message work up is i);
  }

-- ---- ends that stand

no_end : {kept : Peering} → None ≡ Some kept → ⊥
no_end e = cc

pub works_standing : (plan : Plan) (network : NetworkState) (me : EdgeId) (work : Work) → WorksOn plan network me work → (k : ℕ) (kept : Peering) → work.edge.peering k ≡ Some kept
    → Speaks (ends_at plan me.0 k) kept
works_standing plan network me work works k kept at = elim (cases_Bool (nat_eq k me.0)) [
  | inl mine ↦ absurd (no_end (sym (subst (λ (n : ℕ). work.edge.peering n ≡ None) (sym (eqb-true k me.0 mine)) works.alone) ∙ at))
  | inr gone ↦ speaks_by (ends_at plan me.0 k) (ends_at plan k me.0) kept (subst (StandsIf (ends_at plan me.0 k) (ends_at plan k me.0)) at (works.left k gone).leaves.talk.here)
]

pub hears_standing : (plan : Plan) (network : NetworkState) (me peer : EdgeId) (messages : List Message) (work : Work) → HearsOn plan network me peer messages work → (k : ℕ) (kept : Peering)
    → work.edge.peering k ≡ Some kept → Speaks (ends_at plan me.0 k) kept
hears_standing plan network me peer messages work hears k kept at = elim (cases_Bool (nat_eq k peer.0)) [
  | inl same ↦ subst (λ (n : ℕ). Speaks (ends_at plan me.0 n) kept) (sym (eqb-true k peer.0 same)) (at_peer (subst (λ (n : ℕ). work.edge.peering n ≡ Some kept) (eqb-true k peer.0 same) at))
  | inr away ↦ elsewhere away
]
  where
    at_peer : work.edge.peering peer.0 ≡ Some kept → Speaks (ends_at plan me.0 peer.0) kept
    at_peer there = speaks_by (ends_at plan me.0 peer.0) (ends_at plan peer.0 me.0) kept (subst (StandsIf (ends_at plan me.0 peer.0) (ends_at plan peer.0 me.0)) there hears.meets.talk.here)

    elsewhere : nat_eq k peer.0 ≡ false → Speaks (ends_at plan me.0 k) kept
    elsewhere away = elim (cases_Bool (nat_eq k me.0)) [
      | inl mine ↦ absurd (no_end (sym (subst (λ (n : ℕ). work.edge.peering n ≡ None) (sym (eqb-true k me.0 mine)) hears.alone) ∙ at))
      | inr gone ↦ speaks_by (ends_at plan me.0 k) (ends_at plan k me.0) kept (subst (StandsIf (ends_at plan me.0 k) (ends_at plan k me.0)) at (hears.left k gone away).leaves.talk.here)
    ]

-- what the two ends have to say to each other
pub talk_at : (plan : Plan) (network : NetworkState) (me peer : EdgeId) (messages : List Message) (kept : Peering) (work : Work) → work.edge.peering peer.0 ≡ Some kept
    → (hears : HearsOn plan network me peer messages work)
    → AreTalking (ends_at plan me.0 peer.0) (ends_at plan peer.0 me.0) (Some kept) ((network.edges peer.0).peering me.0) hears.meets.messages messages
talk_at plan network me peer messages kept work at hears = rw at at hears.meets.talk

-- ---- an edge at work

module _ (plan : Plan) (network : NetworkState) (me : EdgeId) (checked : IsChecked plan) (types : HasTypes plan) where
  abbrev pub Works : Work → Type 0
  Works = Telling plan me (WorksOn plan network me) (works_steady plan network me) (works_standing plan network me)

  pub works_told : KeptByWork plan me Works
  works_told =
      let base : KeptByWork plan me (WorksOn plan network me) = works_kept plan network me checked types in
      record {
        rows = steady_rows plan me checked types Works (telling_steady plan me (WorksOn plan network me) (works_steady plan network me) (works_standing plan network me));
        closed = λ peer work i. (
          base.closed peer work i.0,
          event_tells plan me peer (Closed reason.Closed) work (λ kept at. (works_standing plan network me work i.0 peer.0 kept at, closed_says (ends_at plan me.0 peer.0) kept)) i.1,
        );
        ticked = λ peer work i. (
          base.ticked peer work i.0,
          event_tells plan me peer Ticked work (λ kept at. (
            works_standing plan network me work i.0 peer.0 kept at,
            ticked_says (ends_at plan me.0 peer.0) kept (works_standing plan network me work i.0 peer.0 kept at),
          )) i.1,
        );
        bridges = λ old new bridged i. (base.bridges old new bridged i.0, bridges_tell plan me.0 old.effects new.effects bridged.effects i.1);
        turned = λ wire on work i. (base.turned wire on work i.0, changes_tell plan me.0 (turned_wire wire on) work i.1);
        bits = λ wire bits work few i. (base.bits wire bits work few i.0, changes_tell plan me.0 (with_bits wire bits) work i.1);
      }

-- ---- an edge that hears a neighbour

module _ (plan : Plan) (network : NetworkState) (me peer : EdgeId) (apart : nat_eq me.0 peer.0 ≡ false) (checked : IsChecked plan) (types : HasTypes plan) where
  abbrev own : Peers
  own = ends_at plan me.0 peer.0

  abbrev other : Peers
  other = ends_at plan peer.0 me.0

  abbrev pub Hears : List Message → Work → Type 0
  Hears messages = Telling plan me (HearsOn plan network me peer messages) (hears_steady plan network me peer apart messages) (hears_standing plan network me peer messages)

  steady : (messages : List Message) → IsSteady plan me (Hears messages)
  steady messages = telling_steady plan me (HearsOn plan network me peer messages) (hears_steady plan network me peer apart messages) (hears_standing plan network me peer messages)

  stands_at : (messages : List Message) (kept : Peering) (work : Work) → work.edge.peering peer.0 ≡ Some kept → HearsOn plan network me peer messages work → IsStanding own other kept
  stands_at messages kept work at hears = subst (StandsIf own other) at hears.meets.talk.here

  sender_tells : (messages : List Message) (work : Work) → Hears messages work → AllTell plan me.0 (happens_with_ends taken_all peer (Heard (platform_of other.me)) work).effects
  sender_tells messages work i = event_tells plan me peer (Heard (platform_of other.me)) work (λ kept at. (
    hears_standing plan network me peer messages work i.0 peer.0 kept at,
    heard_says own other kept (stands_at messages kept work at i.0),
  )) i.1

  message_tells_on : (m : Message) (messages : List Message) (work : Work) → Hears (m ∷ messages) work → AllTell plan me.0 (happens_with_ends taken_all peer (Received m) work).effects
  message_tells_on m messages work i = event_tells plan me peer (Received m) work (λ kept at. (
    hears_standing plan network me peer (m ∷ messages) work i.0 peer.0 kept at,
    received_says own other kept ((network.edges peer.0).peering me.0) i.0.meets.messages messages m (talk_at plan network me peer (m ∷ messages) kept work at i.0),
  )) i.1

  pub hears_told : KeptByMessages plan peer other Hears
  hears_told =
      let base : KeptByHearing plan me peer other (HearsOn plan network me peer) = hears_kept plan network me peer apart checked types in
      message_heard plan me peer other Hears (record {
        window = λ messages kept work at i. base.window messages kept work at i.0;
        sender = λ messages work i. (base.sender messages work i.0, sender_tells messages work i);
        gone = λ m messages work at i. (base.gone m messages work at i.0, i.1);
        event = λ m messages kept work at said why i. (base.event m messages kept work at said why i.0, message_tells_on m messages work i);
        acts = λ m messages kept work at up said plain pseudowires i. (
          base.acts m messages kept work at up said plain pseudowires i.0,
          (steady_acts plan me peer other (Hears (m ∷ messages)) (steady (m ∷ messages)) m work said pseudowires (rw at (ap is_operational up)) i).1,
        );
        goes_by = λ m messages kept work at up said addresses i. (base.goes_by m messages kept work at up said addresses i.0, i.1);
        mends = λ messages. steady_rows plan me checked types (Hears messages) (steady messages);
      })
