-- An edge that has heard octets of a neighbour leaves the ends of wires bound.
use Rattle.std.proofs.Common.{◌≡◌, ◌∙◌, ℕ, Bool, true, false, cond, nat_eq, List, ◌∷◌, Option, Some, None, refl, sym, ap, subst, inl, inr}
use Rattle.std.proofs.lemmas.Bool.{cases_Bool, eqb-true}
use Rattle.net_values.proofs.NumberLemmas.{same_number}
use Rattle.net_base.specs.declared.plan.Plan.{Plan}
use Rattle.net_base.specs.declared.plan.places.EdgeId.{EdgeId}
use Rattle.net_base.specs.plan.Accepted.{IsChecked}
use Rattle.ldp_grammar.specs.declared.message.Message.{Message}
use Rattle.session_core.specs.declared.peers.Peers.{Peers}
use Rattle.session_core.specs.Table.{SessionEvent, Heard, Received}
use Rattle.pw_messages.specs.Sender.{platform_of}
use Rattle.edge_model.specs.Hear.{holds}
use Rattle.edge_model.specs.Mend.{is_operational}
use Rattle.edge_model.specs.Session.{happens_with_ends}
use Rattle.edge_model.specs.State.{Peering, is_there, with_peering}
use Rattle.edge_model.specs.Work.{Work, changes}
use Rattle.network_model.specs.Absorb.{taken_all}
use Rattle.network_model.specs.State.{NetworkState}
use Rattle.flight_laws.specs.Ends.{HasTypes, ends_at}
use Rattle.flight_laws.specs.Facts.{flight}
use Rattle.flight_laws.specs.Meeting.{said_to}
use Rattle.flight_laws.proofs.ActLemmas.{steady_acts}
use Rattle.flight_laws.proofs.EdgeBindingLemmas.{HasSameEnds}
use Rattle.flight_laws.proofs.EventBindingLemmas.{event_spare}
use Rattle.flight_laws.proofs.HearBindingLemmas.{HearsBound, answers_for, bound_kept}
use Rattle.flight_laws.proofs.HearingLemmas.{HasHeard, KeptByHearing}
use Rattle.flight_laws.proofs.HearLemmas.{HearsOn, hears_kept, hears_leave, hears_steady}
use Rattle.flight_laws.proofs.LeaveLemmas.{leaves_same}
use Rattle.flight_laws.proofs.MendingLemmas.{KeptByRows}
use Rattle.flight_laws.proofs.SteadyLemmas.{IsSteady, steady_rows}
use Rattle.flight_laws.proofs.WorkBindingLemmas.{HoldsAll, HoldsOctets, WorksBound, held_steady}
use Rattle.flight_laws.proofs.WorkLemmas.{with_peering_spares}

-- ---- two things are kept together

rows_both : (plan : Plan) (me : EdgeId) (I J : Work → Type 0) → KeptByRows plan me I → KeptByRows plan me J → KeptByRows plan me (λ work. I work × J work)
rows_both plan me I J one other = record {
  placed = λ work both. one.placed work both.0;
  advertises = λ place label content work is at wished given both.
      (one.advertises place label content work is at wished given both.0, other.advertises place label content work is at wished given both.1);
  withdraws = λ place label content work is at wished both. (one.withdraws place label content work is at wished both.0, other.withdraws place label content work is at wished both.1);
  tells = λ place label content last work is at told changed both.
      (one.tells place label content last work is at told changed both.0, other.tells place label content last work is at told changed both.1);
  clears = λ place label content addresses work is at piece both.
      (one.clears place label content addresses work is at piece both.0, other.clears place label content addresses work is at piece both.1);
  tells_down = λ place down work is both. (one.tells_down place down work is both.0, other.tells_down place down work is both.1);
  others = λ change work keeps peering both. (one.others change work keeps peering both.0, other.others change work keeps peering both.1);
}

pub hearing_both : (plan : Plan) (me peer : EdgeId) (other : Peers) (I J : List Message → Work → Type 0) → KeptByHearing plan me peer other I → KeptByHearing plan me peer other J
    → KeptByHearing plan me peer other (λ messages work. I messages work × J messages work)
hearing_both plan me peer other I J one two = record {
  window = λ messages kept work at both. one.window messages kept work at both.0;
  sender = λ messages work both. (one.sender messages work both.0, two.sender messages work both.1);
  gone = λ m messages work at both. (one.gone m messages work at both.0, two.gone m messages work at both.1);
  event = λ m messages kept work at said ends both. (one.event m messages kept work at said ends both.0, two.event m messages kept work at said ends both.1);
  acts = λ m messages kept work at up said plain pseudowires both.
      (one.acts m messages kept work at up said plain pseudowires both.0, two.acts m messages kept work at up said plain pseudowires both.1);
  goes_by = λ m messages kept work at up said addresses both. (one.goes_by m messages kept work at up said addresses both.0, two.goes_by m messages kept work at up said addresses both.1);
  mends = λ messages. rows_both plan me (I messages) (J messages) (one.mends messages) (two.mends messages);
}

-- ---- octets of every other place that are held

module _ (plan : Plan) (network : NetworkState) (me peer : EdgeId) (apart : nat_eq me.0 peer.0 ≡ false) (checked : IsChecked plan) (types : HasTypes plan) (held : ℕ → List ℕ) where
  abbrev besides : ℕ → Bool
  besides place = nat_eq place peer.0

  abbrev pub HearsHeld : List Message → Work → Type 0
  HearsHeld messages work = HearsOn plan network me peer messages work × HoldsAll (λ place. nat_eq place peer.0) held work

  steady_held : (messages : List Message) → IsSteady plan me (HearsHeld messages)
  steady_held messages = held_steady plan me (HearsOn plan network me peer messages) (λ place. nat_eq place peer.0) held (hears_steady plan network me peer apart messages)

  event_held : (event : SessionEvent) (work : Work) → HoldsAll (λ place. nat_eq place peer.0) held work → HoldsAll (λ place. nat_eq place peer.0) held (happens_with_ends taken_all peer event work)
  event_held event work holds place here = subst (HoldsOctets (held place)) (sym (event_spare place peer event work here).spares.kept) (holds place here)

  pub held_kept : KeptByHearing plan me peer (ends_at plan peer.0 me.0) HearsHeld
  held_kept =
      let base : KeptByHearing plan me peer (ends_at plan peer.0 me.0) (HearsOn plan network me peer) = hears_kept plan network me peer apart checked types in
      record {
        window = λ messages kept work at hears. base.window messages kept work at hears.0;
        sender = λ messages work hears. (base.sender messages work hears.0, event_held (Heard (platform_of (ends_at plan peer.0 me.0).me)) work hears.1);
        gone = λ m messages work at hears. (base.gone m messages work at hears.0, hears.1);
        event = λ m messages kept work at said ends hears. (base.event m messages kept work at said ends hears.0, event_held (Received m) work hears.1);
        acts = λ m messages kept work at up said plain pseudowires hears. (
          base.acts m messages kept work at up said plain pseudowires hears.0,
          (steady_acts plan me peer (ends_at plan peer.0 me.0) (HearsHeld (m ∷ messages)) (steady_held (m ∷ messages)) m work said pseudowires (rw at (ap is_operational up)) hears).1,
        );
        goes_by = λ m messages kept work at up said addresses hears. (base.goes_by m messages kept work at up said addresses hears.0, hears.1);
        mends = λ messages. steady_rows plan me checked types (HearsHeld messages) (steady_held messages);
      }

  -- ---- and once all is heard

  module _ (others : ℕ → List Message) where
    -- the edge hears, holds what it held of other places, and keeps the ends of wires bound
    abbrev pub HearsAll : List Message → Work → Type 0
    HearsAll messages work = HearsHeld messages work × HearsBound plan network me peer apart checked types others messages work

    pub all_kept : KeptByHearing plan me peer (ends_at plan peer.0 me.0) HearsAll
    all_kept = hearing_both plan me peer (ends_at plan peer.0 me.0) HearsHeld (HearsBound plan network me peer apart checked types others) held_kept
        (bound_kept plan network me peer apart checked types others)

    abbrev pub held_after : List ℕ → ℕ → List ℕ
    held_after rest place = cond (nat_eq place peer.0) rest (held place)

    holding_same : (rest : List ℕ) (near : Option Peering) (work : Work) (place : ℕ) → work.edge.peering peer.0 ≡ near → HasSameEnds place work.edge (holds peer rest near work).edge
    unfolding changes with_peering
    holding_same rest None work place at = record { label = λ label given. given; ends = λ wire. refl }
    holding_same rest (Some kept) work place at = record { label = λ label given. given; ends = λ wire. refl }

    holding_said : (rest : List ℕ) (near : Option Peering) (work : Work) (place : ℕ) → said_to place (holds peer rest near work).effects ≡ said_to place work.effects
    unfolding changes
    holding_said rest None work place = refl
    holding_said rest (Some kept) work place = refl

    there_then : (place : ℕ) (rest : List ℕ) (near : Option Peering) (work : Work) → work.edge.peering peer.0 ≡ near → is_there ((holds peer rest near work).edge.peering place) ≡ true
        → is_there (work.edge.peering place) ≡ true
    unfolding changes with_peering
    there_then place rest None work at there = there
    there_then place rest (Some kept) work at there = elim (cases_Bool (nat_eq place peer.0)) [
      | inl same ↦ ap (λ (k : ℕ). is_there (work.edge.peering k)) (eqb-true place peer.0 same) ∙ ap is_there at
      | inr away ↦ rw away at there
    ]

    now_held : (rest : List ℕ) (near : Option Peering) (work : Work) → work.edge.peering peer.0 ≡ near → HoldsOctets rest ((holds peer rest near work).edge.peering peer.0)
    unfolding changes with_peering
    now_held rest None work at = rw at tt
    now_held rest (Some kept) work at = rw (same_number peer.0) refl

    still_held : (place : ℕ) (octets rest : List ℕ) (near : Option Peering) (work : Work) → nat_eq place peer.0 ≡ false → HoldsOctets octets (work.edge.peering place)
        → HoldsOctets octets ((holds peer rest near work).edge.peering place)
    still_held place octets rest None work away is = is
    still_held place octets rest (Some kept) work away is = subst (HoldsOctets octets) (sym (with_peering_spares place peer (Some (record kept { held = rest })) work away).kept) is

    pub heard_bound : (result : Work) → (heard : HasHeard peer (ends_at plan peer.0 me.0) HearsAll (network.pipes peer.0 me.0) result)
        → WorksBound plan network me checked types (held_after heard.rest) (answers_for plan network me peer apart checked types others heard.later) result
    heard_bound result heard =
        subst (WorksBound plan network me checked types (held_after heard.rest) (answers_for plan network me peer apart checked types others heard.later)) (sym heard.is) (
          (
            hears_leave plan network me peer apart heard.rest heard.later heard.last heard.behind heard.keeps.0.0,
            λ place none. elim (cases_Bool (nat_eq place peer.0)) [
              | inl same ↦ rw same (subst (λ (k : ℕ). HoldsOctets heard.rest ((holds peer heard.rest (heard.last.edge.peering peer.0) heard.last).edge.peering k)) (sym (eqb-true place peer.0 same))
                  (now_held heard.rest (heard.last.edge.peering peer.0) heard.last refl))
              | inr away ↦ rw away (still_held place (held place) heard.rest (heard.last.edge.peering peer.0) heard.last away (heard.keeps.0.1 place away))
            ],
          ),
          λ place off. leaves_same plan me place (network.edges place) (flight network me.0 place) (answers_for plan network me peer apart checked types others heard.later place) heard.last
              (holds peer heard.rest (heard.last.edge.peering peer.0) heard.last) (holding_said heard.rest (heard.last.edge.peering peer.0) heard.last place)
              (there_then place heard.rest (heard.last.edge.peering peer.0) heard.last refl) (holding_same heard.rest (heard.last.edge.peering peer.0) heard.last place refl)
              (heard.keeps.1.0.1 place off),
        )
