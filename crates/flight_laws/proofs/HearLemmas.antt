-- An edge hears messages of a neighbour: both stay in step, and each other neighbour too.
use Rattle.std.proofs.Common.{◌≡◌, ◌++◌, ◌∙◌, ℕ, Bool, true, false, not, nat_eq, List, ◌∷◌, Option, Some, None, refl, sym, ap, subst, inl, inr}
use Rattle.std.proofs.lemmas.Bool.{cases_Bool, eqb-true}
use Rattle.net_values.proofs.NumberLemmas.{same_number}
use Rattle.net_base.specs.declared.plan.Plan.{Plan}
use Rattle.net_base.specs.declared.plan.places.EdgeId.{EdgeId}
use Rattle.net_base.specs.plan.Accepted.{IsChecked}
use Rattle.ldp_grammar.specs.declared.message.Message.{Message}
use Rattle.session_core.specs.declared.peers.Peers.{Peers}
use Rattle.session_core.specs.Phase as phase
use Rattle.session_core.specs.Table.{SessionEvent, Heard, Received, outcome_of}
use Rattle.pw_messages.specs.Sender.{platform_of}
use Rattle.edge_model.specs.Hear.{holds}
use Rattle.edge_model.specs.Mend.{is_operational}
use Rattle.edge_model.specs.Session.{happens, happens_with_ends, says}
use Rattle.edge_model.specs.State.{Peering, is_there, with_peering}
use Rattle.edge_model.specs.Work.{Work, changes, gives}
use Rattle.network_model.specs.Absorb.{taken_all}
use Rattle.network_model.specs.State.{NetworkState}
use Rattle.flight_laws.specs.Ends.{HasTypes, LeftFor, WorksOn, ends_at}
use Rattle.flight_laws.specs.Facts.{flight}
use Rattle.flight_laws.specs.Meeting.{IsFine, Meets, Spares, closes}
use Rattle.flight_laws.specs.Messages.{octets_of_all}
use Rattle.flight_laws.specs.Pair.{AreTalking, StayInStep}
use Rattle.flight_laws.specs.Sound.{TellsSoundly, point_limit}
use Rattle.flight_laws.proofs.ActLemmas.{steady_acts}
use Rattle.flight_laws.proofs.HearingLemmas.{HasHeard, KeptByHearing}
use Rattle.flight_laws.proofs.MeetLemmas.{happens_meets}
use Rattle.flight_laws.proofs.OfferLemmas.{IsOfWires}
use Rattle.flight_laws.proofs.ReactLemmas.{heard_in_step, heard_up, received_in_step, same_phase}
use Rattle.flight_laws.proofs.SayLemmas.{clears_fine, clears_spares, meets_says, says_fine, says_spares}
use Rattle.flight_laws.proofs.SoundLemmas.{happens_sound}
use Rattle.flight_laws.proofs.SteadyLemmas.{IsSteady, steady_rows}
use Rattle.flight_laws.proofs.WorkLemmas.{with_peering_spares}
use Rattle.flight_laws.proofs.WorksLemmas.{LeftBut, apart_from, but_says, but_spared, change_fine, change_spares, changed_edge, event_spares, given_edge, gives_fine, gives_spares, gone_leaves, left_spared, no_end, says_sound, there_up}

-- ---- in step with the neighbour

pub meets_spared : (own other : Peers) (me peer : EdgeId) (far : Option Peering) (out : List ℕ) (answers : List Message) (old new : Work) → IsFine me new → Spares peer.0 old new
    → Meets own other me peer far out answers old → Meets own other me peer far out answers new
meets_spared own other me peer far out answers old new fine spares meets = record {
  fine = fine;
  ended = spares.closed ∙ (meets.ended ∙ ap (λ (o : Option Peering). not (is_there o)) (sym spares.kept));
  messages = meets.messages;
  out_is = rw spares.said meets.out_is;
  talk = rw spares.kept meets.talk;
}

event_meets : (own other : Peers) (me peer : EdgeId) (far : Option Peering) (out : List ℕ) (before answers : List Message) (event : SessionEvent) (work : Work)
    → ((kept : Peering) (messages : List Message) → AreTalking own other (Some kept) far messages before → StayInStep own other kept far messages answers (outcome_of kept.session event))
    → Meets own other me peer far out before work → Meets own other me peer far out answers (happens_with_ends taken_all peer event work)
event_meets own other me peer far out before answers event work step meets =
    let after : Meets own other me peer far out answers (happens taken_all peer event work) = happens_meets own other me peer far out before answers event work step meets in
    meets_spared own other me peer far out answers (happens taken_all peer event work) (happens_with_ends taken_all peer event work)
    (clears_fine me peer (happens taken_all peer event work) after.fine) (clears_spares peer.0 peer (happens taken_all peer event work)) after

-- the end is gone, and hears nothing any more
meets_gone : (own other : Peers) (me peer : EdgeId) (far : Option Peering) (out : List ℕ) (before answers : List Message) (work : Work) → work.edge.peering peer.0 ≡ None
    → Meets own other me peer far out before work → Meets own other me peer far out answers work
meets_gone own other me peer far out before answers work at meets =
    record { fine = meets.fine; ended = meets.ended; messages = meets.messages; out_is = meets.out_is; talk = rw at (rw at at meets.talk) }

-- a session that is up, and goes on
meets_up : (own other : Peers) (me peer : EdgeId) (kept : Peering) (far : Option Peering) (out : List ℕ) (m : Message) (answers : List Message) (work : Work) → work.edge.peering peer.0
    ≡ Some kept → kept.session.phase ≡ phase.Operational
    → Meets own other me peer far out (m ∷ answers) work → Meets own other me peer far out answers work
meets_up own other me peer kept far out m answers work at up meets = record {
  fine = meets.fine;
  ended = meets.ended;
  messages = meets.messages;
  out_is = meets.out_is;
  talk = rw at (heard_up own other kept far meets.messages answers m up (rw at at meets.talk));
}

-- ---- an edge that hears a neighbour, in a network

pub record HearsOn (plan : Plan) (network : NetworkState) (me peer : EdgeId) (answers : List Message) (work : Work) : Type 0 where
  pub meets : Meets (ends_at plan me.0 peer.0) (ends_at plan peer.0 me.0) me peer ((network.edges peer.0).peering me.0) (flight network me.0 peer.0) answers work
  pub sound : TellsSoundly (point_limit plan me.0) work.edge
  pub alone : work.edge.peering me.0 ≡ None
  pub left : LeftBut plan network me (λ k. nat_eq k peer.0) work

module _ (plan : Plan) (network : NetworkState) (me peer : EdgeId) (apart : nat_eq me.0 peer.0 ≡ false) where
  abbrev own : Peers
  own = ends_at plan me.0 peer.0

  abbrev other : Peers
  other = ends_at plan peer.0 me.0

  abbrev far : Option Peering
  far = (network.edges peer.0).peering me.0

  abbrev out : List ℕ
  out = flight network me.0 peer.0

  abbrev besides : ℕ → Bool
  besides k = nat_eq k peer.0

  pub hears_steady : (answers : List Message) → IsSteady plan me (HearsOn plan network me peer answers)
  hears_steady answers = record {
    placed = λ work hears. hears.meets.fine.place;
    sound = λ work hears. hears.sound;
    changes = λ change work kept place sound hears. record {
      meets = meets_spared own other me peer far out answers work (changes change work) (change_fine me change work place hears.meets.fine) (change_spares peer.0 change work kept) hears.meets;
      sound = rw (changed_edge change work) sound;
      alone = (change_spares me.0 change work kept).kept ∙ hears.alone;
      left = but_spared plan network me besides work (changes change work) (λ j. change_spares j change work kept) hears.left;
    };
    gives = λ e work silent hears. record {
      meets = meets_spared own other me peer far out answers work (gives e work) (gives_fine me e work silent hears.meets.fine) (gives_spares peer.0 e work silent) hears.meets;
      sound = rw (given_edge e work) hears.sound;
      alone = (gives_spares me.0 e work silent).kept ∙ hears.alone;
      left = but_spared plan network me besides work (gives e work) (λ j. gives_spares j e work silent) hears.left;
    };
    says = λ to message work up is hears. there_up (work.edge.peering to.0) (HearsOn plan network me peer answers (says taken_all to message work).work) up (λ kept at state. record {
      meets = to_peer to message kept work at state is hears.meets;
      sound = says_sound to message work hears.sound;
      alone = (says_spares me.0 to message work (apart_from me to kept work hears.alone at)).kept ∙ hears.alone;
      left = but_says plan network me besides to message kept work at state is hears.left;
    });
  }
    where
      same_edge : (a b : EdgeId) → nat_eq a.0 b.0 ≡ true → a ≡ b
      same_edge a b same = ap (λ (k : ℕ). record { 0 = k }) (eqb-true a.0 b.0 same)

      to_peer : (to : EdgeId) (message : ℕ → Message) (kept : Peering) (work : Work) → work.edge.peering to.0 ≡ Some kept → kept.session.phase ≡ phase.Operational → IsOfWires message
          → Meets own other me peer far out answers work → Meets own other me peer far out answers (says taken_all to message work).work
      to_peer to message kept work at state is meets = elim (cases_Bool (nat_eq peer.0 to.0)) [
        | inl same ↦ (let e : peer ≡ to = same_edge peer to same in
            subst (λ (k : EdgeId). Meets own other me peer far out answers (says taken_all k message work).work) e
            (meets_says own other me peer kept far out answers message work (ap (λ (k : EdgeId). work.edge.peering k.0) e ∙ at) state is meets))
        | inr away ↦ meets_spared own other me peer far out answers work (says taken_all to message work).work (says_fine me to message work meets.fine) (says_spares peer.0 to message work away) meets
      ]

  event_hears : (before answers : List Message) (event : SessionEvent) (work : Work)
      → ((kept : Peering) (messages : List Message) → AreTalking own other (Some kept) far messages before → StayInStep own other kept far messages answers (outcome_of kept.session event))
      → HearsOn plan network me peer before work → HearsOn plan network me peer answers (happens_with_ends taken_all peer event work)
  event_hears before answers event work step hears = record {
    meets = event_meets own other me peer far out before answers event work step hears.meets;
    sound = happens_sound taken_all peer event work hears.sound;
    alone = (event_spares me.0 peer event work apart).kept ∙ hears.alone;
    left = λ place away here. left_spared (ends_at plan me.0 place) (ends_at plan place me.0) place ((network.edges place).peering me.0) (flight network me.0 place)
        (network.pipes place me.0) work (happens_with_ends taken_all peer event work)
        (event_spares place peer event work here) (hears.left place away here);
  }

  pub hears_kept : IsChecked plan → HasTypes plan → KeptByHearing plan me peer other (HearsOn plan network me peer)
  hears_kept checked types = record {
    window = λ answers kept work at hears. (let talk : AreTalking own other (Some kept) far hears.meets.messages answers = rw at at hears.meets.talk in (talk.here.least, talk.here.most));
    sender = λ answers work hears. event_hears answers answers (Heard (platform_of other.me)) work (λ kept messages t. heard_in_step own other kept far messages answers t) hears;
    gone = λ m answers work at hears. record { meets = meets_gone own other me peer far out (m ∷ answers) answers work at hears.meets; sound = hears.sound; alone = hears.alone; left = hears.left };
    event = λ m answers kept work at said ends hears. event_hears (m ∷ answers) answers (Received m) work (λ k messages t. received_in_step own other k far messages answers m t) hears;
    acts = λ m answers kept work at up said plain pseudowires hears.
        steady_acts plan me peer other (HearsOn plan network me peer answers) (hears_steady answers) m work said pseudowires (rw at (ap is_operational up))
        (record { meets = meets_up own other me peer kept far out m answers work at up hears.meets; sound = hears.sound; alone = hears.alone; left = hears.left });
    goes_by = λ m answers kept work at up said addresses hears. record {
      meets = meets_up own other me peer kept far out m answers work at up hears.meets;
      sound = hears.sound;
      alone = hears.alone;
      left = hears.left;
    };
    mends = λ answers. steady_rows plan me checked types (HearsOn plan network me peer answers) (hears_steady answers);
  }

  -- ---- what an edge leaves once it has heard

  held_left : (kept : Peering) (rest : List ℕ) (answers : List Message) (work : Work) → work.edge.peering peer.0 ≡ Some kept → rest ++ network.pipes peer.0 me.0 ≡ octets_of_all other.me answers
      → HearsOn plan network me peer answers work → IsFine me (holds peer rest (Some kept) work) × LeftFor plan network me (holds peer rest (Some kept) work) peer.0
  unfolding changes with_peering
  held_left kept rest answers work at e hears =
      let meets = hears.meets in
      let talk : AreTalking own other (Some kept) far meets.messages answers = rw at at meets.talk in
      let now : Peering = record kept { held = rest } in
      let open_end : closes peer.0 work.effects ≡ false = meets.ended ∙ ap (λ (o : Option Peering). not (is_there o)) at in (
        record { place = meets.fine.place; idle = meets.fine.idle; well = meets.fine.well },
        record {
          leaves = rw (same_number peer.0, open_end) (record {
            messages = meets.messages;
            answers = answers;
            out_is = meets.out_is;
            back_is = e;
            talk = same_phase own other kept now far meets.messages answers
                (record { peers = talk.here.peers; between = talk.here.between; least = talk.here.least; most = talk.here.most; numbered = talk.here.numbered; passive = talk.here.passive }) refl talk;
          });
          unclosed = λ k f. open_end;
        },
      )

  held_sound : (kept : Peering) (rest : List ℕ) (work : Work) → work.edge.peering peer.0 ≡ Some kept → TellsSoundly (point_limit plan me.0) work.edge
      → TellsSoundly (point_limit plan me.0) (holds peer rest (Some kept) work).edge
  unfolding changes with_peering
  held_sound kept rest work at sound = record {
    least = sound.least;
    most = sound.most;
    kept = sound.kept;
    bits = sound.bits;
    ends = λ wire k. elim (cases_Bool (nat_eq k peer.0)) [
      | inl same ↦ rw same (rw (eqb-true k peer.0 same) (rw at at (sound.ends wire peer.0)))
      | inr away ↦ rw away (sound.ends wire k)
    ];
  }

  pub hears_leave : (rest : List ℕ) (answers : List Message) (work : Work) → rest ++ network.pipes peer.0 me.0 ≡ octets_of_all other.me answers → HearsOn plan network me peer answers work
      → WorksOn plan network me (holds peer rest (work.edge.peering peer.0) work)
  hears_leave rest answers work e hears = by_end (work.edge.peering peer.0) refl where
    for_place : (Q : ℕ → Type 0) (place : ℕ) → Q peer.0 → (nat_eq place peer.0 ≡ false → Q place) → Q place
    for_place Q place here there = elim (cases_Bool (nat_eq place peer.0)) [
      | inl same ↦ subst Q (sym (eqb-true place peer.0 same)) here
      | inr away ↦ there away
    ]

    by_end : (near : Option Peering) → work.edge.peering peer.0 ≡ near → WorksOn plan network me (holds peer rest near work)
    by_end None at = record {
      fine = hears.meets.fine;
      sound = hears.sound;
      alone = hears.alone;
      left = λ place away. for_place (LeftFor plan network me work) place
          (record { leaves = (gone_leaves own other me peer far out (network.pipes peer.0 me.0) answers work at hears.meets).1; unclosed = λ kept f. absurd (no_end kept (sym at ∙ f)) })
          (λ here. hears.left place away here);
    }
    by_end (Some kept) at = record {
      fine = (held_left kept rest answers work at e hears).0;
      sound = held_sound kept rest work at hears.sound;
      alone = (with_peering_spares me.0 peer (Some (record kept { held = rest })) work apart).kept ∙ hears.alone;
      left = λ place away. for_place (LeftFor plan network me (holds peer rest (Some kept) work)) place (held_left kept rest answers work at e hears).1
          (λ here. left_spared (ends_at plan me.0 place) (ends_at plan place me.0) place ((network.edges place).peering me.0) (flight network me.0 place)
          (network.pipes place me.0) work (holds peer rest (Some kept) work)
          (with_peering_spares place peer (Some (record kept { held = rest })) work here) (hears.left place away here));
    }

  pub heard_works : (result : Work) → HasHeard peer other (HearsOn plan network me peer) (network.pipes peer.0 me.0) result → WorksOn plan network me result
  heard_works result heard = subst (WorksOn plan network me) (sym heard.is) (hears_leave heard.rest heard.later heard.last heard.behind heard.keeps)
