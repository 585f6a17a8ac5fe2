-- All octets that come of a neighbour are heard, message by message, each of which takes away one at least.
use Rattle.std.proofs.Common.{◌≡◌, ◌≤◌, ◌<◌, ◌+◌, ◌++◌, ◌∙◌, ◌⊎◌, ℕ, zero, suc, Bool, true, false, nat_eq, List, [], ◌∷◌, Option, Some, None, length, refl, sym, ap, subst, inl, inr, ⊎_elim, arith}
use Rattle.std.proofs.lemmas.Bool.{cases_Bool}
use Rattle.std.proofs.lemmas.List.{length-append}
use Rattle.net_base.specs.declared.plan.Plan.{Plan}
use Rattle.net_base.specs.declared.plan.places.EdgeId.{EdgeId}
use Rattle.net_base.specs.plan.Accepted.{IsChecked}
use Rattle.ldp_grammar.specs.declared.message.Message.{Message}
use Rattle.ldp_grammar.specs.Written.{IsId, message_octets, written}
use Rattle.ldp_grammar.proofs.OctetLemmas.{AreOctets, octets_before}
use Rattle.ldp_stream.specs.FrontOf.{More, front_of}
use Rattle.ldp_stream.proofs.FrontOfLemmas.{front_is_read}
use Rattle.session_core.specs.declared.peers.Peers.{Peers}
use Rattle.session_core.specs.Phase.{Phase}
use Rattle.session_core.specs.Phase as phase
use Rattle.session_core.specs.Reasons.{is_fatal}
use Rattle.session_core.specs.Table.{Heard, Received}
use Rattle.pw_messages.specs.Sender.{platform_of}
use Rattle.edge_model.specs.declared.effect.Effect.{Effect}
use Rattle.edge_model.specs.Hear.{acts_on, hears_few, hears_message, hears_one, hears_pdu, hears_within, holds, is_up_phase}
use Rattle.edge_model.specs.Mend.{mends}
use Rattle.edge_model.specs.Session.{happens_with_ends}
use Rattle.edge_model.specs.State.{EdgeState, Peering, with_peering}
use Rattle.edge_model.specs.Work.{Work, changes}
use Rattle.edge_model.proofs.MendedLemmas.{mends_mended}
use Rattle.edge_model.proofs.OneEndLemmas.{has_one_end}
use Rattle.edge_model.proofs.SignalLemmas.{hears_message_signals}
use Rattle.network_model.specs.Absorb.{taken_all}
use Rattle.network_model.specs.State.{NetworkState}
use Rattle.flight_laws.specs.Ends.{HasTypes, WorksOn, ends_at}
use Rattle.flight_laws.specs.Messages.{AreSaid, IsSaidAcross, octets_of_all}
use Rattle.flight_laws.specs.Pair.{AreFit}
use Rattle.flight_laws.proofs.FrontLemmas.{GoesBehind, HasNext, IsProperFront, cut, front_is}
use Rattle.flight_laws.proofs.HearLemmas.{heard_works}
use Rattle.flight_laws.proofs.HearingLemmas.{HasHeard, fatal_heard, session_heard, up_heard}
use Rattle.flight_laws.proofs.MendedRunLemmas.{IsMendedAt, mended_at}
use Rattle.flight_laws.proofs.MendingLemmas.{mends_keep}
use Rattle.flight_laws.proofs.SaidLemmas.{IsReady, all_octets, ready}
use Rattle.flight_laws.proofs.SteadyLemmas.{steady_rows}
use Rattle.flight_laws.proofs.WorksLemmas.{works_steady}
use Rattle.spelling_laws.proofs.PutLemmas.{changed_effects}
use Rattle.spelling_laws.proofs.SessionLemmas.{moved_stands}
use Rattle.spelling_laws.proofs.WorkLemmas.{works_standing}
use Rattle.rest_laws.proofs.ClearLemmas.{put_mended}
use Rattle.rest_laws.proofs.DeliverLemmas.{waits_put}
use Rattle.quiet_laws.proofs.ToldLemmas.{AreTold, MovesOn, Put, TellsMore, Telling, Told, moves_not, moves_then, telling_steady, tells_not, told_joined, told_messages}
use Rattle.settle_bounds.specs.Bound.{messages_worth}
use Rattle.settle_bounds.specs.Worth.{message_worth}
use Rattle.settle_bounds.proofs.FallLemmas.{EndedBoth, Facts, Falls, Pays, SenderFalls, acts_pays, base, end_on, MovePays, event_pays, facts_at, light_at, mended_paid, near_worth, paid, ruled_messages, sender_falls, there_is, weight_left}
use Rattle.settle_bounds.proofs.ReplyLemmas.{paid_joined}

-- ---- whole messages

-- octets in which the first message stands whole do not wait for more
whole_next : (ends : Peers) (m : Message) (ms : List Message) (x y : List ℕ) (max : ℕ) → AreFit ends → AreSaid ends (m ∷ ms) → x ++ y ≡ octets_of_all ends.me (m ∷ ms) → 256 ≤ max → max ≤ 4096
    → length (written m (platform_of ends.me)) ≤ length x → HasNext ends.me (m ∷ ms) x y max
whole_next ends m ms x y max fit said e least most enough = ⊎_elim part whole (cut x y (written m (platform_of ends.me)) (octets_of_all ends.me ms) e) where
  is_ready : IsReady m ends.me
  is_ready = ready ends m fit said.0

  is_id : IsId (platform_of ends.me)
  is_id = record { router = fit.me.four; space = omega arith }

  short : 6 + length (message_octets m) ≤ max
  short = omega (arith, is_ready.short)

  octets : AreOctets x
  octets = octets_before x y (subst AreOctets (sym e) (all_octets ends (m ∷ ms) fit said))

  part : IsProperFront x y (written m (platform_of ends.me)) (octets_of_all ends.me ms) → HasNext ends.me (m ∷ ms) x y max
  part h = absurd (less (length x) (length h.more) (length (written m (platform_of ends.me))) (ap (λ (l : List ℕ). length l) (sym h.whole) ∙ length-append x (h.next ∷ h.more)) enough) where
    less : (a b c : ℕ) → c ≡ a + suc b → c ≤ a → ⊥
    less a b c is le = omega (arith, is, le)

  whole : GoesBehind x y (written m (platform_of ends.me)) (octets_of_all ends.me ms) → HasNext ends.me (m ∷ ms) x y max
  whole h = record {
    message = m;
    later = ms;
    rest = h.more;
    are = refl;
    front = ap (front_of max) h.whole
        ∙ front_is_read.written_first max m (platform_of ends.me) h.more (subst AreOctets h.whole octets) most is_ready.can is_ready.fits is_id short;
    behind = h.rest;
  }

module _ (plan : Plan) (checked : IsChecked plan) (types : HasTypes plan) (later : NetworkState) (me peer : EdgeId) (apart : nat_eq me.0 peer.0 ≡ false) (away : nat_eq peer.0 me.0 ≡ false)
    (others : ℕ → EdgeState) (first : EdgeState) (held : ℕ → Option (List ℕ)) (placed : (others peer.0).me ≡ peer) (start : ℕ → Option Peering) (far : Bool) where
  abbrev pub other_end : Peers
  other_end = ends_at plan peer.0 me.0

  abbrev pub Fell : ℕ → List Message → Work → Type 0
  Fell all messages work = Falls plan checked types later me peer apart away others first held placed start far all messages work

  abbrev pub costs : List Put → ℕ
  costs ps = paid plan checked types later me peer apart away others first held placed start far ps

  abbrev near : Option Peering → ℕ
  near o = near_worth plan checked types later me peer apart away others first held placed start far o

  abbrev pub left_worth : Option Peering → List Message → ℕ
  left_worth o ms = weight_left plan checked types later me peer apart away others first held placed start far o ms

  abbrev Both : Option Peering → Type 0
  Both o = EndedBoth plan checked types later me peer apart away others first held placed start far o

  abbrev Paid : Message → Peering → Option Peering → List Put → Type 0
  Paid m kept o ps = Pays plan checked types later me peer apart away others first held placed start far m kept o ps

  less_left : (o : Option Peering) (messages : List Message) → left_worth o messages ≤ messages_worth plan others peer.0 me.0 messages
  less_left None messages = none (messages_worth plan others peer.0 me.0 messages) where
    none : (n : ℕ) → 0 ≤ n
    none n = omega arith
  less_left (Some kept) messages = itself (messages_worth plan others peer.0 me.0 messages) where
    itself : (n : ℕ) → n ≤ n
    itself n = omega arith

  -- one message takes one away
  message_falls : (all : ℕ) (m : Message) (messages : List Message) (kept : Peering) (work : Work) → work.edge.peering peer.0 ≡ Some kept → IsSaidAcross other_end m → AreSaid other_end messages
      → Fell (suc all) (m ∷ messages) work → Fell all messages (hears_message plan taken_all peer m work)
  message_falls all m messages kept work at said more falls = elim (cases_Bool (is_fatal m)) [
    | inl fatal ↦ moved (inr fatal) (there m kept work at ∙ ap (mends plan taken_all) (fatal_heard plan other_end peer m kept work at said fatal))
    | inr plain ↦ by_phase plain kept.session.phase refl
  ]
    where
      there : (m : Message) (kept : Peering) (work : Work) → work.edge.peering peer.0 ≡ Some kept → hears_message plan taken_all peer m work ≡ mends plan taken_all (hears_one plan taken_all peer m work)
      there m kept work at = there_is plan checked types later me peer apart away others first held placed start far m kept work at

      next : Work
      next = hears_message plan taken_all peer m work

      heard : Work
      heard = hears_one plan taken_all peer m work

      step : Told plan later me peer apart checked types work.effects work.edge.peering messages next
      step = (told_messages plan later me peer apart checked types work.effects work.edge.peering).message m messages work said more (falls.hears, (tells_not plan me.0 work.effects, λ k. moves_not (work.edge.peering k)))

      facts : Facts plan checked types later me peer apart away others first held placed start far (m ∷ messages) work
      facts = facts_at plan checked types later me peer apart away others first held placed start far at falls.facts

      light : near (Some kept) + (costs falls.told + left_worth (Some kept) (m ∷ messages)) ≤ suc all
      light = light_at plan checked types later me peer apart away others first held placed start far (suc all) (m ∷ messages) falls.told (work.edge.peering peer.0) kept at falls.light

      sum : (n p r w c t l a : ℕ) → n + p < r + w → r + (c + (w + t)) ≤ suc all → l ≤ t → a ≡ c + p → n + (a + l) ≤ all
      sum n p r w c t l a pays light less is = omega (arith, pays, light, less, is)

      mended_next : IsMendedAt plan me.0 next.edge
      mended_next = subst (λ (w : Work). IsMendedAt plan me.0 w.edge) (sym (there m kept work at)) (mended_at plan me.0 (mends plan taken_all heard).edge
          (ap (λ (w : Work). w.edge.me) (sym (there m kept work at)) ∙ ((hears_message_signals plan taken_all peer m work).edge.me ∙ falls.mended.me))
          (mends_mended plan taken_all heard (λ i. refl) (has_one_end plan heard.edge.me checked)))

      facts_next : Facts plan checked types later me peer apart away others first held placed start far messages next
      facts_next = record {
        ruled = (ruled_messages plan checked types later me peer apart away others first held placed start far).message m messages work said more facts.ruled;
        taken = facts.taken.1;
      }

      goes : (w : Work) → next ≡ w → (tells : TellsMore plan me.0 work.effects w.effects) → Paid m kept (w.edge.peering peer.0) tells.told → Fell all messages next
      goes w is tells pays =
          let moved : Told plan later me peer apart checked types work.effects work.edge.peering messages w = subst (λ (x : Work). Told plan later me peer apart checked types work.effects work.edge.peering messages x) is step in
          subst (λ (x : Work). Fell all messages x) (sym is) (record {
            hears = moved.0;
            told = falls.told ++ tells.told;
            are = subst (λ (es : List Effect). AreTold plan me.0 es (falls.told ++ tells.told)) (sym tells.joined) (told_joined plan me.0 work.effects tells.more falls.told tells.told falls.are tells.are);
            on = λ k. moves_then (start k) (work.edge.peering k) (w.edge.peering k) (falls.on k) (moved.1.1 k);
            mended = subst (λ (x : Work). IsMendedAt plan me.0 x.edge) is mended_next;
            bits = falls.bits ∙ (sym ((hears_message_signals plan taken_all peer m work).edge.bits) ∙ ap (λ (x : Work). x.edge.bits) is);
            facts = inr (subst (λ (x : Work). Facts plan checked types later me peer apart away others first held placed start far messages x) is facts_next);
            light = ⊎_elim
                (λ (ended : Both (w.edge.peering peer.0)). inl ended)
                (λ (less : near (w.edge.peering peer.0) + costs tells.told < near (Some kept) + message_worth plan others peer.0 me.0 m).
                inr (sum (near (w.edge.peering peer.0)) (costs tells.told) (near (Some kept)) (message_worth plan others peer.0 me.0 m) (costs falls.told) (messages_worth plan others peer.0 me.0 messages)
                (left_worth (w.edge.peering peer.0) messages) (costs (falls.told ++ tells.told)) less light (less_left (w.edge.peering peer.0) messages) (paid_joined plan checked others me peer falls.told tells.told)))
                pays;
          })

      moved : (is_up_phase kept.session.phase ≡ false) ⊎ (is_fatal m ≡ true) → next ≡ mends plan taken_all (happens_with_ends taken_all peer (Received m) work) → Fell all messages next
      moved why is =
          let pays : MovePays plan checked types later me peer apart away others first held placed start far m messages kept work at said why falls.hears falls.mended =
          event_pays plan checked types later me peer apart away others first held placed start far m messages kept work at said why falls.hears falls.mended in
          goes (mends plan taken_all (happens_with_ends taken_all peer (Received m) work)) is pays.tells pays.pays

      not_up : is_up_phase kept.session.phase ≡ false → Fell all messages next
      not_up down = moved (inl down) (there m kept work at ∙ ap (mends plan taken_all) (session_heard plan peer m kept work at down))

      by_phase : is_fatal m ≡ false → (p : Phase) → kept.session.phase ≡ p → Fell all messages next
      by_phase plain phase.Initialized is = not_up (ap is_up_phase is)
      by_phase plain phase.OpenSent is = not_up (ap is_up_phase is)
      by_phase plain phase.OpenRec is = not_up (ap is_up_phase is)
      by_phase plain phase.Operational is =
          let acted : Work = mends plan taken_all (acts_on plan taken_all peer m work) in
          let same : next ≡ acted = there m kept work at ∙ ap (mends plan taken_all) (up_heard plan other_end peer m kept work at is said plain) in
          let moved : Told plan later me peer apart checked types work.effects work.edge.peering messages acted = subst (λ (x : Work). Told plan later me peer apart checked types work.effects work.edge.peering messages x) same step in
          goes acted same moved.1.0
          (acts_pays plan checked types later me peer apart away others first held placed start far m messages kept work at said falls.mended falls.bits facts moved.1.0
          (subst (λ (o : Option Peering). MovesOn o (acted.edge.peering peer.0)) at (moved.1.1 peer.0)))

  -- one less is no less
  weaker : (all : ℕ) (messages : List Message) (work : Work) → Fell all messages work → Fell (suc all) messages work
  weaker all messages work falls = record {
    hears = falls.hears;
    told = falls.told;
    are = falls.are;
    on = falls.on;
    mended = falls.mended;
    bits = falls.bits;
    facts = falls.facts;
    light = ⊎_elim (λ (ended : Both (work.edge.peering peer.0)). inl ended)
        (λ (less : near (work.edge.peering peer.0) + (costs falls.told + left_worth (work.edge.peering peer.0) messages) ≤ all).
        inr (more (near (work.edge.peering peer.0) + (costs falls.told + left_worth (work.edge.peering peer.0) messages)) less)) falls.light;
  }
    where
      more : (a : ℕ) → a ≤ all → a ≤ suc all
      more a le = omega (arith, le)

  -- ---- all octets

  -- a PDU of one message
  pdu_falls : (all : ℕ) (m : Message) (messages : List Message) (kept : Peering) (work : Work) → work.edge.peering peer.0 ≡ Some kept → IsSaidAcross other_end m → AreSaid other_end messages
      → Fell (suc all) (m ∷ messages) work → Fell all messages (hears_pdu plan taken_all peer (record { id = platform_of other_end.me; messages = m ∷ [] }) work)
  pdu_falls all m messages kept work at said more falls =
      let sent : SenderFalls plan checked types later me peer apart away others first held placed start far (suc all) (m ∷ messages) (happens_with_ends taken_all peer (Heard (platform_of other_end.me)) work) =
      sender_falls plan checked types later me peer apart away others first held placed start far (suc all) (m ∷ messages) kept work at falls in
      message_falls all m messages sent.now (happens_with_ends taken_all peer (Heard (platform_of other_end.me)) work) sent.stands said more sent.falls

  window : (all : ℕ) (messages : List Message) (kept : Peering) (work : Work) → work.edge.peering peer.0 ≡ Some kept → Fell all messages work → (256 ≤ kept.session.max_pdu) × (kept.session.max_pdu ≤ 4096)
  window all messages kept work at falls = (base plan checked types later me peer apart away others first held placed start far).window messages kept work at falls.hears

  few_fall : AreFit other_end → (all n : ℕ) (octets more : List ℕ) (messages : List Message) (work : Work) → AreSaid other_end messages → octets ++ more ≡ octets_of_all other_end.me messages → Fell all messages work
      → HasHeard peer other_end (Fell all) more (hears_few plan taken_all peer n octets work)
  few_fall fit all zero octets more messages work said e j = record { later = messages; rest = octets; last = work; keeps = j; said = said; behind = e; is = refl }
  few_fall fit all (suc n) octets more messages work said e j =
      by_end (λ rest later next said' e' j'. few_fall fit all n rest more later next said' e' j') (work.edge.peering peer.0) refl
    where
      stopped : (o : Option Peering) → work.edge.peering peer.0 ≡ o → HasHeard peer other_end (Fell all) more (holds peer octets o work)
      stopped o at = record { later = messages; rest = octets; last = work; keeps = j; said = said; behind = e; is = rw at refl }

      next_said : (max : ℕ) → (h : HasNext other_end.me messages octets more max) → AreSaid other_end (h.message ∷ h.later)
      next_said max h = subst (AreSaid other_end) h.are said

      by_end : ((rest : List ℕ) (later : List Message) (next : Work) → AreSaid other_end later → rest ++ more ≡ octets_of_all other_end.me later → Fell all later next
          → HasHeard peer other_end (Fell all) more (hears_few plan taken_all peer n rest next))
          → (o : Option Peering) → work.edge.peering peer.0 ≡ o → HasHeard peer other_end (Fell all) more (hears_within plan taken_all peer (hears_few plan taken_all peer n) octets o work)
      by_end on None at = stopped None at
      by_end on (Some end) at = ⊎_elim
          (λ (h : front_of end.session.max_pdu octets ≡ More). rw h (stopped (Some end) at))
          (λ (h : HasNext other_end.me messages octets more end.session.max_pdu). rw h.front
          (on h.rest h.later (hears_pdu plan taken_all peer (record { id = platform_of other_end.me; messages = h.message ∷ [] }) work) (next_said end.session.max_pdu h).1 h.behind
          (pdu_falls all h.message h.later end work at (next_said end.session.max_pdu h).0 (next_said end.session.max_pdu h).1
          (weaker all (h.message ∷ h.later) work (subst (λ (ms : List Message). Fell all ms work) h.are j)))))
          (front_is other_end messages octets more end.session.max_pdu fit said e (window all messages end work at j).0 (window all messages end work at j).1)

  -- where the first message is there whole, one at least is heard
  pub whole_fall : AreFit other_end → (all n : ℕ) (octets more : List ℕ) (m : Message) (messages : List Message) (kept : Peering) (work : Work) → work.edge.peering peer.0 ≡ Some kept → AreSaid other_end (m ∷ messages)
      → octets ++ more ≡ octets_of_all other_end.me (m ∷ messages) → length (written m (platform_of other_end.me)) ≤ length octets → Fell (suc all) (m ∷ messages) work
      → HasHeard peer other_end (Fell all) more (hears_few plan taken_all peer (suc n) octets work)
  whole_fall fit all n octets more m messages kept work at said e enough j = rw at (heard (whole_next other_end m messages octets more kept.session.max_pdu fit said e (window (suc all) (m ∷ messages) kept work at j).0
      (window (suc all) (m ∷ messages) kept work at j).1 enough))
    where
      heard : HasNext other_end.me (m ∷ messages) octets more kept.session.max_pdu → HasHeard peer other_end (Fell all) more (hears_within plan taken_all peer (hears_few plan taken_all peer n) octets (Some kept) work)
      heard h = rw h.front
          (few_fall fit all n h.rest more h.later (hears_pdu plan taken_all peer (record { id = platform_of other_end.me; messages = h.message ∷ [] }) work) (subst (AreSaid other_end) h.are said).1 h.behind
          (pdu_falls all h.message h.later kept work at (subst (AreSaid other_end) h.are said).0 (subst (AreSaid other_end) h.are said).1 (subst (λ (ms : List Message). Fell (suc all) ms work) h.are j)))

  -- ---- once all is heard

  -- what the edge has done then
  pub record HasFallen (all : ℕ) (final : Work) : Type 0 where
    pub works : WorksOn plan later me final
    pub told : List Put
    pub are : AreTold plan me.0 final.effects told
    pub others_on : (k : ℕ) → nat_eq k peer.0 ≡ false → MovesOn (start k) (final.edge.peering k)
    pub rest : List ℕ
    pub left : List Message
    pub said : AreSaid other_end left
    pub behind : rest ++ later.pipes peer.0 me.0 ≡ octets_of_all other_end.me left
    pub holding : (kept : Peering) → final.edge.peering peer.0 ≡ Some kept → kept.held ≡ rest
    pub light : Both (final.edge.peering peer.0) ⊎ (near (final.edge.peering peer.0) + (costs told + left_worth (final.edge.peering peer.0) left) ≤ all)

  module _ (all : ℕ) (result : Work) (heard : HasHeard peer other_end (Fell all) (later.pipes peer.0 me.0) result) where
    abbrev last : Work
    last = heard.last

    falls : Fell all heard.later last
    falls = heard.keeps

    works : WorksOn plan later me result
    works = heard_works plan later me peer apart result
        (record { later = heard.later; rest = heard.rest; last = heard.last; keeps = falls.hears; said = heard.said; behind = heard.behind; is = heard.is })

    abbrev final : Work
    final = mends plan taken_all result

    abbrev Ends : Work → Type 0
    Ends = Telling plan me result.effects result.edge.peering (WorksOn plan later me) (works_steady plan later me) (works_standing plan later me)

    ends : Ends final
    ends = mends_keep plan me Ends
        (steady_rows plan me checked types Ends (telling_steady plan me result.effects result.edge.peering (WorksOn plan later me) (works_steady plan later me) (works_standing plan later me))) result
        (works, (tells_not plan me.0 result.effects, λ k. moves_not (result.edge.peering k)))

    tells : TellsMore plan me.0 result.effects final.effects
    tells = ends.1.0

    held_same : (o : Option Peering) → (holds peer heard.rest o last).effects ≡ last.effects
    held_same None = refl
    held_same (Some kept) = changed_effects (with_peering peer (Some (record kept { held = heard.rest }))) last

    effects_are : result.effects ≡ last.effects
    effects_are = ap (λ (w : Work). w.effects) heard.is ∙ held_same (last.edge.peering peer.0)

    held_else : (k : ℕ) → nat_eq k peer.0 ≡ false → (o : Option Peering) → (holds peer heard.rest o last).edge.peering k ≡ last.edge.peering k
    unfolding changes with_peering
    held_else k gone None = refl
    held_else k gone (Some kept) = rw gone refl

    fallen : Both (final.edge.peering peer.0) ⊎ (costs tells.told + (near (final.edge.peering peer.0) + (costs falls.told + left_worth (final.edge.peering peer.0) heard.later)) ≤ all)
        → ((kept : Peering) → final.edge.peering peer.0 ≡ Some kept → kept.held ≡ heard.rest) → HasFallen all final
    fallen light holding = record {
      works = ends.0;
      told = falls.told ++ tells.told;
      are = subst (λ (es : List Effect). AreTold plan me.0 es (falls.told ++ tells.told)) (sym (tells.joined ∙ ap (λ (l : List Effect). l ++ tells.more) effects_are))
          (told_joined plan me.0 last.effects tells.more falls.told tells.told falls.are tells.are);
      others_on = λ k gone. moves_then (start k) (last.edge.peering k) (final.edge.peering k) (falls.on k)
          (subst (λ (o : Option Peering). MovesOn o (final.edge.peering k)) (ap (λ (w : Work). w.edge.peering k) heard.is ∙ held_else k gone (last.edge.peering peer.0)) (ends.1.1 k));
      rest = heard.rest;
      left = heard.later;
      said = heard.said;
      behind = heard.behind;
      holding = holding;
      light = ⊎_elim (λ (ended : Both (final.edge.peering peer.0)). inl ended)
          (λ (less : costs tells.told + (near (final.edge.peering peer.0) + (costs falls.told + left_worth (final.edge.peering peer.0) heard.later)) ≤ all).
          inr (sum (costs tells.told) (near (final.edge.peering peer.0)) (costs falls.told) (left_worth (final.edge.peering peer.0) heard.later) (costs (falls.told ++ tells.told)) less
          (paid_joined plan checked others me peer falls.told tells.told))) light;
    }
      where
        sum : (p r c l a : ℕ) → p + (r + (c + l)) ≤ all → a ≡ c + p → r + (a + l) ≤ all
        sum p r c l a le is = omega (arith, le, is)

    none_held : {kept : Peering} → None ≡ Some kept → ⊥
    none_held e = cc

    only_none : (o : Option Peering) → MovesOn None o → o ≡ None
    only_none None on = refl
    only_none (Some now) on = absurd on

    held_on : (kept : Peering) (rest : List ℕ) (o : Option Peering) → MovesOn (Some (record kept { held = rest })) o → (now : Peering) → o ≡ Some now → now.held ≡ rest
    held_on kept rest None on now is = absurd (none_held is)
    held_on kept rest (Some one) on now is = ap (λ (p : Peering). p.held) (same is) ∙ on.0 where
      same : Some one ≡ Some now → now ≡ one
      same e = cc

    pub fallen_all : HasFallen all (mends plan taken_all result)
    fallen_all = by (last.edge.peering peer.0) refl where
      quiet : (p r c l w t : ℕ) → p ≡ 0 → r ≤ w → l ≤ t → w + (c + t) ≤ all → p + (r + (c + l)) ≤ all
      quiet p r c l w t none one two le = omega (arith, none, one, two, le)

      by : (o : Option Peering) → last.edge.peering peer.0 ≡ o → HasFallen all final
      by None at =
          fallen
          (⊎_elim (λ (ended : Both (last.edge.peering peer.0)). inl (ended.0, gone))
          (λ (less : near (last.edge.peering peer.0) + (costs falls.told + left_worth (last.edge.peering peer.0) heard.later) ≤ all).
          inr (subst (λ (o : Option Peering). costs tells.told + (near o + (costs falls.told + left_worth o heard.later)) ≤ all) (sym gone)
          (quiet (costs tells.told) 0 (costs falls.told) 0 0 0 (mended_paid plan checked others me result mended tells) (omega arith) (omega arith)
          (subst (λ (o : Option Peering). near o + (costs falls.told + left_worth o heard.later) ≤ all) at less)))) falls.light)
          (λ kept there. absurd (none_held (sym gone ∙ there)))
        where
          is : result ≡ last
          is = heard.is ∙ ap (λ (o : Option Peering). holds peer heard.rest o last) at

          mended : IsMendedAt plan me.0 result.edge
          mended = subst (λ (w : Work). IsMendedAt plan me.0 w.edge) (sym is) falls.mended

          gone : final.edge.peering peer.0 ≡ None
          gone = only_none (final.edge.peering peer.0) (subst (λ (o : Option Peering). MovesOn o (final.edge.peering peer.0)) (ap (λ (w : Work). w.edge.peering peer.0) is ∙ at) (ends.1.1 peer.0))
      by (Some kept) at =
          fallen
          (inr (quiet (costs tells.told) (near (final.edge.peering peer.0)) (costs falls.told) (left_worth (final.edge.peering peer.0) heard.later) (near (Some kept)) (messages_worth plan others peer.0 me.0 heard.later)
          (mended_paid plan checked others me result mended tells)
          (end_on far (Rattle.settle_bounds.specs.Bound.rise_cost plan others me peer.0) (Rattle.settle_bounds.specs.Bound.fall_cost plan others me peer.0) now (final.edge.peering peer.0) on)
          (less_left (final.edge.peering peer.0) heard.later)
          (light_at plan checked types later me peer apart away others first held placed start far all heard.later falls.told (last.edge.peering peer.0) kept at falls.light)))
          (held_on kept heard.rest (final.edge.peering peer.0) on)
        where
          now : Peering
          now = record kept { held = heard.rest }

          held_work : Work
          held_work = changes (with_peering peer (Some now)) last

          is : result ≡ held_work
          is = heard.is ∙ ap (λ (o : Option Peering). holds peer heard.rest o last) at

          on : MovesOn (Some now) (final.edge.peering peer.0)
          on = subst (λ (o : Option Peering). MovesOn o (final.edge.peering peer.0)) (ap (λ (w : Work). w.edge.peering peer.0) is ∙ moved_stands peer now last) (ends.1.1 peer.0)

          mended : IsMendedAt plan me.0 result.edge
          mended = subst (λ (w : Work). IsMendedAt plan me.0 w.edge) (sym is) (put_mended plan me last.edge held_work.edge (waits_put peer kept now last at refl) falls.mended)
