-- While an edge hears a neighbour, in whatever state their session is: what it tells costs no more than the messages that it hears and the
-- states that the session leaves.
use Rattle.std.proofs.Common.{◌≡◌, ◌≤◌, ◌<◌, ◌+◌, ◌*◌, ◌++◌, ◌∙◌, ◌⊎◌, ℕ, zero, suc, Bool, true, false, cond, nat_eq, List, [], ◌∷◌, Option, Some, None, length, map, refl, sym, ap, subst, inl, inr, ⊎_elim, arith}
use Rattle.std.proofs.Math.Nat.{suc-mul}
use Rattle.std.proofs.lemmas.Bool.{cases_Bool}
use Rattle.std.proofs.lemmas.List.{append_cancel_left}
use Rattle.std.specs.List.{AllByRecursion}
use Rattle.net_values.proofs.BoolLemmas.{clash}
use Rattle.net_base.specs.declared.plan.Plan.{Plan}
use Rattle.net_base.specs.declared.plan.places.EdgeId.{EdgeId}
use Rattle.net_base.specs.plan.Accepted.{IsChecked}
use Rattle.ldp_grammar.specs.declared.message.Message.{Message}
use Rattle.session_core.specs.declared.peers.Peers.{Peers}
use Rattle.session_core.specs.Phase.{Phase}
use Rattle.session_core.specs.Phase as phase
use Rattle.session_core.specs.Reasons.{is_fatal}
use Rattle.session_core.specs.Table.{Heard, Received}
use Rattle.pw_messages.specs.Sender.{platform_of}
use Rattle.edge_model.specs.declared.effect.Effect.{Effect}
use Rattle.edge_model.specs.declared.effect.Effect.TheVariants as effect
use Rattle.edge_model.specs.EndPlaces.{end_places}
use Rattle.edge_model.specs.Settled.{is_mended, is_told}
use Rattle.edge_model.specs.Hear.{acts_on, hears_message, hears_one, holds, is_up_phase}
use Rattle.edge_model.specs.Mend.{mends}
use Rattle.edge_model.specs.Session.{happens_with_ends, with_session}
use Rattle.edge_model.specs.State.{EdgeState, Peering, has_end, is_there, with_peering}
use Rattle.edge_model.specs.Work.{Work, changes}
use Rattle.edge_model.proofs.MendedLemmas.{mends_mended}
use Rattle.edge_model.proofs.OneEndLemmas.{has_one_end}
use Rattle.edge_model.proofs.SignalLemmas.{hears_message_signals}
use Rattle.network_model.specs.Absorb.{taken_all}
use Rattle.network_model.specs.State.{NetworkState}
use Rattle.flight_laws.specs.Across.{IsMappingTaken}
use Rattle.flight_laws.specs.Ends.{HasTypes, WorksOn, ends_at}
use Rattle.flight_laws.specs.Messages.{AreSaid, IsSaidAcross, octets_of_all}
use Rattle.flight_laws.specs.Rules.{AllMessages}
use Rattle.flight_laws.proofs.HearLemmas.{HearsOn, heard_works, hears_kept}
use Rattle.flight_laws.proofs.HearingLemmas.{HasHeard, KeptByHearing, KeptByMessages, fatal_heard, message_heard, session_heard, up_heard}
use Rattle.flight_laws.proofs.MendedRunLemmas.{IsMendedAt, mended_at}
use Rattle.flight_laws.proofs.MendingLemmas.{mends_keep}
use Rattle.flight_laws.proofs.RuledHearLemmas.{IsHearing, hearing_ruled}
use Rattle.flight_laws.proofs.SteadyLemmas.{steady_rows}
use Rattle.flight_laws.proofs.WorksLemmas.{works_steady}
use Rattle.spelling_laws.proofs.PutLemmas.{changed_effects}
use Rattle.spelling_laws.proofs.WorkLemmas.{works_standing}
use Rattle.rest_laws.specs.Delivered.{weigh_one, weight}
use Rattle.rest_laws.specs.Levels.{level_of}
use Rattle.rest_laws.specs.Rises.{HasMended, PutsAbove, left_above, put_most, said_count}
use Rattle.rest_laws.specs.Weight.{heavy, total}
use Rattle.rest_laws.proofs.ClearLemmas.{put_mended}
use Rattle.rest_laws.proofs.CountLemmas.{count_joined, mends_few_said}
use Rattle.rest_laws.proofs.DeliverLemmas.{HasLevel, class_of, goes_by_plan, holds_by_plan, waits_put}
use Rattle.rest_laws.proofs.DueLemmas.{PutsMore, PutsWell}
use Rattle.rest_laws.proofs.PutLemmas.{HasPut}
use Rattle.rest_laws.proofs.RiseLemmas.{hearing_fewer, hearing_rises}
use Rattle.rest_laws.proofs.StillLemmas.{mended_puts_none}
use Rattle.quiet_laws.specs.Measure.{end_rank, phase_rank}
use Rattle.quiet_laws.proofs.CostLemmas.{costly, costs, costs_few, costs_joined, costs_levels, worth}
use Rattle.quiet_laws.proofs.ToldLemmas.{AreTold, MovesFew, MovesOn, Put, TellsMore, Telling, Told, moves_not, moves_then, none_happens, received_few, sender_is, telling_steady, tells_not, told_joined, told_messages}

-- ---- numbers

pub times_more : (a b k : ℕ) → a ≤ b → a * k ≤ b * k
times_more zero b k le = omega (arith, le)
times_more (suc a) zero k le = omega (arith, le)
times_more (suc a) (suc b) k le = omega (arith, times_more a b k (omega (arith, le)), suc-mul a k, suc-mul b k)

pub one_time : (r j : ℕ) → 1 ≤ r → j ≤ r * j
one_time r j some = less (1 * j) j (r * j) (suc-mul 0 j) (times_more 1 r j some) where
  less : (a j b : ℕ) → a ≡ 0 * j + j → a ≤ b → j ≤ b
  less a j b is le = omega (arith, is, le)

pub some_rank : (p : Phase) → 1 ≤ phase_rank p
some_rank phase.Initialized = omega arith
some_rank phase.OpenSent = omega arith
some_rank phase.OpenRec = omega arith
some_rank phase.Operational = omega arith

-- nothing is said
none_costs : (plan : Plan) (edges : ℕ → EdgeState) (me : EdgeId) (few : ℕ) (es : List Effect) (ps : List Put) → AllByRecursion (PutsWell plan me (λ place saying. false)) es → AreTold plan me.0 es ps → costs plan edges me.0 few ps ≡ 0
none_costs plan edges me few [] [] none are = refl
none_costs plan edges me few [] (p ∷ ps) none are = absurd are
none_costs plan edges me few (effect.Said peer octets ∷ es) ps none are = clash none.0.allowed
none_costs plan edges me few (e ∷ es) ps none are = none_costs plan edges me few es ps none.1 are

pub has_mended : (plan : Plan) (me : EdgeId) (edge : EdgeState) → IsMendedAt plan me.0 edge → HasMended plan edge
has_mended plan me edge mended = record {
  ends = subst (λ (k : EdgeId). AllByRecursion (λ place. is_mended plan edge place ≡ true) (end_places plan k)) (sym mended.me) mended.ends;
  statuses = subst (λ (k : EdgeId). AllByRecursion (λ place. is_told plan edge place ≡ true) (end_places plan k)) (sym mended.me) mended.statuses;
  chosen = mended.chosen;
}

module _ (plan : Plan) (checked : IsChecked plan) (types : HasTypes plan) (later : NetworkState) (me peer : EdgeId) (apart : nat_eq me.0 peer.0 ≡ false) (away : nat_eq peer.0 me.0 ≡ false)
    (others : ℕ → EdgeState) (first : EdgeState) (held : ℕ → Option (List ℕ)) (placed : (others peer.0).me ≡ peer) (start : ℕ → Option Peering) (few most : ℕ) (enough : 261 * most ≤ few)
    (ends_few : 3 * length (end_places plan me) ≤ most) (all : ℕ) where
  abbrev other_end : Peers
  other_end = ends_at plan peer.0 me.0

  abbrev pub put_worth : ℕ
  put_worth = worth plan others me.0 few

  -- once the session has ended the edge may mend once more
  abbrev pub mend_worth : ℕ
  mend_worth = most * put_worth

  -- a state that a session leaves is worth two replies, and that the edge mends twice
  abbrev pub phase_worth : ℕ
  phase_worth = suc ((2 + most) * put_worth + mend_worth)

  abbrev pub near_worth : Option Peering → ℕ
  near_worth None = mend_worth
  near_worth (Some kept) = phase_rank kept.session.phase * phase_worth

  abbrev pub weight_left : Option Peering → List Message → ℕ
  weight_left None ms = 0
  weight_left (Some kept) ms = weight plan others peer.0 me.0 few ms

  abbrev paid : List Put → ℕ
  paid ps = costs plan others me.0 few ps

  -- while the session may go on
  pub record Facts (messages : List Message) (work : Work) : Type 0 where
    pub ruled : IsHearing plan others me.0 peer.0 first held messages work
    pub mended : IsMendedAt plan me.0 work.edge
    pub bits : (others me.0).bits ≡ work.edge.bits
    pub taken : AllMessages (IsMappingTaken plan me.0 peer.0) messages
    pub short : AllMessages (λ m. put_most plan me m ≤ most) messages

  pub record Falls (messages : List Message) (work : Work) : Type 0 where
    pub hears : HearsOn plan later me peer messages work
    pub told : List Put
    pub are : AreTold plan me.0 work.effects told
    pub on : (k : ℕ) → MovesOn (start k) (work.edge.peering k)
    pub light : near_worth (work.edge.peering peer.0) + (paid told + weight_left (work.edge.peering peer.0) messages) ≤ all
    pub facts : (work.edge.peering peer.0 ≡ None) ⊎ Facts messages work

  base : KeptByHearing plan me peer other_end (HearsOn plan later me peer)
  base = hears_kept plan later me peer apart checked types

  ruled_messages : KeptByMessages plan peer other_end (IsHearing plan others me.0 peer.0 first held)
  ruled_messages = message_heard plan me peer other_end (IsHearing plan others me.0 peer.0 first held) (hearing_ruled plan checked types others me peer first held away placed)

  none_is : {kept : Peering} → None ≡ Some kept → ⊥
  none_is e = cc

  facts_at : {messages : List Message} {work : Work} {kept : Peering} → work.edge.peering peer.0 ≡ Some kept → (work.edge.peering peer.0 ≡ None) ⊎ Facts messages work → Facts messages work
  facts_at {messages} {work} {kept} at either = ⊎_elim (λ (none : work.edge.peering peer.0 ≡ None). absurd (none_is (sym none ∙ at))) (λ (f : Facts messages work). f) either

  -- ---- the sender of a PDU

  sender_falls : (messages : List Message) (work : Work) → Falls messages work → Falls messages (happens_with_ends taken_all peer (Heard (platform_of other_end.me)) work)
  sender_falls messages work falls = by (work.edge.peering peer.0) refl where
    next : Work
    next = happens_with_ends taken_all peer (Heard (platform_of other_end.me)) work

    by : (near : Option Peering) → work.edge.peering peer.0 ≡ near → Falls messages next
    by None at =
        let same = none_happens plan later me peer apart checked types (Heard (platform_of other_end.me)) work at in
        record {
          hears = base.sender messages work falls.hears;
          told = falls.told;
          are = subst (λ (es : List Effect). AreTold plan me.0 es falls.told) (sym same.0) falls.are;
          on = λ k. subst (λ (f : ℕ → Option Peering). MovesOn (start k) (f k)) (sym same.1) (falls.on k);
          light = subst (λ (f : ℕ → Option Peering). near_worth (f peer.0) + (paid falls.told + weight_left (f peer.0) messages) ≤ all) (sym same.1) falls.light;
          facts = inl (ap (λ (f : ℕ → Option Peering). f peer.0) same.1 ∙ at);
        }
    by (Some kept) at =
        let now : Peering = with_session (record (kept.session) { wait = 0 }) kept in
        let moved : Work = changes (with_peering peer (Some now)) work in
        let is : next ≡ moved = sender_is plan later me peer apart checked types messages kept work at falls.hears in
        let there : moved.edge.peering peer.0 ≡ Some now = Rattle.spelling_laws.proofs.SessionLemmas.moved_stands peer now work in
        let put : HasPut work.edge moved.edge = waits_put peer kept now work at refl in
        let f : Facts messages work = facts_at at falls.facts in
        record {
          hears = base.sender messages work falls.hears;
          told = falls.told;
          are = subst (λ (w : Work). AreTold plan me.0 w.effects falls.told) (sym is) (subst (λ (es : List Effect). AreTold plan me.0 es falls.told) (sym (changed_effects (with_peering peer (Some now)) work)) falls.are);
          on = λ k. moves_then (start k) (work.edge.peering k) (next.edge.peering k) (falls.on k) ((sender_on messages work falls.hears).1.1 k);
          light = subst (λ (w : Work). near_worth (w.edge.peering peer.0) + (paid falls.told + weight_left (w.edge.peering peer.0) messages) ≤ all) (sym is)
              (subst (λ (o : Option Peering). near_worth o + (paid falls.told + weight_left o messages) ≤ all) (sym there)
              (subst (λ (o : Option Peering). near_worth o + (paid falls.told + weight_left o messages) ≤ all) at falls.light));
          facts = inr (record {
            ruled = ruled_messages.sender messages work f.ruled;
            mended = subst (λ (w : Work). IsMendedAt plan me.0 w.edge) (sym is) (put_mended plan me work.edge moved.edge put f.mended);
            bits = f.bits ∙ (sym put.bits ∙ ap (λ (w : Work). w.edge.bits) (sym is));
            taken = f.taken;
            short = f.short;
          });
        }
      where
        sender_on : (messages : List Message) (work : Work) → HearsOn plan later me peer messages work
            → Told plan later me peer apart checked types work.effects work.edge.peering messages (happens_with_ends taken_all peer (Heard (platform_of other_end.me)) work)
        sender_on messages work hears =
            (told_messages plan later me peer apart checked types work.effects work.edge.peering).sender messages work (hears, (tells_not plan me.0 work.effects, λ k. moves_not (work.edge.peering k)))

  -- ---- a message

  -- where the end is gone nothing is heard
  gone_is : (m : Message) (work : Work) → work.edge.peering peer.0 ≡ None → hears_message plan taken_all peer m work ≡ work
  gone_is m work at = by (has_end work.edge peer) (ap is_there at) where
    by : (b : Bool) → b ≡ false → cond b (mends plan taken_all (hears_one plan taken_all peer m work)) work ≡ work
    by true e = clash (sym e)
    by false e = refl

  there_is : (m : Message) (kept : Peering) (work : Work) → work.edge.peering peer.0 ≡ Some kept → hears_message plan taken_all peer m work ≡ mends plan taken_all (hears_one plan taken_all peer m work)
  there_is m kept work at = by (has_end work.edge peer) (ap is_there at) where
    by : (b : Bool) → b ≡ true → cond b (mends plan taken_all (hears_one plan taken_all peer m work)) work ≡ mends plan taken_all (hears_one plan taken_all peer m work)
    by true e = refl
    by false e = clash e

  -- what comes of a message costs no more than the message, and a state that the session leaves
  abbrev Pays : (m : Message) (kept : Peering) (near : Option Peering) → List Put → Type 0
  Pays m kept near ps = near_worth near + paid ps ≤ phase_rank kept.session.phase * phase_worth + weigh_one few (level_of plan others peer.0 me.0 m)

  -- it has no further to go
  on_worth : (kept : Peering) (near : Option Peering) → MovesOn (Some kept) near → near_worth near ≤ phase_rank kept.session.phase * phase_worth
  on_worth kept None on = less mend_worth ((2 + most) * put_worth) phase_worth (phase_rank kept.session.phase * phase_worth) refl (one_time (phase_rank kept.session.phase) phase_worth (some_rank kept.session.phase)) where
    less : (k x j r : ℕ) → j ≡ suc (x + k) → j ≤ r → k ≤ r
    less k x j r is le = omega (arith, is, le)
  on_worth kept (Some now) on = times_more (phase_rank now.session.phase) (phase_rank kept.session.phase) phase_worth on.1

  -- or less far
  moved_worth : (r c : ℕ) (near : Option Peering) → end_rank near < r → c ≤ (2 + most) * put_worth → near_worth near + c ≤ r * phase_worth
  moved_worth r c None less few = ended mend_worth ((2 + most) * put_worth) phase_worth (r * phase_worth) c refl (one_time r phase_worth less) few where
    ended : (k x j r c : ℕ) → j ≡ suc (x + k) → j ≤ r → c ≤ x → k + c ≤ r
    ended k x j r c is le few = omega (arith, is, le, few)
  moved_worth r c (Some now) less few =
      rest (phase_rank now.session.phase * phase_worth) ((2 + most) * put_worth) mend_worth phase_worth (suc (phase_rank now.session.phase) * phase_worth) (r * phase_worth) c refl
      (suc-mul (phase_rank now.session.phase) phase_worth) (times_more (suc (phase_rank now.session.phase)) r phase_worth less) few
    where
      rest : (a x k j s r c : ℕ) → j ≡ suc (x + k) → s ≡ a + j → s ≤ r → c ≤ x → a + c ≤ r
      rest a x k j s r c is one le few = omega (arith, is, one, le, few)

  -- the session moves
  event_pays : (m : Message) (messages : List Message) (kept : Peering) (work next : Work) → work.edge.peering peer.0 ≡ Some kept → IsSaidAcross other_end m → (is_up_phase kept.session.phase ≡ false) ⊎ (is_fatal m ≡ true)
      → HearsOn plan later me peer (m ∷ messages) work → next ≡ mends plan taken_all (happens_with_ends taken_all peer (Received m) work) → (tells : TellsMore plan me.0 work.effects next.effects)
      → MovesOn ((happens_with_ends taken_all peer (Received m) work).edge.peering peer.0) (next.edge.peering peer.0) → Pays m kept (next.edge.peering peer.0) tells.told
  event_pays m messages kept work next at said why hears is tells after =
      weaker (near_worth (next.edge.peering peer.0) + paid tells.told) (phase_rank kept.session.phase * phase_worth) (weigh_one few (level_of plan others peer.0 me.0 m))
      (moved_worth (phase_rank kept.session.phase) (paid tells.told) (next.edge.peering peer.0)
      (under (end_rank (next.edge.peering peer.0)) (end_rank (event.edge.peering peer.0)) (phase_rank kept.session.phase)
      (Rattle.quiet_laws.proofs.ToldLemmas.moves_rank (event.edge.peering peer.0) (next.edge.peering peer.0) after) moves.less)
      (bounded (paid tells.told) (said_count tells.more) put_worth (costs_few plan others me.0 few tells.more tells.told tells.are) few_said))
    where
      event : Work
      event = happens_with_ends taken_all peer (Received m) work

      moves : MovesFew plan later me peer apart checked types kept work event
      moves = received_few plan later me peer apart checked types m messages kept work at why hears

      placed_there : event.edge.me ≡ me
      placed_there = (base.event m messages kept work at said why hears).meets.fine.place

      mended_few : said_count next.effects ≤ said_count event.effects + 3 * length (end_places plan me)
      mended_few = subst (λ (w : Work). said_count w.effects ≤ said_count event.effects + 3 * length (end_places plan me)) (sym is)
          (subst (λ (k : EdgeId). said_count (mends plan taken_all event).effects ≤ said_count event.effects + 3 * length (end_places plan k)) placed_there (mends_few_said plan event))

      counted : said_count next.effects ≡ said_count work.effects + said_count tells.more
      counted = ap said_count tells.joined ∙ count_joined work.effects tells.more

      few_said : said_count tells.more ≤ 2 + most
      few_said = sum (said_count work.effects) (said_count event.effects) (said_count next.effects) (said_count tells.more) (3 * length (end_places plan me)) moves.tells.few mended_few counted ends_few where
        sum : (a b c x e : ℕ) → b ≤ a + 2 → c ≤ b + e → c ≡ a + x → e ≤ most → x ≤ 2 + most
        sum a b c x e one two is few = omega (arith, one, two, is, few)

      bounded : (c s x : ℕ) → c ≤ s * x → s ≤ 2 + most → c ≤ (2 + most) * x
      bounded c s x one le = both c (s * x) ((2 + most) * x) one (times_more s (2 + most) x le) where
        both : (a b c : ℕ) → a ≤ b → b ≤ c → a ≤ c
        both a b c one other = omega (arith, one, other)

      under : (a b c : ℕ) → a ≤ b → b < c → a < c
      under a b c one other = omega (arith, one, other)

      weaker : (a b w : ℕ) → a ≤ b → a ≤ b + w
      weaker a b w le = omega (arith, le)

  -- the session is up, and acts on the message
  acts_pays : (m : Message) (messages : List Message) (kept : Peering) (work next : Work) → work.edge.peering peer.0 ≡ Some kept → IsSaidAcross other_end m → Facts (m ∷ messages) work
      → next ≡ mends plan taken_all (acts_on plan taken_all peer m work) → (tells : TellsMore plan me.0 work.effects next.effects) → MovesOn (Some kept) (next.edge.peering peer.0)
      → Pays m kept (next.edge.peering peer.0) tells.told
  acts_pays m messages kept work next at said f is tells on =
      sum (near_worth (next.edge.peering peer.0)) (paid tells.told) (phase_rank kept.session.phase * phase_worth) (weigh_one few (level_of plan others peer.0 me.0 m))
      (on_worth kept (next.edge.peering peer.0) on)
      (⊎_elim leveled unleveled (class_of plan checked others peer me other_end m said f.ruled.to_hear.0.tells))
    where
      sum : (a c r w : ℕ) → a ≤ r → c ≤ w → a + c ≤ r + w
      sum a c r w one other = omega (arith, one, other)

      acted : Work
      acted = mends plan taken_all (acts_on plan taken_all peer m work)

      same_more : (more : List Effect) → acted.effects ≡ work.effects ++ more → tells.more ≡ more
      same_more more joined = append_cancel_left work.effects tells.more more (sym tells.joined ∙ (ap (λ (w : Work). w.effects) is ∙ joined))

      placed_here : work.edge.me ≡ me
      placed_here = f.mended.me

      rises_of : (has : HasLevel plan others peer me m) → PutsAbove plan others me.0 has.least (put_most plan me m) work.effects acted.effects
      rises_of has =
          subst (λ (k : EdgeId). PutsAbove plan others k.0 has.least (put_most plan k m) work.effects acted.effects) placed_here
          (hearing_rises plan checked others peer m has.least work (ap is_there at) (has_mended plan me work.edge f.mended) (ap (λ (k : EdgeId). (others k.0).bits) placed_here ∙ f.bits)
          (holds_by_plan plan checked others peer me work.edge placed_here f.ruled.works.edge.tells)
          (goes_by_plan plan checked others peer me work.edge placed_here m f.ruled.to_hear.0.tells f.taken.0)
          (ap (λ (k : EdgeId). level_of plan others peer.0 k.0 m) placed_here ∙ has.is))

      leveled : HasLevel plan others peer me m → paid tells.told ≤ weigh_one few (level_of plan others peer.0 me.0 m)
      leveled has =
          let rises : PutsAbove plan others me.0 has.least (put_most plan me m) work.effects acted.effects = rises_of has in
          let fewer = hearing_fewer plan checked others me peer m has.least work.effects acted.effects has.is rises in
          subst (λ (o : Option ℕ). paid tells.told ≤ weigh_one few o) (sym has.is)
          (less (paid tells.told) (261 * total few (map left_above rises.levels)) (heavy few (left_above has.least))
          (costs_levels plan others me.0 few checked rises.more tells.told rises.levels (subst (λ (es : List Effect). AreTold plan me.0 es tells.told) (same_more rises.more rises.joined) tells.are) rises.are)
          (costly few (put_most plan me m) (left_above has.least) (map left_above rises.levels) (within (put_most plan me m) f.short.0) fewer.1 fewer.0))
        where
          less : (a b c : ℕ) → a ≤ b → b < c → a ≤ c
          less a b c one other = omega (arith, one, other)

          within : (p : ℕ) → p ≤ most → 261 * p ≤ few
          within p le = omega (arith, le, enough)

      unleveled : ((w : Work) → acts_on plan taken_all peer m w ≡ w) → paid tells.told ≤ weigh_one few (level_of plan others peer.0 me.0 m)
      unleveled none =
          let puts : PutsMore plan me (λ place saying. false) work.effects acted.effects =
          subst (λ (w : Work). PutsMore plan me (λ place saying. false) work.effects (mends plan taken_all w).effects) (sym (none work)) (mended_puts_none plan me (λ place saying. false) work f.mended) in
          nothing (paid tells.told) (weigh_one few (level_of plan others peer.0 me.0 m))
          (none_costs plan others me few puts.more tells.told puts.well (subst (λ (es : List Effect). AreTold plan me.0 es tells.told) (same_more puts.more puts.joined) tells.are))
        where
          nothing : (a b : ℕ) → a ≡ 0 → a ≤ b
          nothing a b is = omega (arith, is)

  -- ---- any message

  left_less : (near : Option Peering) (messages : List Message) → weight_left near messages ≤ weight plan others peer.0 me.0 few messages
  left_less None messages = none (weight plan others peer.0 me.0 few messages) where
    none : (n : ℕ) → 0 ≤ n
    none n = omega arith
  left_less (Some kept) messages = itself (weight plan others peer.0 me.0 few messages) where
    itself : (n : ℕ) → n ≤ n
    itself n = omega arith

  message_falls : (m : Message) (messages : List Message) (work : Work) → IsSaidAcross other_end m → AreSaid other_end messages → Falls (m ∷ messages) work → Falls messages (hears_message plan taken_all peer m work)
  message_falls m messages work said more falls = by (work.edge.peering peer.0) refl where
    next : Work
    next = hears_message plan taken_all peer m work

    step : Told plan later me peer apart checked types work.effects work.edge.peering messages next
    step = (told_messages plan later me peer apart checked types work.effects work.edge.peering).message m messages work said more (falls.hears, (tells_not plan me.0 work.effects, λ k. moves_not (work.edge.peering k)))

    tells : TellsMore plan me.0 work.effects next.effects
    tells = step.1.0

    goes : (kept : Peering) → work.edge.peering peer.0 ≡ Some kept → Facts (m ∷ messages) work → Pays m kept (next.edge.peering peer.0) tells.told → Falls messages next
    goes kept at f pays = record {
      hears = step.0;
      told = falls.told ++ tells.told;
      are = subst (λ (es : List Effect). AreTold plan me.0 es (falls.told ++ tells.told)) (sym tells.joined) (told_joined plan me.0 work.effects tells.more falls.told tells.told falls.are tells.are);
      on = λ k. moves_then (start k) (work.edge.peering k) (next.edge.peering k) (falls.on k) (step.1.1 k);
      light = sum (near_worth (next.edge.peering peer.0)) (paid tells.told) (phase_rank kept.session.phase * phase_worth) (weigh_one few (level_of plan others peer.0 me.0 m)) (paid falls.told)
          (weight plan others peer.0 me.0 few messages) (weight_left (next.edge.peering peer.0) messages) (paid (falls.told ++ tells.told)) pays
          (subst (λ (o : Option Peering). near_worth o + (paid falls.told + weight_left o (m ∷ messages)) ≤ all) at falls.light) (left_less (next.edge.peering peer.0) messages)
          (costs_joined plan others me.0 few falls.told tells.told);
      facts = inr (record {
        ruled = ruled_messages.message m messages work said more f.ruled;
        mended = subst (λ (w : Work). IsMendedAt plan me.0 w.edge) (sym (there_is m kept work at)) (mended_at plan me.0 (mends plan taken_all heard).edge
            (ap (λ (w : Work). w.edge.me) (sym (there_is m kept work at)) ∙ ((hears_message_signals plan taken_all peer m work).edge.me ∙ f.mended.me))
            (mends_mended plan taken_all heard (λ i. refl) (has_one_end plan heard.edge.me checked)));
        bits = f.bits ∙ sym ((hears_message_signals plan taken_all peer m work).edge.bits);
        taken = f.taken.1;
        short = f.short.1;
      });
    }
      where
        heard : Work
        heard = hears_one plan taken_all peer m work

        sum : (n p r w c t l a : ℕ) → n + p ≤ r + w → r + (c + (w + t)) ≤ all → l ≤ t → a ≡ c + p → n + (a + l) ≤ all
        sum n p r w c t l a pays light less is = omega (arith, pays, light, less, is)

    by : (near : Option Peering) → work.edge.peering peer.0 ≡ near → Falls messages next
    by None at = subst (Falls messages) (sym (gone_is m work at)) (record {
      hears = base.gone m messages work at falls.hears;
      told = falls.told;
      are = falls.are;
      on = falls.on;
      light = subst (λ (o : Option Peering). near_worth o + (paid falls.told + weight_left o messages) ≤ all) (sym at)
          (subst (λ (o : Option Peering). near_worth o + (paid falls.told + weight_left o (m ∷ messages)) ≤ all) at falls.light);
      facts = inl at;
    })
    by (Some kept) at = elim (cases_Bool (is_fatal m)) [
      | inl fatal ↦ moved (inr fatal) (there_is m kept work at ∙ ap (mends plan taken_all) (fatal_heard plan other_end peer m kept work at said fatal))
      | inr plain ↦ by_phase plain kept.session.phase refl
    ]
      where
        moved : (is_up_phase kept.session.phase ≡ false) ⊎ (is_fatal m ≡ true) → next ≡ mends plan taken_all (happens_with_ends taken_all peer (Received m) work) → Falls messages next
        moved why is = goes kept at (facts_at at falls.facts) (event_pays m messages kept work next at said why falls.hears is tells (after why is)) where
          after : (is_up_phase kept.session.phase ≡ false) ⊎ (is_fatal m ≡ true) → next ≡ mends plan taken_all (happens_with_ends taken_all peer (Received m) work)
              → MovesOn ((happens_with_ends taken_all peer (Received m) work).edge.peering peer.0) (next.edge.peering peer.0)
          after why is =
              let event : Work = happens_with_ends taken_all peer (Received m) work in
              subst (λ (w : Work). MovesOn (event.edge.peering peer.0) (w.edge.peering peer.0)) (sym is)
              ((mends_keep plan me (Told plan later me peer apart checked types event.effects event.edge.peering messages)
              ((Rattle.quiet_laws.proofs.ToldLemmas.told_kept plan later me peer apart checked types event.effects event.edge.peering).mends messages) event
              (base.event m messages kept work at said why falls.hears, (tells_not plan me.0 event.effects, λ k. moves_not (event.edge.peering k)))).1.1 peer.0)

        not_up : is_up_phase kept.session.phase ≡ false → Falls messages next
        not_up down = moved (inl down) (there_is m kept work at ∙ ap (mends plan taken_all) (session_heard plan peer m kept work at down))

        by_phase : is_fatal m ≡ false → (p : Phase) → kept.session.phase ≡ p → Falls messages next
        by_phase plain phase.Initialized is = not_up (ap is_up_phase is)
        by_phase plain phase.OpenSent is = not_up (ap is_up_phase is)
        by_phase plain phase.OpenRec is = not_up (ap is_up_phase is)
        by_phase plain phase.Operational is =
            goes kept at (facts_at at falls.facts)
            (acts_pays m messages kept work next at said (facts_at at falls.facts) (there_is m kept work at ∙ ap (mends plan taken_all) (up_heard plan other_end peer m kept work at is said plain)) tells
            (subst (λ (o : Option Peering). MovesOn o (next.edge.peering peer.0)) at (step.1.1 peer.0)))

  pub falls_messages : KeptByMessages plan peer other_end Falls
  falls_messages = record {
    window = λ messages kept work at falls. base.window messages kept work at falls.hears;
    sender = sender_falls;
    message = message_falls;
  }

  -- ---- once all is heard

  -- what the edge has done then
  pub record HasFallen (final : Work) : Type 0 where
    pub works : WorksOn plan later me final
    pub told : List Put
    pub are : AreTold plan me.0 final.effects told
    pub others_on : (k : ℕ) → nat_eq k peer.0 ≡ false → MovesOn (start k) (final.edge.peering k)
    pub rest : List ℕ
    pub left : List Message
    pub said : AreSaid other_end left
    pub behind : rest ++ later.pipes peer.0 me.0 ≡ octets_of_all other_end.me left
    pub holding : (kept : Peering) → final.edge.peering peer.0 ≡ Some kept → kept.held ≡ rest
    pub light : end_rank (final.edge.peering peer.0) * phase_worth + (paid told + weight_left (final.edge.peering peer.0) left) ≤ all

  module _ (result : Work) (heard : HasHeard peer other_end Falls (later.pipes peer.0 me.0) result) where
    abbrev last : Work
    last = heard.last

    falls : Falls heard.later last
    falls = heard.keeps

    works : WorksOn plan later me result
    works = heard_works plan later me peer apart result
        (record { later = heard.later; rest = heard.rest; last = heard.last; keeps = falls.hears; said = heard.said; behind = heard.behind; is = heard.is })

    abbrev final : Work
    final = mends plan taken_all result

    abbrev Ends : Work → Type 0
    Ends = Telling plan me result.effects result.edge.peering (WorksOn plan later me) (works_steady plan later me) (works_standing plan later me)

    ends : Ends final
    ends = mends_keep plan me Ends
        (steady_rows plan me checked types Ends (telling_steady plan me result.effects result.edge.peering (WorksOn plan later me) (works_steady plan later me) (works_standing plan later me))) result
        (works, (tells_not plan me.0 result.effects, λ k. moves_not (result.edge.peering k)))

    tells : TellsMore plan me.0 result.effects final.effects
    tells = ends.1.0

    held_same : (near : Option Peering) → (holds peer heard.rest near last).effects ≡ last.effects
    held_same None = refl
    held_same (Some kept) = changed_effects (with_peering peer (Some (record kept { held = heard.rest }))) last

    effects_are : result.effects ≡ last.effects
    effects_are = ap (λ (w : Work). w.effects) heard.is ∙ held_same (last.edge.peering peer.0)

    held_else : (k : ℕ) → nat_eq k peer.0 ≡ false → (near : Option Peering) → (holds peer heard.rest near last).edge.peering k ≡ last.edge.peering k
    unfolding changes with_peering
    held_else k gone None = refl
    held_else k gone (Some kept) = rw gone refl

    fallen : (paid tells.told + (end_rank (final.edge.peering peer.0) * phase_worth + (paid falls.told + weight_left (final.edge.peering peer.0) heard.later)) ≤ all)
        → ((kept : Peering) → final.edge.peering peer.0 ≡ Some kept → kept.held ≡ heard.rest) → HasFallen final
    fallen light holding = record {
      works = ends.0;
      told = falls.told ++ tells.told;
      are = subst (λ (es : List Effect). AreTold plan me.0 es (falls.told ++ tells.told)) (sym (tells.joined ∙ ap (λ (l : List Effect). l ++ tells.more) effects_are))
          (told_joined plan me.0 last.effects tells.more falls.told tells.told falls.are tells.are);
      others_on = λ k gone. moves_then (start k) (last.edge.peering k) (final.edge.peering k) (falls.on k)
          (subst (λ (o : Option Peering). MovesOn o (final.edge.peering k)) (ap (λ (w : Work). w.edge.peering k) heard.is ∙ held_else k gone (last.edge.peering peer.0)) (ends.1.1 k));
      rest = heard.rest;
      left = heard.later;
      said = heard.said;
      behind = heard.behind;
      holding = holding;
      light = sum (paid tells.told) (end_rank (final.edge.peering peer.0) * phase_worth) (paid falls.told) (weight_left (final.edge.peering peer.0) heard.later) (paid (falls.told ++ tells.told)) light
          (costs_joined plan others me.0 few falls.told tells.told);
    }
      where
        sum : (p r c l a : ℕ) → p + (r + (c + l)) ≤ all → a ≡ c + p → r + (a + l) ≤ all
        sum p r c l a le is = omega (arith, le, is)

    none_held : {kept : Peering} → None ≡ Some kept → ⊥
    none_held e = cc

    only_none : (o : Option Peering) → MovesOn None o → o ≡ None
    only_none None on = refl
    only_none (Some now) on = absurd on

    held_on : (kept : Peering) (rest : List ℕ) (o : Option Peering) → MovesOn (Some (record kept { held = rest })) o → (now : Peering) → o ≡ Some now → now.held ≡ rest
    held_on kept rest None on now is = absurd (none_held is)
    held_on kept rest (Some one) on now is = ap (λ (p : Peering). p.held) (same is) ∙ on.0 where
      same : Some one ≡ Some now → now ≡ one
      same e = cc

    pub fallen_all : HasFallen (mends plan taken_all result)
    fallen_all = by (last.edge.peering peer.0) refl where
      by : (near : Option Peering) → last.edge.peering peer.0 ≡ near → HasFallen final
      by None at =
          let is : result ≡ last = heard.is ∙ ap (λ (o : Option Peering). holds peer heard.rest o last) at in
          let gone : final.edge.peering peer.0 ≡ None =
          only_none (final.edge.peering peer.0) (subst (λ (o : Option Peering). MovesOn o (final.edge.peering peer.0)) (ap (λ (w : Work). w.edge.peering peer.0) is ∙ at) (ends.1.1 peer.0)) in
          fallen
          (subst (λ (o : Option Peering). paid tells.told + (end_rank o * phase_worth + (paid falls.told + weight_left o heard.later)) ≤ all) (sym gone)
          (ended (paid tells.told) (paid falls.told) mend_worth (0 * phase_worth) (zero_times phase_worth)
          (bounded (paid tells.told) (said_count tells.more) put_worth (costs_few plan others me.0 few tells.more tells.told tells.are) few_said)
          (subst (λ (o : Option Peering). near_worth o + (paid falls.told + weight_left o heard.later) ≤ all) at falls.light)))
          (λ kept there. absurd (none_held (sym gone ∙ there)))
        where
          zero_times : (j : ℕ) → 0 * j ≡ 0
          zero_times j = omega arith

          ended : (p c k z : ℕ) → z ≡ 0 → p ≤ k → k + (c + 0) ≤ all → p + (z + (c + 0)) ≤ all
          ended p c k z none few le = omega (arith, none, few, le)

          few_said : said_count tells.more ≤ most
          few_said = counted (said_count result.effects) (said_count final.effects) (said_count tells.more) (3 * length (end_places plan me))
              (subst (λ (k : EdgeId). said_count final.effects ≤ said_count result.effects + 3 * length (end_places plan k)) works.fine.place (mends_few_said plan result))
              (ap said_count tells.joined ∙ count_joined result.effects tells.more) ends_few
            where
              counted : (a c x e : ℕ) → c ≤ a + e → c ≡ a + x → e ≤ most → x ≤ most
              counted a c x e one is few = omega (arith, one, is, few)

          bounded : (c s x : ℕ) → c ≤ s * x → s ≤ most → c ≤ most * x
          bounded c s x one le = both c (s * x) (most * x) one (times_more s most x le) where
            both : (a b c : ℕ) → a ≤ b → b ≤ c → a ≤ c
            both a b c one other = omega (arith, one, other)
      by (Some kept) at =
          fallen
          (quiet (paid tells.told) (end_rank (final.edge.peering peer.0) * phase_worth) (paid falls.told) (weight_left (final.edge.peering peer.0) heard.later) (phase_rank kept.session.phase * phase_worth)
          (weight plan others peer.0 me.0 few heard.later) none
          (times_more (end_rank (final.edge.peering peer.0)) (phase_rank kept.session.phase) phase_worth
          (Rattle.quiet_laws.proofs.ToldLemmas.moves_rank (Some now) (final.edge.peering peer.0) on)) (left_less (final.edge.peering peer.0) heard.later)
          (subst (λ (o : Option Peering). near_worth o + (paid falls.told + weight_left o heard.later) ≤ all) at falls.light))
          (held_on kept heard.rest (final.edge.peering peer.0) on)
        where
          now : Peering
          now = record kept { held = heard.rest }

          held_work : Work
          held_work = changes (with_peering peer (Some now)) last

          is : result ≡ held_work
          is = heard.is ∙ ap (λ (o : Option Peering). holds peer heard.rest o last) at

          on : MovesOn (Some now) (final.edge.peering peer.0)
          on = subst (λ (o : Option Peering). MovesOn o (final.edge.peering peer.0)) (ap (λ (w : Work). w.edge.peering peer.0) is ∙ Rattle.spelling_laws.proofs.SessionLemmas.moved_stands peer now last) (ends.1.1 peer.0)

          mended : IsMendedAt plan me.0 result.edge
          mended = subst (λ (w : Work). IsMendedAt plan me.0 w.edge) (sym is)
              (put_mended plan me last.edge held_work.edge (waits_put peer kept now last at refl) (facts_at at falls.facts).mended)

          puts : PutsMore plan me (λ place saying. false) result.effects final.effects
          puts = mended_puts_none plan me (λ place saying. false) result mended

          none : paid tells.told ≡ 0
          none = none_costs plan others me few puts.more tells.told puts.well
              (subst (λ (es : List Effect). AreTold plan me.0 es tells.told) (append_cancel_left result.effects tells.more puts.more (sym tells.joined ∙ puts.joined)) tells.are)

          quiet : (p r c l w t : ℕ) → p ≡ 0 → r ≤ w → l ≤ t → w + (c + t) ≤ all → p + (r + (c + l)) ≤ all
          quiet p r c l w t none one two le = omega (arith, none, one, two, le)
