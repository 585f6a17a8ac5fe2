-- Events that touch the sessions of one edge: octets are delivered, an end is lost, an edge restarts, and ticks pass.
use Rattle.std.proofs.Common.{◌≡◌, ◌≢◌, ◌∷◌, ◌++◌, ◌&&◌, ◌||◌, ◌+◌, ◌∙◌, ℕ, zero, suc, Bool, true, false, cond, not, nat_eq, length, take, drop, List, [], Option, Some, None, refl, sym, ap, subst, append_assoc, inl, inr, ⊎_elim}
use Rattle.std.proofs.lemmas.Bool.{cases_Bool, eqb-true}
use Rattle.std.proofs.lemmas.List.{take-append-drop}
use Rattle.net_values.proofs.BoolLemmas.{true_clash}
use Rattle.net_values.proofs.NumberLemmas.{same_number, apart_back}
use Rattle.net_base.specs.declared.plan.Plan.{Plan}
use Rattle.net_base.specs.declared.plan.places.EdgeId.{EdgeId}
use Rattle.net_base.specs.declared.trace.state_name.Reason.TheVariants as reason
use Rattle.net_base.specs.plan.Accepted.{IsChecked}
use Rattle.ldp_grammar.specs.declared.message.Message.{Message}
use Rattle.session_core.specs.declared.peers.Peers.{Peers}
use Rattle.session_core.specs.Table.{Closed}
use Rattle.edge_model.specs.Connection.{restart_input}
use Rattle.edge_model.specs.Hear.{hears_few, octets_input}
use Rattle.edge_model.specs.Mend.{mends}
use Rattle.edge_model.specs.Session.{happens_with_ends}
use Rattle.label_space.specs.Kept.{kept_at}
use Rattle.edge_model.specs.Labels.{owners_of}
use Rattle.edge_model.specs.Mend.{is_up_with}
use Rattle.edge_model.specs.State.{EdgeState, Peering, is_there, with_learned, without_ends, without_peerings, with_kept}
use Rattle.edge_model.specs.Tick.{tick_input}
use Rattle.edge_model.specs.Work.{Work, changes, idles}
use Rattle.network_model.specs.Absorb.{begin_at, idle, taken_all}
use Rattle.network_model.specs.Connection.{deliver_event, delivering, hearing_work, is_drained_pipe, lose_event, losing, losing_work, restart_event}
use Rattle.network_model.specs.State.{NetworkState, lives_on, stands, with_edge, with_older, with_pipe, without_octets_to}
use Rattle.network_model.specs.declared.packet.Packet.{Packet}
use Rattle.network_model.specs.Age.{aged_entries}
use Rattle.net_base.specs.declared.trace.entry.Entry.TheVariants.{Aged}
use Rattle.network_model.specs.Tick.{tick_at, tick_event, ticks_from}
use Rattle.flight_laws.specs.Ends.{HasTypes, IsOrdered, IsPaired, KeepsOrder, WorksOn, ends_at}
use Rattle.flight_laws.specs.Facts.{HoldsBut, flight}
use Rattle.flight_laws.specs.Flight.{is_empty}
use Rattle.flight_laws.specs.Messages.{octets_of_all}
use Rattle.flight_laws.specs.Pair.{ArePaired, AreTalking}
use Rattle.flight_laws.specs.Endings.{TellGoodEnds}
use Rattle.flight_laws.specs.Sound.{TellsSoundly, point_limit}
use Rattle.flight_laws.proofs.HearLemmas.{HearsOn, heard_works, hears_kept}
use Rattle.flight_laws.proofs.HearingLemmas.{few_heard, message_heard}
use Rattle.flight_laws.proofs.MendingLemmas.{mends_keep}
use Rattle.flight_laws.proofs.PipeLemmas.{all_good, good-append, pipe_from, pipe_there, pipe_to}
use Rattle.flight_laws.proofs.ReactLemmas.{goes_in_step}
use Rattle.flight_laws.proofs.SoundLemmas.{end_label, fresh_sound}
use Rattle.flight_laws.proofs.FreedLemmas.{IsOwnedAt, owned_from, owners_own}
use Rattle.flight_laws.proofs.WorkingLemmas.{lost_kept, tick_kept}
use Rattle.flight_laws.proofs.WorksLemmas.{AreOthers, no_end, work_keeps, works_begin, works_counted, works_kept, works_settle}
use Rattle.flight_laws.proofs.CommonLemmas.{no_more}

pub idle_keeps : (plan : Plan) (network : NetworkState) → IsOrdered plan network → KeepsOrder plan (idle network)
idle_keeps plan network ordered = record { ordered = ordered; good = (tt, tt) }

-- ---- an end is lost

-- the input applies
pub losing_is : (plan : Plan) (me peer : EdgeId) (network : NetworkState) → stands network me.0 peer.0 ≡ true
    → losing_work plan network me peer ≡ mends plan taken_all (happens_with_ends taken_all peer (Closed reason.Closed) (begin_at network me))
losing_is plan me peer network up = by_end (stands network me.0 peer.0) up where
  by_end : (b : Bool) → b ≡ true → cond b (mends plan taken_all (happens_with_ends taken_all peer (Closed reason.Closed) (begin_at network me))) (idles (begin_at network me))
      ≡ mends plan taken_all (happens_with_ends taken_all peer (Closed reason.Closed) (begin_at network me))
  by_end true e = refl
  by_end false e = true_clash (sym e)

pub losing_keeps : (plan : Plan) (me peer : EdgeId) (network : NetworkState) → IsChecked plan → HasTypes plan → IsOrdered plan network → stands network me.0 peer.0 ≡ true
    → KeepsOrder plan (losing plan me peer network)
losing_keeps plan me peer network checked types ordered up =
    work_keeps plan network me 0 0 (losing_work plan network me peer) ordered
    (subst (WorksOn plan network me) (sym (losing_is plan me peer network up))
    (lost_kept plan me (WorksOn plan network me) (works_kept plan network me checked types) peer (begin_at network me) (works_begin plan network me ordered)))

pub lose_keeps : (plan : Plan) (me peer : EdgeId) (network : NetworkState) → IsChecked plan → HasTypes plan → IsOrdered plan network → KeepsOrder plan (lose_event plan me peer network)
lose_keeps plan me peer network checked types ordered = by_stand (stands network me.0 peer.0) refl where
  by_stand : (up : Bool) → stands network me.0 peer.0 ≡ up → KeepsOrder plan (cond up (losing plan me peer network) (idle network))
  by_stand true is = losing_keeps plan me peer network checked types ordered is
  by_stand false is = idle_keeps plan network ordered

-- ---- ticks pass

ticks_keep : (plan : Plan) (place count : ℕ) (network : NetworkState) → IsChecked plan → HasTypes plan → IsOrdered plan network → KeepsOrder plan (ticks_from plan place count network)
ticks_keep plan place zero network checked types ordered = record { ordered = ordered; good = tt }
ticks_keep plan place (suc count) network checked types ordered =
    let me : EdgeId = record { 0 = place } in
    let one : KeepsOrder plan (tick_at plan me network) =
    work_keeps plan network me 0 0 (tick_input plan taken_all (begin_at network me)) ordered
    (tick_kept plan me (WorksOn plan network me) (works_kept plan network me checked types) (begin_at network me)
    (works_counted plan network me (begin_at network me) (works_begin plan network me ordered))) in
    let more : KeepsOrder plan (ticks_from plan (place + 1) count (tick_at plan me network).state) = ticks_keep plan (place + 1) count (tick_at plan me network).state checked types one.ordered in
    record { ordered = more.ordered; good = good-append (tick_at plan me network).entries (ticks_from plan (place + 1) count (tick_at plan me network).state).entries one.good more.good }

pub older_ordered : (plan : Plan) (network : NetworkState) → IsOrdered plan network → IsOrdered plan (with_older network)
unfolding with_older
older_ordered plan network ordered = record { two = λ a b apart. ordered.two a b apart; alone = λ a. ordered.alone a; placed = λ a. ordered.placed a; sound = λ a. ordered.sound a }

aged_good : (packets : List Packet) → TellGoodEnds (aged_entries packets)
aged_good [] = tt
aged_good (p ∷ ps) = by (lives_on p) (aged_good ps) where
  by : (b : Bool) → TellGoodEnds (aged_entries ps) → TellGoodEnds (cond b (aged_entries ps) (Aged p.number ∷ aged_entries ps))
  by true good = good
  by false good = (tt, good)

pub tick_keeps : (plan : Plan) (network : NetworkState) → IsChecked plan → HasTypes plan → IsOrdered plan network → KeepsOrder plan (tick_event plan network)
tick_keeps plan network checked types ordered =
    let rest : KeepsOrder plan (ticks_from plan 0 (length plan.edges) (with_older network)) =
    ticks_keep plan 0 (length plan.edges) (with_older network) checked types (older_ordered plan network ordered) in
    record { ordered = rest.ordered; good = good-append (aged_entries network.under_way) (ticks_from plan 0 (length plan.edges) (with_older network)).entries (aged_good network.under_way) rest.good }

-- ---- an edge restarts

gone_anyway : (own other : Peers) (near far : Option Peering) (out back : List Message) → AreTalking own other near far out back → AreTalking own other None far out []
gone_anyway own other None None out back t = record { said = t.said; answered = tt; here = tt; there = tt; steps = both (is_empty out) (is_empty back) t.steps }
  where
    both : (a b : Bool) → a && b ≡ true → a && true ≡ true
    both true b h = refl
    both false b h = h
gone_anyway own other None (Some y) out back t = record { said = t.said; answered = tt; here = tt; there = t.there; steps = right (is_empty back) t.steps }
  where
    right : {c : Bool} (a : Bool) → a && c ≡ true → c ≡ true
    right true h = h
    right false h = true_clash (sym h)
gone_anyway own other (Some x) far out back t = goes_in_step own other x far out back t

-- octets to other edges stay on their way
pub away_from : (me : EdgeId) (network : NetworkState) (a b : ℕ) → nat_eq b me.0 ≡ false → (without_octets_to me network).pipes a b ≡ network.pipes a b
unfolding without_octets_to
away_from me network a b away = rw away refl

pub none_left : (me : EdgeId) (network : NetworkState) (a : ℕ) → (without_octets_to me network).pipes a me.0 ≡ []
unfolding without_octets_to
none_left me network a = rw (same_number me.0) refl

pub same_edges : (me : EdgeId) (network : NetworkState) → (without_octets_to me network).edges ≡ network.edges
unfolding without_octets_to
same_edges me network = refl

restart_sound : (limit : ℕ → ℕ) (me : EdgeId) (network : NetworkState) → TellsSoundly limit (network.edges me.0) → TellsSoundly limit (restart_input (begin_at network me)).edge
unfolding changes with_learned without_ends without_peerings with_kept
restart_sound limit me network sound = record {
  least = sound.least;
  most = sound.most;
  kept = λ label there. ⊎_elim (λ (before : kept_at label edge.kept ≢ None). sound.kept label before)
      (λ (at : IsOwnedAt edge.ends label). end_label (limit at.wire) (is_up_with (edge.peering at.peer)) (edge.ends at.wire at.peer) label (sound.ends at.wire at.peer) at.owned)
      (owned_from edge.ends (owners_of edge.ends edge.places) edge.kept label (owners_own edge.ends edge.places) there);
  bits = sound.bits;
  ends = λ wire peer. fresh_sound (limit wire) false;
}
  where
    edge : EdgeState
    edge = network.edges me.0

restart_works : (plan : Plan) (me : EdgeId) (network : NetworkState) → IsOrdered plan network → WorksOn plan (without_octets_to me network) me (restart_input (begin_at network me))
unfolding changes with_learned without_ends without_peerings with_kept
restart_works plan me network ordered = record {
  fine = record { place = ordered.placed me.0; idle = refl; well = tt };
  sound = restart_sound (point_limit plan me.0) me network (ordered.sound me.0);
  alone = refl;
  left = λ place away.
      let pair = ordered.two me.0 place (apart_back place me.0 away) in
      record {
        leaves = rw (same_edges me network, none_left me network place, away_from me network me.0 place away, no_more ((network.edges place).peering me.0) (flight network me.0 place))
            (record {
              messages = pair.messages;
              answers = [];
              out_is = pair.out_is;
              back_is = refl;
              talk = gone_anyway (ends_at plan me.0 place) (ends_at plan place me.0) ((network.edges me.0).peering place) ((network.edges place).peering me.0) pair.messages pair.answers pair.talk;
            });
        unclosed = λ kept e. absurd (no_end kept e);
      };
}

restart_others : (plan : Plan) (me : EdgeId) (network : NetworkState) → IsOrdered plan network → HoldsBut (IsPaired plan) me.0 (without_octets_to me network)
restart_others plan me network ordered a b apart away gone =
    rw (same_edges me network, away_from me network a b gone, away_from me network b a away) (ordered.two a b apart)

restart_apart : (plan : Plan) (me : EdgeId) (network : NetworkState) → IsOrdered plan network → AreOthers plan me (without_octets_to me network)
unfolding without_octets_to
restart_apart plan me network ordered = record { alone = λ a away. ordered.alone a; placed = λ a away. ordered.placed a; sound = λ a away. ordered.sound a }

pub restart_keeps : (plan : Plan) (me : EdgeId) (network : NetworkState) → IsOrdered plan network → KeepsOrder plan (restart_event me network)
restart_keeps plan me network ordered = record {
  ordered = works_settle plan (without_octets_to me network) me 0 0 (restart_input (begin_at network me)) (restart_others plan me network ordered)
      (restart_apart plan me network ordered) (restart_works plan me network ordered);
  good = all_good me 0 0 (restart_input (begin_at network me)).effects (with_edge me (restart_input (begin_at network me)).edge (without_octets_to me network))
      (restart_works plan me network ordered).fine.well;
}

-- ---- octets are delivered

pub pipe_edges : (from to : EdgeId) (octets : List ℕ) (network : NetworkState) → (with_pipe from to octets network).edges ≡ network.edges
unfolding with_pipe
pipe_edges from to octets network = refl

-- the edge begins to hear: what it holds and what comes are the first octets of its peer's messages
pub hears_begin : (plan : Plan) (from to : EdgeId) (rest : List ℕ) (network : NetworkState) (kept : Peering) → IsOrdered plan network → nat_eq from.0 to.0 ≡ false
    → (network.edges to.0).peering from.0 ≡ Some kept
    → (pair : ArePaired (ends_at plan to.0 from.0) (ends_at plan from.0 to.0) (Some kept) ((network.edges from.0).peering to.0) (flight network to.0 from.0) (kept.held ++ network.pipes from.0 to.0))
    → HearsOn plan (with_pipe from to rest network) to from pair.answers (begin_at network to)
hears_begin plan from to rest network kept ordered apart at pair =
    let begun : WorksOn plan network to (begin_at network to) = works_begin plan network to ordered in
    record {
      meets = rw (pipe_edges from to rest network, pipe_from from to rest network to.0 from.0 (apart_back from.0 to.0 apart)) (record {
        fine = begun.fine;
        ended = rw at refl;
        messages = pair.messages;
        out_is = no_more ((network.edges from.0).peering to.0) (flight network to.0 from.0) ∙ pair.out_is;
        talk = rw at pair.talk;
      });
      sound = begun.sound;
      alone = begun.alone;
      left = λ place away here.
          rw (pipe_edges from to rest network, pipe_from from to rest network to.0 place (apart_back from.0 to.0 apart), pipe_from from to rest network place to.0 here) (begun.left place away);
    }

pub deliver_works : (plan : Plan) (from to : EdgeId) (count : ℕ) (network : NetworkState) (kept : Peering) → IsChecked plan → HasTypes plan → IsOrdered plan network
    → nat_eq from.0 to.0 ≡ false → (network.edges to.0).peering from.0 ≡ Some kept
    → WorksOn plan (with_pipe from to (drop count (network.pipes from.0 to.0)) network) to (octets_input plan taken_all from (take count (network.pipes from.0 to.0)) (Some kept) (begin_at network to))
deliver_works plan from to count network kept checked types ordered apart at =
    mends_keep plan to (WorksOn plan later to) (works_kept plan later to checked types).rows (hears_few plan taken_all from (suc (length octets)) octets begun)
    (heard_works plan later to from (apart_back from.0 to.0 apart) (hears_few plan taken_all from (suc (length octets)) octets begun)
    (rw (pipe_there from to (drop count pipe) network) (few_heard plan from (ends_at plan from.0 to.0) pair.talk.here.between.two (HearsOn plan later to from)
    (message_heard plan to from (ends_at plan from.0 to.0) (HearsOn plan later to from) (hears_kept plan later to from (apart_back from.0 to.0 apart) checked types))
    (suc (length octets)) octets (drop count pipe) pair.answers begun pair.talk.answered whole (hears_begin plan from to (drop count pipe) network kept ordered apart at pair))))
  where
    pipe : List ℕ
    pipe = network.pipes from.0 to.0

    octets : List ℕ
    octets = kept.held ++ take count pipe

    begun : Work
    begun = begin_at network to

    later : NetworkState
    later = with_pipe from to (drop count pipe) network

    pair : ArePaired (ends_at plan to.0 from.0) (ends_at plan from.0 to.0) (Some kept) ((network.edges from.0).peering to.0) (flight network to.0 from.0) (kept.held ++ pipe)
    pair = rw at at (ordered.two to.0 from.0 (apart_back from.0 to.0 apart))

    whole : octets ++ drop count pipe ≡ octets_of_all (ends_at plan from.0 to.0).me pair.answers
    whole = append_assoc kept.held (take count pipe) (drop count pipe) ∙ ap (λ (l : List ℕ). kept.held ++ l) (take-append-drop count pipe) ∙ pair.back_is

deliver_others : (plan : Plan) (from to : EdgeId) (octets : List ℕ) (network : NetworkState) → IsOrdered plan network → HoldsBut (IsPaired plan) to.0 (with_pipe from to octets network)
deliver_others plan from to octets network ordered a b apart away gone =
    rw (pipe_edges from to octets network, pipe_to from to octets network a b gone, pipe_to from to octets network b a away) (ordered.two a b apart)

deliver_apart : (plan : Plan) (from to : EdgeId) (octets : List ℕ) (network : NetworkState) → IsOrdered plan network → AreOthers plan to (with_pipe from to octets network)
unfolding with_pipe
deliver_apart plan from to octets network ordered = record { alone = λ a away. ordered.alone a; placed = λ a away. ordered.placed a; sound = λ a away. ordered.sound a }

delivering_keeps : (plan : Plan) (from to : EdgeId) (count : ℕ) (network : NetworkState) (near : Option Peering) → IsChecked plan → HasTypes plan → IsOrdered plan network
    → nat_eq from.0 to.0 ≡ false → (network.edges to.0).peering from.0 ≡ near → is_there near ≡ true
    → KeepsOrder plan (delivering plan from to count network)
delivering_keeps plan from to count network None checked types ordered apart at up = true_clash (sym up)
delivering_keeps plan from to count network (Some kept) checked types ordered apart at up =
    let later : NetworkState = with_pipe from to (drop count (network.pipes from.0 to.0)) network in
    let work : Work = hearing_work plan network from to (take count (network.pipes from.0 to.0)) in
    let works : WorksOn plan later to work = rw at (deliver_works plan from to count network kept checked types ordered apart at) in
    record {
      ordered = works_settle plan later to 0 0 work (deliver_others plan from to (drop count (network.pipes from.0 to.0)) network ordered)
          (deliver_apart plan from to (drop count (network.pipes from.0 to.0)) network ordered) works;
      good = all_good to 0 0 work.effects (with_edge to work.edge later) works.fine.well;
    }

pub stands_apart : (plan : Plan) (network : NetworkState) (from to : ℕ) → IsOrdered plan network → stands network to from ≡ true → nat_eq from to ≡ false
stands_apart plan network from to ordered up = elim (cases_Bool (nat_eq from to)) [
  | inl same ↦ true_clash (sym up ∙ ap (λ (k : ℕ). stands network to k) (eqb-true from to same) ∙ ap (λ (o : Option Peering). is_there o) (ordered.alone to))
  | inr apart ↦ apart
]

pub deliver_keeps : (plan : Plan) (from to : EdgeId) (count : ℕ) (network : NetworkState) → IsChecked plan → HasTypes plan → IsOrdered plan network
    → KeepsOrder plan (deliver_event plan from to count network)
deliver_keeps plan from to count network checked types ordered = by_stand (stands network to.0 from.0) refl where
  some : stands network to.0 from.0 ≡ true → (drained : Bool) → KeepsOrder plan (cond drained (losing plan to from network) (delivering plan from to count network))
  some is true = losing_keeps plan to from network checked types ordered is
  some is false = delivering_keeps plan from to count network ((network.edges to.0).peering from.0) checked types ordered (stands_apart plan network from.0 to.0 ordered is) refl is

  which : stands network to.0 from.0 ≡ true → (any : Bool)
      → KeepsOrder plan (cond any (cond (is_drained_pipe network from.0 to.0) (losing plan to from network) (delivering plan from to count network)) (idle network))
  which is true = some is (is_drained_pipe network from.0 to.0)
  which is false = idle_keeps plan network ordered

  by_stand : (up : Bool) → stands network to.0 from.0 ≡ up
      → KeepsOrder plan (cond (up && (not (is_drained_pipe network from.0 to.0) || not (stands network from.0 to.0)))
      (cond (is_drained_pipe network from.0 to.0) (losing plan to from network) (delivering plan from to count network)) (idle network))
  by_stand true is = which is _
  by_stand false is = idle_keeps plan network ordered
