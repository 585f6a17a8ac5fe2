-- An edge's work lies in the lists as in the maps.
use Rattle.std.proofs.Common.{◌≡◌, ◌==◌, ◌<◌, ◌≤◌, ◌+◌, ◌++◌, ◌∷◌, [], ℕ, Bool, true, false, List, Option, Some, None, Result, Ok, Err, OnOk, OnErr, cond, refl, ap, sym, subst, arith, length, slice_index_or, slice_set, nat_eq, append_assoc, length-append, inl, inr, ◌∙◌}
use Rattle.std.proofs.lemmas.Bool.{cases_Bool, cases_order, eq-eqb, eqb-true}
use Rattle.net_base.specs.declared.plan.places.EdgeId.{EdgeId}
use Rattle.net_values.specs.declared.no_memory.NoMemory.{NoMemory}
use Rattle.net_values.proofs.RowLemmas.{same_read, set_length, index_end}
use Rattle.provider_edge.specs.Lists.{EdgeLists}
use Rattle.provider_edge.specs.Lists as edge
use Rattle.net_base.specs.declared.plan.circuit_plan.CircuitPlan.{CircuitPlan}
use Rattle.net_base.specs.declared.plan.places.CircuitId.{CircuitId}
use Rattle.net_base.specs.declared.trace.entry.Entry.{Entry}
use Rattle.net_base.specs.declared.trace.entry.Entry.TheVariants.{Idle, In}
use Rattle.net_base.specs.plan.Accepted.{IsChecked}
use Rattle.net_base.specs.plan.Places.{circuit_row}
use Rattle.edge_model.specs.declared.effect.Effect.{Effect}
use Rattle.edge_model.specs.Frame.{frame_input}
use Rattle.edge_model.specs.State.{EdgeState, empty_edge, put_at}
use Rattle.edge_model.proofs.StillLemmas.{frame_still}
use Rattle.provider_edge.specs.Said.{AllFit}
use Rattle.network_model.specs.Frame.{frame_event, next_origin}
use Rattle.network_model.specs.State.{NetworkState, edge_at, empty_network, with_edge, with_frame}
use Rattle.provider_edge.proofs.KeptLemmas.{no_edge_seen}
use Rattle.octet_pipes.proofs.PipeLemmas.{view_set}
use Rattle.net_base.specs.declared.outside.link_call.LinkCall.{LinkCall}
use Rattle.net_base.specs.declared.plan.Plan.{Plan}
use Rattle.edge_model.specs.declared.effects.Effects.{Effects}
use Rattle.edge_model.specs.declared.input.Input.{Input}
use Rattle.edge_model.specs.Step.{edge_step}
use Rattle.edge_model.specs.Work.{Work, beginning}
use Rattle.network_model.specs.Absorb.{Stepped, absorb, absorb_all, all_entries_of, begin_at, taken_all}
use Rattle.psn_net.specs.Lists.{AreOpen, HasDriven, HasEntered, HasStepped, IsNetwork, NetLists, edge_lists, edge_of, edge_outside, network_seen}
use Rattle.psn_net.specs.Packets.{ArePacketsOf, UnderWay}
use Rattle.psn_net.specs.Working.{HasWorked}
use Rattle.octet_pipes.specs.Pipes.{PipeLists, no_octets}
use Rattle.octet_pipes.specs.Pipes.{pipes_of}

pub seen_edge_set : (n : NetLists) (me : EdgeId) (now : EdgeLists) (state : EdgeState) → me.0 < length n.edges → edge.seen now ≡ state
    → network_seen (record n { edges = slice_set n.edges me.0 now }) ≡ with_edge me state (network_seen n)
unfolding network_seen with_edge
seen_edge_set n me now state h w = λ i. record { edges = λ k. at_each k i; pipes = seen-pipes i; under_way = n.packets.list; sent = n.packets.last; entered = n.entered }
  where
    seen-pipes : (network_seen n).pipes ≡ (network_seen n).pipes
    seen-pipes = refl

    at_each : (k : ℕ) → edge.seen (slice_index_or (slice_set n.edges me.0 now) k (edge_outside n.plan k)) ≡ put_at (λ j. edge.seen (slice_index_or n.edges j (edge_outside n.plan j))) me.0 state k
    at_each k = ap edge.seen (view_set (edge_outside n.plan k) n.edges me.0 now k h) ∙ by (k == me.0)
      where
        by : (b : Bool) → edge.seen (cond b now (slice_index_or n.edges k (edge_outside n.plan k))) ≡ cond b state (edge.seen (slice_index_or n.edges k (edge_outside n.plan k)))
        by true = w
        by false = refl

-- an edge that took an input over a link that takes every call did the work of its step
pub worked_so : (now : EdgeLists) (before calls : List LinkCall) (effects : Effects) (plan : Plan) (input : Input) (state : EdgeState) → before ≡ []
    → edge.worked now calls effects ≡ edge_step plan taken_all input (beginning state before) → HasWorked now (edge_step plan taken_all input (beginning state [])) effects
unfolding edge.worked
worked_so now before calls effects plan input state none took =
    let same : edge.worked now calls effects ≡ edge_step plan taken_all input (beginning state []) =
    took ∙ ap (λ (l : List LinkCall). edge_step plan taken_all input (beginning state l)) none in
    record { edge_is = ap (λ (w : Work). w.edge) same; effects_are = ap (λ (w : Work). w.effects) same; idle_is = ap (λ (w : Work). w.idle) same }

-- the edge that was looked up did the work of its step
pub driving_at : (n : NetLists) (me : EdgeId) (found now : EdgeLists) (input : Input) (effects : Effects)
    → me.0 < length n.edges → (edge_lists n me.0).plan ≡ n.plan → found ≡ slice_index_or n.edges me.0 found
    → HasWorked now (edge_step found.plan taken_all input (beginning (edge.seen found) [])) effects
    → HasDriven me n (record n { edges = slice_set n.edges me.0 now }) (edge_step n.plan taken_all input (begin_at (network_seen n) me)) effects
unfolding network_seen
driving_at n me found now input effects h planned is did = record {
  state = seen_edge_set n me now (edge_step n.plan taken_all input (begin_at (network_seen n) me)).edge h (did.edge_is ∙ ap (λ (w : Work). w.edge) begins);
  effects_are = did.effects_are ∙ ap (λ (w : Work). w.effects) begins;
  idle_is = did.idle_is ∙ ap (λ (w : Work). w.idle) begins;
  told = refl;
} where
  same : found ≡ edge_lists n me.0
  same = is ∙ same_read n.edges me.0 found (edge_outside n.plan me.0) h

  begins : edge_step found.plan taken_all input (beginning (edge.seen found) []) ≡ edge_step n.plan taken_all input (begin_at (network_seen n) me)
  begins = ap (λ (e : EdgeLists). edge_step e.plan taken_all input (beginning (edge.seen e) [])) same
      ∙ ap (λ (p : Plan). edge_step p taken_all input (beginning (edge.seen (edge_lists n me.0)) [])) planned

pub fitting_at : (n : NetLists) (me : EdgeId) (found : EdgeLists) (effects : List Effect)
    → me.0 < length n.edges → (edge_lists n me.0).plan ≡ n.plan → found ≡ slice_index_or n.edges me.0 found → AllFit found.plan effects → AllFit n.plan effects
fitting_at n me found effects h planned is fit =
    let same : found ≡ edge_lists n me.0 = is ∙ same_read n.edges me.0 found (edge_outside n.plan me.0) h in
    subst (λ (p : Plan). AllFit p effects) (ap (λ (e : EdgeLists). e.plan) same ∙ planned) fit

-- an entry more, or none
pub told_network : (n : NetLists) (now : List Entry) (entry : Entry) (result : Result (Unit {0}) NoMemory) → IsNetwork n
    → OnOk result (now ≡ n.trace ++ entry ∷ []) → OnErr result (now ≡ n.trace) → IsNetwork (record n { trace = now })
told_network n now entry result is ok err =
    let more : length n.trace ≤ length now = by result ok err in
    record {
      checked = is.checked;
      count = is.count;
      square = is.square;
      planned = is.planned;
      placed = is.placed;
      packets = is.packets;
      packets_told = omega (arith, is.packets_told, more);
      frames_told = omega (arith, is.frames_told, more);
      ticks_told = omega (arith, is.ticks_told, more);
    }
  where
    by : (result : Result (Unit {0}) NoMemory) → OnOk result (now ≡ n.trace ++ entry ∷ []) → OnErr result (now ≡ n.trace) → length n.trace ≤ length now
    by (Ok done) ok err = omega (arith, ap length ok, length-append n.trace (entry ∷ []))
    by (Err fault) ok err = omega (arith, ap length err)

-- an edge that took an input keeps its plan and its place, and so the network keeps what always holds of it
pub edge_kept : (n : NetLists) (me : EdgeId) (found now : EdgeLists) → IsNetwork n → me.0 < length n.edges → found ≡ slice_index_or n.edges me.0 found → now.plan ≡ found.plan → now.me ≡ found.me
    → IsNetwork (record n { edges = slice_set n.edges me.0 now })
edge_kept n me found now is below at kept stays = record {
  checked = is.checked;
  count = set_length n.edges me.0 now ∙ is.count;
  square = is.square;
  planned = λ k within. ap (λ (e : EdgeLists). e.plan) (view_set (edge_outside n.plan k) n.edges me.0 now k below) ∙ by (k == me.0) k (subst (λ (m : ℕ). k < m) (set_length n.edges me.0 now) within);
  placed = λ k. ap (λ (e : EdgeLists). e.me) (view_set (edge_outside n.plan k) n.edges me.0 now k below) ∙ place_by (k == me.0) k refl;
  packets = is.packets;
  packets_told = is.packets_told;
  frames_told = is.frames_told;
  ticks_told = is.ticks_told;
} where
  by : (b : Bool) (k : ℕ) → k < length n.edges → (cond b now (edge_lists n k)).plan ≡ n.plan
  by true k within = kept ∙ (ap (λ (e : EdgeLists). e.plan) (at ∙ same_read n.edges me.0 found (edge_outside n.plan me.0) below) ∙ is.planned me.0 below)
  by false k within = is.planned k within

  edge_id : ℕ → EdgeId
  edge_id m = record { 0 = m }

  place_by : (b : Bool) (k : ℕ) → (k == me.0) ≡ b → (cond b now (edge_lists n k)).me ≡ record { 0 = k }
  place_by true k here =
      stays ∙ (ap (λ (e : EdgeLists). e.me) (at ∙ same_read n.edges me.0 found (edge_outside n.plan me.0) below) ∙ (is.placed me.0 ∙ ap edge_id (sym (eqb-true k me.0 here))))
  place_by false k apart = is.placed k

-- an edge that stays as it is
pub edge_stays : (network : NetworkState) (me : EdgeId) (state : EdgeState) → state ≡ edge_at network me → with_edge me state network ≡ network
unfolding with_edge
edge_stays network me state same = λ i. record { edges = λ k. at_each k i; pipes = network.pipes; under_way = network.under_way; sent = network.sent; entered = network.entered }
  where
    at_each : (k : ℕ) → cond (k == me.0) state (network.edges k) ≡ network.edges k
    at_each k = elim (cases_Bool (nat_eq k me.0)) [
      | inl here ↦ rw here (same ∙ ap network.edges (sym (eqb-true k me.0 here)))
      | inr away ↦ rw away refl
    ]

pub some_edge : (row : CircuitPlan) (me : EdgeId) → Some row.edge ≡ Some me → row.edge ≡ me
some_edge row me e = cc (e)

-- the frame enters, and then what the edge did is told
abbrev entering_at : NetworkState → CircuitId → List ℕ → EdgeId → Work → Stepped
entering_at network circuit octets me work = record {
  state = (absorb me (next_origin network) 0 work (with_frame network)).state;
  entries = In circuit (next_origin network) octets ∷ (absorb me (next_origin network) 0 work (with_frame network)).entries;
}

-- a frame that its edge does not take
frame_idle : (plan : Plan) (circuit : CircuitId) (octets : List ℕ) (row : Option CircuitPlan) (me : EdgeId) (network : NetworkState)
    → edge_of row ≡ Some me → (frame_input plan taken_all circuit octets row (begin_at network me)).idle ≡ true
    → (with_edge me (frame_input plan taken_all circuit octets row (begin_at network me)).edge network ≡ (frame_event plan circuit octets row network).state)
    × ((frame_event plan circuit octets row network).entries ≡ Idle ∷ [])
frame_idle plan circuit octets None me network at idle = absurd (cc (at))
frame_idle plan circuit octets (Some row) me network at idle =
    subst (λ (e : EdgeId). (frame_input plan taken_all circuit octets (Some row) (begin_at network e)).idle ≡ true
    → (with_edge e (frame_input plan taken_all circuit octets (Some row) (begin_at network e)).edge network ≡ (frame_event plan circuit octets (Some row) network).state)
    × ((frame_event plan circuit octets (Some row) network).entries ≡ Idle ∷ [])) (some_edge row me at) here idle
  where
    work : Work
    work = frame_input plan taken_all circuit octets (Some row) (begin_at network row.edge)

    here : work.idle ≡ true → (with_edge row.edge work.edge network ≡ (frame_event plan circuit octets (Some row) network).state)
        × ((frame_event plan circuit octets (Some row) network).entries ≡ Idle ∷ [])
    here e = (
      edge_stays network row.edge work.edge (frame_still plan taken_all circuit octets (Some row) (begin_at network row.edge) refl e) ∙ rw e refl,
      rw e refl,
    )

-- a frame that its edge takes
frame_taken : (plan : Plan) (circuit : CircuitId) (octets : List ℕ) (row : Option CircuitPlan) (me : EdgeId) (network : NetworkState)
    → edge_of row ≡ Some me → (frame_input plan taken_all circuit octets row (begin_at network me)).idle ≡ false
    → frame_event plan circuit octets row network ≡ entering_at network circuit octets me (frame_input plan taken_all circuit octets row (begin_at network me))
frame_taken plan circuit octets None me network at idle = absurd (cc (at))
frame_taken plan circuit octets (Some row) me network at idle =
    subst (λ (e : EdgeId). (frame_input plan taken_all circuit octets (Some row) (begin_at network e)).idle ≡ false
    → frame_event plan circuit octets (Some row) network ≡ entering_at network circuit octets e (frame_input plan taken_all circuit octets (Some row) (begin_at network e)))
    (some_edge row me at) (λ e. rw e refl) idle

pub frame_idle_stepped : (old mid now : NetLists) (circuit : CircuitId) (octets : List ℕ) (me : EdgeId) (effects : Effects)
    → edge_of (circuit_row old.plan circuit) ≡ Some me
    → HasDriven me old mid (frame_input old.plan taken_all circuit octets (circuit_row old.plan circuit) (begin_at (network_seen old) me)) effects
    → effects.idle ≡ true → network_seen now ≡ network_seen mid → now.trace ≡ mid.trace ++ Idle ∷ []
    → HasStepped old now (frame_event old.plan circuit octets (circuit_row old.plan circuit) (network_seen old))
frame_idle_stepped old mid now circuit octets me effects at driven idle state told =
    let both = frame_idle old.plan circuit octets (circuit_row old.plan circuit) me (network_seen old) at (sym driven.idle_is ∙ idle) in
    record {
      state = state ∙ (driven.state ∙ both.0);
      told = told ∙ (ap (λ (t : List Entry). t ++ Idle ∷ []) driven.told ∙ ap (λ (es : List Entry). old.trace ++ es) (sym both.1));
    }

pub frame_stepped : (old mid in_ now : NetLists) (circuit : CircuitId) (octets : List ℕ) (me : EdgeId) (effects : Effects) (origin : ℕ)
    → edge_of (circuit_row old.plan circuit) ≡ Some me
    → HasDriven me old mid (frame_input old.plan taken_all circuit octets (circuit_row old.plan circuit) (begin_at (network_seen old) me)) effects
    → effects.idle ≡ false → HasEntered mid in_ circuit octets origin
    → HasStepped in_ now (record { state = absorb_all me origin 0 effects.list (network_seen in_); entries = all_entries_of me origin 0 effects.list (network_seen in_) })
    → HasStepped old now (frame_event old.plan circuit octets (circuit_row old.plan circuit) (network_seen old))
unfolding with_edge with_frame
frame_stepped old mid in_ now circuit octets me effects origin at driven idle entered absorbed = record {
  state = absorbed.state ∙ (ap (λ (n : NetworkState). absorb_all me origin 0 effects.list n) network
      ∙ (ap (λ (o : ℕ). absorb_all me o 0 effects.list (with_edge me work.edge (with_frame (network_seen old)))) number
      ∙ (ap (λ (es : List Effect). absorb_all me (next_origin (network_seen old)) 0 es (with_edge me work.edge (with_frame (network_seen old)))) driven.effects_are
      ∙ sym (ap (λ (s : Stepped). s.state) event))));
  told = absorbed.told ∙ (ap (λ (t : List Entry). t ++ all_entries_of me origin 0 effects.list (network_seen in_))
      (entered.told ∙ ap (λ (t : List Entry). t ++ In circuit origin octets ∷ []) driven.told)
      ∙ (append_assoc old.trace (In circuit origin octets ∷ []) (all_entries_of me origin 0 effects.list (network_seen in_)) ∙ ap (λ (es : List Entry). old.trace ++ es) entries));
} where
  work : Work
  work = frame_input old.plan taken_all circuit octets (circuit_row old.plan circuit) (begin_at (network_seen old) me)

  event : frame_event old.plan circuit octets (circuit_row old.plan circuit) (network_seen old) ≡ entering_at (network_seen old) circuit octets me work
  event = frame_taken old.plan circuit octets (circuit_row old.plan circuit) me (network_seen old) at (sym driven.idle_is ∙ idle)

  network : network_seen in_ ≡ with_edge me work.edge (with_frame (network_seen old))
  network = entered.state ∙ ap with_frame driven.state

  number : origin ≡ next_origin (network_seen old)
  number = entered.number_is ∙ ap (λ (n : NetworkState). n.entered + 1) driven.state

  entries : In circuit origin octets ∷ all_entries_of me origin 0 effects.list (network_seen in_) ≡ (frame_event old.plan circuit octets (circuit_row old.plan circuit) (network_seen old)).entries
  entries =
      ap (λ (n : NetworkState). In circuit origin octets ∷ all_entries_of me origin 0 effects.list n) network
      ∙ (ap (λ (o : ℕ). In circuit o octets ∷ all_entries_of me o 0 effects.list (with_edge me work.edge (with_frame (network_seen old)))) number
      ∙ (ap (λ (es : List Effect). In circuit (next_origin (network_seen old)) octets ∷ all_entries_of me (next_origin (network_seen old)) 0 es
      (with_edge me work.edge (with_frame (network_seen old)))) driven.effects_are
      ∙ sym (ap (λ (s : Stepped). s.entries) event)))

-- the network of a plan before its first event
pub opening : (plan : Plan) (edges : List EdgeLists) (pipes : PipeLists) → AreOpen plan (length plan.edges) edges → pipes_of pipes ≡ no_octets
    → network_seen (record { plan = plan; edges = edges; pipes = pipes; packets = record { list = []; last = 0; ticks = 0 }; entered = 0; trace = []; failed = false }) ≡ empty_network plan
unfolding network_seen
opening plan edges pipes are empty = λ i. record { edges = λ k. are.empty k i; pipes = empty i; under_way = []; sent = 0; entered = 0 }

-- the network of a plan before its first event, by its parts
pub opened_state : (plan own : Plan) (count : ℕ) (edges : List EdgeLists) (pipes : PipeLists) (packets : UnderWay) (trace : List Entry)
    → own ≡ plan → count ≡ length plan.edges → AreOpen own count edges → pipes_of pipes ≡ no_octets → packets ≡ record { list = []; last = 0; ticks = 0 } → trace ≡ []
    → network_seen (record { plan = own; edges = edges; pipes = pipes; packets = packets; entered = 0; trace = trace; failed = false }) ≡ empty_network plan
opened_state plan own count edges pipes packets trace planned counted are empty sent told =
    (λ i. network_seen (record { plan = own; edges = edges; pipes = pipes; packets = sent i; entered = 0; trace = told i; failed = false }))
    ∙ (opening own edges pipes (subst (λ (m : ℕ). AreOpen own m edges) (counted ∙ ap (λ (p : Plan). length p.edges) (sym planned)) are) empty ∙ ap empty_network planned)

pub opened_network : (plan own : Plan) (count : ℕ) (edges : List EdgeLists) (pipes : PipeLists) (packets : UnderWay) (trace : List Entry)
    → IsChecked plan → own ≡ plan → count ≡ length plan.edges → AreOpen own count edges → pipes.size ≡ count → packets ≡ record { list = []; last = 0; ticks = 0 }
    → IsNetwork (record { plan = own; edges = edges; pipes = pipes; packets = packets; entered = 0; trace = trace; failed = false })
unfolding edge.seen
opened_network plan own count edges pipes packets trace checked planned counted are size sent =
    let many : count ≡ length own.edges = counted ∙ ap (λ (p : Plan). length p.edges) (sym planned) in
    record {
      checked = subst (λ (p : Plan). IsChecked p) (sym planned) checked;
      count = are.len ∙ many;
      square = size ∙ many;
      planned = λ k within. are.planned k (subst (λ (m : ℕ). k < m) are.len within);
      placed = λ k. ap (λ (s : EdgeState). s.me) (are.empty k);
      packets = subst (λ (u : UnderWay). ArePacketsOf own u.last u.list) (sym sent) tt;
      packets_told = subst (λ (u : UnderWay). u.last ≤ length trace) (sym sent) (omega arith);
      frames_told = omega arith;
      ticks_told = subst (λ (u : UnderWay). u.ticks ≤ length trace) (sym sent) (omega arith);
    }

pub open_none : (plan : Plan) → AreOpen plan 0 []
open_none plan = record { len = refl; planned = λ k below. refl; empty = λ k. no_edge_seen plan (record { 0 = k }) }

pub open_more : (plan : Plan) (count : ℕ) (edges : List EdgeLists) (more : EdgeLists) → AreOpen plan count edges → more.plan ≡ plan → edge.seen more ≡ empty_edge plan (record { 0 = count })
    → AreOpen plan (count + 1) (edges ++ more ∷ [])
open_more plan count edges more are planned empty = record {
  len = length-append edges (more ∷ []) ∙ omega (arith, are.len);
  planned = λ k below. ap (λ (e : EdgeLists). e.plan) (index_end edges more (edge_outside plan k) k) ∙ planned_by k below (nat_eq k (length edges)) refl;
  empty = λ k. ap edge.seen (index_end edges more (edge_outside plan k) k) ∙ empty_by k (nat_eq k (length edges)) refl;
} where
  planned_by : (k : ℕ) → k < count + 1 → (b : Bool) → nat_eq k (length edges) ≡ b → (cond b more (slice_index_or edges k (edge_outside plan k))).plan ≡ plan
  planned_by k below true e = planned
  planned_by k below false e =
      let apart : (nat_eq k (length edges) ≡ true) → ⊥ = λ same. let wrong : false ≡ true = sym e ∙ same in absurd (cc (wrong)) in
      are.planned k (elim (cases_order k (length edges)) [
        | inl same ↦ absurd (apart (eq-eqb k (length edges) same))
        | inr rest ↦ omega (arith, below, are.len)
      ])

  empty_by : (k : ℕ) (b : Bool) → nat_eq k (length edges) ≡ b → edge.seen (cond b more (slice_index_or edges k (edge_outside plan k))) ≡ empty_edge plan (record { 0 = k })
  empty_by k true e = empty ∙ ap (λ (n : ℕ). empty_edge plan (record { 0 = n })) (sym are.len ∙ sym (eqb-true k (length edges) e))
  empty_by k false e = are.empty k

pub open_next : (plan : Plan) (count : ℕ) (edges after : List EdgeLists) (more : EdgeLists) → AreOpen plan count edges → after ≡ edges ++ more ∷ []
    → more.plan ≡ plan → edge.seen more ≡ empty_edge more.plan (record { 0 = count }) → AreOpen plan (count + 1) after
open_next plan count edges after more are is planned empty =
    subst (λ (es : List EdgeLists). AreOpen plan (count + 1) es) (sym is)
    (open_more plan count edges more are planned (empty ∙ ap (λ (p : Plan). empty_edge p (record { 0 = count })) planned))
