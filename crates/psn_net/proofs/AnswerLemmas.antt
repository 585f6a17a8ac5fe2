-- Events that an edge answers: what does not apply is told so, and else the edge's work goes into the network.
use Rattle.std.proofs.Common.{◌≡◌, ◌++◌, ◌∷◌, [], ◌∙◌, ℕ, Bool, true, false, List, Option, Some, None, if◌then◌else◌, refl, ap, sym, subst}
use Rattle.net_base.specs.declared.plan.Plan.{Plan}
use Rattle.net_base.specs.declared.plan.circuit_plan.CircuitPlan.{CircuitPlan}
use Rattle.net_base.specs.declared.plan.places.CircuitId.{CircuitId}
use Rattle.net_base.specs.declared.plan.places.EdgeId.{EdgeId}
use Rattle.net_base.specs.declared.plan.places.WireId.{WireId}
use Rattle.net_base.specs.declared.trace.entry.Entry.{Entry}
use Rattle.net_base.specs.declared.trace.entry.Entry.TheVariants.{Idle}
use Rattle.net_base.specs.plan.Places.{circuit_row}
use Rattle.pw_messages.specs.LinkAnswers.{Answers}
use Rattle.edge_model.specs.Circuit.{circuit_input}
use Rattle.edge_model.specs.declared.effect.Effect.{Effect}
use Rattle.edge_model.specs.declared.effects.Effects.{Effects}
use Rattle.edge_model.specs.Wire.{priority_input, status_input, wire_input}
use Rattle.edge_model.specs.Work.{Work}
use Rattle.edge_model.proofs.StillLemmas.{circuit_still, priority_still, status_still, wire_still}
use Rattle.network_model.specs.Absorb.{Stepped, absorb, absorb_all, all_entries_of, answer, begin_at, taken_all}
use Rattle.network_model.specs.Absorb.{idle as idle_event}
use Rattle.network_model.specs.Circuit.{circuit_event}
use Rattle.edge_model.proofs.BridgeLemmas.{PingGoes, PingIdles, PingOutcome, ping_outcome}
use Rattle.edge_model.specs.Ping.{ping_input}
use Rattle.edge_model.specs.Work.{idles}
use Rattle.network_model.specs.Ping.{ping_event}
use Rattle.network_model.specs.State.{NetworkState, edge_at, with_edge}
use Rattle.network_model.specs.Wire.{priority_event, status_event, wire_event}
use Rattle.psn_net.specs.Lists.{HasAnswered, HasDriven, HasStepped, NetLists, edge_of, network_seen}
use Rattle.psn_net.proofs.NetworkLemmas.{edge_stays, some_edge}

-- an edge that does nothing
answered_idle : (old mid now : NetLists) (me : EdgeId) (work : Work) (effects : Effects)
    → HasDriven me old mid work effects → effects.idle ≡ true → (work.idle ≡ true → work.edge ≡ edge_at (network_seen old) me)
    → network_seen now ≡ network_seen mid → now.trace ≡ mid.trace ++ Idle ∷ [] → HasStepped old now (answer me 0 0 work (network_seen old))
answered_idle old mid now me work effects driven idle still state told = record {
  state = state ∙ (driven.state ∙ (edge_stays (network_seen old) me work.edge (still is_idle) ∙ sym (ap (λ (s : Stepped). s.state) event)));
  told = told ∙ (ap (λ (t : List Entry). t ++ Idle ∷ []) driven.told ∙ ap (λ (es : List Entry). old.trace ++ es) (sym (ap (λ (s : Stepped). s.entries) event)));
} where
  is_idle : work.idle ≡ true
  is_idle = sym driven.idle_is ∙ idle

  event : answer me 0 0 work (network_seen old) ≡ idle_event (network_seen old)
  event = rw is_idle refl

-- an edge that does something
answered : (old mid now : NetLists) (me : EdgeId) (work : Work) (effects : Effects)
    → HasDriven me old mid work effects → effects.idle ≡ false
    → HasStepped mid now (record { state = absorb_all me 0 0 effects.list (network_seen mid); entries = all_entries_of me 0 0 effects.list (network_seen mid) })
    → HasStepped old now (answer me 0 0 work (network_seen old))
answered old mid now me work effects driven idle absorbed = record {
  state = absorbed.state ∙ (ap (λ (n : NetworkState). absorb_all me 0 0 effects.list n) driven.state
      ∙ (ap (λ (es : List Effect). absorb_all me 0 0 es (with_edge me work.edge (network_seen old))) driven.effects_are ∙ sym (ap (λ (s : Stepped). s.state) event)));
  told = absorbed.told ∙ (ap (λ (t : List Entry). t ++ all_entries_of me 0 0 effects.list (network_seen mid)) driven.told
      ∙ ap (λ (es : List Entry). old.trace ++ es) (ap (λ (n : NetworkState). all_entries_of me 0 0 effects.list n) driven.state
      ∙ (ap (λ (es : List Effect). all_entries_of me 0 0 es (with_edge me work.edge (network_seen old))) driven.effects_are ∙ sym (ap (λ (s : Stepped). s.entries) event))));
} where
  event : answer me 0 0 work (network_seen old) ≡ absorb me 0 0 work (network_seen old)
  event = let e : work.idle ≡ false = sym driven.idle_is ∙ idle in rw e refl

-- an edge that took an input, which leaves it as it is where it does not apply
answer_stepped : (old now : NetLists) (me : EdgeId) (work : Work) → (work.idle ≡ true → work.edge ≡ edge_at (network_seen old) me)
    → HasAnswered me old now work → HasStepped old now (answer me 0 0 work (network_seen old))
answer_stepped old now me work still has = by has.effects.idle refl has.step
  where
    by : (b : Bool) → has.effects.idle ≡ b
        → HasStepped has.mid now (if b then idle_event (network_seen has.mid) else
        (record { state = absorb_all me 0 0 has.effects.list (network_seen has.mid); entries = all_entries_of me 0 0 has.effects.list (network_seen has.mid) }))
        → HasStepped old now (answer me 0 0 work (network_seen old))
    by true idle step = answered_idle old has.mid now me work has.effects has.driven idle still step.state step.told
    by false idle step = answered old has.mid now me work has.effects has.driven idle step

-- ---- a circuit

circuit_answer : (plan : Plan) (circuit : CircuitId) (on : Bool) (row : Option CircuitPlan) (me : EdgeId) (network : NetworkState)
    → edge_of row ≡ Some me → answer me 0 0 (circuit_input plan taken_all circuit on row (begin_at network me)) network ≡ circuit_event plan circuit on row network
circuit_answer plan circuit on None me network at = absurd (cc (at))
circuit_answer plan circuit on (Some row) me network at =
    subst (λ (e : EdgeId). answer e 0 0 (circuit_input plan taken_all circuit on (Some row) (begin_at network e)) network ≡ circuit_event plan circuit on (Some row) network) (some_edge row me at) refl

pub circuit_stepped : (old now : NetLists) (circuit : CircuitId) (on : Bool) (me : EdgeId) → edge_of (circuit_row old.plan circuit) ≡ Some me
    → HasAnswered me old now (circuit_input old.plan taken_all circuit on (circuit_row old.plan circuit) (begin_at (network_seen old) me))
    → HasStepped old now (circuit_event old.plan circuit on (circuit_row old.plan circuit) (network_seen old))
circuit_stepped old now circuit on me at has =
    subst (λ (s : Stepped). HasStepped old now s) (circuit_answer old.plan circuit on (circuit_row old.plan circuit) me (network_seen old) at)
    (answer_stepped old now me (circuit_input old.plan taken_all circuit on (circuit_row old.plan circuit) (begin_at (network_seen old) me))
    (circuit_still old.plan taken_all circuit on (circuit_row old.plan circuit) (begin_at (network_seen old) me) refl) has)

-- ---- a wire, its failure bits, and the priority of a spoke

pub wire_stepped : (old now : NetLists) (wire : WireId) (on : Bool) (me : EdgeId)
    → HasAnswered me old now (wire_input old.plan taken_all wire on (begin_at (network_seen old) me)) → HasStepped old now (wire_event old.plan me wire on (network_seen old))
wire_stepped old now wire on me has =
    answer_stepped old now me (wire_input old.plan taken_all wire on (begin_at (network_seen old) me)) (wire_still old.plan taken_all wire on (begin_at (network_seen old) me) refl) has

pub status_stepped : (old now : NetLists) (wire : WireId) (bits : ℕ) (me : EdgeId)
    → HasAnswered me old now (status_input old.plan taken_all wire bits (begin_at (network_seen old) me)) → HasStepped old now (status_event old.plan me wire bits (network_seen old))
status_stepped old now wire bits me has =
    answer_stepped old now me (status_input old.plan taken_all wire bits (begin_at (network_seen old) me)) (status_still old.plan taken_all wire bits (begin_at (network_seen old) me) refl) has

pub priority_stepped : (old now : NetLists) (wire : WireId) (priority : ℕ) (me : EdgeId)
    → HasAnswered me old now (priority_input old.plan taken_all wire priority (begin_at (network_seen old) me)) → HasStepped old now (priority_event old.plan me wire priority (network_seen old))
priority_stepped old now wire priority me has =
    answer_stepped old now me (priority_input old.plan taken_all wire priority (begin_at (network_seen old) me)) (priority_still old.plan taken_all wire priority (begin_at (network_seen old) me) refl) has

-- ---- a ping

ping_still : (plan : Plan) (told : Answers) (wire : WireId) (work : Work) → work.idle ≡ false → (ping_input plan told wire work).idle ≡ true → (ping_input plan told wire work).edge ≡ work.edge
unfolding idles
ping_still plan told wire work begins idle = by (ping_outcome plan told wire work) where
  by : PingOutcome work (ping_input plan told wire work) → (ping_input plan told wire work).edge ≡ work.edge
  by (PingIdles is) = ap (λ (w : Work). w.edge) is
  by (PingGoes only) =
      let wrong : true ≡ false = sym idle ∙ (only.idle ∙ begins) in
      absurd (cc (wrong))

pub ping_stepped : (old now : NetLists) (wire : WireId) (me : EdgeId) → HasAnswered me old now (ping_input old.plan taken_all wire (begin_at (network_seen old) me))
    → HasStepped old now (ping_event old.plan me wire (network_seen old))
ping_stepped old now wire me has =
    answer_stepped old now me (ping_input old.plan taken_all wire (begin_at (network_seen old) me)) (ping_still old.plan taken_all wire (begin_at (network_seen old) me) refl) has
