-- What an event brings about, and what an effect makes of a network, by the case that it is.
use Rattle.std.proofs.Common.{◌≡◌, ◌∙◌, ◌++◌, ◌∷◌, [], ℕ, List, Result, Ok, Err, OnOk, ap, append_assoc, sym, subst}
use Rattle.net_base.specs.declared.plan.Plan.{Plan}
use Rattle.net_base.specs.declared.trace.entry.Entry.{Entry}
use Rattle.net_base.specs.declared.trace.entry.Entry.TheVariants.{Did}
use Rattle.net_base.specs.declared.trace.event.Event.{Event}
use Rattle.net_base.specs.declared.plan.places.EdgeId.{EdgeId}
use Rattle.net_values.specs.declared.no_memory.NoMemory.{NoMemory}
use Rattle.edge_model.specs.declared.effect.Effect.{Effect}
use Rattle.network_model.specs.Absorb.{Stepped, absorb_one, entries_told}
use Rattle.network_model.specs.State.{NetworkState}
use Rattle.network_model.specs.Step.{brings, step}
use Rattle.psn_net.specs.Lists.{HasStepped, NetLists, network_seen}

-- an event that was told has brought about what its row says
pub brought : (old mid now : NetLists) (result : Result (Unit {0}) NoMemory) (copy event case : Event) → copy ≡ event → event ≡ case → mid.plan ≡ old.plan → network_seen mid ≡ network_seen old
    → mid.trace ≡ old.trace ++ Did copy ∷ []
    → OnOk result (HasStepped mid now (brings mid.plan case (network_seen mid))) → OnOk result (HasStepped old now (step old.plan (network_seen old) event))
brought old mid now (Ok done) copy event case copied is plan state trace stepped = record {
  state = stepped.state ∙ ap (λ (s : Stepped). s.state) same;
  told = stepped.told ∙ (ap (λ (s : Stepped). mid.trace ++ s.entries) same
      ∙ (ap (λ (t : List Entry). t ++ (brings old.plan event (network_seen old)).entries) trace
      ∙ (append_assoc old.trace (Did copy ∷ []) (brings old.plan event (network_seen old)).entries
      ∙ ap (λ (e : Event). old.trace ++ Did e ∷ (brings old.plan event (network_seen old)).entries) copied)));
} where
  same : brings mid.plan case (network_seen mid) ≡ brings old.plan event (network_seen old)
  same = ap (λ (p : Plan). brings p case (network_seen mid)) plan ∙ (ap (λ (s : NetworkState). brings old.plan case s) state ∙ ap (λ (e : Event). brings old.plan e (network_seen old)) (sym is))
brought old mid now (Err fault) copy event case copied is plan state trace stepped = tt

-- the same of an event that was told before
pub brought_by : (old now : NetLists) (result : Result (Unit {0}) NoMemory) (event case : Event) → event ≡ case
    → OnOk result (HasStepped old now (brings old.plan case (network_seen old))) → OnOk result (HasStepped old now (brings old.plan event (network_seen old)))
brought_by old now result event case is stepped = subst (λ (e : Event). OnOk result (HasStepped old now (brings old.plan e (network_seen old)))) (sym is) stepped

pub absorbed : (me : EdgeId) (origin hops : ℕ) (old now : NetLists) (result : Result (Unit {0}) NoMemory) (effect case : Effect) → effect ≡ case
    → OnOk result (HasStepped old now (record { state = absorb_one me origin hops case (network_seen old); entries = entries_told me origin hops case (network_seen old) }))
    → OnOk result (HasStepped old now (record { state = absorb_one me origin hops effect (network_seen old); entries = entries_told me origin hops effect (network_seen old) }))
absorbed me origin hops old now result effect case is done =
    subst (λ (e : Effect). OnOk result (HasStepped old now (record { state = absorb_one me origin hops e (network_seen old); entries = entries_told me origin hops e (network_seen old) }))) (sym is) done

-- an effect that is told, and changes nothing
pub told : (me : EdgeId) (origin hops : ℕ) (old now : NetLists) (result : Result (Unit {0}) NoMemory) (effect case : Effect) (entry : Entry) → effect ≡ case
    → absorb_one me origin hops case (network_seen old) ≡ network_seen old → entries_told me origin hops case (network_seen old) ≡ entry ∷ []
    → network_seen now ≡ network_seen old → OnOk result (now.trace ≡ old.trace ++ entry ∷ [])
    → OnOk result (HasStepped old now (record { state = absorb_one me origin hops effect (network_seen old); entries = entries_told me origin hops effect (network_seen old) }))
told me origin hops old now (Ok done) effect case entry is stays tells state more = absorbed me origin hops old now (Ok done) effect case is (record {
  state = state ∙ sym stays;
  told = more ∙ ap (λ (es : List Entry). old.trace ++ es) (sym tells);
})
told me origin hops old now (Err fault) effect case entry is stays tells state more = tt
