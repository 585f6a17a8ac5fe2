-- The events of connections: what the edges did lies in the lists as the definitions say.
use Rattle.std.proofs.Common.{◌≡◌, ◌++◌, ◌∷◌, ◌&&◌, ◌||◌, ◌∙◌, [], ℕ, suc, arith, subst, Bool, true, false, List, drop, take, refl, ap, sym, nat_eq, append_assoc, inl, inr}
use Rattle.std.proofs.lemmas.Bool.{cases_Bool, eqb-true}
use Rattle.std.specs.List.{All, list_any}
use Rattle.net_values.proofs.BoolLemmas.{second_fails}
use Rattle.net_base.specs.declared.plan.Plan.{Plan}
use Rattle.net_base.specs.declared.plan.places.EdgeId.{EdgeId}
use Rattle.net_base.specs.declared.plan.wire_plan.WirePlan.{WirePlan}
use Rattle.net_base.specs.declared.trace.entry.Entry.{Entry}
use Rattle.net_base.specs.plan.Accepted.{IsChecked, IsWireOf}
use Rattle.net_base.specs.plan.Paths.{are_joined, has_repeat, joins}
use Rattle.edge_model.specs.Connection.{connected_input, restart_input}
use Rattle.edge_model.specs.declared.effect.Effect.{Effect}
use Rattle.edge_model.specs.declared.effects.Effects.{Effects}
use Rattle.edge_model.specs.Hear.{octets_input}
use Rattle.edge_model.specs.State.{EdgeState}
use Rattle.edge_model.specs.Work.{Work}
use Rattle.network_model.specs.Absorb.{absorb, absorb_all, all_entries_of, begin_at, taken_all}
use Rattle.network_model.specs.Connection.{connected_work, connecting, delivering, hearing_work, restart_event}
use Rattle.network_model.specs.State.{NetworkState, edge_at, with_edge, with_pipe, without_octets_to}
use Rattle.psn_net.specs.Lists.{HasDriven, HasStepped, NetLists, network_seen}
use Rattle.octet_pipes.specs.Pipes.{pipes_of}

-- ---- no segment joins an edge with itself

joins_none : (edge : ℕ) (path : List EdgeId) → has_repeat path ≡ false → joins edge edge path ≡ false
joins_none edge [] once = refl
joins_none edge (last ∷ []) once = refl
joins_none edge (first ∷ next ∷ rest) once =
    neither (nat_eq edge first.0 && nat_eq edge next.0) (joins edge edge (next ∷ rest)) (both_off (nat_eq edge first.0) (nat_eq edge next.0) repeats)
    (joins_none edge (next ∷ rest) (second_fails (list_any (λ (e : EdgeId). nat_eq e.0 first.0) (next ∷ rest)) (has_repeat (next ∷ rest)) once))
  where
    neither : (x c : Bool) → x ≡ false → c ≡ false → (x || x) || c ≡ false
    neither x c p q = rw (p, q) refl

    both_off : (a b : Bool) → (a ≡ true → b ≡ true → ⊥) → a && b ≡ false
    both_off true true h = absurd (h refl refl)
    both_off true false h = refl
    both_off false b h = refl

    found : (a b c : Bool) → a ≡ true → (a || b) || c ≡ false → ⊥
    found true b c h e = absurd (cc (e))
    found false b c h e = absurd (cc (h))

    repeats : nat_eq edge first.0 ≡ true → nat_eq edge next.0 ≡ true → ⊥
    repeats p q =
        let hit : nat_eq next.0 first.0 ≡ true = ap (λ (k : ℕ). nat_eq k first.0) (sym (eqb-true edge next.0 q)) ∙ p in
        found (nat_eq next.0 first.0) (list_any (λ (e : EdgeId). nat_eq e.0 first.0) rest) (has_repeat (next ∷ rest)) hit once

unjoined : (plan : Plan) (edge : ℕ) (wires : List WirePlan) → All (IsWireOf plan) wires → list_any (λ (row : WirePlan). joins edge edge row.path) wires ≡ false
unjoined plan edge [] all = refl
unjoined plan edge (w ∷ ws) all =
    let here = joins_none edge w.path (all 0 w (omega arith)).once in
    let later = unjoined plan edge ws (λ k d below. all (suc k) d (omega (arith, below))) in
    rw here later

-- joined edges are two
pub two_joined : (plan : Plan) (a b : ℕ) → IsChecked plan → are_joined plan a b ≡ true → nat_eq b a ≡ false
two_joined plan a b checked joined = elim (cases_Bool (nat_eq b a)) [
  | inl same ↦
      let alone : are_joined plan a b ≡ false = ap (λ (k : ℕ). are_joined plan a k) (eqb-true b a same) ∙ unjoined plan a plan.wires checked.wires in
      let wrong : true ≡ false = sym joined ∙ alone in
      absurd (cc (wrong))
  | inr apart ↦ apart
]

-- ---- two edges connect

begins_apart : (n : NetworkState) (from to : EdgeId) (e : EdgeState) → nat_eq to.0 from.0 ≡ false → begin_at (with_edge from e n) to ≡ begin_at n to
unfolding with_edge
begins_apart n from to e h = rw h refl

pub connect_stepped : (old one two three now : NetLists) (from to : EdgeId) (first second : Effects) (given given2 : List Effect)
    → nat_eq to.0 from.0 ≡ false → one.plan ≡ old.plan
    → HasDriven from old one (connected_input old.plan taken_all to (begin_at (network_seen old) from)) first
    → HasDriven to one two (connected_input one.plan taken_all from (begin_at (network_seen one) to)) second
    → given ≡ first.list → HasStepped two three (record { state = absorb_all from 0 0 given (network_seen two); entries = all_entries_of from 0 0 given (network_seen two) })
    → given2 ≡ second.list → HasStepped three now (record { state = absorb_all to 0 0 given2 (network_seen three); entries = all_entries_of to 0 0 given2 (network_seen three) })
    → HasStepped old now (connecting from (connected_work old.plan (network_seen old) from to) to (connected_work old.plan (network_seen old) to from) (network_seen old))
connect_stepped old one two three now from to first second given given2 apart planned drove drove2 listed absorbed listed2 absorbed2 = record {
  state = absorbed2.state
      ∙ (ap (λ (es : List Effect). absorb_all to 0 0 es (network_seen three)) seconds
      ∙ ap (λ (n : NetworkState). absorb_all to 0 0 work2.effects n) middle);
  told = absorbed2.told
      ∙ (ap (λ (t : List Entry). t ++ all_entries_of to 0 0 given2 (network_seen three)) (absorbed.told ∙ ap (λ (t : List Entry). t ++ all_entries_of from 0 0 given (network_seen two)) (drove2.told ∙ drove.told))
      ∙ (append_assoc old.trace (all_entries_of from 0 0 given (network_seen two)) (all_entries_of to 0 0 given2 (network_seen three))
      ∙ ap (λ (es : List Entry). old.trace ++ es) both));
} where
  work : Work
  work = connected_work old.plan (network_seen old) from to

  work2 : Work
  work2 = connected_work old.plan (network_seen old) to from

  firsts : given ≡ work.effects
  firsts = listed ∙ drove.effects_are

  -- the second edge is as it was
  same : connected_input one.plan taken_all from (begin_at (network_seen one) to) ≡ work2
  same = ap (λ (p : Plan). connected_input p taken_all from (begin_at (network_seen one) to)) planned
      ∙ ap (λ (w : Work). connected_input old.plan taken_all from w) (ap (λ (n : NetworkState). begin_at n to) drove.state ∙ begins_apart (network_seen old) from to work.edge apart)

  seconds : given2 ≡ work2.effects
  seconds = listed2 ∙ (drove2.effects_are ∙ ap (λ (w : Work). w.effects) same)

  ends : network_seen two ≡ with_edge to work2.edge (with_edge from work.edge (network_seen old))
  ends = drove2.state ∙ (ap (λ (w : Work). with_edge to w.edge (network_seen one)) same ∙ ap (λ (n : NetworkState). with_edge to work2.edge n) drove.state)

  middle : network_seen three ≡ absorb_all from 0 0 work.effects (with_edge to work2.edge (with_edge from work.edge (network_seen old)))
  middle = absorbed.state ∙ (ap (λ (es : List Effect). absorb_all from 0 0 es (network_seen two)) firsts ∙ ap (λ (n : NetworkState). absorb_all from 0 0 work.effects n) ends)

  both : all_entries_of from 0 0 given (network_seen two) ++ all_entries_of to 0 0 given2 (network_seen three)
      ≡ (connecting from work to work2 (network_seen old)).entries
  both = ap (λ (es : List Entry). es ++ all_entries_of to 0 0 given2 (network_seen three))
      (ap (λ (es : List Effect). all_entries_of from 0 0 es (network_seen two)) firsts ∙ ap (λ (n : NetworkState). all_entries_of from 0 0 work.effects n) ends)
      ∙ ap (λ (es : List Entry). all_entries_of from 0 0 work.effects (with_edge to work2.edge (with_edge from work.edge (network_seen old))) ++ es)
      (ap (λ (es : List Effect). all_entries_of to 0 0 es (network_seen three)) seconds ∙ ap (λ (n : NetworkState). all_entries_of to 0 0 work2.effects n) middle)

-- ---- an edge at work, while something else of the network changes

-- the effects of an edge go into a network in which its work is done
pub absorbed_stepped : (old mid now : NetLists) (me : EdgeId) (origin hops : ℕ) (work : Work) (effects : Effects) (before : NetworkState)
    → mid.trace ≡ old.trace → effects.list ≡ work.effects → network_seen mid ≡ with_edge me work.edge before
    → HasStepped mid now (record { state = absorb_all me origin hops effects.list (network_seen mid); entries = all_entries_of me origin hops effects.list (network_seen mid) })
    → HasStepped old now (absorb me origin hops work before)
absorbed_stepped old mid now me origin hops work effects before told is state absorbed = record {
  state = absorbed.state ∙ (ap (λ (es : List Effect). absorb_all me origin hops es (network_seen mid)) is ∙ ap (λ (n : NetworkState). absorb_all me origin hops work.effects n) state);
  told = absorbed.told ∙ (ap (λ (t : List Entry). t ++ all_entries_of me origin hops effects.list (network_seen mid)) told
      ∙ ap (λ (es : List Entry). old.trace ++ es) (ap (λ (es : List Effect). all_entries_of me origin hops es (network_seen mid)) is
      ∙ ap (λ (n : NetworkState). all_entries_of me origin hops work.effects n) state));
}

pub hearing : (n now : NetLists) (from to : EdgeId) (count : ℕ) (bytes : List ℕ) (effects : Effects) → bytes ≡ take count (pipes_of n.pipes from.0 to.0)
    → HasDriven to n now (octets_input n.plan taken_all from bytes ((edge_at (network_seen n) to).peering from.0) (begin_at (network_seen n) to)) effects
    → HasDriven to n now (hearing_work n.plan (network_seen n) from to (take count ((network_seen n).pipes from.0 to.0))) effects
unfolding network_seen
hearing n now from to count bytes effects e drove =
    subst (λ (octets : List ℕ). HasDriven to n now (octets_input n.plan taken_all from octets ((edge_at (network_seen n) to).peering from.0) (begin_at (network_seen n) to)) effects) e drove

-- an edge took an input, and what it gave out was absorbed
pub input_absorbed : (old mid now : NetLists) (me : EdgeId) (origin hops : ℕ) (work : Work) (effects : Effects) → HasDriven me old mid work effects
    → HasStepped mid now (record { state = absorb_all me origin hops effects.list (network_seen mid); entries = all_entries_of me origin hops effects.list (network_seen mid) })
    → HasStepped old now (absorb me origin hops work (network_seen old))
input_absorbed old mid now me origin hops work effects drove absorbed =
    absorbed_stepped old mid now me origin hops work effects (network_seen old) drove.told drove.effects_are drove.state absorbed

edge_with_pipe : (n : NetworkState) (from to me : EdgeId) (count : ℕ) (e : EdgeState)
    → with_pipe from to (drop count ((with_edge me e n).pipes from.0 to.0)) (with_edge me e n) ≡ with_edge me e (with_pipe from to (drop count (n.pipes from.0 to.0)) n)
unfolding with_edge with_pipe
edge_with_pipe n from to me count e = refl

edge_emptied : (n : NetworkState) (me : EdgeId) (e : EdgeState) → without_octets_to me (with_edge me e n) ≡ with_edge me e (without_octets_to me n)
unfolding with_edge without_octets_to
edge_emptied n me e = refl

pub deliver_stepped : (old one two now : NetLists) (from to : EdgeId) (count : ℕ) (effects : Effects)
    → HasDriven to old one (hearing_work old.plan (network_seen old) from to (take count ((network_seen old).pipes from.0 to.0))) effects
    → network_seen two ≡ with_pipe from to (drop count ((network_seen one).pipes from.0 to.0)) (network_seen one) → two.trace ≡ one.trace
    → HasStepped two now (record { state = absorb_all to 0 0 effects.list (network_seen two); entries = all_entries_of to 0 0 effects.list (network_seen two) })
    → HasStepped old now (delivering old.plan from to count (network_seen old))
deliver_stepped old one two now from to count effects drove gave told absorbed =
    absorbed_stepped old two now to 0 0 work effects (with_pipe from to (drop count ((network_seen old).pipes from.0 to.0)) (network_seen old)) (told ∙ drove.told) drove.effects_are
    (gave ∙ (ap (λ (n : NetworkState). with_pipe from to (drop count (n.pipes from.0 to.0)) n) drove.state ∙ edge_with_pipe (network_seen old) from to to count work.edge)) absorbed
  where
    work : Work
    work = hearing_work old.plan (network_seen old) from to (take count ((network_seen old).pipes from.0 to.0))

pub restart_stepped : (old one two now : NetLists) (me : EdgeId) (effects : Effects)
    → HasDriven me old one (restart_input (begin_at (network_seen old) me)) effects
    → network_seen two ≡ without_octets_to me (network_seen one) → two.trace ≡ one.trace
    → HasStepped two now (record { state = absorb_all me 0 0 effects.list (network_seen two); entries = all_entries_of me 0 0 effects.list (network_seen two) })
    → HasStepped old now (restart_event me (network_seen old))
restart_stepped old one two now me effects drove emptied told absorbed =
    absorbed_stepped old two now me 0 0 work effects (without_octets_to me (network_seen old)) (told ∙ drove.told) drove.effects_are
    (emptied ∙ (ap (λ (n : NetworkState). without_octets_to me n) drove.state ∙ edge_emptied (network_seen old) me work.edge)) absorbed
  where
    work : Work
    work = restart_input (begin_at (network_seen old) me)
