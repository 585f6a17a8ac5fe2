-- Ticks of edges, one after another.
use Rattle.std.proofs.Common.{◌≡◌, ◌<◌, ◌≤◌, ◌+◌, ◌-◌, ◌++◌, ℕ, suc, List, refl, ap, sym, subst, arith, append_assoc, length, ◌∙◌}
use Rattle.net_base.specs.declared.plan.Plan.{Plan}
use Rattle.net_base.specs.declared.trace.entry.Entry.{Entry}
use Rattle.network_model.specs.Absorb.{Stepped, and_then, network_stays}
use Rattle.network_model.specs.Age.{ageing}
use Rattle.network_model.specs.State.{NetworkState}
use Rattle.network_model.specs.Tick.{tick_at, tick_event, ticks_from}
use Rattle.psn_net.specs.Lists.{HasStepped, NetLists, network_seen}

pub ticks_more : (plan : Plan) (i n : ℕ) (network : NetworkState) → i < n → ticks_from plan i (n - i) network
    ≡ and_then (tick_at plan (record { 0 = i }) network) (ticks_from plan (i + 1) (n - (i + 1)))
ticks_more plan i n network h = let e : n - i ≡ suc (n - (i + 1)) = omega arith in rw e refl

pub ticks_end : (plan : Plan) (i n : ℕ) (network : NetworkState) → n ≤ i → ticks_from plan i (n - i) network ≡ network_stays network
ticks_end plan i n network h = let e : n - i ≡ 0 = omega arith in rw e refl

-- what the ticks that are left tell, behind what was told
pub ticks_told : (plan : Plan) (i n : ℕ) (network after : NetworkState) (trace now : List Entry) → i < n
    → after ≡ (tick_at plan (record { 0 = i }) network).state → now ≡ trace ++ (tick_at plan (record { 0 = i }) network).entries
    → now ++ (ticks_from plan (i + 1) (n - (i + 1)) after).entries ≡ trace ++ (ticks_from plan i (n - i) network).entries
ticks_told plan i n network after trace now below state told =
    ap (λ (t : List Entry). t ++ (ticks_from plan (i + 1) (n - (i + 1)) after).entries) told
    ∙ (append_assoc trace (tick_at plan (record { 0 = i }) network).entries (ticks_from plan (i + 1) (n - (i + 1)) after).entries
    ∙ (ap (λ (s : NetworkState). trace ++ ((tick_at plan (record { 0 = i }) network).entries ++ (ticks_from plan (i + 1) (n - (i + 1)) s).entries)) state
    ∙ ap (λ (s : Stepped). trace ++ s.entries) (sym (ticks_more plan i n network below))))

pub ticks_state : (plan : Plan) (i n : ℕ) (network after : NetworkState) → i < n → after ≡ (tick_at plan (record { 0 = i }) network).state
    → (ticks_from plan (i + 1) (n - (i + 1)) after).state ≡ (ticks_from plan i (n - i) network).state
ticks_state plan i n network after below state =
    ap (λ (s : NetworkState). (ticks_from plan (i + 1) (n - (i + 1)) s).state) state ∙ ap (λ (s : Stepped). s.state) (sym (ticks_more plan i n network below))

-- the tick of an edge was done, by a network that keeps the plan
pub tick_done : (plan : Plan) (old new : NetLists) (i n : ℕ) → old.plan ≡ plan → i < n → HasStepped old new (tick_at old.plan (record { 0 = i }) (network_seen old))
    → ((ticks_from plan (i + 1) (n - (i + 1)) (network_seen new)).state ≡ (ticks_from plan i (n - i) (network_seen old)).state)
    × (new.trace ++ (ticks_from plan (i + 1) (n - (i + 1)) (network_seen new)).entries ≡ old.trace ++ (ticks_from plan i (n - i) (network_seen old)).entries)
tick_done plan old new i n kept below done =
    let step : HasStepped old new (tick_at plan (record { 0 = i }) (network_seen old)) = subst (λ (p : Plan). HasStepped old new (tick_at p (record { 0 = i }) (network_seen old))) kept done in
    (ticks_state plan i n (network_seen old) (network_seen new) below step.state, ticks_told plan i n (network_seen old) (network_seen new) old.trace new.trace below step.state step.told)

pub ruleset tick_steps = (ticks_told, ticks_state, ticks_end)

-- a tick passes for the packets, and then at each edge
pub tick_joined : (old mid now : NetLists) → HasStepped old mid (ageing (network_seen old)) → mid.plan ≡ old.plan → HasStepped mid now (ticks_from mid.plan 0 (length mid.plan.edges) (network_seen mid))
    → HasStepped old now (tick_event old.plan (network_seen old))
tick_joined old mid now aged kept ticked =
    let edges : Stepped = ticks_from old.plan 0 (length old.plan.edges) (ageing (network_seen old)).state in
    let same : ticks_from mid.plan 0 (length mid.plan.edges) (network_seen mid) ≡ edges =
    ap (λ (p : Plan). ticks_from p 0 (length p.edges) (network_seen mid)) kept ∙ ap (ticks_from old.plan 0 (length old.plan.edges)) aged.state in
    record {
      state = ticked.state ∙ ap (λ (s : Stepped). s.state) same;
      told = ticked.told ∙ (ap (λ (t : List Entry). t ++ (ticks_from mid.plan 0 (length mid.plan.edges) (network_seen mid)).entries) aged.told
          ∙ (append_assoc old.trace (ageing (network_seen old)).entries (ticks_from mid.plan 0 (length mid.plan.edges) (network_seen mid)).entries
          ∙ ap (λ (s : Stepped). old.trace ++ ((ageing (network_seen old)).entries ++ s.entries)) same));
    }
