-- What lines of a script have brought the network to.
use Rattle.std.proofs.Common.{◌≡◌, ◌++◌, ◌∙◌, ℕ, true, List, [], ◌∷◌, take, refl, sym, ap, subst}
use Rattle.net_base.specs.declared.plan.Plan.{Plan}
use Rattle.net_base.specs.declared.plan.places.EdgeId.{EdgeId}
use Rattle.net_base.specs.plan.Accepted.{IsChecked}
use Rattle.independent_model.specs.Calls.{independent_hears}
use Rattle.independent_model.specs.State.{IndepState}
use Rattle.switchover_model.specs.declared.switch_line.SwitchLine.{SwitchLine}
use Rattle.switchover_model.specs.Laws.{HasSwitchTypes}
use Rattle.switchover_model.specs.Network.{IsGoing, SwitchState, done, done_all, first_network, is_waiting, takes_all}
use Rattle.switchover_model.proofs.RunLemmas.{deliveries_go_on}
use Rattle.switchover_net.specs.Net.{IsReached, SwitchLists, ShowsSwitchState}
use Rattle.octet_pipes.specs.Pipes.{pipes_of}
use Rattle.switchover_net.specs.Rows.{seen_row}

-- what comes is not refused
pub hears_on : (net : SwitchLists) (from to : EdgeId) → IsChecked net.row.plan → HasSwitchTypes net.row.plan → IsReached net → is_waiting (pipes_of net.pipes from.0 to.0) ≡ true
    → IsGoing (independent_hears net.row.plan takes_all to.0 from (take 1 (pipes_of net.pipes from.0 to.0)) (seen_row net.row to.0) [])
hears_on net from to checked types reached waits =
    subst (λ (e : ℕ → IndepState). IsGoing (independent_hears net.row.plan takes_all to.0 from (take 1 (pipes_of net.pipes from.0 to.0)) (e to.0) [])) (sym reached.shows.edges)
    (subst (λ (p : ℕ → ℕ → List ℕ). IsGoing (independent_hears net.row.plan takes_all to.0 from (take 1 (p from.0 to.0)) ((done_all net.row.plan reached.lines first_network).edges to.0) []))
    (sym reached.shows.pipes)
    (deliveries_go_on net.row.plan checked types reached.lines from.0 to.0 1 (ap (λ (p : ℕ → ℕ → List ℕ). is_waiting (p from.0 to.0)) (sym reached.shows.pipes) ∙ waits)))

-- one line more
pub all_more : (plan : Plan) (lines : List SwitchLine) (line : SwitchLine) (x : SwitchState) → done_all plan (lines ++ line ∷ []) x ≡ done plan line (done_all plan lines x)
all_more plan [] line x = refl
all_more plan (l ∷ lines) line x = all_more plan lines line (done plan l x)

pub reached_more : (old new : SwitchLists) (line : SwitchLine) → new.row.plan ≡ old.row.plan → IsReached old → ((x : SwitchState) → ShowsSwitchState old x → ShowsSwitchState new (done old.row.plan line x)) → IsReached new
reached_more old new line same reached does = record {
  checked = subst IsChecked (sym same) reached.checked;
  lines = reached.lines ++ line ∷ [];
  shows = subst (λ (p : Plan). ShowsSwitchState new (done_all p (reached.lines ++ line ∷ []) first_network)) (sym same)
      (subst (ShowsSwitchState new) (sym (all_more old.row.plan reached.lines line first_network)) (does (done_all old.row.plan reached.lines first_network) reached.shows));
}

-- nothing was done yet
pub reached_first : (net : SwitchLists) → IsChecked net.row.plan → ShowsSwitchState net first_network → IsReached net
reached_first net checked shows = record { checked = checked; lines = []; shows = shows }
