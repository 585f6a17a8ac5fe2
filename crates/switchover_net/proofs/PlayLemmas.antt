-- The lines of a script, one after another.
use Rattle.std.proofs.Common.{◌≡◌, ◌<◌, ◌≤◌, ◌+◌, ◌++◌, ◌∙◌, ℕ, zero, suc, List, [], ◌∷◌, length, drop, slice_index_or, refl, sym, ap, subst, arith, append_assoc, append-nil}
use Rattle.net_base.specs.declared.plan.Plan.{Plan}
use Rattle.net_base.specs.plan.Accepted.{IsChecked}
use Rattle.switchover_model.specs.declared.switch_entry.SwitchEntry.{SwitchEntry}
use Rattle.switchover_model.specs.declared.switch_line.SwitchLine.{SwitchLine}
use Rattle.switchover_model.specs.Network.{SwitchState, done, first_network}
use Rattle.switchover_model.specs.Text.{line_entries, script_entries}
use Rattle.switchover_net.specs.Net.{IsReached, SwitchLists, ShowsSwitchState}
use Rattle.switchover_net.proofs.ReachedLemmas.{reached_first}

-- so many lines were done
pub record IsPlayed (plan : Plan) (lines : List SwitchLine) (place : ℕ) (now : SwitchLists) (told : List (List SwitchEntry)) : Type 0 where
  pub plan_is : now.row.plan ≡ plan
  pub reached : IsReached now
  pub y : SwitchState
  pub shows : ShowsSwitchState now y
  pub entries : told ++ script_entries plan (drop place lines) y ≡ script_entries plan lines first_network

pub none_played : (plan : Plan) (lines : List SwitchLine) (now : SwitchLists) → IsChecked plan → now.row.plan ≡ plan → ShowsSwitchState now first_network → IsPlayed plan lines 0 now []
none_played plan lines now checked is shows = record { plan_is = is; reached = reached_first now (subst IsChecked (sym is) checked) shows; y = first_network; shows = shows; entries = refl }

front : (lines : List SwitchLine) (place : ℕ) (line : SwitchLine) → place < length lines → line ≡ slice_index_or lines place line → drop place lines ≡ line ∷ drop (place + 1) lines
front [] place line within at = absurd (omega (arith, within))
front (l ∷ lines) zero line within at = ap (λ (x : SwitchLine). x ∷ lines) (sym at)
front (l ∷ lines) (suc place) line within at = let behind : suc place + 1 ≡ suc (place + 1) = omega arith in rw behind (front lines place line (omega (arith, within)) at)

pub more_played : (plan : Plan) (lines : List SwitchLine) (place : ℕ) (line : SwitchLine) (now next : SwitchLists) (told after : List (List SwitchEntry)) (entries : List SwitchEntry)
    → place < length lines → line ≡ slice_index_or lines place line
    → next.row.plan ≡ now.row.plan → IsReached next → ((x : SwitchState) → ShowsSwitchState now x → ShowsSwitchState next (done now.row.plan line x))
    → ((x : SwitchState) → ShowsSwitchState now x → entries ≡ line_entries now.row.plan line x) → after ≡ told ++ entries ∷ []
    → IsPlayed plan lines place now told → IsPlayed plan lines (place + 1) next after
more_played plan lines place line now next told after entries within at same reached shows tells pushed is = record {
  plan_is = same ∙ is.plan_is;
  reached = reached;
  y = done plan line is.y;
  shows = subst (λ (p : Plan). ShowsSwitchState next (done p line is.y)) is.plan_is (shows is.y is.shows);
  entries = ap (λ (l : List (List SwitchEntry)). l ++ script_entries plan (drop (place + 1) lines) (done plan line is.y)) pushed
      ∙ (append_assoc told (entries ∷ []) (script_entries plan (drop (place + 1) lines) (done plan line is.y))
      ∙ (ap (λ (e : List SwitchEntry). told ++ e ∷ script_entries plan (drop (place + 1) lines) (done plan line is.y)) (tells is.y is.shows ∙ ap (λ (p : Plan). line_entries p line is.y) is.plan_is)
      ∙ (ap (λ (l : List SwitchLine). told ++ script_entries plan l is.y) (sym (front lines place line within at)) ∙ is.entries)));
}

none_left : (lines : List SwitchLine) (place : ℕ) → length lines ≤ place → drop place lines ≡ []
none_left [] zero past = refl
none_left [] (suc place) past = refl
none_left (l ∷ lines) zero past = absurd (omega (arith, past))
none_left (l ∷ lines) (suc place) past = none_left lines place (omega (arith, past))

pub all_played : (plan : Plan) (lines : List SwitchLine) (place : ℕ) (now : SwitchLists) (told : List (List SwitchEntry)) → length lines ≤ place → IsPlayed plan lines place now told
    → told ≡ script_entries plan lines first_network
all_played plan lines place now told past is = sym (append-nil told) ∙ (ap (λ (l : List SwitchLine). told ++ script_entries plan l is.y) (sym (none_left lines place past)) ∙ is.entries)

pub ruleset play_steps = (none_played, more_played, all_played)
