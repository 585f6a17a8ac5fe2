-- Windows that a lost or repeated copy breaks.
use Rattle.std.proofs.Common.{◌≡◌, ◌==◌, ◌||◌, ◌∙◌, [], ℕ, Bool, true, false, not, List, Some, None, cond, refl, ap, sym}
use Rattle.net_values.proofs.NumberLemmas.{equal_turned}
use Rattle.seen_network.specs.Once.{names_seen}
use Rattle.seen_network.specs.Seen.{Seen}
use Rattle.seen_state.specs.Copies.{CopyMaps, TellsPackets, is_number, origin_under}
use Rattle.seen_state.proofs.CopyLemmas.{seen_named}
use Rattle.seen_network.specs.declared.window.Window.{Window}

pub spoiled_none : (maps : CopyMaps) (seen : Seen) (origin packet : ℕ) (idle : Bool) (ws : List Window) → origin_under maps packet ≡ None → TellsPackets maps seen.under_way
    → ws ≡ cond (idle || not (names_seen seen origin packet)) ws []
spoiled_none maps seen origin packet idle ws none tells = by idle where
  names : names_seen seen origin packet ≡ false
  names = sym (seen_named maps seen origin packet tells) ∙ ap (is_number origin) none

  by : (b : Bool) → ws ≡ cond (b || not (names_seen seen origin packet)) ws []
  by true = refl
  by false = ap (λ (n : Bool). cond (not n) ws []) (sym names)

pub spoiled_one : (maps : CopyMaps) (seen : Seen) (origin packet one : ℕ) (idle : Bool) (ws left : List Window) → idle ≡ false → origin_under maps packet ≡ Some one → TellsPackets maps seen.under_way
    → left ≡ cond (origin == one) [] ws → left ≡ cond (idle || not (names_seen seen origin packet)) ws []
spoiled_one maps seen origin packet one idle ws left fails some tells is =
    is ∙ (by (origin == one) ∙ (ap (λ (n : Bool). cond (not n) ws []) (equal_turned origin one ∙ sym names) ∙ ap (λ (b : Bool). cond (b || not (names_seen seen origin packet)) ws []) (sym fails))) where
      names : names_seen seen origin packet ≡ (one == origin)
      names = sym (seen_named maps seen origin packet tells) ∙ ap (is_number origin) some

      by : (b : Bool) → cond b [] ws ≡ cond (not b) ws []
      by true = refl
      by false = refl
