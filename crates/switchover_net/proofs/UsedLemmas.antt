-- What is told of an edge, one entry after another.
use Rattle.std.proofs.Common.{◌≡◌, ◌<◌, ◌≤◌, ◌+◌, ◌-◌, ◌++◌, ◌∙◌, ℕ, zero, suc, Bool, List, [], ◌∷◌, length, drop, slice_index_or, refl, sym, ap, arith, append_assoc, append-nil}
use Rattle.net_base.specs.declared.outside.link_call.LinkCall.{LinkCall}
use Rattle.net_base.specs.declared.plan.Plan.{Plan}
use Rattle.independent_model.specs.Calls.{uses}
use Rattle.independent_model.specs.State.{IndepState}
use Rattle.switchover_model.specs.declared.switch_entry.SwitchEntry.{SwitchEntry}
use Rattle.switchover_model.specs.declared.switch_entry.SwitchEntry.TheVariants.{Said}
use Rattle.switchover_model.specs.Network.{edge_numbered}
use Rattle.switchover_model.specs.Text.{said_entries, turned_switch, turned_all, used_from}

-- ---- wires that are used

pub used_more : (plan : Plan) (me i n : ℕ) (edge : IndepState) (so_far now all : List Bool) (is : Bool) → i < n → now ≡ so_far ++ is ∷ [] → is ≡ uses plan me edge i
    → so_far ++ used_from plan me edge i (n - i) ≡ all → now ++ used_from plan me edge (i + 1) (n - (i + 1)) ≡ all
used_more plan me i n edge so_far now all is less pushed here goes =
    ap (λ (l : List Bool). l ++ used_from plan me edge (i + 1) (n - (i + 1))) pushed
    ∙ (append_assoc so_far (is ∷ []) (used_from plan me edge (i + 1) (n - (i + 1)))
    ∙ (ap (λ (b : Bool). so_far ++ b ∷ used_from plan me edge (i + 1) (n - (i + 1))) here
    ∙ (ap (λ (m : ℕ). so_far ++ used_from plan me edge i m) one_more ∙ goes)))
  where
    one_more : suc (n - (i + 1)) ≡ n - i
    one_more = omega (arith, less)

pub used_end : (plan : Plan) (me i n : ℕ) (edge : IndepState) (so_far all : List Bool) → n ≤ i → so_far ++ used_from plan me edge i (n - i) ≡ all → so_far ≡ all
used_end plan me i n edge so_far all past goes = sym (append-nil so_far) ∙ (ap (λ (m : ℕ). so_far ++ used_from plan me edge i m) none ∙ goes)
  where
    none : 0 ≡ n - i
    none = omega (arith, past)

pub used_long : (plan : Plan) (me i n : ℕ) (edge : IndepState) → length (used_from plan me edge i n) ≡ n
used_long plan me i zero edge = refl
used_long plan me i (suc n) edge = ap suc (used_long plan me (i + 1) n edge)

pub ruleset used_steps = (used_more, used_end, used_long)

-- ---- what was put

said_more : (me : ℕ) (calls : List LinkCall) (place : ℕ) (call : LinkCall) → place < length calls → call ≡ slice_index_or calls place call → said_entries me (drop place calls)
    ≡ Said (edge_numbered me) call.peer call.bytes ∷ said_entries me (drop (place + 1) calls)
said_more me [] place call within at = absurd (omega (arith, within))
said_more me (x ∷ calls) zero call within at = ap (λ (c : LinkCall). Said (edge_numbered me) c.peer c.bytes ∷ said_entries me calls) (sym at)
said_more me (x ∷ calls) (suc place) call within at =
    let behind : suc place + 1 ≡ suc (place + 1) = omega arith in
    rw behind (said_more me calls place call (omega (arith, within)) at)

said_end : (me : ℕ) (calls : List LinkCall) (place : ℕ) → length calls ≤ place → said_entries me (drop place calls) ≡ []
said_end me [] zero past = refl
said_end me [] (suc place) past = refl
said_end me (x ∷ calls) zero past = absurd (omega (arith, past))
said_end me (x ∷ calls) (suc place) past = said_end me calls place (omega (arith, past))

pub said_goes : (me : ℕ) (calls : List LinkCall) (place : ℕ) (call : LinkCall) (so_far now all : List SwitchEntry) → place < length calls → call ≡ slice_index_or calls place call → now
    ≡ so_far ++ Said (edge_numbered me) call.peer call.bytes ∷ []
    → so_far ++ said_entries me (drop place calls) ≡ all → now ++ said_entries me (drop (place + 1) calls) ≡ all
said_goes me calls place call so_far now all within at pushed goes =
    ap (λ (l : List SwitchEntry). l ++ said_entries me (drop (place + 1) calls)) pushed
    ∙ (append_assoc so_far (Said (edge_numbered me) call.peer call.bytes ∷ []) (said_entries me (drop (place + 1) calls))
    ∙ (ap (λ (l : List SwitchEntry). so_far ++ l) (sym (said_more me calls place call within at)) ∙ goes))

pub said_ends : (me : ℕ) (calls : List LinkCall) (place : ℕ) (so_far all : List SwitchEntry) → length calls ≤ place → so_far ++ said_entries me (drop place calls) ≡ all → so_far ≡ all
said_ends me calls place so_far all past goes = sym (append-nil so_far) ∙ (ap (λ (l : List SwitchEntry). so_far ++ l) (sym (said_end me calls place past)) ∙ goes)

pub ruleset said_steps = (said_goes, said_ends)

-- ---- wires that are used otherwise than before

turned_more : (plan : Plan) (me i n : ℕ) (edge : IndepState) (before : List Bool) (was : Bool) → i < n → length before ≡ n → was ≡ slice_index_or before i was
    → turned_all me i (drop i before) (used_from plan me edge i (n - i))
    ≡ turned_switch me i was (uses plan me edge i) ++ turned_all me (i + 1) (drop (i + 1) before) (used_from plan me edge (i + 1) (n - (i + 1)))
turned_more plan me i n edge before was less long at =
    ap (λ (m : ℕ). turned_all me i (drop i before) (used_from plan me edge i m)) one_more
    ∙ ap (λ (l : List Bool). turned_all me i l (uses plan me edge i ∷ used_from plan me edge (i + 1) (n - (i + 1)))) (front before i within at)
  where
    one_more : n - i ≡ suc (n - (i + 1))
    one_more = omega (arith, less)

    within : i < length before
    within = omega (arith, less, long)

    front : (l : List Bool) (k : ℕ) → k < length l → was ≡ slice_index_or l k was → drop k l ≡ was ∷ drop (k + 1) l
    front [] k inside here = absurd (omega (arith, inside))
    front (b ∷ l) zero inside here = ap (λ (x : Bool). x ∷ l) (sym here)
    front (b ∷ l) (suc k) inside here = let behind : suc k + 1 ≡ suc (k + 1) = omega arith in rw behind (front l k (omega (arith, inside)) here)

pub turned_goes : (plan : Plan) (me i n : ℕ) (edge : IndepState) (before : List Bool) (was is : Bool) (so_far now all : List SwitchEntry) → i < n → length before ≡ n → was
    ≡ slice_index_or before i was → is ≡ uses plan me edge i
    → now ≡ so_far ++ turned_switch me i was is → so_far ++ turned_all me i (drop i before) (used_from plan me edge i (n - i)) ≡ all
    → now ++ turned_all me (i + 1) (drop (i + 1) before) (used_from plan me edge (i + 1) (n - (i + 1))) ≡ all
turned_goes plan me i n edge before was is so_far now all less long at here pushed goes =
    ap (λ (l : List SwitchEntry). l ++ turned_all me (i + 1) (drop (i + 1) before) (used_from plan me edge (i + 1) (n - (i + 1)))) (pushed ∙ ap (λ (b : Bool). so_far ++ turned_switch me i was b) here)
    ∙ (append_assoc so_far (turned_switch me i was (uses plan me edge i)) (turned_all me (i + 1) (drop (i + 1) before) (used_from plan me edge (i + 1) (n - (i + 1))))
    ∙ (ap (λ (l : List SwitchEntry). so_far ++ l) (sym (turned_more plan me i n edge before was less long at)) ∙ goes))

pub turned_ends : (plan : Plan) (me i n : ℕ) (edge : IndepState) (before : List Bool) (so_far all : List SwitchEntry) → n ≤ i → length before ≡ n
    → so_far ++ turned_all me i (drop i before) (used_from plan me edge i (n - i)) ≡ all → so_far ≡ all
turned_ends plan me i n edge before so_far all past long goes = sym (append-nil so_far) ∙ (ap (λ (l : List SwitchEntry). so_far ++ l) (sym (none before i (omega (arith, past, long)))) ∙ goes)
  where
    none : (l : List Bool) (k : ℕ) → length l ≤ k → turned_all me i (drop k l) (used_from plan me edge i (n - i)) ≡ []
    none [] zero past = refl
    none [] (suc k) past = refl
    none (b ∷ l) zero past = absurd (omega (arith, past))
    none (b ∷ l) (suc k) past = none l k (omega (arith, past))

pub ruleset turned_steps = (turned_goes, turned_ends)
