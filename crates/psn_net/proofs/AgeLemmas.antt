-- A tick passes for the packets under way: one after another of those that it makes too old goes, and is told.
use Rattle.std.proofs.Common.{◌≡◌, ◌+◌, ◌<◌, ◌++◌, ◌∷◌, ◌∙◌, [], ℕ, Bool, true, false, not, List, Option, Some, None, cond, refl, ap, sym, subst, arith, option_map, length, append_assoc, append-nil}
use Rattle.std.specs.List.{find}
use Rattle.net_base.specs.declared.plan.Plan.{Plan}
use Rattle.net_base.specs.declared.trace.entry.Entry.{Entry}
use Rattle.net_base.specs.declared.trace.entry.Entry.TheVariants.{Aged}
use Rattle.network_model.specs.declared.packet.Packet.{Packet}
use Rattle.network_model.specs.Age.{aged_entries, ageing}
use Rattle.network_model.specs.State.{NetworkState, all_older, lives_on, older, with_older, without_number, without_packet}
use Rattle.psn_net.specs.Lists.{HasStepped, NetLists, network_seen}
use Rattle.psn_net.specs.Packets.{ArePacketsOf, is_aged, number_of, without_aged}

-- ---- lists of packets

none_told : (ps : List Packet) → find is_aged ps ≡ None → aged_entries ps ≡ []
none_told [] none = refl
none_told (p ∷ ps) none = by (lives_on p) none (λ rest. none_told ps rest) where
  by : (b : Bool) → cond (not b) (Some p) (find is_aged ps) ≡ None → (find is_aged ps ≡ None → aged_entries ps ≡ []) → cond b (aged_entries ps) (Aged p.number ∷ aged_entries ps) ≡ []
  by true none rest = rest none
  by false none rest = absurd (cc (none))

-- the one that goes first is told first
first_told : (n : ℕ) (ps : List Packet) → option_map number_of (find is_aged ps) ≡ Some n → aged_entries ps ≡ Aged n ∷ aged_entries (without_aged ps)
first_told n [] is = absurd (cc (is))
first_told n (p ∷ ps) is = by (lives_on p) refl is (λ rest. first_told n ps rest) where
  by : (b : Bool) → lives_on p ≡ b → option_map number_of (cond (not b) (Some p) (find is_aged ps)) ≡ Some n
      → (option_map number_of (find is_aged ps) ≡ Some n → aged_entries ps ≡ Aged n ∷ aged_entries (without_aged ps))
      → cond b (aged_entries ps) (Aged p.number ∷ aged_entries ps) ≡ Aged n ∷ aged_entries (cond b (p ∷ without_aged ps) ps)
  by true lives is rest = rest is ∙ ap (λ (b : Bool). Aged n ∷ cond b (aged_entries (without_aged ps)) (Aged p.number ∷ aged_entries (without_aged ps))) (sym lives)
  by false dies is rest = let same : p.number ≡ n = cc (is) in ap (λ (m : ℕ). Aged m ∷ aged_entries ps) same

-- those that live on are the same without it
older_left : (ps : List Packet) → all_older (without_aged ps) ≡ all_older ps
older_left [] = refl
older_left (p ∷ ps) = by (lives_on p) refl (older_left ps) where
  by : (b : Bool) → lives_on p ≡ b → all_older (without_aged ps) ≡ all_older ps → all_older (cond b (p ∷ without_aged ps) ps) ≡ cond b (older p ∷ all_older ps) (all_older ps)
  by true lives rest =
      ap (λ (b : Bool). cond b (older p ∷ all_older (without_aged ps)) (all_older (without_aged ps))) lives
      ∙ ap (λ (qs : List Packet). older p ∷ qs) rest
  by false dies rest = refl

-- they are those of the plan
pub planned_older : (plan : Plan) (last : ℕ) (ps : List Packet) → ArePacketsOf plan last ps → ArePacketsOf plan last (all_older ps)
planned_older plan last [] are = are
planned_older plan last (p ∷ ps) are = by (lives_on p) (planned_older plan last ps are.1) where
  by : (b : Bool) → ArePacketsOf plan last (all_older ps) → ArePacketsOf plan last (cond b (older p ∷ all_older ps) (all_older ps))
  by true rest = (record { from = are.0.from; to = are.0.to; hops = are.0.hops }, rest)
  by false rest = rest

-- ---- the network

none_of : {A B : Type 0} (f : A → B) (o : Option A) (r : Option B) → r ≡ option_map f o → r ≡ None → o ≡ None
none_of f None r is none = refl
none_of f (Some x) r is none = let wrong : None ≡ option_map f (Some x) = sym none ∙ is in absurd (cc (wrong))

pub none_aged : (ps : List Packet) (r : Option ℕ) → r ≡ option_map number_of (find is_aged ps) → r ≡ None → find is_aged ps ≡ None
none_aged ps r is none = none_of number_of (find is_aged ps) r is none

left_older : (network : NetworkState) (n : ℕ) → without_number n network.under_way ≡ without_aged network.under_way → with_older (without_packet n network) ≡ with_older network
unfolding with_older without_packet
left_older network n left = ap (λ (ps : List Packet). record network { under_way = ps }) (ap all_older left ∙ older_left network.under_way)

left_told : (network : NetworkState) (n : ℕ) → option_map number_of (find is_aged network.under_way) ≡ Some n → without_number n network.under_way ≡ without_aged network.under_way
    → aged_entries network.under_way ≡ Aged n ∷ aged_entries (without_packet n network).under_way
unfolding without_packet
left_told network n is left = first_told n network.under_way is ∙ ap (λ (ps : List Packet). Aged n ∷ aged_entries ps) (sym left)

left_shorter : (n : ℕ) (ps : List Packet) → option_map number_of (find is_aged ps) ≡ Some n → length (without_aged ps) < length ps
left_shorter n [] is = absurd (cc (is))
left_shorter n (p ∷ ps) is = by (lives_on p) is (λ rest. left_shorter n ps rest) where
  by : (b : Bool) → option_map number_of (cond (not b) (Some p) (find is_aged ps)) ≡ Some n → (option_map number_of (find is_aged ps) ≡ Some n → length (without_aged ps) < length ps)
      → length (cond b (p ∷ without_aged ps) ps) < length (p ∷ ps)
  by true is rest = let less = rest is in omega (arith, less)
  by false is rest = omega arith

-- one fewer is under way
pub age_shrinks : (old mid now : NetLists) (n : ℕ) → Some n ≡ option_map number_of (find is_aged (network_seen old).under_way) → without_number n (network_seen old).under_way
    ≡ without_aged (network_seen old).under_way
    → network_seen mid ≡ without_packet n (network_seen old) → network_seen now ≡ network_seen mid → length (network_seen now).under_way < length (network_seen old).under_way
unfolding without_packet
age_shrinks old mid now n is left taken kept =
    let less : length (without_aged (network_seen old).under_way) < length (network_seen old).under_way = left_shorter n (network_seen old).under_way (sym is) in
    let same : (network_seen now).under_way ≡ without_aged (network_seen old).under_way = ap (λ (s : NetworkState). s.under_way) (kept ∙ taken) ∙ left in
    subst (λ (ps : List Packet). length ps < length (network_seen old).under_way) (sym same) less

-- one more has gone, and was told
pub age_goes_on : (first old mid now : NetLists) (n : ℕ) → Some n ≡ option_map number_of (find is_aged (network_seen old).under_way) → without_number n (network_seen old).under_way
    ≡ without_aged (network_seen old).under_way
    → network_seen mid ≡ without_packet n (network_seen old) → mid.trace ≡ old.trace → network_seen now ≡ network_seen mid → now.trace ≡ mid.trace ++ Aged n ∷ []
    → with_older (network_seen old) ≡ with_older (network_seen first) → old.trace ++ aged_entries (network_seen old).under_way ≡ first.trace ++ aged_entries (network_seen first).under_way
    → (with_older (network_seen now) ≡ with_older (network_seen first)) × (now.trace ++ aged_entries (network_seen now).under_way ≡ first.trace ++ aged_entries (network_seen first).under_way)
age_goes_on first old mid now n is left taken same kept told older tells = (
  ap with_older (kept ∙ taken) ∙ (left_older (network_seen old) n left ∙ older),
  ap (λ (s : NetworkState). now.trace ++ aged_entries s.under_way) (kept ∙ taken)
      ∙ (ap (λ (t : List Entry). t ++ aged_entries (without_packet n (network_seen old)).under_way) (told ∙ ap (λ (t : List Entry). t ++ Aged n ∷ []) same)
      ∙ (append_assoc old.trace (Aged n ∷ []) (aged_entries (without_packet n (network_seen old)).under_way)
      ∙ (ap (λ (es : List Entry). old.trace ++ es) (sym (left_told (network_seen old) n (sym is) left)) ∙ tells))),
)

-- all have gone, and the others are older
pub age_ends : (first old now : NetLists) → find is_aged (network_seen old).under_way ≡ None → network_seen now ≡ with_older (network_seen old) → now.trace ≡ old.trace
    → with_older (network_seen old) ≡ with_older (network_seen first) → old.trace ++ aged_entries (network_seen old).under_way ≡ first.trace ++ aged_entries (network_seen first).under_way
    → HasStepped first now (ageing (network_seen first))
age_ends first old now none counted same older tells = record {
  state = counted ∙ older;
  told = same ∙ (sym (append-nil old.trace) ∙ (ap (λ (es : List Entry). old.trace ++ es) (sym (none_told (network_seen old).under_way none)) ∙ tells));
}

pub ruleset age_steps = (none_aged, age_shrinks, age_goes_on, age_ends)
