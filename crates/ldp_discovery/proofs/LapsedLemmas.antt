-- The adjacencies that end, found one after another.
use Rattle.std.proofs.Common.{◌≡◌, ◌≢◌, ◌<◌, ◌≤◌, ◌∙◌, ◌+◌, nat_lt, nat_eq, ℕ, zero, suc, Bool, true, false, List, [], ◌∷◌, length, get_or, set, replicate, refl, sym, ap, arith, inl, inr, if◌then◌else◌}
use Rattle.std.proofs.lemmas.Bool.{cases_Bool, eqb-true}
use Rattle.std.proofs.lemmas.Bool.Decides.{nat_tests}
use Rattle.std.proofs.lemmas.List.{get_or-set_same, get_or-set_other}
use Rattle.ldp_discovery.specs.declared.adjacency.Adjacency.{Adjacency}
use Rattle.ldp_discovery.specs.Adjacencies.{lapses}
use Rattle.ldp_discovery.specs.Live.{unknown}

pub none_lapsed : (n peer : ℕ) → get_or (replicate n false) peer false ≡ false
none_lapsed zero peer = refl
none_lapsed (suc n) zero = refl
none_lapsed (suc n) (suc peer) = none_lapsed n peer

-- those of the first so many edges
abbrev pub lapsed_below : ℕ → List Adjacency → ℕ → Bool
lapsed_below count known peer = if nat_lt peer count then lapses (get_or known peer unknown) else false

pub none_below : (known : List Adjacency) (peer : ℕ) → lapsed_below 0 known peer ≡ false
none_below known peer =
    let none : nat_lt peer 0 ≡ false = grind (arith, nat_tests) in
    rw none refl

past : (known : List Adjacency) (peer : ℕ) → length known ≤ peer → get_or known peer unknown ≡ unknown
past [] peer over = refl
past (x ∷ xs) zero over = absurd (omega (arith, over))
past (x ∷ xs) (suc peer) over = past xs peer (omega (arith, over))

pub all_below : (known : List Adjacency) (count peer : ℕ) → length known ≤ count → lapsed_below count known peer ≡ lapses (get_or known peer unknown)
all_below known count peer all = elim (cases_Bool (nat_lt peer count)) [
  | inl below ↦ rw below refl
  | inr not_below ↦
      let over : count ≤ peer = grind (arith, nat_tests, not_below) in
      rw not_below (sym (ap lapses (past known peer (omega (arith, over, all)))))
]

pub one_more : (ended : List Bool) (known : List Adjacency) (place : ℕ) (x : Adjacency) (here : Bool) → place < length ended → x ≡ get_or known place unknown → here ≡ lapses x
    → ((peer : ℕ) → get_or ended peer false ≡ lapsed_below place known peer) → (peer : ℕ) → get_or (set ended place here) peer false ≡ lapsed_below (place + 1) known peer
one_more ended known place x here within is lapsed so_far peer = elim (cases_Bool (nat_eq peer place)) [
  | inl same ↦
      let at : peer ≡ place = eqb-true peer place same in
      let below : nat_lt peer (place + 1) ≡ true = grind (arith, nat_tests, at) in
      rw below (ap (λ n. get_or (set ended place here) n false) at ∙ (get_or-set_same ended place here false within ∙ (lapsed ∙ ap lapses (is ∙ ap (λ n. get_or known n unknown) (sym at)))))
  | inr other ↦
      let apart : peer ≢ place = λ e. grind (arith, nat_tests, other, e) in
      let tests : nat_lt peer place ≡ nat_lt peer (place + 1) = grind (arith, nat_tests, other) in
      get_or-set_other ended place peer here false apart ∙ (so_far peer ∙ ap (λ (b : Bool). if b then lapses (get_or known peer unknown) else false) tests)
]

pub started : (n peer : ℕ) (known : List Adjacency) → get_or (replicate n false) peer false ≡ lapsed_below 0 known peer
started n peer known = none_lapsed n peer ∙ sym (none_below known peer)

pub ended_all : (ended : List Bool) (known : List Adjacency) (count : ℕ) → length known ≤ count → ((peer : ℕ) → get_or ended peer false ≡ lapsed_below count known peer) → (peer : ℕ)
    → get_or ended peer false ≡ lapses (get_or known peer unknown)
ended_all ended known count all so_far peer = so_far peer ∙ all_below known count peer all
