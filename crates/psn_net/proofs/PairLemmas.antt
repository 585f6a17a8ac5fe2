-- The first place and the first pair that pass a test, found one after another.
use Rattle.std.proofs.Common.{◌≡◌, ◌<◌, ◌≤◌, ◌+◌, ◌-◌, ◌∙◌, ℕ, zero, suc, Bool, true, false, Option, Some, None, refl, ap, arith}
use Rattle.network_model.specs.Delivery.{first_from, first_pair, pair_or}

pub place_found : (test : ℕ → Bool) (place n : ℕ) → place < n → test place ≡ true → first_from test place (n - place) ≡ Some place
place_found test place n h t = let e : n - place ≡ suc (n - (place + 1)) = omega arith in rw (e, t) refl

pub place_more : (test : ℕ → Bool) (place n : ℕ) → place < n → test place ≡ false → first_from test place (n - place) ≡ first_from test (place + 1) (n - (place + 1))
place_more test place n h t = let e : n - place ≡ suc (n - (place + 1)) = omega arith in rw (e, t) refl

pub place_end : (test : ℕ → Bool) (place n : ℕ) → n ≤ place → first_from test place (n - place) ≡ None
place_end test place n h = let e : n - place ≡ 0 = omega arith in rw e refl

pub ruleset place_steps = (place_found, place_more, place_end)

pub pair_more : (test : ℕ → ℕ → Bool) (size place n : ℕ) → place < n → first_pair test size place (n - place)
    ≡ pair_or place (first_from (test place) 0 size) (first_pair test size (place + 1) (n - (place + 1)))
pair_more test size place n h = let e : n - place ≡ suc (n - (place + 1)) = omega arith in rw e refl

pub pair_found : (test : ℕ → ℕ → Bool) (size place n to : ℕ) → place < n → first_from (test place) 0 size ≡ Some to → first_pair test size place (n - place) ≡ Some (place, to)
pair_found test size place n to h f = pair_more test size place n h ∙ ap (λ (o : Option ℕ). pair_or place o (first_pair test size (place + 1) (n - (place + 1)))) f

pub pair_end : (test : ℕ → ℕ → Bool) (size place n : ℕ) → n ≤ place → first_pair test size place (n - place) ≡ None
pair_end test size place n h = let e : n - place ≡ 0 = omega arith in rw e refl

pub ruleset pair_steps = (pair_more, pair_found, pair_end)

-- two tests that agree below a size find the same
same_place : (a b : ℕ → Bool) (place n size : ℕ) → place + n ≤ size → ((j : ℕ) → j < size → a j ≡ b j) → first_from a place n ≡ first_from b place n
same_place a b place zero size h same = refl
same_place a b place (suc n) size h same =
    let here : a place ≡ b place = same place (omega (arith, h)) in
    let later = same_place a b (place + 1) n size (omega (arith, h)) same in
    rw (here, later) refl

pub same_pair : (a b : ℕ → ℕ → Bool) (size place n : ℕ) → place + n ≤ size → ((i j : ℕ) → i < size → j < size → a i j ≡ b i j) → first_pair a size place n ≡ first_pair b size place n
same_pair a b size place zero h same = refl
same_pair a b size place (suc n) h same =
    let here = same_place (a place) (b place) 0 size size (omega arith) (λ j below. same place j (omega (arith, h)) below) in
    let later = same_pair a b size (place + 1) n (omega (arith, h)) same in
    rw (here, later) refl
