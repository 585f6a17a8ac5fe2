-- The copies of a frame among the packets under way: one is found and goes, others come, and what is due by them.
use Rattle.std.proofs.Common.{◌≡◌, ◌+◌, ◌++◌, ◌&&◌, ◌∙◌, ℕ, Bool, true, false, List, [], ◌∷◌, Some, cond, nat_eq, refl, ap, subst, inl, inr, arith}
use Rattle.std.proofs.lemmas.Bool.{cases_Bool}
use Rattle.std.specs.List.{AllByRecursion, find, list_any}
use Rattle.net_values.proofs.BoolLemmas.{second_fails, first_fails}
use Rattle.net_base.specs.declared.plan.Plan.{Plan}
use Rattle.net_base.specs.declared.plan.places.CircuitId.{CircuitId}
use Rattle.net_base.specs.declared.plan.places.ServiceId.{ServiceId}
use Rattle.network_model.specs.declared.packet.Packet.{Packet}
use Rattle.network_model.specs.State.{NetworkState, without_number}
use Rattle.network_model.specs.Window.{is_copy}
use Rattle.network_model.proofs.AbsorbLemmas.{of_origin}
use Rattle.network_model.proofs.OtherLemmas.{is_of}
use Rattle.flood_laws.specs.Copy.{copy_awaits}
use Rattle.flood_laws.proofs.CountLemmas.{awaited}

-- a packet has this number
abbrev pub has_number : ℕ → Packet → Bool
has_number number packet = nat_eq packet.number number

-- of two lists, one behind the other
pub of_origin-append : (origin : ℕ) (xs ys : List Packet) → of_origin origin (xs ++ ys) ≡ of_origin origin xs ++ of_origin origin ys
of_origin-append origin [] ys = refl
of_origin-append origin (p ∷ xs) ys = by (nat_eq p.origin origin) (of_origin-append origin xs ys) where
  by : (b : Bool) → of_origin origin (xs ++ ys) ≡ of_origin origin xs ++ of_origin origin ys
      → cond b (p ∷ of_origin origin (xs ++ ys)) (of_origin origin (xs ++ ys)) ≡ cond b (p ∷ of_origin origin xs) (of_origin origin xs) ++ of_origin origin ys
  by true rest = ap (λ (l : List Packet). p ∷ l) rest
  by false rest = rest

-- what holds of each packet holds of each copy
pub of_origin_hold : (P : Packet → Type 0) (origin : ℕ) (packets : List Packet) → AllByRecursion P packets → AllByRecursion P (of_origin origin packets)
of_origin_hold P origin [] all = tt
of_origin_hold P origin (p ∷ ps) all = by (nat_eq p.origin origin) (of_origin_hold P origin ps all.1) where
  by : (b : Bool) → AllByRecursion P (of_origin origin ps) → AllByRecursion P (cond b (p ∷ of_origin origin ps) (of_origin origin ps))
  by true rest = (all.0, rest)
  by false rest = rest

-- one copy goes: what holds of each holds of it and of the others, and what is due by all is due by it and by the others
pub record CopyGoes (P : Packet → Type 0) (plan : Plan) (calm : NetworkState) (service : ServiceId) (copies others : List Packet) (packet : Packet) : Type 0 where
  pub here : P packet
  pub rest : AllByRecursion P others
  pub due : (circuit : CircuitId) → awaited plan calm service circuit copies ≡ cond (copy_awaits plan calm service circuit packet) 1 0 + awaited plan calm service circuit others

module _ (P : Packet → Type 0) (plan : Plan) (calm : NetworkState) (service : ServiceId) (origin number : ℕ) where
  first_goes : (p packet : Packet) (copies : List Packet) → p ≡ packet → P p → AllByRecursion P copies → CopyGoes P plan calm service (p ∷ copies) copies packet
  first_goes p packet copies same here rest = subst (CopyGoes P plan calm service (p ∷ copies) copies) same (record { here = here; rest = rest; due = λ circuit. refl })

  other_stays : (p packet : Packet) (copies others : List Packet) → P p → CopyGoes P plan calm service copies others packet → CopyGoes P plan calm service (p ∷ copies) (p ∷ others) packet
  other_stays p packet copies others here goes = record { here = goes.here; rest = (here, goes.rest); due = λ circuit. omega (arith, goes.due circuit) }

  -- where one is found by its number
  pub copy_goes : (packets : List Packet) (packet : Packet) → AllByRecursion P (of_origin origin packets) → find (has_number number) packets ≡ Some packet → nat_eq packet.origin origin ≡ true
      → CopyGoes P plan calm service (of_origin origin packets) (of_origin origin (without_number number packets)) packet
  copy_goes [] packet all found same = absurd (cc (found))
  copy_goes (p ∷ ps) packet all found same = elim (cases_Bool (nat_eq p.number number)) [
    | inl here ↦
        let is : Some p ≡ Some packet = rw here at found in
        let equal : p ≡ packet = cc (is) in
        let own : nat_eq p.origin origin ≡ true = ap (λ (q : Packet). nat_eq q.origin origin) equal ∙ same in
        let each = rw own at all in
        rw (here, own) (first_goes p packet (of_origin origin ps) equal each.0 each.1)
    | inr away ↦
        let there : find (has_number number) ps ≡ Some packet = rw away at found in
        elim (cases_Bool (nat_eq p.origin origin)) [
          | inl own ↦
              let each = rw own at all in
              rw (away, own) (other_stays p packet (of_origin origin ps) (of_origin origin (without_number number ps)) each.0 (copy_goes ps packet each.1 there same))
          | inr other ↦
              let each = rw other at all in
              rw (away, other) (copy_goes ps packet each there same)
        ]
  ]

-- a packet that is no copy of the frame, or none, has the number
pub not_named : (origin number : ℕ) (packets : List Packet) → list_any (is_copy origin number) packets ≡ false → is_of origin (find (has_number number) packets) ≡ false
not_named origin number [] none = refl
not_named origin number (p ∷ ps) none =
    by (nat_eq p.number number) (nat_eq p.origin origin) refl (first_fails (is_copy origin number p) (list_any (is_copy origin number) ps) none)
    (not_named origin number ps (second_fails (is_copy origin number p) (list_any (is_copy origin number) ps) none))
  where
    by : (here own : Bool) → nat_eq p.origin origin ≡ own → own && here ≡ false → is_of origin (find (has_number number) ps) ≡ false
        → is_of origin (cond here (Some p) (find (has_number number) ps)) ≡ false
    by true true is none rest = absurd (cc (none))
    by true false is none rest = is
    by false own is none rest = rest

-- no copy is under way
pub none_of : (origin : ℕ) (packets : List Packet) → list_any (λ packet. nat_eq packet.origin origin) packets ≡ false → of_origin origin packets ≡ []
none_of origin [] none = refl
none_of origin (p ∷ ps) none =
    let here : nat_eq p.origin origin ≡ false = first_fails (nat_eq p.origin origin) (list_any (λ packet. nat_eq packet.origin origin) ps) none in
    rw here (none_of origin ps (second_fails (nat_eq p.origin origin) (list_any (λ packet. nat_eq packet.origin origin) ps) none))
