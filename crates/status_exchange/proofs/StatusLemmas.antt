-- An edge at work for one peer.
use Rattle.std.proofs.Common.{◌≡◌, ◌<◌, ◌≤◌, ◌+◌, ◌==◌, ◌++◌, ◌∙◌, ℕ, zero, suc, Bool, true, false, List, [], ◌∷◌, Option, Some, None, is_some, if◌then◌else◌, refl, sym, ap, arith, append-nil, inl, inr}
use Rattle.std.proofs.lemmas.Bool.{cases_Bool, eqb-true, true≢false, false≢true}
use Rattle.std.proofs.lemmas.Bool.Decides.{nat_tests}
use Rattle.net_values.proofs.NumberLemmas.{same_number as is_same}
use Rattle.pw_tlvs.specs.declared.pw_status.PwStatus.{PwStatus}
use Rattle.pw_messages.specs.Sender.{following}
use Rattle.status_exchange.specs.declared.wish.Wish.{Wish}
use Rattle.status_exchange.specs.Exchange.{EdgeStatuses, StatusWork, StatusMessage, Wiring, put_at_place, exchange_hears, exchange_learns, silent, exchange_tells, tells_as, exchange_tells_from}
use Rattle.status_exchange.specs.Line.{status_answer}
use Rattle.status_exchange.specs.Wish.{becomes, is_status_told}
use Rattle.status_exchange.specs.Laws.{of_wire}

pub at_same : {A : Type 0} (place : ℕ) (value : A) (f : ℕ → A) → put_at_place place value f place ≡ value
at_same place value f = rw (is_same place) refl

pub at_other : {A : Type 0} (place k : ℕ) (value : A) (f : ℕ → A) → (k == place) ≡ false → put_at_place place value f k ≡ f k
at_other place k value f away = rw away refl

-- ---- of what is told, that of one wire

pub of_append : (wire : ℕ) (ts us : List StatusMessage) → of_wire wire (ts ++ us) ≡ of_wire wire ts ++ of_wire wire us
of_append wire [] us = refl
of_append wire (t ∷ ts) us = by (t.wire == wire) (of_append wire ts us)
  where
    by : (b : Bool) → of_wire wire (ts ++ us) ≡ of_wire wire ts ++ of_wire wire us
        → (if b then t.wish ∷ of_wire wire (ts ++ us) else of_wire wire (ts ++ us)) ≡ (if b then t.wish ∷ of_wire wire ts else of_wire wire ts) ++ of_wire wire us
    by true same = ap (λ (l : List Wish). t.wish ∷ l) same
    by false same = same

-- all of them are of wires that pass a test
abbrev pub AllTold : (ℕ → Bool) → List StatusMessage → Type 0
AllTold test [] = Unit {0}
AllTold test (t ∷ ts) = (test t.wire ≡ true) × AllTold test ts

pub told_append : (test : ℕ → Bool) (ts us : List StatusMessage) → AllTold test ts → AllTold test us → AllTold test (ts ++ us)
told_append test [] us one two = two
told_append test (t ∷ ts) us one two = (one.0, told_append test ts us one.1 two)

-- ---- one wire is told

-- what an edge at work keeps: what it calls its wires and knows of them, and to which other peers it is connected
pub record Stays (peer : ℕ) (old new : EdgeStatuses) : Type 0 where
  pub local : (k : ℕ) → new.local k ≡ old.local k
  pub remote : (k : ℕ) → new.remote k ≡ old.remote k
  pub others : (p : ℕ) → (p == peer) ≡ false → new.next p ≡ old.next p
  pub there : is_some (new.next peer) ≡ is_some (old.next peer)

pub stays : (peer : ℕ) (edge : EdgeStatuses) → Stays peer edge edge
stays peer edge = record { local = λ k. refl; remote = λ k. refl; others = λ p away. refl; there = refl }

pub stays_both : (peer : ℕ) (a b c : EdgeStatuses) → Stays peer a b → Stays peer b c → Stays peer a c
stays_both peer a b c one two = record {
  local = λ k. two.local k ∙ one.local k;
  remote = λ k. two.remote k ∙ one.remote k;
  others = λ p away. two.others p away ∙ one.others p away;
  there = two.there ∙ one.there;
}

tells_stay_as : (peer wire : ℕ) (o : Option ℕ) (t : StatusWork) → t.edge.next peer ≡ o → Stays peer t.edge (tells_as peer wire o t).edge
tells_stay_as peer wire None t is = stays peer t.edge
tells_stay_as peer wire (Some id) t is = record {
  local = λ k. refl;
  remote = λ k. refl;
  others = λ p away. at_other peer p (Some (following id)) t.edge.next away;
  there = ap is_some (at_same peer (Some (following id)) t.edge.next) ∙ sym (ap is_some is);
}

pub tells_stay : (peer wire : ℕ) (t : StatusWork) → Stays peer t.edge (exchange_tells peer wire t).edge
tells_stay peer wire t = tells_stay_as peer wire (t.edge.next peer) t refl

-- what is told: nothing where no connection stands
pub tells_none : (peer wire : ℕ) (t : StatusWork) → is_some (t.edge.next peer) ≡ false → (exchange_tells peer wire t).out ≡ t.out
tells_none peer wire t gone = by (t.edge.next peer) gone
  where
    by : (o : Option ℕ) → is_some o ≡ false → (tells_as peer wire o t).out ≡ t.out
    by None gone = refl
    by (Some id) gone = absurd (true≢false gone)

pub tells_this : (peer wire k : ℕ) (t : StatusWork) → is_some (t.edge.next peer) ≡ true → (wire == k) ≡ true → of_wire k (exchange_tells peer wire t).out ≡ of_wire k t.out ++ t.edge.local wire ∷ []
tells_this peer wire k t there is = by (t.edge.next peer) there
  where
    by : (o : Option ℕ) → is_some o ≡ true → of_wire k (tells_as peer wire o t).out ≡ of_wire k t.out ++ t.edge.local wire ∷ []
    by None there = absurd (false≢true there)
    by (Some id) there = of_append k t.out (record { wire = wire; wish = t.edge.local wire; id = id } ∷ []) ∙ ap (λ (l : List Wish). of_wire k t.out ++ l) (rw is refl)

pub tells_other : (peer wire k : ℕ) (t : StatusWork) → (wire == k) ≡ false → of_wire k (exchange_tells peer wire t).out ≡ of_wire k t.out
tells_other peer wire k t away = by (t.edge.next peer)
  where
    by : (o : Option ℕ) → of_wire k (tells_as peer wire o t).out ≡ of_wire k t.out
    by None = refl
    by (Some id) = of_append k t.out (record { wire = wire; wish = t.edge.local wire; id = id } ∷ []) ∙ (ap (λ (l : List Wish). of_wire k t.out ++ l) (rw away refl) ∙ append-nil (of_wire k t.out))

pub tells_between : (test : ℕ → Bool) (peer wire : ℕ) (t : StatusWork) → test wire ≡ true → AllTold test t.out → AllTold test (exchange_tells peer wire t).out
tells_between test peer wire t is all = by (t.edge.next peer)
  where
    by : (o : Option ℕ) → AllTold test (tells_as peer wire o t).out
    by None = all
    by (Some id) = told_append test t.out (record { wire = wire; wish = t.edge.local wire; id = id } ∷ []) all (is, tt)

-- ---- all wires with a peer are told

module _ (w : Wiring) (me peer : ℕ) where
  abbrev first_of_them : ℕ → StatusWork → StatusWork
  first_of_them wire t = if w.joins wire me peer then exchange_tells peer wire t else t

  first_stays : (wire : ℕ) (t : StatusWork) → Stays peer t.edge (first_of_them wire t).edge
  first_stays wire t = by (w.joins wire me peer)
    where
      by : (b : Bool) → Stays peer t.edge (if b then exchange_tells peer wire t else t).edge
      by true = tells_stay peer wire t
      by false = stays peer t.edge

  pub all_stay : (wire n : ℕ) (t : StatusWork) → Stays peer t.edge (exchange_tells_from w me peer wire n t).edge
  all_stay wire zero t = stays peer t.edge
  all_stay wire (suc n) t = stays_both peer t.edge (first_of_them wire t).edge (exchange_tells_from w me peer (wire + 1) n (first_of_them wire t)).edge (first_stays wire t)
      (all_stay (wire + 1) n (first_of_them wire t))

  first_other : (wire k : ℕ) (t : StatusWork) → (wire == k) ≡ false → of_wire k (first_of_them wire t).out ≡ of_wire k t.out
  first_other wire k t away = by (w.joins wire me peer)
    where
      by : (b : Bool) → of_wire k (if b then exchange_tells peer wire t else t).out ≡ of_wire k t.out
      by true = tells_other peer wire k t away
      by false = refl

  behind : (wire n k : ℕ) (t : StatusWork) → k < wire → of_wire k (exchange_tells_from w me peer wire n t).out ≡ of_wire k t.out
  behind wire zero k t less = refl
  behind wire (suc n) k t less = behind (wire + 1) n k (first_of_them wire t) (omega (arith, less)) ∙ first_other wire k t (grind (arith, nat_tests, less))

  -- each of them once
  pub all_told : (wire n k : ℕ) (t : StatusWork) → is_some (t.edge.next peer) ≡ true → w.joins k me peer ≡ true → wire ≤ k → k < wire + n
      → of_wire k (exchange_tells_from w me peer wire n t).out ≡ of_wire k t.out ++ t.edge.local k ∷ []
  all_told wire zero k t there is least most = absurd (omega (arith, least, most))
  all_told wire (suc n) k t there is least most = elim (cases_Bool (wire == k)) [
    | inl same ↦
        let at : wire ≡ k = eqb-true wire k same in
        let now : of_wire k (first_of_them wire t).out ≡ of_wire k t.out ++ t.edge.local k ∷ [] = rw (at, is) (tells_this peer k k t there (is_same k)) in
        behind (wire + 1) n k (first_of_them wire t) (omega (arith, at)) ∙ now
    | inr away ↦
        let next : of_wire k (exchange_tells_from w me peer (wire + 1) n (first_of_them wire t)).out ≡ of_wire k (first_of_them wire t).out ++ (first_of_them wire t).edge.local k ∷ [] =
        all_told (wire + 1) n k (first_of_them wire t) ((first_stays wire t).there ∙ there) is (grind (arith, nat_tests, least, away)) (omega (arith, most)) in
        next ∙ rw (first_other wire k t away, (first_stays wire t).local k) refl
  ]

  first_between : (wire : ℕ) (t : StatusWork) → AllTold (λ k. w.joins k me peer) t.out → AllTold (λ k. w.joins k me peer) (first_of_them wire t).out
  first_between wire t all = by (w.joins wire me peer) refl
    where
      by : (b : Bool) → w.joins wire me peer ≡ b → AllTold (λ k. w.joins k me peer) (if b then exchange_tells peer wire t else t).out
      by true is = tells_between (λ (k : ℕ). w.joins k me peer) peer wire t is all
      by false is = all

  pub all_between : (wire n : ℕ) (t : StatusWork) → AllTold (λ k. w.joins k me peer) t.out → AllTold (λ k. w.joins k me peer) (exchange_tells_from w me peer wire n t).out
  all_between wire zero t all = all
  all_between wire (suc n) t all = all_between (wire + 1) n (first_of_them wire t) (first_between wire t all)

-- ---- a status is heard

pub hears_stay : (peer wire : ℕ) (status : PwStatus) (edge : EdgeStatuses) → Stays peer (exchange_learns wire status edge) (exchange_hears peer wire status edge).edge
hears_stay peer wire status edge = by (is_status_told status (edge.local wire))
  where
    by : (b : Bool) → Stays peer (exchange_learns wire status edge) (if b then exchange_tells peer wire (silent (exchange_learns wire status edge)) else silent (exchange_learns wire status edge)).edge
    by true = tells_stay peer wire (silent (exchange_learns wire status edge))
    by false = stays peer (exchange_learns wire status edge)

pub hears_this : (peer wire k : ℕ) (status : PwStatus) (edge : EdgeStatuses) → is_some (edge.next peer) ≡ true → (wire == k) ≡ true → of_wire k (exchange_hears peer wire status edge).out
    ≡ status_answer status (edge.local wire)
hears_this peer wire k status edge there is = by (is_status_told status (edge.local wire))
  where
    by : (b : Bool) → of_wire k (if b then exchange_tells peer wire (silent (exchange_learns wire status edge)) else silent (exchange_learns wire status edge)).out ≡ (if b then becomes status (edge.local wire) ∷ [] else [])
    by true = tells_this peer wire k (silent (exchange_learns wire status edge)) there is ∙ ap (λ (v : Wish). v ∷ []) (at_same wire (becomes status (edge.local wire)) edge.local)
    by false = refl

pub hears_other : (peer wire k : ℕ) (status : PwStatus) (edge : EdgeStatuses) → (wire == k) ≡ false → of_wire k (exchange_hears peer wire status edge).out ≡ []
hears_other peer wire k status edge away = by (is_status_told status (edge.local wire))
  where
    by : (b : Bool) → of_wire k (if b then exchange_tells peer wire (silent (exchange_learns wire status edge)) else silent (exchange_learns wire status edge)).out ≡ []
    by true = tells_other peer wire k (silent (exchange_learns wire status edge)) away
    by false = refl

pub hears_between : (test : ℕ → Bool) (peer wire : ℕ) (status : PwStatus) (edge : EdgeStatuses) → test wire ≡ true → AllTold test (exchange_hears peer wire status edge).out
hears_between test peer wire status edge is = by (is_status_told status (edge.local wire))
  where
    by : (b : Bool) → AllTold test (if b then exchange_tells peer wire (silent (exchange_learns wire status edge)) else silent (exchange_learns wire status edge)).out
    by true = tells_between test peer wire (silent (exchange_learns wire status edge)) is tt
    by false = tt
