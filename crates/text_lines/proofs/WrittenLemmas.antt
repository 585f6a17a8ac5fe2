-- Octets are put piece by piece.
use Rattle.std.proofs.Common.{◌≡◌, ◌≢◌, ◌≤◌, ◌<◌, ◌+◌, ◌-◌, ◌++◌, ◌∙◌, ℕ, List, [], ◌∷◌, Option, Some, None, Result, Ok, Err, length, take, drop, refl, sym, ap, subst, arith, append_assoc, length-append, length-drop}
use Rattle.std.proofs.Math.Seq.{take-add, take-append-add}
use Rattle.std.proofs.lemmas.List.{append-nil, take_all, take-append-le}
use Rattle.net_base.specs.outside.Outside.{Appends, Rose}
use Rattle.text_lines.specs.Written.{Written, WritingGoesOn, Moves, AppendsFront, IsCut, Puts, Writes}

-- what was taken goes on, piece by piece
pub appends_more : (old between new : Option (List ℕ)) (first second both : List ℕ) → first ++ second ≡ both → Appends old between first → Appends between new second → Appends old new both
appends_more None between new first second both joins p q = tt
appends_more (Some before) between new first second both joins p q =
    let next : new ≡ Some ((before ++ first) ++ second) = subst (λ (k : Option (List ℕ)). Appends k new second) p q in
    next ∙ ap Some (append_assoc before first second ∙ ap (λ (l : List ℕ). before ++ l) joins)

-- a text that is not empty is taken whole where what was taken goes on by it
pub writes_some : (old new : Option (List ℕ)) (text : List ℕ) → length text ≢ 0 → Appends old new text → Writes old new text
writes_some old new [] some appends = absurd (some refl)
writes_some old new (octet ∷ text) some appends = appends

-- a front of the rest goes on a front
pub take_front : (at count : ℕ) (text : List ℕ) → at ≤ length text → take at text ++ take count (take (length text - at) (drop at text)) ≡ take (at + count) text
take_front at count text within =
    let whole : take (length text - at) (drop at text) ≡ drop at text = take_all _ _ (omega (arith, length-drop at text)) in
    rw whole (sym (take-add at count text))

appends_none : (taken : Option (List ℕ)) → Appends taken taken []
appends_none None = tt
appends_none (Some before) = ap Some (sym (append-nil before))

-- nothing was put
pub goes_none : (w : Written) → WritingGoesOn w w []
goes_none w = record { gained = []; taken = appends_none w.taken; text = sym (append-nil w.waiting); faults = omega arith; still = λ none. (refl, refl) }

-- octets wait behind what does
pub goes_waiting : (a : Written) (waiting octets : List ℕ) → waiting ≡ a.waiting ++ octets → WritingGoesOn a (record { taken = a.taken; faults = a.faults; waiting = waiting }) octets
goes_waiting a waiting octets waits = record {
  gained = [];
  taken = appends_none a.taken;
  text = waits;
  faults = omega arith;
  still = λ none. (refl, waits ∙ (ap (λ (l : List ℕ). a.waiting ++ l) none ∙ append-nil a.waiting));
}

none_both : (first second : List ℕ) → first ++ second ≡ [] → (first ≡ []) × (second ≡ [])
none_both [] second e = (refl, e)
none_both (x ∷ first) second e = cc e

-- what the sink took of one text, and what it then took of more
joined : (p q first second gained rest : List ℕ) → gained ++ q ≡ p ++ first → rest ≡ q ++ second → gained ++ rest ≡ p ++ (first ++ second)
joined p q first second gained rest one two = rw two (sym (append_assoc gained q second) ∙ (ap (λ (l : List ℕ). l ++ second) one ∙ append_assoc p first second))

-- one text behind another one
pub goes_two : (a b c : Written) (first second : List ℕ) → WritingGoesOn a b first → WritingGoesOn b c second → WritingGoesOn a c (first ++ second)
goes_two a b c first second one two =
    let low = one.faults in
    let high = two.faults in
    record {
      gained = one.gained ++ two.gained;
      taken = appends_more a.taken b.taken c.taken one.gained two.gained (one.gained ++ two.gained) refl one.taken two.taken;
      text = append_assoc one.gained two.gained c.waiting ∙ joined a.waiting b.waiting first second one.gained (two.gained ++ c.waiting) one.text two.text;
      faults = omega arith;
      still = λ none.
          let parts = none_both first second none in
          let early = one.still parts.0 in
          let late = two.still parts.1 in
          (late.0 ∙ early.0, late.1 ∙ early.1);
    }

-- a front that lacks the end of a text lacks that of a longer one
longer_front : (old new : Option (List ℕ)) (text more : List ℕ) → AppendsFront old new text → AppendsFront old new (text ++ more)
longer_front old new text more front =
    let short = front.short in
    record {
      len = front.len;
      short = let all = length-append text more in omega arith;
      taken = subst (λ (l : List ℕ). Appends old new l) (sym (take-append-le front.len text more (omega arith))) front.taken;
    }

-- a text of which a front was taken may be longer
pub cut_first : (a b : Written) (first second : List ℕ) → IsCut a b first → IsCut a b (first ++ second)
cut_first a b first second cut = record {
  front = subst (λ (l : List ℕ). AppendsFront a.taken b.taken l) (append_assoc a.waiting first second) (longer_front a.taken b.taken (a.waiting ++ first) second cut.front);
  rose = cut.rose;
}

pub rose_later : (a b c : ℕ) → a ≤ b → Rose b c → Rose a c
rose_later a b c low rose = grind (arith, low, rose)

-- a text went on by one text, and of the next one a front was taken
pub cut_later : (a b c : Written) (first second : List ℕ) → WritingGoesOn a b first → IsCut b c second → IsCut a c (first ++ second)
cut_later a b c first second one cut =
    let all = joined a.waiting b.waiting first second one.gained (b.waiting ++ second) one.text refl in
    let len = cut.front.len in
    let short = cut.front.short in
    let taken : one.gained ++ take len (b.waiting ++ second) ≡ take (length one.gained + len) (a.waiting ++ (first ++ second)) =
    sym (take-append-add one.gained (b.waiting ++ second) len) ∙ ap (λ (l : List ℕ). take (length one.gained + len) l) all in
    record {
      front = record {
        len = length one.gained + len;
        short = let whole = length-append one.gained (b.waiting ++ second) in let same = ap length all in omega arith;
        taken = appends_more a.taken b.taken c.taken one.gained (take len (b.waiting ++ second)) _ taken one.taken cut.front.taken;
      };
      rose = rose_later a.faults b.faults c.faults one.faults cut.rose;
    }

-- one text behind another one, of which a front may have been taken
pub puts_two : {T E : Type 0} (result : Result T E) (a b c : Written) (first second : List ℕ) → WritingGoesOn a b first → Puts result b c second → Puts result a c (first ++ second)
puts_two (Ok value) a b c first second one two = goes_two a b c first second one two
puts_two (Err fault) a b c first second one two = cut_later a b c first second one two

-- what waited moved to the sink, and a front of more waits behind what still does
pub moves_goes : (a b : Written) (taken : Option (List ℕ)) (faults : ℕ) (waiting octets : List ℕ) → Moves a b → taken ≡ b.taken → faults ≡ b.faults → waiting ≡ b.waiting ++ octets → 0 < length octets
    → WritingGoesOn a (record { taken = taken; faults = faults; waiting = waiting }) octets
moves_goes a b taken faults waiting octets moves same count waits some =
    let low = moves.faults in
    record {
      gained = moves.gained;
      taken = rw same moves.taken;
      text = rw waits (sym (append_assoc moves.gained b.waiting octets) ∙ ap (λ (l : List ℕ). l ++ octets) moves.text);
      faults = omega arith;
      still = λ none. absurd (let len = ap length none in omega arith);
    }

pub writes_appends : (old new : Option (List ℕ)) (text : List ℕ) → Writes old new text → Appends old new text
writes_appends old new [] writes = rw writes (appends_none old)
writes_appends old new (octet ∷ text) writes = writes

-- all that waited was taken
pub moves_all : (a : Written) (taken : Option (List ℕ)) (faults : ℕ) (waiting : List ℕ) → Writes a.taken taken a.waiting → waiting ≡ [] → a.faults ≤ faults
    → Moves a (record { taken = taken; faults = faults; waiting = waiting })
moves_all a taken faults waiting writes none later = record {
  gained = a.waiting;
  taken = writes_appends a.taken taken a.waiting writes;
  text = rw none (append-nil a.waiting);
  faults = later;
}

pub moves_none : (a : Written) → Moves a a
moves_none a = record { gained = []; taken = appends_none a.taken; text = refl; faults = omega arith }

-- a front of what waited was taken
pub cut_waiting : (a b : Written) → AppendsFront a.taken b.taken a.waiting → Rose a.faults b.faults → IsCut a b []
cut_waiting a b front rose = record { front = subst (λ (l : List ℕ). AppendsFront a.taken b.taken l) (sym (append-nil a.waiting)) front; rose = rose }

-- a whole text was put where nothing waited, and then what waited was taken: the text was taken
pub whole_text : (a b : Written) (end : Option (List ℕ)) (text : List ℕ) → a.waiting ≡ [] → WritingGoesOn a b text → Writes b.taken end b.waiting → Writes a.taken end text
whole_text a b end [] none goes writes =
    let still = goes.still refl in
    let waits : b.waiting ≡ [] = still.1 ∙ none in
    subst (λ (l : List ℕ). Writes b.taken end l) waits writes ∙ still.0
whole_text a b end (octet ∷ text) none goes writes =
    let all : goes.gained ++ b.waiting ≡ octet ∷ text = goes.text ∙ ap (λ (l : List ℕ). l ++ octet ∷ text) none in
    appends_more a.taken b.taken end goes.gained b.waiting (octet ∷ text) all goes.taken (writes_appends b.taken end b.waiting writes)

-- a text of which a front was taken, where nothing waited before it
pub cut_text : (a b : Written) (text : List ℕ) → a.waiting ≡ [] → IsCut a b text → AppendsFront a.taken b.taken text
cut_text a b text none cut = subst (λ (l : List ℕ). AppendsFront a.taken b.taken (l ++ text)) none cut.front

-- a text is being put: what was put so far, and the rest, are the whole
pub record Putting (old now : Written) (rest whole : List ℕ) : Type 0 where
  pub front : List ℕ
  pub goes : WritingGoesOn old now front
  pub all : front ++ rest ≡ whole

pub putting_none : (w : Written) (whole : List ℕ) → Putting w w whole whole
putting_none w whole = record { front = []; goes = goes_none w; all = refl }

-- one piece of the rest was put
pub putting_more : (a b c : Written) (rest item later whole : List ℕ) → rest ≡ item ++ later → Putting a b rest whole → WritingGoesOn b c item → Putting a c later whole
putting_more a b c rest item later whole split putting goes = record {
  front = putting.front ++ item;
  goes = goes_two a b c putting.front item putting.goes goes;
  all = append_assoc putting.front item later ∙ (ap (λ (l : List ℕ). putting.front ++ l) (sym split) ∙ putting.all);
}

-- a call failed at a piece of the rest
pub putting_cut : (a b c : Written) (rest item later whole : List ℕ) → rest ≡ item ++ later → Putting a b rest whole → IsCut b c item → IsCut a c whole
putting_cut a b c rest item later whole split putting cut =
    let longer = cut_later a b c putting.front (item ++ later) putting.goes (cut_first b c item later cut) in
    subst (λ (l : List ℕ). IsCut a c l) (ap (λ (l : List ℕ). putting.front ++ l) (sym split) ∙ putting.all) longer

-- nothing is left
pub putting_all : (a b : Written) (rest whole : List ℕ) → rest ≡ [] → Putting a b rest whole → WritingGoesOn a b whole
putting_all a b rest whole none putting =
    subst (λ (l : List ℕ). WritingGoesOn a b l) (sym (append-nil putting.front) ∙ (ap (λ (l : List ℕ). putting.front ++ l) (sym none) ∙ putting.all)) putting.goes
