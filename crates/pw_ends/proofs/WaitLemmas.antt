-- The numbers of the labels that ends have left: one end after another, and as the map of the ends tells them.
use Rattle.std.proofs.Common.{◌≡◌, ◌≢◌, ◌<◌, ◌≤◌, ◌+◌, ◌∙◌, ◌==◌, ℕ, zero, suc, Bool, true, false, cond, List, [], ◌∷◌, Option, Some, None, length, get_or, set, drop, map, option_map, refl, ap, sym, subst, arith}
use Rattle.std.specs.List.{AllByRecursion, find}
use Rattle.std.proofs.lemmas.Bool.Decides.{nat_tests}
use Rattle.net_values.proofs.NumberLemmas.{same_number}
use Rattle.net_values.proofs.OptionLemmas.{something}
use Rattle.net_base.specs.declared.plan.places.EdgeId.{EdgeId}
use Rattle.net_base.specs.declared.plan.places.SegKey.{SegKey}
use Rattle.net_base.specs.declared.plan.places.WireId.{WireId}
use Rattle.label_space.specs.declared.kept.Kept.{Kept}
use Rattle.label_space.specs.declared.kept.KeptState.{KeptState}
use Rattle.label_space.specs.declared.owner.Owner.{Owner}
use Rattle.label_space.specs.Kept.{kept_at}
use Rattle.label_space.specs.Labels.{LabelNumbers, freed_of, owner_of, owns}
use Rattle.label_space.proofs.LabelLemmas.{owner_of-find, unkept_owned}
use Rattle.pw_signalling.specs.End.{EndState, fresh}
use Rattle.pw_signalling.specs.Laws.{own_label}
use Rattle.pw_signalling.specs.Rows.{group_unbound, is_in_group, lost, renewed, unbound, withdrawn}
use Rattle.pw_signalling.proofs.LawLemmas.{renewed_label, withdrawn_label}
use Rattle.edge_model.specs.declared.end_place.EndPlace.{EndPlace}
use Rattle.edge_model.specs.EndPlaces.{is_at}
use Rattle.edge_model.specs.Labels.{keeps_lost, keeps_one, left_label, owner_at, unless_kept}
use Rattle.edge_model.proofs.ReleaseLemmas.{left_none}
use Rattle.pw_ends.specs.declared.end_change.EndChange.{EndChange}
use Rattle.pw_ends.specs.declared.which_ends.WhichEnds.{WhichEnds}
use Rattle.pw_ends.specs.declared.which_ends.WhichEnds.TheVariants as which
use Rattle.pw_ends.specs.Changes.{changed, changed_in, is_meant, keeps_changed, keeps_meant}
use Rattle.pw_ends.specs.Ends.{EndLists, end_in, look, no_place, place_of, seen_ends}
use Rattle.pw_ends.specs.Kept.{AreApart, AreKept, AreUntold, IsOwner, freed_one, own_of}
use Rattle.pw_ends.specs.Owned.{OwnedList}
use Rattle.pw_ends.proofs.KeptLemmas.{own_at}
use Rattle.pw_ends.proofs.SegmentLemmas.{owner_in}
use Rattle.pw_ends.proofs.SlotLemmas.{seen_at}
use Rattle.pw_ends.proofs.OwnerLemmas.{count_own}

-- ---- one end is changed

-- what an end owned waits for its neighbour
kept_freed : (place : EndPlace) (labels : LabelNumbers) (label : ℕ) → IsOwner labels.owners place (Some label) → kept_at label labels.kept ≡ None → (freed_one (Some label) labels).kept
    ≡ keeps_one (Some label) place.peer labels.kept
kept_freed place labels label owner none =
    ap (λ (r : Option Owner). (freed_of label r labels).kept) owner ∙ sym (ap (λ (r : Option KeptState). unless_kept r label place.peer labels.kept) none)

freed_kept : (place : EndPlace) (labels : LabelNumbers) (before after : Option ℕ) → ((label : ℕ) → owner_of label labels.owners ≢ None → kept_at label labels.kept ≡ None)
    → IsOwner labels.owners place before
    → (freed_one (left_label before after) labels).kept ≡ keeps_one (left_label before after) place.peer labels.kept
freed_kept place labels None after unkept owner = refl
freed_kept place labels (Some label) (Some other) unkept owner = refl
freed_kept place labels (Some label) None unkept owner = kept_freed place labels label owner (unkept label (λ none. something (owner_at place label) (sym owner ∙ by (find (owns label) labels.owners) (sym (owner_of-find label labels.owners) ∙ none)))) where
  by : (r : Option Owner) → option_map {U = SegKey × ℕ} (λ o. (o.key, o.side)) r ≡ None → r ≡ None
  by None none = refl
  by (Some o) none = absurd (something {X = SegKey × ℕ} (o.key, o.side) none)

pub kept_left : (places : List EndPlace) (ends : List EndState) (labels : LabelNumbers) (index : OwnedList) (slot : ℕ) (after : Option ℕ) → AreKept places ends labels index → slot < length places
    → (freed_one (left_label (own_of (get_or ends slot fresh)) after) labels).kept ≡ keeps_one (left_label (own_of (get_or ends slot fresh)) after) (get_or places slot no_place).peer labels.kept
kept_left places ends labels index slot after kept within =
    let short : slot < length (map own_of ends) = subst (λ (n : ℕ). slot < n) (sym (count_own ends ∙ kept.count)) within in
    let owner : IsOwner labels.owners (get_or places slot no_place) (own_of (get_or ends slot fresh)) =
    subst (IsOwner labels.owners (get_or places slot no_place)) (own_at ends slot) (owner_in labels.owners places (map own_of ends) slot kept.owners within short) in
    freed_kept (get_or places slot no_place) labels (own_of (get_or ends slot fresh)) after (λ label owned. unkept_owned labels.next label labels.owners labels.kept kept.owns.numbers.left owned) owner

-- the same of what the code has: the label before and after
pub kept_changed_at : (c : EndChange) (inside old : EndLists) (index : OwnedList) (now : List EndState) (slot : ℕ) (before after : Option ℕ)
    → AreKept inside.places inside.ends inside.labels index → slot < length inside.places → inside ≡ old → now ≡ changed_in (changed c) slot inside.ends
    → before ≡ own_of (get_or inside.ends slot fresh) → after ≡ own_of (get_or now slot fresh)
    → (freed_one (left_label before after) inside.labels).kept
    ≡ keeps_one (left_label (own_label (end_in old slot).local) (own_label (changed c (end_in old slot)).local)) (place_of old slot).peer old.labels.kept
kept_changed_at c inside old index now slot before after kept within view is first last =
    let here : end_in inside slot ≡ get_or inside.ends slot fresh = seen_at inside slot kept.apart kept.count within in
    let behind : get_or now slot fresh ≡ changed c (get_or inside.ends slot fresh) =
    ap (λ (l : List EndState). get_or l slot fresh) is ∙ set_at inside.ends slot (changed c (get_or inside.ends slot fresh)) (omega (arith, within, kept.count)) in
    let own_now : after ≡ own_of (changed c (get_or inside.ends slot fresh)) = last ∙ ap own_of behind in
    ap (λ (o : Option ℕ). (freed_one (left_label o after) inside.labels).kept) first
    ∙ (kept_left inside.places inside.ends inside.labels index slot after kept within
    ∙ (ap (λ (o : Option ℕ). keeps_one (left_label (own_of (get_or inside.ends slot fresh)) o) (place_of inside slot).peer inside.labels.kept) own_now
    ∙ (ap (λ (e : EndState). keeps_one (left_label (own_of e) (own_of (changed c e))) (place_of inside slot).peer inside.labels.kept) (sym here)
    ∙ ap (λ (l : EndLists). keeps_one (left_label (own_label (end_in l slot).local) (own_label (changed c (end_in l slot)).local)) (place_of l slot).peer l.labels.kept) view)))
  where
    set_at : (es : List EndState) (i : ℕ) (e : EndState) → i < length es → get_or (set es i e) i fresh ≡ e
    set_at [] i e less = absurd (omega (arith, less))
    set_at (x ∷ xs) zero e less = refl
    set_at (x ∷ xs) (suc i) e less = set_at xs i e (omega (arith, less))

-- ---- each end that is meant

-- a slot more is passed: its end is changed
drop_set : (ends : List EndState) (slot : ℕ) (end : EndState) → drop (slot + 1) (set ends slot end) ≡ drop (slot + 1) ends
drop_set ends slot end = let next : slot + 1 ≡ suc slot = omega arith in rw next (by ends slot) where
  by : (es : List EndState) (i : ℕ) → drop (suc i) (set es i end) ≡ drop (suc i) es
  by [] zero = refl
  by [] (suc i) = refl
  by (e ∷ es) zero = refl
  by (e ∷ es) (suc i) = by es i

one_more : (which : WhichEnds) (change : EndState → EndState) (places : List EndPlace) (ends : List EndState) (slot : ℕ) (kept : List Kept) → slot < length places → length ends ≡ length places
    → keeps_meant which change (drop slot places) (drop slot ends) kept
    ≡ keeps_meant which change (drop (slot + 1) places) (drop (slot + 1) ends)
    (cond (is_meant which (get_or places slot no_place))
    (keeps_one (left_label (own_label (get_or ends slot fresh).local) (own_label (change (get_or ends slot fresh)).local)) (get_or places slot no_place).peer kept) kept)
one_more which change places ends slot kept within count = let next : slot + 1 ≡ suc slot = omega arith in rw next (by places ends slot within count) where
  by : (ps : List EndPlace) (es : List EndState) (i : ℕ) → i < length ps → length es ≡ length ps
      → keeps_meant which change (drop i ps) (drop i es) kept
      ≡ keeps_meant which change (drop (suc i) ps) (drop (suc i) es)
      (cond (is_meant which (get_or ps i no_place)) (keeps_one (left_label (own_label (get_or es i fresh).local) (own_label (change (get_or es i fresh)).local)) (get_or ps i no_place).peer kept) kept)
  by [] es i within count = absurd (omega (arith, within))
  by (p ∷ ps) [] i within count = absurd (omega (arith, count))
  by (p ∷ ps) (e ∷ es) zero within count = refl
  by (p ∷ ps) (e ∷ es) (suc i) within count = by ps es i (omega (arith, within)) (omega (arith, count))

-- the same of the lists of an edge, before and after the slot
pub keeps_next : (which : WhichEnds) (change : EndState → EndState) (old new : EndLists) (slot : ℕ) → is_meant which (place_of old slot) ≡ true → AreApart old.places → length old.ends
    ≡ length old.places → slot < length old.places
    → new.places ≡ old.places → new.ends ≡ changed_in change slot old.ends → new.labels.kept
    ≡ keeps_one (left_label (own_label (end_in old slot).local) (own_label (change (end_in old slot)).local)) (place_of old slot).peer old.labels.kept
    → keeps_meant which change (drop (slot + 1) new.places) (drop (slot + 1) new.ends) new.labels.kept ≡ keeps_meant which change (drop slot old.places) (drop slot old.ends) old.labels.kept
keeps_next which change old new slot meant apart count within places ends kept =
    let here : end_in old slot ≡ get_or old.ends slot fresh = seen_at old slot apart count within in
    let rest : drop (slot + 1) (changed_in change slot old.ends) ≡ drop (slot + 1) old.ends = drop_set old.ends slot (change (get_or old.ends slot fresh)) in
    let left : EndState → List Kept = λ (e : EndState). keeps_one (left_label (own_label e.local) (own_label (change e).local)) (place_of old slot).peer old.labels.kept in
    sym (
    one_more which change old.places old.ends slot old.labels.kept within count
    ∙ (ap (λ (b : Bool). keeps_meant which change (drop (slot + 1) old.places) (drop (slot + 1) old.ends) (cond b (left (get_or old.ends slot fresh)) old.labels.kept)) meant
    ∙ (ap (λ (k : List Kept). keeps_meant which change (drop (slot + 1) old.places) (drop (slot + 1) old.ends) k) (sym (kept ∙ ap left here))
    ∙ (ap (λ (l : List EndState). keeps_meant which change (drop (slot + 1) old.places) l new.labels.kept) (sym (ap (drop (slot + 1)) ends ∙ rest))
    ∙ ap (λ (l : List EndPlace). keeps_meant which change (drop (slot + 1) l) (drop (slot + 1) new.ends) new.labels.kept) (sym places)))))

pub keeps_passed : (which : WhichEnds) (change : EndState → EndState) (old : EndLists) (slot : ℕ) → is_meant which (place_of old slot) ≡ false → length old.ends ≡ length old.places
    → slot < length old.places
    → keeps_meant which change (drop (slot + 1) old.places) (drop (slot + 1) old.ends) old.labels.kept ≡ keeps_meant which change (drop slot old.places) (drop slot old.ends) old.labels.kept
keeps_passed which change old slot meant count within =
    let left : List Kept = keeps_one (left_label (own_label (get_or old.ends slot fresh).local) (own_label (change (get_or old.ends slot fresh)).local)) (place_of old slot).peer old.labels.kept in
    sym (one_more which change old.places old.ends slot old.labels.kept within count
    ∙ ap (λ (b : Bool). keeps_meant which change (drop (slot + 1) old.places) (drop (slot + 1) old.ends) (cond b left old.labels.kept)) meant)

pub keeps_end : (which : WhichEnds) (change : EndState → EndState) (places : List EndPlace) (ends : List EndState) (slot : ℕ) (kept : List Kept) → length places ≤ slot
    → keeps_meant which change (drop slot places) (drop slot ends) kept ≡ kept
keeps_end which change [] ends zero kept past = refl
keeps_end which change [] ends (suc slot) kept past = refl
keeps_end which change (p ∷ ps) ends zero kept past = absurd (omega (arith, past))
keeps_end which change (p ∷ ps) [] (suc slot) kept past = none (drop slot ps) where
  none : (qs : List EndPlace) → keeps_meant which change qs [] kept ≡ kept
  none [] = refl
  none (q ∷ qs) = refl
keeps_end which change (p ∷ ps) (e ∷ es) (suc slot) kept past = keeps_end which change ps es slot kept (omega (arith, past))

pub ruleset keeps_steps = (keeps_next, keeps_passed, keeps_end)

-- ---- as the map of the ends tells it

-- what the map says of each place is its end
abbrev pub AreSeen : List EndPlace → List EndState → (ℕ → ℕ → EndState) → Type 0
AreSeen [] ends seen = Unit {0}
AreSeen (place ∷ places) [] seen = ⊥
AreSeen (place ∷ places) (end ∷ ends) seen = (seen place.wire.0 place.peer.0 ≡ end) × AreSeen places ends seen

pub are_seen : (places : List EndPlace) (ends : List EndState) → AreApart places → length ends ≡ length places → AreSeen places ends (look places ends)
are_seen [] ends apart count = tt
are_seen (p ∷ ps) [] apart count = absurd (omega (arith, count))
are_seen (p ∷ ps) (e ∷ es) apart count = (rw (same_number p.wire.0, same_number p.peer.0) refl, behind ps es apart.0 (are_seen ps es apart.1 (omega (arith, count))))
  where
    behind : (qs : List EndPlace) (fs : List EndState) → AllByRecursion (λ other. is_at other.wire.0 other.peer.0 p ≡ false) qs → AreSeen qs fs (look ps es) → AreSeen qs fs (look (p ∷ ps) (e ∷ es))
    behind [] fs away seen = tt
    behind (q ∷ qs) [] away seen = absurd seen
    behind (q ∷ qs) (f ∷ fs) away seen = (rw away.0 seen.0, behind qs fs away.1 seen.1)

keeps_beside : (peer : EdgeId) (change : EndState → EndState) (seen : ℕ → ℕ → EndState) (places : List EndPlace) (ends : List EndState) (kept : List Kept) → AreSeen places ends seen
    → keeps_meant (which.Beside peer) change places ends kept ≡ keeps_changed peer change seen places kept
keeps_beside peer change seen [] ends kept are = refl
keeps_beside peer change seen (p ∷ ps) [] kept are = absurd are
keeps_beside peer change seen (p ∷ ps) (e ∷ es) kept are =
    ap (λ (end : EndState). keeps_meant (which.Beside peer) change ps es
    (cond (p.peer.0 == peer.0) (keeps_one (left_label (own_label end.local) (own_label (change end).local)) p.peer kept) kept)) (sym are.0)
    ∙ keeps_beside peer change seen ps es (cond (p.peer.0 == peer.0)
    (keeps_one (left_label (own_label (seen p.wire.0 p.peer.0).local) (own_label (change (seen p.wire.0 p.peer.0)).local)) p.peer kept) kept) are.1

left_all : (own : Option ℕ) → left_label own None ≡ own
left_all None = refl
left_all (Some label) = refl

keeps_all : (peer : EdgeId) (seen : ℕ → ℕ → EndState) (places : List EndPlace) (kept : List Kept) → keeps_changed peer lost seen places kept ≡ keeps_lost peer seen places kept
keeps_all peer seen [] kept = refl
keeps_all peer seen (p ∷ ps) kept =
    ap (λ (own : Option ℕ). keeps_changed peer lost seen ps (cond (p.peer.0 == peer.0) (keeps_one own p.peer kept) kept)) (left_all (own_label (seen p.wire.0 p.peer.0).local))
    ∙ keeps_all peer seen ps (cond (p.peer.0 == peer.0) (keeps_one (own_label (seen p.wire.0 p.peer.0).local) p.peer kept) kept)

-- a change after which each end owns what it owned lets no number wait
pub keeps_none : (which : WhichEnds) (change : EndState → EndState) (places : List EndPlace) (ends : List EndState) (kept : List Kept)
    → ((end : EndState) → own_of (change end) ≡ own_of end) → keeps_meant which change places ends kept ≡ kept
keeps_none which change [] ends kept same = refl
keeps_none which change (p ∷ ps) [] kept same = refl
keeps_none which change (p ∷ ps) (e ∷ es) kept same =
    let none : left_label (own_of e) (own_of (change e)) ≡ None = ap (left_label (own_of e)) (same e) ∙ left_none (own_of e) in
    ap (λ (own : Option ℕ). keeps_meant which change ps es (cond (is_meant which p) (keeps_one own p.peer kept) kept)) none
    ∙ (ap (keeps_meant which change ps es) (either (is_meant which p)) ∙ keeps_none which change ps es kept same)
  where
    either : (b : Bool) → cond b kept kept ≡ kept
    either true = refl
    either false = refl

-- nothing is lost of ends of which nothing was told
lost_untold : (marks : ℕ → Bool) (peer : EdgeId) (seen : ℕ → ℕ → EndState) (places : List EndPlace) (ends : List EndState) (kept : List Kept) → AreUntold marks places ends
    → AreSeen places ends seen → marks peer.0 ≡ false → keeps_lost peer seen places kept ≡ kept
lost_untold marks peer seen [] ends kept untold are none = refl
lost_untold marks peer seen (p ∷ ps) [] kept untold are none = absurd are
lost_untold marks peer seen (p ∷ ps) (e ∷ es) kept untold are none = ap (keeps_lost peer seen ps) (by (p.peer.0 == peer.0) refl) ∙ lost_untold marks peer seen ps es kept untold.1 are.1 none
  where
    equal : (p.peer.0 == peer.0) ≡ true → p.peer.0 ≡ peer.0
    equal is = grind (arith, nat_tests)

    by : (b : Bool) → (p.peer.0 == peer.0) ≡ b → cond b (keeps_one (own_label (seen p.wire.0 p.peer.0).local) p.peer kept) kept ≡ kept
    by true here = ap (λ (end : EndState). keeps_one (own_label end.local) p.peer kept) (are.0 ∙ untold.0 (ap marks (equal here) ∙ none))
    by false away = refl

-- ---- the same of all lists of an edge

pub seen_keeps : (peer : EdgeId) (change : EndState → EndState) (lists : EndLists) (kept : List Kept) → AreApart lists.places → length lists.ends ≡ length lists.places
    → keeps_meant (which.Beside peer) change lists.places lists.ends kept ≡ keeps_changed peer change (seen_ends lists) lists.places kept
unfolding seen_ends
seen_keeps peer change lists kept apart count = keeps_beside peer change (look lists.places lists.ends) lists.places lists.ends kept (are_seen lists.places lists.ends apart count)

pub seen_loses : (peer : EdgeId) (lists : EndLists) (kept : List Kept) → AreApart lists.places → length lists.ends ≡ length lists.places
    → keeps_meant (which.Beside peer) lost lists.places lists.ends kept ≡ keeps_lost peer (seen_ends lists) lists.places kept
seen_loses peer lists kept apart count = seen_keeps peer lost lists kept apart count ∙ keeps_all peer (seen_ends lists) lists.places kept

pub seen_stays : (marks : ℕ → Bool) (peer : EdgeId) (lists : EndLists) → AreApart lists.places → AreUntold marks lists.places lists.ends → length lists.ends ≡ length lists.places
    → marks peer.0 ≡ false → (kept : List Kept) → keeps_lost peer (seen_ends lists) lists.places kept ≡ kept
unfolding seen_ends
seen_stays marks peer lists apart untold count none kept = lost_untold marks peer (look lists.places lists.ends) lists.places lists.ends kept untold (are_seen lists.places lists.ends apart count) none

-- ---- changes after which each end owns what it owned

own_withdrawn : (e : EndState) → own_of (withdrawn e) ≡ own_of e
own_withdrawn e = withdrawn_label e.local

own_renewed : (e : EndState) → own_of (renewed e) ≡ own_of e
own_renewed e = renewed_label e.local

own_unbound : (group : ℕ) (e : EndState) → own_of (group_unbound group e) ≡ own_of e
own_unbound group e = elim (is_in_group group e.remote) as (λ v. own_of (cond v (unbound None e) e) ≡ own_of e) [
  | true ↦ refl
  | false ↦ refl
]

pub withdrawn_none : (e : EndState) (peer : EdgeId) (kept : List Kept) → keeps_one (left_label (own_label e.local) (own_label (withdrawn e).local)) peer kept ≡ kept
withdrawn_none e peer kept = ap (λ (own : Option ℕ). keeps_one own peer kept) (ap (left_label (own_of e)) (own_withdrawn e) ∙ left_none (own_of e))

pub renewed_none : (wire : WireId) (places : List EndPlace) (ends : List EndState) (kept : List Kept) → keeps_meant (which.OfWire wire) renewed places ends kept ≡ kept
renewed_none wire places ends kept = keeps_none (which.OfWire wire) renewed places ends kept own_renewed

pub unbound_none : (peer : EdgeId) (group : ℕ) (seen : ℕ → ℕ → EndState) (places : List EndPlace) (kept : List Kept) → keeps_changed peer (group_unbound group) seen places kept ≡ kept
unbound_none peer group seen [] kept = refl
unbound_none peer group seen (p ∷ ps) kept =
    let none : left_label (own_of (seen p.wire.0 p.peer.0)) (own_of (group_unbound group (seen p.wire.0 p.peer.0))) ≡ None =
    ap (left_label (own_of (seen p.wire.0 p.peer.0))) (own_unbound group (seen p.wire.0 p.peer.0)) ∙ left_none (own_of (seen p.wire.0 p.peer.0)) in
    ap (λ (own : Option ℕ). keeps_changed peer (group_unbound group) seen ps (cond (p.peer.0 == peer.0) (keeps_one own p.peer kept) kept)) none
    ∙ (ap (keeps_changed peer (group_unbound group) seen ps) (either (p.peer.0 == peer.0)) ∙ unbound_none peer group seen ps kept)
  where
    either : (b : Bool) → cond b kept kept ≡ kept
    either true = refl
    either false = refl

pub ruleset none_steps = (withdrawn_none, renewed_none, unbound_none)
