-- The laws of an end.
use Rattle.std.proofs.Common.{◌≡◌, ◌≢◌, ◌⊎◌, ◌==◌, ◌∙◌, ℕ, Bool, true, false, not, cond, List, [], ◌∷◌, Option, Some, None, refl, sym, ap, inl, inr, arith}
use Rattle.std.proofs.lemmas.Bool.{cases_Bool}
use Rattle.std.proofs.lemmas.Bool.Decides.{nat_tests}
use Rattle.pw_tlvs.specs.declared.pw_status.PwStatus.{PwStatus}
use Rattle.pw_signalling.specs.declared.binding.Binding.{Binding}
use Rattle.pw_signalling.specs.declared.told.Told.{Told}
use Rattle.net_base.specs.declared.trace.down.Down.{Down}
use Rattle.pw_signalling.specs.declared.end_role.EndRole.{EndRole}
use Rattle.pw_signalling.specs.Down.{differ, down, first_cause, mtus_differ}
use Rattle.pw_signalling.specs.End.{EndState, LocalPart, Idle, Advertised, Withdrawing}
use Rattle.pw_signalling.specs.Laws.{EndCall, Advertise, Tell, Withdraw, Renew, OnMapping, OnWithdraw, OnRelease, OnStatus, OnGroupWithdraw, OnGroupStatus, Lost, end_after, run_end, mapping_after, last_mapping, IsOfMapping, HoldsOnly, HoldsTheLastMapping, own_label, GivesLabel, KeepsItsLabel, clears_mark, Declines, KeepsItsMark, MtusAgree, BothAgree, ForwardsWhereBothAgree}
use Rattle.pw_signalling.specs.Rows.{advertise_part, is_in_group, names, release_part, released, renew_part, status_part, tell_part, unless_named, withdraw_part}

-- ---- the remote part

itself : (binding : Binding) → IsOfMapping binding binding
itself binding = record { label = refl; told = refl }

-- what a withdrawal leaves is what was held
left : (label : Option ℕ) (mapping held : Option Binding) → HoldsOnly mapping held → HoldsOnly mapping (unless_named label held)
left label mapping None only = only
left label mapping (Some held) only = elim (names label held.label) as (λ v. HoldsOnly mapping (cond v None (Some held))) [
  | true ↦ tt
  | false ↦ only
]

-- a status changes nothing else
marked : (status : PwStatus) (mapping held : Option Binding) → HoldsOnly mapping held → HoldsOnly mapping (status_part status held)
marked status mapping None only = only
marked status None (Some held) only = only
marked status (Some mapping) (Some held) only = record { label = only.label; told = ap (λ (t : Told). record t { status = Some status }) only.told }

one_call : (last : Option Binding) (e : EndState) (call : EndCall) → HoldsOnly last e.remote → HoldsOnly (mapping_after last call) (end_after e call).remote
one_call last e (Advertise label told) only = only
one_call last e (Tell status) only = only
one_call last e Withdraw only = only
one_call last e Renew only = only
one_call last e (OnMapping binding) only = itself binding
one_call last e (OnWithdraw label) only = left label last e.remote only
one_call last e (OnRelease label) only = only
one_call last e (OnStatus status) only = marked status last e.remote only
one_call last e (OnGroupWithdraw group) only = elim (cases_Bool (is_in_group group e.remote)) [
  | inl of_it ↦ rw of_it (left None last e.remote only)
  | inr other ↦ rw other only
]
one_call last e (OnGroupStatus group status) only = elim (cases_Bool (is_in_group group e.remote)) [
  | inl of_it ↦ rw of_it (marked status last e.remote only)
  | inr other ↦ rw other only
]
one_call last e Lost only = tt

all_calls : (last : Option Binding) (e : EndState) (calls : List EndCall) → HoldsOnly last e.remote → HoldsOnly (last_mapping last calls) (run_end e calls).remote
all_calls last e [] only = only
all_calls last e (call ∷ calls) only = all_calls (mapping_after last call) (end_after e call) calls (one_call last e call only)

same_binding : (held : Option Binding) → HoldsOnly held held
same_binding None = tt
same_binding (Some held) = itself held

pub holds_the_last_mapping : HoldsTheLastMapping
holds_the_last_mapping e calls = all_calls e.remote e calls (same_binding e.remote)

-- ---- the local part

other_label : (own label : ℕ) → Some own ≢ Some label → (label == own) ≡ false
other_label own label differ = elim (cases_Bool (label == own)) [
  | inl same ↦ absurd (differ (ap Some (let equal : own ≡ label = grind (arith, nat_tests) in equal)))
  | inr other ↦ other
]

kept_part : (local : LocalPart) (label : ℕ) → own_label local ≢ Some label → release_part (Some label) local ≡ local
kept_part (Idle declined) label other = refl
kept_part (Advertised own told) label other = rw (other_label own label other) refl
kept_part (Withdrawing own) label other = rw (other_label own label other) refl

release : (e : EndState) (label : ℕ) → own_label e.local ≢ Some label → released (Some label) e ≡ e
release e label other = ap (λ (l : LocalPart). record { local = l; remote = e.remote }) (kept_part e.local label other)

-- the label after each change of the local part
keeps_released : (given : Option ℕ) (local : LocalPart) (label : ℕ) → own_label local ≡ Some label → (own_label (release_part given local) ≡ Some label) ⊎ (own_label (release_part given local) ≡ None)
keeps_released given (Idle declined) label own = inr refl
keeps_released given (Advertised given_label told) label own =
    elim (names given given_label) as (λ v. (own_label (cond v (Idle true) (Advertised given_label told)) ≡ Some label) ⊎ (own_label (cond v (Idle true) (Advertised given_label told)) ≡ None)) [
      | true ↦ inr refl
      | false ↦ inl own
    ]
keeps_released given (Withdrawing given_label) label own =
    elim (names given given_label) as (λ v. (own_label (cond v (Idle false) (Withdrawing given_label)) ≡ Some label) ⊎ (own_label (cond v (Idle false) (Withdrawing given_label)) ≡ None)) [
      | true ↦ inr refl
      | false ↦ inl own
    ]

advertised_label : (given : ℕ) (told : Told) (local : LocalPart) (label : ℕ) → own_label local ≡ Some label → own_label (advertise_part given told local) ≡ Some label
advertised_label given told (Idle declined) label own = absurd (cc)
advertised_label given told (Advertised own_one own_told) label own = own
advertised_label given told (Withdrawing own_one) label own = own

told_label : (status : PwStatus) (local : LocalPart) → own_label (tell_part status local) ≡ own_label local
told_label status (Idle declined) = refl
told_label status (Advertised own told) = refl
told_label status (Withdrawing own) = refl

pub withdrawn_label : (local : LocalPart) → own_label (withdraw_part local) ≡ own_label local
withdrawn_label (Idle declined) = refl
withdrawn_label (Advertised own told) = refl
withdrawn_label (Withdrawing own) = refl

pub renewed_label : (local : LocalPart) → own_label (renew_part local) ≡ own_label local
renewed_label (Idle declined) = refl
renewed_label (Advertised own told) = refl
renewed_label (Withdrawing own) = refl

-- a group's call is about the remote part alone
group_local : (b : Bool) (local : LocalPart) (one other : Option Binding) → (cond {A = EndState} b (record { local = local; remote = one }) (record { local = local; remote = other })).local ≡ local
group_local true local one other = refl
group_local false local one other = refl

keeps : (e : EndState) (call : EndCall) (label : ℕ) → own_label e.local ≡ Some label → (own_label (end_after e call).local ≡ Some label) ⊎ (own_label (end_after e call).local ≡ None)
keeps e (Advertise given told) label own = inl (advertised_label given told e.local label own)
keeps e (Tell status) label own = inl (told_label status e.local ∙ own)
keeps e Withdraw label own = inl (withdrawn_label e.local ∙ own)
keeps e Renew label own = inl (renewed_label e.local ∙ own)
keeps e (OnMapping binding) label own = inl own
keeps e (OnWithdraw given) label own = inl own
keeps e (OnRelease given) label own = keeps_released given e.local label own
keeps e (OnStatus status) label own = inl own
keeps e (OnGroupWithdraw group) label own = inl (ap own_label (group_local (is_in_group group e.remote) e.local (unless_named None e.remote) e.remote) ∙ own)
keeps e (OnGroupStatus group status) label own = inl (ap own_label (group_local (is_in_group group e.remote) e.local (status_part status e.remote) e.remote) ∙ own)
keeps e Lost label own = inr refl

-- an end without a label gets one by an advertisement alone
no_label : (label : ℕ) (given : Option ℕ) → given ≡ None → given ≡ Some label → ⊥
no_label label given none some = cc

released_none : (given : Option ℕ) (local : LocalPart) → own_label local ≡ None → own_label (release_part given local) ≡ None
released_none given (Idle declined) none = refl
released_none given (Advertised own told) none = absurd (cc)
released_none given (Withdrawing own) none = absurd (cc)

given_label : (given label : ℕ) (told : Told) (local : LocalPart) → own_label local ≡ None → own_label (advertise_part given told local) ≡ Some label → given ≡ label
given_label given label told (Idle declined) none some = cc
given_label given label told (Advertised own own_told) none some = absurd (cc)
given_label given label told (Withdrawing own) none some = absurd (cc)

gets : (e : EndState) (call : EndCall) (label : ℕ) → own_label e.local ≡ None → own_label (end_after e call).local ≡ Some label → GivesLabel call label
gets e (Advertise given told) label none some = given_label given label told e.local none some
gets e (Tell status) label none some = no_label label _ (told_label status e.local ∙ none) some
gets e Withdraw label none some = no_label label _ (withdrawn_label e.local ∙ none) some
gets e Renew label none some = no_label label _ (renewed_label e.local ∙ none) some
gets e (OnMapping binding) label none some = no_label label _ none some
gets e (OnWithdraw given) label none some = no_label label _ none some
gets e (OnRelease given) label none some = no_label label _ (released_none given e.local none) some
gets e (OnStatus status) label none some = no_label label _ none some
gets e (OnGroupWithdraw group) label none some = no_label label _ (ap own_label (group_local (is_in_group group e.remote) e.local (unless_named None e.remote) e.remote) ∙ none) some
gets e (OnGroupStatus group status) label none some = no_label label _ (ap own_label (group_local (is_in_group group e.remote) e.local (status_part status e.remote) e.remote) ∙ none) some
gets e Lost label none some = no_label label None refl some

pub keeps_its_label : KeepsItsLabel
keeps_its_label = record { release = release; keeps = keeps; gets = gets }

-- ---- the mark of a declined end

marked_idle : (local : LocalPart) (change : LocalPart → LocalPart) → local ≡ Idle true → change (Idle true) ≡ Idle true → change local ≡ Idle true
marked_idle local change marked same = ap change marked ∙ same

stays : (e : EndState) (call : EndCall) → e.local ≡ Idle true → clears_mark call ≡ false → (end_after e call).local ≡ Idle true
stays e (Advertise given told) marked other = absurd (cc)
stays e (Tell status) marked other = marked_idle e.local (tell_part status) marked refl
stays e Withdraw marked other = marked_idle e.local withdraw_part marked refl
stays e Renew marked other = absurd (cc)
stays e (OnMapping binding) marked other = marked
stays e (OnWithdraw given) marked other = marked
stays e (OnRelease given) marked other = marked_idle e.local (release_part given) marked refl
stays e (OnStatus status) marked other = marked
stays e (OnGroupWithdraw group) marked other = group_local (is_in_group group e.remote) e.local (unless_named None e.remote) e.remote ∙ marked
stays e (OnGroupStatus group status) marked other = group_local (is_in_group group e.remote) e.local (status_part status e.remote) e.remote ∙ marked
stays e Lost marked other = absurd (cc)

never_advertised : (given : ℕ) (told : Told) (local : LocalPart) → advertise_part given told local ≡ Idle true → ⊥
never_advertised given told (Idle declined) marked = cc
never_advertised given told (Advertised own own_told) marked = cc
never_advertised given told (Withdrawing own) marked = cc

never_renewed : (local : LocalPart) → renew_part local ≡ Idle true → ⊥
never_renewed (Idle declined) marked = cc
never_renewed (Advertised own told) marked = cc
never_renewed (Withdrawing own) marked = cc

goes : (e : EndState) (call : EndCall) → clears_mark call ≡ true → (end_after e call).local ≢ Idle true
goes e (Advertise given told) clear = never_advertised given told e.local
goes e (Tell status) clear = absurd (cc)
goes e Withdraw clear = absurd (cc)
goes e Renew clear = never_renewed e.local
goes e (OnMapping binding) clear = absurd (cc)
goes e (OnWithdraw given) clear = absurd (cc)
goes e (OnRelease given) clear = absurd (cc)
goes e (OnStatus status) clear = absurd (cc)
goes e (OnGroupWithdraw group) clear = absurd (cc)
goes e (OnGroupStatus group status) clear = absurd (cc)
goes e Lost clear = λ marked. cc

told_mark : (status : PwStatus) (local : LocalPart) → tell_part status local ≡ Idle true → local ≡ Idle true
told_mark status (Idle declined) marked = marked
told_mark status (Advertised own told) marked = absurd (cc)
told_mark status (Withdrawing own) marked = absurd (cc)

withdrawn_mark : (local : LocalPart) → withdraw_part local ≡ Idle true → local ≡ Idle true
withdrawn_mark (Idle declined) marked = marked
withdrawn_mark (Advertised own told) marked = absurd (cc)
withdrawn_mark (Withdrawing own) marked = absurd (cc)

declines : (given : Option ℕ) (local : LocalPart) → local ≢ Idle true → release_part given local ≡ Idle true → (own : ℕ) × (told : Told) × (local ≡ Advertised own told)
declines given (Idle declined) other marked = absurd (other marked)
declines given (Advertised own told) other marked = (own, told, refl)
declines given (Withdrawing own) other marked = absurd (elim (names given own) as (λ v. cond v (Idle false) (Withdrawing own) ≡ Idle true → ⊥) [
  | true ↦ λ is. cc
  | false ↦ λ is. cc
] marked)

comes : (e : EndState) (call : EndCall) → e.local ≢ Idle true → (end_after e call).local ≡ Idle true → Declines e call
comes e (Advertise given told) other marked = absurd (never_advertised given told e.local marked)
comes e (Tell status) other marked = absurd (other (told_mark status e.local marked))
comes e Withdraw other marked = absurd (other (withdrawn_mark e.local marked))
comes e Renew other marked = absurd (never_renewed e.local marked)
comes e (OnMapping binding) other marked = absurd (other marked)
comes e (OnWithdraw given) other marked = absurd (other marked)
comes e (OnRelease given) other marked = declines given e.local other marked
comes e (OnStatus status) other marked = absurd (other marked)
comes e (OnGroupWithdraw group) other marked = absurd (other (sym (group_local (is_in_group group e.remote) e.local (unless_named None e.remote) e.remote) ∙ marked))
comes e (OnGroupStatus group status) other marked = absurd (other (sym (group_local (is_in_group group e.remote) e.local (status_part status e.remote) e.remote) ∙ marked))
comes e Lost other marked = absurd (cc)

pub keeps_its_mark : KeepsItsMark
keeps_its_mark = record { stays = stays; goes = goes; comes = comes }

-- ---- forwarding

same_bits : (a b : Bool) → differ a b ≡ false → a ≡ b
same_bits true true same = refl
same_bits true false same = absurd (cc)
same_bits false true same = absurd (cc)
same_bits false false same = refl

same_numbers : (a b : ℕ) → not (a == b) ≡ false → a ≡ b
same_numbers a b same = grind (arith, nat_tests)

same_mtus : (own far : Option ℕ) → mtus_differ own far ≡ false → MtusAgree own far
same_mtus None far same = tt
same_mtus (Some own) None same = tt
same_mtus (Some own) (Some far) same = same_numbers own far same

-- of a test that comes before others
passed : (test : Bool) (why : Down) (rest : Option Down) → cond test (Some why) rest ≡ None → (test ≡ false) × (rest ≡ None)
passed true why rest none = absurd (cc)
passed false why rest none = (refl, none)

agree : (role : EndRole) (bits : ℕ) (own far : Told) → first_cause role bits (Some own) (Some far) ≡ None → (own.c ≡ far.c) × (own.kind ≡ far.kind) × MtusAgree own.mtu far.mtu
agree role bits own far none =
    let first = passed (differ own.c far.c) _ _ none in
    let second = passed (not (own.kind == far.kind)) _ _ first.1 in
    let third = passed (mtus_differ own.mtu far.mtu) _ _ second.1 in
    (same_bits own.c far.c first.0, same_numbers own.kind far.kind second.0, same_mtus own.mtu far.mtu third.0)

both_agree : (role : EndRole) (bits : ℕ) (local : LocalPart) (remote : Option Binding) → down role bits (record { local = local; remote = remote }) ≡ None
    → BothAgree (record { local = local; remote = remote })
unfolding down
both_agree role bits (Idle declined) remote none = absurd (cc)
both_agree role bits (Withdrawing own) remote none = absurd (cc)
both_agree role bits (Advertised label own) None none = absurd (cc)
both_agree role bits (Advertised label own) (Some binding) none =
    let same = agree role bits own binding.told none in
    record { label = label; own = own; binding = binding; advertises = refl; bound = refl; c_bits = same.0; kinds = same.1; mtus = same.2 }

pub forwards_where_both_agree : ForwardsWhereBothAgree
forwards_where_both_agree role bits e none = both_agree role bits e.local e.remote none
