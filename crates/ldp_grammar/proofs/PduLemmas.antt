-- PDUs: at most one is spelled, one fault at most is first, and never both.
use Rattle.std.proofs.Common.{◌≡◌, ◌≤◌, ◌<◌, ◌+◌, ◌-◌, ◌++◌, ◌⊎◌, inl, inr, ℕ, true, false, List, [], ◌∷◌, length, get_or, nat_lt, flat_map, refl, sym, ap, subst, ◌∙◌, length-append, arith}
use Rattle.std.specs.Prelude.{if◌then◌else◌}
use Rattle.std.proofs.lemmas.Bool.Decides.{nat_tests}
use Rattle.net_values.specs.declared.field.Field.{Field}
use Rattle.net_values.proofs.RowLemmas.{same_front}
use Rattle.ldp_grammar.specs.declared.fault.Fault.{Fault}
use Rattle.ldp_grammar.specs.declared.cause.Cause.{Cause}
use Rattle.ldp_grammar.specs.declared.cause.Cause.TheVariants as cause
use Rattle.ldp_grammar.specs.declared.pdu.Pdu.{Pdu}
use Rattle.ldp_grammar.specs.Octets.{two, two_at}
use Rattle.ldp_grammar.specs.Spells.{spell_message, IsFramed, Spells}
use Rattle.ldp_grammar.specs.FirstFault.{IsFirst, FirstFault, Names, HeaderFault, IsInMessages, Precedes, NamesMessages, moved, rank}
use Rattle.pw_tlvs.specs.Faults.{field_rank}
use Rattle.pw_tlvs.proofs.FaultLemmas.{field_again, field_at, field_rank_below}
use Rattle.ldp_grammar.proofs.ItemLemmas.{moved_after}
use Rattle.ldp_grammar.proofs.MessageLemmas.{messages_faultless}

-- what a framed PDU begins with
version_of : (bytes sender body : List ℕ) (max : ℕ) → IsFramed bytes max sender body → two_at 0 bytes ≡ 1
version_of bytes sender body max f = ap (two_at 0) f.split

pub length_of : (bytes sender body : List ℕ) (max : ℕ) → max ≤ 4096 → IsFramed bytes max sender body → two_at 2 bytes ≡ 6 + length body
length_of bytes sender body max small f = ap (two_at 2) f.split ∙ omega (arith, f.most)

pub count_of : (bytes sender body : List ℕ) (max : ℕ) → IsFramed bytes max sender body → length bytes ≡ 10 + length body
count_of bytes sender body max f = ap length f.split ∙ omega (arith, length-append sender body, f.identifier)

no_header_fault : (bytes sender body : List ℕ) (max : ℕ) → max ≤ 4096 → IsFramed bytes max sender body → (c : Cause) (place : ℕ) → HeaderFault bytes max c place → ⊥
no_header_fault bytes sender body max small f cause.Version place (e, some, other) = other (version_of bytes sender body max f)
no_header_fault bytes sender body max small f cause.PduLength place (e, inl few) = omega (arith, few, count_of bytes sender body max f)
no_header_fault bytes sender body max small f cause.PduLength place (e, inr (inl less)) = omega (arith, less, length_of bytes sender body max small f, f.least)
no_header_fault bytes sender body max small f cause.PduLength place (e, inr (inr (inl more))) = omega (arith, more, length_of bytes sender body max small f, f.most)
no_header_fault bytes sender body max small f cause.PduLength place (e, inr (inr (inr differs))) = differs (omega (arith, count_of bytes sender body max f, length_of bytes sender body max small f))
no_header_fault bytes sender body max small f cause.MessageLength place names = names
no_header_fault bytes sender body max small f cause.TlvLength place names = names
no_header_fault bytes sender body max small f (cause.TlvValue field) place names = names
no_header_fault bytes sender body max small f (cause.Repeated field) place names = names

pub record SameFrame (sender other body rest : List ℕ) : Type 0 where
  pub one_sender : sender ≡ other
  pub one_body : body ≡ rest

pub same_frame : (bytes sender other body rest : List ℕ) (max : ℕ) → IsFramed bytes max sender body → IsFramed bytes max other rest → SameFrame sender other body rest
same_frame bytes sender other body rest max f g =
    let e : two 1 ++ two (6 + length body) ++ sender ++ body ≡ two 1 ++ two (6 + length rest) ++ other ++ rest = sym f.split ∙ g.split in
    let tail : sender ++ body ≡ other ++ rest = cc (e) in
    let both = same_front sender other body rest (f.identifier ∙ sym g.identifier) tail in
    record { one_sender = both.0; one_body = both.1 }

inside_first : (bytes sender body : List ℕ) (max : ℕ) (f : Fault) → max ≤ 4096 → IsFramed bytes max sender body → IsFirst (NamesMessages body) f → (g : Fault)
    → HeaderFault bytes max g.cause g.place ⊎ IsInMessages bytes max g → Precedes (moved 10 f) g
inside_first bytes sender body max f small framed first g (inl header) = absurd (no_header_fault bytes sender body max small framed g.cause g.place header)
inside_first bytes sender body max f small framed first g (inr w) =
    let same : body ≡ w.body = (same_frame bytes sender w.sender body w.body max framed w.framed).one_body in
    subst (Precedes (moved 10 f)) (sym w.is) (moved_after 10 f w.here (first.first w.here (subst (λ (l : List ℕ). NamesMessages l w.here) (sym same) w.names)))

-- the first fault of the messages is the first of a PDU with a right header
pub first_inside : (bytes sender body : List ℕ) (max : ℕ) (f : Fault) → max ≤ 4096 → IsFramed bytes max sender body → IsFirst (NamesMessages body) f → FirstFault bytes max (moved 10 f)
first_inside bytes sender body max f small framed first = record {
  named = inr (record { sender = sender; body = body; framed = framed; here = f; names = first.named; is = refl });
  first = λ g names. inside_first bytes sender body max f small framed first g names;
}

-- no fault is named where a PDU is spelled
named_nowhere : (bytes : List ℕ) (max : ℕ) (pdu : Pdu) → max ≤ 4096 → Spells bytes max pdu → (f : Fault) → HeaderFault bytes max f.cause f.place ⊎ IsInMessages bytes max f → ⊥
named_nowhere bytes max pdu small s f (inl header) = no_header_fault bytes _ _ max small s.framed f.cause f.place header
named_nowhere bytes max pdu small s f (inr w) =
    let same : flat_map spell_message s.spellings ≡ w.body =
    (same_frame bytes (pdu.id.router.0 ++ two pdu.id.space) w.sender (flat_map spell_message s.spellings) w.body max s.framed w.framed).one_body in
    messages_faultless s.spellings pdu.messages s.fit s.stand w.here (subst (λ (l : List ℕ). NamesMessages l w.here) (sym same) w.names)

pub never_both : (bytes : List ℕ) (max : ℕ) (pdu : Pdu) (f : Fault) → max ≤ 4096 → Spells bytes max pdu → FirstFault bytes max f → ⊥
never_both bytes max pdu f small s first = named_nowhere bytes max pdu small s f first.named

-- the cause of a rank
cause_at : ℕ → Cause
cause_at n = if nat_lt n 4 then get_or (cause.Version ∷ cause.PduLength ∷ cause.MessageLength ∷ cause.TlvLength ∷ []) n cause.Version
    else if nat_lt n 32 then cause.TlvValue (field_at (n - 4)) else cause.Repeated (field_at (n - 32))

cause_of_value : (n r : ℕ) → n ≡ 4 + r → r < 28 → cause_at n ≡ cause.TlvValue (field_at r)
unfolding cause_at
cause_of_value n r is below =
    let past : nat_lt n 4 ≡ false = grind (arith, nat_tests) in
    let under : nat_lt n 32 ≡ true = grind (arith, nat_tests) in
    let rest : n - 4 ≡ r = omega (arith, is) in
    rw (past, under, rest) refl

cause_of_repeated : (n r : ℕ) → n ≡ 32 + r → cause_at n ≡ cause.Repeated (field_at r)
unfolding cause_at
cause_of_repeated n r is =
    let past : nat_lt n 4 ≡ false = grind (arith, nat_tests) in
    let over : nat_lt n 32 ≡ false = grind (arith, nat_tests) in
    let rest : n - 32 ≡ r = omega (arith, is) in
    rw (past, over, rest) refl

value_again : (f : Field) → cause_at (4 + field_rank f) ≡ cause.TlvValue f
value_again f = cause_of_value (4 + field_rank f) (field_rank f) refl (omega (arith, field_rank_below f)) ∙ ap (λ (g : Field). cause.TlvValue g) (field_again f)

repeated_again : (f : Field) → cause_at (32 + field_rank f) ≡ cause.Repeated f
repeated_again f = cause_of_repeated (32 + field_rank f) (field_rank f) refl ∙ ap (λ (g : Field). cause.Repeated g) (field_again f)

cause_again : (c : Cause) → cause_at (rank c) ≡ c
unfolding cause_at
cause_again cause.Version = refl
cause_again cause.PduLength = refl
cause_again cause.MessageLength = refl
cause_again cause.TlvLength = refl
cause_again (cause.TlvValue f) = value_again f
cause_again (cause.Repeated f) = repeated_again f

-- two faults of which each comes before the other are one
same_fault : (f g : Fault) → Precedes f g → Precedes g f → f ≡ g
same_fault f g (inl less) (inl more) = absurd (omega arith)
same_fault f g (inl less) (inr more) = absurd (omega (arith, more.0))
same_fault f g (inr less) (inl more) = absurd (omega (arith, less.0))
same_fault f g (inr less) (inr more) =
    let ranks : rank f.cause ≡ rank g.cause = omega (arith, less.1, more.1) in
    let causes : f.cause ≡ g.cause = sym (cause_again f.cause) ∙ (ap cause_at ranks ∙ cause_again g.cause) in
    λ i. record { place = less.0 i; cause = causes i }

-- of the faults that are named one at most comes first
pub one_first : (Names : Fault → Type 0) (f g : Fault) → IsFirst Names f → IsFirst Names g → f ≡ g
one_first Names f g one other = same_fault f g (one.first g other.named) (other.first f one.named)
