-- Messages of a PDU: what they stand for, and the fault where the walk over them ends.
use Rattle.std.proofs.Common.{◌≡◌, ◌<◌, ◌+◌, ◌%◌, ◌^◌, ◌++◌, ◌⊎◌, inl, inr, ℕ, List, [], ◌∷◌, Option, Some, None, length, flat_map, refl, sym, ap, subst, ◌∙◌, append-nil, length-append, arith}
use Rattle.std.proofs.lemmas.Grind.{flat_map-append}
use Rattle.std.specs.List.{AllByRecursion}
use Rattle.ldp_grammar.specs.declared.fault.Fault.{Fault}
use Rattle.ldp_grammar.specs.declared.cause.Cause.{Cause}
use Rattle.ldp_grammar.specs.declared.cause.Cause.TheVariants as cause
use Rattle.ldp_grammar.specs.declared.message.Message.{Message}
use Rattle.ldp_grammar.specs.declared.message_kind.MessageKind.{MessageKind}
use Rattle.ldp_grammar.specs.Octets.{two_at}
use Rattle.ldp_grammar.specs.Rows.{kind_of, row_of}
use Rattle.ldp_grammar.specs.Spells.{Spelling, spell_message, IsSpelling, StandsAs, StandsFor, StandInOrder}
use Rattle.ldp_grammar.specs.FirstFault.{LengthFault, CutsMessage, IsInTlvs, IsMessageFault, IsFirstMessageFault, Precedes, NamesTlvs, NamesMessages, IsFirst, moved}
use Rattle.ldp_grammar.proofs.ItemLemmas.{AreClean, first_behind, none_named, item_at, moved_after}
use Rattle.ldp_grammar.proofs.SpellingLemmas.{messages_apart}
use Rattle.ldp_grammar.proofs.TlvLemmas.{tlvs_faultless}

-- the head of a message's octets
pub length_told : (m : Spelling) (rest : List ℕ) → IsSpelling m → two_at 2 (spell_message m ++ rest) ≡ 4 + length m.body
length_told m rest is = omega (arith, is.1)

pub octets_of : (m : Spelling) (rest : List ℕ) → length (spell_message m ++ rest) ≡ 8 + (length m.body + length rest)
octets_of m rest = omega (arith, length-append m.body rest)

uncut : (m : Spelling) (rest : List ℕ) (place : ℕ) → IsSpelling m → CutsMessage (spell_message m ++ rest) place → ⊥
uncut m rest place is (inl short) = omega (arith, short.1, octets_of m rest)
uncut m rest place is (inr (whole, inl small, e)) = omega (arith, small, length_told m rest is)
uncut m rest place is (inr (whole, inr past, e)) = omega (arith, past, octets_of m rest, length_told m rest is)

pub uncut_here : (rest more : List ℕ) (m : Spelling) (place : ℕ) → IsSpelling m → rest ≡ spell_message m ++ more → CutsMessage rest place → ⊥
uncut_here rest more m place is e cuts = uncut m more place is (subst (λ (l : List ℕ). CutsMessage l place) e cuts)

no_length_fault : (m : Spelling) (rest : List ℕ) → IsSpelling m → (c : Cause) (place : ℕ) → LengthFault (spell_message m ++ rest) c place → ⊥
no_length_fault m rest is cause.MessageLength place cuts = uncut m rest place is cuts
no_length_fault m rest is cause.Version place cuts = cuts
no_length_fault m rest is cause.PduLength place cuts = cuts
no_length_fault m rest is cause.TlvLength place cuts = cuts
no_length_fault m rest is (cause.TlvValue field) place cuts = cuts
no_length_fault m rest is (cause.Repeated field) place cuts = cuts

-- a message that stands for something has no TLV at fault
stands_faultless : (o : Option MessageKind) (kind : MessageKind) (s : Spelling) (m : Message) (f : Fault) → o ≡ Some kind → StandsAs o s m → NamesTlvs (row_of kind) s.body f → ⊥
stands_faultless None kind s m f known stands names = absurd (cc)
stands_faultless (Some other) kind s m f known stands names =
    let same : kind ≡ other = cc in
    tlvs_faultless (row_of other) s.body stands.tlvs stands.joined stands.faultless f (subst (λ (k : MessageKind). NamesTlvs (row_of k) s.body f) same names)

no_fault_here : (s : Spelling) (m : Message) (rest : List ℕ) (f : Fault) → IsSpelling s → StandsFor s m → LengthFault (spell_message s ++ rest) f.cause f.place
    ⊎ IsInTlvs (spell_message s ++ rest) f → ⊥
no_fault_here s m rest f is stands (inl cuts) = no_length_fault s rest is f.cause f.place cuts
no_fault_here s m rest f is stands (inr w) =
    let same : s ≡ w.message = (messages_apart s w.message rest w.more is w.is_message w.split).0 in
    stands_faultless (kind_of (s.word % 2 ^ 15)) w.kind s m w.here (ap (λ (x : Spelling). kind_of (x.word % 2 ^ 15)) same ∙ w.known) stands
    (subst (λ (x : Spelling). NamesTlvs (row_of w.kind) x.body w.here) (sym same) w.names)

record StandsThere (s : Spelling) : Type 0 where
  message : Message
  stands : StandsFor s message

stands_there : (before further : List Spelling) (s : Spelling) (ms : List Message) → StandInOrder (before ++ s ∷ further) ms → StandsThere s
stands_there [] further s [] stand = absurd stand
stands_there [] further s (m ∷ ms) stand = record { message = m; stands = stand.0 }
stands_there (b ∷ before) further s [] stand = absurd stand
stands_there (b ∷ before) further s (m ∷ ms) stand = stands_there before further s ms stand.1

pub messages_clean : (ss : List Spelling) (ms : List Message) → AllByRecursion IsSpelling ss → StandInOrder ss ms → AreClean spell_message IsMessageFault ss
messages_clean ss ms items stand before s further rest f e names =
    let there = stands_there before further s ms (subst (λ (l : List Spelling). StandInOrder l ms) e stand) in
    no_fault_here s there.message rest f (item_at IsSpelling before further s ss e items) there.stands names

no_end : (before : List Spelling) (c : Cause) (place : ℕ) → LengthFault [] c place → ⊥
no_end before cause.MessageLength place (inl short) = omega (arith, short.0)
no_end before cause.MessageLength place (inr long) = omega (arith, long.0)
no_end before cause.Version place cuts = cuts
no_end before cause.PduLength place cuts = cuts
no_end before cause.TlvLength place cuts = cuts
no_end before (cause.TlvValue field) place cuts = cuts
no_end before (cause.Repeated field) place cuts = cuts

no_fault_at_end : (before : List Spelling) (f : Fault) → LengthFault [] f.cause f.place ⊎ IsInTlvs [] f → ⊥
no_fault_at_end before f (inl cuts) = no_end before f.cause f.place cuts
no_fault_at_end before f (inr w) = omega (arith, octets_of w.message w.more, ap length w.split)

-- no fault is named in messages that stand for something
pub messages_faultless : (ss : List Spelling) (ms : List Message) → AllByRecursion IsSpelling ss → StandInOrder ss ms → (f : Fault) → NamesMessages (flat_map spell_message ss) f → ⊥
messages_faultless ss ms items stand f names = none_named spell_message IsSpelling IsMessageFault messages_apart ss items (messages_clean ss ms items stand) no_fault_at_end f names

-- the fault behind messages that stand for something is the first
pub first_of_messages : (body front rest : List ℕ) (ss : List Spelling) (ms : List Message) (at : ℕ) (f : Fault) → body ≡ front ++ rest → at ≡ length front → front
    ≡ flat_map spell_message ss → AllByRecursion IsSpelling ss → StandInOrder ss ms → IsFirstMessageFault ss rest f → IsFirst (NamesMessages body) (moved at f)
first_of_messages body front rest ss ms at f split place spelled items stand here =
    let first : IsFirst (NamesMessages (flat_map spell_message ss ++ rest)) (moved (length (flat_map spell_message ss)) f) =
    first_behind spell_message IsSpelling IsMessageFault messages_apart ss rest f items (messages_clean ss ms items stand) here in
    let whole : flat_map spell_message ss ++ rest ≡ body = sym (split ∙ ap (λ (l : List ℕ). l ++ rest) spelled) in
    let size : length (flat_map spell_message ss) ≡ at = sym (place ∙ ap length spelled) in
    subst (λ (n : ℕ). IsFirst (NamesMessages body) (moved n f)) size (subst (λ (l : List ℕ). IsFirst (NamesMessages l) (moved (length (flat_map spell_message ss)) f)) whole first)

-- no whole message stands here
one_place : (rest : List ℕ) (a b : ℕ) → CutsMessage rest a → CutsMessage rest b → a ≡ b
one_place rest a b (inl x) (inl y) = omega (arith, x.2, y.2)
one_place rest a b (inl x) (inr y) = absurd (omega (arith, x.1, y.0))
one_place rest a b (inr x) (inl y) = absurd (omega (arith, x.0, y.1))
one_place rest a b (inr x) (inr y) = omega (arith, x.2, y.2)

cut_before : (rest : List ℕ) (place : ℕ) → CutsMessage rest place → (c : Cause) (other : ℕ) → LengthFault rest c other
    → Precedes (record { place = place; cause = cause.MessageLength }) (record { place = other; cause = c })
cut_before rest place cuts cause.MessageLength other names = inr (one_place rest place other cuts names, omega arith)
cut_before rest place cuts cause.Version other names = absurd names
cut_before rest place cuts cause.PduLength other names = absurd names
cut_before rest place cuts cause.TlvLength other names = absurd names
cut_before rest place cuts (cause.TlvValue field) other names = absurd names
cut_before rest place cuts (cause.Repeated field) other names = absurd names

cut_first : (rest : List ℕ) (place : ℕ) → CutsMessage rest place → (g : Fault) → LengthFault rest g.cause g.place ⊎ IsInTlvs rest g → Precedes (record { place = place; cause = cause.MessageLength }) g
cut_first rest place cuts g (inl names) = cut_before rest place cuts g.cause g.place names
cut_first rest place cuts g (inr w) = absurd (uncut_here rest w.more w.message place w.is_message w.split cuts)

pub cut_message : (before : List Spelling) (rest : List ℕ) (place : ℕ) → CutsMessage rest place → IsFirstMessageFault before rest (record { place = place; cause = cause.MessageLength })
cut_message before rest place cuts = record {
  named = inl cuts;
  first = λ g names. cut_first rest place cuts g names;
  inside = λ m more is e. absurd (uncut_here rest more m place is e cuts);
}

-- the first fault of the TLVs of the message here
no_cut_before : (rest more : List ℕ) (s : Spelling) → IsSpelling s → rest ≡ spell_message s ++ more → (c : Cause) (place : ℕ) → LengthFault rest c place → ⊥
no_cut_before rest more s is e c place names = no_length_fault s more is c place (subst (λ (l : List ℕ). LengthFault l c place) e names)

within_first : (rest more : List ℕ) (s : Spelling) (kind : MessageKind) (f : Fault) → IsSpelling s → rest ≡ spell_message s ++ more → kind_of (s.word % 2 ^ 15) ≡ Some kind
    → IsFirst (NamesTlvs (row_of kind) s.body) f
    → (g : Fault) → LengthFault rest g.cause g.place ⊎ IsInTlvs rest g → Precedes (moved 8 f) g
within_first rest more s kind f is e known first g (inl cuts) = absurd (no_cut_before rest more s is e g.cause g.place cuts)
within_first rest more s kind f is e known first g (inr w) =
    let same : s ≡ w.message = (messages_apart s w.message more w.more is w.is_message (sym e ∙ w.split)).0 in
    let also : kind_of (s.word % 2 ^ 15) ≡ Some w.kind = ap (λ (x : Spelling). kind_of (x.word % 2 ^ 15)) same ∙ w.known in
    let one : w.kind ≡ kind = same_kind (kind_of (s.word % 2 ^ 15)) w.kind kind also known in
    let names : NamesTlvs (row_of kind) s.body w.here =
    subst (λ (k : MessageKind). NamesTlvs (row_of k) s.body w.here) one (subst (λ (x : Spelling). NamesTlvs (row_of w.kind) x.body w.here) (sym same) w.names) in
    subst (Precedes (moved 8 f)) (sym w.is) (moved_after 8 f w.here (first.first w.here names))
  where
    same_kind : (o : Option MessageKind) (a b : MessageKind) → o ≡ Some a → o ≡ Some b → a ≡ b
    same_kind o a b is_a is_b = cc

pub fault_within : (before : List Spelling) (rest more : List ℕ) (s : Spelling) (kind : MessageKind) (f : Fault) → IsSpelling s → rest ≡ spell_message s ++ more
    → kind_of (s.word % 2 ^ 15) ≡ Some kind → IsFirst (NamesTlvs (row_of kind) s.body) f → f.place < length s.body
    → IsFirstMessageFault before rest (moved 8 f)
fault_within before rest more s kind f is e known first near = record {
  named = inr (record { message = s; more = more; split = e; is_message = is; kind = kind; known = known; here = f; names = first.named; is = refl });
  first = λ g names. within_first rest more s kind f is e known first g names;
  inside = λ m left is_m split.
      let same : s ≡ m = (messages_apart s m more left is is_m (sym e ∙ split)).0 in
      omega (arith, near, ap (λ (x : Spelling). length x.body) same);
}

-- one more message that stands for something
pub stand_more : (ss : List Spelling) (ms : List Message) (s : Spelling) (m : Message) → StandInOrder ss ms → StandsFor s m → StandInOrder (ss ++ s ∷ []) (ms ++ m ∷ [])
stand_more [] [] s m stand stands = (stands, tt)
stand_more [] (x ∷ ms) s m stand stands = absurd stand
stand_more (x ∷ ss) [] s m stand stands = absurd stand
stand_more (x ∷ ss) (y ∷ ms) s m stand stands = (stand.0, stand_more ss ms s m stand.1 stands)

pub spelled_more : (front whole : List ℕ) (ss : List Spelling) (s : Spelling) → front ≡ flat_map spell_message ss → whole ≡ front ++ spell_message s → whole ≡ flat_map spell_message (ss ++ s ∷ [])
spelled_more front whole ss s spelled e =
    e ∙ ((λ i. spelled i ++ spell_message s) ∙ (ap (λ (l : List ℕ). flat_map spell_message ss ++ l) (sym (append-nil (spell_message s))) ∙ sym (flat_map-append spell_message ss (s ∷ []))))
