-- The messages that octets are, one after another.
use Rattle.std.proofs.Common.{◌≡◌, ◌≤◌, ◌<◌, ◌+◌, ◌++◌, ℕ, zero, suc, List, [], ◌∷◌, Option, Some, None, append-nil, append_assoc, length, flat_map, take, drop, refl, sym, ap, subst, ◌∙◌, length-append, arith}
use Rattle.std.specs.List.{AllByRecursion}
use Rattle.std.specs.Prelude.{IfSome, slice_get}
use Rattle.ldp_grammar.specs.declared.message.Message.{Message}
use Rattle.std.proofs.Math.Seq.{drop-append_seam, take-append_seam}
use Rattle.ldp_grammar.specs.declared.ldp_id.LdpId.{LdpId}
use Rattle.ldp_grammar.specs.Octets.{two, four, two_at, four_at}
use Rattle.ldp_grammar.specs.Spells.{Spelling, IsFramed, StandInOrder, StandsFor, spell_message, IsSpelling}
use Rattle.ldp_grammar.proofs.OctetLemmas.{read_two, read_four}
use Rattle.ldp_grammar.proofs.MessageLemmas.{length_told, octets_of, stand_more}
use Rattle.ldp_codec.specs.Views.{IsSoundSpelling, ArePassed, AreCounted, IsFirstOf, IsViewOf, first_spelling, spellings_in, spellings_of}
use Rattle.ldp_codec.proofs.ViewLemmas.{stand_there}

-- what the octets of a message tell, whatever follows
pub word_told : (s : Spelling) (more : List ℕ) → IsSpelling s → two_at 0 (spell_message s ++ more) ≡ s.word
word_told s more fits = read_two s.word ((two (4 + length s.body) ++ (four s.id ++ s.body)) ++ more) fits.0

pub id_told : (s : Spelling) (more : List ℕ) → IsSpelling s → four_at 4 (spell_message s ++ more) ≡ s.id
id_told s more fits = read_four s.id (s.body ++ more) fits.2

size_told : (s : Spelling) (more : List ℕ) → IsSpelling s → 4 + two_at 2 (spell_message s ++ more) ≡ length (spell_message s)
size_told s more fits = omega (arith, length_told s more fits, octets_of s [], length-append (spell_message s) [])

pub front_told : (s : Spelling) (more : List ℕ) → IsSpelling s → take (4 + two_at 2 (spell_message s ++ more)) (spell_message s ++ more) ≡ spell_message s
front_told s more fits = ap (λ (n : ℕ). take n (spell_message s ++ more)) (size_told s more fits) ∙ take-append_seam (spell_message s) more

pub behind_told : (s : Spelling) (more : List ℕ) → IsSpelling s → drop (4 + two_at 2 (spell_message s ++ more)) (spell_message s ++ more) ≡ more
behind_told s more fits = ap (λ (n : ℕ). drop n (spell_message s ++ more)) (size_told s more fits) ∙ drop-append_seam (spell_message s) more

pub first_told : (s : Spelling) (more : List ℕ) → IsSpelling s → first_spelling (spell_message s ++ more) ≡ s
first_told s more fits =
    let word = word_told s more fits in
    let id = id_told s more fits in
    let body : drop 8 (take (4 + two_at 2 (spell_message s ++ more)) (spell_message s ++ more)) ≡ s.body = ap (drop 8) (front_told s more fits) in
    λ i. record { word = word i; id = id i; body = body i }

one_told : (most : ℕ) (s : Spelling) (more : List ℕ) → IsSpelling s → spellings_in (suc most) (spell_message s ++ more) ≡ s ∷ spellings_in most more
unfolding spellings_in
one_told most s more fits =
    let first = first_told s more fits in
    let behind = behind_told s more fits in
    λ i. first i ∷ spellings_in most (behind i)

all_told : (most : ℕ) (ss : List Spelling) → length (flat_map spell_message ss) ≤ most → AllByRecursion IsSpelling ss → spellings_in most (flat_map spell_message ss) ≡ ss
unfolding spellings_in
all_told zero [] few fits = refl
all_told zero (s ∷ ss) few fits = absurd (omega (arith, few, octets_of s (flat_map spell_message ss)))
all_told (suc most) [] few fits = refl
all_told (suc most) (s ∷ ss) few fits =
    one_told most s (flat_map spell_message ss) fits.0
    ∙ ap (λ (l : List Spelling). s ∷ l) (all_told most ss (omega (arith, few, octets_of s (flat_map spell_message ss), length-append (spell_message s) (flat_map spell_message ss))) fits.1)

-- octets that are messages are these
pub are_told : (body : List ℕ) (ss : List Spelling) → ArePassed body ss → spellings_of body ≡ ss
are_told body ss p = (λ i. spellings_in (length (p.spelled i)) (p.spelled i)) ∙ all_told (length (flat_map spell_message ss)) ss (omega arith) p.fit

pub count_of_counted : (body : List ℕ) (count : ℕ) → AreCounted body count → count ≡ length (spellings_of body)
count_of_counted body count c = c.is ∙ ap length (sym (are_told body c.spellings c.passed))

pub passed_of_counted : (body : List ℕ) (count : ℕ) → AreCounted body count → ArePassed body (spellings_of body)
passed_of_counted body count c = subst (ArePassed body) (sym (are_told body c.spellings c.passed)) c.passed

-- a right header and messages without fault behind it are a PDU
pub view_spelled : (bytes body : List ℕ) (max count : ℕ) (id : LdpId) → length id.router.0 ≡ 4 → id.space < 65536 → IsFramed bytes max (id.router.0 ++ two id.space) body
    → AreCounted body count → IsViewOf bytes max (record { id = id; spellings = spellings_of body })
view_spelled bytes body max count id router space framed counted =
    let passed = passed_of_counted body count counted in
    let there = stand_there (spellings_of body) passed.sound in
    record {
      pdu = record { id = id; messages = there.messages };
      spells = record {
        spellings = spellings_of body;
        framed = subst (IsFramed bytes max (id.router.0 ++ two id.space)) passed.spelled framed;
        router = router;
        space = space;
        fit = passed.fit;
        stand = there.stand;
      };
      id = refl;
      spellings = refl;
    }

-- where no octet is left, no message is
pub none_left : (octets : List ℕ) → length octets ≡ 0 → spellings_of octets ≡ []
unfolding spellings_in
none_left octets none = ap (λ (n : ℕ). spellings_in n octets) none

-- the first of messages that are left
pub record HasFirst (octets : List ℕ) : Type 0 where
  pub message : Spelling
  pub others : List Spelling
  pub is : octets ≡ spell_message message ++ flat_map spell_message others
  pub fits : IsSpelling message
  pub sound : IsSoundSpelling message
  pub passed : ArePassed (flat_map spell_message others) others
  pub told : spellings_of octets ≡ message ∷ others

first_of : (octets : List ℕ) (ss : List Spelling) → ArePassed octets ss → 0 < length octets → HasFirst octets
first_of octets [] p some = absurd (omega (arith, some, ap length p.spelled))
first_of octets (s ∷ ss) p some = record {
  message = s;
  others = ss;
  is = p.spelled;
  fits = p.fit.0;
  sound = p.sound.0;
  passed = record { spelled = refl; fit = p.fit.1; sound = p.sound.1 };
  told = are_told octets (s ∷ ss) p;
}

pub has_first : (octets : List ℕ) → ArePassed octets (spellings_of octets) → 0 < length octets → HasFirst octets
has_first octets p some = first_of octets (spellings_of octets) p some

-- the message in front lies within the octets
pub record IsWithin (octets : List ℕ) : Type 0 where
  pub header : 8 ≤ length octets
  pub least : 4 ≤ two_at 2 octets
  pub most : 4 + two_at 2 octets ≤ length octets

pub first_within : (octets : List ℕ) → ArePassed octets (spellings_of octets) → 0 < length octets → IsWithin octets
first_within octets p some =
    let f = has_first octets p some in
    let len : two_at 2 octets ≡ 4 + length f.message.body = ap (two_at 2) f.is ∙ length_told f.message (flat_map spell_message f.others) f.fits in
    let all : length octets ≡ 8 + (length f.message.body + length (flat_map spell_message f.others)) = ap length f.is ∙ octets_of f.message (flat_map spell_message f.others) in
    record { header = omega (arith, all); least = omega (arith, len); most = omega (arith, len, all) }

-- what is read of the message in front
pub record IsFirstRead (octets : List ℕ) (message : Spelling) (rest : List ℕ) : Type 0 where
  pub fits : IsSpelling message
  pub sound : IsSoundSpelling message
  pub first : IsFirstOf octets message rest

pub first_read : (octets front : List ℕ) (word len number : ℕ) (rest : List ℕ) → ArePassed octets (spellings_of octets) → 0 < length octets → word ≡ two_at 0 octets → len
    ≡ two_at 2 octets → number ≡ four_at 4 octets → front ≡ take (4 + len) octets → rest ≡ drop (4 + len) octets
    → IsFirstRead octets (record { word = word; id = number; body = drop 8 front }) rest
first_read octets front word len number rest p some word_is len_is number_is front_is rest_is =
    let f = has_first octets p some in
    let more = flat_map spell_message f.others in
    let is = f.is in
    let the_front : drop 8 front ≡ drop 8 (take (4 + two_at 2 octets) octets) = ap (drop 8) front_is ∙ ap (λ (n : ℕ). drop 8 (take (4 + n) octets)) len_is in
    let read : record { word = word; id = number; body = drop 8 front } ≡ first_spelling octets = λ i. record { word = word_is i; id = number_is i; body = the_front i } in
    let message : record { word = word; id = number; body = drop 8 front } ≡ f.message = read ∙ (ap first_spelling is ∙ first_told f.message more f.fits) in
    let behind : rest ≡ more = rest_is ∙ (ap (λ (n : ℕ). drop (4 + n) octets) len_is ∙ (ap (λ (l : List ℕ). drop (4 + two_at 2 l) l) is ∙ behind_told f.message more f.fits)) in
    let others : spellings_of rest ≡ f.others = ap spellings_of behind ∙ are_told more f.others f.passed in
    record {
      fits = subst IsSpelling (sym message) f.fits;
      sound = subst IsSoundSpelling (sym message) f.sound;
      first = record {
        is = f.told ∙ (λ i. sym message i ∷ sym others i);
        passed = subst (λ (l : List ℕ). ArePassed l (spellings_of l)) (sym behind) (subst (ArePassed more) (sym (are_told more f.others f.passed)) f.passed);
      };
    }

-- what is left behind one more message
drop_more : (k : ℕ) (ss new : List Spelling) (m : Spelling) → drop k ss ≡ m ∷ new → drop (suc k) ss ≡ new
drop_more zero [] new m e = absurd (omega (arith, ap length e))
drop_more zero (s ∷ ss) new m e = ap (drop 1) e
drop_more (suc k) [] new m e = absurd (omega (arith, ap length e))
drop_more (suc k) (s ∷ ss) new m e = drop_more k ss new m e

drop_none : (k : ℕ) (ss : List Spelling) → drop k ss ≡ [] → drop (suc k) ss ≡ []
drop_none zero ss e = ap (drop 1) e
drop_none (suc k) [] e = refl
drop_none (suc k) (s ∷ ss) e = drop_none k ss e

get_at : (k : ℕ) (ss new : List Spelling) (m : Spelling) → drop k ss ≡ m ∷ new → slice_get ss k ≡ Some m
get_at zero [] new m e = absurd (omega (arith, ap length e))
get_at zero (s ∷ ss) new m e = ap (λ (l : List Spelling). slice_get l 0) e
get_at (suc k) [] new m e = absurd (omega (arith, ap length e))
get_at (suc k) (s ∷ ss) new m e = get_at k ss new m e

get_none : (k : ℕ) (ss : List Spelling) → drop k ss ≡ [] → slice_get ss k ≡ None
get_none zero ss e = ap (λ (l : List Spelling). slice_get l 0) e
get_none (suc k) [] e = refl
get_none (suc k) (s ∷ ss) e = get_none k ss e

-- one message is passed, or none is left
pub passed_next : (ss old new : List Spelling) (k : ℕ) (o : Option Spelling) → old ≡ drop k ss → IfSome o (λ m. old ≡ m ∷ new) → (o ≡ None → (old ≡ []) × (new ≡ [])) → new ≡ drop (k + 1) ss
passed_next ss old new k None is some none =
    let left = none refl in
    let next : k + 1 ≡ suc k = omega arith in
    left.1 ∙ sym (ap (λ (n : ℕ). drop n ss) next ∙ drop_none k ss (sym is ∙ left.0))
passed_next ss old new k (Some m) is some none =
    let next : k + 1 ≡ suc k = omega arith in
    sym (ap (λ (n : ℕ). drop n ss) next ∙ drop_more k ss new m (sym is ∙ some))

pub got_next : (ss old new : List Spelling) (k : ℕ) (o : Option Spelling) → old ≡ drop k ss → IfSome o (λ m. old ≡ m ∷ new) → (o ≡ None → (old ≡ []) × (new ≡ [])) → o ≡ slice_get ss k
got_next ss old new k None is some none = sym (get_none k ss (sym is ∙ (none refl).0))
got_next ss old new k (Some m) is some none = sym (get_at k ss new m (sym is ∙ some))

-- the messages so far, and those that are left
pub record Reads (ss : List Spelling) (messages : List Message) (left : List Spelling) : Type 0 where
  pub front : List Spelling
  pub split : ss ≡ front ++ left
  pub stand : StandInOrder front messages

pub reads_none : (ss : List Spelling) → Reads ss [] ss
reads_none ss = record { front = []; split = refl; stand = tt }

pub reads_more : (ss old new : List Spelling) (messages : List Message) (s : Spelling) (m : Message) → Reads ss messages old → old ≡ s ∷ new → StandsFor s m → Reads ss (messages ++ m ∷ []) new
reads_more ss old new messages s m r is stands = record {
  front = r.front ++ s ∷ [];
  split = r.split ∙ (ap (λ (l : List Spelling). r.front ++ l) is ∙ sym (append_assoc r.front (s ∷ []) new));
  stand = stand_more r.front messages s m r.stand stands;
}

pub reads_all : (ss left : List Spelling) (messages : List Message) → Reads ss messages left → left ≡ [] → StandInOrder ss messages
reads_all ss left messages r none = subst (λ (l : List Spelling). StandInOrder l messages) (sym (r.split ∙ (ap (λ (l : List Spelling). r.front ++ l) none ∙ append-nil r.front))) r.stand
