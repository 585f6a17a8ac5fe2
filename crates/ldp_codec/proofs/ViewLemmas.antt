-- What is lent of a PDU: messages that are passed one after another.
use Rattle.std.proofs.Common.{◌≡◌, ◌≤◌, ◌+◌, ◌*◌, ◌%◌, ◌^◌, ◌++◌, ℕ, List, [], ◌∷◌, Option, Some, None, length, take, drop, refl, sym, ap, subst, length-append, arith}
use Rattle.std.specs.List.{AllByRecursion}
use Rattle.ldp_grammar.specs.declared.fault.Fault.{Fault}
use Rattle.ldp_grammar.specs.declared.message.Message.{Message}
use Rattle.ldp_grammar.specs.declared.message.Message.TheVariants as message
use Rattle.ldp_grammar.specs.declared.message_kind.MessageKind.{MessageKind}
use Rattle.ldp_grammar.specs.declared.message_kind.MessageKind.TheVariants as kind
use Rattle.ldp_grammar.specs.Layouts.{listed}
use Rattle.ldp_grammar.specs.Octets.{bit}
use Rattle.ldp_grammar.specs.Tlvs.{KeepsTo}
use Rattle.ldp_grammar.specs.Rows.{kind_of, row_of}
use Rattle.ldp_grammar.specs.Spells.{Spelling, IsRead, StandsAs, StandsFor, StandInOrder, spell_message, IsSpelling}
use Rattle.ldp_grammar.specs.FirstFault.{IsFirst, IsFirstMessageFault, NamesMessages, moved}
use Rattle.ldp_grammar.proofs.ItemLemmas.{items_more}
use Rattle.ldp_grammar.proofs.MessageLemmas.{octets_of, spelled_more}
use Rattle.ldp_grammar.proofs.TellingLemmas.{read_as}
use Rattle.ldp_codec.specs.Walk.{IsMessageSplit, AreMessages}
use Rattle.ldp_codec.specs.Views.{IsSoundSpelling, IsSoundAs, IsMessagePassed, AreCounted}
use Rattle.ldp_codec.proofs.PlaceLemmas.{placed}
use Rattle.ldp_codec.proofs.WalkLemmas.{take_all}
use Rattle.ldp_codec.proofs.MessageWalkLemmas.{messages_fault}

pub passed_here : (rest body : List ℕ) (word id : ℕ) (o : Option MessageKind) → o ≡ kind_of (word % 2 ^ 15) → IsMessageSplit rest word id body
    → IsSoundAs o body → IsMessagePassed rest (8 + length body)
passed_here rest body word id o known s sound = record {
  spelling = record { word = word; id = id; body = body };
  more = s.more;
  split = s.split;
  is_message = s.is_message;
  sound = subst (λ (k : Option MessageKind). IsSoundAs k body) known sound;
  len = refl;
}

-- a message without fault stands for one
record StandsThere (s : Spelling) : Type 0 where
  message : Message
  stands : StandsFor s message

stands_as : (o : Option MessageKind) (s : Spelling) → kind_of (s.word % 2 ^ 15) ≡ o → IsSoundAs o s.body → StandsThere s
stands_as None s known sound = record {
  message = message.Other s.id (bit 15 s.word) (s.word % 2 ^ 15);
  stands = subst (λ (k : Option MessageKind). StandsAs k s (message.Other s.id (bit 15 s.word) (s.word % 2 ^ 15))) (sym known) refl;
}
stands_as (Some kind) s known sound =
    let told = read_as kind s.id s.body sound.tlvs sound.joined sound.faultless in
    record { message = told.message; stands = subst (λ (k : Option MessageKind). StandsAs k s told.message) (sym known) told.is }

pub record StandThere (ss : List Spelling) : Type 0 where
  pub messages : List Message
  pub stand : StandInOrder ss messages

pub stand_there : (ss : List Spelling) → AllByRecursion IsSoundSpelling ss → StandThere ss
stand_there [] sound = record { messages = []; stand = tt }
stand_there (s ∷ ss) sound =
    let first = stands_as (kind_of (s.word % 2 ^ 15)) s refl sound.0 in
    let rest = stand_there ss sound.1 in
    record { messages = first.message ∷ rest.messages; stand = (first.stands, rest.stand) }

-- the octets so far are so many messages
pub record CountedTo (body : List ℕ) (at count : ℕ) : Type 0 where
  pub within : at ≤ length body
  pub few : 8 * count ≤ at
  pub counted : AreCounted (take at body) count

pub counted_none : AreCounted [] 0
counted_none = record { spellings = []; passed = record { spelled = refl; fit = tt; sound = tt }; is = refl }

pub passes_more : (body : List ℕ) (at size count : ℕ) → CountedTo body at count → IsMessagePassed (drop at body) size → CountedTo body (at + size) (count + 1)
passes_more body at size count so p =
    let place = placed body (spell_message p.spelling) p.more at size so.within p.split (omega (arith, p.len, octets_of p.spelling [])) in
    let ss = so.counted.spellings in
    record {
      within = place.within;
      few = omega (arith, so.few, p.len);
      counted = record {
        spellings = ss ++ p.spelling ∷ [];
        passed = record {
          spelled = spelled_more (take at body) (take (at + size) body) ss p.spelling so.counted.passed.spelled place.front;
          fit = items_more IsSpelling ss p.spelling so.counted.passed.fit p.is_message;
          sound = items_more IsSoundSpelling ss p.spelling so.counted.passed.sound p.sound;
        };
        is = omega (arith, so.counted.is, length-append ss (p.spelling ∷ []));
      };
    }

pub passes_fault : (body : List ℕ) (at count : ℕ) (f : Fault) → CountedTo body at count → ((before : List Spelling) → IsFirstMessageFault before (drop at body) f)
    → IsFirst (NamesMessages body) (moved at f)
passes_fault body at count f so faults =
    let there = stand_there so.counted.spellings so.counted.passed.sound in
    let are : AreMessages (take at body) there.messages = record { spellings = so.counted.spellings; spelled = so.counted.passed.spelled; fit = so.counted.passed.fit; stand = there.stand } in
    messages_fault body at there.messages f so.within are faults

pub passes_all : (body : List ℕ) (at count : ℕ) → length body ≤ at → AreCounted (take at body) count → AreCounted body count
passes_all body at count past are = subst (λ (l : List ℕ). AreCounted l count) (take_all body at past) are

-- a KeepAlive lists no TLV
none_listed : (n : ℕ) → KeepsTo (listed (row_of kind.KeepAlive) n) 0
none_listed n = tt

alive_read : (id : ℕ) (body : List ℕ) → length body ≡ 0 → IsRead kind.KeepAlive id body (message.KeepAlive id)
alive_read id [] none = record {
  tlvs = [];
  joined = record { spelled = refl; fit = tt };
  faultless = record { values = tt; counts = λ n. none_listed n };
  why = None;
  reason = record { told = None; is_told = tt; is = refl };
  tells = refl;
}
alive_read id (x ∷ xs) none = absurd (omega arith)

-- a KeepAlive with nothing behind its Message ID is one
pub alive : (s : Spelling) → s.word % 2 ^ 15 ≡ 0x0201 → length s.body ≡ 0 → StandsFor s (message.KeepAlive s.id)
alive s is none =
    let known : kind_of (s.word % 2 ^ 15) ≡ Some kind.KeepAlive = ap kind_of is in
    subst (λ (k : Option MessageKind). StandsAs k s (message.KeepAlive s.id)) (sym known) (alive_read s.id s.body none)
