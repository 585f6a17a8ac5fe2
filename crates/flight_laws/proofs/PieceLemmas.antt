-- The MAC addresses of an Address Withdraw, the pieces in which they are passed on, and the size of what is written.
use Rattle.std.proofs.Common.{◌≡◌, ◌≤◌, ◌+◌, ℕ, zero, suc, List, [], ◌∷◌, length, take, drop, Option, Some, None, arith}
use Rattle.std.specs.List.{AllByRecursion}
use Rattle.net_values.specs.declared.mac.Mac.{Mac}
use Rattle.pw_tlvs.specs.declared.pw_fec.PwFec.{PwFec}
use Rattle.pw_tlvs.specs.Macs.{mac_octets}
use Rattle.pw_tlvs.specs.Written.{information, written_fec}
use Rattle.mac_withdraw.specs.Pieces.{most_in_piece, piece_count, pieces_from, pieces_of}
use Rattle.ldp_grammar.specs.declared.message.Message.TheVariants.{AddressWithdraw}
use Rattle.ldp_grammar.specs.Rows.{fec, mac_list}
use Rattle.ldp_grammar.specs.Written.{ignorable, mac_tlvs, message_octets, tlv}
use Rattle.ldp_grammar.proofs.OctetLemmas.{AreOctets, octets_before}
use Rattle.ldp_grammar.proofs.WrittenOctets.{no_octets, octets_append}
use Rattle.ldp_grammar.proofs.ReadingLemmas.{octets_behind}
use Rattle.ldp_grammar.proofs.ShortLemmas.{first_length}
use Rattle.pw_tlvs.specs.Fec.{no_params}
use Rattle.pw_tlvs.proofs.MacLemmas.{length_macs}
use Rattle.flight_laws.specs.Messages.{IsSound}

-- ---- addresses

-- each has six octets
pub record AreSixOctetsEach (macs : List Mac) : Type 0 where
  pub six : AllByRecursion (λ mac. length mac.0 ≡ 6) macs
  pub octets : AllByRecursion (λ mac. AreOctets mac.0) macs

-- addresses that one message can name
pub record IsPiece (macs : List Mac) : Type 0 where
  pub few : length macs ≤ most_in_piece
  pub are : AreSixOctetsEach macs

-- none are named
pub none_are_piece : IsPiece []
none_are_piece = record { few = omega arith; are = record { six = tt; octets = tt } }

-- the octets of a list
pub macs_octets : (macs : List Mac) → AllByRecursion (λ mac. AreOctets mac.0) macs → AreOctets (mac_octets macs)
macs_octets [] all = no_octets
macs_octets (mac ∷ macs) all = octets_append mac.0 (mac_octets macs) all.0 (macs_octets macs all.1)

each_octets : (macs : List Mac) → AreOctets (mac_octets macs) → AllByRecursion (λ mac. AreOctets mac.0) macs
each_octets [] octets = tt
each_octets (mac ∷ macs) octets = (octets_before mac.0 (mac_octets macs) octets, each_octets macs (octets_behind mac.0 (mac_octets macs) octets))

-- those that a message names
pub heard_are : (id : ℕ) (pw : PwFec) (macs : List Mac) → IsSound (AddressWithdraw id None (Some pw) (Some macs)) → AreSixOctetsEach macs
heard_are id pw macs sound = record { six = sound.0.3; octets = each_octets macs sound.2.1.0 }

-- ---- pieces

all_taken : {A : Type 0} (P : A → Type 0) (n : ℕ) (xs : List A) → AllByRecursion P xs → AllByRecursion P (take n xs)
all_taken P zero xs all = tt
all_taken P (suc n) [] all = tt
all_taken P (suc n) (x ∷ xs) all = (all.0, all_taken P n xs all.1)

all_dropped : {A : Type 0} (P : A → Type 0) (n : ℕ) (xs : List A) → AllByRecursion P xs → AllByRecursion P (drop n xs)
all_dropped P zero xs all = all
all_dropped P (suc n) [] all = tt
all_dropped P (suc n) (x ∷ xs) all = all_dropped P n xs all.1

few_taken : {A : Type 0} (n : ℕ) (xs : List A) → length (take n xs) ≤ n
few_taken zero xs = omega arith
few_taken (suc n) [] = omega arith
few_taken (suc n) (x ∷ xs) = omega (arith, few_taken n xs)

front_is_piece : (macs : List Mac) → AreSixOctetsEach macs → IsPiece (take most_in_piece macs)
front_is_piece macs are = record {
  few = few_taken most_in_piece macs;
  are = record {
    six = all_taken (λ (mac : Mac). length mac.0 ≡ 6) most_in_piece macs are.six;
    octets = all_taken (λ (mac : Mac). AreOctets mac.0) most_in_piece macs are.octets;
  };
}

rest_are : (macs : List Mac) → AreSixOctetsEach macs → AreSixOctetsEach (drop most_in_piece macs)
rest_are macs are = record {
  six = all_dropped (λ (mac : Mac). length mac.0 ≡ 6) most_in_piece macs are.six;
  octets = all_dropped (λ (mac : Mac). AreOctets mac.0) most_in_piece macs are.octets;
}

pieces_from_are : (n : ℕ) (macs : List Mac) → AreSixOctetsEach macs → AllByRecursion IsPiece (pieces_from n macs)
pieces_from_are zero macs are = tt
pieces_from_are (suc n) macs are = (front_is_piece macs are, pieces_from_are n (drop most_in_piece macs) (rest_are macs are))

pub pieces_are : (macs : List Mac) → AreSixOctetsEach macs → AllByRecursion IsPiece (pieces_of macs)
pieces_are macs are = pieces_from_are (piece_count (length macs)) macs are

-- ---- the size of the message

bare_length : (pw_id : Option ℕ) → length (information pw_id no_params) ≤ 4
bare_length None = omega arith
bare_length (Some n) = omega arith

fec_length : (pw : PwFec) → pw.params ≡ no_params → length (written_fec pw) ≤ 12
fec_length pw bare = omega (arith, inner)
  where
    inner : length (information pw.pw_id pw.params) ≤ 4
    inner = rw bare (bare_length pw.pw_id)

pub withdraw_is_short : (id : ℕ) (pw : PwFec) (macs : List Mac) → pw.params ≡ no_params → length macs ≤ most_in_piece → AllByRecursion (λ mac. length mac.0 ≡ 6) macs
    → 6 + length (message_octets (AddressWithdraw id None (Some pw) (Some macs))) ≤ 256
withdraw_is_short id pw macs bare few six =
    omega (arith, first_length (tlv fec (written_fec pw)) (mac_tlvs (Some macs)), first_length (ignorable mac_list (mac_octets macs)) [], fec_length pw bare, length_macs macs six, few)
