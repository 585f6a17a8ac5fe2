-- What stands in front of the first octets of messages that were said.
use Rattle.std.proofs.Common.{◌≡◌, ◌≤◌, ◌+◌, ◌++◌, ◌∙◌, ◌⊎◌, ℕ, List, [], ◌∷◌, inl, inr, refl, sym, ap, subst, arith, length, ⊎_elim}
use Rattle.net_values.specs.declared.addr.Addr.{Addr}
use Rattle.net_values.proofs.RowLemmas.{front_empty, front_heads, front_tails, join_front}
use Rattle.ldp_grammar.specs.declared.message.Message.{Message}
use Rattle.ldp_grammar.specs.Spells.{Spells}
use Rattle.ldp_grammar.specs.Written.{IsId, message_octets, written}
use Rattle.ldp_grammar.proofs.OctetLemmas.{AreOctets, octets_before}
use Rattle.ldp_grammar.proofs.RoundTripLemmas.{written_is_read}
use Rattle.ldp_stream.specs.FrontOf.{More, Got, front_of}
use Rattle.ldp_stream.proofs.FrontOfLemmas.{front_is_read}
use Rattle.session_core.specs.declared.peers.Peers.{Peers}
use Rattle.pw_messages.specs.Sender.{platform_of}
use Rattle.flight_laws.specs.Messages.{AreSaid, octets_of_all}
use Rattle.flight_laws.specs.Pair.{AreFit}
use Rattle.flight_laws.proofs.SaidLemmas.{IsReady, all_octets, ready}

-- two ways to cut one list: the first part of the one is a proper front of the first part of the other, or it goes on
pub record IsProperFront (a b c d : List ℕ) : Type 0 where
  pub next : ℕ
  pub more : List ℕ
  pub whole : a ++ next ∷ more ≡ c
  pub rest : b ≡ next ∷ more ++ d

pub record GoesBehind (a b c d : List ℕ) : Type 0 where
  pub more : List ℕ
  pub whole : a ≡ c ++ more
  pub rest : more ++ b ≡ d

pub cut : (a b c d : List ℕ) → a ++ b ≡ c ++ d → IsProperFront a b c d ⊎ GoesBehind a b c d
cut [] b [] d e = inr (record { more = []; whole = refl; rest = e })
cut [] b (y ∷ c) d e = inl (record { next = y; more = c; whole = refl; rest = e })
cut (x ∷ a) b [] d e = inr (record { more = x ∷ a; whole = refl; rest = e })
cut (x ∷ a) b (y ∷ c) d e = ⊎_elim
    (λ (h : IsProperFront a b c d). inl (record { next = h.next; more = h.more; whole = join_front x y (a ++ h.next ∷ h.more) c (front_heads x y a b c d e) h.whole; rest = h.rest }))
    (λ (h : GoesBehind a b c d). inr (record { more = h.more; whole = join_front x y a (c ++ h.more) (front_heads x y a b c d e) h.whole; rest = h.rest }))
    (cut a b c d (front_tails x y a b c d e))

none_front : (max : ℕ) → front_of max [] ≡ More
unfolding front_of
none_front max = refl

-- the first message stands in front, and behind it the first octets of the others
pub record HasNext (router : Addr) (ms : List Message) (x y : List ℕ) (max : ℕ) : Type 0 where
  pub message : Message
  pub later : List Message
  pub rest : List ℕ
  pub are : ms ≡ message ∷ later
  pub front : front_of max x ≡ Got (record { id = platform_of router; messages = message ∷ [] }) rest
  pub behind : rest ++ y ≡ octets_of_all router later

pub front_is : (ends : Peers) (ms : List Message) (x y : List ℕ) (max : ℕ) → AreFit ends → AreSaid ends ms → x ++ y ≡ octets_of_all ends.me ms → 256 ≤ max → max ≤ 4096
    → (front_of max x ≡ More) ⊎ HasNext ends.me ms x y max
front_is ends [] x y max fit said e least most = inl (ap (front_of max) (front_empty x y e) ∙ none_front max)
front_is ends (m ∷ ms) x y max fit said e least most = ⊎_elim part whole (cut x y (written m (platform_of ends.me)) (octets_of_all ends.me ms) e)
  where
    is_ready : IsReady m ends.me
    is_ready = ready ends m fit said.0

    is_id : IsId (platform_of ends.me)
    is_id = record { router = fit.me.four; space = omega arith }

    short : 6 + length (message_octets m) ≤ max
    short = omega (arith, is_ready.short)

    spells : Spells (written m (platform_of ends.me)) max (record { id = platform_of ends.me; messages = m ∷ [] })
    spells = written_is_read.read max m (platform_of ends.me) most is_ready.can is_ready.fits is_id short

    octets : AreOctets x
    octets = octets_before x y (subst AreOctets (sym e) (all_octets ends (m ∷ ms) fit said))

    part : IsProperFront x y (written m (platform_of ends.me)) (octets_of_all ends.me ms) → (front_of max x ≡ More) ⊎ HasNext ends.me (m ∷ ms) x y max
    part h = inl (front_is_read.part max (record { id = platform_of ends.me; messages = m ∷ [] }) x h.more h.next
        (subst AreOctets (sym h.whole) is_ready.octets) most (subst (λ (l : List ℕ). Spells l max (record { id = platform_of ends.me; messages = m ∷ [] })) (sym h.whole) spells))

    whole : GoesBehind x y (written m (platform_of ends.me)) (octets_of_all ends.me ms) → (front_of max x ≡ More) ⊎ HasNext ends.me (m ∷ ms) x y max
    whole h = inr (record {
      message = m;
      later = ms;
      rest = h.more;
      are = refl;
      front = ap (front_of max) h.whole
          ∙ front_is_read.written_first max m (platform_of ends.me) h.more (subst AreOctets h.whole octets) most is_ready.can is_ready.fits is_id short;
      behind = h.rest;
    })
