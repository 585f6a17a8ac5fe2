-- Octets are those of one list of messages alone.
use Rattle.std.proofs.Common.{◌≡◌, ◌∙◌, List, [], ◌∷◌, ℕ, refl, sym, ap, arith}
use Rattle.ldp_grammar.specs.declared.message.Message.{Message}
use Rattle.ldp_grammar.specs.declared.pdu.Pdu.{Pdu}
use Rattle.ldp_grammar.specs.Written.{written}
use Rattle.ldp_grammar.proofs.OctetLemmas.{AreOctets}
use Rattle.ldp_grammar.proofs.WrittenOctets.{no_octets, octets_append}
use Rattle.ldp_stream.specs.FrontOf.{Got, front_of}
use Rattle.ldp_stream.proofs.FrontOfLemmas.{front_is_read}
use Rattle.session_core.specs.declared.peers.Peers.{Peers}
use Rattle.pw_messages.specs.Sender.{platform_of}
use Rattle.flight_laws.specs.Messages.{AreSaid, octets_of_all}
use Rattle.flight_laws.specs.Pair.{AreFit}
use Rattle.flight_laws.specs.Rules.{AllMessages}
use Rattle.flight_laws.proofs.SaidLemmas.{IsReady, ready}

-- a message that can be written between ends that fit
pub record IsReadyBetween (ends : Peers) (m : Message) : Type 0 where
  pub fit : AreFit ends
  pub is : IsReady m ends.me

pub all_ready : (ends : Peers) (ms : List Message) → AreFit ends → AreSaid ends ms → AllMessages (IsReadyBetween ends) ms
all_ready ends [] fit said = tt
all_ready ends (m ∷ ms) fit said = (record { fit = fit; is = ready ends m fit said.0 }, all_ready ends ms fit said.1)

are_octets : (ends : Peers) (ms : List Message) → AllMessages (IsReadyBetween ends) ms → AreOctets (octets_of_all ends.me ms)
are_octets ends [] all = no_octets
are_octets ends (m ∷ ms) all = octets_append (written m (platform_of ends.me)) (octets_of_all ends.me ms) all.0.is.octets (are_octets ends ms all.1)

-- the first message stands in front
front_ready : (ends : Peers) (m : Message) (ms : List Message) → IsReadyBetween ends m → AllMessages (IsReadyBetween ends) ms
    → front_of 4096 (octets_of_all ends.me (m ∷ ms)) ≡ Got (record { id = platform_of ends.me; messages = m ∷ [] }) (octets_of_all ends.me ms)
front_ready ends m ms here all =
    front_is_read.written_first 4096 m (platform_of ends.me) (octets_of_all ends.me ms)
    (octets_append (written m (platform_of ends.me)) (octets_of_all ends.me ms) here.is.octets (are_octets ends ms all))
    (omega arith) here.is.can here.is.fits (record { router = here.fit.me.four; space = omega arith }) (omega (arith, here.is.short))

first_same : (p q : Pdu) (m n : Message) (x y : List ℕ) → p.messages ≡ m ∷ [] → q.messages ≡ n ∷ [] → Got p x ≡ Got q y → m ≡ n
first_same p q m n x y is too e = head (sym is ∙ (ap (λ (r : Pdu). r.messages) (pdu e) ∙ too))
  where
    pdu : Got p x ≡ Got q y → p ≡ q
    pdu e = cc

    head : m ∷ [] ≡ n ∷ [] → m ≡ n
    head e = cc

rest_same : (p q : Pdu) (x y : List ℕ) → Got p x ≡ Got q y → x ≡ y
rest_same p q x y e = cc

pub joined_same : (m n : Message) (ms ns : List Message) → m ≡ n → ms ≡ ns → m ∷ ms ≡ n ∷ ns
joined_same m n ms ns e f = cc

pub same_messages : (ends : Peers) (ms ns : List Message) → AllMessages (IsReadyBetween ends) ms → AllMessages (IsReadyBetween ends) ns → octets_of_all ends.me ms ≡ octets_of_all ends.me ns → ms ≡ ns
same_messages ends [] [] all too e = refl
same_messages ends [] (n ∷ ns) all too e = absurd (cc)
same_messages ends (m ∷ ms) [] all too e = absurd (cc)
same_messages ends (m ∷ ms) (n ∷ ns) all too e =
    let fronts : Got (record { id = platform_of ends.me; messages = m ∷ [] }) (octets_of_all ends.me ms) ≡ Got (record { id = platform_of ends.me; messages = n ∷ [] }) (octets_of_all ends.me ns) =
    sym (front_ready ends m ms all.0 all.1) ∙ (ap (λ (l : List ℕ). front_of 4096 l) e ∙ front_ready ends n ns too.0 too.1) in
    joined_same m n ms ns
    (first_same (record { id = platform_of ends.me; messages = m ∷ [] }) (record { id = platform_of ends.me; messages = n ∷ [] }) m n (octets_of_all ends.me ms)
    (octets_of_all ends.me ns) refl refl fronts)
    (same_messages ends ms ns all.1 too.1 (rest_same (record { id = platform_of ends.me; messages = m ∷ [] }) (record { id = platform_of ends.me; messages = n ∷ [] })
    (octets_of_all ends.me ms) (octets_of_all ends.me ns) fronts))
