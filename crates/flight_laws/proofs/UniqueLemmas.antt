-- Octets are those of one list of messages alone, of those that an end says.
use Rattle.std.proofs.Common.{◌≡◌, ◌∙◌, ℕ, List, [], ◌∷◌, refl, sym, ap, arith}
use Rattle.net_values.specs.declared.addr.Addr.{Addr}
use Rattle.ldp_grammar.specs.declared.message.Message.{Message}
use Rattle.ldp_grammar.specs.declared.pdu.Pdu.{Pdu}
use Rattle.ldp_stream.specs.FrontOf.{More, Got, front_of}
use Rattle.ldp_stream.proofs.FrontOfLemmas.{front_is_read}
use Rattle.ldp_stream.proofs.CommonLemmas.{none_front}
use Rattle.session_core.specs.declared.peers.Peers.{Peers}
use Rattle.pw_messages.specs.Sender.{platform_of}
use Rattle.flight_laws.specs.Messages.{AreSaid, IsSaidAcross, octets_of_all}
use Rattle.flight_laws.specs.Pair.{AreFit}
use Rattle.flight_laws.proofs.SaidLemmas.{IsReady, all_octets, ready}
use Rattle.flight_laws.proofs.ReadyLemmas.{joined_same}

-- the first of some messages stands in front of their octets
front_said : (ends : Peers) (m : Message) (ms : List Message) → AreFit ends → IsSaidAcross ends m → AreSaid ends ms
    → front_of 4096 (octets_of_all ends.me (m ∷ ms)) ≡ Got (record { id = platform_of ends.me; messages = m ∷ [] }) (octets_of_all ends.me ms)
front_said ends m ms fit said others =
    front_is_read.written_first 4096 m (platform_of ends.me) (octets_of_all ends.me ms) (all_octets ends (m ∷ ms) fit (said, others)) (omega arith) is_ready.can is_ready.fits
    (record { router = fit.me.four; space = omega arith }) (omega (arith, is_ready.short))
  where
    is_ready : IsReady m ends.me
    is_ready = ready ends m fit said

no_more : {pdu : Pdu} {rest : List ℕ} → More ≡ Got pdu rest → ⊥
no_more e = cc

same_message : (router : Addr) (x y : Message) (xs ys : List ℕ) → Got (record { id = platform_of router; messages = x ∷ [] }) xs
    ≡ Got (record { id = platform_of router; messages = y ∷ [] }) ys → x ≡ y
same_message router x y xs ys e = head (ap (λ (p : Pdu). p.messages) (pdu _ _ e))
  where
    pdu : (p q : Pdu) → Got p xs ≡ Got q ys → p ≡ q
    pdu p q e = cc

    head : x ∷ [] ≡ y ∷ [] → x ≡ y
    head e = cc

same_rest : (router : Addr) (x y : Message) (xs ys : List ℕ) → Got (record { id = platform_of router; messages = x ∷ [] }) xs ≡ Got (record { id = platform_of router; messages = y ∷ [] }) ys → xs ≡ ys
same_rest router x y xs ys e = cc

pub said_once : (ends : Peers) (xs ys : List Message) → AreFit ends → AreSaid ends xs → AreSaid ends ys → octets_of_all ends.me xs ≡ octets_of_all ends.me ys → xs ≡ ys
said_once ends [] [] fit one other e = refl
said_once ends [] (y ∷ ys) fit one other e = absurd (no_more (sym none_front ∙ (ap (front_of 4096) e ∙ front_said ends y ys fit other.0 other.1)))
said_once ends (x ∷ xs) [] fit one other e = absurd (no_more (sym none_front ∙ (ap (front_of 4096) (sym e) ∙ front_said ends x xs fit one.0 one.1)))
said_once ends (x ∷ xs) (y ∷ ys) fit one other e =
    let fronts = sym (front_said ends x xs fit one.0 one.1) ∙ (ap (front_of 4096) e ∙ front_said ends y ys fit other.0 other.1) in
    joined_same x y xs ys (same_message ends.me x y (octets_of_all ends.me xs) (octets_of_all ends.me ys) fronts)
    (said_once ends xs ys fit one.1 other.1 (same_rest ends.me x y (octets_of_all ends.me xs) (octets_of_all ends.me ys) fronts))
