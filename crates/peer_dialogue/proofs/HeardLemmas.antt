-- What is known of messages that were read.
use Rattle.std.proofs.Common.{◌≡◌, ◌≤◌, ◌%◌, ◌==◌, ◌∙◌, ℕ, Bool, true, false, cond, List, [], ◌∷◌, Option, Some, None, option_map, slice_get, map, filter, drop, refl, ap, subst, sym, arith}
use Rattle.std.specs.List.{AllByRecursion}
use Rattle.byteorder.specs.Endian.{big_number}
use Rattle.pw_tlvs.specs.declared.if_params.IfParams.{IfParams}
use Rattle.pw_tlvs.specs.declared.registry.Registry.TheVariants.{InterfaceParameter}
use Rattle.pw_tlvs.specs.declared.pw_fec.PwFec.{PwFec}
use Rattle.pw_tlvs.specs.Fec.{IsInformation, IsPwFec}
use Rattle.pw_tlvs.specs.SubTlvs.{IsGood, SubTlv, said}
use Rattle.pw_tlvs.specs.Written.{has_vlan}
use Rattle.ldp_grammar.specs.declared.message.Message.{Message}
use Rattle.ldp_grammar.specs.declared.message.Message.TheVariants as message
use Rattle.ldp_grammar.specs.declared.message_kind.MessageKind.{MessageKind}
use Rattle.ldp_grammar.specs.declared.message_kind.MessageKind.TheVariants as kind
use Rattle.ldp_grammar.specs.declared.why.Why.{Why}
use Rattle.ldp_grammar.specs.Rows.{fec}
use Rattle.ldp_grammar.specs.Spells.{Means, OfValue, Spelling, StandInOrder, StandsAs, Tells}
use Rattle.ldp_grammar.specs.Rows.{kind_of}
use Rattle.ldp_grammar.specs.Tlvs.{Tlv, value_of}
use Rattle.peer_dialogue.specs.Heard.{CanBeHeard}

fec_kind : (value : Option (List ℕ)) (pw : PwFec) → OfValue value (λ v. IsPwFec v pw) → pw.kind ≤ 0x7FFF
fec_kind None pw is = absurd is
fec_kind (Some v) pw is = omega (arith, is.kind)

-- a VLAN ID that was read has 12 bits
vlan_said : (subs : List SubTlv) → AllByRecursion (IsGood InterfaceParameter) subs → has_vlan (option_map (λ v. big_number 2 v) (said 0x06 subs)) ≡ true
vlan_said [] good = refl
vlan_said (s ∷ subs) good = by (s.kind == 0x06) refl (vlan_said subs good.1)
  where
    rest : List SubTlv
    rest = filter (λ (t : SubTlv). t.kind == 0x06) subs

    by : (b : Bool) → (s.kind == 0x06) ≡ b → has_vlan (option_map (λ (v : List ℕ). big_number 2 v) (slice_get (map (λ (t : SubTlv). t.value) rest) 0)) ≡ true
        → has_vlan (option_map (λ (v : List ℕ). big_number 2 v) (slice_get (map (λ (t : SubTlv). t.value) (cond b (s ∷ rest) rest)) 0)) ≡ true
    by true is later = rw is at good.0.allowed
    by false is later = later

information_vlan : (octets : List ℕ) (pw_id : Option ℕ) (params : IfParams) → IsInformation octets pw_id params → has_vlan params.vlan ≡ true
information_vlan octets None params is = ap (λ (p : IfParams). has_vlan p.vlan) is.1
information_vlan octets (Some pw_id) params is = ap has_vlan is.2.vlan ∙ vlan_said is.2.subs is.2.are.good.good

fec_vlan : (value : Option (List ℕ)) (pw : PwFec) → OfValue value (λ v. IsPwFec v pw) → has_vlan pw.params.vlan ≡ true
fec_vlan None pw is = absurd is
fec_vlan (Some v) pw is = information_vlan (drop 8 v) pw.pw_id pw.params is.information

means_heard : (k : MessageKind) (id : ℕ) (ts : List Tlv) (m : Message) → Means k id ts m → CanBeHeard m
means_heard kind.LabelMapping id ts (message.LabelMapping number pw given state points) means = (fec_kind (value_of fec ts) pw means.1, fec_vlan (value_of fec ts) pw means.1)
means_heard kind.LabelWithdraw id ts (message.LabelWithdraw number pw given) means = fec_kind (value_of fec ts) pw means.1
means_heard k id ts (message.Notification number code state pw) means = tt
means_heard k id ts (message.Hello number hold targeted request transport) means = tt
means_heard k id ts (message.Initialization number params) means = tt
means_heard k id ts (message.KeepAlive number) means = tt
means_heard k id ts (message.Address number family octets) means = tt
means_heard k id ts (message.AddressWithdraw number addresses pw macs) means = tt
means_heard k id ts (message.LabelRequest number pw) means = tt
means_heard k id ts (message.LabelRelease number pw given) means = tt
means_heard k id ts (message.LabelAbort number pw request) means = tt
means_heard k id ts (message.Other number u other) means = tt
means_heard k id ts (message.Unprocessed number other why) means = tt
means_heard k id ts m means = absurd (means)

tells_heard : (why : Option Why) (k : MessageKind) (id : ℕ) (ts : List Tlv) (m : Message) → Tells why k id ts m → CanBeHeard m
tells_heard None k id ts m tells = means_heard k id ts m tells
tells_heard (Some why) k id ts m tells = subst CanBeHeard (sym tells) tt

stands_heard : (k : Option MessageKind) (s : Spelling) (m : Message) → StandsAs k s m → CanBeHeard m
stands_heard (Some k) s m is = tells_heard is.why k s.id is.tlvs m is.tells
stands_heard None s m is = subst CanBeHeard (sym is) tt

pub spelled_heard : (spellings : List Spelling) (messages : List Message) → StandInOrder spellings messages → AllByRecursion CanBeHeard messages
spelled_heard [] [] stand = tt
spelled_heard (s ∷ spellings) (m ∷ messages) stand = (stands_heard (kind_of (s.word % 32768)) s m stand.0, spelled_heard spellings messages stand.1)
spelled_heard [] (m ∷ messages) stand = absurd stand
spelled_heard (s ∷ spellings) [] stand = absurd stand
