-- Octets stand for one message at most.
use Rattle.std.proofs.Common.{◌≡◌, ◌<◌, ◌%◌, ◌^◌, ◌++◌, ℕ, Bool, List, [], ◌∷◌, Option, Some, None, flat_map, refl, sym, ap, subst, ◌∙◌, arith}
use Rattle.net_values.specs.declared.addr.Addr.{Addr}
use Rattle.net_values.proofs.RowLemmas.{same_front}
use Rattle.pw_tlvs.specs.declared.fec_value.FecValue.{FecValue}
use Rattle.pw_tlvs.specs.declared.point.Point.{Point}
use Rattle.pw_tlvs.specs.Fec.{IsFecValue, IsPwFec}
use Rattle.pw_tlvs.specs.Macs.{AreMacs}
use Rattle.pw_tlvs.specs.Status.{IsPwStatus}
use Rattle.pw_tlvs.proofs.FecLemmas.{one_fec, one_pw}
use Rattle.pw_tlvs.proofs.MacLemmas.{one_macs}
use Rattle.pw_tlvs.proofs.PointLemmas.{one_point}
use Rattle.pw_tlvs.proofs.StatusLemmas.{one_status}
use Rattle.ldp_grammar.specs.declared.address_list.AddressList.{AddressList}
use Rattle.ldp_grammar.specs.declared.message.Message.{Message}
use Rattle.ldp_grammar.specs.declared.message.Message.TheVariants as message
use Rattle.ldp_grammar.specs.declared.message_kind.MessageKind.{MessageKind}
use Rattle.ldp_grammar.specs.declared.message_kind.MessageKind.TheVariants as kind
use Rattle.ldp_grammar.specs.declared.session_params.SessionParams.{SessionParams}
use Rattle.ldp_grammar.specs.declared.status_code.StatusCode.{StatusCode}
use Rattle.ldp_grammar.specs.declared.why.Why.{Why}
use Rattle.ldp_grammar.specs.declared.pdu.Pdu.{Pdu}
use Rattle.ldp_grammar.specs.Octets.{two}
use Rattle.ldp_grammar.specs.Rows.{row_of, kind_of, fec, address_list, label, status, hello_parameters, transport_address, mac_list, session_parameters, request_id, pw_status, switching_point}
use Rattle.ldp_grammar.specs.Tlvs.{Tlv, OfBoth, IsReason, value_of, values_of, fec_value, fec_reason, reason_of, first_unknown, missing}
use Rattle.ldp_grammar.specs.Values.{IsStatus, IsHello, IsSession, IsAddresses, IsAddressList, IsTransportAddress, IsNumber, ArePoints}
use Rattle.ldp_grammar.specs.Spells.{Spelling, spell_message, IsSpelling, OfValue, Means, Tells, StandsAs, StandInOrder, Spells}
use Rattle.ldp_grammar.proofs.ItemLemmas.{one_list}
use Rattle.ldp_grammar.proofs.OctetLemmas.{same_two}
use Rattle.ldp_grammar.proofs.SpellingLemmas.{messages_apart}
use Rattle.ldp_grammar.proofs.TlvLemmas.{joined_once}
use Rattle.ldp_grammar.proofs.MessageLemmas.{octets_of}
use Rattle.ldp_grammar.specs.FirstFault.{Names, OneReading}
use Rattle.ldp_grammar.proofs.PduLemmas.{same_frame, one_first, never_both}

-- values stand for one thing at most
status_once : (o : Option (List ℕ)) (a b : StatusCode) → OfValue o (λ v. IsStatus v a) → OfValue o (λ v. IsStatus v b) → a ≡ b
status_once None a b is_a is_b = absurd is_a
status_once (Some v) a b is_a is_b = λ i. record {
  fatal = (is_a.fatal ∙ sym is_b.fatal) i;
  forward = (is_a.forward ∙ sym is_b.forward) i;
  code = (is_a.code ∙ sym is_b.code) i;
  message = (is_a.message ∙ sym is_b.message) i;
  kind = (is_a.kind ∙ sym is_b.kind) i;
}

session_once : (o : Option (List ℕ)) (a b : SessionParams) → OfValue o (λ v. IsSession v a) → OfValue o (λ v. IsSession v b) → a ≡ b
session_once None a b is_a is_b = absurd is_a
session_once (Some v) a b is_a is_b = λ i. record {
  version = (is_a.version ∙ sym is_b.version) i;
  keepalive = (is_a.keepalive ∙ sym is_b.keepalive) i;
  demand = (is_a.demand ∙ sym is_b.demand) i;
  loops = (is_a.loops ∙ sym is_b.loops) i;
  limit = (is_a.limit ∙ sym is_b.limit) i;
  max_pdu = (is_a.max_pdu ∙ sym is_b.max_pdu) i;
  receiver = record { router = record { 0 = (is_a.router ∙ sym is_b.router) i }; space = (is_a.space ∙ sym is_b.space) i };
}

record SameHello (a b : ℕ) (t u r s : Bool) : Type 0 where
  hold : a ≡ b
  targeted : t ≡ u
  request : r ≡ s

hello_once : (o : Option (List ℕ)) (a b : ℕ) (t u r s : Bool) → OfValue o (λ v. IsHello v a t r) → OfValue o (λ v. IsHello v b u s) → SameHello a b t u r s
hello_once None a b t u r s is_a is_b = absurd is_a
hello_once (Some v) a b t u r s is_a is_b = record { hold = is_a.time ∙ sym is_b.time; targeted = is_a.t_bit ∙ sym is_b.t_bit; request = is_a.r_bit ∙ sym is_b.r_bit }

addresses_once : (o : Option (List ℕ)) (a b : ℕ) (xs ys : List ℕ) → OfValue o (λ v. IsAddresses v a xs) → OfValue o (λ v. IsAddresses v b ys) → (a ≡ b) × (xs ≡ ys)
addresses_once None a b xs ys is_a is_b = absurd is_a
addresses_once (Some v) a b xs ys is_a is_b = (is_a.number ∙ sym is_b.number, is_a.addresses ∙ sym is_b.addresses)

both_once : {A : Type 0} (P : List ℕ → A → Type 0) → ((v : List ℕ) (x y : A) → P v x → P v y → x ≡ y) → (o : Option (List ℕ)) (a b : Option A) → OfBoth o a P → OfBoth o b P → a ≡ b
both_once P once None None None of_a of_b = refl
both_once P once None (Some x) b of_a of_b = absurd of_a
both_once P once None None (Some y) of_a of_b = absurd of_b
both_once P once (Some v) None b of_a of_b = absurd of_a
both_once P once (Some v) (Some x) None of_a of_b = absurd of_b
both_once P once (Some v) (Some x) (Some y) of_a of_b = ap Some (once v x y of_a of_b)

address_once : (v : List ℕ) (x y : Addr) → IsTransportAddress v x → IsTransportAddress v y → x ≡ y
address_once v x y is_x is_y = λ i. record { 0 = (is_x ∙ sym is_y) i }

list_once : (v : List ℕ) (x y : AddressList) → IsAddressList v x → IsAddressList v y → x ≡ y
list_once v x y is_x is_y = λ i. record { family = (is_x.number ∙ sym is_y.number) i; octets = (is_x.addresses ∙ sym is_y.addresses) i }

number_once : (v : List ℕ) (x y : ℕ) → IsNumber v x → IsNumber v y → x ≡ y
number_once v x y is_x is_y = is_x ∙ sym is_y

value_once : {A : Type 0} (P : List ℕ → A → Type 0) → ((v : List ℕ) (x y : A) → P v x → P v y → x ≡ y) → (o : Option (List ℕ)) (a b : A) → OfValue o (λ v. P v a) → OfValue o (λ v. P v b) → a ≡ b
value_once P once None a b of_a of_b = absurd of_a
value_once P once (Some v) a b of_a of_b = once v a b of_a of_b

points_once : (values : List (List ℕ)) (a b : List Point) → ArePoints values a → ArePoints values b → a ≡ b
points_once [] [] [] are_a are_b = refl
points_once [] (x ∷ a) b are_a are_b = absurd are_a
points_once [] [] (y ∷ b) are_a are_b = absurd are_b
points_once (v ∷ values) [] b are_a are_b = absurd are_a
points_once (v ∷ values) (x ∷ a) [] are_a are_b = absurd are_b
points_once (v ∷ values) (x ∷ a) (y ∷ b) are_a are_b =
    let head : x ≡ y = one_point v x y are_a.0 are_b.0 in
    let tail : a ≡ b = points_once values a b are_a.1 are_b.1 in
    λ i. head i ∷ tail i

-- TLVs tell one message at most
means_once : (k : MessageKind) (id : ℕ) (ts : List Tlv) (m n : Message) → Means k id ts m → Means k id ts n → m ≡ n
means_once kind.Notification id ts (message.Notification a s p f) (message.Notification b t q g) ma mb =
    let same = status_once (value_of status ts) s t ma.1 mb.1 in
    let state = both_once IsPwStatus one_status (value_of pw_status ts) p q ma.2 mb.2 in
    let pw = both_once IsPwFec one_pw (value_of fec ts) f g ma.3 mb.3 in
    λ i. message.Notification ((ma.0 ∙ sym mb.0) i) (same i) (state i) (pw i)
means_once kind.Notification id ts (message.Notification a s p f) n ma mb = absurd mb
means_once kind.Notification id ts m n ma mb = absurd ma
means_once kind.Hello id ts (message.Hello a h t r x) (message.Hello b g u s y) ma mb =
    let same = hello_once (value_of hello_parameters ts) h g t u r s ma.1 mb.1 in
    let address = both_once IsTransportAddress address_once (value_of transport_address ts) x y ma.2 mb.2 in
    λ i. message.Hello ((ma.0 ∙ sym mb.0) i) (same.hold i) (same.targeted i) (same.request i) (address i)
means_once kind.Hello id ts (message.Hello a h t r x) n ma mb = absurd mb
means_once kind.Hello id ts m n ma mb = absurd ma
means_once kind.Initialization id ts (message.Initialization a s) (message.Initialization b t) ma mb =
    let same = session_once (value_of session_parameters ts) s t ma.1 mb.1 in
    λ i. message.Initialization ((ma.0 ∙ sym mb.0) i) (same i)
means_once kind.Initialization id ts (message.Initialization a s) n ma mb = absurd mb
means_once kind.Initialization id ts m n ma mb = absurd ma
means_once kind.KeepAlive id ts (message.KeepAlive a) (message.KeepAlive b) ma mb = λ i. message.KeepAlive ((ma ∙ sym mb) i)
means_once kind.KeepAlive id ts (message.KeepAlive a) n ma mb = absurd mb
means_once kind.KeepAlive id ts m n ma mb = absurd ma
means_once kind.Address id ts (message.Address a f x) (message.Address b g y) ma mb =
    let same = addresses_once (value_of address_list ts) f g x y ma.1 mb.1 in
    λ i. message.Address ((ma.0 ∙ sym mb.0) i) (same.0 i) (same.1 i)
means_once kind.Address id ts (message.Address a f x) n ma mb = absurd mb
means_once kind.Address id ts m n ma mb = absurd ma
means_once kind.AddressWithdraw id ts (message.AddressWithdraw a x f u) (message.AddressWithdraw b y g v) ma mb =
    let same = both_once IsAddressList list_once (value_of address_list ts) x y ma.1 mb.1 in
    let pw = both_once IsPwFec one_pw (value_of fec ts) f g ma.2 mb.2 in
    let macs = both_once AreMacs one_macs (value_of mac_list ts) u v ma.3 mb.3 in
    λ i. message.AddressWithdraw ((ma.0 ∙ sym mb.0) i) (same i) (pw i) (macs i)
means_once kind.AddressWithdraw id ts (message.AddressWithdraw a x f u) n ma mb = absurd mb
means_once kind.AddressWithdraw id ts m n ma mb = absurd ma
means_once kind.LabelMapping id ts (message.LabelMapping a f x p u) (message.LabelMapping b g y q v) ma mb =
    let pw = value_once IsPwFec one_pw (value_of fec ts) f g ma.1 mb.1 in
    let given = value_once IsNumber number_once (value_of label ts) x y ma.2 mb.2 in
    let state = both_once IsPwStatus one_status (value_of pw_status ts) p q ma.3 mb.3 in
    let points = points_once (values_of switching_point ts) u v ma.4 mb.4 in
    λ i. message.LabelMapping ((ma.0 ∙ sym mb.0) i) (pw i) (given i) (state i) (points i)
means_once kind.LabelMapping id ts (message.LabelMapping a f x p u) n ma mb = absurd mb
means_once kind.LabelMapping id ts m n ma mb = absurd ma
means_once kind.LabelRequest id ts (message.LabelRequest a f) (message.LabelRequest b g) ma mb =
    let pw = value_once IsPwFec one_pw (value_of fec ts) f g ma.1 mb.1 in
    λ i. message.LabelRequest ((ma.0 ∙ sym mb.0) i) (pw i)
means_once kind.LabelRequest id ts (message.LabelRequest a f) n ma mb = absurd mb
means_once kind.LabelRequest id ts m n ma mb = absurd ma
means_once kind.LabelWithdraw id ts (message.LabelWithdraw a f x) (message.LabelWithdraw b g y) ma mb =
    let pw = value_once IsPwFec one_pw (value_of fec ts) f g ma.1 mb.1 in
    let given = both_once IsNumber number_once (value_of label ts) x y ma.2 mb.2 in
    λ i. message.LabelWithdraw ((ma.0 ∙ sym mb.0) i) (pw i) (given i)
means_once kind.LabelWithdraw id ts (message.LabelWithdraw a f x) n ma mb = absurd mb
means_once kind.LabelWithdraw id ts m n ma mb = absurd ma
means_once kind.LabelRelease id ts (message.LabelRelease a f x) (message.LabelRelease b g y) ma mb =
    let pw = value_once IsPwFec one_pw (value_of fec ts) f g ma.1 mb.1 in
    let given = both_once IsNumber number_once (value_of label ts) x y ma.2 mb.2 in
    λ i. message.LabelRelease ((ma.0 ∙ sym mb.0) i) (pw i) (given i)
means_once kind.LabelRelease id ts (message.LabelRelease a f x) n ma mb = absurd mb
means_once kind.LabelRelease id ts m n ma mb = absurd ma
means_once kind.LabelAbort id ts (message.LabelAbort a f x) (message.LabelAbort b g y) ma mb =
    let pw = value_once IsPwFec one_pw (value_of fec ts) f g ma.1 mb.1 in
    let request = value_once IsNumber number_once (value_of request_id ts) x y ma.2 mb.2 in
    λ i. message.LabelAbort ((ma.0 ∙ sym mb.0) i) (pw i) (request i)
means_once kind.LabelAbort id ts (message.LabelAbort a f x) n ma mb = absurd mb
means_once kind.LabelAbort id ts m n ma mb = absurd ma

-- there is one first reason
reason_once : (k : MessageKind) (ts : List Tlv) (a b : Option Why) → IsReason k ts a → IsReason k ts b → a ≡ b
reason_once k ts a b is_a is_b =
    let told : is_a.told ≡ is_b.told = both_once IsFecValue one_fec (fec_value (row_of k) ts) is_a.told is_b.told is_a.is_told is_b.is_told in
    is_a.is ∙ (ap (λ (o : Option FecValue). reason_of (first_unknown (row_of k) ts) (missing (row_of k) ts) (fec_reason k o)) told ∙ sym is_b.is)

tells_once : (why : Option Why) (k : MessageKind) (id : ℕ) (ts : List Tlv) (m n : Message) → Tells why k id ts m → Tells why k id ts n → m ≡ n
tells_once None k id ts m n tells_m tells_n = means_once k id ts m n tells_m tells_n
tells_once (Some why) k id ts m n tells_m tells_n = tells_m ∙ sym tells_n

stands_once : (o : Option MessageKind) (s : Spelling) (m n : Message) → StandsAs o s m → StandsAs o s n → m ≡ n
stands_once None s m n is_m is_n = is_m ∙ sym is_n
stands_once (Some k) s m n is_m is_n =
    let same : is_n.tlvs ≡ is_m.tlvs = joined_once s.body is_n.tlvs is_m.tlvs is_n.joined is_m.joined in
    let why : is_n.why ≡ is_m.why = reason_once k is_m.tlvs is_n.why is_m.why (subst (λ (ts : List Tlv). IsReason k ts is_n.why) same is_n.reason) is_m.reason in
    let tells : Tells is_n.why k s.id is_m.tlvs n = subst (λ (ts : List Tlv). Tells is_n.why k s.id ts n) same is_n.tells in
    tells_once is_m.why k s.id is_m.tlvs m n is_m.tells (subst (λ (w : Option Why). Tells w k s.id is_m.tlvs n) why tells)

stand_once : (ss : List Spelling) (ms ns : List Message) → StandInOrder ss ms → StandInOrder ss ns → ms ≡ ns
stand_once [] [] [] is_m is_n = refl
stand_once [] (m ∷ ms) ns is_m is_n = absurd is_m
stand_once [] [] (n ∷ ns) is_m is_n = absurd is_n
stand_once (s ∷ ss) [] ns is_m is_n = absurd is_m
stand_once (s ∷ ss) (m ∷ ms) [] is_m is_n = absurd is_n
stand_once (s ∷ ss) (m ∷ ms) (n ∷ ns) is_m is_n =
    let head : m ≡ n = stands_once (kind_of (s.word % 2 ^ 15)) s m n is_m.0 is_n.0 in
    let tail : ms ≡ ns = stand_once ss ms ns is_m.1 is_n.1 in
    λ i. head i ∷ tail i

same_space : (a b : ℕ) → a < 65536 → b < 65536 → two a ≡ two b → a ≡ b
same_space a b fits_a fits_b e = same_two a b fits_a fits_b (cc (e)) (cc (e))

-- one PDU at most is spelled
pub one_pdu : (bytes : List ℕ) (max : ℕ) (p q : Pdu) → Spells bytes max p → Spells bytes max q → p ≡ q
one_pdu bytes max p q is_p is_q =
    let frame = same_frame bytes (p.id.router.0 ++ two p.id.space) (q.id.router.0 ++ two q.id.space) (flat_map spell_message is_p.spellings)
    (flat_map spell_message is_q.spellings) max is_p.framed is_q.framed in
    let spelled : is_q.spellings ≡ is_p.spellings =
    one_list spell_message IsSpelling messages_apart (λ s. omega (arith, octets_of s [])) is_q.spellings is_p.spellings is_q.fit is_p.fit (sym frame.one_body) in
    let id = same_front p.id.router.0 q.id.router.0 (two p.id.space) (two q.id.space) (is_p.router ∙ sym is_q.router) frame.one_sender in
    let space : p.id.space ≡ q.id.space = same_space p.id.space q.id.space is_p.space is_q.space id.1 in
    let messages : p.messages ≡ q.messages = stand_once is_p.spellings p.messages q.messages is_p.stand (subst (λ (ss : List Spelling). StandInOrder ss q.messages) spelled is_q.stand) in
    λ i. record { id = record { router = record { 0 = id.0 i }; space = space i }; messages = messages i }

pub one_reading : OneReading
one_reading = record {
  one_pdu = one_pdu;
  one_fault = λ bytes max f g is_f is_g. one_first (Names bytes max) f g is_f is_g;
  not_both = never_both;
}
