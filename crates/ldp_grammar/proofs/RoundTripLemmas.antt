-- What is written spells its message, and no spelling is the front of another.
use Rattle.std.proofs.Common.{◌≡◌, inr, ◌≤◌, ◌<◌, ◌+◌, ◌++◌, ℕ, Bool, true, List, [], ◌∷◌, Option, Some, None, length, flat_map, nat_lt, refl, sym, ap, subst, ◌∙◌, append-nil, length-append, arith}
use Rattle.std.specs.Prelude.{is_some, IfSome}
use Rattle.std.specs.List.{AllByRecursion}
use Rattle.std.proofs.lemmas.Bool.{and_parts}
use Rattle.std.proofs.lemmas.Bool.Decides.{nat_tests}
use Rattle.net_values.specs.declared.addr.Addr.{Addr}
use Rattle.net_values.specs.Label.{IsLabel}
use Rattle.net_values.specs.declared.mac.Mac.{Mac}
use Rattle.net_values.proofs.RowLemmas.{empty_of_length}
use Rattle.pw_tlvs.specs.declared.fec_value.FecValue.TheVariants.{Pw}
use Rattle.pw_tlvs.specs.declared.point.Point.{Point}
use Rattle.pw_tlvs.specs.declared.pw_fec.PwFec.{PwFec}
use Rattle.pw_tlvs.specs.declared.pw_status.PwStatus.{PwStatus}
use Rattle.pw_tlvs.specs.Fec.{IsPwFec}
use Rattle.pw_tlvs.specs.Macs.{mac_octets}
use Rattle.pw_tlvs.specs.Status.{written_status, IsPwStatus}
use Rattle.pw_tlvs.specs.Written.{written_fec, writable_fec, IsFecInRange, IsPointInRange}
use Rattle.pw_tlvs.proofs.LawLemmas.{fec_again, status_again}
use Rattle.ldp_grammar.specs.declared.address_list.AddressList.{AddressList}
use Rattle.ldp_grammar.specs.declared.ldp_id.LdpId.{LdpId}
use Rattle.ldp_grammar.specs.declared.message.Message.{Message}
use Rattle.ldp_grammar.specs.declared.message.Message.TheVariants as message
use Rattle.ldp_grammar.specs.declared.message_kind.MessageKind.TheVariants as kind
use Rattle.ldp_grammar.specs.declared.message_kind.MessageKind.{MessageKind}
use Rattle.ldp_grammar.specs.declared.pdu.Pdu.{Pdu}
use Rattle.ldp_grammar.specs.declared.session_params.SessionParams.{SessionParams}
use Rattle.ldp_grammar.specs.declared.status_code.StatusCode.{StatusCode}
use Rattle.ldp_grammar.specs.Octets.{two, four, two_at}
use Rattle.ldp_grammar.specs.Rows.{row_of, fec, label, mac_list, request_id, pw_status, address_list, status, hello_parameters, transport_address, session_parameters}
use Rattle.ldp_grammar.specs.Layouts.{listed}
use Rattle.ldp_grammar.specs.Tlvs.{Tlv, spell_tlv, count_of, value_of, reason_of, OfBoth, KeepsTo, IsFitting, IsReason}
use Rattle.ldp_grammar.specs.Spells.{IsSpelling, IsRead, Means, StandsFor, Spells}
use Rattle.ldp_grammar.specs.Written.{message_octets, written_spelling, written, writable, Fits, IsId, AreParams, IsAddress4, are_whole, tlv, status_octets, hello_parameters_octets, session_octets, addresses_octets, id_octets, transport_tlvs, written_tlvs, ignorable, point_tlvs, writable_fecs, is_withdrawal, IsState, AreSixOctets, HasFamily, WrittenIsRead}
use Rattle.ldp_grammar.proofs.WrittenLemmas.{status_back, hello_back, session_back, addresses_fit, keeps_none, keeps_alone, keeps_two, keeps_distinct, keeps_points, AreDistinct, HaveWords, all_fit, fec_told, has_pw_id, label_back, number_back, macs_fit, points_words, points_fitting, points_back, points_known, none_missing}
use Rattle.ldp_grammar.proofs.OctetLemmas.{read_two}
use Rattle.ldp_grammar.proofs.PduLemmas.{length_of, count_of as size_of_pdu}

-- a PDU with one message
spelled_alone : (max : ℕ) (m : Message) (id : LdpId) → max ≤ 4096 → IsId id → 6 + length (message_octets m) ≤ max → IsSpelling (written_spelling m) → StandsFor (written_spelling m) m
    → Spells (written m id) max (record { id = id; messages = m ∷ [] })
spelled_alone max m id small is fits spelling stands =
    let whole : message_octets m ≡ message_octets m ++ [] = sym (append-nil (message_octets m)) in
    let size : length (message_octets m ++ []) ≡ length (message_octets m) = ap length (sym whole) in
    record {
      spellings = written_spelling m ∷ [];
      framed = record {
        split = λ i. two 1 ++ two (6 + length (whole i)) ++ id_octets id ++ whole i;
        identifier = length-append id.router.0 (two id.space) ∙ omega (arith, is.router);
        least = omega (arith, size);
        most = omega (arith, size, fits);
      };
      router = is.router;
      space = is.space;
      fit = (spelling, tt);
      stand = (stands, tt);
    }

small_code : (n : ℕ) → nat_lt n 1073741824 ≡ true → n < 1073741824
small_code n e = grind (arith, nat_tests)

-- TLVs of these octets that are in order tell the message
is_read : (k : MessageKind) (id : ℕ) (ts : List Tlv) (m : Message) → HaveWords ts → length (flat_map spell_tlv ts) < 65536 → AllByRecursion (IsFitting (row_of k) (flat_map spell_tlv ts)) ts
    → ((n : ℕ) → KeepsTo (listed (row_of k) n) (count_of n ts)) → IsReason k ts None → Means k id ts m → IsRead k id (flat_map spell_tlv ts) m
is_read k id ts m words few fitting counts none means = record {
  tlvs = ts;
  joined = record { spelled = refl; fit = all_fit ts words few };
  faultless = record { values = fitting; counts = counts };
  why = None;
  reason = none;
  tells = means;
}

is_told : (k : MessageKind) (id : ℕ) (ts : List Tlv) (m : Message) → HaveWords ts → length (flat_map spell_tlv ts) < 65536 → AllByRecursion (IsFitting (row_of k) (flat_map spell_tlv ts)) ts
    → AreDistinct ts → IsReason k ts None → Means k id ts m → IsRead k id (flat_map spell_tlv ts) m
is_told k id ts m words few fitting distinct none means = is_read k id ts m words few fitting (λ n. keeps_distinct (listed (row_of k) n) n ts distinct) none means

-- the FEC that was written is told
pw_told : (pw : PwFec) → writable_fec pw ≡ true → IsFecInRange pw → IsPwFec (written_fec pw) pw
pw_told pw can within = fec_again pw can within

-- the TLVs of each message tell it
read_notification : (id : ℕ) (s : StatusCode) (state : Option PwStatus) (pw : Option PwFec) → s.code < 1073741824 → s.message < 4294967296 → s.kind < 65536 → IsState state
    → writable_fecs pw ≡ true → IfSome pw IsFecInRange
    → length (flat_map spell_tlv (written_tlvs (message.Notification id s state pw))) < 65536
    → IsRead kind.Notification id (flat_map spell_tlv (written_tlvs (message.Notification id s state pw))) (message.Notification id s state pw)
read_notification id s None None code message_id type held can within few =
    is_told kind.Notification id (tlv status (status_octets s) ∷ []) (message.Notification id s None None) (omega arith, tt) few ((refl, tt), tt) (refl, tt)
    (record { told = None; is_told = tt; is = refl }) (refl, status_back s code message_id type, tt, tt)
read_notification id s (Some p) None code message_id type held can within few =
    is_told kind.Notification id (tlv status (status_octets s) ∷ ignorable pw_status (written_status p) ∷ []) (message.Notification id s (Some p) None)
    (omega arith, (omega arith, tt)) few ((refl, tt), ((refl, tt), tt)) (refl, (refl, tt))
    (record { told = None; is_told = tt; is = refl }) (refl, status_back s code message_id type, status_again p held, tt)
read_notification id s None (Some pw) code message_id type held can within few =
    is_told kind.Notification id (tlv status (status_octets s) ∷ tlv fec (written_fec pw) ∷ []) (message.Notification id s None (Some pw)) (omega arith, (omega arith, tt)) few
    ((refl, tt), ((refl, fec_told pw can within), tt)) (refl, (refl, tt))
    (record { told = Some (Pw pw); is_told = pw_told pw can within; is = refl }) (refl, status_back s code message_id type, tt, pw_told pw can within)
read_notification id s (Some p) (Some pw) code message_id type held can within few =
    is_told kind.Notification id (tlv status (status_octets s) ∷ ignorable pw_status (written_status p) ∷ tlv fec (written_fec pw) ∷ []) (message.Notification id s (Some p) (Some pw))
    (omega arith, (omega arith, (omega arith, tt))) few ((refl, tt), ((refl, tt), ((refl, fec_told pw can within), tt))) (refl, (refl, (refl, tt)))
    (record { told = Some (Pw pw); is_told = pw_told pw can within; is = refl }) (refl, status_back s code message_id type, status_again p held, pw_told pw can within)

read_hello : (id hold : ℕ) (t r : Bool) (transport : Option Addr) → hold < 65536 → IsAddress4 transport
    → IsRead kind.Hello id (flat_map spell_tlv (tlv hello_parameters (hello_parameters_octets hold t r) ∷ transport_tlvs transport)) (message.Hello id hold t r transport)
read_hello id hold t r None fits four_of = record {
  tlvs = tlv hello_parameters (hello_parameters_octets hold t r) ∷ [];
  joined = record { spelled = refl; fit = ((omega arith, omega arith), tt) };
  faultless = record { values = ((refl, tt), tt); counts = λ k. keeps_alone (listed (row_of kind.Hello) k) k (tlv hello_parameters (hello_parameters_octets hold t r)) };
  why = None;
  reason = record { told = None; is_told = tt; is = refl };
  tells = (refl, hello_back hold t r fits, tt);
}
read_hello id hold t r (Some a) fits four_of = record {
  tlvs = tlv hello_parameters (hello_parameters_octets hold t r) ∷ tlv transport_address a.0 ∷ [];
  joined = record { spelled = refl; fit = ((omega arith, omega arith), ((omega arith, omega (arith, four_of)), tt)) };
  faultless = record {
    values = ((refl, tt), ((rw four_of refl, tt), tt));
    counts = λ k. keeps_two (listed (row_of kind.Hello) k) k (tlv hello_parameters (hello_parameters_octets hold t r)) (tlv transport_address a.0) (λ e. omega (arith, e));
  };
  why = None;
  reason = record { told = None; is_told = tt; is = refl };
  tells = (refl, hello_back hold t r fits, refl);
}

read_initialization : (id : ℕ) (p : SessionParams) → AreParams p → IsRead kind.Initialization id (flat_map spell_tlv (tlv session_parameters (session_octets p) ∷ [])) (message.Initialization id p)
read_initialization id p are =
    let size : length (session_octets p) ≡ 14 = omega (arith, length-append p.receiver.router.0 (two p.receiver.space), are.receiver.router) in
    record {
      tlvs = tlv session_parameters (session_octets p) ∷ [];
      joined = record { spelled = refl; fit = ((omega arith, omega (arith, size)), tt) };
      faultless = record { values = ((rw size refl, tt), tt); counts = λ k. keeps_alone (listed (row_of kind.Initialization) k) k (tlv session_parameters (session_octets p)) };
      why = None;
      reason = record { told = None; is_told = tt; is = refl };
      tells = (refl, session_back p are);
    }

read_keep_alive : (id : ℕ) → IsRead kind.KeepAlive id [] (message.KeepAlive id)
read_keep_alive id = record {
  tlvs = [];
  joined = record { spelled = refl; fit = tt };
  faultless = record { values = tt; counts = λ k. keeps_none (listed (row_of kind.KeepAlive) k) };
  why = None;
  reason = record { told = None; is_told = tt; is = refl };
  tells = refl;
}

read_address : (id family : ℕ) (octets : List ℕ) → family < 65536 → are_whole family octets ≡ true → length octets ≤ 4096
    → IsRead kind.Address id (flat_map spell_tlv (tlv address_list (addresses_octets family octets) ∷ [])) (message.Address id family octets)
read_address id family octets fits whole few = record {
  tlvs = tlv address_list (addresses_octets family octets) ∷ [];
  joined = record { spelled = refl; fit = ((omega arith, omega (arith, few)), tt) };
  faultless = record { values = ((addresses_fit family octets fits whole, tt), tt); counts = λ k. keeps_alone (listed (row_of kind.Address) k) k (tlv address_list (addresses_octets family octets)) };
  why = None;
  reason = record { told = None; is_told = tt; is = refl };
  tells = (refl, record { number = sym (read_two family octets fits); addresses = refl });
}

list_told : (a : AddressList) → a.family < 65536 → a.family ≡ two_at 0 (addresses_octets a.family a.octets)
list_told a fits = sym (read_two a.family a.octets fits)

read_withdraw : (id : ℕ) (addresses : Option AddressList) (pw : Option PwFec) (macs : Option (List Mac)) → HasFamily addresses → is_withdrawal addresses pw macs ≡ true
    → writable_fecs pw ≡ true → IfSome pw IsFecInRange → AreSixOctets macs
    → length (flat_map spell_tlv (written_tlvs (message.AddressWithdraw id addresses pw macs))) < 65536
    → IsRead kind.AddressWithdraw id (flat_map spell_tlv (written_tlvs (message.AddressWithdraw id addresses pw macs))) (message.AddressWithdraw id addresses pw macs)
read_withdraw id None None macs family tells can within six few = absurd (cc)
read_withdraw id None (Some pw) None family tells can within six few = absurd (cc)
read_withdraw id None (Some pw) (Some macs) family tells can within six few =
    is_told kind.AddressWithdraw id (tlv fec (written_fec pw) ∷ ignorable mac_list (mac_octets macs) ∷ []) (message.AddressWithdraw id None (Some pw) (Some macs))
    (omega arith, (omega arith, tt)) few ((refl, fec_told pw can within), ((macs_fit macs six, tt), tt)) (refl, (refl, tt))
    (record { told = Some (Pw pw); is_told = pw_told pw can within; is = refl }) (refl, tt, pw_told pw can within, record { joined = refl; whole = six })
read_withdraw id (Some a) None None family whole can within six few =
    is_told kind.AddressWithdraw id (tlv address_list (addresses_octets a.family a.octets) ∷ []) (message.AddressWithdraw id (Some a) None None) (omega arith, tt) few
    ((addresses_fit a.family a.octets family whole, tt), tt) (refl, tt)
    (record { told = None; is_told = tt; is = refl }) (refl, record { number = list_told a family; addresses = refl }, tt, tt)
read_withdraw id (Some a) (Some pw) None family whole can within six few =
    is_told kind.AddressWithdraw id (tlv address_list (addresses_octets a.family a.octets) ∷ tlv fec (written_fec pw) ∷ []) (message.AddressWithdraw id (Some a) (Some pw) None)
    (omega arith, (omega arith, tt)) few ((addresses_fit a.family a.octets family whole, tt), ((refl, fec_told pw can within), tt)) (refl, (refl, tt))
    (record { told = Some (Pw pw); is_told = pw_told pw can within; is = refl }) (refl, record { number = list_told a family; addresses = refl }, pw_told pw can within, tt)
read_withdraw id (Some a) None (Some macs) family whole can within six few =
    is_told kind.AddressWithdraw id (tlv address_list (addresses_octets a.family a.octets) ∷ ignorable mac_list (mac_octets macs) ∷ [])
    (message.AddressWithdraw id (Some a) None (Some macs)) (omega arith, (omega arith, tt)) few ((addresses_fit a.family a.octets family whole, tt), ((macs_fit macs six, tt), tt)) (refl, (refl, tt))
    (record { told = None; is_told = tt; is = refl }) (refl, record { number = list_told a family; addresses = refl }, tt, record { joined = refl; whole = six })
read_withdraw id (Some a) (Some pw) (Some macs) family whole can within six few =
    is_told kind.AddressWithdraw id (tlv address_list (addresses_octets a.family a.octets) ∷ tlv fec (written_fec pw) ∷ ignorable mac_list (mac_octets macs) ∷ [])
    (message.AddressWithdraw id (Some a) (Some pw) (Some macs)) (omega arith, (omega arith, (omega arith, tt))) few
    ((addresses_fit a.family a.octets family whole, tt), ((refl, fec_told pw can within), ((macs_fit macs six, tt), tt))) (refl, (refl, (refl, tt)))
    (record { told = Some (Pw pw); is_told = pw_told pw can within; is = refl })
    (refl, record { number = list_told a family; addresses = refl }, pw_told pw can within, record { joined = refl; whole = six })

-- switching points are no status
no_state : (points : List Point) → OfBoth (value_of pw_status (point_tlvs points)) None IsPwStatus
no_state [] = tt
no_state (p ∷ points) = no_state points

read_mapping : (id : ℕ) (pw : PwFec) (given : ℕ) (state : Option PwStatus) (points : List Point) → is_some pw.pw_id ≡ true → writable_fec pw ≡ true → IsFecInRange pw → IsLabel given
    → IsState state → length points ≤ 3 → AllByRecursion IsPointInRange points
    → length (flat_map spell_tlv (written_tlvs (message.LabelMapping id pw given state points))) < 65536
    → IsRead kind.LabelMapping id (flat_map spell_tlv (written_tlvs (message.LabelMapping id pw given state points))) (message.LabelMapping id pw given state points)
read_mapping id pw given None points has can within is held three all few =
    let front : List Tlv = tlv fec (written_fec pw) ∷ tlv label (four given) ∷ [] in
    let body : List ℕ = flat_map spell_tlv (front ++ point_tlvs points) in
    is_read kind.LabelMapping id (front ++ point_tlvs points) (message.LabelMapping id pw given None points) (omega arith, (omega arith, points_words points)) few
    ((refl, fec_told pw can within), ((refl, inr (subst IsLabel (label_back given is) is)), points_fitting body points all))
    (λ n. keeps_points n front points (refl, (refl, tt)) refl three)
    (record {
      told = Some (Pw pw);
      is_told = pw_told pw can within;
      is = sym (λ i. reason_of (points_known points i) (none_missing (written_fec pw) (four given) (point_tlvs points) i) (has_pw_id pw.pw_id has i));
    })
    (refl, pw_told pw can within, label_back given is, no_state points, points_back points all)
read_mapping id pw given (Some p) points has can within is held three all few =
    let front : List Tlv = tlv fec (written_fec pw) ∷ tlv label (four given) ∷ ignorable pw_status (written_status p) ∷ [] in
    let body : List ℕ = flat_map spell_tlv (front ++ point_tlvs points) in
    is_read kind.LabelMapping id (front ++ point_tlvs points) (message.LabelMapping id pw given (Some p) points) (omega arith, (omega arith, (omega arith, points_words points))) few
    ((refl, fec_told pw can within), ((refl, inr (subst IsLabel (label_back given is) is)), ((refl, tt), points_fitting body points all)))
    (λ n. keeps_points n front points (refl, (refl, (refl, tt))) refl three)
    (record {
      told = Some (Pw pw);
      is_told = pw_told pw can within;
      is = sym (λ i. reason_of (points_known points i) (none_missing (written_fec pw) (four given) (ignorable pw_status (written_status p) ∷ point_tlvs points) i) (has_pw_id pw.pw_id has i));
    })
    (refl, pw_told pw can within, label_back given is, status_again p held, points_back points all)

read_request : (id : ℕ) (pw : PwFec) → writable_fec pw ≡ true → IsFecInRange pw → length (flat_map spell_tlv (written_tlvs (message.LabelRequest id pw))) < 65536
    → IsRead kind.LabelRequest id (flat_map spell_tlv (written_tlvs (message.LabelRequest id pw))) (message.LabelRequest id pw)
read_request id pw can within few =
    is_told kind.LabelRequest id (tlv fec (written_fec pw) ∷ []) (message.LabelRequest id pw) (omega arith, tt) few ((refl, fec_told pw can within), tt) (refl, tt)
    (record { told = Some (Pw pw); is_told = pw_told pw can within; is = refl }) (refl, pw_told pw can within)

read_label_withdraw : (id : ℕ) (pw : PwFec) (given : Option ℕ) → writable_fec pw ≡ true → IsFecInRange pw → IfSome given IsLabel
    → length (flat_map spell_tlv (written_tlvs (message.LabelWithdraw id pw given))) < 65536
    → IsRead kind.LabelWithdraw id (flat_map spell_tlv (written_tlvs (message.LabelWithdraw id pw given))) (message.LabelWithdraw id pw given)
read_label_withdraw id pw None can within is few =
    is_told kind.LabelWithdraw id (tlv fec (written_fec pw) ∷ []) (message.LabelWithdraw id pw None) (omega arith, tt) few ((refl, fec_told pw can within), tt) (refl, tt)
    (record { told = Some (Pw pw); is_told = pw_told pw can within; is = refl }) (refl, pw_told pw can within, tt)
read_label_withdraw id pw (Some given) can within is few =
    is_told kind.LabelWithdraw id (tlv fec (written_fec pw) ∷ tlv label (four given) ∷ []) (message.LabelWithdraw id pw (Some given)) (omega arith, (omega arith, tt)) few
    ((refl, fec_told pw can within), ((refl, inr (subst IsLabel (label_back given is) is)), tt)) (refl, (refl, tt))
    (record { told = Some (Pw pw); is_told = pw_told pw can within; is = refl }) (refl, pw_told pw can within, label_back given is)

read_label_release : (id : ℕ) (pw : PwFec) (given : Option ℕ) → writable_fec pw ≡ true → IsFecInRange pw → IfSome given IsLabel
    → length (flat_map spell_tlv (written_tlvs (message.LabelRelease id pw given))) < 65536
    → IsRead kind.LabelRelease id (flat_map spell_tlv (written_tlvs (message.LabelRelease id pw given))) (message.LabelRelease id pw given)
read_label_release id pw None can within is few =
    is_told kind.LabelRelease id (tlv fec (written_fec pw) ∷ []) (message.LabelRelease id pw None) (omega arith, tt) few ((refl, fec_told pw can within), tt) (refl, tt)
    (record { told = Some (Pw pw); is_told = pw_told pw can within; is = refl }) (refl, pw_told pw can within, tt)
read_label_release id pw (Some given) can within is few =
    is_told kind.LabelRelease id (tlv fec (written_fec pw) ∷ tlv label (four given) ∷ []) (message.LabelRelease id pw (Some given)) (omega arith, (omega arith, tt)) few
    ((refl, fec_told pw can within), ((refl, inr (subst IsLabel (label_back given is) is)), tt)) (refl, (refl, tt))
    (record { told = Some (Pw pw); is_told = pw_told pw can within; is = refl }) (refl, pw_told pw can within, label_back given is)

read_abort : (id : ℕ) (pw : PwFec) (request : ℕ) → writable_fec pw ≡ true → IsFecInRange pw → request < 4294967296
    → length (flat_map spell_tlv (written_tlvs (message.LabelAbort id pw request))) < 65536
    → IsRead kind.LabelAbort id (flat_map spell_tlv (written_tlvs (message.LabelAbort id pw request))) (message.LabelAbort id pw request)
read_abort id pw request can within small few =
    is_told kind.LabelAbort id (tlv fec (written_fec pw) ∷ tlv request_id (four request) ∷ []) (message.LabelAbort id pw request) (omega arith, (omega arith, tt)) few
    ((refl, fec_told pw can within), ((refl, tt), tt)) (refl, (refl, tt))
    (record { told = Some (Pw pw); is_told = pw_told pw can within; is = refl }) (refl, pw_told pw can within, number_back request small)

record IsTold (m : Message) : Type 0 where
  spelling : IsSpelling (written_spelling m)
  stands : StandsFor (written_spelling m) m

told : (m : Message) → writable m ≡ true → Fits m → 6 + length (message_octets m) ≤ 4096 → IsTold m
told (message.Notification id s state pw) can fits size =
    let both = and_parts (nat_lt s.code 1073741824) (writable_fecs pw) can in
    record {
      spelling = (omega arith, omega (arith, size), fits.0);
      stands = read_notification id s state pw (small_code s.code both.0) fits.1 fits.2 fits.3 both.1 fits.4 (omega (arith, size));
    }
told (message.Hello id hold t r transport) can fits size = record {
  spelling = (omega arith, omega (arith, size), fits.0);
  stands = read_hello id hold t r transport fits.1 fits.2;
}
told (message.Initialization id p) can fits size = record {
  spelling = (omega arith, omega (arith, size), fits.0);
  stands = read_initialization id p fits.1;
}
told (message.KeepAlive id) can fits size = record {
  spelling = (omega arith, omega (arith, size), fits);
  stands = read_keep_alive id;
}
told (message.Address id family octets) can fits size = record {
  spelling = (omega arith, omega (arith, size), fits.0);
  stands = read_address id family octets fits.1 can (omega (arith, size, length-append octets []));
}
told (message.AddressWithdraw id addresses pw macs) can fits size =
    let both = and_parts (is_withdrawal addresses pw macs) (writable_fecs pw) can in
    record {
      spelling = (omega arith, omega (arith, size), fits.0);
      stands = read_withdraw id addresses pw macs fits.1 both.0 both.1 fits.2 fits.3 (omega (arith, size));
    }
told (message.LabelMapping id pw given state points) can fits size =
    let both = and_parts (is_some pw.pw_id) (writable_fec pw) can in
    record {
      spelling = (omega arith, omega (arith, size), fits.0);
      stands = read_mapping id pw given state points both.0 both.1 fits.1 fits.2 fits.3 fits.4 fits.5 (omega (arith, size));
    }
told (message.LabelRequest id pw) can fits size = record {
  spelling = (omega arith, omega (arith, size), fits.0);
  stands = read_request id pw can fits.1 (omega (arith, size));
}
told (message.LabelWithdraw id pw given) can fits size = record {
  spelling = (omega arith, omega (arith, size), fits.0);
  stands = read_label_withdraw id pw given can fits.1 fits.2 (omega (arith, size));
}
told (message.LabelRelease id pw given) can fits size = record {
  spelling = (omega arith, omega (arith, size), fits.0);
  stands = read_label_release id pw given can fits.1 fits.2 (omega (arith, size));
}
told (message.LabelAbort id pw request) can fits size = record {
  spelling = (omega arith, omega (arith, size), fits.0);
  stands = read_abort id pw request can fits.1 fits.2 (omega (arith, size));
}
told (message.Other id u number) can fits size = absurd (cc)
told (message.Unprocessed id number why) can fits size = absurd (cc)

-- what is written is read
read_back : (max : ℕ) (m : Message) (id : LdpId) → max ≤ 4096 → writable m ≡ true → Fits m → IsId id → 6 + length (message_octets m) ≤ max
    → Spells (written m id) max (record { id = id; messages = m ∷ [] })
read_back max m id small can fits is size =
    let t = told m can fits (omega (arith, size, small)) in
    spelled_alone max m id small is size t.spelling t.stands

-- no spelling is the front of another
pub same_length : (bytes more : List ℕ) → 4 ≤ length bytes → two_at 2 (bytes ++ more) ≡ two_at 2 bytes
same_length [] more long = absurd (omega arith)
same_length (a ∷ []) more long = absurd (omega arith)
same_length (a ∷ b ∷ []) more long = absurd (omega arith)
same_length (a ∷ b ∷ c ∷ []) more long = absurd (omega arith)
same_length (a ∷ b ∷ c ∷ d ∷ bytes) more long = refl

no_front : (max : ℕ) (p q : Pdu) (bytes more : List ℕ) → max ≤ 4096 → Spells bytes max p → Spells (bytes ++ more) max q → more ≡ []
no_front max p q bytes more small is_p is_q =
    let count = size_of_pdu bytes _ _ max is_p.framed in
    let told_p = length_of bytes _ _ max small is_p.framed in
    let count_q = size_of_pdu (bytes ++ more) _ _ max is_q.framed in
    let told_q = length_of (bytes ++ more) _ _ max small is_q.framed in
    empty_of_length more (omega (arith, count, told_p, count_q, told_q, same_length bytes more (omega (arith, count)), length-append bytes more))

pub written_is_read : WrittenIsRead
written_is_read = record { read = read_back; no_front = no_front }
