-- TLVs without fault tell a message: each kind has one that they mean, or a reason why it is not processed.
use Rattle.std.proofs.Common.{◌≡◌, ◌%◌, ◌⊎◌, inl, inr, ℕ, Bool, true, List, [], ◌∷◌, Option, Some, None, length, take, drop, nat_eq, eqb-true, refl, sym, ap, subst, ◌∙◌}
use Rattle.std.specs.Prelude.{◌^◌, slice_index}
use Rattle.std.proofs.lemmas.Bool.{cases_Bool}
use Rattle.std.specs.List.{AllByRecursion}
use Rattle.byteorder.specs.Endian.{big_number}
use Rattle.net_values.specs.declared.field.Field.{Field}
use Rattle.net_values.specs.declared.field.Field.TheVariants as field
use Rattle.pw_tlvs.specs.declared.fec_value.FecValue.{FecValue}
use Rattle.pw_tlvs.specs.declared.fec_value.FecValue.TheVariants.{Pw, Foreign}
use Rattle.pw_tlvs.specs.declared.point.Point.{Point}
use Rattle.pw_tlvs.specs.Fec.{IsFecValue, IsPwFec}
use Rattle.pw_tlvs.specs.Macs.{AreMacs}
use Rattle.pw_tlvs.specs.Status.{IsPwStatus}
use Rattle.pw_tlvs.proofs.ReadingLemmas.{told, refused, macs_reading}
use Rattle.ldp_grammar.specs.declared.message.Message.{Message}
use Rattle.ldp_grammar.specs.declared.message.Message.TheVariants as message
use Rattle.ldp_grammar.specs.declared.message_kind.MessageKind.{MessageKind}
use Rattle.ldp_grammar.specs.declared.message_kind.MessageKind.TheVariants as kind
use Rattle.ldp_grammar.specs.declared.why.Why.{Why}
use Rattle.ldp_grammar.specs.Octets.{two_at, four_at, bit}
use Rattle.ldp_grammar.specs.Rows.{Row, row_of, type_of, is_in, fec, address_list, label, status, hello_parameters, transport_address, mac_list, session_parameters, request_id, pw_status, switching_point}
use Rattle.ldp_grammar.specs.Layouts.{listed}
use Rattle.ldp_grammar.specs.Tlvs.{Tlv, type_in, IsJoined, IsFaultless, IsFitting, HasValue, OfBoth, IsReason, value_of, values_of, fec_value, where_listed, fec_reason, reason_of, first_absent, first_unknown, missing}
use Rattle.ldp_grammar.specs.Values.{IsStatus, IsHello, IsSession, IsAddresses, IsAddressList, IsTransportAddress, IsNumber, ArePoints}
use Rattle.ldp_grammar.specs.Spells.{OfValue, Means, Tells, IsRead}
use Rattle.ldp_grammar.proofs.TlvLemmas.{value_fits, none_of, needed_there, rows_have_fields}
use Rattle.ldp_grammar.proofs.ForeignLemmas.{no_reason, told_pw}

-- what a value stands for
record Made {A : Type 0} (P : List ℕ → A → Type 0) (v : List ℕ) : Type 0 where
  value : A
  is : P v value

-- what the value of a TLV that is there stands for
record OfNeeded {A : Type 0} (P : List ℕ → A → Type 0) (o : Option (List ℕ)) : Type 0 where
  value : A
  is : OfValue o (λ v. P v value)

-- what the value of a TLV that may be there stands for
record OfFurther {A : Type 0} (P : List ℕ → A → Type 0) (o : Option (List ℕ)) : Type 0 where
  value : Option A
  is : OfBoth o value P

of_needed : {A : Type 0} (P : List ℕ → A → Type 0) (o : Option (List ℕ)) → (o ≡ None → ⊥) → ((v : List ℕ) → o ≡ Some v → Made P v) → OfNeeded P o
of_needed P None some make = absurd (some refl)
of_needed P (Some v) some make = let m = make v refl in record { value = m.value; is = m.is }

of_further : {A : Type 0} (P : List ℕ → A → Type 0) (o : Option (List ℕ)) → ((v : List ℕ) → o ≡ Some v → Made P v) → OfFurther P o
of_further P None make = record { value = None; is = tt }
of_further P (Some v) make = let m = make v refl in record { value = Some m.value; is = m.is }

status_made : (v : List ℕ) → Made IsStatus v
status_made v = record {
  value = record { fatal = bit 31 (four_at 0 v); forward = bit 30 (four_at 0 v); code = four_at 0 v % 2 ^ 30; message = four_at 4 v; kind = two_at 8 v };
  is = record { fatal = refl; forward = refl; code = refl; message = refl; kind = refl };
}

session_made : (v : List ℕ) → Made IsSession v
session_made v = record {
  value = record {
    version = two_at 0 v;
    keepalive = two_at 2 v;
    demand = bit 7 (slice_index v 4);
    loops = bit 6 (slice_index v 4);
    limit = slice_index v 5;
    max_pdu = two_at 6 v;
    receiver = record { router = record { 0 = take 4 (drop 8 v) }; space = two_at 12 v };
  };
  is = record { version = refl; keepalive = refl; demand = refl; loops = refl; limit = refl; max_pdu = refl; router = refl; space = refl };
}

state_made : (v : List ℕ) → length v ≡ 4 → Made IsPwStatus v
state_made v four = record { value = record { 0 = big_number 4 v }; is = record { size = four; bits = refl } }

address_made : (v : List ℕ) → Made IsTransportAddress v
address_made v = record { value = record { 0 = v }; is = refl }

list_made : (v : List ℕ) → Made IsAddressList v
list_made v = record { value = record { family = two_at 0 v; octets = drop 2 v }; is = record { number = refl; addresses = refl } }

macs_made : (v : List ℕ) → length v % 6 ≡ 0 → Made AreMacs v
macs_made v sixes = elim (macs_reading v) [
  | told list are ↦ record { value = list; is = are }
  | refused fault first ↦ absurd (first.named.other sixes)
]

number_made : (v : List ℕ) → Made IsNumber v
number_made v = record { value = four_at 0 v; is = refl }

-- a kind whose messages list a FEC TLV
fec_listed : (k : MessageKind) → (listed (row_of k) fec ≡ Some field.Fec) ⊎ (listed (row_of k) fec ≡ None)
fec_listed kind.Notification = inl refl
fec_listed kind.Hello = inr refl
fec_listed kind.Initialization = inr refl
fec_listed kind.KeepAlive = inr refl
fec_listed kind.Address = inr refl
fec_listed kind.AddressWithdraw = inl refl
fec_listed kind.LabelMapping = inl refl
fec_listed kind.LabelRequest = inl refl
fec_listed kind.LabelWithdraw = inl refl
fec_listed kind.LabelRelease = inl refl
fec_listed kind.LabelAbort = inl refl

-- a listed value fits
has_value : (row : Row) (body : List ℕ) (ts : List Tlv) (tlv : ℕ) (f : Field) (v : List ℕ) → IsFaultless row body ts → listed row tlv ≡ Some f → value_of tlv ts ≡ Some v → HasValue body (Some f) v
has_value row body ts tlv f v faultless is_listed e = subst (λ (o : Option Field). HasValue body o v) is_listed (value_fits row body ts tlv v faultless.values e)

-- what the FEC TLV of a message tells
fec_made : (row : Row) (body : List ℕ) (ts : List Tlv) (v : List ℕ) → IsFaultless row body ts → listed row fec ≡ Some field.Fec → value_of fec ts ≡ Some v → Made IsFecValue v
fec_made row body ts v faultless is_listed e = let c = has_value row body ts fec field.Fec v faultless is_listed e in record { value = c.1.told; is = c.1.is }

fec_told : (k : MessageKind) (body : List ℕ) (ts : List Tlv) → IsFaultless (row_of k) body ts → OfFurther IsFecValue (fec_value (row_of k) ts)
fec_told k body ts faultless = elim (fec_listed k) [
  | inl is_listed ↦ subst (λ (o : Option Field). OfFurther IsFecValue (where_listed o (value_of fec ts))) (sym is_listed)
      (of_further IsFecValue (value_of fec ts) (λ v e. fec_made (row_of k) body ts v faultless is_listed e))
  | inr is_none ↦ subst (λ (o : Option Field). OfFurther IsFecValue (where_listed o (value_of fec ts))) (sym is_none) (record { value = None; is = tt })
]

-- the FEC of a processed message is an element
element_of : (k : MessageKind) (ts : List Tlv) (v : List ℕ) (r : FecValue) → IsReason k ts None → listed (row_of k) fec ≡ Some field.Fec → value_of fec ts ≡ Some v → IsFecValue v r → Made IsPwFec v
element_of k ts v (Pw pw) reason is_listed e is = record { value = pw; is = is }
element_of k ts v (Foreign first) reason is_listed e is =
    let none = no_reason _ _ _ reason.is in
    let there : fec_value (row_of k) ts ≡ Some v = ap (λ (o : Option Field). where_listed o (value_of fec ts)) is_listed ∙ e in
    absurd (told_pw k (Some v) reason.told (Some (Foreign first)) none.fec (subst (λ (o : Option (List ℕ)). OfBoth o reason.told IsFecValue) there reason.is_told) is first refl)

pw_made : (k : MessageKind) (body : List ℕ) (ts : List Tlv) (v : List ℕ) → IsFaultless (row_of k) body ts → IsReason k ts None → listed (row_of k) fec ≡ Some field.Fec
    → value_of fec ts ≡ Some v → Made IsPwFec v
pw_made k body ts v faultless reason is_listed e =
    let m = fec_made (row_of k) body ts v faultless is_listed e in
    element_of k ts v m.value reason is_listed e m.is

-- what a processed message needs is there
needed : (k : MessageKind) (ts : List Tlv) (tlv : ℕ) → IsReason k ts None → (row_of k).instead ≡ [] → is_in tlv (row_of k).needed ≡ true → value_of tlv ts ≡ None → ⊥
needed k ts tlv reason alone is e =
    let none = no_reason _ _ _ reason.is in
    let plain : missing (row_of k) ts ≡ first_absent (row_of k).needed ts = rw alone refl in
    needed_there (row_of k).needed ts tlv (rows_have_fields k) is (sym plain ∙ none.there) (none_of tlv ts e)

-- the switching points that TLVs tell
record PointsTold (values : List (List ℕ)) : Type 0 where
  points : List Point
  are : ArePoints values points

points_told : (row : Row) (body : List ℕ) (ts : List Tlv) → listed row switching_point ≡ Some field.Point → AllByRecursion (IsFitting row body) ts → PointsTold (values_of switching_point ts)
points_told row body [] is_listed fitting = record { points = []; are = tt }
points_told row body (t ∷ ts) is_listed fitting =
    let more = points_told row body ts is_listed fitting.1 in
    elim (cases_Bool (nat_eq (type_in t.word) switching_point)) [
      | inr other ↦ rw other more
      | inl same ↦
          let here : HasValue body (Some field.Point) t.value = subst (λ (o : Option Field). HasValue body o t.value) (ap (listed row) (eqb-true _ _ same) ∙ is_listed) fitting.0 in
          rw same (record { points = here.1.point ∷ more.points; are = (here.1.is, more.are) })
    ]

-- the message that TLVs mean
pub record Meant (k : MessageKind) (id : ℕ) (ts : List Tlv) : Type 0 where
  pub message : Message
  pub means : Means k id ts message

-- what a Hello message tells
record HelloTold (o : Option (List ℕ)) : Type 0 where
  hold : ℕ
  targeted : Bool
  request : Bool
  is : OfValue o (λ v. IsHello v hold targeted request)

hello_told : (o : Option (List ℕ)) → (o ≡ None → ⊥) → HelloTold o
hello_told None some = absurd (some refl)
hello_told (Some v) some = record { hold = two_at 0 v; targeted = bit 15 (two_at 2 v); request = bit 14 (two_at 2 v); is = record { time = refl; t_bit = refl; r_bit = refl } }

-- what an Address message tells
record AddressesTold (o : Option (List ℕ)) : Type 0 where
  family : ℕ
  octets : List ℕ
  is : OfValue o (λ v. IsAddresses v family octets)

addresses_told : (o : Option (List ℕ)) → (o ≡ None → ⊥) → AddressesTold o
addresses_told None some = absurd (some refl)
addresses_told (Some v) some = record { family = two_at 0 v; octets = drop 2 v; is = record { number = refl; addresses = refl } }

-- the status of a pseudowire in a message that lists one, and its MAC addresses
state_told : (row : Row) (body : List ℕ) (ts : List Tlv) → IsFaultless row body ts → listed row pw_status ≡ Some field.PwStatus → OfFurther IsPwStatus (value_of pw_status ts)
state_told row body ts faultless is_listed =
    of_further IsPwStatus (value_of pw_status ts) (λ v e. state_made v (eqb-true _ _ ((has_value row body ts pw_status field.PwStatus v faultless is_listed e).0)))

macs_told : (row : Row) (body : List ℕ) (ts : List Tlv) → IsFaultless row body ts → listed row mac_list ≡ Some field.MacList → OfFurther AreMacs (value_of mac_list ts)
macs_told row body ts faultless is_listed =
    of_further AreMacs (value_of mac_list ts) (λ v e. macs_made v (eqb-true _ _ ((has_value row body ts mac_list field.MacList v faultless is_listed e).0)))

pw_told : (k : MessageKind) (body : List ℕ) (ts : List Tlv) → IsFaultless (row_of k) body ts → IsReason k ts None → listed (row_of k) fec ≡ Some field.Fec → OfFurther IsPwFec (value_of fec ts)
pw_told k body ts faultless reason is_listed = of_further IsPwFec (value_of fec ts) (λ v e. pw_made k body ts v faultless reason is_listed e)

pw_needed : (k : MessageKind) (body : List ℕ) (ts : List Tlv) → IsFaultless (row_of k) body ts → IsReason k ts None → listed (row_of k) fec ≡ Some field.Fec → (row_of k).instead ≡ []
    → is_in fec (row_of k).needed ≡ true → OfNeeded IsPwFec (value_of fec ts)
pw_needed k body ts faultless reason is_listed alone is =
    of_needed IsPwFec (value_of fec ts) (needed k ts fec reason alone is) (λ v e. pw_made k body ts v faultless reason is_listed e)

-- TLVs without fault that give no reason mean a message of their kind
pub meant : (k : MessageKind) (id : ℕ) (body : List ℕ) (ts : List Tlv) → IsFaultless (row_of k) body ts → IsReason k ts None → Meant k id ts
meant kind.Notification id body ts faultless reason =
    let code = of_needed IsStatus (value_of status ts) (needed kind.Notification ts status reason refl refl) (λ v e. status_made v) in
    let state = state_told (row_of kind.Notification) body ts faultless refl in
    let pw = pw_told kind.Notification body ts faultless reason refl in
    record { message = message.Notification id code.value state.value pw.value; means = (refl, code.is, state.is, pw.is) }
meant kind.Hello id body ts faultless reason =
    let told = hello_told (value_of hello_parameters ts) (needed kind.Hello ts hello_parameters reason refl refl) in
    let address = of_further IsTransportAddress (value_of transport_address ts) (λ v e. address_made v) in
    record { message = message.Hello id told.hold told.targeted told.request address.value; means = (refl, told.is, address.is) }
meant kind.Initialization id body ts faultless reason =
    let params = of_needed IsSession (value_of session_parameters ts) (needed kind.Initialization ts session_parameters reason refl refl) (λ v e. session_made v) in
    record { message = message.Initialization id params.value; means = (refl, params.is) }
meant kind.KeepAlive id body ts faultless reason = record { message = message.KeepAlive id; means = refl }
meant kind.Address id body ts faultless reason =
    let told = addresses_told (value_of address_list ts) (needed kind.Address ts address_list reason refl refl) in
    record { message = message.Address id told.family told.octets; means = (refl, told.is) }
meant kind.AddressWithdraw id body ts faultless reason =
    let addresses = of_further IsAddressList (value_of address_list ts) (λ v e. list_made v) in
    let pw = pw_told kind.AddressWithdraw body ts faultless reason refl in
    let macs = macs_told (row_of kind.AddressWithdraw) body ts faultless refl in
    record { message = message.AddressWithdraw id addresses.value pw.value macs.value; means = (refl, addresses.is, pw.is, macs.is) }
meant kind.LabelMapping id body ts faultless reason =
    let pw = pw_needed kind.LabelMapping body ts faultless reason refl refl refl in
    let given = of_needed IsNumber (value_of label ts) (needed kind.LabelMapping ts label reason refl refl) (λ v e. number_made v) in
    let state = state_told (row_of kind.LabelMapping) body ts faultless refl in
    let passed = points_told (row_of kind.LabelMapping) body ts refl faultless.values in
    record { message = message.LabelMapping id pw.value given.value state.value passed.points; means = (refl, pw.is, given.is, state.is, passed.are) }
meant kind.LabelRequest id body ts faultless reason =
    let pw = pw_needed kind.LabelRequest body ts faultless reason refl refl refl in
    record { message = message.LabelRequest id pw.value; means = (refl, pw.is) }
meant kind.LabelWithdraw id body ts faultless reason =
    let pw = pw_needed kind.LabelWithdraw body ts faultless reason refl refl refl in
    let given = of_further IsNumber (value_of label ts) (λ v e. number_made v) in
    record { message = message.LabelWithdraw id pw.value given.value; means = (refl, pw.is, given.is) }
meant kind.LabelRelease id body ts faultless reason =
    let pw = pw_needed kind.LabelRelease body ts faultless reason refl refl refl in
    let given = of_further IsNumber (value_of label ts) (λ v e. number_made v) in
    record { message = message.LabelRelease id pw.value given.value; means = (refl, pw.is, given.is) }
meant kind.LabelAbort id body ts faultless reason =
    let pw = pw_needed kind.LabelAbort body ts faultless reason refl refl refl in
    let request = of_needed IsNumber (value_of request_id ts) (needed kind.LabelAbort ts request_id reason refl refl) (λ v e. number_made v) in
    record { message = message.LabelAbort id pw.value request.value; means = (refl, pw.is, request.is) }

-- the message that is told, for a reason or for none
record Said (why : Option Why) (k : MessageKind) (id : ℕ) (ts : List Tlv) : Type 0 where
  message : Message
  tells : Tells why k id ts message

said_by : (k : MessageKind) (id : ℕ) (body : List ℕ) (ts : List Tlv) (why : Option Why) → IsFaultless (row_of k) body ts → IsReason k ts why → Said why k id ts
said_by k id body ts None faultless reason = let m = meant k id body ts faultless reason in record { message = m.message; tells = m.means }
said_by k id body ts (Some why) faultless reason = record { message = message.Unprocessed id (type_of k) why; tells = refl }

-- the message that the octets behind a Message ID stand for
pub record ReadAs (k : MessageKind) (id : ℕ) (body : List ℕ) : Type 0 where
  pub message : Message
  pub is : IsRead k id body message

-- TLVs without fault stand for a message
pub read_as : (k : MessageKind) (id : ℕ) (body : List ℕ) (ts : List Tlv) → IsJoined body ts → IsFaultless (row_of k) body ts → ReadAs k id body
read_as k id body ts joined faultless =
    let fec = fec_told k body ts faultless in
    let why : Option Why = reason_of (first_unknown (row_of k) ts) (missing (row_of k) ts) (fec_reason k fec.value) in
    let reason : IsReason k ts (reason_of (first_unknown (row_of k) ts) (missing (row_of k) ts) (fec_reason k fec.value)) = record { told = fec.value; is_told = fec.is; is = refl } in
    let m = said_by k id body ts why faultless reason in
    record { message = m.message; is = record { tlvs = ts; joined = joined; faultless = faultless; why = why; reason = reason; tells = m.tells } }
