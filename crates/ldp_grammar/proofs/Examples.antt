-- The definitions at work on octets: each fact below is found by evaluation alone, or by witnesses that are written out.
use Rattle.std.proofs.Common.{◌≡◌, ◌++◌, ℕ, true, false, List, [], ◌∷◌, Option, Some, None, inl, inr, refl, arith}
use Rattle.net_values.specs.declared.field.Field.TheVariants as field
use Rattle.pw_tlvs.specs.declared.fec_value.FecValue.TheVariants.{Pw, Foreign}
use Rattle.pw_tlvs.specs.declared.field_fault.FieldFault.TheVariants.{Value}
use Rattle.pw_tlvs.specs.declared.pw_fec.PwFec.{PwFec}
use Rattle.pw_tlvs.specs.Fec.{no_params, too_short as counts_too_little}
use Rattle.ldp_grammar.specs.declared.cause.Cause.TheVariants as cause
use Rattle.ldp_grammar.specs.declared.ldp_id.LdpId.{LdpId}
use Rattle.ldp_grammar.specs.declared.message.Message.TheVariants as message
use Rattle.ldp_grammar.specs.declared.message_kind.MessageKind.{MessageKind}
use Rattle.ldp_grammar.specs.declared.message_kind.MessageKind.TheVariants as kind
use Rattle.ldp_grammar.specs.declared.why.Why.{Why}
use Rattle.ldp_grammar.specs.declared.why.Why.TheVariants.{UnknownTlv, Missing, UnknownFec}
use Rattle.ldp_grammar.specs.Rows.{row_of}
use Rattle.ldp_grammar.specs.Layouts.{fits, listed}
use Rattle.ldp_grammar.specs.Tlvs.{Tlv, first_unknown, missing, reason_of, fec_reason}
use Rattle.ldp_grammar.specs.Spells.{Spells}
use Rattle.ldp_grammar.specs.FirstFault.{Names, NamesTlvs, NamesMessages}
use Rattle.ldp_grammar.specs.Written.{written, writable}
use Rattle.ldp_grammar.proofs.WrittenLemmas.{keeps_none}

abbrev sender : LdpId
sender = record { router = record { 0 = 10 ∷ 0 ∷ 0 ∷ 1 ∷ [] }; space = 0 }

-- a KeepAlive with Message ID 1
abbrev keep_alive : List ℕ
keep_alive = 0 ∷ 1 ∷ 0 ∷ 14 ∷ 10 ∷ 0 ∷ 0 ∷ 1 ∷ 0 ∷ 0 ∷ 2 ∷ 1 ∷ 0 ∷ 4 ∷ 0 ∷ 0 ∷ 0 ∷ 1 ∷ []

keep_alive_written : written (message.KeepAlive 1) sender ≡ keep_alive
keep_alive_written = refl

keep_alive_spelled : Spells keep_alive 4096 (record { id = sender; messages = message.KeepAlive 1 ∷ [] })
keep_alive_spelled = record {
  spellings = record { word = 513; id = 1; body = [] } ∷ [];
  framed = record { split = refl; identifier = refl; least = omega arith; most = omega arith };
  router = refl;
  space = omega arith;
  fit = ((omega arith, omega arith, omega arith), tt);
  stand = (
    record {
      tlvs = [];
      joined = record { spelled = refl; fit = tt };
      faultless = record { values = tt; counts = λ k. keeps_none (listed (row_of kind.KeepAlive) k) };
      why = None;
      reason = record { told = None; is_told = tt; is = refl };
      tells = refl;
    },
    tt,
  );
}

-- why messages are not processed
abbrev a_tlv : ℕ → List ℕ → Tlv
a_tlv word value = record { word = word; value = value }

abbrev without_fec : MessageKind → List Tlv → Option Why
without_fec k ts = reason_of (first_unknown (row_of k) ts) (missing (row_of k) ts) (fec_reason k None)

first_unknown_tlv : without_fec kind.KeepAlive (a_tlv 16128 [] ∷ a_tlv 16129 [] ∷ []) ≡ Some (UnknownTlv 16128)
first_unknown_tlv = refl

ignored_tlv : without_fec kind.KeepAlive (a_tlv 48896 [] ∷ []) ≡ None
ignored_tlv = refl

no_addresses : without_fec kind.Address [] ≡ Some (Missing field.AddressList)
no_addresses = refl

unknown_before_missing : without_fec kind.Address (a_tlv 16128 [] ∷ []) ≡ Some (UnknownTlv 16128)
unknown_before_missing = refl

other_features : without_fec kind.Initialization (a_tlv 34051 [] ∷ a_tlv 1280 [] ∷ a_tlv 1281 [] ∷ []) ≡ None
other_features = refl

-- an Address Withdraw needs addresses, or a FEC and a MAC list
one_of_two : missing (row_of kind.AddressWithdraw) (a_tlv 256 [] ∷ []) ≡ Some field.AddressList
one_of_two = refl

both_instead : missing (row_of kind.AddressWithdraw) (a_tlv 33796 [] ∷ a_tlv 256 [] ∷ []) ≡ None
both_instead = refl

-- a mapping needs a FEC, then a label, then a PW ID
no_fec : missing (row_of kind.LabelMapping) (a_tlv 512 [] ∷ []) ≡ Some field.Fec
no_fec = refl

no_label : missing (row_of kind.LabelMapping) (a_tlv 256 [] ∷ []) ≡ Some field.Label
no_label = refl

abbrev group_of_7 : PwFec
group_of_7 = record { c = true; kind = 5; group = 7; pw_id = None; params = no_params }

no_pw_id : fec_reason kind.LabelMapping (Some (Pw group_of_7)) ≡ Some (Missing field.Fec)
no_pw_id = refl

whole_group : fec_reason kind.LabelWithdraw (Some (Pw group_of_7)) ≡ None
whole_group = refl

other_element : reason_of None None (fec_reason kind.LabelMapping (Some (Foreign 2))) ≡ Some (UnknownFec 2)
other_element = refl

missing_before_fec : reason_of None (Some field.Label) (fec_reason kind.LabelMapping (Some (Foreign 2))) ≡ Some (Missing field.Label)
missing_before_fec = refl

-- an Address Withdraw of all that was learned on the pseudowire 202
withdraw_written : written (message.AddressWithdraw 5 None (Some (record { c = true; kind = 5; group = 0; pw_id = Some 202; params = no_params })) (Some [])) sender
    ≡ 0 ∷ 1 ∷ 0 ∷ 34 ∷ 10 ∷ 0 ∷ 0 ∷ 1 ∷ 0 ∷ 0 ∷ 3 ∷ 1 ∷ 0 ∷ 24 ∷ 0 ∷ 0 ∷ 0 ∷ 5 ∷ 1 ∷ 0 ∷ 0 ∷ 12 ∷ 128 ∷ 128 ∷ 5 ∷ 4 ∷ 0 ∷ 0 ∷ 0 ∷ 0 ∷ 0 ∷ 0 ∷ 0 ∷ 202 ∷ 132 ∷ 4 ∷ 0 ∷ 0 ∷ []
withdraw_written = refl

-- a FEC whose information length is 1, at its octet
abbrev short_information : List ℕ
short_information = 128 ∷ 0 ∷ 5 ∷ 1 ∷ 0 ∷ 0 ∷ 0 ∷ 7 ∷ []

fault_of_fec : NamesTlvs (row_of kind.LabelRequest) (1 ∷ 0 ∷ 0 ∷ 8 ∷ short_information) (record { place = 7; cause = cause.TlvValue field.InfoLength })
fault_of_fec = record {
  before = [];
  rest = 1 ∷ 0 ∷ 0 ∷ 8 ∷ short_information;
  split = refl;
  items = tt;
  here = record { place = 7; cause = cause.TlvValue field.InfoLength };
  names = inr (record {
    tlv = a_tlv 256 short_information;
    more = [];
    split = refl;
    is_tlv = (omega arith, omega arith);
    field = field.Fec;
    is_listed = refl;
    here = Value 3 field.InfoLength;
    names = counts_too_little (record { element = refl; header = omega arith }) (omega arith, omega arith) refl;
    is = refl;
  });
  is = refl;
}

-- layouts
whole_address : fits field.AddressList (0 ∷ 1 ∷ 10 ∷ 0 ∷ 0 ∷ 1 ∷ []) ≡ true
whole_address = refl

part_of_address : fits field.AddressList (0 ∷ 1 ∷ 10 ∷ 0 ∷ 0 ∷ []) ≡ false
part_of_address = refl

other_family : fits field.AddressList (0 ∷ 2 ∷ 10 ∷ 0 ∷ 0 ∷ []) ≡ true
other_family = refl

not_written : writable (message.AddressWithdraw 1 None None None) ≡ false
not_written = refl

-- faults that are named
another_version : Names (0 ∷ 2 ∷ []) 4096 (record { place = 0; cause = cause.Version })
another_version = inl (refl, omega arith, λ e. omega (arith, e))

too_short : Names (0 ∷ 1 ∷ 0 ∷ 13 ∷ []) 4096 (record { place = 2; cause = cause.PduLength })
too_short = inl (refl, inr (inl (omega arith)))

too_long : Names (0 ∷ 1 ∷ 16 ∷ 1 ∷ []) 4096 (record { place = 2; cause = cause.PduLength })
too_long = inl (refl, inr (inr (inl (omega arith))))

length_of_three : NamesMessages (2 ∷ 1 ∷ 0 ∷ 3 ∷ 0 ∷ 0 ∷ 0 ∷ 1 ∷ []) (record { place = 2; cause = cause.MessageLength })
length_of_three = record {
  before = [];
  rest = 2 ∷ 1 ∷ 0 ∷ 3 ∷ 0 ∷ 0 ∷ 0 ∷ 1 ∷ [];
  split = refl;
  items = tt;
  here = record { place = 2; cause = cause.MessageLength };
  names = inl (inr (omega arith, inl (omega arith), refl));
  is = refl;
}

-- a second status of which the header alone is there
abbrev a_status : List ℕ
a_status = 3 ∷ 0 ∷ 0 ∷ 10 ∷ 0 ∷ 0 ∷ 0 ∷ 0 ∷ 0 ∷ 0 ∷ 0 ∷ 0 ∷ 0 ∷ 0 ∷ []

second_status : NamesTlvs (row_of kind.Notification) (a_status ++ 3 ∷ 0 ∷ 0 ∷ 10 ∷ []) (record { place = 14; cause = cause.Repeated field.Status })
second_status = record {
  before = a_tlv 768 (0 ∷ 0 ∷ 0 ∷ 0 ∷ 0 ∷ 0 ∷ 0 ∷ 0 ∷ 0 ∷ 0 ∷ []) ∷ [];
  rest = 3 ∷ 0 ∷ 0 ∷ 10 ∷ [];
  split = refl;
  items = ((omega arith, omega arith), tt);
  here = record { place = 0; cause = cause.Repeated field.Status };
  names = inl (refl, record { whole = omega arith; is_listed = refl; full = omega arith });
  is = refl;
}
