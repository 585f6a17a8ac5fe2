-- The definitions at work on small values: each equation below is found by evaluation alone.
use Rattle.std.proofs.Common.{◌≡◌, ℕ, true, List, [], ◌∷◌, Some, None, inl, inr, refl, arith}
use Rattle.net_values.specs.declared.field.Field.TheVariants as field
use Rattle.pw_tlvs.specs.declared.field_fault.FieldFault.TheVariants.{Value, Repeated}
use Rattle.pw_tlvs.specs.declared.fec_value.FecValue.TheVariants.{Pw, Foreign}
use Rattle.pw_tlvs.specs.declared.registry.Registry.TheVariants.{InterfaceParameter}
use Rattle.pw_tlvs.specs.declared.if_params.IfParams.{IfParams}
use Rattle.pw_tlvs.specs.declared.point.Point.{Point}
use Rattle.pw_tlvs.specs.declared.pw_fec.PwFec.{PwFec}
use Rattle.pw_tlvs.specs.Fec.{IsFecValue, IsFecFault, IsPwid, past_end, parameter}
use Rattle.pw_tlvs.specs.Point.{IsPointFault}
use Rattle.pw_tlvs.specs.SubTlvs.{SubTlv, AreGood, lone, outside, again}
use Rattle.pw_tlvs.specs.Written.{written_fec, written_point}
use Rattle.pw_tlvs.proofs.SubTlvLemmas.{good_more}
use Rattle.pw_tlvs.proofs.ToldLemmas.{good_none}

abbrev the_params : IfParams
the_params = record { mtu = Some 1500; description = []; vlan = None; vccv = None }

abbrev the_fec : PwFec
the_fec = record { c = true; kind = 5; group = 0; pw_id = Some 100; params = the_params }

abbrev an_mtu : SubTlv
an_mtu = record { kind = 0x01; value = 0x05 ∷ 0xDC ∷ [] }

-- the octets of a raw pseudowire with control word, PW ID 100 and MTU 1500, and those behind the MTU
abbrev fec_octets : ℕ → List ℕ → List ℕ
fec_octets count more = 0x80 ∷ 0x80 ∷ 0x05 ∷ count ∷ 0 ∷ 0 ∷ 0 ∷ 0 ∷ 0 ∷ 0 ∷ 0 ∷ 0x64 ∷ 0x01 ∷ 0x04 ∷ 0x05 ∷ 0xDC ∷ more

begun : (count : ℕ) (more : List ℕ) → IsPwid (fec_octets count more)
begun count more = record { element = refl; header = omega arith }

written : written_fec the_fec ≡ fec_octets 8 []
written = refl

good_mtu : AreGood InterfaceParameter (an_mtu ∷ [])
good_mtu = good_more InterfaceParameter [] an_mtu (good_none InterfaceParameter) (record { fit = refl; allowed = refl }) (λ known. refl)

read : IsFecValue (fec_octets 8 []) (Pw the_fec)
read = record {
  begun = begun 8 [];
  c = refl;
  kind = refl;
  whole = refl;
  group = refl;
  information = (omega arith, refl, record { subs = an_mtu ∷ []; are = record { joined = refl; good = good_mtu }; mtu = refl; description = refl; vlan = refl; vccv = refl });
}

-- an unknown parameter behind the MTU is ignored
unknown_ignored : IsFecValue (fec_octets 10 (0x7F ∷ 0x02 ∷ [])) (Pw the_fec)
unknown_ignored = record {
  begun = begun 10 (0x7F ∷ 0x02 ∷ []);
  c = refl;
  kind = refl;
  whole = refl;
  group = refl;
  information = (
    omega arith,
    refl,
    record {
      subs = an_mtu ∷ record { kind = 0x7F; value = [] } ∷ [];
      are = record { joined = refl; good = good_more InterfaceParameter (an_mtu ∷ []) (record { kind = 0x7F; value = [] }) good_mtu (record { fit = tt; allowed = refl }) (λ known. refl) };
      mtu = refl;
      description = refl;
      vlan = refl;
      vccv = refl;
    },
  );
}

-- a length of 1 is too small: the fault is at the length octet, the 18th of the value
small_length : IsFecFault (fec_octets 10 (0x7F ∷ 0x01 ∷ [])) (Value 17 field.Parameter)
small_length = parameter (begun 10 (0x7F ∷ 0x01 ∷ [])) (λ few. let high = few.1 in omega arith) (omega arith) refl
    (record { before = an_mtu ∷ []; rest = 0x7F ∷ 0x01 ∷ []; split = refl; wrong = outside (omega arith) (inl (omega arith)) refl })

-- an MTU that comes again
mtu_again : IsFecFault (fec_octets 12 (0x01 ∷ 0x04 ∷ 0 ∷ 0 ∷ [])) (Repeated 16 field.Mtu)
mtu_again = parameter (begun 12 (0x01 ∷ 0x04 ∷ 0 ∷ 0 ∷ [])) (λ few. let high = few.1 in omega arith) (omega arith) refl
    (record { before = an_mtu ∷ []; rest = 0x01 ∷ 0x04 ∷ 0 ∷ 0 ∷ []; split = refl; wrong = again (record { field = field.Mtu; least = 4; most = 4 }) (omega arith) refl (omega arith) refl })

-- an information length that reaches past the end
long_information : IsFecFault (fec_octets 20 []) (Value 3 field.InfoLength)
long_information = past_end (begun 20 []) (omega arith) refl

-- a second element follows
second_element : IsFecValue (fec_octets 8 (0x80 ∷ 0x80 ∷ 0x05 ∷ 0 ∷ 0 ∷ 0 ∷ 0 ∷ 7 ∷ [])) (Foreign 0x80)
second_element = inr (record { begun = begun 8 (0x80 ∷ 0x80 ∷ 0x05 ∷ 0 ∷ 0 ∷ 0 ∷ 0 ∷ 7 ∷ []); is = refl; long = λ few. let high = few.1 in omega arith; more = omega arith })

abbrev the_point : Point
the_point = record { pw_id = Some 100; local = Some (record { 0 = 10 ∷ 0 ∷ 0 ∷ 2 ∷ [] }); remote = Some (record { 0 = 10 ∷ 0 ∷ 0 ∷ 3 ∷ [] }) }

-- a switching point with its three parts
point_written : written_point the_point ≡ 0x01 ∷ 4 ∷ 0 ∷ 0 ∷ 0 ∷ 0x64 ∷ 0x03 ∷ 4 ∷ 10 ∷ 0 ∷ 0 ∷ 2 ∷ 0x04 ∷ 4 ∷ 10 ∷ 0 ∷ 0 ∷ 3 ∷ []
point_written = refl

-- a part whose length octet is missing
no_length : IsPointFault (0x03 ∷ []) (Value 0 field.Point)
no_length = record { before = []; rest = 0x03 ∷ []; split = refl; wrong = lone refl refl }
