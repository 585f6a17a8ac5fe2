-- The types of a plan, of a scenario that was read and of a rehearsal's: four octets of each address, and offers that fit their fields.
use Rattle.std.proofs.Common.{◌≡◌, ◌<◌, ◌≤◌, ◌+◌, ◌/◌, ◌⊎◌, ℕ, zero, suc, Bool, true, false, cond, ltb, List, [], ◌∷◌, Option, Some, None, Ok, IfSome, IsUtf8, inl, inr, ltb-true, length, slice_index_or, refl, sym, subst, ◌^◌, arith}
use Rattle.std.specs.List.{All, AllByRecursion}
use Rattle.std.proofs.Math.Utf8.{encode, encodes, next, scalar, scalars, scalar_cases}
use Rattle.std.proofs.lemmas.Bool.{and_parts}
use Rattle.std.proofs.lemmas.List.Elements.{All-append, All-cons, All-nil}
use Rattle.net_values.specs.declared.addr.Addr.{Addr}
use Rattle.net_values.proofs.RowLemmas.{all-append}
use Rattle.net_base.specs.declared.plan.Plan.{Plan}
use Rattle.net_base.specs.declared.plan.edge_plan.EdgePlan.{EdgePlan}
use Rattle.net_base.specs.declared.plan.offer.Offer.{Offer}
use Rattle.session_core.specs.Laws.{IsAddress}
use Rattle.flight_laws.specs.Ends.{AreFieldOffers, HasTypes, IsFieldOffer}
use Rattle.packet_laws.proofs.MessageLemmas.{all_octets}
use Rattle.migration.proofs.AcceptedLemmas.{read_scenario_is}
use Rattle.migration.specs.ReadPlan.{IsQuad, IsReadPlan, IsSaid, IsTold}
use Rattle.rehearsal.specs.Rows.{edges_from, first_spoke, mesh_among, mesh_beside, mesh_wire, offer, plan, second_spoke, spokes_from, wires}
use Rattle.rehearsal.specs.Scenario.{rehearsal}
use Rattle.scenario_text.specs.declared.scenario.Scenario.{Scenario}
use Rattle.scenario_text.specs.Document.{document}

-- ---- text is octets

abbrev AreSmall : List ℕ → Type 0
AreSmall octets = AllByRecursion (λ octet. octet < 256) octets

code_limit : (c : ℕ) → (c < 55296) ⊎ ((57344 ≤ c) × (c < 1114112)) → c < 1114112
code_limit c (inl low) = omega (arith, low)
code_limit c (inr high) = high.1

next_small : (bits : ℕ) → next bits < 256
next_small bits = omega arith

encoded_small : (c : ℕ) → c < 1114112 → (one two three : Bool) → ltb c 128 ≡ one → ltb c 2048 ≡ two → ltb c 65536 ≡ three
    → AreSmall (cond one (c ∷ []) (cond two ((192 + c / 64) ∷ next c ∷ []) (cond three ((224 + c / 4096) ∷ next (c / 64) ∷ next c ∷ [])
    ((240 + c / 262144) ∷ next (c / 4096) ∷ next (c / 64) ∷ next c ∷ []))))
encoded_small c small true two three is_one is_two is_three = let fits = ltb-true c 128 is_one in (omega (arith, fits), tt)
encoded_small c small false true three is_one is_two is_three = let fits = ltb-true c 2048 is_two in (omega (arith, fits), (next_small c, tt))
encoded_small c small false false true is_one is_two is_three = let fits = ltb-true c 65536 is_three in (omega (arith, fits), (next_small (c / 64), (next_small c, tt)))
encoded_small c small false false false is_one is_two is_three = (omega (arith, small), (next_small (c / 4096), (next_small (c / 64), (next_small c, tt))))

encode_small : (c : ℕ) → scalar c ≡ true → AreSmall (encode c)
unfolding encode
encode_small c is = encoded_small c (code_limit c (scalar_cases c is)) (ltb c 128) (ltb c 2048) (ltb c 65536) refl refl refl

encodes_small : (codes : List ℕ) → scalars codes ≡ true → AreSmall (encodes codes)
encodes_small [] are = tt
encodes_small (c ∷ codes) are =
    let (first, rest) = and_parts (scalar c) (scalars codes) are in
    all-append (λ octet. octet < 256) (encode c) (encodes codes) (encode_small c first) (encodes_small codes rest)

text_small : (text : List ℕ) → IsUtf8 text → AreSmall text
text_small text (codes, spelled) = subst AreSmall spelled.1 (encodes_small codes spelled.0)

-- ---- a plan that was read

quad_address : (address : Addr) → IsQuad address.0 → IsAddress address
quad_address address quad = record {
  four = subst (λ (octets : List ℕ). length octets ≡ 4) (sym quad.is) refl;
  octets = subst AreSmall (sym quad.is) (quad.fit.0, (quad.fit.1, (quad.fit.2, (quad.fit.3, tt))));
}

told_fits : (told : Option ℕ) → IsTold 65535 told → IfSome told (λ mtu. mtu < 2 ^ 16)
told_fits None is = tt
told_fits (Some mtu) is = omega (arith, is.1)

said_fits : (said : Offer) → IsSaid said → IsFieldOffer said
said_fits said is = record {
  mtu = told_fits said.mtu is.mtu;
  group = is.group;
  description = is.description.0;
  octets = all_octets said.description (text_small said.description is.description.1);
}

plan_types : (read : Plan) → IsReadPlan read → HasTypes read
plan_types read is = record {
  addresses = λ k other within. quad_address (slice_index_or read.edges k other).address (is.addresses k other within);
  offers = λ k other within. record {
    near = said_fits (slice_index_or read.wires k other).near (is.near k other within);
    far = said_fits (slice_index_or read.wires k other).far (is.far k other within);
  };
}

pub read_types : (octets : List ℕ) (scenario : Scenario) → document octets ≡ Ok scenario → HasTypes scenario.plan
read_types octets scenario is = plan_types scenario.plan (read_scenario_is octets scenario is).plan

-- ---- a rehearsal's plan

abbrev HasAddress : EdgePlan → Type 0
HasAddress edge = IsAddress edge.address

edges_typed : (count number : ℕ) → number + count ≤ 256 → All HasAddress (edges_from count number)
edges_typed zero number within = All-nil HasAddress
edges_typed (suc count) number within =
    All-cons HasAddress _ (edges_from count (number + 1)) (record { four = refl; octets = (omega arith, (omega arith, (omega arith, (omega (arith, within), tt)))) })
    (edges_typed count (number + 1) (omega (arith, within)))

offer_fits : IsFieldOffer offer
offer_fits = record { mtu = omega arith; group = omega arith; description = omega arith; octets = all_octets [] tt }

beside_typed : (count from to number : ℕ) → All AreFieldOffers (mesh_beside count from to number)
beside_typed zero from to number = All-nil AreFieldOffers
beside_typed (suc count) from to number =
    All-cons AreFieldOffers (mesh_wire from to number) (mesh_beside count from (to + 1) (number + 1)) (record { near = offer_fits; far = offer_fits })
    (beside_typed count from (to + 1) (number + 1))

among_typed : (count from number : ℕ) → All AreFieldOffers (mesh_among count from number)
among_typed zero from number = All-nil AreFieldOffers
among_typed (suc count) from number =
    All-append AreFieldOffers (mesh_beside count from (from + 1) number) (mesh_among count (from + 1) (number + count)) (beside_typed count from (from + 1) number)
    (among_typed count (from + 1) (number + count))

spokes_typed : (count place : ℕ) → All AreFieldOffers (spokes_from count place)
spokes_typed zero place = All-nil AreFieldOffers
spokes_typed (suc count) place =
    All-cons AreFieldOffers (first_spoke place) (second_spoke place ∷ spokes_from count (place + 1)) (record { near = offer_fits; far = offer_fits })
    (All-cons AreFieldOffers (second_spoke place) (spokes_from count (place + 1)) (record { near = offer_fits; far = offer_fits }) (spokes_typed count (place + 1)))

plan_typed : HasTypes plan
unfolding plan wires
plan_typed = record { addresses = edges_typed 16 1 (omega arith); offers = All-append AreFieldOffers (mesh_among 8 1 1) (spokes_from 8 0) (among_typed 8 1 1) (spokes_typed 8 0) }

scenario_typed : (seed : ℕ) → HasTypes (rehearsal seed).plan
unfolding rehearsal
scenario_typed seed = plan_typed

pub rehearsed_types : (scenario : Scenario) (seed : ℕ) → scenario ≡ rehearsal seed → HasTypes scenario.plan
rehearsed_types scenario seed is = subst (λ (made : Scenario). HasTypes made.plan) (sym is) (scenario_typed seed)
