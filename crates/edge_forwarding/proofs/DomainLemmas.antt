-- The domains of an edge, one more at a time.
use Rattle.std.proofs.Common.{◌≡◌, ◌<◌, ◌+◌, ◌++◌, ◌∙◌, ◌⊎◌, ◌&&◌, ℕ, zero, suc, Bool, true, false, not, nat_eq, nat_lt, List, [], ◌∷◌, Option, Some, None, length, slice_get, slice_index_or, position, get_or, ap, sym, subst, inl, inr, arith, refl}
use Rattle.std.proofs.lemmas.Bool.{cases_order, eqb-true}
use Rattle.std.proofs.lemmas.Bool.Decides.{nat_tests}
use Rattle.std.proofs.lemmas.Option.{slice_get_read}
use Rattle.std.proofs.lemmas.List.{length_push}
use Rattle.net_values.proofs.BoolLemmas.{and_false, and_true}
use Rattle.net_values.proofs.NumberLemmas.{zero_below, lt_next}
use Rattle.net_values.proofs.RowLemmas.{last_of}
use Rattle.net_base.specs.declared.plan.Plan.{Plan}
use Rattle.net_base.specs.declared.plan.places.EdgeId.{EdgeId}
use Rattle.net_base.specs.declared.plan.service_plan.ServicePlan.{ServicePlan}
use Rattle.edge_forwarding.specs.declared.domain.Domain.{Domain}
use Rattle.hvpls_spokes.specs.declared.port.Port.{Port}
use Rattle.mac_table.specs.declared.mac_entry.MacEntry.{MacEntry}
use Rattle.edge_model.specs.State.{without_port}
use Rattle.edge_forwarding.specs.Domain.{AreNew, IsNew, forgot_domain}
use Rattle.hvpls_spokes.specs.Port.{is_wire}
use Rattle.edge_forwarding.proofs.EachLemmas.{before_push}

next_new : (plan : Plan) (me : EdgeId) (place : ℕ) (domains : List (Option Domain)) (kept : Option Domain) (service : ServicePlan)
    → AreNew plan me place domains → slice_get plan.services place ≡ Some service → IsNew plan me (record { 0 = place }) service.age kept
    → AreNew plan me (place + 1) (domains ++ kept ∷ [])
next_new plan me place domains kept service are at is = record {
  len = length_push domains kept ∙ ap (λ (n : ℕ). n + 1) are.len;
  each = λ k row below found. elim (cases_order k place) [
    | inl same ↦ of k row found (inr same)
    | inr rest ↦ elim rest [
      | inl less ↦ of k row found (inl less)
      | inr more ↦ absurd (omega arith)
    ]
  ];
}
  where
    of : (k : ℕ) (row : ServicePlan) → slice_get plan.services k ≡ Some row → (k < place) ⊎ (k ≡ place) → IsNew plan me (record { 0 = k }) row.age (slice_index_or (domains ++ kept ∷ []) k None)
    of k row found (inl earlier) =
        subst (IsNew plan me (record { 0 = k }) row.age) (sym (before_push domains kept None k (omega (arith, are.len)))) (are.each k row earlier found)
    of k row found (inr here) =
        let one : service ≡ row = cc (at, found, here) in
        let placed : slice_index_or (domains ++ kept ∷ []) k None ≡ kept = ap (λ (n : ℕ). slice_index_or (domains ++ kept ∷ []) n None) (here ∙ sym are.len) ∙ last_of domains kept None in
        subst (IsNew plan me (record { 0 = k }) row.age) (sym placed)
        (subst (λ (n : ℕ). IsNew plan me (record { 0 = n }) row.age kept) (sym here) (subst (λ (r : ServicePlan). IsNew plan me (record { 0 = place }) r.age kept) one is))

pub new_next : (plan : Plan) (me : EdgeId) (place : ℕ) (domains now : List (Option Domain)) (kept : Option Domain) (services : List ServicePlan) (service : ServicePlan)
    → AreNew plan me place domains → services ≡ plan.services → place < length services → service ≡ get_or services place service
    → IsNew plan me (record { 0 = place }) service.age kept → now ≡ domains ++ kept ∷ []
    → AreNew plan me (place + 1) now
new_next plan me place domains now kept services service are same within read is pushed =
    let at : slice_get plan.services place ≡ Some service =
    subst (λ (l : List ServicePlan). slice_get l place ≡ Some service) same (slice_get_read services (length services) place service refl within read) in
    subst (AreNew plan me (place + 1)) (sym pushed) (next_new plan me place domains kept service are at is)

-- ---- the ports of wires are closed one by one

lt_here : (p k : ℕ) → nat_eq p k ≡ true → nat_lt p (k + 1) ≡ true
lt_here p k same = grind (arith, nat_tests, same)

lt_not : (p k : ℕ) → nat_eq p k ≡ true → nat_lt p k ≡ false
lt_not p k same = grind (arith, nat_tests, same)

-- one port more
pub closed_next : (ports : List Port) (old now next : ℕ → Bool) (k : ℕ)
    → ((p : ℕ) → now p ≡ (old p && not (nat_lt p k && is_wire (slice_get ports p))))
    → ((p : ℕ) → next p ≡ (now p && not (nat_eq p k && is_wire (slice_get ports k))))
    → (p : ℕ) → next p ≡ (old p && not (nat_lt p (k + 1) && is_wire (slice_get ports p)))
closed_next ports old now next k so_far one p = one p ∙ (ap (λ (b : Bool). b && not (nat_eq p k && is_wire (slice_get ports k))) (so_far p) ∙ by (nat_eq p k) refl) where
  by : (same : Bool) → nat_eq p k ≡ same → (old p && not (nat_lt p k && is_wire (slice_get ports p))) && not (same && is_wire (slice_get ports k))
      ≡ (old p && not (nat_lt p (k + 1) && is_wire (slice_get ports p)))
  by false is = and_true (old p && not (nat_lt p k && is_wire (slice_get ports p))) ∙ ap (λ (b : Bool). old p && not (b && is_wire (slice_get ports p))) (sym (lt_next p k is))
  by true is =
      let at : p ≡ k = eqb-true p k is in
      ap (λ (b : Bool). (old p && not (b && is_wire (slice_get ports p))) && not (is_wire (slice_get ports k))) (lt_not p k is)
      ∙ (ap (λ (b : Bool). b && not (is_wire (slice_get ports k))) (and_true (old p))
      ∙ (ap (λ (n : ℕ). old p && not (is_wire (slice_get ports n))) (sym at)
      ∙ ap (λ (b : Bool). old p && not (b && is_wire (slice_get ports p))) (sym (lt_here p k is))))

lt_suc : (p n : ℕ) → nat_lt (suc p) (suc n) ≡ nat_lt p n
lt_suc p n = grind (arith, nat_tests)

wire_within : (ports : List Port) (p : ℕ) → nat_lt p (length ports) && is_wire (slice_get ports p) ≡ is_wire (slice_get ports p)
wire_within [] p = and_false (nat_lt p 0)
wire_within (x ∷ ports) zero = ap (λ (b : Bool). b && is_wire (Some x)) (zero_below (length ports))
wire_within (x ∷ ports) (suc p) = ap (λ (b : Bool). b && is_wire (slice_get ports p)) (lt_suc p (length ports)) ∙ wire_within ports p

-- all ports
pub closed_end : (ports : List Port) (old now : ℕ → Bool) (k : ℕ) → k ≡ length ports → ((p : ℕ) → now p ≡ (old p && not (nat_lt p k && is_wire (slice_get ports p))))
    → (p : ℕ) → now p ≡ (old p && not (is_wire (slice_get ports p)))
closed_end ports old now k all so_far p =
    so_far p ∙ (ap (λ (n : ℕ). old p && not (nat_lt p n && is_wire (slice_get ports p))) all ∙ ap (λ (b : Bool). old p && not b) (wire_within ports p))

-- ---- a bridge that has learned nothing has nothing to forget

pub forgot_nothing : (test : Port → Bool) (domain : Domain) → length domain.bridge.entries ≡ 0 → domain ≡ forgot_domain test domain
forgot_nothing test domain none = ap (λ (entries : List MacEntry). record domain { bridge = record domain.bridge { entries = entries } }) (by domain.bridge.entries (position test domain.bridge.ports) none) where
  by : (entries : List MacEntry) (found : Option ℕ) → length entries ≡ 0 → entries ≡ without_port found entries
  by [] None none = refl
  by [] (Some p) none = refl
  by (e ∷ entries) found none = absurd (cc (none))
