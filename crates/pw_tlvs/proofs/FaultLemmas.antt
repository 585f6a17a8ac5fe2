-- There is one first fault at most.
use Rattle.std.proofs.Common.{◌≡◌, ◌<◌, ℕ, List, [], ◌∷◌, get_or, refl, sym, ap, ◌∙◌, arith, inl, inr}
use Rattle.net_values.specs.declared.field.Field.{Field}
use Rattle.net_values.specs.declared.field.Field.TheVariants as field
use Rattle.pw_tlvs.specs.declared.field_fault.FieldFault.{FieldFault}
use Rattle.pw_tlvs.specs.declared.field_fault.FieldFault.TheVariants.{Size, Value, Repeated}
use Rattle.pw_tlvs.specs.Faults.{field_rank, fault_place, rank_of, PrecedesIn, IsFirstIn}

-- the fields in their order
abbrev fields : List Field
fields =
    field.Fec ∷ field.AddressList ∷ field.Label ∷ field.Status ∷ field.Hello ∷ field.Transport ∷ field.MacList ∷ field.Session ∷ field.RequestId
    ∷ field.PwStatus ∷ field.Point ∷ field.InfoLength ∷ field.Parameter ∷ field.Mtu ∷ field.Description ∷ field.Vlan ∷ field.Vccv ∷ []

-- the field of a rank
abbrev pub field_at : ℕ → Field
field_at rank = get_or fields rank field.Fec

pub field_again : (f : Field) → field_at (field_rank f) ≡ f
field_again field.Fec = refl
field_again field.AddressList = refl
field_again field.Label = refl
field_again field.Status = refl
field_again field.Hello = refl
field_again field.Transport = refl
field_again field.MacList = refl
field_again field.Session = refl
field_again field.RequestId = refl
field_again field.PwStatus = refl
field_again field.Point = refl
field_again field.InfoLength = refl
field_again field.Parameter = refl
field_again field.Mtu = refl
field_again field.Description = refl
field_again field.Vlan = refl
field_again field.Vccv = refl

pub field_rank_below : (f : Field) → field_rank f < 17
field_rank_below field.Fec = omega arith
field_rank_below field.AddressList = omega arith
field_rank_below field.Label = omega arith
field_rank_below field.Status = omega arith
field_rank_below field.Hello = omega arith
field_rank_below field.Transport = omega arith
field_rank_below field.MacList = omega arith
field_rank_below field.Session = omega arith
field_rank_below field.RequestId = omega arith
field_rank_below field.PwStatus = omega arith
field_rank_below field.Point = omega arith
field_rank_below field.InfoLength = omega arith
field_rank_below field.Parameter = omega arith
field_rank_below field.Mtu = omega arith
field_rank_below field.Description = omega arith
field_rank_below field.Vlan = omega arith
field_rank_below field.Vccv = omega arith

same_field : (f g : Field) → field_rank f ≡ field_rank g → f ≡ g
same_field f g e = sym (field_again f) ∙ (ap field_at e ∙ field_again g)

-- a fault is known by its place and rank
same_fault : (f g : FieldFault) → fault_place f ≡ fault_place g → rank_of f ≡ rank_of g → f ≡ g
same_fault Size Size place rank = refl
same_fault Size (Value b v) place rank = absurd (omega arith)
same_fault Size (Repeated b v) place rank = absurd (omega arith)
same_fault (Value a u) Size place rank = absurd (omega arith)
same_fault (Value a u) (Value b v) place rank =
    let f : u ≡ v = same_field u v (omega arith) in
    λ i. Value (place i) (f i)
same_fault (Value a u) (Repeated b v) place rank = let h : field_rank u < 17 = field_rank_below u in absurd (omega arith)
same_fault (Repeated a u) Size place rank = absurd (omega arith)
same_fault (Repeated a u) (Value b v) place rank = let h : field_rank v < 17 = field_rank_below v in absurd (omega arith)
same_fault (Repeated a u) (Repeated b v) place rank =
    let f : u ≡ v = same_field u v (omega arith) in
    λ i. Repeated (place i) (f i)

pub precedes_both : (f g : FieldFault) → PrecedesIn f g → PrecedesIn g f → f ≡ g
precedes_both f g (inl a) (inl b) = absurd (omega arith)
precedes_both f g (inl a) (inr b) = let e = b.0 in absurd (omega arith)
precedes_both f g (inr a) (inl b) = let e = a.0 in absurd (omega arith)
precedes_both f g (inr a) (inr b) = let h = a.1 in let k = b.1 in same_fault f g a.0 (omega arith)

-- two first faults are one
pub one_first : {Named : FieldFault → Type 0} (f g : FieldFault) → IsFirstIn Named f → IsFirstIn Named g → f ≡ g
one_first f g one other = precedes_both f g (one.first g other.named) (other.first f one.named)

-- a fault precedes itself
pub precedes_itself : (f : FieldFault) → PrecedesIn f f
precedes_itself f = inr (refl, omega arith)

-- of one fault that can be named it is the first
pub first_alone : {Named : FieldFault → Type 0} (f : FieldFault) → Named f → ((g : FieldFault) → Named g → g ≡ f) → IsFirstIn Named f
first_alone f named only = record { named = named; first = λ g other. rw (only g other) (precedes_itself f) }
