-- Contents that are compared field by field.
use Rattle.std.proofs.Common.{◌≡◌, ◌≤◌, ◌==◌, ◌&&◌, ◌↔◌, nat_eq, ℕ, Bool, true, List, [], ◌∷◌, Option, Some, None, length, refl, ap, arith}
use Rattle.std.proofs.lemmas.Bool.Decides.{Decides-eqb, nat_tests}
use Rattle.std.proofs.lemmas.Slice.Eq.{bytes_eq-Decides}
use Rattle.std.proofs.lemmas.Bool.{and_parts}
use Rattle.std.specs.Bool.{Decides, beq}
use Rattle.std.specs.Cmp.{booleans_Decides}
use Rattle.std.specs.Cmp.Lexicographic.{pointwise, pointwise_decides}
use Rattle.std.specs.Option.{option_eq}
use Rattle.std.specs.Str.{bytes_eq}
use Rattle.net_values.specs.declared.addr.Addr.{Addr}
use Rattle.pw_tlvs.specs.declared.point.Point.{Point}
use Rattle.pw_signalling.specs.declared.told.Told.{Told}
use Rattle.pw_stitch.specs.Change.{are_same_channels, are_same_three, has_same_channels, has_same_numbers, has_same_params, has_same_texts, is_same_address, is_same_but_status, is_same_point, without_status}

-- at most three points are the same as at most three others where those at each place are the same
pub same_three : (xs ys : List Point) → length xs ≤ 3 → length ys ≤ 3 → are_same_three xs ys ≡ pointwise is_same_point xs ys
same_three [] [] few less = refl
same_three [] (b ∷ ys) few less = grind (arith, nat_tests)
same_three (a ∷ xs) [] few less = grind (arith, nat_tests)
same_three (a ∷ []) (b ∷ []) few less = grind (arith, nat_tests)
same_three (a ∷ []) (b ∷ d ∷ ys) few less = grind (arith, nat_tests)
same_three (a ∷ c ∷ xs) (b ∷ []) few less = grind (arith, nat_tests)
same_three (a ∷ c ∷ []) (b ∷ d ∷ []) few less = grind (arith, nat_tests)
same_three (a ∷ c ∷ []) (b ∷ d ∷ f ∷ ys) few less = grind (arith, nat_tests)
same_three (a ∷ c ∷ e ∷ xs) (b ∷ d ∷ []) few less = grind (arith, nat_tests)
same_three (a ∷ c ∷ e ∷ []) (b ∷ d ∷ f ∷ []) few less = grind (arith, nat_tests)
same_three (a ∷ c ∷ e ∷ []) (b ∷ d ∷ f ∷ h ∷ ys) few less = absurd (grind (arith, nat_tests))
same_three (a ∷ c ∷ e ∷ g ∷ xs) (b ∷ d ∷ f ∷ ys) few less = absurd (grind (arith, nat_tests))

-- ---- the same fields are the same content

joined : {p q : Bool} → p ≡ true → q ≡ true → p && q ≡ true
joined {p} {q} first second = rw (first, second) refl

options_decide : {T : Type 0} (E : T → T → Bool) → ((x y : T) → Decides (E x y) (x ≡ y)) → (p q : Option T) → Decides (option_eq E p q) (p ≡ q)
options_decide E each None None = (λ h. refl, λ h. refl)
options_decide E each None (Some y) = (λ h. absurd (cc (h)), λ h. absurd (cc (h)))
options_decide E each (Some x) None = (λ h. absurd (cc (h)), λ h. absurd (cc (h)))
options_decide E each (Some x) (Some y) = (λ h. ap Some ((each x y).0 h), λ h. (each x y).1 (inside h)) where
  inside : Some x ≡ Some y → x ≡ y
  inside h = cc (h)

addresses_decide : (one other : Addr) → Decides (is_same_address one other) (one ≡ other)
addresses_decide one other = (λ h. ap (λ (octets : List ℕ). record { 0 = octets }) ((bytes_eq-Decides one.0 other.0).0 h), λ h. (bytes_eq-Decides one.0 other.0).1 (ap (λ (a : Addr). a.0) h))

points_decide : (one other : Point) → Decides (is_same_point one other) (one ≡ other)
points_decide one other = (there, back) where
  there : is_same_point one other ≡ true → one ≡ other
  there h =
      let parts = and_parts (option_eq nat_eq one.pw_id other.pw_id && option_eq is_same_address one.local other.local) (option_eq is_same_address one.remote other.remote) h in
      let front = and_parts (option_eq nat_eq one.pw_id other.pw_id) (option_eq is_same_address one.local other.local) parts.0 in
      λ i. record {
        pw_id = (options_decide nat_eq Decides-eqb one.pw_id other.pw_id).0 front.0 i;
        local = (options_decide is_same_address addresses_decide one.local other.local).0 front.1 i;
        remote = (options_decide is_same_address addresses_decide one.remote other.remote).0 parts.1 i;
      }

  back : one ≡ other → is_same_point one other ≡ true
  back h =
      joined (joined ((options_decide nat_eq Decides-eqb one.pw_id other.pw_id).1 (ap (λ (p : Point). p.pw_id) h))
      ((options_decide is_same_address addresses_decide one.local other.local).1 (ap (λ (p : Point). p.local) h)))
      ((options_decide is_same_address addresses_decide one.remote other.remote).1 (ap (λ (p : Point). p.remote) h))

channels_decide : (one other : ℕ × ℕ) → Decides (are_same_channels one other) (one ≡ other)
channels_decide one other = (there, back) where
  there : are_same_channels one other ≡ true → one ≡ other
  there h =
      let parts = and_parts (one.0 == other.0) (one.1 == other.1) h in
      λ i. ((Decides-eqb one.0 other.0).0 parts.0 i, (Decides-eqb one.1 other.1).0 parts.1 i)

  back : one ≡ other → are_same_channels one other ≡ true
  back h = joined ((Decides-eqb one.0 other.0).1 (ap (λ (p : ℕ × ℕ). p.0) h)) ((Decides-eqb one.1 other.1).1 (ap (λ (p : ℕ × ℕ). p.1) h))

module _ (one other : Told) where
  there : is_same_but_status one other ≡ true → without_status one ≡ without_status other
  there h =
      let whole = and_parts (((beq one.c other.c && one.kind == other.kind) && one.group == other.group) && has_same_params one other) (pointwise is_same_point one.points other.points) h in
      let half = and_parts ((beq one.c other.c && one.kind == other.kind) && one.group == other.group) (has_same_params one other) whole.0 in
      let head = and_parts (beq one.c other.c && one.kind == other.kind) (one.group == other.group) half.0 in
      let front = and_parts (beq one.c other.c) (one.kind == other.kind) head.0 in
      let params = and_parts (has_same_texts one other) (has_same_numbers one other) half.1 in
      let texts = and_parts (has_same_channels one other) (bytes_eq one.description other.description) params.0 in
      let numbers = and_parts (option_eq nat_eq one.mtu other.mtu) (option_eq nat_eq one.vlan other.vlan) params.1 in
      λ i. record {
        c = (booleans_Decides one.c other.c).0 front.0 i;
        kind = (Decides-eqb one.kind other.kind).0 front.1 i;
        group = (Decides-eqb one.group other.group).0 head.1 i;
        mtu = (options_decide nat_eq Decides-eqb one.mtu other.mtu).0 numbers.0 i;
        vlan = (options_decide nat_eq Decides-eqb one.vlan other.vlan).0 numbers.1 i;
        vccv = (options_decide are_same_channels channels_decide one.vccv other.vccv).0 texts.0 i;
        description = (bytes_eq-Decides one.description other.description).0 texts.1 i;
        status = None;
        points = (pointwise_decides points_decide one.points other.points).0 whole.1 i;
      }

  back : without_status one ≡ without_status other → is_same_but_status one other ≡ true
  back h =
      joined (joined (joined (joined ((booleans_Decides one.c other.c).1 (ap (λ (t : Told). t.c) h)) ((Decides-eqb one.kind other.kind).1 (ap (λ (t : Told). t.kind) h)))
      ((Decides-eqb one.group other.group).1 (ap (λ (t : Told). t.group) h)))
      (joined (joined ((options_decide are_same_channels channels_decide one.vccv other.vccv).1 (ap (λ (t : Told). t.vccv) h))
      ((bytes_eq-Decides one.description other.description).1 (ap (λ (t : Told). t.description) h)))
      (joined ((options_decide nat_eq Decides-eqb one.mtu other.mtu).1 (ap (λ (t : Told). t.mtu) h)) ((options_decide nat_eq Decides-eqb one.vlan other.vlan).1 (ap (λ (t : Told). t.vlan) h)))))
      ((pointwise_decides points_decide one.points other.points).1 (ap (λ (t : Told). t.points) h))

  -- two contents are the same but for the status exactly where they are the same without it
  pub same_without_status : (is_same_but_status one other ≡ true) ↔ (without_status one ≡ without_status other)
  same_without_status = (there, back)
