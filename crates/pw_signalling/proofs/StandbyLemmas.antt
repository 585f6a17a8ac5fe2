-- Of the standby bit only the core edge's end of a spoke takes heed.
use Rattle.std.proofs.Common.{◌≡◌, ◌≢◌, ◌==◌, ◌||◌, ◌∙◌, ℕ, Bool, true, false, not, cond, Option, Some, None, refl, ap, arith}
use Rattle.net_base.specs.declared.trace.down.Down.{Down}
use Rattle.net_base.specs.declared.trace.down.Down.TheVariants as cause
use Rattle.pw_tlvs.specs.declared.pw_status.PwStatus.{PwStatus}
use Rattle.pw_status.specs.Status.{is_failure, is_set, is_standby}
use Rattle.pw_signalling.specs.declared.binding.Binding.{Binding}
use Rattle.pw_signalling.specs.declared.end_role.EndRole.{EndRole}
use Rattle.pw_signalling.specs.declared.end_role.EndRole.TheVariants as role
use Rattle.pw_signalling.specs.Down.{differ, down, mtus_differ, stands_by}
use Rattle.pw_signalling.specs.End.{EndState, LocalPart, Idle, Advertised, Withdrawing}
use Rattle.pw_signalling.specs.Laws.{AreSameButStandby, HeedsNoStandby}
use Rattle.pw_signalling.specs.Rows.{stated, status_part}

-- some of the five bits is set
abbrev some_of : (a b c d e : Bool) → Bool
some_of a b c d e = a || (b || (c || (d || (e || false))))

-- they tell the same failures
pub same_failure : (first second : PwStatus) → AreSameButStandby first second → is_failure first ≡ is_failure second
same_failure first second same =
    ap (λ (b : Bool). some_of b (is_set first 1) (is_set first 2) (is_set first 3) (is_set first 4)) (same 0 (λ e. omega arith))
    ∙ (ap (λ (b : Bool). some_of (is_set second 0) b (is_set first 2) (is_set first 3) (is_set first 4)) (same 1 (λ e. omega arith))
    ∙ (ap (λ (b : Bool). some_of (is_set second 0) (is_set second 1) b (is_set first 3) (is_set first 4)) (same 2 (λ e. omega arith))
    ∙ (ap (λ (b : Bool). some_of (is_set second 0) (is_set second 1) (is_set second 2) b (is_set first 4)) (same 3 (λ e. omega arith))
    ∙ ap (λ (b : Bool). some_of (is_set second 0) (is_set second 1) (is_set second 2) (is_set second 3) b) (same 4 (λ e. omega arith)))))

-- an end that is not the core edge's stands by whatever is told
same_standing : (own : EndRole) (first second : PwStatus) → own ≢ role.Core → stands_by own (Some first) ≡ stands_by own (Some second)
same_standing role.Mesh first second other = refl
same_standing role.Core first second other = absurd (other refl)
same_standing role.Chosen first second other = refl
same_standing role.NotChosen first second other = refl

-- why an end does not forward where both tell something, by these tests
abbrev first_of : (c kind mtu own far stands : Bool) → Option Down
first_of c kind mtu own far stands =
    cond c (Some cause.CBit) (cond kind (Some cause.Kind) (cond mtu (Some cause.Mtu) (cond own (Some cause.LocalFault) (cond far (Some cause.RemoteFault) (cond stands (Some cause.Standby) None)))))

others : (own : EndRole) (bits : ℕ) (e : EndState) (first second : PwStatus) → own ≢ role.Core → AreSameButStandby first second → down own bits (stated first e) ≡ down own bits (stated second e)
unfolding down
others own bits e first second other same = by e.local e.remote where
  by : (local : LocalPart) (remote : Option Binding)
      → down own bits (record { local = local; remote = status_part first remote }) ≡ down own bits (record { local = local; remote = status_part second remote })
  by (Idle declined) remote = refl
  by (Withdrawing label) remote = refl
  by (Advertised label told) None = refl
  by (Advertised label told) (Some binding) =
      ap (λ (fails : Bool). first_of (differ told.c binding.told.c) (not (told.kind == binding.told.kind)) (mtus_differ told.mtu binding.told.mtu) (not (bits == 0)) fails
      (stands_by own (Some first))) (same_failure first second same)
      ∙ ap (λ (stands : Bool). first_of (differ told.c binding.told.c) (not (told.kind == binding.told.kind)) (mtus_differ told.mtu binding.told.mtu) (not (bits == 0))
      (is_failure second) stands) (same_standing own first second other)

-- what alone is left is that the end stands by
alone : (c kind mtu own far : Bool) → first_of c kind mtu own far false ≡ None → first_of c kind mtu own far true ≡ Some cause.Standby
alone true kind mtu own far none = absurd (cc)
alone false true mtu own far none = absurd (cc)
alone false false true own far none = absurd (cc)
alone false false false true far none = absurd (cc)
alone false false false false true none = absurd (cc)
alone false false false false false none = refl

core : (bits : ℕ) (e : EndState) (status : PwStatus) → down role.Mesh bits (stated status e) ≡ None → is_standby status ≡ true → down role.Core bits (stated status e) ≡ Some cause.Standby
unfolding down
core bits e status none standby = by e.local e.remote none where
  by : (local : LocalPart) (remote : Option Binding) → down role.Mesh bits (record { local = local; remote = status_part status remote }) ≡ None
      → down role.Core bits (record { local = local; remote = status_part status remote }) ≡ Some cause.Standby
  by (Idle declined) remote none = absurd (cc)
  by (Withdrawing label) remote none = absurd (cc)
  by (Advertised label told) None none = absurd (cc)
  by (Advertised label told) (Some binding) none =
      ap (first_of (differ told.c binding.told.c) (not (told.kind == binding.told.kind)) (mtus_differ told.mtu binding.told.mtu) (not (bits == 0)) (is_failure status)) standby
      ∙ alone (differ told.c binding.told.c) (not (told.kind == binding.told.kind)) (mtus_differ told.mtu binding.told.mtu) (not (bits == 0)) (is_failure status) none

pub heeds_no_standby : HeedsNoStandby
heeds_no_standby = record { others = others; core = core }
