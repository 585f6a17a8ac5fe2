-- Why an end does not forward.
use Rattle.std.specs.Prelude.{◌==◌, not, ℕ, Bool, true, false, List, [], ◌∷◌, Option, Some, None}
use Rattle.std.specs.List.{find}
use Rattle.net_base.specs.declared.trace.down.Down.{Down}
use Rattle.net_base.specs.declared.trace.down.Down.TheVariants as cause
use Rattle.pw_tlvs.specs.declared.pw_status.PwStatus.{PwStatus}
use Rattle.pw_status.specs.Status.{is_failure, is_standby}
use Rattle.pw_signalling.specs.declared.binding.Binding.{Binding}
use Rattle.pw_signalling.specs.declared.told.Told.{Told}
use Rattle.pw_signalling.specs.declared.end_role.EndRole.{EndRole}
use Rattle.pw_signalling.specs.declared.end_role.EndRole.TheVariants as role
use Rattle.pw_signalling.specs.End.{EndState, LocalPart, Idle, Advertised, Withdrawing}

-- what the end tells, where it advertises
abbrev pub own_told : LocalPart → Option Told
own_told (Idle declined) = None
own_told (Advertised label told) = Some told
own_told (Withdrawing label) = None

-- what the peer tells, where that is known
abbrev pub far_told : Option Binding → Option Told
far_told None = None
far_told (Some binding) = Some binding.told

-- nothing is told
abbrev pub is_none : Option Told → Bool
is_none None = true
is_none (Some told) = false

-- something holds of what both tell
abbrev pub of_both : (Told → Told → Bool) → Option Told → Option Told → Bool
of_both holds None far = false
of_both holds (Some own) None = false
of_both holds (Some own) (Some far) = holds own far

-- one is set and the other is not
abbrev pub differ : Bool → Bool → Bool
differ true far = not far
differ false far = far

-- both MTUs are told and differ
abbrev pub mtus_differ : Option ℕ → Option ℕ → Bool
mtus_differ None far = false
mtus_differ (Some own) None = false
mtus_differ (Some own) (Some far) = not (own == far)

-- the status is told and tells a failure
abbrev pub fails_in : Option PwStatus → Bool
fails_in None = false
fails_in (Some status) = is_failure status

-- the status is told and stands by
abbrev pub waits_in : Option PwStatus → Bool
waits_in None = false
waits_in (Some status) = is_standby status

-- a spoke that was not chosen stands by, and the core edge's end of a spoke where the peer tells it to (RFC 6870); elsewhere
-- that bit is not looked at
abbrev pub stands_by : EndRole → Option PwStatus → Bool
stands_by role.Mesh status = false
stands_by role.Core status = waits_in status
stands_by role.Chosen status = false
stands_by role.NotChosen status = true

-- Each cause, of an end with this role and these failure bits of its own, by what the end tells and what its peer tells.
abbrev pub holds_cause : EndRole → ℕ → Option Told → Option Told → Down → Bool
-- the end advertises no label (RFC 5036 section 3.5.7)
holds_cause role bits own far cause.NoLocal = is_none own
-- the peer's label is not known (RFC 5036 section 3.5.7)
holds_cause role bits own far cause.NoRemote = is_none far
-- the C bits differ (RFC 8077 section 7)
holds_cause role bits own far cause.CBit = of_both (λ a b. differ a.c b.c) own far
-- the PW types differ (RFC 8077 section 6.1)
holds_cause role bits own far cause.Kind = of_both (λ a b. not (a.kind == b.kind)) own far
-- both interface MTUs are told and differ (RFC 8077 section 6.4)
holds_cause role bits own far cause.Mtu = of_both (λ a b. mtus_differ a.mtu b.mtu) own far
-- the end's own failure bits are set (RFC 4446 section 3.5)
holds_cause role bits own far cause.LocalFault = not (bits == 0)
-- the peer tells a failure (RFC 8077 section 6.3.2)
holds_cause role bits own far cause.RemoteFault = of_both (λ a b. fails_in b.status) own far
-- the pseudowire stands by (RFC 6870)
holds_cause role bits own far cause.Standby = of_both (λ a b. stands_by role b.status) own far

-- the causes in order
abbrev pub causes : List Down
causes = cause.NoLocal ∷ cause.NoRemote ∷ cause.CBit ∷ cause.Kind ∷ cause.Mtu ∷ cause.LocalFault ∷ cause.RemoteFault ∷ cause.Standby ∷ []

-- the first cause that holds
abbrev pub first_cause : EndRole → ℕ → Option Told → Option Told → Option Down
first_cause role bits own far = find (holds_cause role bits own far) causes

-- why an end with this role and these failure bits does not forward; none where it forwards
unfoldable pub down : EndRole → ℕ → EndState → Option Down
down role bits e = first_cause role bits (own_told e.local) (far_told e.remote)
