-- What holds of an end, and of every list of calls.
use Rattle.std.specs.Prelude.{◌≡◌, ◌≢◌, ◌⊎◌, ℕ, Bool, true, false, List, [], ◌∷◌, Option, Some, None}
use Rattle.net_base.specs.declared.trace.down.Down.TheVariants as cause
use Rattle.pw_tlvs.specs.declared.pw_status.PwStatus.{PwStatus}
use Rattle.pw_status.specs.Status.{is_set, is_standby}
use Rattle.pw_signalling.specs.declared.binding.Binding.{Binding}
use Rattle.pw_signalling.specs.declared.told.Told.{Told}
use Rattle.pw_signalling.specs.declared.end_role.EndRole.{EndRole}
use Rattle.pw_signalling.specs.declared.end_role.EndRole.TheVariants as role
use Rattle.pw_signalling.specs.Down.{down}
use Rattle.pw_signalling.specs.End.{EndState, LocalPart, Idle, Advertised, Withdrawing}
use Rattle.pw_signalling.specs.Rows.{advertised, bound, group_stated, group_unbound, lost, released, renewed, stated, telling, unbound, withdrawn}

-- a call that moves an end
pub data EndCall : Type 0 where
  Advertise : ℕ → Told → EndCall
  Tell : PwStatus → EndCall
  Withdraw : EndCall
  Renew : EndCall
  OnMapping : Binding → EndCall
  OnWithdraw : Option ℕ → EndCall
  OnRelease : Option ℕ → EndCall
  OnStatus : PwStatus → EndCall
  OnGroupWithdraw : ℕ → EndCall
  OnGroupStatus : ℕ → PwStatus → EndCall
  Lost : EndCall

-- what a call makes of an end
abbrev pub end_after : EndState → EndCall → EndState
end_after e (Advertise label told) = advertised label told e
end_after e (Tell status) = telling status e
end_after e Withdraw = withdrawn e
end_after e Renew = renewed e
end_after e (OnMapping binding) = bound binding e
end_after e (OnWithdraw label) = unbound label e
end_after e (OnRelease label) = released label e
end_after e (OnStatus status) = stated status e
end_after e (OnGroupWithdraw group) = group_unbound group e
end_after e (OnGroupStatus group status) = group_stated group status e
end_after e Lost = lost e

-- what a list of calls makes of it
abbrev pub run_end : EndState → List EndCall → EndState
run_end e [] = e
run_end e (call ∷ calls) = run_end (end_after e call) calls

-- ---- the remote part

-- the binding of the last mapping since the session stands, where one was held at first
abbrev pub mapping_after : Option Binding → EndCall → Option Binding
mapping_after last (OnMapping binding) = Some binding
mapping_after last Lost = None
mapping_after last call = last

-- the same after a list of calls
abbrev pub last_mapping : Option Binding → List EndCall → Option Binding
last_mapping last [] = last
last_mapping last (call ∷ calls) = last_mapping (mapping_after last call) calls

-- two bindings are the same but for the status
pub record IsOfMapping (mapping held : Binding) : Type 0 where
  pub label : held.label ≡ mapping.label
  pub told : held.told ≡ record (mapping.told) { status = held.told.status }

-- what is held, where there is something, is the mapping's binding but for the status
abbrev pub HoldsOnly : Option Binding → Option Binding → Type 0
HoldsOnly mapping None = Unit {0}
HoldsOnly None (Some held) = ⊥
HoldsOnly (Some mapping) (Some held) = IsOfMapping mapping held

-- Whatever comes, an end holds one binding at most: that of the last mapping since the session stands, but for the status.
abbrev pub HoldsTheLastMapping : Type 0
HoldsTheLastMapping = (e : EndState) (calls : List EndCall) → HoldsOnly (last_mapping e.remote calls) (run_end e calls).remote

-- ---- the local part

-- the label that the end owns: from its advertisement until it is idle
abbrev pub own_label : LocalPart → Option ℕ
own_label (Idle declined) = None
own_label (Advertised label told) = Some label
own_label (Withdrawing label) = Some label

-- a call by which an idle end gets a label
abbrev pub GivesLabel : EndCall → ℕ → Type 0
GivesLabel (Advertise given told) label = given ≡ label
GivesLabel call label = ⊥

-- A release of another label changes nothing. An end owns its label until it is idle, and gets one by an advertisement alone.
pub record KeepsItsLabel : Type 0 where
  pub release : (e : EndState) (label : ℕ) → own_label e.local ≢ Some label → released (Some label) e ≡ e
  pub keeps : (e : EndState) (call : EndCall) (label : ℕ) → own_label e.local ≡ Some label → (own_label (end_after e call).local ≡ Some label) ⊎ (own_label (end_after e call).local ≡ None)
  pub gets : (e : EndState) (call : EndCall) (label : ℕ) → own_label e.local ≡ None → own_label (end_after e call).local ≡ Some label → GivesLabel call label

-- a call that clears the mark of an end that is declined
abbrev pub clears_mark : EndCall → Bool
clears_mark (Advertise label told) = true
clears_mark Renew = true
clears_mark Lost = true
clears_mark call = false

-- a call by which an end is declined
abbrev pub Declines : EndState → EndCall → Type 0
Declines e (OnRelease label) = (own : ℕ) × (told : Told) × (e.local ≡ Advertised own told)
Declines e call = ⊥

-- The mark of a declined end stays until the end is renewed, its session is lost, or it advertises; no end is declined
-- afterwards, and it is only by a release of what it advertised.
pub record KeepsItsMark : Type 0 where
  pub stays : (e : EndState) (call : EndCall) → e.local ≡ Idle true → clears_mark call ≡ false → (end_after e call).local ≡ Idle true
  pub goes : (e : EndState) (call : EndCall) → clears_mark call ≡ true → (end_after e call).local ≢ Idle true
  pub comes : (e : EndState) (call : EndCall) → e.local ≢ Idle true → (end_after e call).local ≡ Idle true → Declines e call

-- ---- forwarding

-- the MTUs, where both are told, are the same
abbrev pub MtusAgree : Option ℕ → Option ℕ → Type 0
MtusAgree None far = Unit {0}
MtusAgree (Some own) None = Unit {0}
MtusAgree (Some own) (Some far) = own ≡ far

-- the end advertises a label and is bound, and what both tell agrees
pub record BothAgree (e : EndState) : Type 0 where
  pub label : ℕ
  pub own : Told
  pub binding : Binding
  pub advertises : e.local ≡ Advertised label own
  pub bound : e.remote ≡ Some binding
  pub c_bits : own.c ≡ binding.told.c
  pub kinds : own.kind ≡ binding.told.kind
  pub mtus : MtusAgree own.mtu binding.told.mtu

-- An end forwards only where it advertises and is bound, both C bits and both PW types are the same, and the MTUs do not differ.
abbrev pub ForwardsWhereBothAgree : Type 0
ForwardsWhereBothAgree = (role : EndRole) (bits : ℕ) (e : EndState) → down role bits e ≡ None → BothAgree e

-- ---- the standby bit

-- two statuses have the same bits but for the standby bit, 0x20 (RFC 6870)
abbrev pub AreSameButStandby : PwStatus → PwStatus → Type 0
AreSameButStandby first second = (bit : ℕ) → bit ≢ 5 → is_set first bit ≡ is_set second bit

-- Of the standby bit that the peer tells only the core edge's end of a spoke takes heed, and that end does not forward where it is
-- set. Why each other end does not forward, an end of a mesh wire and both kinds at a spoke edge, is the same with the bit as
-- without it.
pub record HeedsNoStandby : Type 0 where
  pub others : (own : EndRole) (bits : ℕ) (e : EndState) (first second : PwStatus) → own ≢ role.Core → AreSameButStandby first second
      → down own bits (stated first e) ≡ down own bits (stated second e)
  pub core : (bits : ℕ) (e : EndState) (status : PwStatus) → down role.Mesh bits (stated status e) ≡ None → is_standby status ≡ true
      → down role.Core bits (stated status e) ≡ Some cause.Standby
