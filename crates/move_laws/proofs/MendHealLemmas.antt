-- What an edge at work heals goes on to heal.
use Rattle.address_laws.specs.Sites.{Sites}
use Rattle.edge_model.specs.Mend.{mends}
use Rattle.edge_model.specs.State.{EdgeState, put_at}
use Rattle.edge_model.specs.Work.{Work}
use Rattle.flight_laws.proofs.NameLemmas.{split}
use Rattle.flight_laws.specs.Ends.{HasTypes}
use Rattle.ldp_grammar.specs.declared.message.Message.{Message}
use Rattle.mac_table.specs.declared.mac_entry.MacEntry.{MacEntry}
use Rattle.move_laws.proofs.ChoiceLemmas.{mends_tell}
use Rattle.move_laws.proofs.ForgetLemmas.{all_left}
use Rattle.move_laws.proofs.LastLemmas.{mends_hold}
use Rattle.move_laws.proofs.PendingLemmas.{Grows, all_weaker, dead_on, entry_heals_on, spoke_ours, tells_on}
use Rattle.move_laws.proofs.StayLemmas.{mends_stay}
use Rattle.move_laws.specs.Clearing.{is_cleared_by, takes_clearing}
use Rattle.move_laws.specs.Healing.{BySpoke, EntryHeals, HasWays, IsHealing, IsSeen, IsSpokeTo, OfSpoke, StaysOn, TellsChoice, TellsNext, ToHear, Waits, WasSaid, Ways, WillBeRight, WillTell, WorkWays, chosen_in, learned_in, work_ways}
use Rattle.net_base.specs.declared.plan.Plan.{Plan}
use Rattle.net_base.specs.declared.plan.places.EdgeId.{EdgeId}
use Rattle.net_base.specs.declared.plan.places.ServiceId.{ServiceId}
use Rattle.net_base.specs.declared.plan.places.WireId.{WireId}
use Rattle.net_base.specs.plan.Accepted.{IsChecked}
use Rattle.net_base.specs.declared.plan.wire_plan.WirePlan.{WirePlan}
use Rattle.net_base.specs.plan.Paths.{is_first, is_last}
use Rattle.net_base.specs.plan.Places.{is_mesh_class}
use Rattle.net_base.specs.plan.Roles.{is_core_edge, are_joined_by}
use Rattle.pw_signalling.specs.declared.binding.Binding.{Binding}
use Rattle.network_model.specs.Absorb.{taken_all}
use Rattle.network_model.specs.State.{NetworkState}
use Rattle.std.proofs.Common.{Bool, List, Option, Some, ap, inl, inr, is_some, nat_eq, refl, subst, sym, true, ℕ, ⊎_elim, ◌||◌, ◌∙◌, ◌≡◌, ◌⊎◌}
use Rattle.std.proofs.lemmas.Bool.{eqb-true}
use Rattle.std.specs.List.{AllByRecursion}
use Rattle.net_values.proofs.NumberLemmas.{same_number}

-- ---- an edge at work

module _ (plan : Plan) (service : ServiceId) (site : Sites) (network : NetworkState) (me : EdgeId) (peer : ℕ) (before messages : List Message) (old new : Work)
    (on : StaysOn plan service network me peer old new)
    (told : TellsChoice plan service network me old new)
    (hear : (wire : WireId) (row : WirePlan) → are_joined_by plan service peer me.0 ≡ true → IsSeen plan service network peer me.0 wire row → is_cleared_by row.pw_id
    (takes_clearing old.edge row wire.0 peer me.0) before ≡ true
    → is_cleared_by row.pw_id (takes_clearing new.edge row wire.0 peer me.0) messages ≡ true) where
  abbrev WaysOf : List Message → Work → Ways
  WaysOf ms work = work_ways plan service network me.0 peer ms work

  way_on : (a b : ℕ) (wire : WireId) (row : WirePlan) → WorkWays plan service network me.0 peer before old a b wire row → WorkWays plan service network me.0 peer messages new a b wire row
  way_on a b wire row (WasSaid seen from joined there cleared) =
      let said : WillTell plan service network me.0 b wire row old = record { joined = joined; there = there; cleared = cleared } in
      WasSaid seen from joined there (tells_on plan service network me.0 b wire row old new (on.says b joined there) said).cleared
  way_on a b wire row (ToHear seen from to joined there among) = ToHear seen from to joined there
      (hear wire row joined (subst (λ (n : ℕ). IsSeen plan service network peer n wire row) to (subst (λ (n : ℕ). IsSeen plan service network n b wire row) from seen)) among)
  way_on a b wire row (Waits away other pending) = Waits away other pending

  ways_on : Grows plan service (WaysOf before old) (WaysOf messages new)
  ways_on = record {
    way = way_on;
    dead = λ edge wire home spoke. dead_on plan service network.edges me.0 peer old.edge new.edge wire spoke.row spoke.is (spoke_ours service edge spoke.row spoke.from) on.lasts;
    whole = λ edge wire whole. whole;
  }

  abbrev choices : Work → ℕ → Option WireId
  choices work = put_at (chosen_in service network) me.0 (work.edge.chosen service.0)

  choice_here : (work : Work) → choices work me.0 ≡ work.edge.chosen service.0
  choice_here work = rw (same_number me.0) refl

  told_here : (core p : ℕ) (wire : WireId) (home : ℕ) (spoke : IsSpokeTo plan service me.0 wire home) → choices new me.0 ≡ Some wire → (choices old me.0 ≡ Some wire)
      ⊎ WillBeRight plan service (WaysOf messages new) me.0 wire spoke.row home core p
  told_here core p wire home spoke chosen = ⊎_elim
      (λ (was : old.edge.chosen service.0 ≡ Some wire). inl (choice_here old ∙ was))
      (λ (next : TellsNext plan service network me.0 wire spoke.row new). inr (BySpoke me next.next next.follows_it next.whole
      (WasSaid (OfSpoke (record { is = spoke.is; edge = me.0; from = spoke.from; whole = next.whole; next = next.follows_it })) refl next.tells.joined next.tells.there next.tells.cleared)))
      (told.told wire home spoke (sym (choice_here new) ∙ chosen))

  told_at : (core p edge : ℕ) (wire : WireId) (home : ℕ) (spoke : IsSpokeTo plan service edge wire home) → choices new edge ≡ Some wire → (choices old edge ≡ Some wire)
      ⊎ WillBeRight plan service (WaysOf messages new) edge wire spoke.row home core p
  told_at core p edge wire home spoke chosen = split {P = (choices old edge ≡ Some wire) ⊎ WillBeRight plan service (WaysOf messages new) edge wire spoke.row home core p} (nat_eq edge me.0)
      (λ is. subst (λ (k : ℕ). (spoke : IsSpokeTo plan service k wire home) → choices new k ≡ Some wire → (choices old k ≡ Some wire)
      ⊎ WillBeRight plan service (WaysOf messages new) k wire spoke.row home core p)
      (sym (eqb-true edge me.0 is)) (told_here core p wire home) spoke chosen)
      (λ away. inl (rw away (rw away at chosen)))

  pub heals_on : IsHealing plan service site network me peer before old → IsHealing plan service site network me peer messages new
  heals_on heals = record {
    stays = on.stays;
    right = λ core is. split {P = AllByRecursion (Right core) (put_at (learned_in service network) me.0 (new.edge.learned service.0) core)} (nat_eq core me.0)
        (λ same. rw same (all_left (Right core) (old.edge.learned service.0) (new.edge.learned service.0) on.forgot (rw same at (on_old core is))))
        (λ away. rw away (rw away at (on_old core is)));
  }
    where
      Right : ℕ → MacEntry → Type 0
      Right core = EntryHeals plan service site (choices new) (WaysOf messages new) core

      on_old : (core : ℕ) → is_core_edge plan service core ≡ true → AllByRecursion (Right core) (put_at (learned_in service network) me.0 (old.edge.learned service.0) core)
      on_old core is = all_weaker (EntryHeals plan service site (choices old) (WaysOf before old) core) (Right core)
          (put_at (learned_in service network) me.0 (old.edge.learned service.0) core)
          (λ entry. entry_heals_on plan service site (choices old) (choices new) (WaysOf before old) (WaysOf messages new) core entry ways_on (told_at core entry.port))
          (heals.right core is)

-- who hears takes a withdrawal as before where its bindings are the same
pub takes_same : (old new : EdgeState) (row : WirePlan) (wire from me : ℕ) → (new.ends wire from).remote ≡ (old.ends wire from).remote
    → takes_clearing new row wire from me ≡ takes_clearing old row wire from me
takes_same old new row wire from me same = ap (λ (o : Option Binding). (is_mesh_class row.class || (is_first me row.path || is_last me row.path)) || is_some o) same

pub hear_same : (plan : Plan) (service : ServiceId) (network : NetworkState) (me peer : ℕ) (messages : List Message) (old new : EdgeState)
    → ((wire : ℕ) → (new.ends wire peer).remote ≡ (old.ends wire peer).remote)
    → (wire : WireId) (row : WirePlan) → are_joined_by plan service peer me ≡ true → IsSeen plan service network peer me wire row
    → is_cleared_by row.pw_id (takes_clearing old row wire.0 peer me) messages ≡ true
    → is_cleared_by row.pw_id (takes_clearing new row wire.0 peer me) messages ≡ true
hear_same plan service network me peer messages old new same wire row joined seen among = ap (λ (b : Bool). is_cleared_by row.pw_id b messages) (takes_same old new row wire.0 peer me (same wire.0))
    ∙ among

pub mends_heal : (plan : Plan) (service : ServiceId) (site : Sites) (network : NetworkState) (me : EdgeId) (peer : ℕ) (messages : List Message) (work : Work) → IsChecked plan
    → HasTypes plan → HasWays plan service network me
    → IsHealing plan service site network me peer messages work → IsHealing plan service site network me peer messages (mends plan taken_all work)
mends_heal plan service site network me peer messages work checked types ways heals =
    heals_on plan service site network me peer messages messages work (mends plan taken_all work)
    (mends_stay plan service network me peer work checked types heals.stays) (mends_tell plan service network me peer work checked types ways heals.stays)
    (hear_same plan service network me.0 peer messages work.edge (mends plan taken_all work).edge (λ wire. (mends_hold plan me work heals.stays.place).held wire peer)) heals
