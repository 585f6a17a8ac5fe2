-- What heals goes on to heal while more is said, addresses are forgotten and a new choice is told.
use Rattle.address_laws.specs.Sites.{Sites}
use Rattle.edge_model.specs.State.{EdgeState, put_at}
use Rattle.edge_model.specs.Work.{Work}
use Rattle.flight_laws.proofs.NameLemmas.{split}
use Rattle.flight_laws.proofs.SaidLemmas.{all_joined, said-append}
use Rattle.flight_laws.specs.Ends.{ends_at}
use Rattle.flight_laws.specs.Facts.{flight}
use Rattle.flight_laws.specs.Meeting.{said_to}
use Rattle.flight_laws.specs.Messages.{AreSaid, octets_of_all}
use Rattle.ldp_grammar.specs.declared.message.Message.{Message}
use Rattle.mac_table.specs.declared.mac_entry.MacEntry.{MacEntry}
use Rattle.move_laws.proofs.HearingLemmas.{cleared_more}
use Rattle.move_laws.specs.Clearing.{IsCleared, takes_clearing}
use Rattle.move_laws.specs.Healing.{ByMesh, BySpoke, EntryHeals, IsDead, IsLost, IsRight, IsSpokeTo, Lasts, SaysMore, Ways, WillBeRight, WillTell, is_stuck}
use Rattle.net_base.specs.declared.plan.Plan.{Plan}
use Rattle.net_base.specs.declared.plan.places.ServiceId.{ServiceId}
use Rattle.net_base.specs.declared.plan.places.WireId.{WireId}
use Rattle.net_base.specs.declared.plan.wire_plan.WirePlan.{WirePlan}
use Rattle.net_base.specs.plan.Paths.{follows, is_first, joins}
use Rattle.net_base.specs.plan.Places.{is_mesh_class, wire_row}
use Rattle.net_base.specs.plan.Roles.{are_joined_by, is_spoke_from, is_wire_of}
use Rattle.net_values.proofs.BoolLemmas.{first_holds}
use Rattle.network_model.proofs.WayLemmas.{joins_is}
use Rattle.network_model.specs.State.{NetworkState}
use Rattle.std.proofs.Common.{List, Option, Some, [], ap, append_assoc, nat_eq, not, subst, sym, true, ℕ, ⊎_elim, ◌&&◌, ◌++◌, ◌∙◌, ◌∷◌, ◌≡◌, ◌⊎◌}
use Rattle.std.proofs.lemmas.Bool.{and_from, eqb-true, or_left}
use Rattle.std.proofs.lemmas.Map.Keys.{any_passes_from_place}
use Rattle.std.specs.List.{AllByRecursion}

-- what holds of each holds of the others that follow
pub all_weaker : {A : Type 0} (P Q : A → Type 0) (xs : List A) → ((x : A) → P x → Q x) → AllByRecursion P xs → AllByRecursion Q xs
all_weaker P Q [] follows all = tt
all_weaker P Q (x ∷ xs) follows all = (follows x all.0, all_weaker P Q xs follows all.1)

-- what is on its way, dead or whole goes on to be
pub record Grows (plan : Plan) (service : ServiceId) (ways more : Ways) : Type 0 where
  pub way : (a b : ℕ) (wire : WireId) (row : WirePlan) → ways.way a b wire row → more.way a b wire row
  pub dead : (edge : ℕ) (wire : WireId) (home : ℕ) (spoke : IsSpokeTo plan service edge wire home) → ways.dead wire spoke.row → more.dead wire spoke.row
  pub whole : (edge : ℕ) (wire : WireId) → ways.whole edge wire → more.whole edge wire

pub will_weaker : (plan : Plan) (service : ServiceId) (ways more : Ways) (edge : ℕ) (wire : WireId) (home core p : ℕ) (spoke : IsSpokeTo plan service edge wire home) → Grows plan service ways more
    → WillBeRight plan service ways edge wire spoke.row home core p → WillBeRight plan service more edge wire spoke.row home core p
will_weaker plan service ways more edge wire home core p spoke grows (IsRight is) = IsRight is
will_weaker plan service ways more edge wire home core p spoke grows (BySpoke a b follows_it whole way) = BySpoke a b follows_it (grows.whole edge wire whole) (grows.way a.0 b.0 wire spoke.row way)
will_weaker plan service ways more edge wire home core p spoke grows (ByMesh mesh its a b is of far joined to way) = ByMesh mesh its a b is of far joined to (grows.way a.0 b.0 mesh its way)
will_weaker plan service ways more edge wire home core p spoke grows (IsLost dead) = IsLost (grows.dead edge wire home spoke dead)

-- An entry heals where its choice is an older one, or the withdrawal of the new one is on its way.
pub entry_heals_on : (plan : Plan) (service : ServiceId) (site : Sites) (old new : ℕ → Option WireId) (ways more : Ways) (core : ℕ) (entry : MacEntry) → Grows plan service ways more
    → ((edge : ℕ) (wire : WireId) (home : ℕ) (spoke : IsSpokeTo plan service edge wire home) → new edge ≡ Some wire
    → (old edge ≡ Some wire) ⊎ WillBeRight plan service more edge wire spoke.row home core entry.port)
    → EntryHeals plan service site old ways core entry → EntryHeals plan service site new more core entry
entry_heals_on plan service site old new ways more core entry grows told heals edge wire home spoke chosen there = ⊎_elim
    (λ (still : old edge ≡ Some wire). will_weaker plan service ways more edge wire home core entry.port spoke grows (heals edge wire home spoke still there))
    (λ (way : WillBeRight plan service more edge wire spoke.row home core entry.port). way)
    (told edge wire home spoke chosen)

-- ---- a withdrawal that was said goes on to be on its way

pub way_more : (plan : Plan) (edge : EdgeState) (a b : ℕ) (wire : WireId) (row : WirePlan) (old new : List ℕ) (more : List Message) → new ≡ old ++ octets_of_all (ends_at plan a b).me more
    → AreSaid (ends_at plan a b) more
    → IsCleared plan edge a b wire row old → IsCleared plan edge a b wire row new
way_more plan edge a b wire row old new more is said cleared = record {
  messages = cleared.messages ++ more;
  is = is ∙ (ap (λ (l : List ℕ). l ++ octets_of_all (ends_at plan a b).me more) cleared.is ∙ sym (all_joined (ends_at plan a b).me cleared.messages more));
  said = said-append (ends_at plan a b) cleared.messages more cleared.said said;
  among = cleared_more row.pw_id (takes_clearing edge row wire.0 a b) cleared.messages more cleared.among;
}

pub tells_on : (plan : Plan) (service : ServiceId) (network : NetworkState) (me place : ℕ) (wire : WireId) (row : WirePlan) (old new : Work) → SaysMore plan me place old new
    → WillTell plan service network me place wire row old → WillTell plan service network me place wire row new
tells_on plan service network me place wire row old new more tells = record {
  joined = tells.joined;
  there = tells.there;
  cleared = way_more plan (network.edges place) me place wire row (flight network me place ++ said_to place old.effects) (flight network me place ++ said_to place new.effects) more.more
      (ap (λ (l : List ℕ). flight network me place ++ l) more.is
      ∙ sym (append_assoc (flight network me place) (said_to place old.effects) (octets_of_all (ends_at plan me place).me more.more))) more.said tells.cleared;
}

-- ---- dead spokes

-- neighbours on a wire of the service
pub of_service_joined : (plan : Plan) (service : ServiceId) (a b : ℕ) (wire : WireId) (row : WirePlan) → wire_row plan wire ≡ Some row → is_wire_of service row ≡ true → follows row.path a b ≡ true
    → are_joined_by plan service a b ≡ true
of_service_joined plan service a b wire row is ours way = any_passes_from_place (λ (r : WirePlan). is_wire_of service r && joins a b r.path) plan.wires wire.0 row is
    (and_from (is_wire_of service row) (joins a b row.path) ours (joins_is row.path a b ∙ or_left (follows row.path a b) (follows row.path b a) way))

-- the spoke is one of the service
pub spoke_ours : (service : ServiceId) (edge : ℕ) (row : WirePlan) → is_spoke_from service edge row ≡ true → is_wire_of service row ≡ true
spoke_ours service edge row from = first_holds (is_wire_of service row) (not (is_mesh_class row.class))
    (first_holds (is_wire_of service row && not (is_mesh_class row.class)) (is_first edge row.path) from)

pub dead_on : (plan : Plan) (service : ServiceId) (edges : ℕ → EdgeState) (me peer : ℕ) (old new : EdgeState) (wire : WireId) (row : WirePlan) → wire_row plan wire ≡ Some row
    → is_wire_of service row ≡ true → Lasts plan service me peer old new → IsDead (put_at edges me old) wire row → IsDead (put_at edges me new) wire row
dead_on plan service edges me peer old new wire row is ours lasts dead = record {
  at = dead.at;
  next = dead.next;
  inner = dead.inner;
  follows_it = dead.follows_it;
  stuck = split {P = is_stuck (put_at edges me new dead.at) wire.0 dead.next ≡ true} (nat_eq dead.at me)
      (λ same. rw same (lasts.stuck wire.0 dead.next
      (subst (λ (n : ℕ). are_joined_by plan service n dead.next ≡ true) (eqb-true dead.at me same) (of_service_joined plan service dead.at dead.next wire row is ours dead.follows_it))
      (rw same at dead.stuck)))
      (λ away. rw away (rw away at dead.stuck));
}
