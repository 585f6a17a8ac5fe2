-- What an edge has done goes into the network, and the rules of labels and of told contents hold there again.
use Rattle.std.proofs.Common.{◌≡◌, ◌++◌, ◌∙◌, ℕ, Bool, true, false, cond, nat_eq, List, [], Option, Some, None, refl, sym, ap, subst, inl, ⊎_elim}
use Rattle.std.proofs.lemmas.Bool.{eqb-true}
use Rattle.net_values.proofs.NumberLemmas.{apart_back}
use Rattle.net_base.specs.declared.plan.Plan.{Plan}
use Rattle.net_base.specs.declared.plan.places.EdgeId.{EdgeId}
use Rattle.ldp_grammar.specs.declared.message.Message.{Message}
use Rattle.pw_signalling.specs.End.{EndState}
use Rattle.edge_model.specs.State.{EdgeState, Peering}
use Rattle.edge_model.specs.Work.{Work}
use Rattle.network_model.specs.Absorb.{absorb, absorb_all, answer, begin_at, idle}
use Rattle.network_model.specs.State.{NetworkState, held_by, with_edge}
use Rattle.flight_laws.specs.Coming.{and_more}
use Rattle.flight_laws.specs.Ends.{ends_at}
use Rattle.flight_laws.specs.Facts.{Fact, FromBoth, HoldsBut, HoldsOfTwo, LeavesTo, flight}
use Rattle.flight_laws.specs.Meeting.{closes, said_to}
use Rattle.flight_laws.specs.Messages.{octets_of_all}
use Rattle.flight_laws.specs.Rules.{AllMessages, BindsGiven, MayCarry}
use Rattle.flight_laws.proofs.MentionLemmas.{KeepsMentions, all_kept, all_more, binds_kept, binds_mentioned, far_kept, far_mentioned, own_mentioned}
use Rattle.flight_laws.proofs.NameLemmas.{KeepsNames, names_same, names_then, split}
use Rattle.flight_laws.proofs.PipeLemmas.{all_edges}
use Rattle.flight_laws.proofs.RuledLemmas.{IsRuled, IsRuledEdge, IsRuledFor, WorksRuled, holds_of, ruled_kept}
use Rattle.flight_laws.proofs.SaidLemmas.{all_joined}
use Rattle.flight_laws.proofs.SettleLemmas.{both_turn, edge_else, edge_there, settle}

-- ---- two edges

-- what is on its way from one edge to another one is ruled, and what the other one holds of it was given
pub record RulesTo (plan : Plan) (a b : ℕ) (one other : EdgeState) (out : List ℕ) : Type 0 where
  pub messages : List Message
  pub octets : out ≡ octets_of_all (ends_at plan a b).me messages
  pub ruled : AllMessages (IsRuled plan a b one other) messages
  pub bound : (wire : ℕ) → BindsGiven one wire b (other.ends wire a).remote

abbrev pub OutRules : Plan → Fact
OutRules plan a b one other out back = RulesTo plan a b one other out

pub record IsRuledNetwork (plan : Plan) (network : NetworkState) : Type 0 where
  pub edges : (a : ℕ) → IsRuledEdge plan a (network.edges a)
  pub two : HoldsOfTwo (FromBoth (OutRules plan)) network

-- whatever label may be carried by a packet may be so still
abbrev pub Carries : EdgeState → EdgeState → Type 0
Carries old new = (wire peer age label : ℕ) → MayCarry old wire peer age label → MayCarry new wire peer age label

pub carries : (old new : EdgeState) → KeepsNames old new → Carries old new
carries old new keeps wire peer age label may = keeps.names wire peer label (Some age) may

pub carries_same : (edge : EdgeState) → Carries edge edge
carries_same edge wire peer age label may = may

-- the rules hold after an event, and whatever label a packet may carry to an edge it may carry still
pub record StaysRuled (plan : Plan) (old new : NetworkState) : Type 0 where
  pub ruled : IsRuledNetwork plan new
  pub keeps : (k : ℕ) → Carries (old.edges k) (new.edges k)

pub stays_ruled : (plan : Plan) (network : NetworkState) → IsRuledNetwork plan network → StaysRuled plan network network
stays_ruled plan network ruled = record { ruled = ruled; keeps = λ k. carries_same (network.edges k) }

pub stays_then : (plan : Plan) (a b c : NetworkState) → StaysRuled plan a b → StaysRuled plan b c → StaysRuled plan a c
stays_then plan a b c one next = record { ruled = next.ruled; keeps = λ k wire peer age label may. next.keeps k wire peer age label (one.keeps k wire peer age label may) }

-- the sender has worked
pub rules_from : (plan : Plan) (a b : ℕ) (old new other : EdgeState) (out : List ℕ) → new.me ≡ old.me → KeepsNames old new → RulesTo plan a b old other out → RulesTo plan a b new other out
rules_from plan a b old new other out same keeps rules = record {
  messages = rules.messages;
  octets = rules.octets;
  ruled = all_kept (IsRuled plan a b old other) (IsRuled plan a b new other) rules.messages (λ m ruled. ruled_kept plan a b old new other m same keeps ruled) rules.ruled;
  bound = λ wire. binds_kept old new wire b (other.ends wire a).remote keeps (rules.bound wire);
}

-- the sender is another one, of which the same messages and bindings may name what they did, and the receiver is
pub rules_mentioned : (plan : Plan) (a b : ℕ) (one new other far : EdgeState) (out : List ℕ) → new.me ≡ one.me → far.me ≡ other.me → far.ends ≡ other.ends → KeepsMentions b one new
    → KeepsMentions a other far
    → RulesTo plan a b one other out → RulesTo plan a b new far out
rules_mentioned plan a b one new other far out same too ends keeps kept rules = record {
  messages = rules.messages;
  octets = rules.octets;
  ruled = all_kept (IsRuled plan a b one other) (IsRuled plan a b new far) rules.messages
      (λ m ruled. record {
        fit = ruled.fit;
        ready = ruled.ready;
        own = own_mentioned plan one new b m same keeps ruled.own;
        far = far_mentioned plan other far a m too kept ruled.far;
        tells = ruled.tells;
      }) rules.ruled;
  bound = λ wire. binds_mentioned one new wire b (far.ends wire a).remote keeps (subst (λ (f : ℕ → ℕ → EndState). BindsGiven one wire b (f wire a).remote) (sym ends) (rules.bound wire));
}

-- more is said to an end that stands
more_from : (plan : Plan) (a b : ℕ) (one other : EdgeState) (far : Option Peering) (out said : List ℕ) (messages : List Message) → RulesTo plan a b one other out → said
    ≡ octets_of_all (ends_at plan a b).me messages
    → AllMessages (IsRuled plan a b one other) messages → RulesTo plan a b one other (and_more far out said)
more_from plan a b one other None out said messages rules is ruled = rules
more_from plan a b one other (Some kept) out said messages rules is ruled = record {
  messages = rules.messages ++ messages;
  octets = ap (λ (l : List ℕ). l ++ said) rules.octets
      ∙ (ap (λ (l : List ℕ). octets_of_all (ends_at plan a b).me rules.messages ++ l) is ∙ sym (all_joined (ends_at plan a b).me rules.messages messages));
  ruled = all_more (IsRuled plan a b one other) rules.messages messages rules.ruled ruled;
  bound = rules.bound;
}

-- the receiver has worked
pub ruled_far : (plan : Plan) (a b : ℕ) (one old new : EdgeState) (m : Message) → new.me ≡ old.me → KeepsNames old new → IsRuled plan a b one old m → IsRuled plan a b one new m
ruled_far plan a b one old new m same keeps ruled = record { fit = ruled.fit; ready = ruled.ready; own = ruled.own; far = far_kept plan old new a m same keeps ruled.far; tells = ruled.tells }

-- the octets that are held
abbrev pub octets_held : Option (List ℕ) → List ℕ
octets_held None = []
octets_held (Some octets) = octets

pub held_is : (near : Option Peering) (held : Option (List ℕ)) → holds_of near ≡ held → held_by near ≡ octets_held held
held_is None held is = ap (λ (o : Option (List ℕ)). octets_held o) is
held_is (Some kept) held is = ap (λ (o : Option (List ℕ)). octets_held o) is

pub rules_back : (plan : Plan) (place me : ℕ) (other first : EdgeState) (held : Option (List ℕ)) (more : List ℕ) (work : Work) → RulesTo plan place me other first (octets_held held ++ more)
    → work.edge.me ≡ first.me → KeepsNames first work.edge → IsRuledFor plan me place other held work
    → RulesTo plan place me other work.edge (held_by (work.edge.peering place) ++ cond (closes place work.effects) [] more)
rules_back plan place me other first held more work back same keeps left = ⊎_elim
    (λ (stays : (holds_of (work.edge.peering place) ≡ held) × (closes place work.effects ≡ false)). record {
      messages = back.messages;
      octets = ap (λ (b : Bool). held_by (work.edge.peering place) ++ cond b [] more) stays.1 ∙ (ap (λ (l : List ℕ). l ++ more) (held_is (work.edge.peering place) held stays.0) ∙ back.octets);
      ruled = all_kept (IsRuled plan place me other first) (IsRuled plan place me other work.edge) back.messages
          (λ m ruled. ruled_far plan place me other first work.edge m same keeps ruled) back.ruled;
      bound = left.bound;
    })
    (λ (gone : (work.edge.peering place ≡ None) × (closes place work.effects ≡ true)). record {
      messages = [];
      octets = ap (λ (b : Bool). held_by (work.edge.peering place) ++ cond b [] more) gone.1 ∙ ap (λ (o : Option Peering). held_by o ++ []) gone.0;
      ruled = tt;
      bound = left.bound;
    })
    left.inward

pub leaves_ruled : (plan : Plan) (me : EdgeId) (place : ℕ) (first other : EdgeState) (out more : List ℕ) (held : Option (List ℕ)) (work : Work)
    → RulesTo plan me.0 place first other out → RulesTo plan place me.0 other first (octets_held held ++ more)
    → work.edge.me ≡ first.me → KeepsNames first work.edge → IsRuledFor plan me.0 place other held work → LeavesTo (FromBoth (OutRules plan)) me place other out more work
leaves_ruled plan me place first other out more held work go back same keeps left = (
  more_from plan me.0 place work.edge other (other.peering me.0) out (said_to place work.effects) left.messages
      (rules_from plan me.0 place first work.edge other out same keeps go) left.octets left.ruled,
  rules_back plan place me.0 other first held more work back same keeps left,
)

-- ---- a work goes into the network

pub record IsSettledIn (plan : Plan) (network after : NetworkState) (me : ℕ) (edge : EdgeState) : Type 0 where
  pub ruled : IsRuledNetwork plan after
  pub own : after.edges me ≡ edge
  pub other : (k : ℕ) → nat_eq k me ≡ false → after.edges k ≡ network.edges k

pub ruled_in : (plan : Plan) (network : NetworkState) (me : EdgeId) (origin hops : ℕ) (first : EdgeState) (held : ℕ → Option (List ℕ)) (work : Work) → HoldsBut (FromBoth (OutRules plan)) me.0 network
    → ((a : ℕ) → nat_eq a me.0 ≡ false → IsRuledEdge plan a (network.edges a)) → first.me ≡ record { 0 = me.0 } → WorksRuled plan network.edges me.0 first held work
    → ((place : ℕ) → nat_eq place me.0 ≡ false → RulesTo plan me.0 place first (network.edges place) (flight network me.0 place))
    → ((place : ℕ) → nat_eq place me.0 ≡ false → RulesTo plan place me.0 (network.edges place) first (octets_held (held place) ++ network.pipes place me.0))
    → IsSettledIn plan network (absorb me origin hops work network).state me.0 work.edge
ruled_in plan network me origin hops first held work others ruled at works out back = record {
  ruled = record {
    edges = λ a. split {P = IsRuledEdge plan a (after.edges a)} (nat_eq a me.0)
        (λ is. subst (λ (k : ℕ). IsRuledEdge plan k (after.edges k)) (sym (eqb-true a me.0 is)) (subst (IsRuledEdge plan me.0) (sym own_edge) works.edge))
        (λ away. subst (IsRuledEdge plan a) (sym (other_edge a away)) (ruled a away));
    two = settle (FromBoth (OutRules plan)) network me origin hops work (both_turn (OutRules plan)) others
        (λ place away. leaves_ruled plan me place first (network.edges place) (flight network me.0 place) (network.pipes place me.0) (held place) work (out place away)
        (back place away) (works.edge.place ∙ sym at) works.keeps (works.left place away));
  };
  own = own_edge;
  other = other_edge;
}
  where
    after : NetworkState
    after = absorb_all me origin hops work.effects (with_edge me work.edge network)

    edges : after.edges ≡ (with_edge me work.edge network).edges
    edges = all_edges me origin hops work.effects (with_edge me work.edge network)

    own_edge : after.edges me.0 ≡ work.edge
    own_edge = ap (λ (f : ℕ → EdgeState). f me.0) edges ∙ edge_there me work.edge network

    other_edge : (a : ℕ) → nat_eq a me.0 ≡ false → after.edges a ≡ network.edges a
    other_edge a away = ap (λ (f : ℕ → EdgeState). f a) edges ∙ edge_else me work.edge network a away

pub ruled_settle : (plan : Plan) (network : NetworkState) (me : EdgeId) (origin hops : ℕ) (first : EdgeState) (held : ℕ → Option (List ℕ)) (work : Work)
    → HoldsBut (FromBoth (OutRules plan)) me.0 network
    → ((a : ℕ) → nat_eq a me.0 ≡ false → IsRuledEdge plan a (network.edges a)) → first.me ≡ record { 0 = me.0 } → WorksRuled plan network.edges me.0 first held work
    → ((place : ℕ) → nat_eq place me.0 ≡ false → RulesTo plan me.0 place first (network.edges place) (flight network me.0 place))
    → ((place : ℕ) → nat_eq place me.0 ≡ false → RulesTo plan place me.0 (network.edges place) first (octets_held (held place) ++ network.pipes place me.0))
    → KeepsNames (network.edges me.0) first → StaysRuled plan network (absorb me origin hops work network).state
ruled_settle plan network me origin hops first held work others ruled at works out back begun =
    let after : NetworkState = (absorb me origin hops work network).state in
    let settled : IsSettledIn plan network after me.0 work.edge = ruled_in plan network me origin hops first held work others ruled at works out back in
    record {
      ruled = settled.ruled;
      keeps = λ k. split {P = Carries (network.edges k) (after.edges k)} (nat_eq k me.0)
          (λ is. subst (λ (n : ℕ). Carries (network.edges n) (after.edges n)) (sym (eqb-true k me.0 is))
          (subst (Carries (network.edges me.0)) (sym settled.own) (carries (network.edges me.0) work.edge (names_then (network.edges me.0) first work.edge begun works.keeps))))
          (λ away. subst (Carries (network.edges k)) (sym (settled.other k away)) (carries_same (network.edges k)));
    }

-- ---- an edge begins

-- what an edge of the network holds of each other one
abbrev pub held_at : NetworkState → ℕ → ℕ → Option (List ℕ)
held_at network me place = holds_of ((network.edges me).peering place)

pub ruled_begin : (plan : Plan) (network : NetworkState) (me : EdgeId) → IsRuledNetwork plan network
    → WorksRuled plan network.edges me.0 (network.edges me.0) (held_at network me.0) (begin_at network me)
ruled_begin plan network me ruled = record {
  edge = ruled.edges me.0;
  keeps = names_same (network.edges me.0);
  left = λ place away. record {
    messages = [];
    octets = refl;
    ruled = tt;
    bound = (ruled.two me.0 place (apart_back place me.0 away)).1.bound;
    inward = inl (refl, refl);
  };
}

pub held_again : (near : Option Peering) → held_by near ≡ octets_held (holds_of near)
held_again None = refl
held_again (Some kept) = refl

pub ruled_work : (plan : Plan) (network : NetworkState) (me : EdgeId) (origin hops : ℕ) (work : Work) → IsRuledNetwork plan network
    → WorksRuled plan network.edges me.0 (network.edges me.0) (held_at network me.0) work
    → StaysRuled plan network (absorb me origin hops work network).state
ruled_work plan network me origin hops work ruled works =
    ruled_settle plan network me origin hops (network.edges me.0) (held_at network me.0) work (λ a b apart away gone. ruled.two a b apart) (λ a away. ruled.edges a) (ruled.edges me.0).place works
    (λ place away. (ruled.two me.0 place (apart_back place me.0 away)).0)
    (λ place away. subst (λ (l : List ℕ). RulesTo plan place me.0 (network.edges place) (network.edges me.0) (l ++ network.pipes place me.0))
    (held_again ((network.edges me.0).peering place)) (ruled.two me.0 place (apart_back place me.0 away)).1)
    (names_same (network.edges me.0))

pub ruled_answer : (plan : Plan) (network : NetworkState) (me : EdgeId) (origin hops : ℕ) (work : Work) → IsRuledNetwork plan network
    → WorksRuled plan network.edges me.0 (network.edges me.0) (held_at network me.0) work
    → StaysRuled plan network (answer me origin hops work network).state
ruled_answer plan network me origin hops work ruled works = by_idle work.idle where
  by_idle : (b : Bool) → StaysRuled plan network (cond b (idle network) (absorb me origin hops work network)).state
  by_idle true = stays_ruled plan network ruled
  by_idle false = ruled_work plan network me origin hops work ruled works
