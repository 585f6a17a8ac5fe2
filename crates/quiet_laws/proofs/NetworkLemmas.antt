-- An edge has heard a neighbour, or lost its end of a connection: what it has done goes into the network, whose measure falls.
use Rattle.std.proofs.Common.{◌≡◌, ◌≤◌, ◌<◌, ◌+◌, ◌*◌, ◌++◌, ◌∙◌, ℕ, zero, suc, Bool, true, false, cond, nat_eq, List, [], ◌∷◌, Option, Some, None, length, refl, sym, ap, subst, append_assoc, zero-add, inl, inr, arith}
use Rattle.std.proofs.lemmas.Bool.{cases_Bool, eqb-true}
use Rattle.std.proofs.lemmas.List.{length-append}
use Rattle.net_values.proofs.NumberLemmas.{apart_back, same_number}
use Rattle.net_base.specs.declared.plan.Plan.{Plan}
use Rattle.net_base.specs.declared.plan.places.EdgeId.{EdgeId}
use Rattle.net_base.specs.declared.plan.wire_plan.WirePlan.{WirePlan}
use Rattle.net_base.specs.plan.Paths.{first_edge, follows, last_edge}
use Rattle.net_base.specs.plan.Places.{wire_row}
use Rattle.ldp_grammar.specs.declared.message.Message.{Message}
use Rattle.ldp_grammar.specs.Octets.{two}
use Rattle.ldp_grammar.specs.Written.{message_octets, written}
use Rattle.session_core.specs.declared.peers.Peers.{Peers}
use Rattle.pw_messages.specs.Sender.{platform_of}
use Rattle.edge_model.specs.declared.effect.Effect.{Effect}
use Rattle.edge_model.specs.declared.effect.Effect.TheVariants as effect
use Rattle.edge_model.specs.declared.end_place.EndPlace.{EndPlace}
use Rattle.edge_model.specs.EndPlaces.{end_named}
use Rattle.edge_model.specs.State.{EdgeState, Peering, is_there}
use Rattle.edge_model.specs.Work.{Work}
use Rattle.network_model.specs.Absorb.{absorb}
use Rattle.network_model.specs.State.{NetworkState, held_by, stands, with_edge}
use Rattle.flight_laws.specs.Ends.{WorksOn, ends_at}
use Rattle.flight_laws.specs.Meeting.{closes, said_to}
use Rattle.flight_laws.specs.Messages.{AreSaid, IsSaidAcross, octets_of_all}
use Rattle.flight_laws.specs.Pair.{AreFit}
use Rattle.flight_laws.proofs.PipeLemmas.{all_apart, all_edges, all_from, all_to}
use Rattle.flight_laws.proofs.ReadyLemmas.{all_ready, same_messages}
use Rattle.flight_laws.proofs.SaidLemmas.{all_joined, ready}
use Rattle.flight_laws.proofs.SettleLemmas.{edge_else, edge_pipes, edge_there}
use Rattle.std.specs.Prelude.{option_and_then}
use Rattle.rest_laws.specs.Delivered.{weigh_one, weight}
use Rattle.rest_laws.specs.Levels.{Saying, Binds, Withdraws, Releases, States, Clears, bits_of, hangs, label_stage, level, level_at, level_by, level_of, pw_id_of, saying_of, way_hangs}
use Rattle.quiet_laws.specs.Measure.{AreOnWays, end_rank, few_of, flight_worth, measure, pair_worth, state_worth, sum_below}
use Rattle.quiet_laws.proofs.CostLemmas.{costs, weighs}
use Rattle.quiet_laws.proofs.FallLemmas.{times_more}
use Rattle.quiet_laws.proofs.SumLemmas.{at_pair, at_place, grid, grids_less, grids_two, pair_least, pair_most, point_most, row_most, sums_two}
use Rattle.quiet_laws.proofs.ToldLemmas.{AreTold, MovesOn, Put, moves_rank}

-- ---- levels go by bits alone

module _ (plan : Plan) (e f : ℕ → EdgeState) (same : (k : ℕ) → (e k).bits ≡ (f k).bits) where
  bits_same : (wire : ℕ) (o : Option EdgeId) → bits_of e wire o ≡ bits_of f wire o
  bits_same wire None = refl
  bits_same wire (Some edge) = ap (λ (g : ℕ → ℕ). g wire) (same edge.0)

  hangs_same : (wire : ℕ) (row : WirePlan) (a b : ℕ) → way_hangs e wire row a b ≡ way_hangs f wire row a b
  hangs_same wire row a b = λ i. cond (follows row.path a b) (hangs row.near row.far (bits_same wire (first_edge row.path) i)) (hangs row.far row.near (bits_same wire (last_edge row.path) i))

  level_same : (wire : ℕ) (row : WirePlan) (a b : ℕ) (s : Saying) → level e wire row a b s ≡ level f wire row a b s
  level_same wire row a b Binds = ap (λ (h : Bool). label_stage h + (3 * Rattle.rest_laws.specs.Levels.edges_spoken row a b + 2)) (hangs_same wire row a b)
  level_same wire row a b Withdraws = ap (λ (h : Bool). label_stage h + 3 * Rattle.rest_laws.specs.Levels.edges_spoken row a b) (hangs_same wire row a b)
  level_same wire row a b Releases = ap (λ (h : Bool). label_stage h + (3 * Rattle.rest_laws.specs.Levels.edges_spoken row b a + 1)) (hangs_same wire row b a)
  level_same wire row a b States = refl
  level_same wire row a b Clears = refl

  row_same : (wire a b : ℕ) (s : Saying) (o : Option WirePlan) → level_by e wire a b s o ≡ level_by f wire a b s o
  row_same wire a b s None = refl
  row_same wire a b s (Some row) = ap (λ (n : ℕ). Some n) (level_same wire row a b s)

  at_same : (a : ℕ) (s : Saying) (o : Option EndPlace) → option_and_then (level_at plan e a s) o ≡ option_and_then (level_at plan f a s) o
  at_same a s None = refl
  at_same a s (Some place) = row_same place.wire.0 a place.peer.0 s (wire_row plan place.wire)

  said_same : (a : ℕ) (named : Option EndPlace) (o : Option Saying) → option_and_then (λ (s : Saying). option_and_then (level_at plan e a s) named) o
      ≡ option_and_then (λ (s : Saying). option_and_then (level_at plan f a s) named) o
  said_same a named None = refl
  said_same a named (Some s) = at_same a s named

  pub of_same : (a b : ℕ) (m : Message) → level_of plan e a b m ≡ level_of plan f a b m
  of_same a b m = said_same a (option_and_then (end_named plan (record { 0 = a }) (record { 0 = b })) (pw_id_of m)) (saying_of m)

  pub weight_same : (a b few : ℕ) (ms : List Message) → weight plan e a b few ms ≡ weight plan f a b few ms
  weight_same a b few [] = refl
  weight_same a b few (m ∷ ms) = λ i. weigh_one few (of_same a b m i) + weight_same a b few ms i

pub weight_joined : (plan : Plan) (e : ℕ → EdgeState) (a b few : ℕ) (xs ys : List Message) → weight plan e a b few (xs ++ ys) ≡ weight plan e a b few xs + weight plan e a b few ys
weight_joined plan e a b few [] ys = sym (zero-add (weight plan e a b few ys))
weight_joined plan e a b few (x ∷ xs) ys =
    sum (weigh_one few (level_of plan e a b x)) (weight plan e a b few (xs ++ ys)) (weight plan e a b few xs) (weight plan e a b few ys) (weight_joined plan e a b few xs ys)
  where
    sum : (w a b c : ℕ) → a ≡ b + c → w + a ≡ (w + b) + c
    sum w a b c is = omega (arith, is)

-- ---- what was told to one neighbour

abbrev pub to_of : ℕ → List Put → List Message
to_of place [] = []
to_of place (p ∷ ps) = cond (nat_eq place p.to) (p.message ∷ to_of place ps) (to_of place ps)

-- a PDU of a message has at most 260 octets
pub short_pdu : (own : Peers) (m : Message) → AreFit own → IsSaidAcross own m → length (written m (platform_of own.me)) ≤ 260
short_pdu own m fit said =
    few_octets (length (written m (platform_of own.me))) (length ((own.me.0 ++ two 0) ++ message_octets m)) (length (own.me.0 ++ two 0)) (length own.me.0) (length (message_octets m)) refl
    (length-append (own.me.0 ++ two 0) (message_octets m)) (length-append own.me.0 (two 0)) fit.me.four (ready own m fit said).short
  where
    few_octets : (all back ids four m : ℕ) → all ≡ suc (suc (suc (suc back))) → back ≡ ids + m → ids ≡ four + 2 → four ≡ 4 → 6 + m ≤ 256 → all ≤ 260
    few_octets all back ids four m is one two three short = omega (arith, is, one, two, three, short)

module _ (plan : Plan) (me : ℕ) (place : ℕ) where
  abbrev own : Peers
  own = ends_at plan me place

  pub said_are : (es : List Effect) (ps : List Put) → AreTold plan me es ps → said_to place es ≡ octets_of_all own.me (to_of place ps)
  said_are [] [] are = refl
  said_are [] (p ∷ ps) are = absurd are
  said_are (effect.Said peer [] ∷ es) ps are = by (nat_eq place peer.0) (said_are es ps are) where
    by : (b : Bool) → said_to place es ≡ octets_of_all own.me (to_of place ps) → cond b ([] ++ said_to place es) (said_to place es) ≡ octets_of_all own.me (to_of place ps)
    by true rest = rest
    by false rest = rest
  said_are (effect.Said peer (o ∷ os) ∷ es) [] are = absurd are
  said_are (effect.Said peer (o ∷ os) ∷ es) (p ∷ ps) are = by (nat_eq place p.to) refl (said_are es ps are.1) where
    by : (b : Bool) → nat_eq place p.to ≡ b → said_to place es ≡ octets_of_all own.me (to_of place ps)
        → cond (nat_eq place peer.0) ((o ∷ os) ++ said_to place es) (said_to place es) ≡ octets_of_all own.me (cond (nat_eq place p.to) (p.message ∷ to_of place ps) (to_of place ps))
    by b is rest =
        ap (λ (k : ℕ). cond (nat_eq place k) ((o ∷ os) ++ said_to place es) (said_to place es)) (sym are.0.to) ∙ here b is
      where
        here : (b : Bool) → nat_eq place p.to ≡ b → cond (nat_eq place p.to) ((o ∷ os) ++ said_to place es) (said_to place es)
            ≡ octets_of_all own.me (cond (nat_eq place p.to) (p.message ∷ to_of place ps) (to_of place ps))
        here true is =
            ap (λ (c : Bool). cond c ((o ∷ os) ++ said_to place es) (said_to place es)) is
            ∙ (ap (λ (l : List ℕ). l ++ said_to place es) (are.0.spelled ∙ ap (λ (k : ℕ). written p.message (platform_of (ends_at plan me k).me)) (sym (eqb-true place p.to is)))
            ∙ (ap (λ (l : List ℕ). written p.message (platform_of own.me) ++ l) rest
            ∙ sym (ap (λ (c : Bool). octets_of_all own.me (cond c (p.message ∷ to_of place ps) (to_of place ps))) is)))
        here false is = ap (λ (c : Bool). cond c ((o ∷ os) ++ said_to place es) (said_to place es)) is
            ∙ (rest ∙ sym (ap (λ (c : Bool). octets_of_all own.me (cond c (p.message ∷ to_of place ps) (to_of place ps))) is))
  said_are (e ∷ es) ps are = said_are es ps are

  pub are_said : (es : List Effect) (ps : List Put) → AreTold plan me es ps → AreSaid own (to_of place ps)
  are_said [] [] are = tt
  are_said [] (p ∷ ps) are = absurd are
  are_said (effect.Said peer [] ∷ es) ps are = are_said es ps are
  are_said (effect.Said peer (o ∷ os) ∷ es) [] are = absurd are
  are_said (effect.Said peer (o ∷ os) ∷ es) (p ∷ ps) are = by (nat_eq place p.to) refl (are_said es ps are.1) where
    by : (b : Bool) → nat_eq place p.to ≡ b → AreSaid own (to_of place ps) → AreSaid own (cond (nat_eq place p.to) (p.message ∷ to_of place ps) (to_of place ps))
    by true is rest = subst (λ (c : Bool). AreSaid own (cond c (p.message ∷ to_of place ps) (to_of place ps))) (sym is)
        (subst (λ (k : ℕ). IsSaidAcross (ends_at plan me k) p.message) (sym (eqb-true place p.to is)) are.0.said, rest)
    by false is rest = subst (λ (c : Bool). AreSaid own (cond c (p.message ∷ to_of place ps) (to_of place ps))) (sym is) rest
  are_said (e ∷ es) ps are = are_said es ps are

  -- what it costs
  module _ (edges : ℕ → EdgeState) (few : ℕ) where
    abbrev costs_to : List Put → ℕ
    costs_to [] = 0
    costs_to (p ∷ ps) = at_place p.to (weighs plan edges me few p + 260) place + costs_to ps

    -- a PDU of a message has at most 260 octets

    -- with one more, where it is to this one
    abbrev Worth : Put → List Put → Bool → Type 0
    Worth p ps c = weight plan edges me place few (cond c (p.message ∷ to_of place ps) (to_of place ps)) + length (octets_of_all own.me (cond c (p.message ∷ to_of place ps) (to_of place ps)))
        ≤ cond c (weighs plan edges me few p + 260) 0 + costs_to ps

    told_worth : (es : List Effect) (ps : List Put) → AreTold plan me es ps → weight plan edges me place few (to_of place ps) + length (octets_of_all own.me (to_of place ps)) ≤ costs_to ps
    told_worth [] [] are = omega arith
    told_worth [] (p ∷ ps) are = absurd are
    told_worth (effect.Said peer [] ∷ es) ps are = told_worth es ps are
    told_worth (effect.Said peer (o ∷ os) ∷ es) [] are = absurd are
    told_worth (effect.Said peer (o ∷ os) ∷ es) (p ∷ ps) are = by (nat_eq place p.to) refl (told_worth es ps are.1) where
      more : (w t l r c k : ℕ) → t + r ≤ c → l ≤ 260 → k ≡ l + r → (w + t) + k ≤ (w + 260) + c
      more w t l r c k rest few is = omega (arith, rest, few, is)

      none : (t r c : ℕ) → t + r ≤ c → t + r ≤ 0 + c
      none t r c le = omega (arith, le)

      by : (b : Bool) → nat_eq place p.to ≡ b → weight plan edges me place few (to_of place ps) + length (octets_of_all own.me (to_of place ps)) ≤ costs_to ps → Worth p ps (nat_eq place p.to)
      by true is rest =
          let same : place ≡ p.to = eqb-true place p.to is in
          subst (Worth p ps) (sym is)
          (subst (λ (k : ℕ). (weigh_one few (level_of plan edges me k p.message) + weight plan edges me place few (to_of place ps)) + length (written p.message (platform_of (ends_at plan me place).me) ++ octets_of_all own.me (to_of place ps))
          ≤ (weighs plan edges me few p + 260) + costs_to ps) (sym same)
          (more (weighs plan edges me few p) (weight plan edges me place few (to_of place ps)) (length (written p.message (platform_of own.me))) (length (octets_of_all own.me (to_of place ps))) (costs_to ps)
          (length (written p.message (platform_of own.me) ++ octets_of_all own.me (to_of place ps))) rest
          (short_pdu own p.message (subst (λ (k : ℕ). AreFit (ends_at plan me k)) (sym same) are.0.fit) (subst (λ (k : ℕ). IsSaidAcross (ends_at plan me k) p.message) (sym same) are.0.said))
          (length-append (written p.message (platform_of own.me)) (octets_of_all own.me (to_of place ps)))))
      by false is rest = subst (Worth p ps) (sym is) (none (weight plan edges me place few (to_of place ps)) (length (octets_of_all own.me (to_of place ps))) (costs_to ps) rest)
    told_worth (e ∷ es) ps are = told_worth es ps are

-- to all neighbours together it costs no more than all
costs_all : (plan : Plan) (me : ℕ) (edges : ℕ → EdgeState) (few : ℕ) (ps : List Put) (n : ℕ) → sum_below (λ place. costs_to plan me place edges few ps) n ≤ costs plan edges me few ps
costs_all plan me edges few [] n = none n where
  none : (n : ℕ) → sum_below (λ place. 0) n ≤ 0
  none zero = omega arith
  none (suc n) = omega (arith, none n)
costs_all plan me edges few (p ∷ ps) n =
    both (sum_below (λ place. at_place p.to (weighs plan edges me few p + 260) place + costs_to plan me place edges few ps) n)
    (sum_below (λ place. at_place p.to (weighs plan edges me few p + 260) place) n) (sum_below (λ place. costs_to plan me place edges few ps) n) (weighs plan edges me few p + 260) (costs plan edges me few ps)
    (sums_two (λ place. at_place p.to (weighs plan edges me few p + 260) place) (λ place. costs_to plan me place edges few ps) n)
    (point_most p.to (weighs plan edges me few p + 260) n) (costs_all plan me edges few ps n)
  where
    both : (t a b x y : ℕ) → t ≡ a + b → a ≤ x → b ≤ y → t ≤ x + y
    both t a b x y is one other = omega (arith, is, one, other)

-- ---- the network

-- what is on its way from the neighbour then, where the edge's end stands
abbrev pub worth_left : Plan → (ℕ → EdgeState) → (from to few pipe : ℕ) → Option Peering → List Message → ℕ
worth_left plan edges from to few pipe None ms = 0
worth_left plan edges from to few pipe (Some kept) ms = weight plan edges from to few ms + pipe

-- an edge has worked, on what came of one neighbour
pub record HasWorked (plan : Plan) (network later : NetworkState) (me peer : EdgeId) (messages : ℕ → ℕ → List Message) (work : Work) : Type 0 where
  pub works : WorksOn plan later me work
  pub told : List Put
  pub are : AreTold plan me.0 work.effects told
  pub others_on : (k : ℕ) → nat_eq k peer.0 ≡ false → MovesOn ((network.edges me.0).peering k) (work.edge.peering k)
  pub bits : work.edge.bits ≡ (network.edges me.0).bits
  pub left : List Message
  pub said : AreSaid (ends_at plan peer.0 me.0) left
  pub behind : (kept : Peering) → work.edge.peering peer.0 ≡ Some kept → kept.held ++ later.pipes peer.0 me.0 ≡ octets_of_all (ends_at plan peer.0 me.0).me left
  pub lighter : suc (end_rank (work.edge.peering peer.0) * state_worth plan
      + (costs plan network.edges me.0 (few_of plan) told + worth_left plan network.edges peer.0 me.0 (few_of plan) (length (later.pipes peer.0 me.0)) (work.edge.peering peer.0) left))
      ≤ end_rank ((network.edges me.0).peering peer.0) * state_worth plan + flight_worth plan network messages peer.0 me.0

module _ (plan : Plan) (network later : NetworkState) (me peer : EdgeId) (apart : nat_eq me.0 peer.0 ≡ false) (edges_same : later.edges ≡ network.edges)
    (pipes_same : (a b : ℕ) → (nat_eq a peer.0 ≡ false) → later.pipes a b ≡ network.pipes a b) (pipes_to : (a b : ℕ) → (nat_eq b me.0 ≡ false) → later.pipes a b ≡ network.pipes a b)
    (messages after_messages : ℕ → ℕ → List Message) (work : Work) (done : HasWorked plan network later me peer messages work) (on_way : AreOnWays plan network messages)
    (after_way : AreOnWays plan (absorb me 0 0 work later).state after_messages) (fits : (a b : ℕ) → nat_eq a b ≡ false → stands network b a ≡ true → AreFit (ends_at plan a b))
    (alone : (a : ℕ) → (network.edges a).peering a ≡ None) where
  abbrev begun : NetworkState
  begun = with_edge me work.edge later

  abbrev after : NetworkState
  after = (absorb me 0 0 work later).state

  abbrev few : ℕ
  few = few_of plan

  edges_are : after.edges ≡ begun.edges
  edges_are = all_edges me 0 0 work.effects begun

  own_edge : after.edges me.0 ≡ work.edge
  own_edge = ap (λ (f : ℕ → EdgeState). f me.0) edges_are ∙ edge_there me work.edge later

  other_edge : (k : ℕ) → nat_eq k me.0 ≡ false → after.edges k ≡ network.edges k
  other_edge k gone = ap (λ (f : ℕ → EdgeState). f k) edges_are ∙ (edge_else me work.edge later k gone ∙ ap (λ (f : ℕ → EdgeState). f k) edges_same)

  bits_kept : (k : ℕ) → (after.edges k).bits ≡ (network.edges k).bits
  bits_kept k = elim (cases_Bool (nat_eq k me.0)) [
    | inl same ↦ subst (λ (n : ℕ). (after.edges n).bits ≡ (network.edges n).bits) (sym (eqb-true k me.0 same)) (ap (λ (e : EdgeState). e.bits) own_edge ∙ done.bits)
    | inr gone ↦ ap (λ (e : EdgeState). e.bits) (other_edge k gone)
  ]

  weighs_same : (a b : ℕ) (ms : List Message) → weight plan after.edges a b few ms ≡ weight plan network.edges a b few ms
  weighs_same a b ms = weight_same plan after.edges network.edges bits_kept a b few ms

  -- messages are known by their octets
  found : (a b : ℕ) (ends : Peers) → ends ≡ ends_at plan a b → AreFit (ends_at plan a b) → (xs ys : List Message) → AreSaid (ends_at plan a b) xs → AreSaid (ends_at plan a b) ys
      → octets_of_all (ends_at plan a b).me xs ≡ octets_of_all (ends_at plan a b).me ys → xs ≡ ys
  found a b ends is fit xs ys one other same = same_messages (ends_at plan a b) xs ys (all_ready (ends_at plan a b) xs fit one) (all_ready (ends_at plan a b) ys fit other) same

  -- ---- pipes

  apart_too : nat_eq peer.0 me.0 ≡ false
  apart_too = apart_back me.0 peer.0 apart

  pipe_out : (k : ℕ) → nat_eq k me.0 ≡ false → stands network k me.0 ≡ true → after.pipes me.0 k ≡ network.pipes me.0 k ++ said_to k work.effects
  pipe_out k gone up =
      all_from me 0 0 k work.effects begun gone
      ∙ (ap (λ (b : Bool). cond b (begun.pipes me.0 k ++ said_to k work.effects) (begun.pipes me.0 k)) stands_there
      ∙ ap (λ (l : List ℕ). l ++ said_to k work.effects) (ap (λ (f : ℕ → ℕ → List ℕ). f me.0 k) (edge_pipes me work.edge later) ∙ pipes_same me.0 k apart))
    where
      stands_there : stands begun k me.0 ≡ true
      stands_there = ap (λ (e : EdgeState). is_there (e.peering me.0)) (edge_else me work.edge later k gone ∙ ap (λ (f : ℕ → EdgeState). f k) edges_same) ∙ up

  pipe_in : (k : ℕ) → nat_eq k me.0 ≡ false → closes k work.effects ≡ false → after.pipes k me.0 ≡ later.pipes k me.0
  pipe_in k gone unclosed = all_to me 0 0 k work.effects begun gone
      ∙ (ap (λ (b : Bool). cond b [] (begun.pipes k me.0)) unclosed ∙ ap (λ (f : ℕ → ℕ → List ℕ). f k me.0) (edge_pipes me work.edge later))

  pipe_else : (a b : ℕ) → nat_eq a me.0 ≡ false → nat_eq b me.0 ≡ false → after.pipes a b ≡ network.pipes a b
  pipe_else a b one other = all_apart me 0 0 a b work.effects begun one other ∙ (ap (λ (f : ℕ → ℕ → List ℕ). f a b) (edge_pipes me work.edge later) ∙ pipes_to a b other)

  -- ---- flights

  abbrev worth_of : ℕ → ℕ → ℕ
  worth_of a b = flight_worth plan network messages a b

  abbrev worth_after : ℕ → ℕ → ℕ
  worth_after a b = flight_worth plan after after_messages a b

  -- an end that stands has a flight
  stood_worth : (a b : ℕ) → stands network b a ≡ true → worth_of a b ≡ weight plan network.edges a b few (messages a b) + length (network.pipes a b)
  stood_worth a b up = ap (λ (s : Bool). cond s (weight plan network.edges a b few (messages a b) + length (network.pipes a b)) 0) up

  gone_after : (a b : ℕ) → stands after b a ≡ false → worth_after a b ≡ 0
  gone_after a b down = ap (λ (s : Bool). cond s (weight plan after.edges a b few (after_messages a b) + length (after.pipes a b)) 0) down

  stood_after : (a b : ℕ) → stands after b a ≡ true → worth_after a b ≡ weight plan network.edges a b few (after_messages a b) + length (after.pipes a b)
  stood_after a b up = ap (λ (s : Bool). cond s (weight plan after.edges a b few (after_messages a b) + length (after.pipes a b)) 0) up
      ∙ ap (λ (n : ℕ). n + length (after.pipes a b)) (weighs_same a b (after_messages a b))

  nothing_less : (a b : ℕ) → a ≡ 0 → a ≤ b
  nothing_less a b is = omega (arith, is)

  same_less : (a b : ℕ) → a ≡ b → a ≤ b
  same_less a b is = omega (arith, is)

  -- from the edge to another one
  out_less : (k : ℕ) → nat_eq k me.0 ≡ false → worth_after me.0 k ≤ worth_of me.0 k + costs_to plan me.0 k network.edges few done.told
  out_less k gone = by (stands network k me.0) refl where
    away : nat_eq me.0 k ≡ false
    away = apart_back k me.0 gone

    stands_is : stands after k me.0 ≡ stands network k me.0
    stands_is = ap (λ (e : EdgeState). is_there (e.peering me.0)) (other_edge k gone)

    own : Peers
    own = ends_at plan me.0 k

    more : (x y w p q a b c t r : ℕ) → x ≡ a + q → y ≡ w + p → q ≡ p + r → a ≡ w + t → t + r ≤ c → x ≤ y + c
    more x y w p q a b c t r one two three four le = omega (arith, one, two, three, four, le)

    by : (b : Bool) → stands network k me.0 ≡ b → worth_after me.0 k ≤ worth_of me.0 k + costs_to plan me.0 k network.edges few done.told
    by false down = nothing_less (worth_after me.0 k) (worth_of me.0 k + costs_to plan me.0 k network.edges few done.told) (gone_after me.0 k (stands_is ∙ down))
    by true up =
        more (worth_after me.0 k) (worth_of me.0 k) (weight plan network.edges me.0 k few (messages me.0 k)) (length (network.pipes me.0 k)) (length (after.pipes me.0 k))
        (weight plan network.edges me.0 k few (after_messages me.0 k)) 0 (costs_to plan me.0 k network.edges few done.told)
        (weight plan network.edges me.0 k few (to_of k done.told)) (length (octets_of_all (ends_at plan me.0 k).me (to_of k done.told)))
        (stood_after me.0 k (stands_is ∙ up)) (stood_worth me.0 k up)
        (ap (λ (l : List ℕ). length l) (pipe_out k gone up) ∙ (length-append (network.pipes me.0 k) (said_to k work.effects) ∙ ap (λ (l : List ℕ). length (network.pipes me.0 k) + length l) said_is))
        (ap (weight plan network.edges me.0 k few) messages_are ∙ weight_joined plan network.edges me.0 k few (messages me.0 k) (to_of k done.told))
        (told_worth plan me.0 k network.edges few work.effects done.told done.are)
      where
        said_is : said_to k work.effects ≡ octets_of_all (ends_at plan me.0 k).me (to_of k done.told)
        said_is = said_are plan me.0 k work.effects done.told done.are

        joined_said : (ends : Peers) (xs ys : List Message) → AreSaid ends xs → AreSaid ends ys → AreSaid ends (xs ++ ys)
        joined_said ends [] ys one other = other
        joined_said ends (x ∷ xs) ys one other = (one.0, joined_said ends xs ys one.1 other)

        held_is : held_by ((after.edges k).peering me.0) ≡ held_by ((network.edges k).peering me.0)
        held_is = ap (λ (e : EdgeState). held_by (e.peering me.0)) (other_edge k gone)

        octets_are : octets_of_all (ends_at plan me.0 k).me (after_messages me.0 k) ≡ octets_of_all (ends_at plan me.0 k).me (messages me.0 k ++ to_of k done.told)
        octets_are =
            sym (after_way me.0 k away).octets
            ∙ ((λ i. held_is i ++ pipe_out k gone up i)
            ∙ (sym (append_assoc (held_by ((network.edges k).peering me.0)) (network.pipes me.0 k) (said_to k work.effects))
            ∙ (ap (λ (l : List ℕ). l ++ said_to k work.effects) (on_way me.0 k away).octets
            ∙ (ap (λ (l : List ℕ). octets_of_all (ends_at plan me.0 k).me (messages me.0 k) ++ l) said_is
            ∙ sym (all_joined (ends_at plan me.0 k).me (messages me.0 k) (to_of k done.told))))))

        messages_are : after_messages me.0 k ≡ messages me.0 k ++ to_of k done.told
        messages_are = found me.0 k (ends_at plan me.0 k) refl (fits me.0 k away up) (after_messages me.0 k) (messages me.0 k ++ to_of k done.told) (after_way me.0 k away).said
            (joined_said (ends_at plan me.0 k) (messages me.0 k) (to_of k done.told) (on_way me.0 k away).said (are_said plan me.0 k work.effects done.told done.are)) octets_are

  -- where the pipe, and what is held, are as before
  kept_less : (a b : ℕ) → nat_eq a b ≡ false → stands network b a ≡ true → held_by ((after.edges b).peering a) ≡ held_by ((network.edges b).peering a) → after.pipes a b ≡ network.pipes a b
      → stands after b a ≡ true → worth_after a b ≤ worth_of a b
  kept_less a b away up held_is pipe_is there =
      same_less (worth_after a b) (worth_of a b)
      (stood_after a b there
      ∙ ((λ i. weight plan network.edges a b few (messages_are i) + length (pipe_is i)) ∙ sym (stood_worth a b up)))
    where
      messages_are : after_messages a b ≡ messages a b
      messages_are = found a b (ends_at plan a b) refl (fits a b away up) (after_messages a b) (messages a b) (after_way a b away).said (on_way a b away).said
          (sym (after_way a b away).octets ∙ ((λ i. held_is i ++ pipe_is i) ∙ (on_way a b away).octets))

  -- between two others
  else_less : (a b : ℕ) → nat_eq a b ≡ false → nat_eq a me.0 ≡ false → nat_eq b me.0 ≡ false → worth_after a b ≤ worth_of a b
  else_less a b away one other = by (stands network b a) refl where
    stands_is : stands after b a ≡ stands network b a
    stands_is = ap (λ (e : EdgeState). is_there (e.peering a)) (other_edge b other)

    by : (s : Bool) → stands network b a ≡ s → worth_after a b ≤ worth_of a b
    by false down = nothing_less (worth_after a b) (worth_of a b) (gone_after a b (stands_is ∙ down))
    by true up = kept_less a b away up (ap (λ (e : EdgeState). held_by (e.peering a)) (other_edge b other)) (pipe_else a b one other) (stands_is ∙ up)

  alone_less : (a : ℕ) → nat_eq a me.0 ≡ false → worth_after a a ≤ worth_of a a
  alone_less a other = nothing_less (worth_after a a) (worth_of a a) (gone_after a a (ap is_there (ap (λ (e : EdgeState). e.peering a) (other_edge a other) ∙ alone a)))

  flights : (a b : ℕ) → nat_eq a me.0 ≡ false → nat_eq b me.0 ≡ false → worth_after a b ≤ worth_of a b
  flights a b other gone = elim (cases_Bool (nat_eq a b)) [
    | inl same ↦ subst (λ (k : ℕ). worth_after a k ≤ worth_of a k) (eqb-true a b same) (alone_less a other)
    | inr away ↦ else_less a b away other gone
  ]

  -- from another one to the edge
  in_less : (k : ℕ) → nat_eq k me.0 ≡ false → nat_eq k peer.0 ≡ false → worth_after k me.0 ≤ worth_of k me.0
  in_less k gone other = by (work.edge.peering k) refl ((network.edges me.0).peering k) refl where
    there_is : (near : Option Peering) → work.edge.peering k ≡ near → (after.edges me.0).peering k ≡ near
    there_is near at = ap (λ (e : EdgeState). e.peering k) own_edge ∙ at

    by : (near : Option Peering) → work.edge.peering k ≡ near → (was : Option Peering) → (network.edges me.0).peering k ≡ was → worth_after k me.0 ≤ worth_of k me.0
    by None at was is = nothing_less (worth_after k me.0) (worth_of k me.0) (gone_after k me.0 (ap is_there (there_is None at)))
    by (Some now) at None is = absurd (subst (λ (o : Option Peering). MovesOn o (Some now)) is (subst (MovesOn ((network.edges me.0).peering k)) at (done.others_on k other)))
    by (Some now) at (Some kept) is =
        let on : MovesOn (Some kept) (Some now) = subst (λ (o : Option Peering). MovesOn o (Some now)) is (subst (MovesOn ((network.edges me.0).peering k)) at (done.others_on k other)) in
        kept_less k me.0 gone (ap is_there is)
        (ap held_by (there_is (Some now) at) ∙ (on.0 ∙ sym (ap held_by is)))
        (pipe_in k gone ((done.works.left k gone).unclosed now at) ∙ pipes_same k me.0 other)
        (ap is_there (there_is (Some now) at))

  -- from the neighbour
  peer_worth : worth_after peer.0 me.0 ≤ worth_left plan network.edges peer.0 me.0 few (length (later.pipes peer.0 me.0)) (work.edge.peering peer.0) done.left
  peer_worth = by (work.edge.peering peer.0) refl where
    there_is : (near : Option Peering) → work.edge.peering peer.0 ≡ near → (after.edges me.0).peering peer.0 ≡ near
    there_is near at = ap (λ (e : EdgeState). e.peering peer.0) own_edge ∙ at

    by : (near : Option Peering) → work.edge.peering peer.0 ≡ near
        → worth_after peer.0 me.0 ≤ worth_left plan network.edges peer.0 me.0 few (length (later.pipes peer.0 me.0)) near done.left
    by None at = nothing_less (worth_after peer.0 me.0) 0 (gone_after peer.0 me.0 (ap is_there (there_is None at)))
    by (Some now) at =
        same_less (worth_after peer.0 me.0) (weight plan network.edges peer.0 me.0 few done.left + length (later.pipes peer.0 me.0))
        (stood_after peer.0 me.0 (ap is_there (there_is (Some now) at)) ∙ (λ i. weight plan network.edges peer.0 me.0 few (messages_are i) + length (pipe_is i)))
      where
        pipe_is : after.pipes peer.0 me.0 ≡ later.pipes peer.0 me.0
        pipe_is = pipe_in peer.0 apart_too ((done.works.left peer.0 apart_too).unclosed now at)

        held_is : held_by ((after.edges me.0).peering peer.0) ≡ now.held
        held_is = ap held_by (there_is (Some now) at)

        standing : Rattle.flight_laws.specs.Pair.IsStanding (ends_at plan me.0 peer.0) (ends_at plan peer.0 me.0) now
        standing = subst (λ (o : Option Peering). Rattle.flight_laws.specs.Pair.StandsIf (ends_at plan me.0 peer.0) (ends_at plan peer.0 me.0) o) at (done.works.left peer.0 apart_too).leaves.talk.here

        fit : AreFit (ends_at plan peer.0 me.0)
        fit = standing.between.two

        messages_are : after_messages peer.0 me.0 ≡ done.left
        messages_are = found peer.0 me.0 (ends_at plan peer.0 me.0) refl fit (after_messages peer.0 me.0) done.left (after_way peer.0 me.0 apart_too).said done.said
            (sym (after_way peer.0 me.0 apart_too).octets ∙ ((λ i. held_is i ++ pipe_is i) ∙ done.behind now at))

  -- ---- pairs

  abbrev rank_of : ℕ → ℕ → ℕ
  rank_of a b = end_rank ((network.edges a).peering b) * state_worth plan

  abbrev rank_after : ℕ → ℕ → ℕ
  rank_after a b = end_rank ((after.edges a).peering b) * state_worth plan

  -- what each pair may gain, and what two of them lose
  abbrev gains : ℕ → ℕ → ℕ
  gains a b = at_place me.0 (costs_to plan me.0 b network.edges few done.told) a + (at_pair me.0 peer.0 (rank_after me.0 peer.0) a b + at_pair peer.0 me.0 (worth_after peer.0 me.0) a b)

  abbrev losses : ℕ → ℕ → ℕ
  losses a b = at_pair me.0 peer.0 (rank_of me.0 peer.0) a b + at_pair peer.0 me.0 (worth_of peer.0 me.0) a b

  abbrev Less : ℕ → ℕ → Type 0
  Less a b = pair_worth plan after after_messages a b + losses a b ≤ pair_worth plan network messages a b + gains a b

  point_here : (p x : ℕ) → at_place p x p ≡ x
  point_here p x = ap (λ (c : Bool). cond c x 0) (same_number p)

  point_else : (p x k : ℕ) → nat_eq k p ≡ false → at_place p x k ≡ 0
  point_else p x k gone = ap (λ (c : Bool). cond c x 0) gone

  rank_else : (a b : ℕ) → nat_eq a me.0 ≡ false → rank_after a b ≡ rank_of a b
  rank_else a b gone = ap (λ (e : EdgeState). end_rank (e.peering b) * state_worth plan) (other_edge a gone)

  -- by numbers: worth, gains and losses at a pair
  calm_pair : (r1 f1 r2 f2 l1 l2 g1 g2 g3 : ℕ) → r1 ≤ r2 → f1 ≤ f2 + g1 → l1 ≡ 0 → l2 ≡ 0 → (r1 + f1) + (l1 + l2) ≤ (r2 + f2) + (g1 + (g2 + g3))
  calm_pair r1 f1 r2 f2 l1 l2 g1 g2 g3 one two three four = omega (arith, one, two, three, four)

  moved_pair : (r1 f1 r2 f2 l1 l2 g1 g2 g3 : ℕ) → f1 ≤ f2 + g1 → l1 ≡ r2 → l2 ≡ 0 → g2 ≡ r1 → (r1 + f1) + (l1 + l2) ≤ (r2 + f2) + (g1 + (g2 + g3))
  moved_pair r1 f1 r2 f2 l1 l2 g1 g2 g3 two three four five = omega (arith, two, three, four, five)

  heard_pair : (r1 f1 r2 f2 l1 l2 g1 g2 g3 : ℕ) → r1 ≤ r2 → l1 ≡ 0 → l2 ≡ f2 → g3 ≡ f1 → (r1 + f1) + (l1 + l2) ≤ (r2 + f2) + (g1 + (g2 + g3))
  heard_pair r1 f1 r2 f2 l1 l2 g1 g2 g3 one three four five = omega (arith, one, three, four, five)

  wider : (a b c : ℕ) → a ≤ b → a ≤ b + c
  wider a b c le = omega (arith, le)

  pair_less : (a b : ℕ) → Less a b
  pair_less a b = elim (cases_Bool (nat_eq a me.0)) [
    | inl mine ↦ subst (λ (k : ℕ). Less k b) (sym (eqb-true a me.0 mine)) (from_me b)
    | inr other ↦ elim (cases_Bool (nat_eq b me.0)) [
      | inl mine ↦ subst (λ (k : ℕ). Less a k) (sym (eqb-true b me.0 mine)) (to_me a other)
      | inr gone ↦ between a b other gone
    ]
  ]
    where
      alone_rank : (edge : EdgeState) (k : ℕ) → edge.peering k ≡ None → end_rank (edge.peering k) * state_worth plan ≡ 0 * state_worth plan
      alone_rank edge k none = ap (λ (o : Option Peering). end_rank o * state_worth plan) none

      alone_after : (after.edges me.0).peering me.0 ≡ None
      alone_after = ap (λ (e : EdgeState). e.peering me.0) own_edge ∙ done.works.alone

      zero_most : (x n : ℕ) → x ≡ 0 * n → (y : ℕ) → x ≤ y
      zero_most x n is y = omega (arith, is, zero_times n) where
        zero_times : (n : ℕ) → 0 * n ≡ 0
        zero_times n = omega arith

      from_me : (b : ℕ) → Less me.0 b
      from_me b = elim (cases_Bool (nat_eq b me.0)) [
        | inl mine ↦ subst (λ (k : ℕ). Less me.0 k) (sym (eqb-true b me.0 mine))
            (calm_pair (rank_after me.0 me.0) (worth_after me.0 me.0) (rank_of me.0 me.0) (worth_of me.0 me.0) (at_pair me.0 peer.0 (rank_of me.0 peer.0) me.0 me.0)
            (at_pair peer.0 me.0 (worth_of peer.0 me.0) me.0 me.0) (at_place me.0 (costs_to plan me.0 me.0 network.edges few done.told) me.0)
            (at_pair me.0 peer.0 (rank_after me.0 peer.0) me.0 me.0) (at_pair peer.0 me.0 (worth_after peer.0 me.0) me.0 me.0)
            (zero_most (rank_after me.0 me.0) (state_worth plan) (alone_rank (after.edges me.0) me.0 alone_after) (rank_of me.0 me.0))
            (nothing_less (worth_after me.0 me.0) (worth_of me.0 me.0 + at_place me.0 (costs_to plan me.0 me.0 network.edges few done.told) me.0) (gone_after me.0 me.0 (ap is_there alone_after)))
            (ap (λ (x : ℕ). at_place me.0 x me.0) (point_else peer.0 (rank_of me.0 peer.0) me.0 apart) ∙ point_here me.0 0)
            (point_else peer.0 (at_place me.0 (worth_of peer.0 me.0) me.0) me.0 apart))
        | inr gone ↦ other_from b gone
      ]
        where
          out : (b : ℕ) → nat_eq b me.0 ≡ false → worth_after me.0 b ≤ worth_of me.0 b + at_place me.0 (costs_to plan me.0 b network.edges few done.told) me.0
          out b gone = subst (λ (c : ℕ). worth_after me.0 b ≤ worth_of me.0 b + c) (sym (point_here me.0 (costs_to plan me.0 b network.edges few done.told))) (out_less b gone)

          other_from : (b : ℕ) → nat_eq b me.0 ≡ false → Less me.0 b
          other_from b gone = elim (cases_Bool (nat_eq b peer.0)) [
            | inl beside ↦ subst (λ (k : ℕ). Less me.0 k) (sym (eqb-true b peer.0 beside))
                (moved_pair (rank_after me.0 peer.0) (worth_after me.0 peer.0) (rank_of me.0 peer.0) (worth_of me.0 peer.0) (at_pair me.0 peer.0 (rank_of me.0 peer.0) me.0 peer.0)
                (at_pair peer.0 me.0 (worth_of peer.0 me.0) me.0 peer.0) (at_place me.0 (costs_to plan me.0 peer.0 network.edges few done.told) me.0)
                (at_pair me.0 peer.0 (rank_after me.0 peer.0) me.0 peer.0) (at_pair peer.0 me.0 (worth_after peer.0 me.0) me.0 peer.0)
                (out peer.0 apart_too)
                (ap (λ (x : ℕ). at_place me.0 x me.0) (point_here peer.0 (rank_of me.0 peer.0)) ∙ point_here me.0 (rank_of me.0 peer.0))
                (point_else peer.0 (at_place me.0 (worth_of peer.0 me.0) peer.0) me.0 apart)
                (ap (λ (x : ℕ). at_place me.0 x me.0) (point_here peer.0 (rank_after me.0 peer.0)) ∙ point_here me.0 (rank_after me.0 peer.0)))
            | inr away ↦
                calm_pair (rank_after me.0 b) (worth_after me.0 b) (rank_of me.0 b) (worth_of me.0 b) (at_pair me.0 peer.0 (rank_of me.0 peer.0) me.0 b)
                (at_pair peer.0 me.0 (worth_of peer.0 me.0) me.0 b) (at_place me.0 (costs_to plan me.0 b network.edges few done.told) me.0)
                (at_pair me.0 peer.0 (rank_after me.0 peer.0) me.0 b) (at_pair peer.0 me.0 (worth_after peer.0 me.0) me.0 b)
                (times_more (end_rank ((after.edges me.0).peering b)) (end_rank ((network.edges me.0).peering b)) (state_worth plan)
                (subst (λ (e : EdgeState). end_rank (e.peering b) ≤ end_rank ((network.edges me.0).peering b)) (sym own_edge)
                (moves_rank ((network.edges me.0).peering b) (work.edge.peering b) (done.others_on b away))))
                (out b gone)
                (ap (λ (x : ℕ). at_place me.0 x me.0) (point_else peer.0 (rank_of me.0 peer.0) b away) ∙ point_here me.0 0)
                (point_else peer.0 (at_place me.0 (worth_of peer.0 me.0) b) me.0 apart)
          ]

      to_me : (a : ℕ) → nat_eq a me.0 ≡ false → Less a me.0
      to_me a other = elim (cases_Bool (nat_eq a peer.0)) [
        | inl beside ↦ subst (λ (k : ℕ). Less k me.0) (sym (eqb-true a peer.0 beside))
            (heard_pair (rank_after peer.0 me.0) (worth_after peer.0 me.0) (rank_of peer.0 me.0) (worth_of peer.0 me.0) (at_pair me.0 peer.0 (rank_of me.0 peer.0) peer.0 me.0)
            (at_pair peer.0 me.0 (worth_of peer.0 me.0) peer.0 me.0) (at_place me.0 (costs_to plan me.0 me.0 network.edges few done.told) peer.0)
            (at_pair me.0 peer.0 (rank_after me.0 peer.0) peer.0 me.0) (at_pair peer.0 me.0 (worth_after peer.0 me.0) peer.0 me.0)
            (same_less (rank_after peer.0 me.0) (rank_of peer.0 me.0) (rank_else peer.0 me.0 apart_too))
            (point_else me.0 (at_place peer.0 (rank_of me.0 peer.0) me.0) peer.0 apart_too)
            (ap (λ (x : ℕ). at_place peer.0 x peer.0) (point_here me.0 (worth_of peer.0 me.0)) ∙ point_here peer.0 (worth_of peer.0 me.0))
            (ap (λ (x : ℕ). at_place peer.0 x peer.0) (point_here me.0 (worth_after peer.0 me.0)) ∙ point_here peer.0 (worth_after peer.0 me.0)))
        | inr away ↦
            calm_pair (rank_after a me.0) (worth_after a me.0) (rank_of a me.0) (worth_of a me.0) (at_pair me.0 peer.0 (rank_of me.0 peer.0) a me.0)
            (at_pair peer.0 me.0 (worth_of peer.0 me.0) a me.0) (at_place me.0 (costs_to plan me.0 me.0 network.edges few done.told) a)
            (at_pair me.0 peer.0 (rank_after me.0 peer.0) a me.0) (at_pair peer.0 me.0 (worth_after peer.0 me.0) a me.0)
            (same_less (rank_after a me.0) (rank_of a me.0) (rank_else a me.0 other))
            (wider (worth_after a me.0) (worth_of a me.0) (at_place me.0 (costs_to plan me.0 me.0 network.edges few done.told) a) (in_less a other away))
            (point_else me.0 (at_place peer.0 (rank_of me.0 peer.0) me.0) a other)
            (point_else peer.0 (at_place me.0 (worth_of peer.0 me.0) me.0) a away)
      ]

      between : (a b : ℕ) → nat_eq a me.0 ≡ false → nat_eq b me.0 ≡ false → Less a b
      between a b other gone =
          calm_pair (rank_after a b) (worth_after a b) (rank_of a b) (worth_of a b) (at_pair me.0 peer.0 (rank_of me.0 peer.0) a b)
          (at_pair peer.0 me.0 (worth_of peer.0 me.0) a b) (at_place me.0 (costs_to plan me.0 b network.edges few done.told) a)
          (at_pair me.0 peer.0 (rank_after me.0 peer.0) a b) (at_pair peer.0 me.0 (worth_after peer.0 me.0) a b)
          (same_less (rank_after a b) (rank_of a b) (rank_else a b other))
          (wider (worth_after a b) (worth_of a b) (at_place me.0 (costs_to plan me.0 b network.edges few done.told) a) (flights a b other gone))
          (point_else me.0 (at_place peer.0 (rank_of me.0 peer.0) b) a other)
          (by_me (nat_eq a peer.0))
        where
          by_me : (c : Bool) → cond c (at_place me.0 (worth_of peer.0 me.0) b) 0 ≡ 0
          by_me true = point_else me.0 (worth_of peer.0 me.0) b gone
          by_me false = refl

  -- ---- all

  pub measure_falls : me.0 < length plan.edges → peer.0 < length plan.edges → measure plan after after_messages < measure plan network messages
  measure_falls one other =
      sum (grid (pair_worth plan after after_messages) n) (grid losses n) (grid (pair_worth plan network messages) n) (grid gains n)
      (rank_of me.0 peer.0) (worth_of peer.0 me.0) (rank_after me.0 peer.0) (worth_after peer.0 me.0) (costs plan network.edges me.0 few done.told)
      (end_rank (work.edge.peering peer.0) * state_worth plan) (worth_left plan network.edges peer.0 me.0 few (length (later.pipes peer.0 me.0)) (work.edge.peering peer.0) done.left)
      (grid (at_pair me.0 peer.0 (rank_of me.0 peer.0)) n) (grid (at_pair peer.0 me.0 (worth_of peer.0 me.0)) n)
      (grid (λ a b. at_place me.0 (costs_to plan me.0 b network.edges few done.told) a) n) (grid (at_pair me.0 peer.0 (rank_after me.0 peer.0)) n) (grid (at_pair peer.0 me.0 (worth_after peer.0 me.0)) n)
      (less_two (grid (λ a b. pair_worth plan after after_messages a b + losses a b) n) (grid (λ a b. pair_worth plan network messages a b + gains a b) n)
      (grid (pair_worth plan after after_messages) n) (grid losses n) (grid (pair_worth plan network messages) n) (grid gains n)
      (grids_less (λ a b. pair_worth plan after after_messages a b + losses a b) (λ a b. pair_worth plan network messages a b + gains a b) n pair_less)
      (grids_two (pair_worth plan after after_messages) losses n) (grids_two (pair_worth plan network messages) gains n))
      (grids_two (at_pair me.0 peer.0 (rank_of me.0 peer.0)) (at_pair peer.0 me.0 (worth_of peer.0 me.0)) n)
      (grids_two (λ a b. at_place me.0 (costs_to plan me.0 b network.edges few done.told) a) (λ a b. at_pair me.0 peer.0 (rank_after me.0 peer.0) a b + at_pair peer.0 me.0 (worth_after peer.0 me.0) a b) n
      ∙ ap (λ (x : ℕ). grid (λ a b. at_place me.0 (costs_to plan me.0 b network.edges few done.told) a) n + x) (grids_two (at_pair me.0 peer.0 (rank_after me.0 peer.0)) (at_pair peer.0 me.0 (worth_after peer.0 me.0)) n))
      (pair_least me.0 peer.0 (rank_of me.0 peer.0) n one other) (pair_least peer.0 me.0 (worth_of peer.0 me.0) n other one)
      (both_less (grid (λ a b. at_place me.0 (costs_to plan me.0 b network.edges few done.told) a) n) (sum_below (λ b. costs_to plan me.0 b network.edges few done.told) n) (costs plan network.edges me.0 few done.told)
      (row_most me.0 (λ b. costs_to plan me.0 b network.edges few done.told) n) (costs_all plan me.0 network.edges few done.told n))
      (pair_most me.0 peer.0 (rank_after me.0 peer.0) n) (pair_most peer.0 me.0 (worth_after peer.0 me.0) n)
      (ap (λ (e : EdgeState). end_rank (e.peering peer.0) * state_worth plan) own_edge) peer_worth done.lighter
    where
      n : ℕ
      n = length plan.edges

      both_less : (a b c : ℕ) → a ≤ b → b ≤ c → a ≤ c
      both_less a b c one other = omega (arith, one, other)

      less_two : (s t a l b g : ℕ) → s ≤ t → s ≡ a + l → t ≡ b + g → a + l ≤ b + g
      less_two s t a l b g le one other = omega (arith, le, one, other)

      sum : (a l b g r f r1 f1 c r2 w l1 l2 g1 g2 g3 : ℕ) → a + l ≤ b + g → l ≡ l1 + l2 → g ≡ g1 + (g2 + g3) → r ≤ l1 → f ≤ l2 → g1 ≤ c → g2 ≤ r1 → g3 ≤ f1 → r1 ≡ r2 → f1 ≤ w
          → suc (r2 + (c + w)) ≤ r + f → a < b
      sum a l b g r f r1 f1 c r2 w l1 l2 g1 g2 g3 all ls gs one two three four five six seven light = omega (arith, all, ls, gs, one, two, three, four, five, six, seven, light)
