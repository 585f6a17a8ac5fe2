-- A message is worth more than all that an edge that has mended tells on hearing it.
use Rattle.std.proofs.Common.{◌≡◌, ◌≤◌, ◌<◌, ◌+◌, ◌-◌, ◌++◌, ◌∙◌, ◌&&◌, ℕ, zero, suc, Bool, true, false, length, List, Option, Some, None, option_and_then, sym, ap, subst, arith}
use Rattle.std.proofs.lemmas.Option.{same_Some}
use Rattle.std.proofs.lemmas.List.{append_cancel_left}
use Rattle.std.specs.List.{AllByRecursion}
use Rattle.net_values.specs.declared.mac.Mac.{Mac}
use Rattle.net_base.specs.declared.plan.Plan.{Plan}
use Rattle.net_base.specs.declared.plan.places.EdgeId.{EdgeId}
use Rattle.net_base.specs.declared.plan.places.WireId.{WireId}
use Rattle.net_base.specs.declared.plan.wire_plan.WirePlan.{WirePlan}
use Rattle.net_base.specs.plan.Accepted.{IsChecked}
use Rattle.net_base.specs.plan.Places.{wire_row}
use Rattle.mac_withdraw.specs.Pieces.{piece_count, pieces_of}
use Rattle.ldp_grammar.specs.declared.message.Message.{Message}
use Rattle.ldp_grammar.specs.declared.message.Message.TheVariants.{AddressWithdraw, LabelMapping, LabelRelease, LabelWithdraw, Notification}
use Rattle.session_core.specs.declared.peers.Peers.{Peers}
use Rattle.edge_model.specs.declared.effect.Effect.{Effect}
use Rattle.edge_model.specs.declared.end_place.EndPlace.{EndPlace}
use Rattle.edge_model.specs.EndPlaces.{end_named}
use Rattle.edge_model.specs.Hear.{acts_on}
use Rattle.edge_model.specs.Mend.{mends}
use Rattle.edge_model.specs.State.{EdgeState}
use Rattle.edge_model.specs.Work.{Work}
use Rattle.network_model.specs.Absorb.{taken_all}
use Rattle.flight_laws.specs.Messages.{IsSaidAcross}
use Rattle.flight_laws.proofs.MendedRunLemmas.{IsMendedAt}
use Rattle.flight_laws.proofs.PlaceLemmas.{IsEndOf}
use Rattle.rest_laws.proofs.RiseLemmas.{NamesEnd, names_end, names_low}
use Rattle.rest_laws.proofs.CountLemmas.{one_piece, pieces_length}
use Rattle.rest_laws.specs.Levels.{Saying, Binds, Withdraws, Releases, States, Clears, is_above, level, level_at, level_of, levels_end, pw_id_of, saying_of}
use Rattle.rest_laws.specs.Rises.{IsByPlan, PutsAbove, left_above}
use Rattle.quiet_laws.proofs.ToldLemmas.{TellsMore}
use Rattle.settle_bounds.specs.Worth.{Worths, beside, clear_cost, comes_by, comes_of, follow_cost, gate, heard_cost, may_follow, mend_cost, message_worth, worth, worth_at, worth_by, worth_named}
use Rattle.settle_bounds.proofs.NearLemmas.{follow_like}
use Rattle.settle_bounds.proofs.PayLemmas.{Follows, clears_it, maps, releases, states, withdraws}
use Rattle.settle_bounds.proofs.WalkLemmas.{AreSlots, Costs, Walks, slots_sum}
use Rattle.settle_bounds.proofs.WorthLemmas.{AllSlots, above_all, follow_least, may_all, paid, told_least}

-- a message that names an end is worth so much
named_worth : (plan : Plan) (edges : ℕ → EdgeState) (peer me : EdgeId) (message : Message) (least : ℕ) → (names : NamesEnd plan edges peer me message least)
    → message_worth plan edges peer.0 me.0 message ≡ worth plan edges (left_above least) peer.0 names.place.wire.0 me.0 names.saying
named_worth plan edges peer me message least names =
    ap (λ (o : Option Saying). worth_named plan edges peer.0 o (option_and_then (end_named plan peer me) (pw_id_of message))) names.says
    ∙ (ap (worth_named plan edges peer.0 (Some names.saying)) names.far_names
    ∙ (ap (worth_by plan edges peer.0 names.far names.saying) names.far_is
    ∙ (ap (λ (w : WireId). worth plan edges (left_above least) peer.0 w.0 names.far.peer.0 names.saying) names.far_wire
    ∙ ap (λ (k : EdgeId). worth plan edges (left_above least) peer.0 names.place.wire.0 k.0 names.saying) names.far_peer)))

-- ---- by kind

few_pieces : (macs : List Mac) → length macs ≤ 30 → length (pieces_of macs) ≤ 1
few_pieces macs few = subst (λ (n : ℕ). n ≤ 1) (sym (pieces_length (piece_count (length macs)) macs)) (one_piece (length macs) few)

-- what may follow at the end that is named
abbrev pub follows_most : Plan → EdgeId → EndPlace → WirePlan → Saying → Costs → ℕ
follows_most plan me place row Withdraws cost = cost place Releases + mend_cost plan me cost
follows_most plan me place row Clears cost = clear_cost plan me cost place row
follows_most plan me place row saying cost = mend_cost plan me cost

module _ (plan : Plan) (checked : IsChecked plan) (me : EdgeId) (q : EndPlace) (q_is : IsEndOf plan me q) (work : Work) (mended : IsMendedAt plan me.0 work.edge) (other : Peers) where
  abbrev Goes : Saying → Work → Type 0
  Goes saying next = Follows plan me (may_follow plan me q.wire.0 q.peer.0 q_is.row saying) work.effects (mends plan taken_all next).effects (follows_most plan me q q_is.row saying)

  -- an end that is named at the edge is named in the work
  moved : (o : Option ℕ) → option_and_then (end_named plan me q.peer) o ≡ Some q → option_and_then (end_named plan work.edge.me q.peer) o ≡ Some q
  moved o is = ap (λ (k : EdgeId). option_and_then (end_named plan k q.peer) o) mended.me ∙ is

  by_kind : (m : Message) (saying : Saying) → saying_of m ≡ Some saying → option_and_then (end_named plan me q.peer) (pw_id_of m) ≡ Some q → IsByPlan plan work.edge q.peer m → IsSaidAcross other m
      → Goes saying (acts_on plan taken_all q.peer m work)
  by_kind (LabelMapping id fec label status points) saying says names by_plan said =
      subst (λ (x : Saying). Goes x (acts_on plan taken_all q.peer (LabelMapping id fec label status points) work)) (same_Some Binds saying says)
      (maps plan checked me q q_is work mended fec label status points (moved fec.pw_id names) (by_plan.1 q (moved fec.pw_id names)))
  by_kind (LabelWithdraw id fec label) saying says names by_plan said =
      subst (λ (x : Saying). Goes x (acts_on plan taken_all q.peer (LabelWithdraw id fec label) work)) (same_Some Withdraws saying says)
      (withdraws plan checked me q q_is work mended fec label (moved fec.pw_id names))
  by_kind (LabelRelease id fec label) saying says names by_plan said =
      subst (λ (x : Saying). Goes x (acts_on plan taken_all q.peer (LabelRelease id fec label) work)) (same_Some Releases saying says)
      (releases plan checked me q q_is work mended fec label (moved fec.pw_id names))
  by_kind (Notification id code status (Some fec)) saying says names by_plan said =
      subst (λ (x : Saying). Goes x (acts_on plan taken_all q.peer (Notification id code status (Some fec)) work)) (same_Some States saying says)
      (states plan checked me q q_is work mended code status fec (moved fec.pw_id names))
  by_kind (AddressWithdraw id None (Some fec) (Some macs)) saying says names by_plan said =
      subst (λ (x : Saying). Goes x (acts_on plan taken_all q.peer (AddressWithdraw id None (Some fec) (Some macs)) work)) (same_Some Clears saying says)
      (clears_it plan checked me q q_is work mended macs (few_pieces macs said.1.1) fec (moved fec.pw_id names))
  by_kind (AddressWithdraw id addresses (Some fec) macs) saying says names by_plan said = absurd said.1
  by_kind m saying says names by_plan said = absurd (cc (says))

-- ---- the law

itself : (n : ℕ) → n ≤ n
itself n = omega arith

gate_most : (b : Bool) (n : ℕ) → gate b n ≤ n
gate_most true n = itself n
gate_most false n = omega arith

-- what may follow is what the message is worth beside itself
follows_worth : (plan : Plan) (edges : ℕ → EdgeState) (worths : Worths) (me : EdgeId) (q : EndPlace) (row : WirePlan) (saying : Saying) (least : ℕ) → level edges q.wire.0 row q.peer.0 me.0 saying ≡ least
    → follows_most plan me q row saying (follow_cost plan edges worths me least (may_follow plan me q.wire.0 q.peer.0 row saying)) ≤ comes_of plan edges worths me (beside q.wire.0 q.peer.0) row saying
follows_worth plan edges worths me q row saying least is =
    subst (λ (n : ℕ). follows_most plan me q row saying (follow_cost plan edges worths me n (may_follow plan me q.wire.0 q.peer.0 row saying)) ≤ comes_of plan edges worths me (beside q.wire.0 q.peer.0) row saying) is (by saying)
  where
    heard : Saying → Costs
    heard s = heard_cost plan edges worths me (beside q.wire.0 q.peer.0) row s

    sum : (a b c : ℕ) → a ≤ b → a + c ≤ b + c
    sum a b c le = omega (arith, le)

    by : (s : Saying) → follows_most plan me q row s (heard_cost plan edges worths me (beside q.wire.0 q.peer.0) row s) ≤ comes_of plan edges worths me (beside q.wire.0 q.peer.0) row s
    by Binds = itself (mend_cost plan me (heard Binds))
    by Withdraws = sum (heard Withdraws q Releases) (worths me.0 q.wire.0 q.peer.0 Releases) (mend_cost plan me (heard Withdraws))
        (gate_most (is_above plan edges me.0 (level edges q.wire.0 row q.peer.0 me.0 Withdraws) q Releases && true) (worths me.0 q.wire.0 q.peer.0 Releases))
    by Releases = itself (mend_cost plan me (heard Releases))
    by States = itself (mend_cost plan me (heard States))
    by Clears = itself (clear_cost plan me (heard Clears) q row)

deep_of : (least : ℕ) → least < 112 → 112 - least ≡ suc (111 - least)
deep_of least low = omega (arith, low)

pub hearing_pays : (plan : Plan) (checked : IsChecked plan) (edges : ℕ → EdgeState) (me peer : EdgeId) (other : Peers) (m : Message) (least most : ℕ) (work : Work) → IsMendedAt plan me.0 work.edge
    → IsSaidAcross other m → IsByPlan plan work.edge peer m → level_of plan edges peer.0 me.0 m ≡ Some least
    → PutsAbove plan edges me.0 least most work.effects (mends plan taken_all (acts_on plan taken_all peer m work)).effects
    → (tells : TellsMore plan me.0 work.effects (mends plan taken_all (acts_on plan taken_all peer m work)).effects) → paid plan checked edges me tells.told < message_worth plan edges peer.0 me.0 m
hearing_pays plan checked edges me peer other m least most work mended said by_plan has rises tells =
    subst (λ (n : ℕ). paid plan checked edges me tells.told < n) (sym worth_sum)
    (less (paid plan checked edges me tells.told) (slots_sum (worth_at plan edges me.0) walks.slots) (slots_sum follow walks.slots) (follows_most plan me q row names.saying follow) (comes_of plan edges (worth plan edges deep) me (beside q.wire.0 q.peer.0) row names.saying)
    (told_least plan checked edges me tells.more tells.told walks.slots tells.are slots)
    (follow_least plan checked edges me deep least may (deep_of least low) walks.slots above near)
    (walks.few follow)
    (follows_worth plan edges (worth plan edges deep) me q row names.saying least at_level))
  where
    less : (a b c d e : ℕ) → a ≤ b → b ≤ c → c ≤ d → d ≤ e → a < suc e
    less a b c d e one two three four = omega (arith, one, two, three, four)

    names : NamesEnd plan edges peer me m least
    names = names_end plan checked edges peer me m least has

    q : EndPlace
    q = names.place

    row : WirePlan
    row = names.here.row

    low : least < levels_end
    low = names_low plan checked edges peer me m least names

    deep : ℕ
    deep = 111 - least

    at_level : level edges q.wire.0 row q.peer.0 me.0 names.saying ≡ least
    at_level = ap (λ (k : EdgeId). level edges q.wire.0 row k.0 me.0 names.saying) names.peer_is ∙ names.is

    may : EndPlace → Saying → Bool
    may = may_follow plan me q.wire.0 q.peer.0 row names.saying

    follow : Costs
    follow = follow_cost plan edges (worth plan edges deep) me least may

    worth_sum : message_worth plan edges peer.0 me.0 m ≡ suc (comes_of plan edges (worth plan edges deep) me (beside q.wire.0 q.peer.0) row names.saying)
    worth_sum =
        named_worth plan edges peer me m least names
        ∙ (ap (λ (n : ℕ). worth plan edges n peer.0 q.wire.0 me.0 names.saying) (deep_of least low)
        ∙ (ap (λ (k : EdgeId). worth plan edges (suc deep) k.0 q.wire.0 me.0 names.saying) (sym names.peer_is)
        ∙ ap (λ (o : Option WirePlan). suc (comes_by plan edges (worth plan edges deep) me.0 q.peer.0 q.wire.0 o names.saying)) names.here.is))

    next : Work
    next = mends plan taken_all (acts_on plan taken_all peer m work)

    kind : Follows plan me may work.effects next.effects (follows_most plan me q row names.saying)
    kind = subst (λ (k : EdgeId). Follows plan me may work.effects (mends plan taken_all (acts_on plan taken_all k m work)).effects (follows_most plan me q row names.saying)) names.peer_is
        (by_kind plan checked me q names.here work mended other m names.saying names.says (ap (λ (k : EdgeId). option_and_then (end_named plan me k) (pw_id_of m)) names.peer_is ∙ names.names)
        (subst (λ (k : EdgeId). IsByPlan plan work.edge k m) (sym names.peer_is) by_plan) said)

    walks : Walks plan me work.effects next.effects (follows_most plan me q row names.saying)
    walks = kind.walks

    same_more : (more : List Effect) → next.effects ≡ work.effects ++ more → more ≡ tells.more
    same_more more is = append_cancel_left work.effects more tells.more (sym is ∙ tells.joined)

    slots : AreSlots plan me tells.more walks.slots
    slots = subst (λ (es : List Effect). AreSlots plan me es walks.slots) (same_more walks.more walks.joined) walks.are

    above : AllSlots (λ p s. is_above plan edges me.0 least p s ≡ true) walks.slots
    above = above_all plan checked edges me least tells.more tells.told rises.levels walks.slots tells.are
        (subst (λ (es : List Effect). Rattle.rest_laws.specs.Rises.AreSaidAt plan edges me.0 es rises.levels) (same_more rises.more rises.joined) rises.are) rises.above slots

    near : AllSlots (λ p s. may p s ≡ true) walks.slots
    near = may_all plan checked edges me may (follow_like plan me q.wire.0 q.peer.0 row names.saying) tells.more tells.told walks.slots tells.are slots
        (subst (λ (es : List Effect). AllByRecursion (Rattle.rest_laws.proofs.DueLemmas.PutsWell plan me may) es) (same_more kind.near.more kind.near.joined) kind.near.well)

-- each message is worth something
pub worth_some : (plan : Plan) (edges : ℕ → EdgeState) (from to : ℕ) (m : Message) → 1 ≤ message_worth plan edges from to m
worth_some plan edges from to m = by (saying_of m) (option_and_then (end_named plan (record { 0 = from }) (record { 0 = to })) (pw_id_of m)) where
  deep_some : (n wire to : ℕ) (s : Saying) → 1 ≤ worth plan edges n from wire to s
  deep_some zero wire to s = omega arith
  deep_some (suc n) wire to s = some (comes_by plan edges (worth plan edges n) to from wire (wire_row plan (record { 0 = wire })) s) where
    some : (a : ℕ) → 1 ≤ suc a
    some a = omega arith

  leveled : (place : EndPlace) (s : Saying) (o : Option ℕ) → 1 ≤ worth_by plan edges from place s o
  leveled place s None = omega arith
  leveled place s (Some l) = deep_some (left_above l) place.wire.0 place.peer.0 s

  by : (o : Option Saying) (named : Option EndPlace) → 1 ≤ worth_named plan edges from o named
  by None named = omega arith
  by (Some s) None = omega arith
  by (Some s) (Some place) = leveled place s (level_at plan edges from s place)
