-- How many messages an edge puts on hearing one: three at each of its ends at most when it mends, and those that answer.
use Rattle.std.proofs.Common.{◌≡◌, ◌≤◌, ◌+◌, ◌*◌, ◌++◌, ℕ, suc, Bool, true, false, cond, nat_eq, length, List, [], ◌∷◌, Option, Some, None, refl, sym, ap, subst, arith, length-append, zero, ◌∙◌, zero-add, ◌/◌, drop}
use Rattle.std.proofs.Math.Nat.{mul-one, suc-mul}
use Rattle.net_base.specs.declared.plan.Plan.{Plan}
use Rattle.net_base.specs.declared.plan.places.EdgeId.{EdgeId}
use Rattle.net_base.specs.declared.plan.places.WireId.{WireId}
use Rattle.net_base.specs.declared.trace.down.Down.{Down}
use Rattle.net_base.specs.plan.Places.{wire_row}
use Rattle.net_values.specs.declared.mac.Mac.{Mac}
use Rattle.ldp_grammar.specs.declared.message.Message.{Message}
use Rattle.pw_tlvs.specs.declared.pw_status.PwStatus.{PwStatus}
use Rattle.pw_messages.specs.Content.{mac_withdrawal, mapping, status_notification, withdrawal}
use Rattle.pw_signalling.specs.declared.told.Told.{Told}
use Rattle.pw_signalling.specs.End.{LocalPart, Idle, Advertised, Withdrawing}
use Rattle.edge_model.specs.declared.effect.Effect.{Effect}
use Rattle.edge_model.specs.declared.effect.Effect.TheVariants.{Said, Wire}
use Rattle.edge_model.specs.declared.end_place.EndPlace.{EndPlace}
use Rattle.edge_model.specs.EndPlaces.{end_places}
use Rattle.edge_model.specs.Labels.{label_to_give}
use Rattle.edge_model.specs.Mend.{advertises_under, advertises_wish, advertising, and_says, cause_number, each_end, forgets_down, forgets_downs, is_new_choice, mends, mends_choice, mends_end, mends_local, mends_status, mends_status_of, offer_stands, port_of_wire, tells_down, tells_downs, tells_new_status, tells_over, telling_status, then_changes, wish, withdrawing, withdraws}
use Rattle.edge_model.specs.Put.{Spoken, message_octets_of, stays}
use Rattle.edge_model.specs.Role.{down_at, status_to_tell}
use Rattle.edge_model.specs.Session.{says}
use Rattle.edge_model.specs.Spokes.{choosing}
use Rattle.edge_model.specs.State.{EdgeState, Peering, end_at, has_end, with_told_down}
use Rattle.edge_model.specs.Withdraw.{tells_piece, tells_piece_by, tells_pieces}
use Rattle.edge_model.specs.Work.{Work, changes, gives}
use Rattle.edge_model.proofs.MendLemmas.{mends_takes, says_nothing, says_taken}
use Rattle.network_model.specs.Absorb.{taken_all}
use Rattle.net_base.specs.declared.plan.circuit_plan.CircuitPlan.{CircuitPlan}
use Rattle.net_base.specs.declared.plan.places.ServiceId.{ServiceId}
use Rattle.net_base.specs.declared.plan.wire_plan.WirePlan.{WirePlan}
use Rattle.net_base.specs.plan.Roles.{is_circuit_at, wire_ends_at}
use Rattle.ldp_grammar.specs.declared.message.Message.TheVariants.{Initialization, KeepAlive, Notification, AddressWithdraw, LabelMapping, LabelWithdraw, LabelRelease}
use Rattle.pw_messages.specs.Content.{binding_in, pw_status_code, release}
use Rattle.pw_signalling.specs.declared.binding.Binding.{Binding}
use Rattle.pw_signalling.specs.Rows.{bound, group_stated, group_unbound, stated, unbound}
use Rattle.hvpls_spokes.specs.declared.edge_role.Role.{Role}
use Rattle.hvpls_spokes.specs.declared.port.Port.{Port}
use Rattle.hvpls_spokes.specs.declared.port.Port.TheVariants as port
use Rattle.hvpls_spokes.specs.Port.{circuit_ports, ports_of, wire_port, wire_ports}
use Rattle.hvpls_spokes.specs.Role as roles
use Rattle.mac_withdraw.specs.Passing.{is_passed_to}
use Rattle.mac_withdraw.specs.Pieces.{most_in_piece, piece_count, pieces_from, pieces_of}
use Rattle.session_core.specs.declared.peers.Peers.{Peers}
use Rattle.flight_laws.specs.Messages.{AreSaid, IsSaidAcross}
use Rattle.flight_laws.specs.Rules.{AllMessages}
use Rattle.edge_model.specs.Across.{end_beyond}
use Rattle.edge_model.specs.Clear.{clears_at, clears_by, clears_wire, passes_on, tells_at, tells_by, withdrawing_at}
use Rattle.edge_model.specs.Ends.{wire_end}
use Rattle.edge_model.specs.Frame.{copies}
use Rattle.edge_model.specs.Hear.{acts_on}
use Rattle.edge_model.specs.Signal.{end_of_fec, maps_to, releases_label, takes_content, with_end_changed, with_named, with_released}
use Rattle.edge_model.proofs.SignalLemmas.{acts_on_signals}
use Rattle.spelling_laws.proofs.PutLemmas.{changed_effects, put_effects}
use Rattle.rest_laws.specs.Levels.{Saying, saying_of}
use Rattle.rest_laws.specs.Rises.{answers_most, most_put, put_most, said_count, says_any}

-- ---- one message

pub count_joined : (es more : List Effect) → said_count (es ++ more) ≡ said_count es + said_count more
count_joined [] more = sym (zero-add (said_count more))
count_joined (e ∷ es) more = joined (says_any e) (said_count es) (said_count more) (said_count (es ++ more)) (count_joined es more) where
  joined : (a b c d : ℕ) → d ≡ b + c → a + d ≡ (a + b) + c
  joined a b c d is = omega (arith, is)

-- one more at most
abbrev pub OneMore : Work → Work → Type 0
OneMore old new = said_count new.effects ≤ said_count old.effects + 1

same_more : (work : Work) → OneMore work work
same_more work = omega arith

exactly : (a b : ℕ) → b ≡ a + 1 → b ≤ a + 1
exactly a b is = omega (arith, is)

says_one : (peer : EdgeId) (message : ℕ → Message) (work : Work) → OneMore work (says taken_all peer message work).work
says_one peer message work = by (work.edge.peering peer.0) refl where
  by : (kept : Option Peering) → work.edge.peering peer.0 ≡ kept → OneMore work (says taken_all peer message work).work
  by None is = subst (λ (s : Spoken). OneMore work s.work) (sym (says_nothing taken_all peer message work is)) (same_more work)
  by (Some kept) is = subst (λ (s : Spoken). OneMore work s.work) (sym (says_taken taken_all peer message kept work refl is))
      (subst (λ (es : List Effect). said_count es ≤ said_count work.effects + 1) (sym (put_effects peer (message_octets_of kept message) work))
      (exactly (said_count work.effects) (said_count (work.effects ++ Said peer (message_octets_of kept message) ∷ [])) (count_joined work.effects (Said peer (message_octets_of kept message) ∷ []))))

-- a change before it tells nothing
changed_one : (change : EdgeState → EdgeState) (peer : EdgeId) (message : ℕ → Message) (work : Work) → OneMore work (says taken_all peer message (changes change work)).work
changed_one change peer message work =
    subst (λ (es : List Effect). said_count (says taken_all peer message (changes change work)).work.effects ≤ said_count es + 1) (changed_effects change work) (says_one peer message (changes change work))

module _ (plan : Plan) where
  -- ---- one step

  end_one : (place : EndPlace) (work : Work) → OneMore work (mends_end plan taken_all place work).work
  end_one place work = of (end_at work.edge place).local where
    under : (content : Told) (label : Option ℕ) → OneMore work (advertises_under taken_all place content label work).work
    under content None = same_more work
    under content (Some label) = changed_one (advertising place label content) place.peer (mapping place.pw_id label content) work

    wished : (wish : Option Told) → OneMore work (advertises_wish taken_all place wish work).work
    wished None = same_more work
    wished (Some content) = under content (label_to_give work.edge)

    unless : (label : ℕ) (content : Told) (b : Bool) → OneMore work (cond b (stays work) (withdraws taken_all place label content work)).work
    unless label content true = same_more work
    unless label content false = changed_one (withdrawing place) place.peer (withdrawal place.pw_id label content) work

    of : (local : LocalPart) → OneMore work (mends_local plan taken_all place local work).work
    of (Idle true) = same_more work
    of (Idle false) = wished (wish plan work.edge place)
    of (Advertised label content) = unless label content (offer_stands place content (wish plan work.edge place))
    of (Withdrawing label) = same_more work

  status_one : (place : EndPlace) (work : Work) → OneMore work (mends_status plan taken_all place work).work
  status_one place work = of (end_at work.edge place).local where
    status : PwStatus
    status = status_to_tell plan work.edge place

    by : (content : Told) (b : Bool) → OneMore work (cond b (stays work) (tells_new_status taken_all place content status work)).work
    by content true = same_more work
    by content false = changed_one (telling_status place status) place.peer (status_notification place.pw_id status content) work

    over : (content : Told) (last : Option PwStatus) → OneMore work (tells_over taken_all place content status last work).work
    over content None = same_more work
    over content (Some last) = by content (nat_eq last.0 status.0)

    of : (local : LocalPart) → OneMore work (mends_status_of plan taken_all place local work).work
    of (Idle declined) = same_more work
    of (Advertised label content) = over content content.status
    of (Withdrawing label) = same_more work

  pub piece_one : (place : EndPlace) (piece : List Mac) (work : Work) → OneMore work (tells_piece taken_all place piece work).work
  piece_one place piece work = of (end_at work.edge place).local where
    of : (local : LocalPart) → OneMore work (tells_piece_by taken_all place piece local work).work
    of (Idle declined) = same_more work
    of (Advertised label content) = says_one place.peer (mac_withdrawal place.pw_id piece content) work
    of (Withdrawing label) = same_more work

  choice_one : (before : ℕ → Option WireId) (place : EndPlace) (work : Work) → OneMore work (mends_choice plan taken_all before place work).work
  choice_one before place work = by (is_new_choice before work.edge.chosen place.wire (wire_row plan place.wire)) where
    by : (b : Bool) → OneMore work (cond b (tells_piece taken_all place [] work) (stays work)).work
    by true = piece_one place [] work
    by false = same_more work

  -- ---- at each end

  then_one : (a b c n : ℕ) → b ≤ a + 1 → c ≤ b + n → c ≤ a + suc n
  then_one a b c n first next = omega (arith, first, next)

  each_one : (mend : EndPlace → Work → Spoken) → ((place : EndPlace) (work : Work) → OneMore work (mend place work).work) → (places : List EndPlace) (m : Spoken)
      → said_count (each_end mend places m).work.effects ≤ said_count m.work.effects + length places
  each_one mend one [] m = none (said_count m.work.effects) where
    none : (n : ℕ) → n ≤ n + 0
    none n = omega arith
  each_one mend one (place ∷ places) m =
      then_one (said_count m.work.effects) (said_count (mend place m.work).work.effects) (said_count (each_end mend places (and_says m (mend place))).work.effects) (length places)
      (one place m.work) (each_one mend one places (and_says m (mend place)))

  -- what is forgotten, and told of wires, is no message
  forgets_same : (places : List EndPlace) (work : Work) → said_count (forgets_downs plan places work).effects ≡ said_count work.effects
  forgets_same [] work = refl
  forgets_same (place ∷ places) work =
      forgets_same places (cond place.terminal (forgets_down plan place (down_at plan work.edge place) work) work) ∙ by place.terminal (down_at plan work.edge place)
    where
      by : (terminal : Bool) (down : Option Down) → said_count (cond terminal (forgets_down plan place down work) work).effects ≡ said_count work.effects
      by true None = refl
      by true (Some why) = ap said_count (changed_effects (Rattle.edge_model.specs.Mend.forgetting_wire plan place.wire (wire_row plan place.wire)) work)
      by false down = refl

  gives_same : (wire : WireId) (down : Option Down) (work : Work) → said_count (gives (Wire wire down) (changes (with_told_down wire down) work)).effects ≡ said_count work.effects
  unfolding gives changes
  gives_same wire down work = count_joined work.effects (Wire wire down ∷ []) ∙ none (said_count work.effects) where
    none : (n : ℕ) → n + 0 ≡ n
    none n = omega arith

  downs_same : (places : List EndPlace) (work : Work) → said_count (tells_downs plan places work).effects ≡ said_count work.effects
  downs_same [] work = refl
  downs_same (place ∷ places) work = downs_same places (cond place.terminal (tells_down place (down_at plan work.edge place) work) work) ∙ by place.terminal (down_at plan work.edge place) where
    told : (down : Option Down) (same : Bool) → said_count (cond same work (gives (Wire place.wire down) (changes (with_told_down place.wire down) work))).effects ≡ said_count work.effects
    told down true = refl
    told down false = gives_same place.wire down work

    by : (terminal : Bool) (down : Option Down) → said_count (cond terminal (tells_down place down work) work).effects ≡ said_count work.effects
    by true down = told down (nat_eq (cause_number (work.edge.told_down place.wire.0)) (cause_number down))
    by false down = refl

  -- ---- all of it

  thrice : (a b c d n : ℕ) → b ≤ a + n → c ≤ b + n → d ≤ c + n → d ≤ a + 3 * n
  thrice a b c d n one two three = omega (arith, one, two, three)

  pub mends_few_said : (work : Work) → said_count (mends plan taken_all work).effects ≤ said_count work.effects + 3 * length (end_places plan work.edge.me)
  mends_few_said work =
      subst (λ (w : Work). said_count w.effects ≤ said_count work.effects + 3 * length places) (sym (mends_takes plan taken_all (λ k. refl) work))
      (subst (λ (n : ℕ). n ≤ said_count work.effects + 3 * length places) (sym (downs_same places (forgets_downs plan places moved.work) ∙ forgets_same places moved.work))
      (thrice (said_count work.effects) (said_count chosen.work.effects) (said_count statuses.work.effects) (said_count moved.work.effects) (length places) ends
      (each_one (mends_status plan taken_all) status_one places chosen) (each_one (mends_choice plan taken_all work.edge.chosen) (choice_one work.edge.chosen) places statuses)))
    where
      places : List EndPlace
      places = end_places plan work.edge.me

      told : Spoken
      told = each_end (mends_end plan taken_all) places (stays work)

      chosen : Spoken
      chosen = then_changes (choosing plan) told

      statuses : Spoken
      statuses = each_end (mends_status plan taken_all) places chosen

      moved : Spoken
      moved = each_end (mends_choice plan taken_all work.edge.chosen) places statuses

      ends : said_count chosen.work.effects ≤ said_count work.effects + length places
      ends = subst (λ (es : List Effect). said_count es ≤ said_count work.effects + length places) (sym (changed_effects (choosing plan) told.work)) (each_one (mends_end plan taken_all) end_one places (stays work))

-- ---- what answers a message

no_more : (n : ℕ) → n ≤ n + 0
no_more n = omega arith

within : (a b n : ℕ) → a ≡ b → a ≤ b + n
within a b n is = omega (arith, is)

-- a change says nothing
changed_none : (change : EdgeState → EdgeState) (work : Work) (n : ℕ) → said_count (changes change work).effects ≤ said_count work.effects + n
changed_none change work n = within (said_count (changes change work).effects) (said_count work.effects) n (ap said_count (changed_effects change work))

module _ (plan : Plan) (addresses : List Mac) where
  abbrev pieces : ℕ
  pieces = length (pieces_of addresses)

  all_pieces : (place : EndPlace) (ps : List (List Mac)) (work : Work) → said_count (tells_pieces taken_all place ps work).effects ≤ said_count work.effects + length ps
  all_pieces place [] work = no_more (said_count work.effects)
  all_pieces place (piece ∷ ps) work =
      then_one plan (said_count work.effects) (said_count (tells_piece taken_all place piece work).work.effects) (said_count (tells_pieces taken_all place ps (tells_piece taken_all place piece work).work).effects) (length ps)
      (piece_one plan place piece work) (all_pieces place ps (tells_piece taken_all place piece work).work)

  some_more : (n k : ℕ) → n ≤ n + k
  some_more n k = omega arith

  found_few : (found : Option EndPlace) (work : Work) → said_count (tells_by taken_all addresses found work).effects ≤ said_count work.effects + pieces
  found_few None work = some_more (said_count work.effects) pieces
  found_few (Some place) work = all_pieces place (pieces_of addresses) work

  port_few : (x : Port) (work : Work) → said_count (tells_at plan taken_all addresses x work).effects ≤ said_count work.effects + pieces
  port_few (port.Circuit circuit) work = some_more (said_count work.effects) pieces
  port_few (port.Mesh wire) work = found_few (wire_end plan work.edge.me wire) work
  port_few (port.Spoke wire) work = found_few (wire_end plan work.edge.me wire) work

  more_ports : (a b c n k : ℕ) → b ≤ a + k → c ≤ b + n * k → c ≤ a + suc n * k
  more_ports a b c n k one rest = omega (arith, one, rest, suc-mul n k)

  ports_few : (targets : ℕ → Bool) (p : ℕ) (xs : List Port) (work : Work) → said_count (copies targets (tells_at plan taken_all addresses) p xs work).effects ≤ said_count work.effects + length xs * pieces
  ports_few targets p [] work = some_more (said_count work.effects) (length {A = Port} [] * pieces)
  ports_few targets p (x ∷ xs) work =
      more_ports (said_count work.effects) (said_count (cond (targets p) (tells_at plan taken_all addresses x work) work).effects)
      (said_count (copies targets (tells_at plan taken_all addresses) (p + 1) xs (cond (targets p) (tells_at plan taken_all addresses x work) work)).effects) (length xs) pieces
      (by (targets p)) (ports_few targets (p + 1) xs (cond (targets p) (tells_at plan taken_all addresses x work) work))
    where
      by : (b : Bool) → said_count (cond b (tells_at plan taken_all addresses x work) work).effects ≤ said_count work.effects + pieces
      by true = port_few x work
      by false = some_more (said_count work.effects) pieces

  -- no more ports than rows
  longer : (a b : ℕ) → a ≤ b → a ≤ suc b
  longer a b le = omega (arith, le)

  circuits_few : (place : ℕ) (rows : List CircuitPlan) (service : ServiceId) (edge : EdgeId) → length (circuit_ports place rows service edge) ≤ length rows
  circuits_few place [] service edge = omega arith
  circuits_few place (row ∷ rows) service edge = by (is_circuit_at service edge.0 row) (circuits_few (place + 1) rows service edge) where
    by : (b : Bool) → length (circuit_ports (place + 1) rows service edge) ≤ length rows
        → length (cond b (port.Circuit (record { 0 = place }) ∷ circuit_ports (place + 1) rows service edge) (circuit_ports (place + 1) rows service edge)) ≤ suc (length rows)
    by true rest = omega (arith, rest)
    by false rest = longer (length (circuit_ports (place + 1) rows service edge)) (length rows) rest

  wires_few : (place : ℕ) (rows : List WirePlan) (service : ServiceId) (edge : EdgeId) → length (wire_ports place rows service edge) ≤ length rows
  wires_few place [] service edge = omega arith
  wires_few place (row ∷ rows) service edge = by (wire_ends_at service edge.0 row) (wires_few (place + 1) rows service edge) where
    by : (b : Bool) → length (wire_ports (place + 1) rows service edge) ≤ length rows
        → length (cond b (wire_port place row ∷ wire_ports (place + 1) rows service edge) (wire_ports (place + 1) rows service edge)) ≤ suc (length rows)
    by true rest = omega (arith, rest)
    by false rest = longer (length (wire_ports (place + 1) rows service edge)) (length rows) rest

  both_few : (a b c x y : ℕ) → c ≡ a + b → a ≤ x → b ≤ y → c ≤ suc (x + y)
  both_few a b c x y is one other = omega (arith, is, one, other)

  rows_few : (service : ServiceId) (edge : EdgeId) → length (ports_of plan service edge) ≤ suc (length plan.circuits + length plan.wires)
  rows_few service edge =
      both_few (length (circuit_ports 0 plan.circuits service edge)) (length (wire_ports 0 plan.wires service edge)) (length (ports_of plan service edge)) (length plan.circuits) (length plan.wires)
      (length-append (circuit_ports 0 plan.circuits service edge) (wire_ports 0 plan.wires service edge)) (circuits_few 0 plan.circuits service edge) (wires_few 0 plan.wires service edge)

  -- so many pieces, by each
  abbrev all_few : ℕ
  all_few = suc (length plan.circuits + length plan.wires) * pieces

  times_more : (a b k : ℕ) → a ≤ b → a * k ≤ b * k
  times_more zero b k le = omega arith
  times_more (suc a) zero k le = omega (arith, le)
  times_more (suc a) (suc b) k le = omega (arith, times_more a b k (omega (arith, le)), suc-mul a k, suc-mul b k)

  once_in : (n k : ℕ) → k ≤ suc n * k
  once_in n k = omega (arith, times_more 1 (suc n) k (omega arith))

  widened : (a b x y : ℕ) → a ≤ b + x → x ≤ y → a ≤ b + y
  widened a b x y one other = omega (arith, one, other)

  pub clears_few : (found : Option EndPlace) (work : Work) → said_count (clears_by plan taken_all addresses found work).effects ≤ said_count work.effects + all_few
  clears_few None work = some_more (said_count work.effects) all_few
  clears_few (Some place) work = by place.terminal where
    by_role : (service : ServiceId) (from : ℕ) (r : Option Role) (begun : Work) → said_count begun.effects ≡ said_count work.effects
        → said_count (passes_on plan taken_all addresses service from r begun).effects ≤ said_count work.effects + all_few
    by_role service from None begun same = within (said_count begun.effects) (said_count work.effects) all_few same
    by_role service from (Some r) begun same =
        subst (λ (n : ℕ). said_count (passes_on plan taken_all addresses service from (Some r) begun).effects ≤ n + all_few) same
        (widened (said_count (passes_on plan taken_all addresses service from (Some r) begun).effects) (said_count begun.effects) (length (ports_of plan service begun.edge.me) * pieces) all_few
        (ports_few (is_passed_to r (ports_of plan service begun.edge.me) from) 0 (ports_of plan service begun.edge.me) begun)
        (times_more (length (ports_of plan service begun.edge.me)) (suc (length plan.circuits + length plan.wires)) pieces (rows_few service begun.edge.me)))

    by_port : (service : ServiceId) (from : Option ℕ) → said_count (clears_at plan taken_all addresses service from work).effects ≤ said_count work.effects + all_few
    by_port service None = some_more (said_count work.effects) all_few
    by_port service (Some from) = by_role service from (roles.role_of plan service work.edge.me) (changes (withdrawing_at service addresses from) work)
        (ap said_count (changed_effects (withdrawing_at service addresses from) work))

    by_row : (row : Option WirePlan) → said_count (clears_wire plan taken_all addresses place row work).effects ≤ said_count work.effects + all_few
    by_row None = some_more (said_count work.effects) all_few
    by_row (Some row) = by_port row.service (port_of_wire plan work.edge place.wire row)

    by : (terminal : Bool) → said_count (cond terminal (clears_wire plan taken_all addresses place (wire_row plan place.wire) work) (tells_by taken_all addresses (end_beyond plan work.edge.me place) work)).effects
        ≤ said_count work.effects + all_few
    by true = by_row (wire_row plan place.wire)
    by false = widened (said_count (tells_by taken_all addresses (end_beyond plan work.edge.me place) work).effects) (said_count work.effects) pieces all_few
        (found_few (end_beyond plan work.edge.me place) work) (once_in (length plan.circuits + length plan.wires) pieces)

module _ (plan : Plan) (peer : EdgeId) where
  answers_few : (message : Message) (saying : Saying) (work : Work) → saying_of message ≡ Some saying → said_count (acts_on plan taken_all peer message work).effects ≤ said_count work.effects + answers_most plan message
  answers_few (LabelMapping id fec label status points) saying work says = of (end_of_fec plan work.edge peer fec) where
    binding : Binding
    binding = binding_in fec label status points

    by : (place : EndPlace) (b : Bool) → said_count (cond b (changes (with_end_changed (bound binding) (Some place)) work)
        (releases_label taken_all peer fec (Some binding.label) (changes (with_end_changed (unbound None) (Some place)) work))).effects ≤ said_count work.effects + 1
    by place true = changed_none (with_end_changed (bound binding) (Some place)) work 1
    by place false = changed_one (with_end_changed (unbound None) (Some place)) peer (release fec (Some binding.label)) work

    of : (o : Option EndPlace) → said_count (maps_to plan taken_all peer fec binding o work).effects ≤ said_count work.effects + 1
    of None = says_one peer (release fec (Some binding.label)) work
    of (Some place) = by place (takes_content plan work.edge.me place binding.told)
  answers_few (LabelWithdraw id fec label) saying work says = changed_one (with_named plan peer fec (unbound label) (group_unbound fec.group) fec.pw_id) peer (release fec label) work
  answers_few (LabelRelease id fec label) saying work says = changed_none (λ edge. with_released label (end_of_fec plan edge peer fec) edge) work 0
  answers_few (Notification id code None (Some fec)) saying work says = no_more (said_count work.effects)
  answers_few (Notification id code (Some status) (Some fec)) saying work says = by (nat_eq code.code pw_status_code) where
    by : (b : Bool) → said_count (cond b (changes (with_named plan peer fec (stated status) (group_stated fec.group status) fec.pw_id) work) work).effects ≤ said_count work.effects + 0
    by true = changed_none (with_named plan peer fec (stated status) (group_stated fec.group status) fec.pw_id) work 0
    by false = no_more (said_count work.effects)
  answers_few (AddressWithdraw id addresses (Some fec) None) saying work says = no_more (said_count work.effects)
  answers_few (AddressWithdraw id addresses (Some fec) (Some macs)) saying work says = clears_few plan macs (end_of_fec plan work.edge peer fec) work
  answers_few m saying work says = absurd (cc (says))

  joined_few : (a b c x y : ℕ) → b ≤ a + x → c ≤ b + y → c ≤ a + (x + y)
  joined_few a b c x y one other = omega (arith, one, other)

  pub heard_few : (message : Message) (saying : Saying) (work : Work) → has_end work.edge peer ≡ true → saying_of message ≡ Some saying
      → said_count (mends plan taken_all (acts_on plan taken_all peer message work)).effects ≤ said_count work.effects + put_most plan work.edge.me message
  heard_few message saying work there says =
      let acted : Work = acts_on plan taken_all peer message work in
      joined_few (said_count work.effects) (said_count acted.effects) (said_count (mends plan taken_all acted).effects) (answers_most plan message) (3 * length (end_places plan work.edge.me))
      (answers_few message saying work says)
      (subst (λ (k : EdgeId). said_count (mends plan taken_all acted).effects ≤ said_count acted.effects + 3 * length (end_places plan k)) (acts_on_signals plan taken_all peer message work there).edge.me (mends_few_said plan acted))

-- ---- on a message that is said in a run

pub one_piece : (n : ℕ) → n ≤ 30 → piece_count n ≤ 1
one_piece n few = by (nat_eq n 0) where
  by : (b : Bool) → cond b 1 ((n + 29) / 30) ≤ 1
  by true = omega arith
  by false = omega (arith, few)

pub pieces_length : (n : ℕ) (macs : List Mac) → length (pieces_from n macs) ≡ n
pieces_length zero macs = refl
pieces_length (suc n) macs = ap suc (pieces_length n (drop most_in_piece macs))

one_each : (c k : ℕ) → k ≤ 1 → suc c * k ≤ suc c
one_each c zero few = omega arith
one_each c (suc k) few = omega (arith, few, times_one c (suc k) (omega (arith, few))) where
  times_one : (c k : ℕ) → k ≡ 1 → suc c * k ≡ suc c
  times_one c k is = ap (λ (n : ℕ). suc c * n) is ∙ mul-one (suc c)

in_most : (a c k : ℕ) → a ≤ suc c → a + k ≤ suc c + k
in_most a c k le = omega (arith, le)

pub said_few : (plan : Plan) (me : EdgeId) (ends : Peers) (m : Message) → IsSaidAcross ends m → put_most plan me m ≤ most_put plan me
said_few plan me ends m said = in_most (answers_most plan m) (length plan.circuits + length plan.wires) (3 * length (end_places plan me)) (of m said) where
  rows : ℕ
  rows = length plan.circuits + length plan.wires

  none : (c : ℕ) → 0 ≤ suc c
  none c = omega arith

  one : (c : ℕ) → 1 ≤ suc c
  one c = omega arith

  of : (x : Message) → IsSaidAcross ends x → answers_most plan x ≤ suc (length plan.circuits + length plan.wires)
  of (Initialization id params) is = none rows
  of (KeepAlive id) is = none rows
  of (Notification id code status fec) is = none rows
  of (AddressWithdraw id None (Some fec) (Some macs)) is =
      one_each rows (length (pieces_of macs)) (subst (λ (n : ℕ). n ≤ 1) (sym (pieces_length (piece_count (length macs)) macs)) (one_piece (length macs) is.1.1))
  of (AddressWithdraw id addresses fec macs) is = absurd is.1
  of (LabelMapping id fec label status points) is = one rows
  of (LabelWithdraw id fec label) is = one rows
  of (LabelRelease id fec label) is = none rows
  of x is = absurd is

pub all_few_said : (plan : Plan) (me : EdgeId) (ends : Peers) (few : ℕ) → most_put plan me ≤ few → (ms : List Message) → AreSaid ends ms → AllMessages (λ m. put_most plan me m ≤ few) ms
all_few_said plan me ends few enough [] said = tt
all_few_said plan me ends few enough (m ∷ ms) said = (both (put_most plan me m) (most_put plan me) few (said_few plan me ends m said.0) enough, all_few_said plan me ends few enough ms said.1) where
  both : (a b c : ℕ) → a ≤ b → b ≤ c → a ≤ c
  both a b c one other = omega (arith, one, other)
