-- Whatever an edge that has mended tells on a message from a neighbour is worth less than the message.
use Rattle.std.proofs.Common.{◌≡◌, ◌≤◌, ◌+◌, ◌∙◌, ℕ, suc, Bool, true, false, cond, nat_eq, length, List, [], ◌∷◌, Option, Some, None, refl, sym, ap, subst, arith}
use Rattle.net_values.specs.declared.mac.Mac.{Mac}
use Rattle.net_base.specs.declared.plan.Plan.{Plan}
use Rattle.net_base.specs.declared.plan.places.EdgeId.{EdgeId}
use Rattle.net_base.specs.declared.plan.places.ServiceId.{ServiceId}
use Rattle.net_base.specs.declared.plan.places.WireId.{WireId}
use Rattle.net_base.specs.declared.plan.wire_plan.WirePlan.{WirePlan}
use Rattle.net_base.specs.plan.Accepted.{IsChecked}
use Rattle.net_base.specs.plan.Paths.{mate_on}
use Rattle.net_base.specs.plan.Places.{wire_row}
use Rattle.hvpls_spokes.specs.declared.edge_role.Role.{Role}
use Rattle.hvpls_spokes.specs.declared.port.Port.{Port}
use Rattle.hvpls_spokes.specs.declared.port.Port.TheVariants as port
use Rattle.hvpls_spokes.specs.Port.{ports_of}
use Rattle.hvpls_spokes.specs.Role as roles
use Rattle.mac_withdraw.specs.Passing.{is_passed_to}
use Rattle.mac_withdraw.specs.Pieces.{pieces_of}
use Rattle.ldp_grammar.specs.declared.status_code.StatusCode.{StatusCode}
use Rattle.pw_tlvs.specs.declared.point.Point.{Point}
use Rattle.pw_tlvs.specs.declared.pw_fec.PwFec.{PwFec}
use Rattle.pw_tlvs.specs.declared.pw_status.PwStatus.{PwStatus}
use Rattle.pw_messages.specs.Content.{binding_in, pw_status_code, release}
use Rattle.pw_signalling.specs.declared.binding.Binding.{Binding}
use Rattle.pw_signalling.specs.Rows.{bound, group_stated, group_unbound, stated, unbound}
use Rattle.edge_model.specs.Across.{end_beside, end_beyond, mate_of}
use Rattle.edge_model.specs.Clear.{clears_at, clears_by, clears_wire, hears_mac_withdraw, passes_on, tells_at, tells_by, withdrawing_at}
use Rattle.edge_model.specs.declared.effect.Effect.{Effect}
use Rattle.edge_model.specs.declared.end_place.EndPlace.{EndPlace}
use Rattle.edge_model.specs.EndPlaces.{end_places, is_at, is_terminal}
use Rattle.edge_model.specs.Ends.{wire_end}
use Rattle.edge_model.specs.Frame.{copies}
use Rattle.edge_model.specs.Mend.{mends, port_of_wire}
use Rattle.edge_model.specs.Session.{says}
use Rattle.edge_model.specs.Signal.{end_of_fec, hears_mapping, hears_release, hears_status, hears_withdraw, maps_to, releases_label, takes_content, with_end_changed, with_named, with_released}
use Rattle.edge_model.specs.State.{EdgeState, end_at, with_addresses, with_end}
use Rattle.edge_model.specs.Withdraw.{tells_pieces}
use Rattle.edge_model.specs.Work.{Work, changes}
use Rattle.edge_model.proofs.WalkLemmas.{named_alone}
use Rattle.network_model.specs.Absorb.{taken_all}
use Rattle.flight_laws.proofs.MendedRunLemmas.{IsMendedAt}
use Rattle.flight_laws.proofs.PassingLemmas.{wire_end_is}
use Rattle.flight_laws.proofs.PlaceLemmas.{IsEndOf, find_holds, places_are}
use Rattle.flight_laws.proofs.WorksLemmas.{changed_edge}
use Rattle.spelling_laws.proofs.PutLemmas.{changed_effects}
use Rattle.rest_laws.specs.Levels.{Saying, Releases, Clears}
use Rattle.rest_laws.proofs.ClearLemmas.{IsClearing, found_clears, ports_clear, put_mended}
use Rattle.rest_laws.proofs.DueLemmas.{PutsMore}
use Rattle.rest_laws.proofs.PutLemmas.{puts_not, puts_then}
use Rattle.rest_laws.proofs.StillLemmas.{mended_puts_none}
use Rattle.rest_laws.proofs.TakeLemmas.{holds_other, pw_named}
use Rattle.settle_bounds.specs.Worth.{clear_cost, found_cost, may_pass, may_release, mend_cost, port_cost, ports_cost}
use Rattle.settle_bounds.proofs.NearLemmas.{changed_near, release_near, withdraw_near}
use Rattle.settle_bounds.proofs.WalkLemmas.{Costs, Walks, changed_walk, mends_walk, piece_walk, walks_none, walks_not, walks_then, walks_wider}

-- ---- one kind of message at a time

-- what an edge puts on a message: at its ends at most so much, and where it may
pub record Follows (plan : Plan) (me : EdgeId) (may : EndPlace → Saying → Bool) (old new : List Effect) (most : Costs → ℕ) : Type 0 where
  pub walks : Walks plan me old new most
  pub near : PutsMore plan me may old new

module _ (plan : Plan) (checked : IsChecked plan) (me : EdgeId) (q : EndPlace) (q_is : IsEndOf plan me q) (work : Work) (mended : IsMendedAt plan me.0 work.edge) where
  abbrev passes_it : EndPlace → Saying → Bool
  passes_it = may_pass plan me q.wire.0 q.peer.0 q_is.row

  abbrev Goes : (EndPlace → Saying → Bool) → (Costs → ℕ) → Work → Type 0
  Goes may most next = Follows plan me may work.effects (mends plan taken_all next).effects most

  -- a change says nothing, and the edge mends
  change_walk : (change : EdgeState → EdgeState) → (changes change work).edge.me ≡ me → Walks plan me work.effects (mends plan taken_all (changes change work)).effects (mend_cost plan me)
  change_walk change at = subst (λ (es : List Effect). Walks plan me es (mends plan taken_all (changes change work)).effects (mend_cost plan me)) (changed_effects change work) (mends_walk plan me (changes change work) at)

  pub maps : (fec : PwFec) (label : ℕ) (status : Option PwStatus) (points : List Point) → end_of_fec plan work.edge q.peer fec ≡ Some q → takes_content plan work.edge.me q (binding_in fec label status points).told ≡ true
      → Goes passes_it (mend_cost plan me) (hears_mapping plan taken_all q.peer fec label status points work)
  maps fec label status points named takes = record {
    walks = subst (λ (w : Work). Walks plan me work.effects (mends plan taken_all w).effects (mend_cost plan me)) (sym heard_is) (change_walk change bound_me);
    near = subst (λ (w : Work). PutsMore plan me passes_it work.effects (mends plan taken_all w).effects) (sym heard_is)
        (changed_near plan checked me q q_is (bound binding (end_at work.edge q)) change work mended refl refl);
  }
    where
      binding : Binding
      binding = binding_in fec label status points

      change : EdgeState → EdgeState
      change = with_end_changed (bound binding) (Some q)

      bound_me : (changes change work).edge.me ≡ me
      bound_me = ap (λ (e : EdgeState). e.me) (changed_edge change work) ∙ ((holds_other q (bound binding (end_at work.edge q)) work.edge refl).me ∙ mended.me)

      heard_is : hears_mapping plan taken_all q.peer fec label status points work ≡ changes change work
      heard_is = ap (λ (o : Option EndPlace). maps_to plan taken_all q.peer fec binding o work) named ∙ taken (takes_content plan work.edge.me q binding.told) takes where
        taken : (b : Bool) → b ≡ true → cond b (changes (with_end_changed (bound binding) (Some q)) work)
            (releases_label taken_all q.peer fec (Some binding.label) (changes (with_end_changed (unbound None) (Some q)) work)) ≡ changes (with_end_changed (bound binding) (Some q)) work
        taken b e = rw e refl

  named_edge : (fec : PwFec) (one all : Rattle.pw_signalling.specs.End.EndState → Rattle.pw_signalling.specs.End.EndState) → end_of_fec plan work.edge q.peer fec ≡ Some q
      → (changes (with_named plan q.peer fec one all fec.pw_id) work).edge ≡ with_end q (one (end_at work.edge q)) work.edge
  named_edge fec one all named = changed_edge (with_named plan q.peer fec one all fec.pw_id) work ∙ named_alone plan q.peer fec q one all work.edge named

  pub withdraws : (fec : PwFec) (label : Option ℕ) → end_of_fec plan work.edge q.peer fec ≡ Some q
      → Goes passes_it (λ cost. cost q Releases + mend_cost plan me cost) (hears_withdraw plan taken_all q.peer fec label work)
  withdraws fec label named = record {
    walks = walks_then plan me work.effects next.effects (mends plan taken_all next).effects (λ cost. cost q Releases) (mend_cost plan me)
        (changed_walk plan me change q (release fec label) Releases work q_is (λ id. refl) (λ id. pw_named plan work.edge.me q.peer q fec.pw_id named)) (mends_walk plan me next next_me);
    near = withdraw_near plan checked me q q_is fec label work mended named;
  }
    where
      change : EdgeState → EdgeState
      change = with_named plan q.peer fec (unbound label) (group_unbound fec.group) fec.pw_id

      begun : Work
      begun = changes change work

      next : Work
      next = (says taken_all q.peer (release fec label) begun).work

      next_me : next.edge.me ≡ me
      next_me = (Rattle.rest_laws.proofs.PutLemmas.says_puts plan me (λ p s. true) q (release fec label) Releases begun q_is (λ id. refl) (λ id. pw_named plan work.edge.me q.peer q fec.pw_id named) refl).put.me
          ∙ (ap (λ (e : EdgeState). e.me) (named_edge fec (unbound label) (group_unbound fec.group) named) ∙ ((holds_other q (unbound label (end_at work.edge q)) work.edge refl).me ∙ mended.me))

  releasing_me : (label : Option ℕ) (edge : EdgeState) → (Rattle.edge_model.specs.Labels.releasing label q edge).me ≡ edge.me
  unfolding Rattle.edge_model.specs.State.with_kept with_end
  releasing_me label edge = refl

  pub releases : (fec : PwFec) (label : Option ℕ) → end_of_fec plan work.edge q.peer fec ≡ Some q
      → Goes (may_release plan me q.wire.0 q.peer.0 q_is.row) (mend_cost plan me) (hears_release plan q.peer fec label work)
  releases fec label named = record {
    walks = change_walk change (ap (λ (e : EdgeState). e.me) (changed_edge change work ∙ ap (λ (o : Option EndPlace). with_released label o work.edge) named) ∙ (releasing_me label work.edge ∙ mended.me));
    near = release_near plan checked me q q_is fec label work mended named;
  }
    where
      change : EdgeState → EdgeState
      change edge = with_released label (end_of_fec plan edge q.peer fec) edge

  -- nothing changes
  none : (most : Costs → ℕ) → Goes passes_it most work
  none most = record {
    walks = walks_none plan me work.effects (mends plan taken_all work).effects most (mended_puts_none plan me (λ p s. false) work mended);
    near = mended_puts_none plan me passes_it work mended;
  }

  states_it : (fec : PwFec) (status : PwStatus) → end_of_fec plan work.edge q.peer fec ≡ Some q
      → Goes passes_it (mend_cost plan me) (changes (with_named plan q.peer fec (stated status) (group_stated fec.group status) fec.pw_id) work)
  states_it fec status named = record {
    walks = change_walk change (ap (λ (e : EdgeState). e.me) (changed_edge change work ∙ edge_is) ∙ ((holds_other q end work.edge refl).me ∙ mended.me));
    near = changed_near plan checked me q q_is end change work mended refl edge_is;
  }
    where
      end : Rattle.pw_signalling.specs.End.EndState
      end = stated status (end_at work.edge q)

      change : EdgeState → EdgeState
      change = with_named plan q.peer fec (stated status) (group_stated fec.group status) fec.pw_id

      edge_is : change work.edge ≡ with_end q end work.edge
      edge_is = named_alone plan q.peer fec q (stated status) (group_stated fec.group status) work.edge named

  pub states : (code : StatusCode) (status : Option PwStatus) (fec : PwFec) → end_of_fec plan work.edge q.peer fec ≡ Some q
      → Goes passes_it (mend_cost plan me) (hears_status plan q.peer code status (Some fec) work)
  states code None fec named = none (mend_cost plan me)
  states code (Some status) fec named = by (nat_eq code.code pw_status_code) where
    by : (b : Bool) → Goes passes_it (mend_cost plan me) (cond b (changes (with_named plan q.peer fec (stated status) (group_stated fec.group status) fec.pw_id) work) work)
    by true = states_it fec status named
    by false = none (mend_cost plan me)

  -- ---- a withdrawal of addresses

  module _ (addresses : List Mac) (few : length (pieces_of addresses) ≤ 1) where
    abbrev may : EndPlace → Saying → Bool
    may place saying = true

    pieces_walk : (place : EndPlace) → IsEndOf plan me place → (ps : List (List Mac)) → length ps ≤ 1 → (w : Work)
        → Walks plan me w.effects (tells_pieces taken_all place ps w).effects (λ cost. cost place Clears)
    pieces_walk place here [] short w = walks_not plan me w.effects (λ cost. cost place Clears)
    pieces_walk place here (piece ∷ []) short w = (piece_walk plan me place piece w here).0
    pieces_walk place here (piece ∷ next ∷ ps) short w = absurd (two (length ps) short) where
      two : (n : ℕ) → suc (suc n) ≤ 1 → ⊥
      two n le = omega (arith, le)

    found_walk : (found : Option EndPlace) → ((place : EndPlace) → found ≡ Some place → IsEndOf plan me place) → (w : Work)
        → Walks plan me w.effects (tells_by taken_all addresses found w).effects (λ cost. found_cost cost found)
    found_walk None each w = walks_not plan me w.effects (λ cost. 0)
    found_walk (Some place) each w = pieces_walk place (each place refl) (pieces_of addresses) few w

    wire_walk : (wire : WireId) (w : Work) → w.edge.me ≡ me → Walks plan me w.effects (tells_by taken_all addresses (wire_end plan w.edge.me wire) w).effects (λ cost. found_cost cost (wire_end plan me wire))
    wire_walk wire w at = subst (λ (k : EdgeId). Walks plan me w.effects (tells_by taken_all addresses (wire_end plan k wire) w).effects (λ cost. found_cost cost (wire_end plan me wire))) (sym at)
        (found_walk (wire_end plan me wire) (λ place is. wire_end_is plan me wire place is) w)

    port_walk : (x : Port) (w : Work) → w.edge.me ≡ me → Walks plan me w.effects (tells_at plan taken_all addresses x w).effects (λ cost. port_cost plan me cost x)
    port_walk (port.Circuit circuit) w at = walks_not plan me w.effects (λ cost. 0)
    port_walk (port.Mesh wire) w at = wire_walk wire w at
    port_walk (port.Spoke wire) w at = wire_walk wire w at

    -- what is kept meanwhile
    abbrev Clearing : Work → Work → Type 0
    Clearing first w = (at : first.edge.me ≡ me) → IsClearing plan me may first at addresses w

    one_clears : (x : Port) → Rattle.rest_laws.proofs.ClearLemmas.MayBy plan me may work mended.me addresses x
    one_clears (port.Circuit circuit) = tt
    one_clears (port.Mesh wire) = λ place is. refl
    one_clears (port.Spoke wire) = λ place is. refl

    abbrev Clear : Work → Type 0
    Clear w = IsClearing plan me may work mended.me addresses w

    ports_walk : (targets : ℕ → Bool) (p : ℕ) (xs : List Port) (w : Work) → Clear w
        → Walks plan me w.effects (copies targets (tells_at plan taken_all addresses) p xs w).effects (λ cost. ports_cost plan me cost xs)
    ports_walk targets p [] w now = walks_not plan me w.effects (λ cost. 0)
    ports_walk targets p (x ∷ xs) w now =
        walks_then plan me w.effects next.effects (copies targets (tells_at plan taken_all addresses) (p + 1) xs next).effects (λ cost. port_cost plan me cost x) (λ cost. ports_cost plan me cost xs)
        (by (targets p)) (ports_walk targets (p + 1) xs next (kept (targets p)))
      where
        next : Work
        next = cond (targets p) (tells_at plan taken_all addresses x w) w

        by : (b : Bool) → Walks plan me w.effects (cond b (tells_at plan taken_all addresses x w) w).effects (λ cost. port_cost plan me cost x)
        by true = port_walk x w (now.put.me ∙ mended.me)
        by false = walks_not plan me w.effects (λ cost. port_cost plan me cost x)

        kept : (b : Bool) → Clear (cond b (tells_at plan taken_all addresses x w) w)
        kept true = ports_clear plan me may work mended.me addresses (λ k. true) 0 (x ∷ []) (λ k y at is. one_clears y) w now
        kept false = now

    begins : Clear work
    begins = record {
      put = record { me = refl; wires = refl; bits = refl; ends = refl; ups = λ k. refl; labels = refl; chosen = refl; priorities = refl };
      puts = puts_not plan me may work.effects;
    }

    forgets : (service : ServiceId) (from : ℕ) → Clear (changes (withdrawing_at service addresses from) work)
    unfolding changes with_addresses
    forgets service from = record {
      put = record { me = refl; wires = refl; bits = refl; ends = refl; ups = λ k. refl; labels = refl; chosen = refl; priorities = refl };
      puts = puts_not plan me may work.effects;
    }

    abbrev Passes : Work → Type 0
    Passes w = Walks plan me work.effects w.effects (λ cost. clear_cost plan me cost q q_is.row) × Clear w

    stays_so : Passes work
    stays_so = (walks_not plan me work.effects (λ cost. clear_cost plan me cost q q_is.row), begins)

    terminal_cost : is_terminal q_is.row me ≡ true → (cost : Costs) → ports_cost plan me cost (ports_of plan q_is.row.service me) ≤ clear_cost plan me cost q q_is.row
    terminal_cost terminal cost = same (ports_cost plan me cost (ports_of plan q_is.row.service me)) (clear_cost plan me cost q q_is.row)
        (sym (ap (λ (b : Bool). cond b (ports_cost plan me cost (ports_of plan q_is.row.service me)) (found_cost cost (end_beside plan me q.wire (mate_on q_is.row.path me.0 q.peer.0)))) terminal))
      where
        same : (a b : ℕ) → a ≡ b → a ≤ b
        same a b is = omega (arith, is)

    passes : is_terminal q_is.row me ≡ true → (from : ℕ) → Passes (passes_on plan taken_all addresses q_is.row.service from (roles.role_of plan q_is.row.service work.edge.me) (changes (withdrawing_at q_is.row.service addresses from) work))
    passes terminal from = by_role (roles.role_of plan q_is.row.service work.edge.me) where
      service : ServiceId
      service = q_is.row.service

      begun : Work
      begun = changes (withdrawing_at service addresses from) work

      quiet : Passes begun
      quiet = (
        subst (λ (es : List Effect). Walks plan me es begun.effects (λ cost. clear_cost plan me cost q q_is.row)) (changed_effects (withdrawing_at service addresses from) work)
            (walks_not plan me begun.effects (λ cost. clear_cost plan me cost q q_is.row)),
        forgets service from,
      )

      begun_me : begun.edge.me ≡ me
      begun_me = (forgets service from).put.me ∙ mended.me

      goes : (r : Role) → Passes (copies (is_passed_to r (ports_of plan service me) from) (tells_at plan taken_all addresses) 0 (ports_of plan service me) begun)
      goes r = (
        subst (λ (es : List Effect). Walks plan me es (copies (is_passed_to r (ports_of plan service me) from) (tells_at plan taken_all addresses) 0 (ports_of plan service me) begun).effects (λ cost. clear_cost plan me cost q q_is.row))
            (changed_effects (withdrawing_at service addresses from) work)
            (walks_wider plan me begun.effects (copies (is_passed_to r (ports_of plan service me) from) (tells_at plan taken_all addresses) 0 (ports_of plan service me) begun).effects
            (λ cost. ports_cost plan me cost (ports_of plan service me)) (λ cost. clear_cost plan me cost q q_is.row) (terminal_cost terminal)
            (ports_walk (is_passed_to r (ports_of plan service me) from) 0 (ports_of plan service me) begun (forgets service from))),
        ports_clear plan me may work mended.me addresses (is_passed_to r (ports_of plan service me) from) 0 (ports_of plan service me) (λ k y at is. one_clears y) begun (forgets service from),
      )

      by_role : (r : Option Role) → Passes (passes_on plan taken_all addresses service from r begun)
      by_role None = quiet
      by_role (Some r) = subst (λ (k : EdgeId). Passes (copies (is_passed_to r (ports_of plan service k) from) (tells_at plan taken_all addresses) 0 (ports_of plan service k) begun)) (sym begun_me) (goes r)

    at_port : is_terminal q_is.row me ≡ true → (from : Option ℕ) → Passes (clears_at plan taken_all addresses q_is.row.service from work)
    at_port terminal None = stays_so
    at_port terminal (Some from) = passes terminal from

    cleared : Passes (clears_by plan taken_all addresses (Some q) work)
    cleared = by q.terminal refl where
      beyond : Option EndPlace
      beyond = end_beside plan me q.wire (mate_on q_is.row.path me.0 q.peer.0)

      beyond_is : end_beyond plan work.edge.me q ≡ beyond
      beyond_is = ap (λ (k : EdgeId). end_beyond plan k q) mended.me ∙ ap (λ (o : Option WirePlan). end_beside plan me q.wire (mate_of me q o)) q_is.is

      ends_there : (peer : Option EdgeId) → (place : EndPlace) → end_beside plan me q.wire peer ≡ Some place → IsEndOf plan me place
      ends_there None place is = absurd (cc (is))
      ends_there (Some to) place is = (find_holds (IsEndOf plan me) (is_at q.wire.0 to.0) (end_places plan me) place (places_are plan me) is).holds

      switching_cost : is_terminal q_is.row me ≡ false → (cost : Costs) → found_cost cost beyond ≤ clear_cost plan me cost q q_is.row
      switching_cost switching cost = same (found_cost cost beyond) (clear_cost plan me cost q q_is.row)
          (sym (ap (λ (b : Bool). cond b (ports_cost plan me cost (ports_of plan q_is.row.service me)) (found_cost cost beyond)) switching))
        where
          same : (a b : ℕ) → a ≡ b → a ≤ b
          same a b is = omega (arith, is)

      by : (t : Bool) → q.terminal ≡ t → Passes (cond t (clears_wire plan taken_all addresses q (wire_row plan q.wire) work) (tells_by taken_all addresses (end_beyond plan work.edge.me q) work))
      by true terminal = subst (λ (o : Option WirePlan). Passes (clears_wire plan taken_all addresses q o work)) (sym q_is.is)
          (at_port (sym q_is.terminal ∙ terminal) (port_of_wire plan work.edge q.wire q_is.row))
      by false switching = subst (λ (o : Option EndPlace). Passes (tells_by taken_all addresses o work)) (sym beyond_is) (
        walks_wider plan me work.effects (tells_by taken_all addresses beyond work).effects (λ cost. found_cost cost beyond) (λ cost. clear_cost plan me cost q q_is.row) (switching_cost (sym q_is.terminal ∙ switching))
            (found_walk beyond (λ place is. ends_there (mate_on q_is.row.path me.0 q.peer.0) place is) work),
        found_clears plan me may work mended.me addresses beyond (λ place is. (ends_there (mate_on q_is.row.path me.0 q.peer.0) place is, refl)) work begins,
      )

    pub clears_it : (fec : PwFec) → end_of_fec plan work.edge q.peer fec ≡ Some q → Goes may (λ cost. clear_cost plan me cost q q_is.row) (hears_mac_withdraw plan taken_all q.peer (Some fec) (Some addresses) work)
    clears_it fec named = subst (Goes may (λ cost. clear_cost plan me cost q q_is.row)) (sym (ap (λ (o : Option EndPlace). clears_by plan taken_all addresses o work) named)) (record {
      walks = walks_wider plan me work.effects (mends plan taken_all heard).effects (λ cost. clear_cost plan me cost q q_is.row + 0) (λ cost. clear_cost plan me cost q q_is.row) (λ cost. no_more (clear_cost plan me cost q q_is.row))
          (walks_then plan me work.effects heard.effects (mends plan taken_all heard).effects (λ cost. clear_cost plan me cost q q_is.row) (λ cost. 0) cleared.0
          (walks_none plan me heard.effects (mends plan taken_all heard).effects (λ cost. 0) (mended_puts_none plan me (λ p s. false) heard mended_still)));
      near = puts_then plan me may work.effects heard.effects (mends plan taken_all heard).effects cleared.1.puts (mended_puts_none plan me may heard mended_still);
    })
      where
        heard : Work
        heard = clears_by plan taken_all addresses (Some q) work

        mended_still : IsMendedAt plan me.0 heard.edge
        mended_still = put_mended plan me work.edge heard.edge cleared.1.put mended

        no_more : (n : ℕ) → n + 0 ≤ n
        no_more n = omega arith
