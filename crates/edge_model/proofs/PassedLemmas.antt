-- By which wires a withdrawal of addresses goes on.
use Rattle.std.proofs.Common.{◌≡◌, ◌+◌, ◌++◌, ◌==◌, ◌&&◌, ◌∙◌, ℕ, zero, suc, Bool, true, false, not, List, [], ◌∷◌, Option, Some, None, cond, nat_eq, slice_get, option_map, append_assoc, append-nil, refl, sym, ap, subst, inl, inr, arith}
use Rattle.std.specs.List.{AllByRecursion}
use Rattle.std.proofs.lemmas.Bool.{and_parts, cases_Bool, eqb-true}
use Rattle.net_base.specs.declared.plan.Plan.{Plan}
use Rattle.net_base.specs.declared.plan.places.EdgeId.{EdgeId}
use Rattle.net_base.specs.declared.plan.places.ServiceId.{ServiceId}
use Rattle.net_base.specs.declared.plan.places.WireId.{WireId}
use Rattle.net_base.specs.declared.plan.wire_plan.WirePlan.{WirePlan}
use Rattle.net_base.specs.declared.trace.state_name.Reason.TheVariants as reason
use Rattle.net_base.specs.declared.trace.state_name.StateName.TheVariants as name
use Rattle.net_base.specs.plan.Places.{wire_row}
use Rattle.net_values.specs.declared.mac.Mac.{Mac}
use Rattle.net_values.proofs.NumberLemmas.{same_number, add_zero, from_none}
use Rattle.net_values.proofs.RowLemmas.{all-append}
use Rattle.pw_messages.specs.Content.{mac_withdrawal}
use Rattle.pw_messages.specs.LinkAnswers.{Answers}
use Rattle.pw_messages.specs.Sender.{platform_of}
use Rattle.hvpls_spokes.specs.declared.edge_role.Role.{Role}
use Rattle.hvpls_spokes.specs.declared.edge_role.Role.TheVariants as role
use Rattle.hvpls_spokes.specs.declared.port.Port.{Port}
use Rattle.hvpls_spokes.specs.declared.port.Port.TheVariants as port
use Rattle.hvpls_spokes.specs.Port.{is_mesh, is_mesh_port, is_wire_port, ports_of, is_wire}
use Rattle.ldp_grammar.specs.declared.message.Message.{Message}
use Rattle.ldp_grammar.specs.Written.{written}
use Rattle.mac_withdraw.specs.Passing.{is_passed_to}
use Rattle.mac_withdraw.specs.Pieces.{pieces_of}
use Rattle.pw_signalling.specs.declared.told.Told.{Told}
use Rattle.pw_signalling.specs.End.{EndState, LocalPart, Idle, Advertised, Withdrawing}
use Rattle.pw_tlvs.specs.declared.pw_fec.PwFec.{PwFec}
use Rattle.session_core.specs.declared.peers.Peers.{Peers}
use Rattle.edge_model.specs.Clear.{clears_at, clears_by, clears_wire, hears_mac_withdraw, passes_on, tells_at, tells_by, withdrawing_at}
use Rattle.edge_model.specs.declared.effect.Effect.{Effect}
use Rattle.edge_model.specs.declared.effect.Effect.TheVariants.{Said, Session, Closed}
use Rattle.edge_model.specs.declared.end_place.EndPlace.{EndPlace}
use Rattle.edge_model.specs.Ends.{wire_end}
use Rattle.edge_model.specs.Frame.{copies}
use Rattle.edge_model.specs.Passed.{ComesToCore, GivesMore, GoesOnBy, IsOfPassing, MayGoOnBy, WasTold, WithdrawalsGoOn, piece_octets}
use Rattle.edge_model.specs.Put.{Spoken, having_spoken, message_octets_of, put_octets, stays, with_spoken}
use Rattle.edge_model.specs.Session.{ends, had_said, says, says_to, losing_ends}
use Rattle.edge_model.specs.State.{EdgeState, Peering, end_at, has_end, is_there, with_addresses, with_ends_beside, with_peering, with_kept}
use Rattle.edge_model.specs.Withdraw.{tells_piece, tells_piece_by, tells_pieces}
use Rattle.edge_model.specs.Work.{Work, changes, gives, next_answer, puts}
use Rattle.edge_model.proofs.AgainLemmas.{refused, refused_keeps}
use Rattle.edge_model.proofs.MendLemmas.{says_nothing, says_taken}
use Rattle.edge_model.proofs.PlaceLemmas.{all-map}
use Rattle.edge_model.proofs.SessionLemmas.{IsBesides, says_works}
use Rattle.edge_model.proofs.SyncLemmas.{wire_end_is}
use Rattle.edge_model.specs.Across.{end_beyond}

-- ---- a session that stands stood before

-- with the same peers, and the ends beside its peer are as they were
record Stood (old new : EdgeState) (k : ℕ) (kept : Peering) : Type 0 where
  before : Peering
  is : old.peering k ≡ Some before
  peers : kept.session.peers ≡ before.session.peers
  ends : (wire : ℕ) → new.ends wire k ≡ old.ends wire k

-- the edge is the same one, and so it is with each session
record Since (old new : EdgeState) : Type 0 where
  me : new.me ≡ old.me
  stood : (k : ℕ) (kept : Peering) → new.peering k ≡ Some kept → Stood old new k kept

since_not : (edge : EdgeState) → Since edge edge
since_not edge = record { me = refl; stood = λ k kept is. record { before = kept; is = is; peers = refl; ends = λ wire. refl } }

since_then : (a b c : EdgeState) → Since a b → Since b c → Since a c
since_then a b c first next = record {
  me = next.me ∙ first.me;
  stood = λ k kept is.
      let last : Stood b c k kept = next.stood k kept is in
      let before : Stood a b k last.before = first.stood k last.before last.is in
      record { before = before.before; is = before.is; peers = last.peers ∙ before.peers; ends = λ wire. last.ends wire ∙ before.ends wire };
}

-- ---- a message is put

-- nothing is put where no session stands, the link takes the message, or the session ends
data Saying (told : Answers) (peer : EdgeId) (message : ℕ → Message) (work : Work) : Type 0 where
  Quiet : work.edge.peering peer.0 ≡ None → says told peer message work ≡ stays work → Saying told peer message work
  Taken : (kept : Peering) → work.edge.peering peer.0 ≡ Some kept → says told peer message work ≡ put_octets peer (message_octets_of kept message) true work → Saying told peer message work
  Refused : (bytes : List ℕ) → says told peer message work ≡ record { work = refused peer bytes work; failed = true } → Saying told peer message work

saying : (told : Answers) (peer : EdgeId) (message : ℕ → Message) (work : Work) → Saying told peer message work
saying told peer message work = by (work.edge.peering peer.0) refl where
  by : (kept : Option Peering) → work.edge.peering peer.0 ≡ kept → Saying told peer message work
  by None is = Quiet is (says_nothing told peer message work is)
  by (Some kept) is = taken (next_answer told work) refl where
    taken : (b : Bool) → next_answer told work ≡ b → Saying told peer message work
    taken true takes = Taken kept is (says_taken told peer message kept work takes is)
    taken false takes =
        Refused (message_octets_of kept message)
        (ap (λ (o : Option Peering). says_to told peer message o work) is ∙ ap (λ (b : Bool). had_said peer (put_octets peer (message_octets_of kept message) b work)) takes)

refused_gone : (peer : EdgeId) (bytes : List ℕ) (work : Work) → (refused peer bytes work).edge.peering peer.0 ≡ None
unfolding with_peering
refused_gone peer bytes work =
    ap (λ (peering : ℕ → Option Peering). peering peer.0) (refused_keeps peer bytes work)
    ∙ ap (λ (b : Bool). cond b None (work.edge.peering peer.0)) (same_number peer.0)

spoken_is : (peer : EdgeId) (bytes : List ℕ) (kept : Peering) (work : Work) → work.edge.peering peer.0 ≡ Some kept
    → (put_octets peer bytes true work).work.edge.peering peer.0 ≡ Some (having_spoken kept)
unfolding changes gives puts with_peering with_spoken
spoken_is peer bytes kept work is =
    ap (λ (b : Bool). cond b (option_map having_spoken (work.edge.peering peer.0)) (work.edge.peering peer.0)) (same_number peer.0) ∙ ap (option_map having_spoken) is

put_ends : (peer : EdgeId) (bytes : List ℕ) (work : Work) → (put_octets peer bytes true work).work.edge.ends ≡ work.edge.ends
unfolding changes gives puts with_peering with_spoken
put_ends peer bytes work = refl

says_since : (told : Answers) (peer : EdgeId) (message : ℕ → Message) (work : Work) → Since work.edge (says told peer message work).work.edge
says_since told peer message work = record { me = besides.me; stood = λ k kept is. by k kept is (nat_eq k peer.0) refl } where
  next : EdgeState
  next = (says told peer message work).work.edge

  besides : IsBesides (λ k. nat_eq k peer.0) work.edge next
  besides = (says_works told (λ k. nat_eq k peer.0) peer message work (same_number peer.0)).edge

  at_peer : (kept : Peering) → next.peering peer.0 ≡ Some kept → Saying told peer message work → Stood work.edge next peer.0 kept
  at_peer kept is (Quiet none all) =
      subst (λ (edge : EdgeState). (edge.peering peer.0 ≡ Some kept) → Stood work.edge edge peer.0 kept) (sym (ap (λ (s : Spoken). s.work.edge) all))
      (λ there. record { before = kept; is = there; peers = refl; ends = λ wire. refl }) is
  at_peer kept is (Taken old there all) =
      let spoken : EdgeState = (put_octets peer (message_octets_of old message) true work).work.edge in
      subst (λ (edge : EdgeState). (edge.peering peer.0 ≡ Some kept) → Stood work.edge edge peer.0 kept) (sym (ap (λ (s : Spoken). s.work.edge) all))
      (λ now.
      let equal : Some kept ≡ Some (having_spoken old) = sym now ∙ spoken_is peer (message_octets_of old message) old work there in
      record {
        before = old;
        is = there;
        peers = of kept old equal;
        ends = λ wire. ap (λ (ends : ℕ → ℕ → EndState). ends wire peer.0) (put_ends peer (message_octets_of old message) work);
      }) is
    where
      of : (kept old : Peering) → Some kept ≡ Some (having_spoken old) → kept.session.peers ≡ old.session.peers
      of kept old equal = let inside : kept ≡ having_spoken old = cc (equal) in ap (λ (k : Peering). k.session.peers) inside
  at_peer kept is (Refused bytes all) =
      let none : next.peering peer.0 ≡ None = ap (λ (s : Spoken). s.work.edge.peering peer.0) all ∙ refused_gone peer bytes work in
      let wrong : Some kept ≡ None = sym is ∙ none in
      absurd (cc (wrong))

  by : (k : ℕ) (kept : Peering) → next.peering k ≡ Some kept → (b : Bool) → nat_eq k peer.0 ≡ b → Stood work.edge next k kept
  by k kept is true here =
      subst (λ (j : ℕ). (next.peering j ≡ Some kept) → Stood work.edge next j kept) (sym (eqb-true k peer.0 here)) (λ now. at_peer kept now (saying told peer message work)) is
  by k kept is false away = record { before = kept; is = sym (besides.others k away) ∙ is; peers = refl; ends = λ wire. besides.ends wire k away }

refused_tells : (peer : EdgeId) (bytes : List ℕ) (work : Work) → (refused peer bytes work).effects ≡ work.effects ++ (Session peer (name.Ended reason.LinkFault) ∷ Closed peer ∷ [])
unfolding changes gives puts with_ends_beside with_kept
refused_tells peer bytes work = by (has_end (ends peer reason.LinkFault (puts peer bytes false work)).edge peer) ∙ append_assoc work.effects (Session peer (name.Ended reason.LinkFault) ∷ []) (Closed peer ∷ []) where
  ended : Work
  ended = ends peer reason.LinkFault (puts peer bytes false work)

  by : (b : Bool) → (cond b ended (changes (losing_ends peer) ended)).effects ≡ ended.effects
  by true = refl
  by false = refl

-- the end that is found of a wire is one of that wire
end_wire : (plan : Plan) (me : EdgeId) (wire : WireId) (place : EndPlace) → wire_end plan me wire ≡ Some place → place.wire.0 ≡ wire.0
end_wire plan me wire place found = eqb-true place.wire.0 wire.0 (of place.wire.0 (wire_end_is plan me wire place found)) where
  of : (n : ℕ) → nat_eq n wire.0 && place.terminal ≡ true → nat_eq n wire.0 ≡ true
  of n is = (and_parts (nat_eq n wire.0) place.terminal is).0

-- ---- what is given out

told_none : {So : List Effect → Type 0} (es : List Effect) → So [] → GivesMore es es So
told_none es so = record { more = []; given = sym (append-nil es); so = so }

was_told_more : (place : EndPlace) (content : Told) (kept : Peering) (front es back : List Effect) (piece : List Mac) → WasTold place content kept es piece
    → WasTold place content kept (front ++ (es ++ back)) piece
was_told_more place content kept front es back piece told = record {
  before = front ++ told.before;
  after = told.after ++ back;
  id = told.id;
  split =
      let said : Effect = Said place.peer (piece_octets place content kept piece told.id) in
      ap (λ (l : List Effect). front ++ (l ++ back)) told.split
      ∙ (ap (λ (l : List Effect). front ++ l) (append_assoc told.before (said ∷ told.after) back) ∙ sym (append_assoc front told.before (said ∷ (told.after ++ back))));
}

module _ (plan : Plan) (first : EdgeState) (service : ServiceId) (from : ℕ) (addresses : List Mac) (told : Answers) where
  -- sessions stood, and what is given out is of the passing
  record Passes (old new : Work) : Type 0 where
    since : Since old.edge new.edge
    alone : GivesMore old.effects new.effects (AllByRecursion (IsOfPassing plan first service from (pieces_of addresses)))

  passes_not : (work : Work) → Passes work work
  passes_not work = record { since = since_not work.edge; alone = told_none work.effects tt }

  passes_then : (a b c : Work) → Passes a b → Passes b c → Passes a c
  passes_then a b c one next = record {
    since = since_then a.edge b.edge c.edge one.since next.since;
    alone = record {
      more = one.alone.more ++ next.alone.more;
      given = next.alone.given ∙ (ap (λ (l : List Effect). l ++ next.alone.more) one.alone.given ∙ append_assoc a.effects one.alone.more next.alone.more);
      so = all-append (IsOfPassing plan first service from (pieces_of addresses)) one.alone.more next.alone.more one.alone.so next.alone.so;
    };
  }

  -- a piece is told by an end by which the withdrawal may go on
  said_passes : (place : EndPlace) → MayGoOnBy plan first service from place → (before : List (List Mac)) (piece : List Mac) (after : List (List Mac)) → pieces_of addresses ≡ before ++ piece ∷ after
      → (work : Work) → Since first work.edge → (label : ℕ) (content : Told) → (end_at work.edge place).local ≡ Advertised label content
      → Passes work (says told place.peer (mac_withdrawal place.pw_id piece content) work).work
  unfolding changes gives puts
  said_passes place may before piece after among work since label content local =
      record { since = says_since told place.peer message work; alone = of (saying told place.peer message work) }
    where
      message : ℕ → Message
      message = mac_withdrawal place.pw_id piece content

      IsIt : List Effect → Type 0
      IsIt es = AllByRecursion (IsOfPassing plan first service from (pieces_of addresses)) es

      at_work : (new : Work) → (says told place.peer message work).work ≡ new → GivesMore work.effects new.effects IsIt → GivesMore work.effects (says told place.peer message work).work.effects IsIt
      at_work new is tells = subst (λ (w : Work). GivesMore work.effects w.effects IsIt) (sym is) tells

      of : Saying told place.peer message work → GivesMore work.effects (says told place.peer message work).work.effects IsIt
      of (Quiet none all) = at_work work (ap (λ (s : Spoken). s.work) all) (told_none work.effects tt)
      of (Taken kept is all) =
          let stood : Stood first work.edge place.peer.0 kept = since.stood place.peer.0 kept is in
          at_work (put_octets place.peer (message_octets_of kept message) true work).work (ap (λ (s : Spoken). s.work) all)
          (record {
            more = Said place.peer (message_octets_of kept message) ∷ [];
            given = refl;
            so = (
              record {
                place = place;
                content = content;
                kept = stood.before;
                by = record { may = may; label = label; advertises = ap (λ (e : EndState). e.local) (sym (stood.ends place.wire.0)) ∙ local; stands = stood.is };
                same_peer = refl;
                before = before;
                piece = piece;
                after = after;
                among = among;
                id = kept.next_id;
                are = ap (λ (peers : Peers). written (message kept.next_id) (platform_of peers.me)) stood.peers;
              },
              tt,
            );
          })
      of (Refused bytes all) =
          at_work (refused place.peer bytes work) (ap (λ (s : Spoken). s.work) all)
          (record { more = Session place.peer (name.Ended reason.LinkFault) ∷ Closed place.peer ∷ []; given = refused_tells place.peer bytes work; so = (refl, (tt, tt)) })

  piece_passes : (place : EndPlace) → MayGoOnBy plan first service from place → (before : List (List Mac)) (piece : List Mac) (after : List (List Mac)) → pieces_of addresses ≡ before ++ piece ∷ after
      → (work : Work) → Since first work.edge → Passes work (tells_piece told place piece work).work
  piece_passes place may before piece after among work since = of (end_at work.edge place).local refl where
    of : (local : LocalPart) → (end_at work.edge place).local ≡ local → Passes work (tells_piece_by told place piece local work).work
    of (Idle declined) is = passes_not work
    of (Advertised label content) is = said_passes place may before piece after among work since label content is
    of (Withdrawing label) is = passes_not work

  pieces_pass : (place : EndPlace) → MayGoOnBy plan first service from place → (before pieces : List (List Mac)) → pieces_of addresses ≡ before ++ pieces
      → (work : Work) → Since first work.edge → Passes work (tells_pieces told place pieces work)
  pieces_pass place may before [] among work since = passes_not work
  pieces_pass place may before (piece ∷ pieces) among work since =
      let next : Work = (tells_piece told place piece work).work in
      let one : Passes work next = piece_passes place may before piece pieces among work since in
      passes_then work next (tells_pieces told place pieces next) one
      (pieces_pass place may (before ++ piece ∷ []) pieces (among ∙ sym (append_assoc before (piece ∷ []) pieces)) next (since_then first work.edge next.edge since one.since))

  -- ---- each port in turn

  abbrev ports : List Port
  ports = ports_of plan service first.me

  abbrev targets : ℕ → Bool
  targets = is_passed_to role.Core ports from

  -- the end of a wire at a port by which the withdrawal may go on
  may_by : (p : ℕ) (x : Port) (wire : WireId) (place : EndPlace) → slice_get ports p ≡ Some x → ((w : WireId) → is_wire_port w x ≡ nat_eq wire.0 w.0) → targets p ≡ true
      → wire_end plan first.me wire ≡ Some place
      → MayGoOnBy plan first service from place
  may_by p x wire place at leads passed here =
      let w : place.wire.0 ≡ wire.0 = end_wire plan first.me wire place here in
      record {
        p = p;
        x = x;
        at = at;
        to_wire = leads place.wire ∙ (ap (nat_eq wire.0) w ∙ same_number wire.0);
        passed = passed;
        here = ap (λ (n : ℕ). wire_end plan first.me (record { 0 = n })) w ∙ here;
      }

  tells_by_passes : (p : ℕ) (x : Port) (wire : WireId) → slice_get ports p ≡ Some x → ((w : WireId) → is_wire_port w x ≡ nat_eq wire.0 w.0) → targets p ≡ true
      → (work : Work) → Since first work.edge → Passes work (tells_by told addresses (wire_end plan work.edge.me wire) work)
  tells_by_passes p x wire at leads passed work since = of (wire_end plan work.edge.me wire) refl where
    of : (place : Option EndPlace) → wire_end plan work.edge.me wire ≡ place → Passes work (tells_by told addresses place work)
    of None is = passes_not work
    of (Some place) is =
        pieces_pass place (may_by p x wire place at leads passed (ap (λ (me : EdgeId). wire_end plan me wire) (sym since.me) ∙ is)) [] (pieces_of addresses) refl work since

  port_passes : (p : ℕ) (x : Port) → slice_get ports p ≡ Some x → targets p ≡ true → (work : Work) → Since first work.edge → Passes work (tells_at plan told addresses x work)
  port_passes p (port.Circuit circuit) at passed work since = passes_not work
  port_passes p (port.Mesh wire) at passed work since = tells_by_passes p (port.Mesh wire) wire at (λ w. refl) passed work since
  port_passes p (port.Spoke wire) at passed work since = tells_by_passes p (port.Spoke wire) wire at (λ w. refl) passed work since

  one_port : (p : ℕ) (x : Port) → slice_get ports p ≡ Some x → (work : Work) → Since first work.edge → Passes work (cond (targets p) (tells_at plan told addresses x work) work)
  one_port p x at work since = of (targets p) refl where
    of : (b : Bool) → targets p ≡ b → Passes work (cond b (tells_at plan told addresses x work) work)
    of true passed = port_passes p x at passed work since
    of false kept = passes_not work

  -- the rest of the ports from a place on
  abbrev IsRest : ℕ → List Port → Type 0
  IsRest p xs = (i : ℕ) (x : Port) → slice_get xs i ≡ Some x → slice_get ports (p + i) ≡ Some x

  rest_next : (p : ℕ) (x : Port) (xs : List Port) → IsRest p (x ∷ xs) → IsRest (p + 1) xs
  rest_next p x xs rest i y at = ap (slice_get ports) (moved p i) ∙ rest (suc i) y at where
    moved : (p i : ℕ) → p + 1 + i ≡ p + suc i
    moved p i = omega arith

  head_at : (p : ℕ) (x : Port) (xs : List Port) → IsRest p (x ∷ xs) → slice_get ports p ≡ Some x
  head_at p x xs rest = ap (slice_get ports) (add_zero p) ∙ rest zero x refl

  ports_pass : (p : ℕ) (xs : List Port) → IsRest p xs → (work : Work) → Since first work.edge → Passes work (copies targets (tells_at plan told addresses) p xs work)
  ports_pass p [] rest work since = passes_not work
  ports_pass p (x ∷ xs) rest work since =
      let next : Work = cond (targets p) (tells_at plan told addresses x work) work in
      let one : Passes work next = one_port p x (head_at p x xs rest) work since in
      passes_then work next (copies targets (tells_at plan told addresses) (p + 1) xs next) one
      (ports_pass (p + 1) xs (rest_next p x xs rest) next (since_then first work.edge next.edge since one.since))

  -- ---- a wire by which it goes on

  module _ (place : EndPlace) (content : Told) (kept : Peering) (by : GoesOnBy plan first service from place content kept) where
    abbrev Reaches : List (List Mac) → Work → Work → Type 0
    Reaches pieces old new = GivesMore old.effects new.effects (λ more. AllByRecursion (WasTold place content kept more) pieces)

    -- more is given out behind it and in front
    reaches_then : (pieces : List (List Mac)) (a b c : Work) → Reaches pieces a b → Passes b c → Reaches pieces a c
    reaches_then pieces a b c one next = record {
      more = one.more ++ next.alone.more;
      given = next.alone.given ∙ (ap (λ (l : List Effect). l ++ next.alone.more) one.given ∙ append_assoc a.effects one.more next.alone.more);
      so = all-map (WasTold place content kept one.more) (WasTold place content kept (one.more ++ next.alone.more)) pieces
          (λ piece was. was_told_more place content kept [] one.more next.alone.more piece was) one.so;
    }

    reaches_behind : (pieces : List (List Mac)) (a b c : Work) → Passes a b → Reaches pieces b c → Reaches pieces a c
    reaches_behind pieces a b c one next = record {
      more = one.alone.more ++ next.more;
      given = next.given ∙ (ap (λ (l : List Effect). l ++ next.more) one.alone.given ∙ append_assoc a.effects one.alone.more next.more);
      so = all-map (WasTold place content kept next.more) (WasTold place content kept (one.alone.more ++ next.more)) pieces
          (λ piece was. subst (λ (l : List Effect). WasTold place content kept (one.alone.more ++ l) piece) (append-nil next.more)
          (was_told_more place content kept one.alone.more next.more [] piece was)) next.so;
    }

    there : (o : Option Peering) → is_there o ≡ true → (k : Peering) × (o ≡ Some k)
    there None is = absurd (cc (is))
    there (Some k) is = (k, refl)

    -- the session stands at each moment before one at which it stands
    stands_before : (a b : EdgeState) → Since a b → has_end b place.peer ≡ true → has_end a place.peer ≡ true
    stands_before a b since stands =
        let (now, is) = there (b.peering place.peer.0) stands in
        ap (λ (o : Option Peering). is_there o) (since.stood place.peer.0 now is).is

    -- a piece is told in a session that stands afterwards
    piece_reaches : (piece : List Mac) (work : Work) → Since first work.edge → has_end (tells_piece told place piece work).work.edge place.peer ≡ true → has_end work.edge place.peer ≡ true
        → Reaches (piece ∷ []) work (tells_piece told place piece work).work
    unfolding changes gives puts
    piece_reaches piece work since stands stood =
        subst (λ (s : Spoken). (has_end s.work.edge place.peer ≡ true) → Reaches (piece ∷ []) work s.work) (sym is_said) (λ after. of (saying told place.peer message work) after) stands
      where
        message : ℕ → Message
        message = mac_withdrawal place.pw_id piece content

        at_work : (k : Peering) × (work.edge.peering place.peer.0 ≡ Some k)
        at_work = there (work.edge.peering place.peer.0) stood

        as_first : Stood first work.edge place.peer.0 at_work.0
        as_first = since.stood place.peer.0 at_work.0 at_work.1

        is_said : tells_piece told place piece work ≡ says told place.peer message work
        is_said = ap (λ (e : EndState). tells_piece_by told place piece e.local work) (as_first.ends place.wire.0) ∙ ap (λ (l : LocalPart). tells_piece_by told place piece l work) by.advertises

        peers_of : (now : Peering) → work.edge.peering place.peer.0 ≡ Some now → now.session.peers ≡ kept.session.peers
        peers_of now is =
            let then : Stood first work.edge place.peer.0 now = since.stood place.peer.0 now is in
            let equal : Some then.before ≡ Some kept = sym then.is ∙ by.stands in
            let one : then.before ≡ kept = cc (equal) in
            then.peers ∙ ap (λ (k : Peering). k.session.peers) one

        of : Saying told place.peer message work → has_end (says told place.peer message work).work.edge place.peer ≡ true → Reaches (piece ∷ []) work (says told place.peer message work).work
        of (Quiet none all) after =
            let wrong : Some at_work.0 ≡ None = sym at_work.1 ∙ none in
            absurd (cc (wrong))
        of (Taken now is all) after =
            subst (λ (w : Work). Reaches (piece ∷ []) work w) (sym (ap (λ (s : Spoken). s.work) all))
            (record {
              more = Said place.peer (message_octets_of now message) ∷ [];
              given = refl;
              so = (
                record {
                  before = [];
                  after = [];
                  id = now.next_id;
                  split = ap (λ (peers : Peers). Said place.peer (written (message now.next_id) (platform_of peers.me)) ∷ []) (peers_of now is);
                },
                tt,
              );
            })
        of (Refused bytes all) after =
            let gone : has_end (says told place.peer message work).work.edge place.peer ≡ false =
            ap (λ (s : Spoken). has_end s.work.edge place.peer) all ∙ ap (λ (o : Option Peering). is_there o) (refused_gone place.peer bytes work) in
            let wrong : true ≡ false = sym after ∙ gone in
            absurd (cc (wrong))

    pieces_reach : (before pieces : List (List Mac)) → pieces_of addresses ≡ before ++ pieces → (work : Work) → Since first work.edge
        → has_end (tells_pieces told place pieces work).edge place.peer ≡ true → Reaches pieces work (tells_pieces told place pieces work)
    pieces_reach before [] among work since stands = told_none work.effects tt
    pieces_reach before (piece ∷ pieces) among work since stands =
        let next : Work = (tells_piece told place piece work).work in
        let last : Work = tells_pieces told place pieces next in
        let one : Passes work next = piece_passes place by.may before piece pieces among work since in
        let later : Since first next.edge = since_then first work.edge next.edge since one.since in
        let more : pieces_of addresses ≡ (before ++ piece ∷ []) ++ pieces = among ∙ sym (append_assoc before (piece ∷ []) pieces) in
        let others : Passes next last = pieces_pass place by.may (before ++ piece ∷ []) pieces more next later in
        let at_next : has_end next.edge place.peer ≡ true = stands_before next.edge last.edge others.since stands in
        let this : Reaches (piece ∷ []) work next = piece_reaches piece work since at_next (stands_before work.edge next.edge one.since at_next) in
        let rest : Reaches pieces next last = pieces_reach (before ++ piece ∷ []) pieces more next later stands in
        record {
          more = this.more ++ rest.more;
          given = rest.given ∙ (ap (λ (l : List Effect). l ++ rest.more) this.given ∙ append_assoc work.effects this.more rest.more);
          so = (
            was_told_more place content kept [] this.more rest.more piece this.so.0,
            all-map (WasTold place content kept rest.more) (WasTold place content kept (this.more ++ rest.more)) pieces
                (λ p was. subst (λ (l : List Effect). WasTold place content kept (this.more ++ l) p) (append-nil rest.more) (was_told_more place content kept this.more rest.more [] p was)) rest.so,
          );
        }

    at_wire : (wire : WireId) → nat_eq wire.0 place.wire.0 ≡ true → (work : Work) → Since first work.edge
        → tells_by told addresses (wire_end plan work.edge.me wire) work ≡ tells_pieces told place (pieces_of addresses) work
    at_wire wire leads work since =
        ap (λ (o : Option EndPlace). tells_by told addresses o work)
        (ap (λ (n : ℕ). wire_end plan work.edge.me (record { 0 = n })) (eqb-true wire.0 place.wire.0 leads)
        ∙ (ap (λ (me : EdgeId). wire_end plan me place.wire) since.me ∙ by.may.here))

    -- the port of the wire
    at_port : (x : Port) → is_wire_port place.wire x ≡ true → (work : Work) → Since first work.edge → tells_at plan told addresses x work ≡ tells_pieces told place (pieces_of addresses) work
    at_port (port.Circuit circuit) leads work since = absurd (cc (leads))
    at_port (port.Mesh wire) leads work since = at_wire wire leads work since
    at_port (port.Spoke wire) leads work since = at_wire wire leads work since

    ports_reach : (p : ℕ) (xs : List Port) → IsRest p xs → (i : ℕ) (x : Port) → slice_get xs i ≡ Some x → is_wire_port place.wire x ≡ true → targets (p + i) ≡ true → (work : Work)
        → Since first work.edge
        → has_end (copies targets (tells_at plan told addresses) p xs work).edge place.peer ≡ true → Reaches (pieces_of addresses) work (copies targets (tells_at plan told addresses) p xs work)
    ports_reach p [] rest i x at leads passed work since stands = absurd (cc (at))
    ports_reach p (y ∷ xs) rest zero x at leads passed work since stands =
        let next : Work = cond (targets p) (tells_at plan told addresses y work) work in
        let one : Passes work next = one_port p y (head_at p y xs rest) work since in
        let later : Since first next.edge = since_then first work.edge next.edge since one.since in
        let others : Passes next (copies targets (tells_at plan told addresses) (p + 1) xs next) = ports_pass (p + 1) xs (rest_next p y xs rest) next later in
        let told_it : next ≡ tells_pieces told place (pieces_of addresses) work =
        ap (λ (b : Bool). cond b (tells_at plan told addresses y work) work) (ap targets (add_zero p) ∙ passed) ∙ at_port y (ap_leads at) work since in
        reaches_then (pieces_of addresses) work next (copies targets (tells_at plan told addresses) (p + 1) xs next)
        (subst (λ (w : Work). (has_end w.edge place.peer ≡ true) → Reaches (pieces_of addresses) work w) (sym told_it) (λ there. pieces_reach [] (pieces_of addresses) refl work since there)
        (stands_before next.edge (copies targets (tells_at plan told addresses) (p + 1) xs next).edge others.since stands))
        others
      where
        ap_leads : Some y ≡ Some x → is_wire_port place.wire y ≡ true
        ap_leads is = let one : y ≡ x = cc (is) in ap (is_wire_port place.wire) one ∙ leads
    ports_reach p (y ∷ xs) rest (suc i) x at leads passed work since stands =
        let next : Work = cond (targets p) (tells_at plan told addresses y work) work in
        let one : Passes work next = one_port p y (head_at p y xs rest) work since in
        reaches_behind (pieces_of addresses) work next (copies targets (tells_at plan told addresses) (p + 1) xs next) one
        (ports_reach (p + 1) xs (rest_next p y xs rest) i x at leads (ap targets (moved p i) ∙ passed) next (since_then first work.edge next.edge since one.since) stands)
      where
        moved : (p i : ℕ) → p + 1 + i ≡ p + suc i
        moved p i = omega arith

-- ---- a withdrawal at a core edge

-- the bridge of the service has forgotten
abbrev begun : ServiceId → List Mac → ℕ → Work → Work
begun service addresses from work = changes (withdrawing_at service addresses from) work

hears_is : (plan : Plan) (told : Answers) (peer : EdgeId) (fec : PwFec) (addresses : List Mac) (service : ServiceId) (from : ℕ) (work : Work) → ComesToCore plan work.edge peer fec service from
    → hears_mac_withdraw plan told peer (Some fec) (Some addresses) work
    ≡ copies (is_passed_to role.Core (ports_of plan service work.edge.me) from) (tells_at plan told addresses) 0 (ports_of plan service work.edge.me) (begun service addresses from work)
unfolding changes with_addresses
hears_is plan told peer fec addresses service from work comes =
    ap (λ (o : Option EndPlace). clears_by plan told addresses o work) comes.named
    ∙ (ap (λ (b : Bool). cond b (clears_wire plan told addresses comes.place (wire_row plan comes.place.wire) work)
    (tells_by told addresses (end_beyond plan work.edge.me comes.place) work)) comes.terminal
    ∙ (ap (λ (o : Option WirePlan). clears_wire plan told addresses comes.place o work) comes.is
    ∙ (ap (λ (o : Option ℕ). clears_at plan told addresses comes.row.service o work) comes.found
    ∙ (ap (λ (s : ServiceId). clears_at plan told addresses s (Some from) work) comes.of_service
    ∙ ap (λ (o : Option Role). passes_on plan told addresses service from o (begun service addresses from work)) comes.core))))

begun_since : (service : ServiceId) (addresses : List Mac) (from : ℕ) (work : Work) → Since work.edge (begun service addresses from work).edge
unfolding changes with_addresses
begun_since service addresses from work = record { me = refl; stood = λ k kept is. record { before = kept; is = is; peers = refl; ends = λ wire. refl } }

reaches : (plan : Plan) (told : Answers) (peer : EdgeId) (fec : PwFec) (addresses : List Mac) (service : ServiceId) (from : ℕ) (place : EndPlace) (content : Told) (kept : Peering) (work : Work)
    → ComesToCore plan work.edge peer fec service from → GoesOnBy plan work.edge service from place content kept
    → has_end (hears_mac_withdraw plan told peer (Some fec) (Some addresses) work).edge place.peer ≡ true
    → GivesMore work.effects (hears_mac_withdraw plan told peer (Some fec) (Some addresses) work).effects (λ more. AllByRecursion (WasTold place content kept more) (pieces_of addresses))
unfolding changes
reaches plan told peer fec addresses service from place content kept work comes by stands =
    subst (λ (w : Work). (has_end w.edge place.peer ≡ true) → GivesMore work.effects w.effects (λ more. AllByRecursion (WasTold place content kept more) (pieces_of addresses)))
    (sym (hears_is plan told peer fec addresses service from work comes))
    (λ there.
    ports_reach plan work.edge service from addresses told place content kept by 0 (ports_of plan service work.edge.me)
    (λ i x at. ap (slice_get (ports_of plan service work.edge.me)) (from_none i) ∙ at)
    by.may.p by.may.x by.may.at by.may.to_wire (ap (is_passed_to role.Core (ports_of plan service work.edge.me) from) (from_none by.may.p) ∙ by.may.passed)
    (begun service addresses from work) (begun_since service addresses from work) there) stands

alone : (plan : Plan) (told : Answers) (peer : EdgeId) (fec : PwFec) (addresses : List Mac) (service : ServiceId) (from : ℕ) (work : Work)
    → ComesToCore plan work.edge peer fec service from
    → GivesMore work.effects (hears_mac_withdraw plan told peer (Some fec) (Some addresses) work).effects (AllByRecursion (IsOfPassing plan work.edge service from (pieces_of addresses)))
unfolding changes
alone plan told peer fec addresses service from work comes =
    subst (λ (w : Work). GivesMore work.effects w.effects (AllByRecursion (IsOfPassing plan work.edge service from (pieces_of addresses))))
    (sym (hears_is plan told peer fec addresses service from work comes))
    (ports_pass plan work.edge service from addresses told 0 (ports_of plan service work.edge.me) (λ i x at. ap (slice_get (ports_of plan service work.edge.me)) (from_none i) ∙ at)
    (begun service addresses from work) (begun_since service addresses from work)).alone

-- what came by a spoke goes to a mesh wire
goes_to_mesh : (ports : List Port) (from p : ℕ) (spoke mesh : WireId) → slice_get ports from ≡ Some (port.Spoke spoke) → slice_get ports p ≡ Some (port.Mesh mesh)
    → is_passed_to role.Core ports from p ≡ true
goes_to_mesh ports from p spoke mesh here there =
    ap (λ (o : Option Port). (is_wire o && not (p == from)) && not (is_mesh_port ports from && is_mesh_port ports p)) there
    ∙ (ap (λ (b : Bool). not b && not (is_mesh_port ports from && is_mesh_port ports p)) apart
    ∙ ap (λ (o : Option Port). not (is_mesh o && is_mesh_port ports p)) here)
  where
    apart : (p == from) ≡ false
    apart = elim (cases_Bool (nat_eq p from)) [
      | inl same_number ↦
          (let equal : Some (port.Mesh mesh) ≡ Some (port.Spoke spoke) = sym there ∙ (ap (slice_get ports) (eqb-true p from same_number) ∙ here) in
          let wrong : true ≡ false = ap is_mesh equal in
          absurd (cc (wrong)))
      | inr other ↦ other
    ]

to_mesh : (plan : Plan) (edge : EdgeState) (service : ServiceId) (from p : ℕ) (spoke mesh : WireId) (place : EndPlace)
    → slice_get (ports_of plan service edge.me) from ≡ Some (port.Spoke spoke) → slice_get (ports_of plan service edge.me) p ≡ Some (port.Mesh mesh)
    → wire_end plan edge.me mesh ≡ Some place → MayGoOnBy plan edge service from place
to_mesh plan edge service from p spoke mesh place at_from at_p found =
    may_by plan edge service from [] (λ k. true) p (port.Mesh mesh) mesh place at_p (λ w. refl) (goes_to_mesh (ports_of plan service edge.me) from p spoke mesh at_from at_p) found

pub withdrawals_go_on : WithdrawalsGoOn
withdrawals_go_on = record { reaches = reaches; alone = alone; to_mesh = to_mesh }
