-- What an edge puts when it mends over a link that takes everything.
use Rattle.std.proofs.Common.{◌≡◌, ◌∙◌, ◌++◌, ◌&&◌, ◌||◌, ℕ, Bool, true, false, cond, is_some, nat_eq, List, [], ◌∷◌, Option, Some, None, option_map, refl, sym, ap, subst, append_assoc, inl, inr}
use Rattle.std.proofs.lemmas.Bool.{cases_Bool, eqb-true}
use Rattle.net_base.specs.declared.plan.Plan.{Plan}
use Rattle.net_base.specs.declared.plan.places.EdgeId.{EdgeId}
use Rattle.net_base.specs.declared.plan.wire_plan.WirePlan.{WirePlan}
use Rattle.net_base.specs.declared.trace.down.Down.{Down}
use Rattle.net_base.specs.plan.Paths.{mate, offer_of}
use Rattle.net_base.specs.plan.Places.{wire_row}
use Rattle.net_values.proofs.BoolLemmas.{first_holds, second_holds}
use Rattle.net_values.proofs.RowLemmas.{all-append}
use Rattle.net_values.specs.declared.mac.Mac.{Mac}
use Rattle.label_space.specs.declared.kept.Kept.{Kept}
use Rattle.label_space.specs.Labels.{number_to_give}
use Rattle.ldp_grammar.specs.declared.message.Message.{Message}
use Rattle.pw_tlvs.specs.declared.pw_status.PwStatus.{PwStatus}
use Rattle.pw_status.specs.Status.{method_by}
use Rattle.pw_messages.specs.Content.{content_of, mac_withdrawal, mapping, status_notification, withdrawal}
use Rattle.pw_signalling.specs.declared.binding.Binding.{Binding}
use Rattle.pw_signalling.specs.declared.told.Told.{Told}
use Rattle.pw_signalling.specs.End.{EndState, LocalPart, Idle, Advertised, Withdrawing}
use Rattle.pw_signalling.specs.Rows.{advertised, telling, withdrawn, with_status}
use Rattle.pw_stitch.specs.Change.{is_same_but_status}
use Rattle.pw_stitch.proofs.ChangeLemmas.{same_without_status}
use Rattle.edge_model.specs.Across.{held_of}
use Rattle.edge_model.specs.declared.effect.Effect.{Effect}
use Rattle.edge_model.specs.declared.effect.Effect.TheVariants.{Said, Wire}
use Rattle.edge_model.specs.declared.end_place.EndPlace.{EndPlace}
use Rattle.edge_model.specs.EndPlaces.{is_terminal}
use Rattle.edge_model.specs.Labels.{label_to_give}
use Rattle.edge_model.specs.Mend.{advertising, is_up_with, offer_stands, passed_from, status_held, telling_status, tells_new_status, tells_status, wish, wish_of, withdrawing, withdraws}
use Rattle.edge_model.specs.Put.{Spoken, having_spoken, message_octets_of, put_octets, with_spoken}
use Rattle.edge_model.specs.Role.{status_to_tell}
use Rattle.edge_model.specs.Session.{says}
use Rattle.edge_model.specs.State.{EdgeState, Peering, end_at, with_end, with_kept, with_next_label, with_peering, with_told_down}
use Rattle.edge_model.specs.Work.{Work, changes, gives, puts}
use Rattle.edge_model.proofs.MendLemmas.{says_nothing, says_taken}
use Rattle.edge_model.proofs.MendedLemmas.{end_put}
use Rattle.network_model.specs.Absorb.{taken_all}
use Rattle.flight_laws.proofs.KeepLemmas.{KeepsEnds}
use Rattle.flight_laws.proofs.MendingLemmas.{KeptByRows, mends_keep}
use Rattle.flight_laws.proofs.PlaceLemmas.{IsEndOf}
use Rattle.spelling_laws.proofs.PutLemmas.{put_effects}
use Rattle.rest_laws.specs.Levels.{Saying, Binds, Withdraws, States, Clears, pw_id_of, saying_of}
use Rattle.rest_laws.proofs.DueLemmas.{IsDue, MendingPutsDue, PutsMore, PutsWell}

-- ---- what is given out

no_more : (es : List Effect) → es ≡ es ++ []
no_more [] = refl
no_more (e ∷ es) = ap (λ (l : List Effect). e ∷ l) (no_more es)

module _ (plan : Plan) (me : EdgeId) (may : EndPlace → Saying → Bool) where
  pub puts_not : (es : List Effect) → PutsMore plan me may es es
  puts_not es = record { more = []; joined = no_more es; well = tt }

  pub puts_then : (a b c : List Effect) → PutsMore plan me may a b → PutsMore plan me may b c → PutsMore plan me may a c
  puts_then a b c first next = record {
    more = first.more ++ next.more;
    joined = next.joined ∙ (ap (λ (l : List Effect). l ++ next.more) first.joined ∙ append_assoc a first.more next.more);
    well = all-append (PutsWell plan me may) first.more next.more first.well next.well;
  }

  pub puts_one : (es : List Effect) (effect : Effect) → PutsWell plan me may effect → PutsMore plan me may es (es ++ effect ∷ [])
  puts_one es effect well = record { more = effect ∷ []; joined = refl; well = (well, tt) }

-- ---- what ends should tell

-- no session went up or down, no end holds another binding, and no wire was switched
pub record WishesAlike (old new : EdgeState) : Type 0 where
  pub me : new.me ≡ old.me
  pub wires : new.wire_on ≡ old.wire_on
  pub bits : new.bits ≡ old.bits
  pub remotes : (wire k : ℕ) → (new.ends wire k).remote ≡ (old.ends wire k).remote
  pub ups : (k : ℕ) → is_up_with (new.peering k) ≡ is_up_with (old.peering k)
  pub labels : is_some (label_to_give new) ≡ true → is_some (label_to_give old) ≡ true

pub alike_then : (a b c : EdgeState) → WishesAlike a b → WishesAlike b c → WishesAlike a c
alike_then a b c first next = record {
  me = next.me ∙ first.me;
  wires = next.wires ∙ first.wires;
  bits = next.bits ∙ first.bits;
  remotes = λ wire k. next.remotes wire k ∙ first.remotes wire k;
  ups = λ k. next.ups k ∙ first.ups k;
  labels = λ left. first.labels (next.labels left);
}

module _ (plan : Plan) (a b : EdgeState) (alike : WishesAlike a b) (place : EndPlace) where
  w : ℕ
  w = place.wire.0

  held_alike : held_of b place.wire ≡ held_of a place.wire
  held_alike = λ i k. alike.remotes place.wire.0 k i

  -- what is wished, of these parts of an edge
  abbrev wished : WirePlan → (me : EdgeId) (on up : Bool) (bits : ℕ) (held : ℕ → Option Binding) (status : PwStatus) → Option Told
  wished row me on up bits held status =
      cond (on && up)
      (cond place.terminal
      (cond (tells_status (method_by (offer_of row me.0).status (status_held (held place.peer.0))) || nat_eq bits 0)
      (Some (content_of (offer_of row me.0) (cond (offer_of row me.0).status (Some status) None)))
      None)
      (passed_from plan row me held (mate row me.0 place.peer.0)))
      None

  -- of the same parts but the status
  parts_alike : (row : WirePlan) → wish_of plan b place (Some row)
      ≡ wished row a.me (a.wire_on place.wire.0) (is_up_with (a.peering place.peer.0)) (a.bits place.wire.0) (held_of a place.wire) (status_to_tell plan b place)
  parts_alike row =
      ap (λ (me : EdgeId). wished row me (b.wire_on place.wire.0) (is_up_with (b.peering place.peer.0)) (b.bits place.wire.0) (held_of b place.wire) (status_to_tell plan b place)) alike.me
      ∙ (ap (λ (on : ℕ → Bool). wished row a.me (on place.wire.0) (is_up_with (b.peering place.peer.0)) (b.bits place.wire.0) (held_of b place.wire) (status_to_tell plan b place)) alike.wires
      ∙ (ap (λ (up : Bool). wished row a.me (a.wire_on place.wire.0) up (b.bits place.wire.0) (held_of b place.wire) (status_to_tell plan b place)) (alike.ups place.peer.0)
      ∙ (ap (λ (bits : ℕ → ℕ). wished row a.me (a.wire_on place.wire.0) (is_up_with (a.peering place.peer.0)) (bits place.wire.0) (held_of b place.wire) (status_to_tell plan b place)) alike.bits
      ∙ ap (λ (held : ℕ → Option Binding). wished row a.me (a.wire_on place.wire.0) (is_up_with (a.peering place.peer.0)) (a.bits place.wire.0) held (status_to_tell plan b place)) held_alike)))

  -- the status tells nothing of whether anything is wished
  there : (up terminal tells : Bool) (one other : Told) (passed : Option Told) → is_some (cond up (cond terminal (cond tells (Some one) None) passed) None)
      ≡ is_some (cond up (cond terminal (cond tells (Some other) None) passed) None)
  there true true true one other passed = refl
  there true true false one other passed = refl
  there true false tells one other passed = refl
  there false terminal tells one other passed = refl

  pub some_alike : is_some (wish plan b place) ≡ is_some (wish plan a place)
  some_alike = of (wire_row plan place.wire) where
    of : (row : Option WirePlan) → is_some (wish_of plan b place row) ≡ is_some (wish_of plan a place row)
    of None = refl
    of (Some row) =
        ap (λ (o : Option Told). is_some o) (parts_alike row)
        ∙ there (a.wire_on place.wire.0 && is_up_with (a.peering place.peer.0)) place.terminal
        (tells_status (method_by (offer_of row a.me.0).status (status_held (held_of a place.wire place.peer.0))) || nat_eq (a.bits place.wire.0) 0)
        (content_of (offer_of row a.me.0) (cond (offer_of row a.me.0).status (Some (status_to_tell plan b place)) None))
        (content_of (offer_of row a.me.0) (cond (offer_of row a.me.0).status (Some (status_to_tell plan a place)) None))
        (passed_from plan row a.me (held_of a place.wire) (mate row a.me.0 place.peer.0))

  pub passed_alike : place.terminal ≡ false → wish plan b place ≡ wish plan a place
  passed_alike switching = of (wire_row plan place.wire) where
    -- of a switching point the status is no part
    any_status : (row : WirePlan) (one other : PwStatus)
        → wished row a.me (a.wire_on place.wire.0) (is_up_with (a.peering place.peer.0)) (a.bits place.wire.0) (held_of a place.wire) one
        ≡ wished row a.me (a.wire_on place.wire.0) (is_up_with (a.peering place.peer.0)) (a.bits place.wire.0) (held_of a place.wire) other
    any_status row one other = rw switching refl

    of : (row : Option WirePlan) → wish_of plan b place row ≡ wish_of plan a place row
    of None = refl
    of (Some row) = parts_alike row ∙ any_status row (status_to_tell plan b place) (status_to_tell plan a place)

  -- so what an end has told stands as before
  terminal_stands : place.terminal ≡ true → (content : Told) (one other : Option Told) → is_some one ≡ is_some other → offer_stands place content one ≡ offer_stands place content other
  terminal_stands terminal content None None same = refl
  terminal_stands terminal content None (Some y) same = absurd (cc (same))
  terminal_stands terminal content (Some x) None same = absurd (cc (same))
  terminal_stands terminal content (Some x) (Some y) same =
      ap (λ (t : Bool). t || is_same_but_status content x) terminal ∙ sym (ap (λ (t : Bool). t || is_same_but_status content y) terminal)

  pub stands_alike : (content : Told) → offer_stands place content (wish plan b place) ≡ offer_stands place content (wish plan a place)
  stands_alike content = by place.terminal refl where
    by : (t : Bool) → place.terminal ≡ t → offer_stands place content (wish plan b place) ≡ offer_stands place content (wish plan a place)
    by true terminal = terminal_stands terminal content (wish plan b place) (wish plan a place) some_alike
    by false switching = ap (offer_stands place content) (passed_alike switching)

-- ---- one end has another state

-- an end stands at the place of another one
abbrev pub stands_at : EndPlace → ℕ → ℕ → Bool
stands_at place wire k = nat_eq wire place.wire.0 && nat_eq k place.peer.0

pub end_else : (place : EndPlace) (end : EndState) (edge : EdgeState) (wire k : ℕ) → stands_at place wire k ≡ false → (with_end place end edge).ends wire k ≡ edge.ends wire k
unfolding with_end
end_else place end edge wire k apart = elim (cases_Bool (nat_eq wire place.wire.0)) [
  | inl here ↦
      (let away : nat_eq k place.peer.0 ≡ false = ap (λ (b : Bool). b && nat_eq k place.peer.0) (sym here) ∙ apart in
      rw (here, away) (ap (λ (n : ℕ). edge.ends n k) (sym (eqb-true wire place.wire.0 here))))
  | inr away ↦ rw away refl
]

pub remote_put : (place : EndPlace) (end : EndState) (edge : EdgeState) → end.remote ≡ (end_at edge place).remote → (wire k : ℕ) → ((with_end place end edge).ends wire k).remote
    ≡ (edge.ends wire k).remote
remote_put place end edge same wire k = elim (cases_Bool (stands_at place wire k)) [
  | inl here ↦
      both (eqb-true wire place.wire.0 (first_holds (nat_eq wire place.wire.0) (nat_eq k place.peer.0) here))
      (eqb-true k place.peer.0 (second_holds (nat_eq wire place.wire.0) (nat_eq k place.peer.0) here))
      (ap (λ (e : EndState). e.remote) (end_put place end edge) ∙ same)
  | inr apart ↦ ap (λ (e : EndState). e.remote) (end_else place end edge wire k apart)
]
  where
    both : wire ≡ place.wire.0 → k ≡ place.peer.0 → (end_at (with_end place end edge) place).remote ≡ (end_at edge place).remote → ((with_end place end edge).ends wire k).remote
        ≡ (edge.ends wire k).remote
    both w p e =
        ap (λ (n : ℕ). ((with_end place end edge).ends n k).remote) w ∙ (ap (λ (n : ℕ). ((with_end place end edge).ends place.wire.0 n).remote) p
        ∙ (e ∙ (ap (λ (n : ℕ). (edge.ends place.wire.0 n).remote) (sym p) ∙ ap (λ (n : ℕ). (edge.ends n k).remote) (sym w))))

-- ---- a message is said

-- an edge has said something, and one of its ends, which holds the same, has another state
pub record TurnsEnd (place : EndPlace) (end : EndState) (old new : EdgeState) : Type 0 where
  pub alike : WishesAlike old new
  pub here : end_at new place ≡ end
  pub others : (wire k : ℕ) → stands_at place wire k ≡ false → new.ends wire k ≡ old.ends wire k

-- nothing but what is kept for neighbours has changed
pub record HasPut (old new : EdgeState) : Type 0 where
  pub me : new.me ≡ old.me
  pub wires : new.wire_on ≡ old.wire_on
  pub bits : new.bits ≡ old.bits
  pub ends : new.ends ≡ old.ends
  pub ups : (k : ℕ) → is_up_with (new.peering k) ≡ is_up_with (old.peering k)
  pub labels : label_to_give new ≡ label_to_give old
  pub chosen : new.chosen ≡ old.chosen
  pub priorities : new.priority ≡ old.priority

-- and more was put after that
pub put_then : (a b c : EdgeState) → HasPut a b → HasPut b c → HasPut a c
put_then a b c first next = record {
  me = next.me ∙ first.me;
  wires = next.wires ∙ first.wires;
  bits = next.bits ∙ first.bits;
  ends = next.ends ∙ first.ends;
  ups = λ k. next.ups k ∙ first.ups k;
  labels = next.labels ∙ first.labels;
  chosen = next.chosen ∙ first.chosen;
  priorities = next.priorities ∙ first.priorities;
}

up_spoken : (kept : Option Peering) → is_up_with (option_map having_spoken kept) ≡ is_up_with kept
up_spoken None = refl
up_spoken (Some kept) = refl

octets_put : (peer : EdgeId) (bytes : List ℕ) (work : Work) → HasPut work.edge (put_octets peer bytes true work).work.edge
unfolding changes gives puts with_peering with_spoken
octets_put peer bytes work = record { me = refl; wires = refl; bits = refl; ends = refl; ups = λ k. up k; labels = refl; chosen = refl; priorities = refl } where
  up : (k : ℕ) → is_up_with (cond (nat_eq k peer.0) (option_map having_spoken (work.edge.peering peer.0)) (work.edge.peering k)) ≡ is_up_with (work.edge.peering k)
  up k = elim (cases_Bool (nat_eq k peer.0)) [
    | inl here ↦ rw here (up_spoken (work.edge.peering peer.0) ∙ ap (λ (n : ℕ). is_up_with (work.edge.peering n)) (sym (eqb-true k peer.0 here)))
    | inr away ↦ rw away refl
  ]

module _ (plan : Plan) (me : EdgeId) (may : EndPlace → Saying → Bool) where
  -- a message is put at an end
  pub record HasSaid (old new : Work) : Type 0 where
    pub put : HasPut old.edge new.edge
    pub puts : PutsMore plan me may old.effects new.effects

  pub says_puts : (place : EndPlace) (message : ℕ → Message) (saying : Saying) (work : Work) → IsEndOf plan me place → ((id : ℕ) → saying_of (message id) ≡ Some saying)
      → ((id : ℕ) → pw_id_of (message id) ≡ Some place.pw_id) → may place saying ≡ true → HasSaid work (says taken_all place.peer message work).work
  says_puts place message saying work here says_it names allowed = by (work.edge.peering place.peer.0) refl where
    by : (kept : Option Peering) → work.edge.peering place.peer.0 ≡ kept → HasSaid work (says taken_all place.peer message work).work
    by None is = subst (λ (s : Spoken). HasSaid work s.work) (sym (says_nothing taken_all place.peer message work is)) (record {
      put = record { me = refl; wires = refl; bits = refl; ends = refl; ups = λ k. refl; labels = refl; chosen = refl; priorities = refl };
      puts = puts_not plan me may work.effects;
    })
    by (Some kept) is = subst (λ (s : Spoken). HasSaid work s.work) (sym (says_taken taken_all place.peer message kept work refl is)) (record {
      put = octets_put place.peer (message_octets_of kept message) work;
      puts = subst (PutsMore plan me may work.effects) (sym (put_effects place.peer (message_octets_of kept message) work))
          (puts_one plan me may work.effects (Said place.peer (message_octets_of kept message)) (record {
            place = place;
            here = here;
            beside = refl;
            message = message kept.next_id;
            router = kept.session.peers.me;
            spelled = refl;
            saying = saying;
            says = says_it kept.next_id;
            names = names kept.next_id;
            allowed = allowed;
          }));
    })

-- the end of an edge that has said something after it took another state
pub turned_by : (place : EndPlace) (end : EndState) (old begun new : EdgeState) → end.remote ≡ (end_at old place).remote → begun.me ≡ old.me → begun.wire_on ≡ old.wire_on → begun.bits ≡ old.bits
    → begun.peering ≡ old.peering → begun.ends ≡ (with_end place end old).ends → (is_some (label_to_give begun) ≡ true → is_some (label_to_give old) ≡ true) → HasPut begun new → TurnsEnd place end old new
turned_by place end old begun new remote me wires bits peering ends fewer put = record {
  alike = record {
    me = put.me ∙ me;
    wires = put.wires ∙ wires;
    bits = put.bits ∙ bits;
    remotes = λ wire k. ap (λ (all : ℕ → ℕ → EndState). (all wire k).remote) (put.ends ∙ ends) ∙ remote_put place end old remote wire k;
    ups = λ k. put.ups k ∙ ap (λ (p : ℕ → Option Peering). is_up_with (p k)) peering;
    labels = λ left. fewer (ap (λ (o : Option ℕ). is_some o) (sym put.labels) ∙ left);
  };
  here = ap (λ (all : ℕ → ℕ → EndState). all place.wire.0 place.peer.0) (put.ends ∙ ends) ∙ end_put place end old;
  others = λ wire k apart. ap (λ (all : ℕ → ℕ → EndState). all wire k) (put.ends ∙ ends) ∙ end_else place end old wire k apart;
}

-- ---- what is due

-- nothing is due of labels at an end
pub record IsFineAt (plan : Plan) (edge : EdgeState) (place : EndPlace) : Type 0 where
  pub binds : (end_at edge place).local ≡ Idle false → is_some (wish plan edge place) ≡ true → ⊥
  pub withdraws : (label : ℕ) (content : Told) → (end_at edge place).local ≡ Advertised label content → offer_stands place content (wish plan edge place) ≡ false → ⊥

-- a place like any other one at the same wire, peer and side of the wire
abbrev like : ℕ → ℕ → Bool → EndPlace
like wire k terminal = record { wire = record { 0 = wire }; peer = record { 0 = k }; pw_id = 0; segment = 0; side = 0; terminal = terminal }

fine_like : (plan : Plan) (edge : EdgeState) (p q : EndPlace) → p.wire.0 ≡ q.wire.0 → p.peer.0 ≡ q.peer.0 → p.terminal ≡ q.terminal → IsFineAt plan edge q → IsFineAt plan edge p
fine_like plan edge p q w k t fine =
    let one : IsFineAt plan edge (like q.wire.0 q.peer.0 q.terminal) = record { binds = λ at some. fine.binds at some; withdraws = λ label content at gone. fine.withdraws label content at gone } in
    let all : IsFineAt plan edge (like p.wire.0 p.peer.0 p.terminal) =
    subst (λ (n : ℕ). IsFineAt plan edge (like n p.peer.0 p.terminal)) (sym w)
    (subst (λ (n : ℕ). IsFineAt plan edge (like q.wire.0 n p.terminal)) (sym k) (subst (λ (x : Bool). IsFineAt plan edge (like q.wire.0 q.peer.0 x)) (sym t) one)) in
    record { binds = λ at some. all.binds at some; withdraws = λ label content at gone. all.withdraws label content at gone }

-- the side of a wire at which an edge has its end, by the plan
abbrev terminal_in : Option WirePlan → EdgeId → Bool
terminal_in None me = false
terminal_in (Some row) me = is_terminal row me

terminal_is : (plan : Plan) (me : EdgeId) (p : EndPlace) → IsEndOf plan me p → p.terminal ≡ terminal_in (wire_row plan (record { 0 = p.wire.0 })) me
terminal_is plan me p end = end.terminal ∙ sym (ap (λ (row : Option WirePlan). terminal_in row me) end.is)

pub same_side : (plan : Plan) (me : EdgeId) (p q : EndPlace) → IsEndOf plan me p → IsEndOf plan me q → p.wire.0 ≡ q.wire.0 → p.terminal ≡ q.terminal
same_side plan me p q one other w = terminal_is plan me p one ∙ (ap (λ (n : ℕ). terminal_in (wire_row plan (record { 0 = n })) me) w ∙ sym (terminal_is plan me q other))

-- what an end has told stands itself
stands_itself : (place : EndPlace) (content : Told) → offer_stands place content (Some content) ≡ true
stands_itself place content = by place.terminal where
  by : (terminal : Bool) → terminal || is_same_but_status content content ≡ true
  by true = refl
  by false = (same_without_status content content).1 refl

-- and does not go by its status
stands_retold : (place : EndPlace) (content : Told) (status : PwStatus) (wished : Option Told) → offer_stands place (with_status status content) wished ≡ offer_stands place content wished
stands_retold place content status None = refl
stands_retold place content status (Some wished) = refl

is_true : {b : Bool} → b ≡ true → b ≡ false → ⊥
is_true one other = let wrong : true ≡ false = sym one ∙ other in absurd (cc (wrong))

same_content : {one other : ℕ} {x y : Told} → Advertised one x ≡ Advertised other y → x ≡ y
same_content e = cc

not_idle : {label : ℕ} {content : Told} {declined : Bool} → Advertised label content ≡ Idle declined → ⊥
not_idle e = cc

not_idle_too : {label : ℕ} {declined : Bool} → Withdrawing label ≡ Idle declined → ⊥
not_idle_too e = cc

not_told : {label other : ℕ} {content : Told} → Withdrawing label ≡ Advertised other content → ⊥
not_told e = cc

module _ (plan : Plan) (me : EdgeId) (may : EndPlace → Saying → Bool) (old new : EdgeState) where
  -- another choice, or what else leaves ends and what they should tell
  due_alike : WishesAlike old new → new.ends ≡ old.ends → IsDue plan me may old → IsDue plan me may new
  due_alike alike ends due = record {
    binds = λ p here at some left. due.binds p here (ap (λ (all : ℕ → ℕ → EndState). (all p.wire.0 p.peer.0).local) (sym ends) ∙ at) (sym (some_alike plan old new alike p) ∙ some)
        (alike.labels left);
    withdraws = λ p here label content at gone. due.withdraws p here label content (ap (λ (all : ℕ → ℕ → EndState). (all p.wire.0 p.peer.0).local) (sym ends) ∙ at)
        (sym (stands_alike plan old new alike p content) ∙ gone);
  }

  -- where one end has turned, and nothing is due there
  due_turned : (q : EndPlace) (end : EndState) → IsEndOf plan me q → TurnsEnd q end old new → IsFineAt plan new q → IsDue plan me may old → IsDue plan me may new
  due_turned q end there turns fine due = record { binds = λ p here at some left. binds p here at some left; withdraws = λ p here label content at gone. withdraws p here label content at gone } where
    fine_at : (p : EndPlace) → IsEndOf plan me p → stands_at q p.wire.0 p.peer.0 ≡ true → IsFineAt plan new p
    fine_at p here at =
        let w : p.wire.0 ≡ q.wire.0 = eqb-true p.wire.0 q.wire.0 (first_holds (nat_eq p.wire.0 q.wire.0) (nat_eq p.peer.0 q.peer.0) at) in
        let k : p.peer.0 ≡ q.peer.0 = eqb-true p.peer.0 q.peer.0 (second_holds (nat_eq p.wire.0 q.wire.0) (nat_eq p.peer.0 q.peer.0) at) in
        fine_like plan new p q w k (same_side plan me p q here there w) fine

    binds : (p : EndPlace) → IsEndOf plan me p → (end_at new p).local ≡ Idle false → is_some (wish plan new p) ≡ true → is_some (label_to_give new) ≡ true → may p Binds ≡ true
    binds p here at some left = elim (cases_Bool (stands_at q p.wire.0 p.peer.0)) [
      | inl same ↦ absurd ((fine_at p here same).binds at some)
      | inr apart ↦ due.binds p here (ap (λ (e : EndState). e.local) (sym (turns.others p.wire.0 p.peer.0 apart)) ∙ at) (sym (some_alike plan old new turns.alike p) ∙ some) (turns.alike.labels left)
    ]

    withdraws : (p : EndPlace) → IsEndOf plan me p → (label : ℕ) (content : Told) → (end_at new p).local ≡ Advertised label content → offer_stands p content (wish plan new p) ≡ false
        → may p Withdraws ≡ true
    withdraws p here label content at gone = elim (cases_Bool (stands_at q p.wire.0 p.peer.0)) [
      | inl same ↦ absurd ((fine_at p here same).withdraws label content at gone)
      | inr apart ↦ due.withdraws p here label content (ap (λ (e : EndState). e.local) (sym (turns.others p.wire.0 p.peer.0 apart)) ∙ at)
          (sym (stands_alike plan old new turns.alike p content) ∙ gone)
    ]

-- ---- an end maps, or withdraws

module _ (plan : Plan) (me : EdgeId) (may : EndPlace → Saying → Bool) where
  -- an end has turned, the edge has said so, and what is due then may be put
  pub record HasTurned (place : EndPlace) (end : EndState) (old new : Work) : Type 0 where
    pub turned : TurnsEnd place end old.edge new.edge
    pub puts : PutsMore plan me may old.effects new.effects
    pub due : IsDue plan me may new.edge
    pub chosen : new.edge.chosen ≡ old.edge.chosen
    pub priorities : new.edge.priority ≡ old.edge.priority

  pub advertises_turns : (place : EndPlace) (label : ℕ) (content : Told) (work : Work) → IsEndOf plan me place → (end_at work.edge place).local ≡ Idle false → wish plan work.edge place
      ≡ Some content → label_to_give work.edge ≡ Some label → IsDue plan me may work.edge
      → HasTurned place (advertised label content (end_at work.edge place)) work (says taken_all place.peer (mapping place.pw_id label content) (changes (advertising place label content) work)).work
  unfolding changes with_end with_next_label with_kept
  advertises_turns place label content work here idle wished given due =
      let end : EndState = advertised label content (end_at work.edge place) in
      let begun : Work = changes (advertising place label content) work in
      let next : Work = (says taken_all place.peer (mapping place.pw_id label content) begun).work in
      let said : HasSaid plan me may begun next =
      says_puts plan me may place (mapping place.pw_id label content) Binds begun here (λ id. refl) (λ id. refl)
      (due.binds place here idle (ap (λ (o : Option Told). is_some o) wished) (ap (λ (o : Option ℕ). is_some o) given)) in
      let turned : TurnsEnd place end work.edge next.edge =
      turned_by place end work.edge begun.edge next.edge refl refl refl refl refl refl (λ left. ap (λ (o : Option ℕ). is_some o) given) said.put in
      let local : (end_at next.edge place).local ≡ Advertised label content =
      ap (λ (e : EndState). e.local) turned.here ∙ ap (λ (l : LocalPart). (advertised label content (record { local = l; remote = (end_at work.edge place).remote })).local) idle in
      record {
        turned = turned;
        puts = said.puts;
        due = due_turned plan me may work.edge next.edge place end here turned (record {
          binds = λ at some. not_idle (sym local ∙ at);
          withdraws = λ other told at gone. is_true
              (stands_alike plan work.edge next.edge turned.alike place told
              ∙ (ap (offer_stands place told) wished ∙ (ap (λ (c : Told). offer_stands place told (Some c)) (same_content (sym local ∙ at)) ∙ stands_itself place told)))
              gone;
        }) due;
        chosen = said.put.chosen;
        priorities = said.put.priorities;
      }

  pub withdraws_turns : (place : EndPlace) (label : ℕ) (content : Told) (work : Work) → IsEndOf plan me place → (end_at work.edge place).local ≡ Advertised label content
      → offer_stands place content (wish plan work.edge place) ≡ false → IsDue plan me may work.edge
      → HasTurned place (withdrawn (end_at work.edge place)) work (withdraws taken_all place label content work).work
  unfolding changes with_end with_kept
  withdraws_turns place label content work here told gone due =
      let end : EndState = withdrawn (end_at work.edge place) in
      let begun : Work = changes (withdrawing place) work in
      let next : Work = (says taken_all place.peer (withdrawal place.pw_id label content) begun).work in
      let said : HasSaid plan me may begun next =
      says_puts plan me may place (withdrawal place.pw_id label content) Withdraws begun here (λ id. refl) (λ id. refl) (due.withdraws place here label content told gone) in
      let turned : TurnsEnd place end work.edge next.edge = turned_by place end work.edge begun.edge next.edge refl refl refl refl refl refl (λ left. left) said.put in
      let local : (end_at next.edge place).local ≡ Withdrawing label =
      ap (λ (e : EndState). e.local) turned.here ∙ ap (λ (l : LocalPart). (withdrawn (record { local = l; remote = (end_at work.edge place).remote })).local) told in
      record {
        turned = turned;
        puts = said.puts;
        due = due_turned plan me may work.edge next.edge place end here turned (record {
          binds = λ at some. not_idle_too (sym local ∙ at);
          withdraws = λ other content at still. not_told (sym local ∙ at);
        }) due;
        chosen = said.put.chosen;
        priorities = said.put.priorities;
      }

-- ---- the rows of mending

-- while an edge mends: it is at its place, what is due of labels may be put, and what was put is so
record IsPutting (plan : Plan) (me : EdgeId) (may : EndPlace → Saying → Bool) (first : List Effect) (work : Work) : Type 0 where
  at : work.edge.me ≡ me
  due : IsDue plan me may work.edge
  puts : PutsMore plan me may first work.effects

module _ (plan : Plan) (me : EdgeId) (may : EndPlace → Saying → Bool) (first : List Effect) (states : (place : EndPlace) → IsEndOf plan me place → may place States
    ≡ true) (clears : (place : EndPlace) → IsEndOf plan me place → may place Clears ≡ true) where
  abbrev At : Work → Type 0
  At work = IsPutting plan me may first work

  -- an end has turned, and the edge has said so
  turns : (place : EndPlace) (end : EndState) (work next : Work) → IsEndOf plan me place → TurnsEnd place end work.edge next.edge → PutsMore plan me may work.effects next.effects
      → IsDue plan me may next.edge → At work → At next
  turns place end work next here turned more due now = record {
    at = turned.alike.me ∙ now.at;
    due = due;
    puts = puts_then plan me may first work.effects next.effects now.puts more;
  }

  advertises_puts : (place : EndPlace) (label : ℕ) (content : Told) (work : Work) → IsEndOf plan me place → (end_at work.edge place).local ≡ Idle false → wish plan work.edge place
      ≡ Some content → label_to_give work.edge ≡ Some label → At work → At (says taken_all place.peer (mapping place.pw_id label content) (changes (advertising place label content) work)).work
  advertises_puts place label content work here idle wished given now =
      let next : Work = (says taken_all place.peer (mapping place.pw_id label content) (changes (advertising place label content) work)).work in
      let one : HasTurned plan me may place (advertised label content (end_at work.edge place)) work next = advertises_turns plan me may place label content work here idle wished given now.due in
      turns place (advertised label content (end_at work.edge place)) work next here one.turned one.puts one.due now

  withdraws_puts : (place : EndPlace) (label : ℕ) (content : Told) (work : Work) → IsEndOf plan me place → (end_at work.edge place).local ≡ Advertised label content
      → offer_stands place content (wish plan work.edge place) ≡ false → At work → At (withdraws taken_all place label content work).work
  withdraws_puts place label content work here told gone now =
      let next : Work = (withdraws taken_all place label content work).work in
      let one : HasTurned plan me may place (withdrawn (end_at work.edge place)) work next = withdraws_turns plan me may place label content work here told gone now.due in
      turns place (withdrawn (end_at work.edge place)) work next here one.turned one.puts one.due now

  -- where another status is told the same is due of labels
  due_retold : (place : EndPlace) (label : ℕ) (content : Told) (status : PwStatus) (end : EndState) (old new : EdgeState) → IsEndOf plan me place → TurnsEnd place end old new
      → (end_at old place).local ≡ Advertised label content → end.local ≡ Advertised label (with_status status content) → IsDue plan me may old → IsDue plan me may new
  due_retold q label content status end old new there turned told now due = record { binds = λ p here at some left. binds p here at some left; withdraws = λ p here other said at gone. withdraws p here other said at gone } where
    local : (p : EndPlace) → stands_at q p.wire.0 p.peer.0 ≡ true → (edge : EdgeState) → (end_at edge p).local ≡ (end_at edge q).local
    local p at edge =
        ap (λ (n : ℕ). (edge.ends n p.peer.0).local) (eqb-true p.wire.0 q.wire.0 (first_holds (nat_eq p.wire.0 q.wire.0) (nat_eq p.peer.0 q.peer.0) at))
        ∙ ap (λ (n : ℕ). (edge.ends q.wire.0 n).local) (eqb-true p.peer.0 q.peer.0 (second_holds (nat_eq p.wire.0 q.wire.0) (nat_eq p.peer.0 q.peer.0) at))

    there_now : (end_at new q).local ≡ Advertised label (with_status status content)
    there_now = ap (λ (e : EndState). e.local) turned.here ∙ now

    binds : (p : EndPlace) → IsEndOf plan me p → (end_at new p).local ≡ Idle false → is_some (wish plan new p) ≡ true → is_some (label_to_give new) ≡ true → may p Binds ≡ true
    binds p here at some left = elim (cases_Bool (stands_at q p.wire.0 p.peer.0)) [
      | inl same ↦ absurd (not_idle (sym there_now ∙ (sym (local p same new) ∙ at)))
      | inr apart ↦ due.binds p here (ap (λ (e : EndState). e.local) (sym (turned.others p.wire.0 p.peer.0 apart)) ∙ at) (sym (some_alike plan old new turned.alike p) ∙ some) (turned.alike.labels left)
    ]

    withdraws : (p : EndPlace) → IsEndOf plan me p → (other : ℕ) (said : Told) → (end_at new p).local ≡ Advertised other said → offer_stands p said (wish plan new p) ≡ false
        → may p Withdraws ≡ true
    withdraws p here other said at gone = elim (cases_Bool (stands_at q p.wire.0 p.peer.0)) [
      | inl same ↦ due.withdraws p here label content (local p same old ∙ told)
          (sym (stands_retold p content status (wish plan old p))
          ∙ (ap (λ (c : Told). offer_stands p c (wish plan old p)) (same_content (sym there_now ∙ (sym (local p same new) ∙ at)))
          ∙ (sym (stands_alike plan old new turned.alike p said) ∙ gone)))
      | inr apart ↦ due.withdraws p here other said (ap (λ (e : EndState). e.local) (sym (turned.others p.wire.0 p.peer.0 apart)) ∙ at)
          (sym (stands_alike plan old new turned.alike p said) ∙ gone)
    ]

  tells_puts : (place : EndPlace) (label : ℕ) (content : Told) (last : PwStatus) (work : Work) → IsEndOf plan me place → (end_at work.edge place).local ≡ Advertised label content → At work
      → At (tells_new_status taken_all place content (status_to_tell plan work.edge place) work).work
  unfolding changes with_end with_kept
  tells_puts place label content last work here told now =
      let status : PwStatus = status_to_tell plan work.edge place in
      let end : EndState = telling status (end_at work.edge place) in
      let begun : Work = changes (telling_status place status) work in
      let next : Work = (says taken_all place.peer (status_notification place.pw_id status content) begun).work in
      let said : HasSaid plan me may begun next =
      says_puts plan me may place (status_notification place.pw_id status content) States begun here (λ id. refl) (λ id. refl) (states place here) in
      let turned : TurnsEnd place end work.edge next.edge = turned_by place end work.edge begun.edge next.edge refl refl refl refl refl refl (λ left. left) said.put in
      turns place end work next here turned said.puts
      (due_retold place label content status end work.edge next.edge here turned told
      (ap (λ (l : LocalPart). (telling status (record { local = l; remote = (end_at work.edge place).remote })).local) told) now.due) now

  clears_puts : (place : EndPlace) (content : Told) (addresses : List Mac) (work : Work) → IsEndOf plan me place → At work
      → At (says taken_all place.peer (mac_withdrawal place.pw_id addresses content) work).work
  clears_puts place content addresses work here now =
      let next : Work = (says taken_all place.peer (mac_withdrawal place.pw_id addresses content) work).work in
      let said : HasSaid plan me may work next =
      says_puts plan me may place (mac_withdrawal place.pw_id addresses content) Clears work here (λ id. refl) (λ id. refl) (clears place here) in
      record {
        at = said.put.me ∙ now.at;
        due = due_alike plan me may work.edge next.edge
            (record {
              me = said.put.me;
              wires = said.put.wires;
              bits = said.put.bits;
              remotes = λ wire k. ap (λ (all : ℕ → ℕ → EndState). (all wire k).remote) said.put.ends;
              ups = said.put.ups;
              labels = λ left. ap (λ (o : Option ℕ). is_some o) (sym said.put.labels) ∙ left;
            })
            said.put.ends now.due;
        puts = puts_then plan me may first work.effects next.effects now.puts said.puts;
      }

  downs_put : (place : EndPlace) (down : Option Down) (work : Work) → At work → At (gives (Wire place.wire down) (changes (with_told_down place.wire down) work))
  unfolding gives changes with_told_down
  downs_put place down work now = record {
    at = now.at;
    due = due_alike plan me may work.edge (with_told_down place.wire down work.edge) (record { me = refl; wires = refl; bits = refl; remotes = λ wire k. refl; ups = λ k. refl; labels = λ left. left }) refl now.due;
    puts = puts_then plan me may first work.effects (work.effects ++ Wire place.wire down ∷ []) now.puts (puts_one plan me may work.effects (Wire place.wire down) tt);
  }

  others_put : (change : EdgeState → EdgeState) (work : Work) → KeepsEnds work.edge (change work.edge) → (change work.edge).peering ≡ work.edge.peering → At work → At (changes change work)
  unfolding changes
  others_put change work keeps peering now = record {
    at = keeps.me ∙ now.at;
    due = due_alike plan me may work.edge (change work.edge) (record {
      me = keeps.me;
      wires = keeps.wire_on;
      bits = keeps.bits;
      remotes = λ wire k. ap (λ (all : ℕ → ℕ → EndState). (all wire k).remote) keeps.ends;
      ups = λ k. ap (λ (p : ℕ → Option Peering). is_up_with (p k)) peering;
      labels = λ left. ap (λ (n : ℕ). is_some (number_to_give n work.edge.kept)) (sym keeps.next_label)
          ∙ (ap (λ (ks : List Kept). is_some (number_to_give (change work.edge).next_label ks)) (sym keeps.kept) ∙ left);
    }) keeps.ends now.due;
    puts = now.puts;
  }

  rows_put : KeptByRows plan me At
  rows_put = record {
    placed = λ work now. now.at;
    advertises = λ place label content work here idle wished given now. advertises_puts place label content work here idle wished given now;
    withdraws = λ place label content work here told gone now. withdraws_puts place label content work here told gone now;
    tells = λ place label content last work here told carried other now. tells_puts place label content last work here told now;
    clears = λ place label content addresses work here told piece now. clears_puts place content addresses work here now;
    tells_down = λ place down work here now. downs_put place down work now;
    others = λ change work keeps peering now. others_put change work keeps peering now;
  }

-- so mending puts what is due
pub mending_puts_due : MendingPutsDue
mending_puts_due plan me may work at due states clears =
    (mends_keep plan me (IsPutting plan me may work.effects) (rows_put plan me may work.effects states clears) work
    (record { at = at; due = due; puts = puts_not plan me may work.effects })).puts
