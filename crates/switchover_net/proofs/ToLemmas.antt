-- An edge that is called for a peer puts to that peer alone.
use Rattle.std.proofs.Common.{◌≡◌, ◌+◌, ◌-◌, ◌==◌, ◌++◌, ◌∙◌, ℕ, zero, suc, Bool, true, false, List, [], ◌∷◌, Option, Some, None, length, slice_get, if◌then◌else◌, refl, sym, ap}
use Rattle.std.proofs.lemmas.Bool.{eq-eqb, eqb-true}
use Rattle.net_base.specs.declared.outside.link_call.LinkCall.{LinkCall}
use Rattle.net_base.specs.declared.plan.Plan.{Plan}
use Rattle.net_base.specs.declared.plan.places.EdgeId.{EdgeId}
use Rattle.net_base.specs.declared.plan.wire_plan.WirePlan.{WirePlan}
use Rattle.net_base.specs.outside.Link.{call_of}
use Rattle.pw_tlvs.specs.declared.pw_fec.PwFec.{PwFec}
use Rattle.pw_tlvs.specs.declared.pw_status.PwStatus.{PwStatus}
use Rattle.ldp_grammar.specs.declared.message.Message.{Message}
use Rattle.ldp_grammar.specs.declared.message.Message.TheVariants.{Notification}
use Rattle.ldp_stream.specs.FrontOf.{Front, More, Got, Bad, front_of}
use Rattle.ldp_stream.specs.State.{place_behind}
use Rattle.pw_messages.specs.Content.{pw_status_code}
use Rattle.pw_messages.specs.LinkAnswers.{Answers}
use Rattle.status_exchange.specs.declared.wish.Wish.{Wish}
use Rattle.status_exchange.specs.Wish.{is_same_wish, is_status_told}
use Rattle.independent_model.specs.Calls.{independent_connects, independent_hears, independent_hears_on, sets, tells_other}
use Rattle.independent_model.specs.Hear.{hears_by, independent_hears_few, independent_hears_front, independent_hears_message, independent_hears_messages, hears_notice, hears_of, independent_hears_status, learns}
use Rattle.independent_model.specs.State.{ConnectionState, Stopped, Receiver, IndepState, Receiving, Broken, fresh_connection, with_connection, with_receiver, with_local}
use Rattle.independent_model.specs.Tell.{octets_on, independent_puts, tells, independent_tells_by, tells_from, tells_in, tells_place}
use Rattle.independent_model.specs.Wires.{is_between, other_end, wire_named}
use Rattle.independent_model.specs.Work.{Goes, IndepOutcome, Stops, and_works}
use Rattle.switchover_model.specs.Network.{calls_of, put_to}
use Rattle.switchover_net.specs.Pipes.{bytes_of}

-- each call is for the peer
abbrev pub AllTo : ℕ → List LinkCall → Type 0
AllTo peer [] = Unit {0}
AllTo peer (call ∷ calls) = (call.peer.0 ≡ peer) × AllTo peer calls

more_to : (peer : ℕ) (calls : List LinkCall) (call : LinkCall) → call.peer.0 ≡ peer → AllTo peer calls → AllTo peer (calls ++ call ∷ [])
more_to peer [] call is all = (is, tt)
more_to peer (c ∷ cs) call is all = (all.0, more_to peer cs call is all.1)

pub all_said : (peer : ℕ) (calls : List LinkCall) → AllTo peer calls → put_to peer calls ≡ bytes_of calls
all_said peer [] all = refl
all_said peer (c ∷ cs) all = ap (λ (b : Bool). if b then c.bytes ++ put_to peer cs else put_to peer cs) (eq-eqb c.peer.0 peer all.0) ∙ ap (λ (l : List ℕ). c.bytes ++ l) (all_said peer cs all.1)

pub none_said : (peer other : ℕ) (calls : List LinkCall) → AllTo peer calls → (other == peer) ≡ false → put_to other calls ≡ []
none_said peer other [] all away = refl
none_said peer other (c ∷ cs) all away = ap (λ (b : Bool). if b then c.bytes ++ put_to other cs else put_to other cs) (not_there c.peer.0 all.0) ∙ none_said peer other cs all.1 away
  where
    not_there : (p : ℕ) → p ≡ peer → (p == other) ≡ false
    not_there p is = turned (p == other) refl
      where
        turned : (b : Bool) → (p == other) ≡ b → (p == other) ≡ false
        turned false e = e
        turned true e = absurd (cc (sym away ∙ eq-eqb other peer (sym (eqb-true p other e) ∙ is)))

module _ (plan : Plan) (told : Answers) (me : ℕ) (peer : EdgeId) where
  abbrev To : IndepOutcome → Type 0
  To o = AllTo peer.0 (calls_of o)

  then_to : (o : IndepOutcome) (f : IndepState → List LinkCall → IndepOutcome) → To o → ((e : IndepState) (c : List LinkCall) → AllTo peer.0 c → To (f e c)) → To (and_works o f)
  then_to (Goes e c) f all more = more e c all
  then_to (Stops why e c) f all more = all

  puts_to : (kept : ConnectionState) (octets : List ℕ) (b : Bool) (e : IndepState) (c : List LinkCall) → AllTo peer.0 c → To (independent_puts peer kept octets b e c)
  puts_to kept octets true e c all = more_to peer.0 c (call_of peer false octets true) refl all
  puts_to kept octets false e c all = more_to peer.0 c (call_of peer false octets false) refl all

  pub tells_to : (k : ℕ) (e : IndepState) (c : List LinkCall) → AllTo peer.0 c → To (tells plan told me peer k e c)
  tells_to k e c all = by_row (slice_get plan.wires k)
    where
      by_peer : (row : WirePlan) (o : Option ConnectionState) → To (independent_tells_by plan told me peer k row o e c)
      by_peer row None = all
      by_peer row (Some kept) = puts_to kept (octets_on plan me row (e.local k) kept.next_id) (told (length c)) e c all

      by_row : (o : Option WirePlan) → To (tells_in plan told me peer k o e c)
      by_row None = all
      by_row (Some row) = by_peer row (e.connection peer.0)

  place_to : (k : ℕ) (e : IndepState) (c : List LinkCall) → AllTo peer.0 c → To (tells_place plan told me peer k e c)
  place_to k e c all = by (is_between plan k me peer.0)
    where
      by : (b : Bool) → To (if b then tells plan told me peer k e c else Goes e c)
      by true = tells_to k e c all
      by false = all

  from_to : (k n : ℕ) (e : IndepState) (c : List LinkCall) → AllTo peer.0 c → To (tells_from plan told me peer k n e c)
  from_to k zero e c all = all
  from_to k (suc n) e c all = then_to (tells_place plan told me peer k e c) (λ e c. tells_from plan told me peer (k + 1) n e c) (place_to k e c all) (λ e c a. from_to (k + 1) n e c a)

  pub connects_to : (e : IndepState) → To (independent_connects plan told me peer e [])
  connects_to e = from_to 0 (length plan.wires) (with_connection peer.0 (Some fresh_connection) e) [] tt

  status_to : (k : ℕ) (s : PwStatus) (e : IndepState) (c : List LinkCall) → AllTo peer.0 c → To (independent_hears_status plan told me peer k s e c)
  status_to k s e c all = by (is_status_told s (e.local k))
    where
      by : (b : Bool) → To (if b then tells plan told me peer k (learns k s e) c else Goes (learns k s e) c)
      by true = tells_to k (learns k s e) c all
      by false = all

  of_to : (s : PwStatus) (o : Option ℕ) (e : IndepState) (c : List LinkCall) → AllTo peer.0 c → To (hears_of plan told me peer s o e c)
  of_to s None e c all = all
  of_to s (Some k) e c all = status_to k s e c all

  notice_to : (code : ℕ) (s : Option PwStatus) (fec : Option PwFec) (e : IndepState) (c : List LinkCall) → AllTo peer.0 c → To (hears_notice plan told me peer code s fec e c)
  notice_to code None fec e c all = all
  notice_to code (Some s) None e c all = all
  notice_to code (Some s) (Some fec) e c all = by (code == pw_status_code)
    where
      by : (b : Bool) → To (if b then hears_of plan told me peer s (wire_named plan me peer.0 fec.pw_id) e c else Goes e c)
      by true = of_to s (wire_named plan me peer.0 fec.pw_id) e c all
      by false = all

  message_to : (m : Message) (e : IndepState) (c : List LinkCall) → AllTo peer.0 c → To (independent_hears_message plan told me peer m e c)
  message_to (Notification id code s fec) e c all = notice_to code.code s fec e c all
  message_to m e c all = all

  messages_to : (ms : List Message) (e : IndepState) (c : List LinkCall) → AllTo peer.0 c → To (independent_hears_messages plan told me peer ms e c)
  messages_to [] e c all = all
  messages_to (m ∷ ms) e c all = then_to (independent_hears_message plan told me peer m e c) (λ e c. independent_hears_messages plan told me peer ms e c) (message_to m e c all) (λ e c a. messages_to ms e c a)

  few_to : (n base : ℕ) (held : List ℕ) (e : IndepState) (c : List LinkCall) → AllTo peer.0 c → To (independent_hears_few plan told me peer n base held e c)
  few_to zero base held e c all = all
  few_to (suc n) base held e c all = by (front_of 4096 held) (λ b r e c a. few_to n b r e c a)
    where
      by : (front : Front) → ((b : ℕ) (r : List ℕ) (e : IndepState) (c : List LinkCall) → AllTo peer.0 c → To (independent_hears_few plan told me peer n b r e c))
          → To (independent_hears_front plan told me peer (independent_hears_few plan told me peer n) base held front e c)
      by More again = all
      by (Got pdu rest) again = then_to (independent_hears_messages plan told me peer pdu.messages e c) (λ e c. independent_hears_few plan told me peer n (place_behind base (length held - length rest)) rest e c)
          (messages_to pdu.messages e c all) (λ e c a. again (place_behind base (length held - length rest)) rest e c a)
      by (Bad wrong) again = all

  pub hears_to : (octets : List ℕ) (e : IndepState) → To (independent_hears plan told me peer octets e [])
  hears_to octets e = by (e.connection peer.0)
    where
      by_receiver : (receiver : Receiver) → To (hears_by plan told me peer octets receiver e [])
      by_receiver (Receiving base held) = few_to (suc (length (held ++ octets))) base (held ++ octets) (with_receiver peer.0 Stopped e) [] tt
      by_receiver (Broken base wrong) = tt
      by_receiver Stopped = tt

      by : (o : Option ConnectionState) → To (independent_hears_on plan told me peer octets o e [])
      by None = tt
      by (Some kept) = by_receiver kept.receiver

  pub sets_to : (wire : ℕ) (wish : Wish) (e : IndepState) → other_end plan me wire ≡ Some peer → To (sets plan told me wire wish e [])
  sets_to wire wish e is = by (is_same_wish (e.local wire) wish)
    where
      by : (b : Bool) → To (if b then Goes e [] else tells_other plan told me wire (other_end plan me wire) (with_local wire wish e) [])
      by true = tt
      by false = rw is (tells_to wire (with_local wire wish e) [] tt)
