-- A joined piece is heard like its two parts in turn, over every answer of a link.
use Rattle.std.proofs.Common.{◌≡◌, ◌<◌, ◌-◌, ◌==◌, ◌++◌, ◌∙◌, ℕ, zero, suc, Bool, true, false, List, [], ◌∷◌, Option, Some, None, length, slice_get, option_map, if◌then◌else◌, refl, sym, ap, subst, arith, append_assoc, length-append}
use Rattle.std.proofs.lemmas.Bool.{eqb-true}
use Rattle.net_base.specs.declared.outside.link_call.LinkCall.{LinkCall}
use Rattle.net_base.specs.declared.plan.Plan.{Plan}
use Rattle.net_base.specs.declared.plan.places.EdgeId.{EdgeId}
use Rattle.net_base.specs.declared.plan.wire_plan.WirePlan.{WirePlan}
use Rattle.net_values.specs.Octets.{AreOctets}
use Rattle.net_values.proofs.NumberLemmas.{same_number as self}
use Rattle.pw_tlvs.specs.declared.pw_fec.PwFec.{PwFec}
use Rattle.pw_tlvs.specs.declared.pw_status.PwStatus.{PwStatus}
use Rattle.ldp_grammar.specs.declared.message.Message.{Message}
use Rattle.ldp_grammar.specs.declared.message.Message.TheVariants.{Notification}
use Rattle.ldp_grammar.proofs.OctetLemmas.{octets_before}
use Rattle.ldp_stream.specs.FrontOf.{Front, More, Got, Bad, front_of}
use Rattle.ldp_stream.specs.State.{place_behind}
use Rattle.ldp_stream.proofs.FrontOfLemmas.{front_is_read}
use Rattle.pw_messages.specs.Content.{pw_status_code}
use Rattle.pw_messages.specs.LinkAnswers.{Answers}
use Rattle.status_exchange.specs.Wish.{is_status_told}
use Rattle.independent_model.specs.Calls.{independent_hears, independent_hears_on}
use Rattle.independent_model.specs.Hear.{hears_all, hears_by, independent_hears_few, independent_hears_front, independent_hears_message, independent_hears_messages, hears_notice, hears_of, independent_hears_status, learns}
use Rattle.independent_model.specs.State.{ConnectionState, Stopped, Receiver, IndepState, Receiving, Broken, receiver_set, with_connection, with_receiver, with_local, with_remote}
use Rattle.independent_model.specs.Tell.{octets_on, independent_puts, tells, independent_tells_by, tells_in}
use Rattle.independent_model.specs.Wires.{wire_named}
use Rattle.independent_model.specs.Work.{Goes, IndepOutcome, Stops, and_works}
use Rattle.switchover_model.specs.Laws.{SwitchHeardInParts}
use Rattle.switchover_model.proofs.DoesLemmas.{receiver_part}
use Rattle.switchover_model.proofs.NetworkLemmas.{held_in, held_is}

-- ---- what an edge hears a peer with

abbrev receiver_at : ℕ → IndepState → Option Receiver
receiver_at peer e = option_map receiver_part (e.connection peer)

set_twice : (peer : ℕ) (x y : Receiver) (e : IndepState) → with_receiver peer x (with_receiver peer y e) ≡ with_receiver peer x e
unfolding with_connection
set_twice peer x y e = λ i. record e { connection = λ p. by p (p == peer) i }
  where
    twice : (o : Option ConnectionState) → option_map (receiver_set x) (option_map (receiver_set y) o) ≡ option_map (receiver_set x) o
    twice None = refl
    twice (Some kept) = refl

    by : (p : ℕ) (b : Bool)
        → (if b then option_map (receiver_set x) (if peer == peer then option_map (receiver_set y) (e.connection peer) else e.connection peer) else if b then option_map
        (receiver_set y) (e.connection peer) else e.connection p)
        ≡ (if b then option_map (receiver_set x) (e.connection peer) else e.connection p)
    by p true = rw (self peer) (twice (e.connection peer))
    by p false = refl

set_same : (peer : ℕ) (x : Receiver) (e : IndepState) → receiver_at peer e ≡ Some x → with_receiver peer x e ≡ e
unfolding with_connection
set_same peer x e is = λ i. record e { connection = λ p. by p (p == peer) refl i }
  where
    same : (o : Option ConnectionState) → option_map receiver_part o ≡ Some x → option_map (receiver_set x) o ≡ o
    same None at = absurd (cc (at))
    same (Some kept) at = let one : kept.receiver ≡ x = cc (at) in ap (λ (v : Receiver). Some (receiver_set v kept)) (sym one)

    by : (p : ℕ) (b : Bool) → (p == peer) ≡ b → (if b then option_map (receiver_set x) (e.connection peer) else e.connection p) ≡ e.connection p
    by p true at = same (e.connection peer) is ∙ ap e.connection (sym (eqb-true p peer at))
    by p false at = refl

set_here : (peer : ℕ) (x : Receiver) (e : IndepState) (kept : ConnectionState) → e.connection peer ≡ Some kept → (with_receiver peer x e).connection peer ≡ Some (receiver_set x kept)
unfolding with_connection
set_here peer x e kept is = rw (self peer, is) refl

-- ---- what is told changes nothing of that

abbrev KeepsReceiver : ℕ → Option Receiver → IndepOutcome → Type 0
KeepsReceiver peer v (Goes e c) = receiver_at peer e ≡ v
KeepsReceiver peer v (Stops why e c) = Unit {0}

then_keeps : (peer : ℕ) (v : Option Receiver) (o : IndepOutcome) (f : IndepState → List LinkCall → IndepOutcome) → KeepsReceiver peer v o
    → ((e : IndepState) (c : List LinkCall) → receiver_at peer e ≡ v → KeepsReceiver peer v (f e c)) → KeepsReceiver peer v (and_works o f)
then_keeps peer v (Goes e c) f is more = more e c is
then_keeps peer v (Stops why e c) f is more = tt

module _ (plan : Plan) (told : Answers) (me : ℕ) (peer : EdgeId) where
  puts_keep : (kept : ConnectionState) (octets : List ℕ) (b : Bool) (e : IndepState) (c : List LinkCall) → e.connection peer.0 ≡ Some kept
      → KeepsReceiver peer.0 (receiver_at peer.0 e) (independent_puts peer kept octets b e c)
  unfolding with_connection
  puts_keep kept octets true e c is = rw (self peer.0, is) refl
  puts_keep kept octets false e c is = tt

  tells_keep : (k : ℕ) (e : IndepState) (c : List LinkCall) → KeepsReceiver peer.0 (receiver_at peer.0 e) (tells plan told me peer k e c)
  tells_keep k e c = by_row (slice_get plan.wires k)
    where
      by_peer : (row : WirePlan) (o : Option ConnectionState) → e.connection peer.0 ≡ o → KeepsReceiver peer.0 (receiver_at peer.0 e) (independent_tells_by plan told me peer k row o e c)
      by_peer row None is = refl
      by_peer row (Some kept) is = puts_keep kept (octets_on plan me row (e.local k) kept.next_id) (told (length c)) e c is

      by_row : (o : Option WirePlan) → KeepsReceiver peer.0 (receiver_at peer.0 e) (tells_in plan told me peer k o e c)
      by_row None = refl
      by_row (Some row) = by_peer row (e.connection peer.0) refl

  learns_keep : (k : ℕ) (s : PwStatus) (e : IndepState) → receiver_at peer.0 (learns k s e) ≡ receiver_at peer.0 e
  unfolding with_local with_remote
  learns_keep k s e = refl

  status_keeps : (k : ℕ) (s : PwStatus) (e : IndepState) (c : List LinkCall) → KeepsReceiver peer.0 (receiver_at peer.0 e) (independent_hears_status plan told me peer k s e c)
  status_keeps k s e c = by (is_status_told s (e.local k))
    where
      by : (b : Bool) → KeepsReceiver peer.0 (receiver_at peer.0 e) (if b then tells plan told me peer k (learns k s e) c else Goes (learns k s e) c)
      by true = subst (λ (v : Option Receiver). KeepsReceiver peer.0 v (tells plan told me peer k (learns k s e) c)) (learns_keep k s e) (tells_keep k (learns k s e) c)
      by false = learns_keep k s e

  of_keeps : (s : PwStatus) (o : Option ℕ) (e : IndepState) (c : List LinkCall) → KeepsReceiver peer.0 (receiver_at peer.0 e) (hears_of plan told me peer s o e c)
  of_keeps s None e c = refl
  of_keeps s (Some k) e c = status_keeps k s e c

  notice_keeps : (code : ℕ) (s : Option PwStatus) (fec : Option PwFec) (e : IndepState) (c : List LinkCall)
      → KeepsReceiver peer.0 (receiver_at peer.0 e) (hears_notice plan told me peer code s fec e c)
  notice_keeps code None fec e c = refl
  notice_keeps code (Some s) None e c = refl
  notice_keeps code (Some s) (Some fec) e c = by (code == pw_status_code)
    where
      by : (b : Bool) → KeepsReceiver peer.0 (receiver_at peer.0 e) (if b then hears_of plan told me peer s (wire_named plan me peer.0 fec.pw_id) e c else Goes e c)
      by true = of_keeps s (wire_named plan me peer.0 fec.pw_id) e c
      by false = refl

  message_keeps : (m : Message) (e : IndepState) (c : List LinkCall) → KeepsReceiver peer.0 (receiver_at peer.0 e) (independent_hears_message plan told me peer m e c)
  message_keeps (Notification id code s fec) e c = notice_keeps code.code s fec e c
  message_keeps m e c = refl

  messages_keep : (ms : List Message) (e : IndepState) (c : List LinkCall) (v : Option Receiver) → receiver_at peer.0 e ≡ v → KeepsReceiver peer.0 v (independent_hears_messages plan told me peer ms e c)
  messages_keep [] e c v is = is
  messages_keep (m ∷ ms) e c v is = then_keeps peer.0 v (independent_hears_message plan told me peer m e c) (λ e c. independent_hears_messages plan told me peer ms e c)
      (subst (λ (u : Option Receiver). KeepsReceiver peer.0 u (independent_hears_message plan told me peer m e c)) is (message_keeps m e c)) (λ e c at. messages_keep ms e c v at)

  -- ---- two parts

  then_same : (v : Option Receiver) (o : IndepOutcome) (f g : IndepState → List LinkCall → IndepOutcome) → KeepsReceiver peer.0 v o
      → ((e : IndepState) (c : List LinkCall) → receiver_at peer.0 e ≡ v → f e c ≡ g e c) → and_works o f ≡ and_works o g
  then_same v (Goes e c) f g is same = same e c is
  then_same v (Stops why e c) f g is same = refl

  then_then : (o : IndepOutcome) (f g : IndepState → List LinkCall → IndepOutcome) → and_works o (λ e c. and_works (f e c) g) ≡ and_works (and_works o f) g
  then_then (Goes e c) f g = refl
  then_then (Stops why e c) f g = refl

  few_at : (n base : ℕ) (held : List ℕ) (front : Front) (e : IndepState) (c : List LinkCall) → front_of 4096 held ≡ front → independent_hears_few plan told me peer (suc n) base held e c
      ≡ independent_hears_front plan told me peer (independent_hears_few plan told me peer n) base held front e c
  few_at n base held front e c is = ap (λ (f : Front). independent_hears_front plan told me peer (independent_hears_few plan told me peer n) base held f e c) is

  -- more turns than octets change nothing
  enough : (n m base : ℕ) (held : List ℕ) (e : IndepState) (c : List LinkCall) → AreOctets held → length held < n → length held < m → independent_hears_few plan told me peer n base held e c
      ≡ independent_hears_few plan told me peer m base held e c
  enough zero m base held e c octets few many = absurd (omega (arith, few))
  enough (suc n) zero base held e c octets few many = absurd (omega (arith, many))
  enough (suc n) (suc m) base held e c octets few many = by (λ b rest e c are one two. enough n m b rest e c are one two) (front_of 4096 held) refl
    where
      same : (o : IndepOutcome) (f g : IndepState → List LinkCall → IndepOutcome) → ((e : IndepState) (c : List LinkCall) → f e c ≡ g e c) → and_works o f ≡ and_works o g
      same (Goes e c) f g all = all e c
      same (Stops why e c) f g all = refl

      by : ((b : ℕ) (rest : List ℕ) (e : IndepState) (c : List LinkCall) → AreOctets rest → length rest < n → length rest < m → independent_hears_few plan told me peer n b rest e c
          ≡ independent_hears_few plan told me peer m b rest e c)
          → (front : Front) → front_of 4096 held ≡ front → independent_hears_few plan told me peer (suc n) base held e c ≡ independent_hears_few plan told me peer (suc m) base held e c
      by again More is = few_at n base held More e c is ∙ sym (few_at m base held More e c is)
      by again (Bad wrong) is = few_at n base held (Bad wrong) e c is ∙ sym (few_at m base held (Bad wrong) e c is)
      by again (Got pdu rest) is =
          let less : length rest < length held = front_is_read.shorter 4096 held rest pdu octets (omega arith) is in
          let behind : AreOctets rest = front_is_read.behind 4096 held rest pdu octets (omega arith) is in
          few_at n base held (Got pdu rest) e c is
          ∙ (same (independent_hears_messages plan told me peer pdu.messages e c)
          (λ e c. independent_hears_few plan told me peer n (place_behind base (length held - length rest)) rest e c)
          (λ e c. independent_hears_few plan told me peer m (place_behind base (length held - length rest)) rest e c)
          (λ e c. again (place_behind base (length held - length rest)) rest e c behind (omega (arith, less, few)) (omega (arith, less, many)))
          ∙ sym (few_at m base held (Got pdu rest) e c is))

  -- where what is left was put back, it is heard on with
  on_open : (base : ℕ) (held more : List ℕ) (e : IndepState) (c : List LinkCall) → receiver_at peer.0 e ≡ Some Stopped
      → independent_hears plan told me peer more (with_receiver peer.0 (Receiving base held) e) c ≡ hears_all plan told me peer base (held ++ more) e c
  on_open base held more e c deaf = by (e.connection peer.0) refl deaf
    where
      by : (o : Option ConnectionState) → e.connection peer.0 ≡ o → option_map receiver_part o ≡ Some Stopped
          → independent_hears plan told me peer more (with_receiver peer.0 (Receiving base held) e) c ≡ hears_all plan told me peer base (held ++ more) e c
      by None is none = absurd (cc (none))
      by (Some kept) is at =
          ap (λ (o : Option ConnectionState). independent_hears_on plan told me peer more o (with_receiver peer.0 (Receiving base held) e) c) (set_here peer.0 (Receiving base held) e kept is)
          ∙ ap (λ (s : IndepState). hears_all plan told me peer base (held ++ more) s c) (set_twice peer.0 Stopped (Receiving base held) e ∙ set_same peer.0 Stopped e deaf)

  parts : (n m base : ℕ) (octets more : List ℕ) (e : IndepState) (c : List LinkCall) → AreOctets (octets ++ more) → length octets < n → length (octets ++ more) < m
      → receiver_at peer.0 e ≡ Some Stopped
      → independent_hears_few plan told me peer m base (octets ++ more) e c ≡ and_works (independent_hears_few plan told me peer n base octets e c) (λ e c. independent_hears plan told me peer more e c)
  parts zero m base octets more e c are few many deaf = absurd (omega (arith, few))
  parts (suc n) zero base octets more e c are few many deaf = absurd (omega (arith, many))
  parts (suc n) (suc m) base octets more e c are few many deaf = by (λ b rest e c them one two at. parts n (suc m) b rest more e c them one two at) (front_of 4096 octets) refl
    where
      before : AreOctets octets
      before = octets_before octets more are

      by : ((b : ℕ) (rest : List ℕ) (e : IndepState) (c : List LinkCall) → AreOctets (rest ++ more) → length rest < n → length (rest ++ more) < suc m → receiver_at peer.0 e ≡ Some Stopped
          → independent_hears_few plan told me peer (suc m) b (rest ++ more) e c ≡ and_works (independent_hears_few plan told me peer n b rest e c) (λ e c. independent_hears plan told me peer more e c))
          → (front : Front) → front_of 4096 octets ≡ front → independent_hears_few plan told me peer (suc m) base (octets ++ more) e c
          ≡ and_works (independent_hears_few plan told me peer (suc n) base octets e c) (λ e c. independent_hears plan told me peer more e c)
      by again More is =
          enough (suc m) (suc (length (octets ++ more))) base (octets ++ more) e c are many (omega arith)
          ∙ (sym (on_open base octets more e c deaf) ∙ ap (λ (o : IndepOutcome). and_works o (λ e c. independent_hears plan told me peer more e c)) (sym (few_at n base octets More e c is)))
      by again (Bad wrong) is =
          few_at m base (octets ++ more) (Bad wrong) e c (front_is_read.bad_more 4096 octets more wrong are (omega arith) is)
          ∙ ap (λ (o : IndepOutcome). and_works o (λ e c. independent_hears plan told me peer more e c)) (sym (few_at n base octets (Bad wrong) e c is))
      by again (Got pdu rest) is =
          let whole : front_of 4096 (octets ++ more) ≡ Got pdu (rest ++ more) = front_is_read.got_more 4096 octets more rest pdu are (omega arith) is in
          let them : AreOctets (rest ++ more) = front_is_read.behind 4096 (octets ++ more) (rest ++ more) pdu are (omega arith) whole in
          let less : length rest < length octets = front_is_read.shorter 4096 octets rest pdu before (omega arith) is in
          let fewer : length (rest ++ more) < length (octets ++ more) = front_is_read.shorter 4096 (octets ++ more) (rest ++ more) pdu are (omega arith) whole in
          let size : length (octets ++ more) - length (rest ++ more) ≡ length octets - length rest = omega (arith, length-append octets more, length-append rest more) in
          few_at m base (octets ++ more) (Got pdu (rest ++ more)) e c whole
          ∙ (then_same (Some Stopped) (independent_hears_messages plan told me peer pdu.messages e c)
          (λ e c. independent_hears_few plan told me peer m (place_behind base (length (octets ++ more) - length (rest ++ more))) (rest ++ more) e c)
          (λ e c. and_works (independent_hears_few plan told me peer n (place_behind base (length octets - length rest)) rest e c) (λ e c. independent_hears plan told me peer more e c))
          (messages_keep pdu.messages e c (Some Stopped) deaf)
          (λ e c at. ap (λ (k : ℕ). independent_hears_few plan told me peer m (place_behind base k) (rest ++ more) e c) size
          ∙ (enough m (suc m) (place_behind base (length octets - length rest)) (rest ++ more) e c them (omega (arith, fewer, many)) (omega (arith, fewer, many))
          ∙ again (place_behind base (length octets - length rest)) rest e c them (omega (arith, less, few)) (omega (arith, fewer, many)) at))
          ∙ (then_then (independent_hears_messages plan told me peer pdu.messages e c) (λ e c. independent_hears_few plan told me peer n (place_behind base (length octets - length rest)) rest e c)
          (λ e c. independent_hears plan told me peer more e c)
          ∙ ap (λ (o : IndepOutcome). and_works o (λ e c. independent_hears plan told me peer more e c)) (sym (few_at n base octets (Got pdu rest) e c is))))

  deaf_at : (e : IndepState) (kept : ConnectionState) → e.connection peer.0 ≡ Some kept → receiver_at peer.0 (with_receiver peer.0 Stopped e) ≡ Some Stopped
  deaf_at e kept is = ap (option_map receiver_part) (set_here peer.0 Stopped e kept is)

  -- The octets that are held and come are octets. Where something stops the first part, the second is not heard.
  pub heard_in_parts : (first more : List ℕ) (e : IndepState) (c : List LinkCall)
      → ((base : ℕ) (held : List ℕ) → receiver_at peer.0 e ≡ Some (Receiving base held) → AreOctets (held ++ (first ++ more)))
      → independent_hears plan told me peer (first ++ more) e c ≡ and_works (independent_hears plan told me peer first e c) (λ e c. independent_hears plan told me peer more e c)
  heard_in_parts first more e c are = by (e.connection peer.0) refl
    where
      by_receiver : (kept : ConnectionState) → e.connection peer.0 ≡ Some kept → (receiver : Receiver) → kept.receiver ≡ receiver
          → hears_by plan told me peer (first ++ more) receiver e c ≡ and_works (hears_by plan told me peer first receiver e c) (λ e c. independent_hears plan told me peer more e c)
      by_receiver kept is (Receiving base held) at =
          let them : AreOctets ((held ++ first) ++ more) = subst AreOctets (sym (append_assoc held first more)) (are base held (ap (option_map receiver_part) is ∙ ap (λ (x : Receiver). Some x) at)) in
          ap (λ (l : List ℕ). hears_all plan told me peer base l (with_receiver peer.0 Stopped e) c) (sym (append_assoc held first more))
          ∙ parts (suc (length (held ++ first))) (suc (length ((held ++ first) ++ more))) base (held ++ first) more (with_receiver peer.0 Stopped e) c them (omega arith) (omega arith)
          (deaf_at e kept is)
      by_receiver kept is (Broken base wrong) at = refl
      by_receiver kept is Stopped at = sym (ap (λ (o : Option ConnectionState). independent_hears_on plan told me peer more o e c) is
          ∙ ap (λ (receiver : Receiver). hears_by plan told me peer more receiver e c) at)

      by : (o : Option ConnectionState) → e.connection peer.0 ≡ o → independent_hears_on plan told me peer (first ++ more) o e c
          ≡ and_works (independent_hears_on plan told me peer first o e c) (λ e c. independent_hears plan told me peer more e c)
      by None is = sym (ap (λ (o : Option ConnectionState). independent_hears_on plan told me peer more o e c) is)
      by (Some kept) is =
          ap (λ (receiver : Receiver). hears_by plan told me peer (first ++ more) receiver e c) refl ∙ by_receiver kept is kept.receiver refl

pub in_parts : SwitchHeardInParts
in_parts plan told me peer first more e c are =
    heard_in_parts plan told me peer first more e c (λ base held is. subst (λ (l : List ℕ). AreOctets (l ++ (first ++ more))) (held_is (e.connection peer.0) ∙ ap held_in is) are)
