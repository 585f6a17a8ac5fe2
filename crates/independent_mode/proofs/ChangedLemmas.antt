-- What a call has changed.
use Rattle.std.proofs.Common.{◌≡◌, ◌<◌, ◌≤◌, ◌+◌, ◌==◌, ◌++◌, ◌∙◌, ℕ, zero, suc, Bool, true, false, List, [], ◌∷◌, Option, Some, None, Result, Ok, Err, is_some, length, take, drop, slice_index_or, option_map, if◌then◌else◌, refl, ap, sym, subst, arith, append_assoc, append-nil}
use Rattle.std.proofs.lemmas.Bool.Decides.{nat_tests}
use Rattle.std.proofs.lemmas.List.{take-append-drop}
use Rattle.net_base.specs.declared.plan.Plan.{Plan}
use Rattle.net_base.specs.declared.plan.places.EdgeId.{EdgeId}
use Rattle.pw_tlvs.specs.declared.pw_fec.PwFec.{PwFec}
use Rattle.pw_tlvs.specs.declared.pw_status.PwStatus.{PwStatus}
use Rattle.net_values.specs.Octets.{AreOctets}
use Rattle.ldp_grammar.specs.declared.fault.Fault.{Fault}
use Rattle.ldp_grammar.specs.declared.message.Message.{Message}
use Rattle.ldp_grammar.specs.declared.message.Message.TheVariants.{Notification}
use Rattle.ldp_grammar.specs.declared.pdu.Pdu.{Pdu}
use Rattle.ldp_grammar.proofs.WrittenOctets.{octets_append}
use Rattle.ldp_stream.specs.State.{StreamState}
use Rattle.ldp_stream.proofs.FrontOfLemmas.{front_is_read}
use Rattle.status_exchange.specs.declared.wish.Wish.{Wish}
use Rattle.status_exchange.specs.Wish.{becomes}
use Rattle.independent_model.specs.declared.indep_stop.IndepStop.{IndepStop}
use Rattle.independent_model.specs.declared.indep_stop.IndepStop.TheVariants as stop
use Rattle.independent_model.specs.Hear.{learns}
use Rattle.independent_model.specs.State.{ConnectionState, IndepState, Stopped, Receiver, fresh_connection, receiver_set, with_connection, with_local, with_receiver, with_remote}
use Rattle.independent_model.specs.Wires.{wire_named}
use Rattle.independent_mode.specs.Changed.{ChangesOnly, HearsAll, HearsCome, HearsFront, HearsSome, IsCome, IsComeBy, ReadsTo, learns_message, learns_messages, learns_notice, learns_of, messages_of}
use Rattle.independent_mode.specs.Receiver.{HasNoReceiver, HasReceiver, IsGot, IsTakenOut, heard_by, kept_after, receiver_of}
use Rattle.independent_mode.proofs.TellLemmas.{put_twice}

-- ---- what is kept of one peer

pub only_same : (peer : ℕ) (edge : IndepState) → ChangesOnly peer edge edge
only_same peer edge = record { same = refl; others = λ k apart. refl; stands = refl }

pub only_both : (peer : ℕ) (a b c : IndepState) → ChangesOnly peer a b → ChangesOnly peer b c → ChangesOnly peer a c
only_both peer a b c one two = record {
  same = two.same ∙ ap (λ (e : IndepState). record e { connection = c.connection }) one.same;
  others = λ k apart. two.others k apart ∙ one.others k apart;
  stands = two.stands ∙ one.stands;
}

same_peer : (peer : ℕ) → (peer == peer) ≡ true
same_peer peer = grind (arith, nat_tests)

only_put : (peer : ℕ) (kept : Option ConnectionState) (edge : IndepState) → is_some kept ≡ is_some (edge.connection peer) → ChangesOnly peer edge (with_connection peer kept edge)
unfolding with_connection
only_put peer kept edge stands = record {
  same = refl;
  others = λ k apart. rw apart refl;
  stands = rw (same_peer peer) stands;
}

-- it is taken out and put back
pub only_put_back : (peer : ℕ) (kept said : ConnectionState) (first next last : IndepState) → Some kept ≡ first.connection peer → next ≡ with_connection peer None first
    → last ≡ with_connection peer (Some said) next → ChangesOnly peer first last
only_put_back peer kept said first next last was taken put =
    subst (ChangesOnly peer first) (sym (put ∙ (ap (with_connection peer (Some said)) taken ∙ put_twice peer None (Some said) first))) (only_put peer (Some said) first (ap is_some was))

-- there was none to be taken out
pub only_none : (peer : ℕ) (first next : IndepState) → None ≡ first.connection peer → next ≡ with_connection peer None first → ChangesOnly peer first next
only_none peer first next was taken = subst (ChangesOnly peer first) (sym taken) (only_put peer None first (ap is_some was))

-- ---- a connection stands, whether it is heard or not

begins : (peer : ℕ) (kept : ConnectionState) (edge : IndepState) → ChangesOnly peer (with_connection peer (Some fresh_connection) edge) (with_connection peer (Some kept) edge)
unfolding with_connection
begins peer kept edge = record {
  same = refl;
  others = λ k apart. rw apart refl;
  stands = rw (same_peer peer) refl;
}

pub begins_unheard : (peer : ℕ) (first last : IndepState) → last ≡ with_connection peer (Some (receiver_set Stopped fresh_connection)) first
    → ChangesOnly peer (with_connection peer (Some fresh_connection) first) last
begins_unheard peer first last is = subst (ChangesOnly peer (with_connection peer (Some fresh_connection) first)) (sym is) (begins peer (receiver_set Stopped fresh_connection) first)

pub begins_twice : (peer : ℕ) (kept : ConnectionState) (first next last : IndepState) → next ≡ with_connection peer (Some kept) first → last ≡ with_connection peer (Some fresh_connection) next
    → last ≡ with_connection peer (Some fresh_connection) first
begins_twice peer kept first next last is put = put ∙ (ap (with_connection peer (Some fresh_connection)) is ∙ put_twice peer (Some kept) (Some fresh_connection) first)

pub begins_same : (peer : ℕ) (first last : IndepState) → last ≡ with_connection peer (Some fresh_connection) first → ChangesOnly peer (with_connection peer (Some fresh_connection) first) last
begins_same peer first last is = subst (ChangesOnly peer (with_connection peer (Some fresh_connection) first)) (sym is) (only_same peer (with_connection peer (Some fresh_connection) first))

stands_fresh : (peer : ℕ) (edge : IndepState) → is_some ((with_connection peer (Some fresh_connection) edge).connection peer) ≡ true
unfolding with_connection
stands_fresh peer edge = rw (same_peer peer) refl

pub begun_stands : (peer : ℕ) (first last : IndepState) → ChangesOnly peer (with_connection peer (Some fresh_connection) first) last → is_some (last.connection peer) ≡ true
begun_stands peer first last only = only.stands ∙ stands_fresh peer first

-- ---- what is learned

learns_only : (peer wire : ℕ) (status : PwStatus) (a b : IndepState) → ChangesOnly peer a b → ChangesOnly peer (learns wire status a) (learns wire status b)
unfolding with_local with_remote
learns_only peer wire status a b only = record {
  same = ap (λ (e : IndepState). record (learns wire status e) { connection = b.connection }) only.same;
  others = only.others;
  stands = only.stands;
}

pub message_only : (plan : Plan) (me : ℕ) (peer : EdgeId) (message : Message) (a b : IndepState) → ChangesOnly peer.0 a b
    → ChangesOnly peer.0 (learns_message plan me peer message a) (learns_message plan me peer message b)
message_only plan me peer (Notification id code status fec) a b only = notice status fec
  where
    by_wire : (status : PwStatus) (o : Option ℕ) → ChangesOnly peer.0 (learns_of status o a) (learns_of status o b)
    by_wire status None = only
    by_wire status (Some wire) = learns_only peer.0 wire status a b only

    by_code : (status : PwStatus) (fec : PwFec) (test : Bool) → ChangesOnly peer.0 (if test then learns_of status (wire_named plan me peer.0 fec.pw_id) a else a)
        (if test then learns_of status (wire_named plan me peer.0 fec.pw_id) b else b)
    by_code status fec true = by_wire status (wire_named plan me peer.0 fec.pw_id)
    by_code status fec false = only

    notice : (status : Option PwStatus) (fec : Option PwFec) → ChangesOnly peer.0 (learns_notice plan me peer code.code status fec a) (learns_notice plan me peer code.code status fec b)
    notice None fec = only
    notice (Some status) None = only
    notice (Some status) (Some fec) = by_code status fec (code.code == 0x28)
message_only plan me peer message a b only = only

pub messages_only : (plan : Plan) (me : ℕ) (peer : EdgeId) (messages : List Message) (a b : IndepState) → ChangesOnly peer.0 a b
    → ChangesOnly peer.0 (learns_messages plan me peer messages a) (learns_messages plan me peer messages b)
messages_only plan me peer [] a b only = only
messages_only plan me peer (message ∷ messages) a b only =
    messages_only plan me peer messages (learns_message plan me peer message a) (learns_message plan me peer message b) (message_only plan me peer message a b only)

-- a status is learned, and then it is told
pub only_learned : (peer wire : ℕ) (status : PwStatus) (wish : Wish) (first next heard last : IndepState) → wish ≡ becomes status (first.local wire) → next ≡ with_remote wire (Some status) first
    → heard ≡ with_local wire wish next → ChangesOnly peer heard last → ChangesOnly peer (learns wire status first) last
only_learned peer wire status wish first next heard last becoming known called only =
    subst (λ (e : IndepState). ChangesOnly peer e last) (called ∙ (ap (λ (w : Wish). with_local wire w next) becoming ∙ ap (with_local wire (becomes status (first.local wire))) known)) only

-- ---- messages in order

learns_more : (plan : Plan) (me : ℕ) (peer : EdgeId) (messages : List Message) (place : ℕ) (message : Message) (edge : IndepState) → place < length messages → message
    ≡ slice_index_or messages place message
    → learns_messages plan me peer (take (place + 1) messages) edge ≡ learns_message plan me peer message (learns_messages plan me peer (take place messages) edge)
learns_more plan me peer [] place message edge within at = absurd (omega (arith, within))
learns_more plan me peer (x ∷ messages) zero message edge within at = ap (λ (m : Message). learns_message plan me peer m edge) (sym at)
learns_more plan me peer (x ∷ messages) (suc place) message edge within at =
    let next : suc place + 1 ≡ suc (place + 1) = omega arith in
    rw next (learns_more plan me peer messages place message (learns_message plan me peer x edge) (omega (arith, within)) at)

pub one_more_heard : (plan : Plan) (me : ℕ) (peer : EdgeId) (messages : List Message) (place : ℕ) (message : Message) (first edge last : IndepState) → place < length messages → message
    ≡ slice_index_or messages place message
    → ChangesOnly peer.0 (learns_messages plan me peer (take place messages) first) edge → ChangesOnly peer.0 (learns_message plan me peer message edge) last
    → ChangesOnly peer.0 (learns_messages plan me peer (take (place + 1) messages) first) last
one_more_heard plan me peer messages place message first edge last within at before heard =
    subst (λ (e : IndepState). ChangesOnly peer.0 e last) (sym (learns_more plan me peer messages place message first within at))
    (only_both peer.0 (learns_message plan me peer message (learns_messages plan me peer (take place messages) first)) (learns_message plan me peer message edge) last
    (message_only plan me peer message (learns_messages plan me peer (take place messages) first) edge before) heard)

pub front_heard : (plan : Plan) (me : ℕ) (peer : EdgeId) (messages : List Message) (count : ℕ) (first last : IndepState)
    → ChangesOnly peer.0 (learns_messages plan me peer (take count messages) first) last → HearsFront plan me peer messages first last
front_heard plan me peer messages count first last only = record { front = take count messages; rest = drop count messages; split = sym (take-append-drop count messages); changed = only }

all_taken : {X : Type 0} (count : ℕ) (xs : List X) → length xs ≤ count → take count xs ≡ xs
all_taken zero [] past = refl
all_taken (suc count) [] past = refl
all_taken zero (x ∷ xs) past = absurd (omega (arith, past))
all_taken (suc count) (x ∷ xs) past = ap (λ l. x ∷ l) (all_taken count xs (omega (arith, past)))

pub all_heard_of : (plan : Plan) (me : ℕ) (peer : EdgeId) (messages : List Message) (count : ℕ) (first last : IndepState) → length messages ≤ count
    → ChangesOnly peer.0 (learns_messages plan me peer (take count messages) first) last → ChangesOnly peer.0 (learns_messages plan me peer messages first) last
all_heard_of plan me peer messages count first last past only =
    subst (λ (ms : List Message). ChangesOnly peer.0 (learns_messages plan me peer ms first) last) (all_taken count messages past) only

-- ---- octets that come

learns_both : (plan : Plan) (me : ℕ) (peer : EdgeId) (one two : List Message) (edge : IndepState)
    → learns_messages plan me peer (one ++ two) edge ≡ learns_messages plan me peer two (learns_messages plan me peer one edge)
learns_both plan me peer [] two edge = refl
learns_both plan me peer (m ∷ one) two edge = learns_both plan me peer one two (learns_message plan me peer m edge)

messages_both : (one two : List Pdu) → messages_of (one ++ two) ≡ messages_of one ++ messages_of two
messages_both [] two = refl
messages_both (pdu ∷ one) two = ap (λ (l : List Message). pdu.messages ++ l) (messages_both one two) ∙ sym (append_assoc pdu.messages (messages_of one) (messages_of two))

reads_both : (one two : List Pdu) (a b c : List ℕ) → ReadsTo one a b → ReadsTo two b c → ReadsTo (one ++ two) a c
reads_both [] two a b c here next = subst (λ (l : List ℕ). ReadsTo two l c) (sym here) next
reads_both (pdu ∷ one) two a b c here next = (here.0, (here.1.0, (here.1.1.0, reads_both one two here.1.0 b c here.1.1.1 next)))

-- more octets stand behind
reads_longer : (pdus : List Pdu) (a b more : List ℕ) → AreOctets more → ReadsTo pdus a b → ReadsTo pdus (a ++ more) (b ++ more)
reads_longer [] a b more octets here = ap (λ (l : List ℕ). l ++ more) here
reads_longer (pdu ∷ pdus) a b more octets here =
    let all : AreOctets (a ++ more) = octets_append a more here.0 octets in
    (all, (here.1.0 ++ more, (front_is_read.got_more 4096 a more here.1.0 pdu all (omega arith) here.1.1.0, reads_longer pdus here.1.0 b more octets here.1.1.1)))

module _ (plan : Plan) (me : ℕ) (peer : EdgeId) where
  pub all_none : (octets : List ℕ) (edge : IndepState) → HearsAll plan me peer octets octets edge edge
  all_none octets edge = record { pdus = []; read = refl; changed = only_same peer.0 edge }

  -- what is heard after some messages
  only_after : (one two : List Message) (x y z : IndepState) → ChangesOnly peer.0 (learns_messages plan me peer one x) y → ChangesOnly peer.0 (learns_messages plan me peer two y) z
      → ChangesOnly peer.0 (learns_messages plan me peer (one ++ two) x) z
  only_after one two x y z before after =
      subst (λ (e : IndepState). ChangesOnly peer.0 e z) (sym (learns_both plan me peer one two x))
      (only_both peer.0 (learns_messages plan me peer two (learns_messages plan me peer one x)) (learns_messages plan me peer two y) z
      (messages_only plan me peer two (learns_messages plan me peer one x) y before) after)

  pub all_both : (a b c : List ℕ) (x y z : IndepState) → HearsAll plan me peer a b x y → HearsAll plan me peer b c y z → HearsAll plan me peer a c x z
  all_both a b c x y z one two = record {
    pdus = one.pdus ++ two.pdus;
    read = reads_both one.pdus two.pdus a b c one.read two.read;
    changed = subst (λ (ms : List Message). ChangesOnly peer.0 (learns_messages plan me peer ms x) z) (sym (messages_both one.pdus two.pdus))
        (only_after (messages_of one.pdus) (messages_of two.pdus) x y z one.changed two.changed);
  }

  all_longer : (a b more : List ℕ) (x y : IndepState) → AreOctets more → HearsAll plan me peer a b x y → HearsAll plan me peer (a ++ more) (b ++ more) x y
  all_longer a b more x y octets one = record { pdus = one.pdus; read = reads_longer one.pdus a b more octets one.read; changed = one.changed }

  -- one PDU more
  pub all_more : (a : List ℕ) (old new : StreamState) (pdu : Pdu) (x y z : IndepState) → HearsAll plan me peer a old.held x y → IsGot old new pdu
      → ChangesOnly peer.0 (learns_messages plan me peer pdu.messages y) z → HearsAll plan me peer a new.held x z
  all_more a old new pdu x y z one got heard = all_both a old.held new.held x y z one (record {
    pdus = pdu ∷ [];
    read = (got.octets, (new.held, (got.front, refl)));
    changed = subst (λ (ms : List Message). ChangesOnly peer.0 (learns_messages plan me peer ms y) z) (sym (append-nil pdu.messages)) heard;
  })

  pub some_both : (a b : List ℕ) (x y z : IndepState) → HearsAll plan me peer a b x y → HearsSome plan me peer b y z → HearsSome plan me peer a x z
  some_both a b x y z one two = record {
    pdus = one.pdus ++ two.pdus;
    left = two.left;
    read = reads_both one.pdus two.pdus a b two.left one.read two.read;
    heard = record {
      front = messages_of one.pdus ++ two.heard.front;
      rest = two.heard.rest;
      split = messages_both one.pdus two.pdus ∙ (ap (λ (l : List Message). messages_of one.pdus ++ l) two.heard.split ∙ sym (append_assoc (messages_of one.pdus) two.heard.front two.heard.rest));
      changed = only_after (messages_of one.pdus) two.heard.front x y z one.changed two.heard.changed;
    };
  }

  -- a front of the messages of one PDU more
  pub some_more : (a : List ℕ) (old new : StreamState) (pdu : Pdu) (x y z : IndepState) → HearsAll plan me peer a old.held x y → IsGot old new pdu
      → HearsFront plan me peer pdu.messages y z → HearsSome plan me peer a x z
  some_more a old new pdu x y z one got heard = some_both a old.held x y z one (record {
    pdus = pdu ∷ [];
    left = new.held;
    read = (got.octets, (new.held, (got.front, refl)));
    heard = record { front = heard.front; rest = heard.rest; split = append-nil pdu.messages ∙ heard.split; changed = heard.changed };
  })

  -- no message more
  pub some_all : (a b : List ℕ) (x y : IndepState) → HearsAll plan me peer a b x y → HearsSome plan me peer a x y
  some_all a b x y one = record {
    pdus = one.pdus;
    left = b;
    read = one.read;
    heard = record { front = messages_of one.pdus; rest = []; split = sym (append-nil (messages_of one.pdus)); changed = one.changed };
  }

  some_longer : (a more : List ℕ) (x y : IndepState) → AreOctets more → HearsSome plan me peer a x y → HearsSome plan me peer (a ++ more) x y
  some_longer a more x y octets one = record { pdus = one.pdus; left = one.left ++ more; read = reads_longer one.pdus a one.left more octets one.read; heard = one.heard }

  -- what is kept of the peer may be anything, before and behind
  some_only : (a : List ℕ) (w x y z : IndepState) → ChangesOnly peer.0 w x → HearsSome plan me peer a x y → ChangesOnly peer.0 y z → HearsSome plan me peer a w z
  some_only a w x y z before one behind = record {
    pdus = one.pdus;
    left = one.left;
    read = one.read;
    heard = record {
      front = one.heard.front;
      rest = one.heard.rest;
      split = one.heard.split;
      changed = only_both peer.0 (learns_messages plan me peer one.heard.front w) y z
          (only_both peer.0 (learns_messages plan me peer one.heard.front w) (learns_messages plan me peer one.heard.front x) y
          (messages_only plan me peer one.heard.front w x before) one.heard.changed)
          behind;
    };
  }

  -- ---- pieces

  take_more : (count at : ℕ) (xs : List ℕ) → take at xs ++ take count (drop at xs) ≡ take (at + count) xs
  take_more count zero xs = let same : 0 + count ≡ count = omega arith in rw same refl
  take_more zero (suc at) [] = let same : suc at + 0 ≡ suc at = omega arith in rw same refl
  take_more (suc count) (suc at) [] = let same : suc at + suc count ≡ suc (at + suc count) = omega arith in rw same refl
  take_more count (suc at) (x ∷ xs) = let same : suc at + count ≡ suc (at + count) = omega arith in rw same (ap (λ (l : List ℕ). x ∷ l) (take_more count at xs))

  -- one piece more is held
  pub all_fed : (start octets : List ℕ) (at count : ℕ) (old new : StreamState) (x y : IndepState) → AreOctets (take count (drop at octets)) → new
      ≡ record old { held = old.held ++ take count (drop at octets) }
      → HearsAll plan me peer (start ++ take at octets) old.held x y → HearsAll plan me peer (start ++ take (at + count) octets) new.held x y
  all_fed start octets at count old new x y are is one =
      subst (λ (s : StreamState). HearsAll plan me peer (start ++ take (at + count) octets) s.held x y) (sym is)
      (subst (λ (l : List ℕ). HearsAll plan me peer l (old.held ++ take count (drop at octets)) x y)
      (append_assoc start (take at octets) (take count (drop at octets)) ∙ ap (λ (l : List ℕ). start ++ l) (take_more count at octets))
      (all_longer (start ++ take at octets) old.held (take count (drop at octets)) x y are one))

  -- the pieces that come later change nothing
  pub some_fed : (start octets : List ℕ) (at : ℕ) (x y : IndepState) → AreOctets (drop at octets) → HearsSome plan me peer (start ++ take at octets) x y
      → HearsSome plan me peer (start ++ octets) x y
  some_fed start octets at x y are one =
      subst (λ (l : List ℕ). HearsSome plan me peer l x y) (append_assoc start (take at octets) (drop at octets) ∙ ap (λ (l : List ℕ). start ++ l) (take-append-drop at octets))
      (some_longer (start ++ take at octets) (drop at octets) x y are one)

  pub all_start : (start octets : List ℕ) (edge : IndepState) → HearsAll plan me peer (start ++ take 0 octets) start edge edge
  all_start start octets edge = subst (λ (l : List ℕ). HearsAll plan me peer l start edge edge) (sym (append-nil start)) (all_none start edge)

-- ---- by what the edge hears with

some_mapped : (receiver : Receiver) (o : Option ConnectionState) → is_some (option_map (receiver_set receiver) o) ≡ is_some o
some_mapped receiver None = refl
some_mapped receiver (Some kept) = refl

only_receiver : (peer : ℕ) (receiver : Receiver) (edge : IndepState) → ChangesOnly peer edge (with_receiver peer receiver edge)
only_receiver peer receiver edge = only_put peer (option_map (receiver_set receiver) (edge.connection peer)) edge (some_mapped receiver (edge.connection peer))

-- it is kept, or not
only_kept : {T : Type 0} (peer : ℕ) (s : StreamState) (r : Result T IndepStop) (edge : IndepState) → ChangesOnly peer edge (kept_after peer s r edge)
only_kept peer s (Ok done) edge = only_receiver peer (receiver_of s) edge
only_kept peer s (Err stop.Link) edge = only_same peer edge
only_kept peer s (Err (stop.Refused answer)) edge = only_receiver peer (receiver_of s) edge
only_kept peer s (Err stop.NoMemory) edge = only_same peer edge

-- nothing is heard
pub come_none : (plan : Plan) (me : ℕ) (peer : EdgeId) (octets : List ℕ) (old new : IndepState) → IsTakenOut peer.0 old new None → HearsCome plan me peer octets old new
come_none plan me peer octets old new out = record {
  whole = [];
  come = by (old.connection peer.0) out.1;
  some = subst (HearsSome plan me peer [] old) (sym out.0) (some_all plan me peer [] [] old old (all_none plan me peer [] old));
} where
  by : (o : Option ConnectionState) → HasNoReceiver o → IsComeBy o octets []
  by None none = refl
  by (Some kept) none = subst (λ (r : Receiver). IsCome r octets []) (sym none) refl

-- something is
pub come_some : {T : Type 0} (plan : Plan) (me : ℕ) (peer : EdgeId) (octets : List ℕ) (s now : StreamState) (r : Result T IndepStop) (old mid new last : IndepState)
    → IsTakenOut peer.0 old mid (Some s)
    → HearsSome plan me peer (s.held ++ octets) mid new → last ≡ kept_after peer.0 now r new → HearsCome plan me peer octets old last
come_some {T = T} plan me peer octets s now r old mid new last out heard is = record {
  whole = s.held ++ octets;
  come = by (old.connection peer.0) out.1;
  some = some_only plan me peer (s.held ++ octets) old mid new last (subst (ChangesOnly peer.0 old) (sym out.0) (only_receiver peer.0 Stopped old)) heard
      (subst (ChangesOnly peer.0 new) (sym is) (only_kept peer.0 now r new));
} where
  come_by : (o : Option Fault) → IsCome (heard_by s.base s.held o) octets (s.held ++ octets)
  come_by None = refl
  come_by (Some wrong) = tt

  by : (o : Option ConnectionState) → HasReceiver (receiver_of s) o → IsComeBy o octets (s.held ++ octets)
  by None none = absurd none
  by (Some kept) has = subst (λ (x : Receiver). IsCome x octets (s.held ++ octets)) (sym has) (come_by s.refused)
