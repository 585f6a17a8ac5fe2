-- What the messages of a peer make of a session.
use Rattle.std.proofs.Common.{◌≡◌, ◌≤◌, ◌<◌, ◌+◌, ◌++◌, ◌∙◌, ℕ, true, false, List, [], ◌∷◌, length, Some, None, refl, sym, ap, subst, append_assoc, arith, ⊎_elim}
use Rattle.std.specs.List.{AllByRecursion}
use Rattle.net_base.specs.declared.trace.state_name.Reason.TheVariants as reason
use Rattle.net_values.specs.declared.addr.Addr.{Addr}
use Rattle.net_values.specs.declared.mac.Mac.{Mac}
use Rattle.net_values.proofs.BoolLemmas.{clash}
use Rattle.pw_tlvs.specs.declared.pw_fec.PwFec.{PwFec}
use Rattle.pw_messages.specs.Sender.{platform_of}
use Rattle.mac_withdraw.specs.Pieces.{most_in_piece}
use Rattle.ldp_grammar.specs.declared.message.Message.{Message}
use Rattle.ldp_grammar.specs.declared.message.Message.TheVariants.{Notification, Initialization, KeepAlive, AddressWithdraw, LabelMapping, LabelWithdraw, LabelRelease}
use Rattle.ldp_grammar.specs.declared.session_params.SessionParams.{SessionParams}
use Rattle.ldp_grammar.specs.declared.status_code.StatusCode.{StatusCode}
use Rattle.ldp_grammar.specs.Written.{Fits, mac_count, message_octets, writable, written}
use Rattle.ldp_grammar.specs.Written.{address_octets as address_octets_of}
use Rattle.ldp_grammar.proofs.OctetLemmas.{AreOctets, octet_front}
use Rattle.ldp_grammar.proofs.ShortLemmas.{written_is_short}
use Rattle.ldp_grammar.proofs.WrittenOctets.{octets_append, no_octets, written_are}
use Rattle.session_core.specs.declared.peers.Peers.{Peers}
use Rattle.session_core.specs.declared.reply.Reply.{Reply}
use Rattle.session_core.specs.declared.reply.Reply.TheVariants as reply
use Rattle.session_core.specs.Messages.{HasData, message_of}
use Rattle.session_core.specs.Parameters.{agreed, is_platform, proposal, proposal_refusal}
use Rattle.session_core.specs.Phase.{Phase}
use Rattle.session_core.specs.Phase as phase
use Rattle.session_core.specs.Reasons.{is_fatal, is_keep_alive}
use Rattle.session_core.specs.State.{SessionState, is_active}
use Rattle.session_core.specs.Table.{Heard, Received, Stay, Goes, Ends, enters_phase, outcome_of}
use Rattle.session_core.proofs.PutLemmas.{replies_are_put}
use Rattle.pw_tlvs.specs.Fec.{no_params}
use Rattle.flight_laws.specs.Flight.{is_initialization}
use Rattle.flight_laws.specs.Messages.{IsLeaving, IsSaidAcross, IsSound, IsStatusNotice, AreSaid, expiry, octets_of_all}
use Rattle.flight_laws.specs.Pair.{AreFit}
use Rattle.flight_laws.proofs.PieceLemmas.{withdraw_is_short}

-- ---- outcomes

-- the proposal of the other end opens a session
pub passive_init : (s : SessionState) (id : ℕ) (params : SessionParams) → s.phase ≡ phase.Initialized → is_active s.peers ≡ false → proposal_refusal s.peers params ≡ None
    → outcome_of s (Received (Initialization id params)) ≡ Goes (agreed s params) (reply.Init ∷ reply.KeepAlive ∷ [])
passive_init s id params at passive right = rw (at, passive, right) refl

pub active_init : (s : SessionState) (id : ℕ) (params : SessionParams) → s.phase ≡ phase.OpenSent → proposal_refusal s.peers params ≡ None
    → outcome_of s (Received (Initialization id params)) ≡ Goes (agreed s params) (reply.KeepAlive ∷ [])
active_init s id params at right = rw (at, right) refl

pub keep_alive : (s : SessionState) (id : ℕ) → s.phase ≡ phase.OpenRec → outcome_of s (Received (KeepAlive id)) ≡ Goes (enters_phase phase.Operational s) []
keep_alive s id at = rw at refl

pub leaving : (s : SessionState) (id : ℕ) → outcome_of s (Received (Notification id expiry None None)) ≡ Ends reason.PeerFatal []
leaving s id = by_phase s.phase refl where
  by_phase : (p : Phase) → s.phase ≡ p → outcome_of s (Received (Notification id expiry None None)) ≡ Ends reason.PeerFatal []
  by_phase phase.Initialized at = rw at refl
  by_phase phase.OpenSent at = rw at refl
  by_phase phase.OpenRec at = rw at refl
  by_phase phase.Operational at = rw at refl

-- a session that is up stays so
pub stays_up : (s : SessionState) (ends : Peers) (m : Message) → s.phase ≡ phase.Operational → IsSaidAcross ends m → is_fatal m ≡ false → outcome_of s (Received m) ≡ Stay
stays_up s ends (Initialization id params) at said fatal = rw at refl
stays_up s ends (KeepAlive id) at said fatal = rw at refl
stays_up s ends (Notification id status pw fec) at said fatal = rw (at, fatal) refl
stays_up s ends (AddressWithdraw id addresses fec macs) at said fatal = rw at refl
stays_up s ends (LabelMapping id fec label status points) at said fatal = rw at refl
stays_up s ends (LabelWithdraw id fec label) at said fatal = rw at refl
stays_up s ends (LabelRelease id fec label) at said fatal = rw at refl
stays_up s ends m at said fatal = absurd said

pub said_sender : (s : SessionState) (router : Addr) → is_platform s.peers.peer (platform_of router) ≡ true → outcome_of s (Heard (platform_of router)) ≡ Goes (record s { wait = 0 }) []
said_sender s router right = by_phase s.phase refl where
  by_phase : (p : Phase) → s.phase ≡ p → outcome_of s (Heard (platform_of router)) ≡ Goes (record s { wait = 0 }) []
  by_phase phase.Initialized at = rw (at, right) refl
  by_phase phase.OpenSent at = rw (at, right) refl
  by_phase phase.OpenRec at = rw (at, right) refl
  by_phase phase.Operational at = rw (at, right) refl

-- a message that leaves is one form
pub record HasLeft (m : Message) : Type 0 where
  pub id : ℕ
  pub is : m ≡ Notification id expiry None None

pub leaving_form : (ends : Peers) (m : Message) → IsSaidAcross ends m → is_fatal m ≡ true → HasLeft m
leaving_form ends (Initialization id params) said fatal = clash fatal
leaving_form ends (KeepAlive id) said fatal = clash fatal
leaving_form ends (Notification id status pw fec) said fatal = ⊎_elim
    (λ (h : IsLeaving status pw fec). record { id = id; is = rw (h.0, h.1, h.2) refl })
    (λ (h : IsStatusNotice status pw fec). clash (sym (ap (λ (c : StatusCode). c.fatal) h.0) ∙ fatal))
    said.1
leaving_form ends (AddressWithdraw id addresses fec macs) said fatal = clash fatal
leaving_form ends (LabelMapping id fec label status points) said fatal = clash fatal
leaving_form ends (LabelWithdraw id fec label) said fatal = clash fatal
leaving_form ends (LabelRelease id fec label) said fatal = clash fatal
leaving_form ends m said fatal = absurd said

pub record IsOpening (ends : Peers) (m : Message) : Type 0 where
  pub id : ℕ
  pub is : m ≡ Initialization id (proposal ends)

pub opening_form : (ends : Peers) (m : Message) → IsSaidAcross ends m → is_initialization m ≡ true → IsOpening ends m
opening_form ends (Initialization id params) said is = record { id = id; is = rw said.1 refl }
opening_form ends m said is = clash is

pub record IsKeeping (m : Message) : Type 0 where
  pub id : ℕ
  pub is : m ≡ KeepAlive id

pub keeping_form : (m : Message) → is_keep_alive m ≡ true → IsKeeping m
keeping_form (KeepAlive id) is = record { id = id; is = refl }
keeping_form m is = clash is

pub fatal_ends : (s : SessionState) (ends : Peers) (m : Message) → IsSaidAcross ends m → is_fatal m ≡ true → outcome_of s (Received m) ≡ Ends reason.PeerFatal []
fatal_ends s ends m said fatal = let form = leaving_form ends m said fatal in rw form.is (leaving s form.id)

-- ---- octets

address_octets : (xs : List ℕ) → AllByRecursion (λ octet. octet < 256) xs → AreOctets xs
address_octets [] all = no_octets
address_octets (x ∷ xs) all = octet_front x xs all.0 (address_octets xs all.1)

-- what an end says can be written, is short, and is octets
pub record IsReady (m : Message) (router : Addr) : Type 0 where
  pub can : writable m ≡ true
  pub fits : Fits m
  pub short : 6 + length (message_octets m) ≤ 256
  pub octets : AreOctets (written m (platform_of router))

pub ready_reply : (ends : Peers) (r : Reply) (id : ℕ) → AreFit ends → HasData r → Fits (message_of r id ends) → IsReady (message_of r id ends) ends.me
ready_reply ends r id fit has fits = record {
  can = replies_are_put.writable r id ends has;
  fits = fits;
  short = replies_are_put.short r id ends fit.peer.four;
  octets = replies_are_put.octets r id ends (platform_of ends.me) (address_octets ends.peer.0 fit.peer.octets) (address_octets ends.me.0 fit.me.octets);
}

-- a message without addresses
pub ready_sound : (ends : Peers) (m : Message) → AreFit ends → address_octets_of m ≡ 0 → mac_count m ≤ 16 → IsSound m → IsReady m ends.me
ready_sound ends m fit none few sound = record {
  can = sound.1;
  fits = sound.0;
  short = written_is_short m sound.0 none few;
  octets = written_are m (platform_of ends.me) sound.2 (address_octets ends.me.0 fit.me.octets);
}

-- a MAC withdraw
ready_withdraw : (ends : Peers) (id : ℕ) (pw : PwFec) (macs : List Mac) → AreFit ends → pw.params ≡ no_params → length macs ≤ most_in_piece → IsSound (AddressWithdraw id None (Some pw) (Some macs))
    → IsReady (AddressWithdraw id None (Some pw) (Some macs)) ends.me
ready_withdraw ends id pw macs fit bare few sound = record {
  can = sound.1;
  fits = sound.0;
  short = withdraw_is_short id pw macs bare few sound.0.3;
  octets = written_are (AddressWithdraw id None (Some pw) (Some macs)) (platform_of ends.me) sound.2 (address_octets ends.me.0 fit.me.octets);
}

pub ready : (ends : Peers) (m : Message) → AreFit ends → IsSaidAcross ends m → IsReady m ends.me
ready ends (Initialization id params) fit said =
    subst (λ (p : SessionParams). IsReady (Initialization id p) ends.me) (sym said.1)
    (ready_reply ends reply.Init id fit tt (
      said.0,
      record {
        version = omega arith;
        keepalive = omega (arith, fit.keepalive);
        limit = omega arith;
        max_pdu = omega (arith, fit.proper.most);
        receiver = record { router = fit.peer.four; space = omega arith };
      },
    ))
ready ends (KeepAlive id) fit said = ready_reply ends reply.KeepAlive id fit tt said
ready ends (Notification id status pw fec) fit said = ready_sound ends (Notification id status pw fec) fit refl (omega arith) said.0
ready ends (AddressWithdraw id None (Some pw) (Some macs)) fit said = ready_withdraw ends id pw macs fit said.1.0 said.1.1 said.0
ready ends (AddressWithdraw id addresses pw macs) fit said = absurd said.1
ready ends (LabelMapping id fec label status points) fit said = ready_sound ends (LabelMapping id fec label status points) fit refl (omega arith) said
ready ends (LabelWithdraw id fec label) fit said = ready_sound ends (LabelWithdraw id fec label) fit refl (omega arith) said
ready ends (LabelRelease id fec label) fit said = ready_sound ends (LabelRelease id fec label) fit refl (omega arith) said
ready ends m fit said = absurd said

pub all_octets : (ends : Peers) (ms : List Message) → AreFit ends → AreSaid ends ms → AreOctets (octets_of_all ends.me ms)
all_octets ends [] fit said = no_octets
all_octets ends (m ∷ ms) fit said = octets_append (written m (platform_of ends.me)) (octets_of_all ends.me ms) (ready ends m fit said.0).octets (all_octets ends ms fit said.1)

pub all_joined : (router : Addr) (xs ys : List Message) → octets_of_all router (xs ++ ys) ≡ octets_of_all router xs ++ octets_of_all router ys
all_joined router [] ys = refl
all_joined router (x ∷ xs) ys = ap (λ (l : List ℕ). written x (platform_of router) ++ l) (all_joined router xs ys)
    ∙ sym (append_assoc (written x (platform_of router)) (octets_of_all router xs) (octets_of_all router ys))

pub said-append : (ends : Peers) (xs ys : List Message) → AreSaid ends xs → AreSaid ends ys → AreSaid ends (xs ++ ys)
said-append ends [] ys one other = other
said-append ends (x ∷ xs) ys one other = (one.0, said-append ends xs ys one.1 other)
