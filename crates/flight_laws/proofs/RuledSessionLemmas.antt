-- What happens to a session of an edge at work, and what the edge says in it, keeps the rules of labels and of told contents.
use Rattle.std.proofs.Common.{◌≡◌, ◌<◌, ◌^◌, ◌++◌, ◌||◌, ◌∙◌, ℕ, Bool, true, false, cond, nat_eq, List, [], ◌∷◌, Option, Some, None, refl, sym, ap, subst, inr}
use Rattle.std.specs.List.{AllByRecursion}
use Rattle.net_values.proofs.BoolLemmas.{or_false, or_true}
use Rattle.net_values.proofs.NumberLemmas.{same_number}
use Rattle.net_base.specs.declared.plan.Plan.{Plan}
use Rattle.net_base.specs.declared.plan.places.EdgeId.{EdgeId}
use Rattle.net_base.specs.declared.trace.state_name.Reason.{Reason}
use Rattle.net_base.specs.declared.trace.state_name.StateName.{StateName}
use Rattle.net_base.specs.declared.trace.state_name.StateName.TheVariants as name
use Rattle.ldp_grammar.specs.declared.message.Message.{Message}
use Rattle.ldp_grammar.specs.Written.{written}
use Rattle.pw_signalling.specs.Rows.{lost}
use Rattle.session_core.specs.declared.peers.Peers.{Peers}
use Rattle.session_core.specs.declared.reply.Reply.{Reply}
use Rattle.session_core.specs.declared.reply.Reply.TheVariants as reply
use Rattle.session_core.specs.Messages.{message_of}
use Rattle.session_core.specs.Phase.{Phase}
use Rattle.session_core.specs.Session.{phase_name}
use Rattle.session_core.specs.Table.{SessionEvent, Outcome, Stay, Goes, Ends, outcome_of}
use Rattle.pw_messages.specs.Sender.{platform_of}
use Rattle.edge_model.specs.declared.effect.Effect.{Effect}
use Rattle.edge_model.specs.declared.effect.Effect.TheVariants as effect
use Rattle.edge_model.specs.Put.{Spoken, having_spoken, put_octets, put_replies, put_reply, with_spoken}
use Rattle.edge_model.specs.Session.{clears_ends, comes_of, ends, happens, happens_to, happens_with_ends, is_same_phase, says, says_to, tells_change, with_session, losing_ends}
use Rattle.edge_model.specs.State.{EdgeState, Peering, has_end, with_ends_beside, with_peering, with_kept}
use Rattle.edge_model.specs.Work.{Work, changes, gives, puts}
use Rattle.network_model.specs.Absorb.{taken_all}
use Rattle.flight_laws.specs.Ends.{ends_at}
use Rattle.flight_laws.specs.Meeting.{closes, said_to}
use Rattle.flight_laws.specs.Pair.{AreFit, having_put_all}
use Rattle.flight_laws.specs.Rules.{BindsGiven}
use Rattle.flight_laws.proofs.MentionLemmas.{reply_far, reply_own}
use Rattle.flight_laws.proofs.NameLemmas.{beside_fact, names_losing, names_still, split}
use Rattle.flight_laws.proofs.OutcomeLemmas.{FitEvent, FitOutcome, IsFitReply, outcome_fits}
use Rattle.flight_laws.proofs.RuledLemmas.{ChangesEnds, FitsIf, IsFitEnd, IsInward, IsQuietStep, IsRuled, SameEnds, WorksRuled, changes_keep, quiet_keeps, ruled_kept, says_octets, spoken_fits, steps_keep, still_stands}
use Rattle.flight_laws.proofs.SaidLemmas.{IsReady, ready, ready_reply}
use Rattle.flight_laws.proofs.ToldLemmas.{TellsAt, fresh_tells, reply_tells}
use Rattle.flight_laws.proofs.WorkLemmas.{closes-append, said-append, same_end}
use Rattle.flight_laws.proofs.WorksLemmas.{given_edge}

-- ---- replies

fit_reply : (own : Peers) (r : Reply) (id : ℕ) → AreFit own → IsFitReply r → id < 2 ^ 32 → IsReady (message_of r id own) own.me
fit_reply own reply.Init id fit is low = ready own (message_of reply.Init id own) fit (low, refl)
fit_reply own reply.KeepAlive id fit is low = ready own (message_of reply.KeepAlive id own) fit low
fit_reply own (reply.Notice status) id fit is low = ready_reply own (reply.Notice status) id fit is.0 (low, is.1, is.2, tt, tt)

pub reply_ruled : (plan : Plan) (me place : ℕ) (one other : EdgeState) (r : Reply) (id : ℕ) → AreFit (ends_at plan me place) → IsFitReply r → id < 2 ^ 32
    → IsRuled plan me place one other (message_of r id (ends_at plan me place))
reply_ruled plan me place one other r id fit is low = record {
  fit = fit;
  ready = fit_reply (ends_at plan me place) r id fit is low;
  own = reply_own plan one place r id (ends_at plan me place);
  far = reply_far plan other me r id (ends_at plan me place);
  tells = reply_tells plan me place r id (ends_at plan me place);
}

-- ---- quiet steps

same_ends : (edge : EdgeState) → SameEnds edge edge
same_ends edge = record { me = refl; ends = refl; bits = refl; next = refl; kept = refl }

puts_quiet : (peer : EdgeId) (bytes : List ℕ) (taken : Bool) (work : Work) → IsQuietStep work (puts peer bytes taken work)
unfolding puts
puts_quiet peer bytes taken work = record { same = same_ends work.edge; peering = refl; said = λ place. refl; closed = λ place. refl }

-- an effect that says nothing to a neighbour and closes no end
pub record SaysNothing (e : Effect) : Type 0 where
  pub says : (place : ℕ) → said_to place (e ∷ []) ≡ []
  pub closes : (place : ℕ) → Rattle.flight_laws.specs.Meeting.closes place (e ∷ []) ≡ false

pub gives_quiet : (e : Effect) (work : Work) → SaysNothing e → IsQuietStep work (gives e work)
unfolding gives
gives_quiet e work none = record {
  same = same_ends work.edge;
  peering = refl;
  said = λ place. said-append place work.effects (e ∷ []) ∙ (ap (λ (l : List ℕ). said_to place work.effects ++ l) (none.says place) ∙ same_end (said_to place work.effects));
  closed = λ place. closes-append place work.effects (e ∷ []) ∙ (ap (λ (b : Bool). closes place work.effects || b) (none.closes place) ∙ or_false (closes place work.effects));
}

pub session_nothing : (peer : EdgeId) (state : StateName) → SaysNothing (effect.Session peer state)
session_nothing peer state = record { says = λ place. refl; closes = λ place. refl }

-- ---- a message is put

module _ (plan : Plan) (others : ℕ → EdgeState) (me : ℕ) (first : EdgeState) (held : ℕ → Option (List ℕ)) where
  -- the link took it: what is then kept for the peer
  pub record IsPut (peer : EdgeId) (kept : Peering) (put : Spoken) : Type 0 where
    pub works : WorksRuled plan others me first held put.work
    pub stands : put.work.edge.peering peer.0 ≡ Some (having_spoken kept)
    pub taken : put.failed ≡ false

  fits_at : (peer : EdgeId) (kept : Peering) (work : Work) → work.edge.peering peer.0 ≡ Some kept → WorksRuled plan others me first held work → IsFitEnd (ends_at plan me peer.0) kept
  fits_at peer kept work at works = subst (FitsIf (ends_at plan me peer.0)) at (works.edge.sessions peer.0)

  spoken_is : (peer : EdgeId) (kept : Peering) (work : Work) → work.edge.peering peer.0 ≡ Some kept → changes (with_spoken peer) work ≡ changes (with_peering peer (Some (having_spoken kept))) work
  unfolding changes with_spoken
  spoken_is peer kept work at = rw at refl

  put_edge : (peer : EdgeId) (bytes : List ℕ) (taken : Bool) (work : Work) → (puts peer bytes taken work).edge ≡ work.edge
  unfolding puts
  put_edge peer bytes taken work = refl

  now_kept : (peer : EdgeId) (now : Peering) (work : Work) → (changes (with_peering peer (Some now)) work).edge.peering peer.0 ≡ Some now
  unfolding changes with_peering
  now_kept peer now work = rw (same_number peer.0) refl

  moved_me : (peer : EdgeId) (now : Peering) (work : Work) → (changes (with_peering peer (Some now)) work).edge.me ≡ work.edge.me
  unfolding changes with_peering
  moved_me peer now work = refl

  moved_names : (peer : EdgeId) (now : Peering) (work : Work) → Rattle.flight_laws.proofs.NameLemmas.KeepsNames work.edge (changes (with_peering peer (Some now)) work).edge
  unfolding changes with_peering
  moved_names peer now work = names_still work.edge (with_peering peer (Some now) work.edge) refl refl refl

  pub message_put : (peer : EdgeId) (kept : Peering) (m : Message) (work : Work) → work.edge.peering peer.0 ≡ Some kept
      → (nat_eq peer.0 me ≡ false → IsRuled plan me peer.0 work.edge (others peer.0) m) → WorksRuled plan others me first held work
      → IsPut peer kept (put_octets peer (written m (platform_of (ends_at plan me peer.0).me)) true work)
  message_put peer kept m work at ruled works =
      let bytes : List ℕ = written m (platform_of (ends_at plan me peer.0).me) in
      let put : Work = puts peer bytes true work in
      let at_put : put.edge.peering peer.0 ≡ Some kept = ap (λ (e : EdgeState). e.peering peer.0) (put_edge peer bytes true work) ∙ at in
      let put_works : WorksRuled plan others me first held put = quiet_keeps plan others me first held work put (puts_quiet peer bytes true work) works in
      let spoken : Work = changes (with_peering peer (Some (having_spoken kept))) put in
      let spoken_works : WorksRuled plan others me first held spoken =
      still_stands plan others me first held peer kept (having_spoken kept) put at_put refl (spoken_fits (ends_at plan me peer.0) kept (fits_at peer kept work at works)) put_works in
      rw (spoken_is peer kept put at_put) (record {
        works = says_octets plan others me first held peer m spoken
            (λ away. ruled_kept plan me peer.0 put.edge spoken.edge (others peer.0) m (moved_me peer (having_spoken kept) put) (moved_names peer (having_spoken kept) put)
            (subst (λ (e : EdgeState). IsRuled plan me peer.0 e (others peer.0) m) (sym (put_edge peer bytes true work)) (ruled away)))
            spoken_works;
        stands = ap (λ (e : EdgeState). e.peering peer.0) (given_edge (effect.Said peer bytes) spoken) ∙ now_kept peer (having_spoken kept) put;
        taken = refl;
      })

  -- ---- replies are put

  pub record ArePut (peer : EdgeId) (kept : Peering) (put : Spoken) : Type 0 where
    pub works : WorksRuled plan others me first held put.work
    pub stands : put.work.edge.peering peer.0 ≡ Some kept
    pub taken : put.failed ≡ false

  one_put : (peer : EdgeId) (kept : Peering) (r : Reply) (work : Work) → work.edge.peering peer.0 ≡ Some kept → IsFitReply r → WorksRuled plan others me first held work
      → IsPut peer kept (put_reply taken_all peer r work)
  one_put peer kept r work at is works =
      let fit : IsFitEnd (ends_at plan me peer.0) kept = fits_at peer kept work at works in
      rw at (subst (λ (p : Peers). IsPut peer kept (put_octets peer (written (message_of r kept.next_id p) (platform_of p.me)) true work)) (sym fit.session.peers)
      (message_put peer kept (message_of r kept.next_id (ends_at plan me peer.0)) work at (λ away. reply_ruled plan me peer.0 work.edge (others peer.0) r kept.next_id fit.fit is fit.numbered) works))

  pub replies_put : (peer : EdgeId) (rs : List Reply) (kept : Peering) (work : Work) → work.edge.peering peer.0 ≡ Some kept → AllByRecursion IsFitReply rs → WorksRuled plan others me first held work
      → ArePut peer (having_put_all rs kept) (put_replies taken_all peer rs work)
  replies_put peer [] kept work at all works = record { works = works; stands = at; taken = refl }
  replies_put peer (r ∷ rs) kept work at all works =
      let one : IsPut peer kept (put_reply taken_all peer r work) = one_put peer kept r work at all.0 works in
      rw one.taken (replies_put peer rs (having_spoken kept) (put_reply taken_all peer r work).work one.stands all.1 one.works)

  -- ---- a session ends

  pub end_ruled : (peer : EdgeId) (why : Reason) (work : Work) → WorksRuled plan others me first held work → WorksRuled plan others me first held (ends peer why work)
  unfolding gives changes with_peering
  end_ruled peer why work works = steps_keep plan others me first held held work (ends peer why work) (record {
    place = refl;
    keeps = names_still work.edge (ends peer why work).edge refl refl refl;
    most = works.edge.most;
    bits = works.edge.bits;
    tells = λ wire k. works.edge.tells wire k;
    sessions = λ k. split {P = FitsIf (ends_at plan me k) ((ends peer why work).edge.peering k)} (nat_eq k peer.0) (λ is. rw is tt) (λ apart. rw apart (works.edge.sessions k));
    each = λ place away.
        let before = works.left place away in
        record {
          messages = [];
          octets = said-append place (work.effects ++ effect.Session peer (name.Ended why) ∷ []) (effect.Closed peer ∷ [])
              ∙ (same_end (said_to place (work.effects ++ effect.Session peer (name.Ended why) ∷ [])) ∙ said-append place work.effects (effect.Session peer (name.Ended why) ∷ []));
          ruled = tt;
          bound = λ wire. before.bound wire;
          inward = split {P = IsInward place (held place) (ends peer why work)} (nat_eq place peer.0)
              (λ is. inr (
                rw is refl,
                closes-append place (work.effects ++ effect.Session peer (name.Ended why) ∷ []) (effect.Closed peer ∷ [])
                    ∙ rw is (or_true (closes place (work.effects ++ effect.Session peer (name.Ended why) ∷ []))),
              ))
              (λ apart.
              let closed : closes place (ends peer why work).effects ≡ closes place work.effects =
              closes-append place (work.effects ++ effect.Session peer (name.Ended why) ∷ []) (effect.Closed peer ∷ [])
              ∙ (rw apart (or_false (closes place (work.effects ++ effect.Session peer (name.Ended why) ∷ [])))
              ∙ (closes-append place work.effects (effect.Session peer (name.Ended why) ∷ []) ∙ or_false (closes place work.effects))) in
              rw (apart, closed) before.inward);
        };
  }) works

  -- ---- an event happens

  told_ruled : (peer : EdgeId) (old new : Phase) (work : Work) → WorksRuled plan others me first held work → WorksRuled plan others me first held (tells_change peer old new work)
  told_ruled peer old new work works = by_change (is_same_phase old new) where
    by_change : (same : Bool) → WorksRuled plan others me first held (cond same work (gives (effect.Session peer (phase_name new)) work))
    by_change true = works
    by_change false = quiet_keeps plan others me first held work (gives (effect.Session peer (phase_name new)) work)
        (gives_quiet (effect.Session peer (phase_name new)) work (session_nothing peer (phase_name new))) works

  comes_ruled : (peer : EdgeId) (kept : Peering) (outcome : Outcome) (work : Work) → work.edge.peering peer.0 ≡ Some kept → FitOutcome (ends_at plan me peer.0) outcome
      → WorksRuled plan others me first held work
      → WorksRuled plan others me first held (comes_of taken_all peer kept outcome work)
  comes_ruled peer kept Stay work at fits works = works
  comes_ruled peer kept (Goes next replies) work at fits works =
      let now : Peering = with_session next kept in
      let fit : IsFitEnd (ends_at plan me peer.0) kept = fits_at peer kept work at works in
      let moved : Work = changes (with_peering peer (Some now)) work in
      let moved_works : WorksRuled plan others me first held moved =
      still_stands plan others me first held peer kept now work at refl (record { session = fits.0; fit = fit.fit; numbered = fit.numbered }) works in
      let put : ArePut peer (having_put_all replies now) (put_replies taken_all peer replies moved) = replies_put peer replies now moved (now_kept peer now work) fits.1 moved_works in
      rw put.taken (told_ruled peer kept.session.phase next.phase (put_replies taken_all peer replies moved).work put.works)
  comes_ruled peer kept (Ends why replies) work at fits works =
      end_ruled peer why (put_replies taken_all peer replies work).work (replies_put peer replies kept work at fits works).works

  pub happens_ruled : (peer : EdgeId) (event : SessionEvent) (work : Work) → FitEvent event → WorksRuled plan others me first held work
      → WorksRuled plan others me first held (happens taken_all peer event work)
  happens_ruled peer event work is works = by_end (work.edge.peering peer.0) refl where
    by_end : (near : Option Peering) → work.edge.peering peer.0 ≡ near → WorksRuled plan others me first held (happens_to taken_all peer event near work)
    by_end None at = works
    by_end (Some kept) at =
        let fit : IsFitEnd (ends_at plan me peer.0) kept = fits_at peer kept work at works in
        comes_ruled peer kept (outcome_of kept.session event) work at (outcome_fits (ends_at plan me peer.0) kept.session event fit.fit fit.session is) works

  -- the ends beside a peer are lost
  lost_changes : (peer : EdgeId) (work : Work) → WorksRuled plan others me first held work → ChangesEnds plan others me work.edge (losing_ends peer work.edge)
  unfolding with_ends_beside with_kept
  lost_changes peer work works = record {
    place = refl;
    peering = refl;
    keeps = names_losing peer work.edge;
    most = works.edge.most;
    bits = works.edge.bits;
    tells = λ wire k. beside_fact (λ w p e. TellsAt plan me w p e) peer lost work.edge wire k (λ same. fresh_tells plan me wire k) (works.edge.tells wire k);
    bound = λ place wire away. beside_fact (λ w p e. p ≡ place → BindsGiven (others place) w me e.remote) peer lost work.edge wire place (λ same is. tt)
        (λ is. (works.left place away).bound wire) refl;
  }

  pub clears_ruled : (peer : EdgeId) (work : Work) → WorksRuled plan others me first held work → WorksRuled plan others me first held (clears_ends peer work)
  clears_ruled peer work works = by_end (has_end work.edge peer) where
    by_end : (stands : Bool) → WorksRuled plan others me first held (cond stands work (changes (losing_ends peer) work))
    by_end true = works
    by_end false = changes_keep plan others me first held (losing_ends peer) work (lost_changes peer work works) works

  pub event_ruled : (peer : EdgeId) (event : SessionEvent) (work : Work) → FitEvent event → WorksRuled plan others me first held work
      → WorksRuled plan others me first held (happens_with_ends taken_all peer event work)
  event_ruled peer event work is works = clears_ruled peer (happens taken_all peer event work) (happens_ruled peer event work is works)

  -- ---- a message is said

  pub says_ruled : (peer : EdgeId) (message : ℕ → Message) (work : Work)
      → ((id : ℕ) → id < 2 ^ 32 → AreFit (ends_at plan me peer.0) → nat_eq peer.0 me ≡ false → IsRuled plan me peer.0 work.edge (others peer.0) (message id))
      → WorksRuled plan others me first held work
      → WorksRuled plan others me first held (says taken_all peer message work).work
  says_ruled peer message work ruled works = by_end (work.edge.peering peer.0) refl where
    by_end : (near : Option Peering) → work.edge.peering peer.0 ≡ near → WorksRuled plan others me first held (says_to taken_all peer message near work).work
    by_end None at = works
    by_end (Some kept) at =
        let fit : IsFitEnd (ends_at plan me peer.0) kept = fits_at peer kept work at works in
        let put : IsPut peer kept (put_octets peer (written (message kept.next_id) (platform_of (ends_at plan me peer.0).me)) true work) =
        message_put peer kept (message kept.next_id) work at (λ away. ruled kept.next_id fit.numbered fit.fit away) works in
        rw (ap (λ (p : Peers). p.me) fit.session.peers)
        (clears_ruled peer (put_octets peer (written (message kept.next_id) (platform_of (ends_at plan me peer.0).me)) true work).work put.works)
