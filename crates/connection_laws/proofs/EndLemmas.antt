-- The ends of an edge's connections: each that stands behind an input stood before it, or has come to stand by it.
use Rattle.std.proofs.Common.{◌≡◌, ◌⊎◌, ◌∙◌, nat_eq, ℕ, Bool, true, false, cond, Option, Some, None, inl, inr, refl, sym, ap}
use Rattle.std.proofs.lemmas.Bool.{eqb-true}
use Rattle.net_values.proofs.NumberLemmas.{same_number}
use Rattle.net_base.specs.declared.plan.places.EdgeId.{EdgeId}
use Rattle.net_base.specs.declared.trace.state_name.Reason.TheVariants as reason
use Rattle.ldp_grammar.specs.declared.message.Message.{Message}
use Rattle.session_core.specs.declared.reply.Reply.{Reply}
use Rattle.session_core.specs.Table.{SessionEvent}
use Rattle.edge_model.specs.Put.{put_reply, put_reply_to}
use Rattle.edge_model.specs.Session.{ends, happens, happens_to, happens_with_ends, had_said, says}
use Rattle.edge_model.specs.State.{Peering, is_there, with_peering}
use Rattle.edge_model.specs.Work.{Work, changes}
use Rattle.pw_messages.specs.LinkAnswers.{Answers}
use Rattle.edge_model.proofs.HeldLemmas.{clears_keep, ended_gone}
use Rattle.edge_model.proofs.MendLemmas.{says_nothing}
use Rattle.edge_model.proofs.SessionLemmas.{IsBesides, advice_works, happens_with_ends_works, says_works}

-- of these peers an end may have come to stand
pub record Stood (may : ℕ → Bool) (old new : Work) : Type 0 where
  pub each : (k : ℕ) → is_there (new.edge.peering k) ≡ true → (is_there (old.edge.peering k) ≡ true) ⊎ (may k ≡ true)

module _ (may : ℕ → Bool) where
  pub stood_same : (a b : Work) → b.edge.peering ≡ a.edge.peering → Stood may a b
  stood_same a b same_number = record { each = λ k is. inl (ap (λ (f : ℕ → Option Peering). is_there (f k)) (sym same_number) ∙ is) }

  pub stood_not : (work : Work) → Stood may work work
  stood_not work = record { each = λ k is. inl is }

  pub stood_then : (a b c : Work) → Stood may a b → Stood may b c → Stood may a c
  stood_then a b c first next = record { each = λ k is. by k (next.each k is) }
    where
      by : (k : ℕ) → (is_there (b.edge.peering k) ≡ true) ⊎ (may k ≡ true) → (is_there (a.edge.peering k) ≡ true) ⊎ (may k ≡ true)
      by k (inl there) = first.each k there
      by k (inr came) = inr came

  -- one session alone is worked on, and none is made where there was none
  stood_beside : (peer : EdgeId) (a b : Work) → IsBesides (λ k. nat_eq k peer.0) a.edge b.edge → (a.edge.peering peer.0 ≡ None → b.edge.peering peer.0 ≡ None) → Stood may a b
  stood_beside peer a b besides none = record { each = λ k is. by k is (nat_eq k peer.0) refl }
    where
      at_peer : (kept : Option Peering) → a.edge.peering peer.0 ≡ kept → is_there (b.edge.peering peer.0) ≡ true → is_there (a.edge.peering peer.0) ≡ true
      at_peer None gone there = absurd (cc (sym (ap is_there (none gone)) ∙ there))
      at_peer (Some kept) stands there = ap is_there stands

      by : (k : ℕ) → is_there (b.edge.peering k) ≡ true → (test : Bool) → nat_eq k peer.0 ≡ test → (is_there (a.edge.peering k) ≡ true) ⊎ (may k ≡ true)
      by k is true here =
          let at : k ≡ peer.0 = eqb-true k peer.0 here in
          inl (ap (λ (n : ℕ). is_there (a.edge.peering n)) at ∙ at_peer (a.edge.peering peer.0) refl (sym (ap (λ (n : ℕ). is_there (b.edge.peering n)) at) ∙ is))
      by k is false away = inl (sym (ap is_there (besides.others k away)) ∙ is)

  pub says_stood : (told : Answers) (peer : EdgeId) (message : ℕ → Message) (work : Work) → Stood may work (says told peer message work).work
  says_stood told peer message work =
      stood_beside peer work (says told peer message work).work (says_works told (λ k. nat_eq k peer.0) peer message work (same_number peer.0)).edge
      (λ none. ap (λ s. s.work.edge.peering peer.0) (says_nothing told peer message work none) ∙ none)

  pub happens_stood : (told : Answers) (peer : EdgeId) (event : SessionEvent) (work : Work) → Stood may work (happens_with_ends told peer event work)
  happens_stood told peer event work =
      stood_beside peer work (happens_with_ends told peer event work) (happens_with_ends_works told (λ k. nat_eq k peer.0) peer event work (same_number peer.0)).edge
      (λ none.
      ap (λ (f : ℕ → Option Peering). f peer.0) (clears_keep peer (happens told peer event work))
      ∙ (ap (λ (o : Option Peering). (happens_to told peer event o work).edge.peering peer.0) none ∙ none))

  pub advice_stood : (told : Answers) (peer : EdgeId) (reply : Reply) (work : Work) → Stood may work (had_said peer (put_reply told peer reply work)).work
  advice_stood told peer reply work =
      stood_beside peer work (had_said peer (put_reply told peer reply work)).work (advice_works told (λ k. nat_eq k peer.0) peer reply work (same_number peer.0)).edge
      (λ none.
      ap (λ (o : Option Peering). (had_said peer (put_reply_to told peer reply o work)).work.edge.peering peer.0) none
      ∙ (ap (λ (f : ℕ → Option Peering). f peer.0) (clears_keep peer (ends peer reason.LinkFault work)) ∙ ended_gone peer reason.LinkFault work))

  pub holds_stood : (peer : EdgeId) (kept now : Peering) (work : Work) → work.edge.peering peer.0 ≡ Some kept → Stood may work (changes (with_peering peer (Some now)) work)
  unfolding changes with_peering
  holds_stood peer kept now work stands = record { each = λ k is. by k (nat_eq k peer.0) refl is }
    where
      by : (k : ℕ) (test : Bool) → nat_eq k peer.0 ≡ test → is_there (cond test (Some now) (work.edge.peering k)) ≡ true → (is_there (work.edge.peering k) ≡ true) ⊎ (may k ≡ true)
      by k true here there = inl (ap (λ (n : ℕ). is_there (work.edge.peering n)) (eqb-true k peer.0 here) ∙ ap is_there stands)
      by k false away there = inl there
