-- An edge that hears holds, of its peer, what is left of the octets behind the whole PDUs, and of every other neighbour what it held.
use Rattle.std.proofs.Common.{◌≡◌, ◌≤◌, ◌∙◌, not, ℕ, zero, suc, Bool, true, false, List, [], ◌∷◌, Option, Some, None, cond, option_map, length, nat_eq, refl, sym, ap, arith, inl, inr}
use Rattle.std.proofs.lemmas.Bool.{cases_Bool, eqb-true}
use Rattle.net_base.specs.declared.plan.Plan.{Plan}
use Rattle.net_base.specs.declared.plan.places.EdgeId.{EdgeId}
use Rattle.net_values.specs.Octets.{AreOctets}
use Rattle.net_values.proofs.BoolLemmas.{first_holds}
use Rattle.net_values.proofs.NumberLemmas.{same_number}
use Rattle.ldp_codec.specs.Decoded.{refusal_of}
use Rattle.ldp_grammar.specs.declared.pdu.Pdu.{Pdu}
use Rattle.ldp_stream.specs.FrontOf.{Front, More, Got, Bad, front_of}
use Rattle.ldp_stream.proofs.FrontOfLemmas.{front_is_read}
use Rattle.session_core.specs.Table.{SessionEvent, Refused}
use Rattle.edge_model.specs.Hear.{hears, hears_few, hears_front, hears_pdu, hears_within, holds}
use Rattle.edge_model.specs.Mend.{mends}
use Rattle.edge_model.specs.Parts.{HasFitMaximum}
use Rattle.edge_model.specs.Session.{happens_with_ends}
use Rattle.edge_model.specs.State.{Peering, is_there, with_peering}
use Rattle.edge_model.specs.Work.{Work, changes}
use Rattle.pw_messages.specs.LinkAnswers.{Answers}
use Rattle.edge_model.proofs.FitLemmas.{hears_pdu_fits}
use Rattle.edge_model.proofs.HeldLemmas.{Holding, hears_pdu_held, mends_held, refused_gone, rehold, with_ends_held, with_held}
use Rattle.edge_model.proofs.WalkLemmas.{hears_pdu_holds}
use Rattle.network_model.specs.State.{held_by}
use Rattle.seen_network.specs.Seen.{cut}
use Rattle.seen_laws.specs.Work.{TellsChanges, is_told_ended}
use Rattle.seen_laws.proofs.CutLemmas.{got_cut, more_stay}
use Rattle.seen_laws.proofs.TellLemmas.{any, happens_with_ends_tells, hear_tells}

-- ---- work that reads nothing of what is held leaves it as it is

-- what is held of each neighbour whose end stands is what was held
pub record KeepsHeld (old new : Work) : Type 0 where
  pub kept : (k : ℕ) → is_there (new.edge.peering k) ≡ true → held_by (new.edge.peering k) ≡ held_by (old.edge.peering k)

as_held : Work → Holding
as_held work k held = held_by (work.edge.peering k)

held_again : (work : Work) → rehold (as_held work) work ≡ work
unfolding as_held
held_again work = ap (λ (p : ℕ → Option Peering). record work { edge = record (work.edge) { peering = p } }) (λ i k. each k (work.edge.peering k) refl i) where
  each : (k : ℕ) (o : Option Peering) → work.edge.peering k ≡ o → option_map (with_held (as_held work) k) o ≡ o
  each k None is = refl
  each k (Some kept) is = ap (λ (l : List ℕ). Some (record kept { held = l })) (ap held_by is)

pub keeps_held : (f : Work → Work) → ((other : Holding) (work : Work) → f (rehold other work) ≡ rehold other (f work)) → (work : Work) → KeepsHeld work (f work)
unfolding as_held
keeps_held f blind work = record { kept = λ k there. by k ((f work).edge.peering k) (ap (λ (w : Work). w.edge.peering k) same) there } where
  same : f work ≡ rehold (as_held work) (f work)
  same = ap f (sym (held_again work)) ∙ blind (as_held work) work

  by : (k : ℕ) (o : Option Peering) → o ≡ option_map (with_held (as_held work) k) o → is_there o ≡ true → held_by o ≡ held_by (work.edge.peering k)
  by k None is there = absurd (cc there)
  by k (Some kept) is there = ap held_by is

pub mends_keep_held : (plan : Plan) (told : Answers) (work : Work) → KeepsHeld work (mends plan told work)
mends_keep_held plan told work = keeps_held (mends plan told) (mends_held plan told) work

pub happens_keep_held : (told : Answers) (peer : EdgeId) (event : SessionEvent) (work : Work) → KeepsHeld work (happens_with_ends told peer event work)
happens_keep_held told peer event work = keeps_held (happens_with_ends told peer event) (λ other next. with_ends_held told other peer event next) work

pdu_keeps_held : (plan : Plan) (told : Answers) (peer : EdgeId) (pdu : Pdu) (work : Work) → KeepsHeld work (hears_pdu plan told peer pdu work)
pdu_keeps_held plan told peer pdu work = keeps_held (hears_pdu plan told peer pdu) (λ other next. hears_pdu_held plan told other peer pdu next) work

-- ---- octets of a peer

pub record HoldsRest (peer : EdgeId) (octets : List ℕ) (old new : Work) : Type 0 where
  -- an end that stands stood before
  pub stood : (k : ℕ) → is_there (new.edge.peering k) ≡ true → is_there (old.edge.peering k) ≡ true
  pub rest : is_there (new.edge.peering peer.0) ≡ true → held_by (new.edge.peering peer.0) ≡ cut octets
  pub others : (k : ℕ) → nat_eq k peer.0 ≡ false → is_there (new.edge.peering k) ≡ true → held_by (new.edge.peering k) ≡ held_by (old.edge.peering k)

gone : {P : Type 0} (o : Option Peering) → o ≡ None → is_there o ≡ true → P
gone None is there = absurd (cc there)
gone (Some kept) is there = absurd (cc is)

-- octets are held
holds_rest : (peer : EdgeId) (octets : List ℕ) (near : Option Peering) (work : Work) → work.edge.peering peer.0 ≡ near → cut octets ≡ octets → HoldsRest peer octets work (holds peer octets near work)
unfolding changes with_peering
holds_rest peer octets None work is whole = record { stood = λ k there. there; rest = λ there. gone (work.edge.peering peer.0) is there; others = λ k apart there. refl }
holds_rest peer octets (Some kept) work is whole = record {
  stood = λ k there. before k there;
  rest = λ there. here (nat_eq peer.0 peer.0) (same_number peer.0) ∙ sym whole;
  others = λ k apart there. rw apart refl;
}
  where
    here : (b : Bool) → b ≡ true → held_by (cond b (Some (record kept { held = octets })) (work.edge.peering peer.0)) ≡ octets
    here true e = refl
    here false e = absurd (cc e)

    before : (k : ℕ) → is_there (cond (nat_eq k peer.0) (Some (record kept { held = octets })) (work.edge.peering k)) ≡ true → is_there (work.edge.peering k) ≡ true
    before k there = elim (cases_Bool (nat_eq k peer.0)) [
      | inl is_peer ↦ ap (λ (n : ℕ). is_there (work.edge.peering n)) (eqb-true k peer.0 is_peer) ∙ ap is_there is
      | inr other ↦ rw other at there
    ]

few_rest : (plan : Plan) (told : Answers) (peer : EdgeId) (n : ℕ) (octets : List ℕ) (work : Work) → length octets ≤ n → AreOctets octets → HasFitMaximum (work.edge.peering peer.0)
    → HoldsRest peer octets work (hears_few plan told peer n octets work)
few_rest plan told peer zero [] work few are fits = holds_rest peer [] (work.edge.peering peer.0) work refl refl
few_rest plan told peer zero (x ∷ xs) work few are fits = absurd (omega (arith, few))
few_rest plan told peer (suc n) octets work few are fits = within (λ rest next. few_rest plan told peer n rest next) (work.edge.peering peer.0) refl fits where
  Again : Type 0
  Again = (rest : List ℕ) (next : Work) → length rest ≤ n → AreOctets rest → HasFitMaximum (next.edge.peering peer.0) → HoldsRest peer rest next (hears_few plan told peer n rest next)

  front : Again → (kept : Peering) → work.edge.peering peer.0 ≡ Some kept → kept.session.max_pdu ≤ 4096 → (stands : Front) → front_of kept.session.max_pdu octets ≡ stands
      → HoldsRest peer octets work (hears_front plan told peer (hears_few plan told peer n) kept octets stands work)
  front again kept is most More stands = holds_rest peer octets (Some kept) work is (more_stay kept.session.max_pdu octets are most stands)
  front again kept is most (Got pdu rest) stands =
      let next : Work = hears_pdu plan told peer pdu work in
      let shorter = front_is_read.shorter kept.session.max_pdu octets rest pdu are most stands in
      let later : HoldsRest peer rest next (hears_few plan told peer n rest next) =
      again rest next (omega (arith, shorter, few)) (front_is_read.behind kept.session.max_pdu octets rest pdu are most stands) (hears_pdu_fits plan told peer.0 peer pdu work fits) in
      let tells : TellsChanges any work next = hears_pdu_holds plan told (TellsChanges any) (hear_tells plan told) peer pdu work in
      record {
        stood = λ k there. first_holds (is_there (work.edge.peering k)) (not (is_told_ended k tells.more)) (sym (tells.stands k) ∙ later.stood k there);
        rest = λ there. later.rest there ∙ sym (got_cut kept.session.max_pdu octets rest pdu are most stands);
        others = λ k apart there. later.others k apart there ∙ (pdu_keeps_held plan told peer pdu work).kept k (later.stood k there);
      }
  front again kept is most (Bad fault) stands =
      let refused : Work = happens_with_ends told peer (Refused (refusal_of fault)) work in
      let tells : TellsChanges any work refused = happens_with_ends_tells any told peer (Refused (refusal_of fault)) work in
      record {
        stood = λ k there. first_holds (is_there (work.edge.peering k)) (not (is_told_ended k tells.more)) (sym (tells.stands k) ∙ there);
        rest = λ there. gone (refused.edge.peering peer.0) (refused_gone told peer (refusal_of fault) work) there;
        others = λ k apart there. (happens_keep_held told peer (Refused (refusal_of fault)) work).kept k there;
      }

  within : Again → (near : Option Peering) → work.edge.peering peer.0 ≡ near → HasFitMaximum near
      → HoldsRest peer octets work (hears_within plan told peer (hears_few plan told peer n) octets near work)
  within again None is most = record { stood = λ k there. there; rest = λ there. gone (work.edge.peering peer.0) is there; others = λ k apart there. refl }
  within again (Some kept) is most = front again kept is most (front_of kept.session.max_pdu octets) refl

pub hears_rest : (plan : Plan) (told : Answers) (peer : EdgeId) (octets : List ℕ) (work : Work) → AreOctets octets → HasFitMaximum (work.edge.peering peer.0)
    → HoldsRest peer octets work (hears plan told peer octets work)
hears_rest plan told peer octets work are fits = few_rest plan told peer (suc (length octets)) octets work (omega arith) are fits
