-- A joined piece of octets is heard like its two parts in turn.
use Rattle.std.proofs.Common.{◌≡◌, ◌≤◌, ◌++◌, ◌∙◌, ℕ, zero, suc, true, false, List, [], length, Option, Some, None, min, refl, sym, ap, subst, append_assoc, arith}
use Rattle.net_base.specs.declared.plan.Plan.{Plan}
use Rattle.net_base.specs.declared.plan.places.EdgeId.{EdgeId}
use Rattle.ldp_codec.specs.Decoded.{refusal_of}
use Rattle.net_values.specs.Octets.{AreOctets}
use Rattle.ldp_stream.specs.FrontOf.{Front, More, Got, Bad, front_of}
use Rattle.ldp_stream.specs.Hearing.{Hearer, Left, hear, hear_few, hear_front, hear_within}
use Rattle.ldp_stream.proofs.HearingLemmas.{in_parts}
use Rattle.session_core.specs.Table.{Refused}
use Rattle.pw_messages.specs.LinkAnswers.{Answers}
use Rattle.edge_model.specs.Hear.{hears, hears_few, hears_front, hears_on, hears_pdu, hears_within, holds, octets_input}
use Rattle.edge_model.specs.Mend.{mends}
use Rattle.edge_model.specs.Parts.{EdgeHearsInParts, HasFitMaximum, takes_octets}
use Rattle.edge_model.specs.Session.{happens_with_ends}
use Rattle.edge_model.specs.State.{Peering, has_end, is_there, with_peering}
use Rattle.edge_model.specs.Work.{Work, changes}
use Rattle.edge_model.proofs.FitLemmas.{hears_pdu_fits, step_fits, with_ends_fit}
use Rattle.edge_model.proofs.HeldLemmas.{hears_few_held, held_is, is_set, refused_gone}

-- an edge as an end that hears PDUs, whatever it holds. A maximum that no session can have is never met
abbrev maximum : Option Peering → Option ℕ
maximum None = None
maximum (Some kept) = Some (min kept.session.max_pdu 4096)

maximum_within : (kept : Option Peering) (max : ℕ) → maximum kept ≡ Some max → max ≤ 4096
maximum_within None max is = absurd (cc (is))
maximum_within (Some kept) max is =
    let same : min kept.session.max_pdu 4096 ≡ max = cc (is) in
    omega (arith, same)

abbrev hearer : Plan → Answers → EdgeId → Hearer Work
hearer plan told peer = record {
  max_of = λ work. maximum (work.edge.peering peer.0);
  hears = λ work pdu. hears_pdu plan told peer pdu work;
  refuses = λ work fault. happens_with_ends told peer (Refused (refusal_of fault)) work;
  within = λ work max is. maximum_within (work.edge.peering peer.0) max is;
  ends = λ work fault. ap maximum (refused_gone told peer (refusal_of fault) work);
}

-- octets are held
abbrev holding : List ℕ → Peering → Peering
holding octets kept = record kept { held = octets }

-- what is left is held
abbrev settled : EdgeId → Left Work → Work
settled peer left = holds peer left.rest (left.state.edge.peering peer.0) left.state

smaller : (max : ℕ) → max ≤ 4096 → min max 4096 ≡ max
smaller max fits = omega arith

-- the edge hears as that end does
as_hearer : (plan : Plan) (told : Answers) (peer : EdgeId) (n : ℕ) (octets : List ℕ) (work : Work) → HasFitMaximum (work.edge.peering peer.0)
    → hears_few plan told peer n octets work ≡ settled peer (hear_few (hearer plan told peer) n octets work)
as_hearer plan told peer zero octets work fits = refl
as_hearer plan told peer (suc n) octets work fits = within (λ rest next here. as_hearer plan told peer n rest next here) (work.edge.peering peer.0) refl fits where
  Again : Type 0
  Again = (rest : List ℕ) (next : Work) → HasFitMaximum (next.edge.peering peer.0) → hears_few plan told peer n rest next ≡ settled peer (hear_few (hearer plan told peer) n rest next)

  front : Again → (kept : Peering) → work.edge.peering peer.0 ≡ Some kept → (stands : Front)
      → hears_front plan told peer (hears_few plan told peer n) kept octets stands work ≡ settled peer (hear_front (hearer plan told peer) (hear_few (hearer plan told peer) n) work octets stands)
  front again kept is More = sym (ap (λ (o : Option Peering). holds peer octets o work) is)
  front again kept is (Got pdu rest) = again rest (hears_pdu plan told peer pdu work) (hears_pdu_fits plan told peer.0 peer pdu work fits)
  front again kept is (Bad fault) =
      let refused : Work = happens_with_ends told peer (Refused (refusal_of fault)) work in
      sym (ap (λ (o : Option Peering). holds peer [] o refused) (refused_gone told peer (refusal_of fault) work))

  within : Again → (kept : Option Peering) → work.edge.peering peer.0 ≡ kept → HasFitMaximum kept
      → hears_within plan told peer (hears_few plan told peer n) octets kept work ≡ settled peer (hear_within (hearer plan told peer) (hear_few (hearer plan told peer) n) work octets (maximum kept))
  within again None is mine = sym (ap (λ (o : Option Peering). holds peer [] o work) is)
  within again (Some kept) is mine =
      front again kept is (front_of kept.session.max_pdu octets)
      ∙ ap (λ (max : ℕ). settled peer (hear_front (hearer plan told peer) (hear_few (hearer plan told peer) n) work octets (front_of max octets))) (sym (smaller kept.session.max_pdu mine))

-- and its maximum stays one that a session can have
hearer_fits : (plan : Plan) (told : Answers) (peer : EdgeId) (n : ℕ) (octets : List ℕ) (work : Work) → HasFitMaximum (work.edge.peering peer.0)
    → HasFitMaximum ((hear_few (hearer plan told peer) n octets work).state.edge.peering peer.0)
hearer_fits plan told peer zero octets work fits = fits
hearer_fits plan told peer (suc n) octets work fits = within (λ rest next here. hearer_fits plan told peer n rest next here) (maximum (work.edge.peering peer.0)) where
  Again : Type 0
  Again = (rest : List ℕ) (next : Work) → HasFitMaximum (next.edge.peering peer.0) → HasFitMaximum ((hear_few (hearer plan told peer) n rest next).state.edge.peering peer.0)

  front : Again → (stands : Front) → HasFitMaximum ((hear_front (hearer plan told peer) (hear_few (hearer plan told peer) n) work octets stands).state.edge.peering peer.0)
  front again More = fits
  front again (Got pdu rest) = again rest (hears_pdu plan told peer pdu work) (hears_pdu_fits plan told peer.0 peer pdu work fits)
  front again (Bad fault) = with_ends_fit told peer.0 peer (Refused (refusal_of fault)) work fits

  within : Again → (max : Option ℕ) → HasFitMaximum ((hear_within (hearer plan told peer) (hear_few (hearer plan told peer) n) work octets max).state.edge.peering peer.0)
  within again None = fits
  within again (Some max) = front again (front_of max octets)

-- what was left of a first part is heard in front of the second, whether or not it is held meanwhile
rest_first : (plan : Plan) (told : Answers) (peer : EdgeId) (octets more : List ℕ) (work : Work) → AreOctets (octets ++ more) → HasFitMaximum (work.edge.peering peer.0)
    → hears plan told peer (octets ++ more) work ≡ hears plan told peer ((hear (hearer plan told peer) work octets).rest ++ more) (hear (hearer plan told peer) work octets).state
rest_first plan told peer octets more work are fits =
    let left : Left Work = hear (hearer plan told peer) work octets in
    as_hearer plan told peer (suc (length (octets ++ more))) (octets ++ more) work fits
    ∙ (ap (settled peer) (in_parts Work (hearer plan told peer) work octets more are)
    ∙ sym (as_hearer plan told peer (suc (length (left.rest ++ more))) (left.rest ++ more) left.state (hearer_fits plan told peer (suc (length octets)) octets work fits)))

-- the second part, once the first one is settled: where the session stands the rest is held, and else all is given up
settled_input : (plan : Plan) (told : Answers) (peer : EdgeId) (more : List ℕ) (left : Left Work) → has_end (settled peer left).edge peer ≡ true
    → hears plan told peer (left.rest ++ more) left.state ≡ hears_on plan told peer more ((settled peer left).edge.peering peer.0) (settled peer left)
settled_input plan told peer more left stands = by (left.state.edge.peering peer.0) refl stands where
  by : (kept : Option Peering) → left.state.edge.peering peer.0 ≡ kept → has_end (holds peer left.rest kept left.state).edge peer ≡ true
      → hears plan told peer (left.rest ++ more) left.state ≡ hears_on plan told peer more ((holds peer left.rest kept left.state).edge.peering peer.0) (holds peer left.rest kept left.state)
  by None none ended =
      let wrong : false ≡ true = sym (ap is_there none) ∙ ended in
      absurd (cc (wrong))
  by (Some kept) is up =
      let held : Work = changes (with_peering peer (Some (holding left.rest kept))) left.state in
      let there : held.edge.peering peer.0 ≡ Some (holding left.rest kept) = is_set peer (Some (holding left.rest kept)) left.state in
      sym (hears_few_held plan told peer left.rest (suc (length (left.rest ++ more))) (left.rest ++ more) left.state)
      ∙ (ap (hears plan told peer (left.rest ++ more)) (held_is peer left.rest kept left.state is)
      ∙ sym (ap (λ (o : Option Peering). hears_on plan told peer more o held) there))

settled_none : (plan : Plan) (told : Answers) (peer : EdgeId) (more : List ℕ) (left : Left Work) → has_end (settled peer left).edge peer ≡ false
    → hears plan told peer (left.rest ++ more) left.state ≡ settled peer left
settled_none plan told peer more left ended = by (left.state.edge.peering peer.0) refl ended where
  by : (kept : Option Peering) → left.state.edge.peering peer.0 ≡ kept → has_end (holds peer left.rest kept left.state).edge peer ≡ false
      → hears plan told peer (left.rest ++ more) left.state ≡ holds peer left.rest kept left.state
  by None none gone = ap (λ (o : Option Peering). hears_within plan told peer (hears_few plan told peer (length (left.rest ++ more))) (left.rest ++ more) o left.state) none
  by (Some kept) is gone =
      let there : has_end (changes (with_peering peer (Some (holding left.rest kept))) left.state).edge peer ≡ true = ap is_there (is_set peer (Some (holding left.rest kept)) left.state) in
      let wrong : true ≡ false = sym there ∙ gone in
      absurd (cc (wrong))

goes_on : (plan : Plan) (told : Answers) (peer : EdgeId) (octets more : List ℕ) (work : Work) → AreOctets (octets ++ more) → HasFitMaximum (work.edge.peering peer.0)
    → has_end (hears plan told peer octets work).edge peer ≡ true
    → hears plan told peer (octets ++ more) work ≡ hears_on plan told peer more ((hears plan told peer octets work).edge.peering peer.0) (hears plan told peer octets work)
goes_on plan told peer octets more work are fits stands =
    let left : Left Work = hear (hearer plan told peer) work octets in
    let first : hears plan told peer octets work ≡ settled peer left = as_hearer plan told peer (suc (length octets)) octets work fits in
    rest_first plan told peer octets more work are fits
    ∙ (settled_input plan told peer more left (subst (λ (w : Work). has_end w.edge peer ≡ true) first stands)
    ∙ sym (ap (λ (w : Work). hears_on plan told peer more (w.edge.peering peer.0) w) first))

gives_up : (plan : Plan) (told : Answers) (peer : EdgeId) (octets more : List ℕ) (work : Work) → AreOctets (octets ++ more) → HasFitMaximum (work.edge.peering peer.0)
    → has_end (hears plan told peer octets work).edge peer ≡ false → hears plan told peer (octets ++ more) work ≡ hears plan told peer octets work
gives_up plan told peer octets more work are fits ended =
    let left : Left Work = hear (hearer plan told peer) work octets in
    let first : hears plan told peer octets work ≡ settled peer left = as_hearer plan told peer (suc (length octets)) octets work fits in
    rest_first plan told peer octets more work are fits ∙ (settled_none plan told peer more left (subst (λ (w : Work). has_end w.edge peer ≡ false) first ended) ∙ sym first)

behind_held : (plan : Plan) (told : Answers) (peer : EdgeId) (octets more : List ℕ) (kept : Peering) (work : Work) → AreOctets (kept.held ++ (octets ++ more))
    → HasFitMaximum (work.edge.peering peer.0)
    → has_end (hears_on plan told peer octets (Some kept) work).edge peer ≡ true
    → hears_on plan told peer (octets ++ more) (Some kept) work
    ≡ hears_on plan told peer more ((hears_on plan told peer octets (Some kept) work).edge.peering peer.0) (hears_on plan told peer octets (Some kept) work)
behind_held plan told peer octets more kept work are fits stands =
    ap (λ (l : List ℕ). hears plan told peer l work) (sym (append_assoc kept.held octets more))
    ∙ goes_on plan told peer (kept.held ++ octets) more work (subst AreOctets (sym (append_assoc kept.held octets more)) are) fits stands

two_inputs : (plan : Plan) (told : Answers) (peer : EdgeId) (octets more : List ℕ) (kept : Peering) (work : Work) → work.edge.peering peer.0 ≡ Some kept
    → AreOctets (kept.held ++ (octets ++ more)) → HasFitMaximum (Some kept)
    → takes_octets plan told peer octets work ≡ hears_on plan told peer octets (Some kept) work → has_end (takes_octets plan told peer octets work).edge peer ≡ true
    → takes_octets plan told peer more (takes_octets plan told peer octets work) ≡ takes_octets plan told peer (octets ++ more) work
two_inputs plan told peer octets more kept work is are fits mended stands =
    ap (takes_octets plan told peer more) mended
    ∙ (by (heard.edge.peering peer.0) up
    ∙ (ap (mends plan told) (sym (behind_held plan told peer octets more kept work are (subst HasFitMaximum (sym is) fits) here))
    ∙ ap (λ (o : Option Peering). octets_input plan told peer (octets ++ more) o work) (sym is)))
  where
    heard : Work
    heard = hears_on plan told peer octets (Some kept) work

    here : has_end heard.edge peer ≡ true
    here = subst (λ (w : Work). has_end w.edge peer ≡ true) mended stands

    up : is_there (heard.edge.peering peer.0) ≡ true
    up = here

    by : (now : Option Peering) → is_there now ≡ true → octets_input plan told peer more now heard ≡ mends plan told (hears_on plan told peer more now heard)
    by None there = absurd (cc (there))
    by (Some k) there = refl

pub heard_in_parts : EdgeHearsInParts
heard_in_parts = record {
  goes_on = λ plan told peer octets more work are fits stands. goes_on plan told peer octets more work are fits stands;
  gives_up = λ plan told peer octets more work are fits ended. gives_up plan told peer octets more work are fits ended;
  with_held = λ plan told peer octets more kept work are fits stands. behind_held plan told peer octets more kept work are fits stands;
  two_inputs = λ plan told peer octets more kept work is are fits mended stands. two_inputs plan told peer octets more kept work is are fits mended stands;
  begins = λ plan me k. tt;
  keeps = λ plan told input work fit. step_fits plan told input work fit;
}
