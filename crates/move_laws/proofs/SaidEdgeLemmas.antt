-- What an edge that says a message leaves as it was.
use Rattle.std.proofs.Common.{◌≡◌, ◌∙◌, List, None, Option, Some, ap, nat_eq, refl, sym, ℕ}
use Rattle.std.proofs.lemmas.Bool.{eqb-true}
use Rattle.edge_model.proofs.SessionLemmas.{any, says_works}
use Rattle.edge_model.specs.Labels.{label_to_give}
use Rattle.edge_model.specs.Mend.{is_up_with}
use Rattle.edge_model.specs.Session.{says}
use Rattle.edge_model.specs.State.{EdgeState, Peering}
use Rattle.edge_model.specs.Work.{Work}
use Rattle.flight_laws.proofs.NameLemmas.{split}
use Rattle.flight_laws.proofs.SayLemmas.{says_none}
use Rattle.flight_laws.proofs.SpokenLemmas.{HasSpoken, says_spoken}
use Rattle.label_space.specs.Labels.{number_to_give}
use Rattle.label_space.specs.declared.kept.Kept.{Kept}
use Rattle.ldp_grammar.specs.declared.message.Message.{Message}
use Rattle.net_base.specs.declared.plan.places.EdgeId.{EdgeId}
use Rattle.network_model.specs.Absorb.{taken_all}

-- ends, wires, labels and sessions that are up
pub record IsLikeBefore (old new : EdgeState) : Type 0 where
  pub me : new.me ≡ old.me
  pub ends : new.ends ≡ old.ends
  pub wires : new.wire_on ≡ old.wire_on
  pub bits : new.bits ≡ old.bits
  pub labels : label_to_give new ≡ label_to_give old
  pub ups : (k : ℕ) → is_up_with (new.peering k) ≡ is_up_with (old.peering k)

pub says_like : (to : EdgeId) (message : ℕ → Message) (work : Work) → IsLikeBefore work.edge (says taken_all to message work).work.edge
says_like to message work = by (work.edge.peering to.0) refl where
  spoke : (kept : Peering) → work.edge.peering to.0 ≡ Some kept → IsLikeBefore work.edge (says taken_all to message work).work.edge
  spoke kept at =
      let works = says_works taken_all any to message work refl in
      let spoken : HasSpoken to kept message work (says taken_all to message work).work = says_spoken to kept message work at in
      record {
        me = works.edge.me;
        ends = spoken.ends;
        wires = works.edge.wires;
        bits = works.edge.bits;
        labels = ap (λ (n : ℕ). number_to_give n (says taken_all to message work).work.edge.kept) spoken.label ∙ ap (λ (ks : List Kept). number_to_give work.edge.next_label ks) spoken.labels;
        ups = λ k. split {P = is_up_with ((says taken_all to message work).work.edge.peering k) ≡ is_up_with (work.edge.peering k)} (nat_eq k to.0)
            (λ is. ap (λ (n : ℕ). is_up_with ((says taken_all to message work).work.edge.peering n)) (eqb-true k to.0 is) ∙ (ap (λ (o : Option Peering). is_up_with o) spoken.here
            ∙ (sym (ap (λ (o : Option Peering). is_up_with o) at) ∙ ap (λ (n : ℕ). is_up_with (work.edge.peering n)) (sym (eqb-true k to.0 is)))))
            (λ away. ap (λ (o : Option Peering). is_up_with o) (spoken.elsewhere k away));
      }

  same : (new : Work) → new ≡ work → IsLikeBefore work.edge new.edge
  same new is = record {
    me = ap (λ (w : Work). w.edge.me) is;
    ends = ap (λ (w : Work). w.edge.ends) is;
    wires = ap (λ (w : Work). w.edge.wire_on) is;
    bits = ap (λ (w : Work). w.edge.bits) is;
    labels = ap (λ (w : Work). label_to_give w.edge) is;
    ups = λ k. ap (λ (w : Work). is_up_with (w.edge.peering k)) is;
  }

  by : (o : Option Peering) → work.edge.peering to.0 ≡ o → IsLikeBefore work.edge (says taken_all to message work).work.edge
  by None at = same (says taken_all to message work).work (says_none to message work at)
  by (Some kept) at = spoke kept at
