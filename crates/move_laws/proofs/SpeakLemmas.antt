-- An edge at work in a network that heals speaks mildly: to each place with which the service has a session up it says what leaves the
-- labels of mesh wires as they are, and its own ends of those stay advertised.
use Rattle.edge_model.specs.Put.{having_spoken, message_octets_of, stays, with_spoken}
use Rattle.edge_model.specs.Session.{says}
use Rattle.edge_model.specs.State.{EdgeState, Peering, with_peering}
use Rattle.edge_model.specs.Work.{Work, changes, gives, puts}
use Rattle.edge_model.specs.declared.effect.Effect.{Effect}
use Rattle.flight_laws.proofs.MentionLemmas.{all_more}
use Rattle.flight_laws.proofs.NameLemmas.{split}
use Rattle.flight_laws.proofs.OfferLemmas.{IsOfWires}
use Rattle.flight_laws.proofs.SaidLemmas.{all_joined, said-append}
use Rattle.flight_laws.proofs.SayLemmas.{says_is, says_none, says_spares, one_octets}
use Rattle.flight_laws.proofs.SpokenLemmas.{says_spoken}
use Rattle.flight_laws.proofs.SteadyLemmas.{IsSilent}
use Rattle.flight_laws.proofs.WorkLemmas.{same_end, wrote}
use Rattle.flight_laws.proofs.WorksLemmas.{change_spares, changed_edge, given_edge, gives_spares, says_sound}
use Rattle.flight_laws.specs.Ends.{ends_at}
use Rattle.flight_laws.specs.Meeting.{Spares, said_to}
use Rattle.flight_laws.specs.Messages.{octets_of_all}
use Rattle.flight_laws.specs.Sound.{TellsSoundly, point_limit}
use Rattle.ldp_grammar.specs.declared.message.Message.{Message}
use Rattle.move_laws.proofs.HearingLemmas.{met_joined}
use Rattle.move_laws.specs.Clearing.{IsMild, IsOnward}
use Rattle.move_laws.specs.Healing.{IsMet, KeepsMesh, KeepsSpokes, SaysMore, SpeaksMildly, StandsFor, Stays, advertises_to, is_advertising}
use Rattle.flight_laws.specs.Binding.{is_withdrawing}
use Rattle.net_base.specs.declared.plan.places.WireId.{WireId}
use Rattle.net_base.specs.declared.plan.wire_plan.WirePlan.{WirePlan}
use Rattle.net_base.specs.declared.plan.Plan.{Plan}
use Rattle.net_base.specs.declared.plan.places.EdgeId.{EdgeId}
use Rattle.net_base.specs.declared.plan.places.ServiceId.{ServiceId}
use Rattle.net_base.specs.plan.Roles.{are_joined_by}
use Rattle.network_model.specs.Absorb.{taken_all}
use Rattle.network_model.specs.State.{NetworkState, stands}
use Rattle.pw_signalling.specs.End.{EndState}
use Rattle.session_core.specs.declared.peers.Peers.{Peers}
use Rattle.std.proofs.Common.{Bool, List, None, Option, Some, [], ap, append_assoc, false, nat_eq, refl, subst, sym, true, ℕ, ◌++◌, ◌∙◌, ◌∷◌, ◌≡◌}
use Rattle.std.proofs.lemmas.Bool.{eqb-true}
use Rattle.pw_messages.proofs.CommonLemmas.{following_small}

-- what an edge at work is for such places, with what it has said more since a first moment, by the wires of which it tells each place
pub record SpeaksAs (plan : Plan) (service : ServiceId) (network : NetworkState) (me : EdgeId) (peer : ℕ) (base work : Work) (told : ℕ → ℕ → Bool) : Type 0 where
  pub place : work.edge.me ≡ me
  pub sound : TellsSoundly (point_limit plan me.0) work.edge
  pub speaks : (place : ℕ) → are_joined_by plan service me.0 place ≡ true → stands network me.0 place ≡ true → SpeaksMildly plan service network me.0 peer place work (told place)
  pub apart : (place : ℕ) → are_joined_by plan service me.0 place ≡ true → stands network me.0 place ≡ false → work.edge.peering place ≡ None
  pub mesh : KeepsMesh plan service me.0 work.edge
  pub spokes : KeepsSpokes plan service network me work.edge
  pub more : (place : ℕ) → are_joined_by plan service me.0 place ≡ true → stands network me.0 place ≡ true → SaysMore plan me.0 place base work

-- by the ends that advertise
abbrev pub Speaks : Plan → ServiceId → NetworkState → EdgeId → ℕ → Work → Work → Type 0
Speaks plan service network me peer base work = SpeaksAs plan service network me peer base work (advertises_to work.edge)

pub spokes_same : (plan : Plan) (service : ServiceId) (network : NetworkState) (me : EdgeId) (old new : EdgeState) → new.ends ≡ old.ends → new.wire_on ≡ old.wire_on → new.bits ≡ old.bits
    → KeepsSpokes plan service network me old → KeepsSpokes plan service network me new
spokes_same plan service network me old new ends on bits spokes = record {
  waits_not = λ wire row next onward. ap (λ (f : ℕ → ℕ → EndState). is_withdrawing (f wire.0 next).local) ends ∙ spokes.waits_not wire row next onward;
  whole = λ wire row next onward first. ap (λ (f : ℕ → ℕ). f wire.0) bits ∙ spokes.whole wire row next onward first;
  on = λ wire row next onward told. ap (λ (f : ℕ → Bool). f wire.0) on
      ∙ spokes.on wire row next onward (ap (λ (f : ℕ → ℕ → EndState). is_advertising (f wire.0 next).local) (sym ends) ∙ told);
  across = λ wire row from to label content onward mated at. subst (λ (f : ℕ → ℕ → EndState). StandsFor plan row me from content (f wire.0 from.0).remote) (sym ends)
      (spokes.across wire row from to label content onward mated (ap (λ (f : ℕ → ℕ → EndState). (f wire.0 to.0).local) (sym ends) ∙ at));
}

pub mesh_same : (plan : Plan) (service : ServiceId) (me : ℕ) (old new : EdgeState) → new.ends ≡ old.ends → new.wire_on ≡ old.wire_on → new.bits ≡ old.bits
    → KeepsMesh plan service me old → KeepsMesh plan service me new
mesh_same plan service me old new ends on bits mesh = record {
  told = λ wire row peer is of joined. ap (λ (f : ℕ → ℕ → EndState). is_advertising (f wire.0 peer).local) ends ∙ mesh.told wire row peer is of joined;
  on = λ wire row peer is of joined. ap (λ (f : ℕ → Bool). f wire.0) on ∙ mesh.on wire row peer is of joined;
  whole = λ wire row is of ended. ap (λ (f : ℕ → ℕ). f wire.0) bits ∙ mesh.whole wire row is of ended;
  across = λ wire row from to label content is of mated at. subst (λ (f : ℕ → ℕ → EndState). StandsFor plan row (record { 0 = me }) from content (f wire.0 from.0).remote) (sym ends)
      (mesh.across wire row from to label content is of mated (ap (λ (f : ℕ → ℕ → EndState). (f wire.0 to.0).local) (sym ends) ∙ at));
}

module _ (plan : Plan) (service : ServiceId) (network : NetworkState) (me : EdgeId) (peer : ℕ) where
  -- it begins with what it is
  pub speaks_first : (work : Work) → Stays plan service network me peer work → Speaks plan service network me peer work work
  speaks_first work stays = record {
    place = stays.place;
    sound = stays.sound;
    speaks = stays.speaks;
    apart = stays.apart;
    mesh = stays.mesh;
    spokes = stays.spokes;
    more = λ place joined there. record { more = []; is = sym (same_end (said_to place work.effects)); said = tt };
  }

  -- by wires of which the same is told
  abbrev AreSame : ℕ → (old new : ℕ → Bool) → Type 0
  AreSame place old new = (wire : WireId) (row : WirePlan) → IsOnward plan service network me.0 place wire row → new wire.0 ≡ old wire.0

  pub mildly_spared : (place : ℕ) (old new : Work) (told now : ℕ → Bool) → Spares place old new → AreSame place told now → SpeaksMildly plan service network me.0 peer place old told
      → SpeaksMildly plan service network me.0 peer place new now
  mildly_spared place old new told now spares same mildly = record {
    kept = mildly.kept;
    at = spares.kept ∙ mildly.at;
    up = mildly.up;
    peers = mildly.peers;
    numbered = mildly.numbered;
    held_still = mildly.held_still;
    unclosed = spares.closed ∙ mildly.unclosed;
    messages = mildly.messages;
    is = spares.said ∙ mildly.is;
    said = mildly.said;
    mild = mildly.mild;
    met = λ wire row onward. subst (IsMet row.pw_id (is_advertising ((network.edges me.0).ends wire.0 place).local) mildly.messages) (sym (same wire row onward)) (mildly.met wire row onward);
  }

  pub more_spared : (place : ℕ) (base old new : Work) → Spares place old new → SaysMore plan me.0 place base old → SaysMore plan me.0 place base new
  more_spared place base old new spares more = record { more = more.more; is = spares.said ∙ more.is; said = more.said }

  -- nothing is said
  pub spared_speaks : (base old new : Work) (told now : ℕ → ℕ → Bool) → ((place : ℕ) → Spares place old new) → ((place : ℕ) → AreSame place (told place) (now place)) → new.edge.me ≡ old.edge.me
      → TellsSoundly (point_limit plan me.0) new.edge → KeepsMesh plan service me.0 new.edge → KeepsSpokes plan service network me new.edge
      → SpeaksAs plan service network me peer base old told → SpeaksAs plan service network me peer base new now
  spared_speaks base old new told now spares same_told same sound mesh spokes speaks = record {
    place = same ∙ speaks.place;
    sound = sound;
    speaks = λ place joined there. mildly_spared place old new (told place) (now place) (spares place) (same_told place) (speaks.speaks place joined there);
    apart = λ place joined gone. (spares place).kept ∙ speaks.apart place joined gone;
    mesh = mesh;
    spokes = spokes;
    more = λ place joined there. more_spared place base old new (spares place) (speaks.more place joined there);
  }

  -- the edge is changed, but not what is kept for neighbours
  pub changed_speaks : (base : Work) (change : EdgeState → EdgeState) (work : Work) (told now : ℕ → ℕ → Bool) → (change work.edge).peering ≡ work.edge.peering
      → (change work.edge).me ≡ work.edge.me → ((place : ℕ) → AreSame place (told place) (now place))
      → TellsSoundly (point_limit plan me.0) (change work.edge) → KeepsMesh plan service me.0 (change work.edge) → KeepsSpokes plan service network me (change work.edge)
      → SpeaksAs plan service network me peer base work told → SpeaksAs plan service network me peer base (changes change work) now
  changed_speaks base change work told now kept same same_told sound mesh spokes speaks =
      spared_speaks base work (changes change work) told now (λ place. change_spares place change work kept) same_told (rw (changed_edge change work) same) (rw (changed_edge change work) sound)
      (rw (changed_edge change work) mesh) (rw (changed_edge change work) spokes) speaks

  pub gives_speaks : (base : Work) (e : Effect) (work : Work) (told : ℕ → ℕ → Bool) → IsSilent e → SpeaksAs plan service network me peer base work told
      → SpeaksAs plan service network me peer base (gives e work) told
  gives_speaks base e work told silent speaks =
      spared_speaks base work (gives e work) told told (λ place. gives_spares place e work silent) (λ place wire row onward. refl) (ap (λ (x : EdgeState). x.me) (given_edge e work))
      (rw (given_edge e work) speaks.sound) (rw (given_edge e work) speaks.mesh) (rw (given_edge e work) speaks.spokes) speaks

  -- a message is said more
  pub said_more : (own : Peers) (before said : List ℕ) (kept : Peering) (message : ℕ → Message) (ms : List Message) → kept.session.peers ≡ own → said ≡ octets_of_all own.me ms
      → (before ++ said) ++ message_octets_of kept message ≡ before ++ octets_of_all own.me (ms ++ message kept.next_id ∷ [])
  said_more own before said kept message ms peers is =
      append_assoc before said (message_octets_of kept message)
      ∙ ap (λ (l : List ℕ). before ++ l) (ap (λ (l : List ℕ). l ++ message_octets_of kept message) is
      ∙ (ap (λ (l : List ℕ). octets_of_all own.me ms ++ l) (one_octets own message kept peers) ∙ sym (all_joined own.me ms (message kept.next_id ∷ []))))

  module _ (base : Work) (to : EdgeId) (message : ℕ → Message) (work : Work) (of_wires : IsOfWires message)
      (mild : are_joined_by plan service me.0 to.0 ≡ true → stands network me.0 to.0 ≡ true → (id : ℕ) → IsMild plan service network me.0 to.0 (message id))
      (told now : ℕ → ℕ → Bool) (step : (wire : WireId) (row : WirePlan) → IsOnward plan service network me.0 to.0 wire row → (id : ℕ) → IsMet row.pw_id (told to.0 wire.0) (message id ∷ [])
      (now to.0 wire.0))
      (others : (place : ℕ) → nat_eq place to.0 ≡ false → AreSame place (told place) (now place)) where
    abbrev After : Work
    After = (says taken_all to message work).work

    here_mildly : are_joined_by plan service me.0 to.0 ≡ true → stands network me.0 to.0 ≡ true → SpeaksMildly plan service network me.0 peer to.0 work (told to.0)
        → SpeaksMildly plan service network me.0 peer to.0 After (now to.0)
    here_mildly joined there old =
        let spoken = says_spoken to old.kept message work old.at in
        let own : Peers = ends_at plan me.0 to.0 in
        let m : Message = message old.kept.next_id in
        record {
          kept = having_spoken old.kept;
          at = spoken.here;
          up = old.up;
          peers = old.peers;
          numbered = following_small old.kept.next_id old.numbered;
          held_still = old.held_still;
          unclosed = spoken.closed to.0 ∙ old.unclosed;
          messages = old.messages ++ m ∷ [];
          is = spoken.said ∙ said_more own [] (said_to to.0 work.effects) old.kept message old.messages old.peers old.is;
          said = said-append own old.messages (m ∷ []) old.said (of_wires.said own old.kept.next_id old.numbered, tt);
          mild = all_more (IsMild plan service network me.0 to.0) old.messages (m ∷ []) old.mild (mild joined there old.kept.next_id, tt);
          met = λ wire row onward. met_joined row.pw_id (is_advertising ((network.edges me.0).ends wire.0 to.0).local) (told to.0 wire.0) (now to.0 wire.0) old.messages (m ∷ [])
              (old.met wire row onward) (step wire row onward old.kept.next_id);
        }

    here_more : SpeaksMildly plan service network me.0 peer to.0 work (told to.0) → SaysMore plan me.0 to.0 base work → SaysMore plan me.0 to.0 base After
    here_more old more =
        let spoken = says_spoken to old.kept message work old.at in
        let own : Peers = ends_at plan me.0 to.0 in
        let m : Message = message old.kept.next_id in
        record {
          more = more.more ++ m ∷ [];
          is = spoken.said ∙ (ap (λ (l : List ℕ). l ++ message_octets_of old.kept message) more.is
              ∙ said_more own (said_to to.0 base.effects) (octets_of_all own.me more.more) old.kept message more.more old.peers refl);
          said = said-append own more.more (m ∷ []) more.said (of_wires.said own old.kept.next_id old.numbered, tt);
        }

    says_rest : (k : Peering) → work.edge.peering to.0 ≡ Some k → (After.edge.wire_on ≡ work.edge.wire_on) × (After.edge.bits ≡ work.edge.bits)
    unfolding wrote gives changes with_spoken with_peering puts
    says_rest k at = (ap (λ (w : Work). w.edge.wire_on) is, ap (λ (w : Work). w.edge.bits) is)
      where
        is : (says taken_all to message work).work ≡ wrote to (message_octets_of k message) work
        is = says_is to message k work at

    pub says_speaks : SpeaksAs plan service network me peer base work told → SpeaksAs plan service network me peer base After now
    says_speaks speaks = by_end (work.edge.peering to.0) refl where
      spoke : (kept : Peering) → work.edge.peering to.0 ≡ Some kept → SpeaksAs plan service network me peer base After now
      spoke kept at =
          let spoken = says_spoken to kept message work at in
          record {
            place = spoken.me ∙ speaks.place;
            sound = says_sound to message work speaks.sound;
            speaks = λ place joined there. split {P = SpeaksMildly plan service network me.0 peer place After (now place)} (nat_eq place to.0)
                (λ is. subst (λ (k : ℕ). SpeaksMildly plan service network me.0 peer k After (now k)) (sym (eqb-true place to.0 is))
                (here_mildly (subst (λ (k : ℕ). are_joined_by plan service me.0 k ≡ true) (eqb-true place to.0 is) joined)
                (subst (λ (k : ℕ). stands network me.0 k ≡ true) (eqb-true place to.0 is) there)
                (subst (λ (k : ℕ). SpeaksMildly plan service network me.0 peer k work (told k)) (eqb-true place to.0 is) (speaks.speaks place joined there))))
                (λ away. mildly_spared place work After (told place) (now place) (says_spares place to message work away) (others place away) (speaks.speaks place joined there));
            apart = λ place joined gone. split {P = After.edge.peering place ≡ None} (nat_eq place to.0)
                (λ is. absurd (no_end (sym (speaks.apart place joined gone) ∙ (ap work.edge.peering (eqb-true place to.0 is) ∙ at))))
                (λ away. spoken.elsewhere place away ∙ speaks.apart place joined gone);
            spokes = spokes_same plan service network me work.edge After.edge spoken.ends (says_rest kept at).0 (says_rest kept at).1 speaks.spokes;
            mesh = mesh_same plan service me.0 work.edge After.edge spoken.ends (says_rest kept at).0 (says_rest kept at).1 speaks.mesh;
            more = λ place joined there. split {P = SaysMore plan me.0 place base After} (nat_eq place to.0)
                (λ is. subst (λ (k : ℕ). SaysMore plan me.0 k base After) (sym (eqb-true place to.0 is))
                (here_more (subst (λ (k : ℕ). SpeaksMildly plan service network me.0 peer k work (told k)) (eqb-true place to.0 is) (speaks.speaks place joined there))
                (subst (λ (k : ℕ). SaysMore plan me.0 k base work) (eqb-true place to.0 is) (speaks.more place joined there))))
                (λ away. more_spared place base work After (says_spares place to message work away) (speaks.more place joined there));
          }
        where
          no_end : None ≡ Some kept → ⊥
          no_end e = cc

      unspoken : work.edge.peering to.0 ≡ None → SpeaksAs plan service network me peer base work now
      unspoken at = record {
        place = speaks.place;
        sound = speaks.sound;
        speaks = λ place joined there. split {P = SpeaksMildly plan service network me.0 peer place work (now place)} (nat_eq place to.0)
            (λ is. absurd (none_there ((speaks.speaks place joined there).kept) (sym at ∙ (ap work.edge.peering (sym (eqb-true place to.0 is)) ∙ (speaks.speaks place joined there).at))))
            (λ away. mildly_spared place work work (told place) (now place) (record { kept = refl; said = refl; closed = refl }) (others place away) (speaks.speaks place joined there));
        apart = speaks.apart;
        mesh = speaks.mesh;
        spokes = speaks.spokes;
        more = speaks.more;
      }
        where
          none_there : (kept : Peering) → None ≡ Some kept → ⊥
          none_there kept e = cc

      by_end : (near : Option Peering) → work.edge.peering to.0 ≡ near → SpeaksAs plan service network me peer base After now
      by_end None at = subst (λ (w : Work). SpeaksAs plan service network me peer base w now) (sym (says_none to message work at)) (unspoken at)
      by_end (Some kept) at = spoke kept at
