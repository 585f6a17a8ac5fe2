-- What mending leaves of sessions over a link that takes every call.
use Rattle.std.proofs.Common.{◌≡◌, ◌∙◌, ◌||◌, ℕ, zero, suc, Bool, true, false, List, [], ◌∷◌, Option, Some, None, cond, refl, sym, ap, subst, length, nat_eq, option_map, inl, inr}
use Rattle.std.proofs.lemmas.Bool.{cases_Bool, eqb-true, eq-eqb}
use Rattle.net_base.specs.declared.plan.Plan.{Plan}
use Rattle.net_base.specs.declared.plan.places.EdgeId.{EdgeId}
use Rattle.net_base.specs.declared.plan.places.WireId.{WireId}
use Rattle.net_values.specs.declared.mac.Mac.{Mac}
use Rattle.net_base.specs.plan.Places.{wire_row}
use Rattle.ldp_grammar.specs.declared.message.Message.{Message}
use Rattle.pw_tlvs.specs.declared.pw_status.PwStatus.{PwStatus}
use Rattle.pw_signalling.specs.declared.told.Told.{Told}
use Rattle.pw_signalling.specs.End.{LocalPart, Idle, Advertised, Withdrawing}
use Rattle.pw_messages.specs.Content.{mac_withdrawal, mapping, status_notification, withdrawal}
use Rattle.pw_messages.specs.LinkAnswers.{Answers}
use Rattle.edge_model.specs.declared.end_place.EndPlace.{EndPlace}
use Rattle.edge_model.specs.EndPlaces.{end_places}
use Rattle.edge_model.specs.Mend.{advertises_under, advertises_wish, advertising, and_says, each_end, is_new_choice, mends, mends_again, mends_choice, mends_end, mends_few, mends_local, mends_once, mends_status, mends_status_of, telling_status, tells_over, then_changes, wish, withdrawing, withdraws_unless, offer_stands, withdraws}
use Rattle.edge_model.specs.Put.{Spoken, having_spoken, message_octets_of, put_octets, with_spoken, stays}
use Rattle.edge_model.specs.Role.{status_to_tell}
use Rattle.edge_model.specs.Session.{clears_ends, had_said, says, says_to}
use Rattle.edge_model.specs.Spokes.{choosing}
use Rattle.edge_model.specs.State.{Peering, end_at, has_end, is_there, with_chosen, with_end, with_next_label, with_peering, with_told_down, with_kept}
use Rattle.edge_model.specs.Withdraw.{tells_piece, tells_piece_by}
use Rattle.edge_model.specs.Work.{Work, changes, gives, next_answer, puts}
use Rattle.edge_model.proofs.BridgeLemmas.{forgetting_only}
use Rattle.edge_model.proofs.WalkLemmas.{MendSteps, mends_holds}
use Rattle.edge_model.specs.Labels.{label_to_give}

-- ---- a link that takes every call

abbrev pub TakesAll : Answers → Type 0
TakesAll told = (k : ℕ) → told k ≡ true

-- where a session stands no end beside its peer is lost
pub clears_not : (peer : EdgeId) (work : Work) → has_end work.edge peer ≡ true → clears_ends peer work ≡ work
clears_not peer work stands = rw stands refl

spoken_there : (peer : EdgeId) (bytes : List ℕ) (kept : Peering) (work : Work) → work.edge.peering peer.0 ≡ Some kept → has_end (put_octets peer bytes true work).work.edge peer ≡ true
unfolding changes gives puts with_peering with_spoken
spoken_there peer bytes kept work is = rw (eq-eqb peer.0 peer.0 refl, is) refl

-- a message is put where a session stands, and nothing else comes of it where the link takes it
pub says_taken : (told : Answers) (peer : EdgeId) (message : ℕ → Message) (kept : Peering) (work : Work) → next_answer told work ≡ true → work.edge.peering peer.0 ≡ Some kept
    → says told peer message work ≡ put_octets peer (message_octets_of kept message) true work
says_taken told peer message kept work takes is =
    let bytes : List ℕ = message_octets_of kept message in
    let put : Spoken = put_octets peer bytes true work in
    ap (λ (o : Option Peering). says_to told peer message o work) is
    ∙ (ap (λ (taken : Bool). had_said peer (put_octets peer bytes taken work)) takes
    ∙ ap (λ (w : Work). record { work = w; failed = false }) (clears_not peer put.work (spoken_there peer bytes kept work is)))

-- and nothing is put where none does
pub says_nothing : (told : Answers) (peer : EdgeId) (message : ℕ → Message) (work : Work) → work.edge.peering peer.0 ≡ None → says told peer message work ≡ stays work
says_nothing told peer message work is = ap (λ (o : Option Peering). says_to told peer message o work) is

pub says_takes : (told : Answers) (peer : EdgeId) (message : ℕ → Message) (work : Work) → TakesAll told → (says told peer message work).failed ≡ false
says_takes told peer message work takes = by (work.edge.peering peer.0) refl where
  by : (kept : Option Peering) → work.edge.peering peer.0 ≡ kept → (says told peer message work).failed ≡ false
  by None is = ap (λ (s : Spoken). s.failed) (says_nothing told peer message work is)
  by (Some kept) is = ap (λ (s : Spoken). s.failed) (says_taken told peer message kept work (takes (length work.calls)) is)

module _ (plan : Plan) (told : Answers) (takes : TakesAll told) where
  mends_end_takes : (place : EndPlace) (work : Work) → (mends_end plan told place work).failed ≡ false
  mends_end_takes place work = of (end_at work.edge place).local where
    advertises_it : (wished : Option Told) → (advertises_wish told place wished work).failed ≡ false
    advertises_it None = refl
    advertises_it (Some content) = by (label_to_give work.edge) where
      by : (r : Option ℕ) → (advertises_under told place content r work).failed ≡ false
      by None = refl
      by (Some label) = says_takes told place.peer (mapping place.pw_id label content) (changes (advertising place label content) work) takes

    withdraws_it : (label : ℕ) (content : Told) (wished : Option Told) → (withdraws_unless told place label content wished work).failed ≡ false
    withdraws_it label content wished = by (offer_stands place content wished) where
      by : (b : Bool) → (cond b (stays work) (withdraws told place label content work)).failed ≡ false
      by true = refl
      by false = says_takes told place.peer (withdrawal place.pw_id label content) (changes (withdrawing place) work) takes

    of : (local : LocalPart) → (mends_local plan told place local work).failed ≡ false
    of (Idle true) = refl
    of (Idle false) = advertises_it (wish plan work.edge place)
    of (Advertised label content) = withdraws_it label content (wish plan work.edge place)
    of (Withdrawing label) = refl

  mends_status_takes : (place : EndPlace) (work : Work) → (mends_status plan told place work).failed ≡ false
  mends_status_takes place work = of (end_at work.edge place).local where
    tells_it : (content : Told) (status : PwStatus) (last : Option PwStatus) → (tells_over told place content status last work).failed ≡ false
    tells_it content status None = refl
    tells_it content status (Some last) = by (nat_eq last.0 status.0) where
      by : (b : Bool) → (cond b (stays work) (says told place.peer (status_notification place.pw_id status content) (changes (telling_status place status) work))).failed ≡ false
      by true = refl
      by false = says_takes told place.peer (status_notification place.pw_id status content) (changes (telling_status place status) work) takes

    of : (local : LocalPart) → (mends_status_of plan told place local work).failed ≡ false
    of (Idle declined) = refl
    of (Advertised label content) = tells_it content (status_to_tell plan work.edge place) content.status
    of (Withdrawing label) = refl

  pub tells_piece_takes : (place : EndPlace) (addresses : List Mac) (work : Work) → (tells_piece told place addresses work).failed ≡ false
  tells_piece_takes place addresses work = of (end_at work.edge place).local where
    of : (local : LocalPart) → (tells_piece_by told place addresses local work).failed ≡ false
    of (Idle declined) = refl
    of (Advertised label content) = says_takes told place.peer (mac_withdrawal place.pw_id addresses content) work takes
    of (Withdrawing label) = refl

  mends_choice_takes : (before : ℕ → Option WireId) (place : EndPlace) (work : Work) → (mends_choice plan told before place work).failed ≡ false
  mends_choice_takes before place work = by (is_new_choice before work.edge.chosen place.wire (wire_row plan place.wire)) where
    by : (b : Bool) → (cond b (tells_piece told place [] work) (stays work)).failed ≡ false
    by true = tells_piece_takes place [] work
    by false = refl

  each_end_takes : (mend : EndPlace → Work → Spoken) → ((place : EndPlace) (work : Work) → (mend place work).failed ≡ false) → (places : List EndPlace) (m : Spoken) → m.failed ≡ false
      → (each_end mend places m).failed ≡ false
  each_end_takes mend each [] m none = none
  each_end_takes mend each (place ∷ places) m none =
      each_end_takes mend each places (and_says m (mend place)) (ap (λ (b : Bool). b || (mend place m.work).failed) none ∙ each place m.work)

  -- no message is refused, so the edge mends once
  pub mends_once_takes : (work : Work) → (mends_once plan told work).failed ≡ false
  mends_once_takes work =
      let places : List EndPlace = end_places plan work.edge.me in
      let first : Spoken = each_end (mends_end plan told) places (stays work) in
      let chosen : Spoken = then_changes (choosing plan) first in
      each_end_takes (mends_choice plan told work.edge.chosen) (mends_choice_takes work.edge.chosen) places (each_end (mends_status plan told) places chosen)
      (each_end_takes (mends_status plan told) mends_status_takes places chosen (each_end_takes (mends_end plan told) mends_end_takes places (stays work) refl))

  pub mends_takes : (work : Work) → mends plan told work ≡ (mends_once plan told work).work
  mends_takes work =
      let once : Spoken = mends_once plan told work in
      ap (λ (failed : Bool). mends_again (mends_few plan told (length plan.edges)) (record { work = once.work; failed = failed })) (mends_once_takes work)

-- ---- and what becomes of sessions

-- so many messages were put
abbrev pub having_spoken_times : ℕ → Peering → Peering
having_spoken_times zero kept = kept
having_spoken_times (suc n) kept = having_spoken (having_spoken_times n kept)

-- an end of a connection stands as it did, and has put messages; or it is gone as it was
pub record SpeaksOn (old new : Option Peering) : Type 0 where
  pub times : ℕ
  pub is : new ≡ option_map (having_spoken_times times) old

spoke_again : (old new : Option Peering) → SpeaksOn old new → SpeaksOn old (option_map having_spoken new)
spoke_again old new speaks = record { times = suc speaks.times; is = ap (option_map having_spoken) speaks.is ∙ same old }
  where
    same : (kept : Option Peering) → option_map having_spoken (option_map (having_spoken_times speaks.times) kept) ≡ option_map (having_spoken_times (suc speaks.times)) kept
    same None = refl
    same (Some kept) = refl

says_speaks : (told : Answers) (k : ℕ) (old : Option Peering) (peer : EdgeId) (message : ℕ → Message) (work : Work) → TakesAll told
    → SpeaksOn old (work.edge.peering k) → SpeaksOn old ((says told peer message work).work.edge.peering k)
unfolding changes gives puts with_peering with_spoken
says_speaks told k old peer message work takes speaks = by (work.edge.peering peer.0) refl where
  by : (kept : Option Peering) → work.edge.peering peer.0 ≡ kept → SpeaksOn old ((says told peer message work).work.edge.peering k)
  by None is = subst (λ (s : Spoken). SpeaksOn old (s.work.edge.peering k)) (sym (says_nothing told peer message work is)) speaks
  by (Some kept) is = subst (λ (s : Spoken). SpeaksOn old (s.work.edge.peering k)) (sym (says_taken told peer message kept work (takes (length work.calls)) is)) put
    where
      put : SpeaksOn old (cond (nat_eq k peer.0) (option_map having_spoken (work.edge.peering peer.0)) (work.edge.peering k))
      put = elim (cases_Bool (nat_eq k peer.0)) [
        | inl here ↦
            rw here (subst (λ (n : ℕ). SpeaksOn old (option_map having_spoken (work.edge.peering n))) (eqb-true k peer.0 here) (spoke_again old (work.edge.peering k) speaks))
        | inr away ↦ rw away speaks
      ]

-- whatever it was before
SpeaksFrom : ℕ → Work → Work → Type 0
SpeaksFrom k a b = (old : Option Peering) → SpeaksOn old (a.edge.peering k) → SpeaksOn old (b.edge.peering k)

-- no session ends, and none moves to another state
pub mends_speaks : (plan : Plan) (told : Answers) (k : ℕ) (work : Work) → TakesAll told → SpeaksOn (work.edge.peering k) ((mends plan told work).edge.peering k)
unfolding changes gives with_chosen with_end with_next_label with_told_down SpeaksFrom with_kept
mends_speaks plan told k work takes = mends_holds plan told (SpeaksFrom k) steps work (work.edge.peering k) (record { times = 0; is = same (work.edge.peering k) })
  where
    same : (kept : Option Peering) → kept ≡ option_map (having_spoken_times 0) kept
    same None = refl
    same (Some kept) = refl

    steps : MendSteps plan told (SpeaksFrom k)
    steps = record {
      same = λ now old speaks. speaks;
      joined = λ a b c first next old speaks. next old (first old speaks);
      advertises = λ place label content now is idle wished given old speaks.
          says_speaks told k old place.peer (mapping place.pw_id label content) (changes (advertising place label content) now) takes speaks;
      withdraws = λ place label content now is advertised wished old speaks.
          says_speaks told k old place.peer (withdrawal place.pw_id label content) (changes (withdrawing place) now) takes speaks;
      chooses = λ now old speaks. speaks;
      tells_status = λ place label content last now is advertised told_it other old speaks.
          let status : PwStatus = status_to_tell plan now.edge place in
          says_speaks told k old place.peer (status_notification place.pw_id status content) (changes (telling_status place status) now) takes speaks;
      tells_piece = λ place label content addresses now advertised old speaks.
          says_speaks told k old place.peer (mac_withdrawal place.pw_id addresses content) now takes speaks;
      forgets_wire = λ place why now is terminal down old speaks.
          subst (λ (peering : ℕ → Option Peering). SpeaksOn old (peering k)) (sym (forgetting_only plan place.wire (wire_row plan place.wire) now).edge.peering) speaks;
      tells_down = λ place now is terminal other old speaks. speaks;
    }

-- what is kept then differs in the ticks since the last message, and in the Message ID of the next one
pub times_same : (n : ℕ) (kept : Peering) → having_spoken_times n kept
    ≡ record kept { session = record kept.session { silence = (having_spoken_times n kept).session.silence }; next_id = (having_spoken_times n kept).next_id }
times_same zero kept = refl
times_same (suc n) kept = ap having_spoken (times_same n kept)

-- the end stands where it stood, and in its state
pub mends_stands : (plan : Plan) (told : Answers) (peer : EdgeId) (work : Work) → TakesAll told → has_end (mends plan told work).edge peer ≡ has_end work.edge peer
mends_stands plan told peer work takes =
    let speaks : SpeaksOn (work.edge.peering peer.0) ((mends plan told work).edge.peering peer.0) = mends_speaks plan told peer.0 work takes in
    ap is_there speaks.is ∙ same speaks.times (work.edge.peering peer.0)
  where
    same : (n : ℕ) (kept : Option Peering) → is_there (option_map (having_spoken_times n) kept) ≡ is_there kept
    same n None = refl
    same n (Some kept) = refl

pub mends_phase : (plan : Plan) (told : Answers) (k : ℕ) (work : Work) → TakesAll told
    → option_map (λ kept. kept.session.phase) ((mends plan told work).edge.peering k) ≡ option_map (λ kept. kept.session.phase) (work.edge.peering k)
mends_phase plan told k work takes =
    let speaks : SpeaksOn (work.edge.peering k) ((mends plan told work).edge.peering k) = mends_speaks plan told k work takes in
    ap (option_map (λ (kept : Peering). kept.session.phase)) speaks.is ∙ same speaks.times (work.edge.peering k)
  where
    same : (n : ℕ) (kept : Option Peering) → option_map (λ (kept : Peering). kept.session.phase) (option_map (having_spoken_times n) kept) ≡ option_map (λ (kept : Peering). kept.session.phase) kept
    same n None = refl
    same n (Some kept) = ap (λ (p : Peering). Some p.session.phase) (times_same n kept)
