-- The work of an edge on a tick, on octets that it hears, and on the loss of a connection says messages of its ends.
use Rattle.std.proofs.Common.{◌≡◌, ◌++◌, ◌∙◌, ℕ, suc, true, false, nat_eq, take, drop, length, List, Option, Some, None, refl, sym, ap, subst, append_assoc}
use Rattle.std.proofs.lemmas.List.{take-append-drop}
use Rattle.net_values.proofs.NumberLemmas.{apart_back}
use Rattle.net_base.specs.declared.plan.Plan.{Plan}
use Rattle.net_base.specs.declared.plan.places.EdgeId.{EdgeId}
use Rattle.net_base.specs.plan.Accepted.{IsChecked}
use Rattle.edge_model.specs.Hear.{hears_few, holds, octets_input}
use Rattle.edge_model.specs.State.{Peering, with_peering}
use Rattle.edge_model.specs.Tick.{counted, tick_input}
use Rattle.edge_model.specs.Work.{Work}
use Rattle.network_model.specs.Absorb.{begin_at, taken_all}
use Rattle.network_model.specs.Connection.{losing_work}
use Rattle.network_model.specs.State.{NetworkState, stands, with_pipe}
use Rattle.flight_laws.specs.Ends.{HasTypes, IsOrdered, ends_at}
use Rattle.flight_laws.specs.Facts.{flight}
use Rattle.flight_laws.specs.Messages.{octets_of_all}
use Rattle.flight_laws.specs.Pair.{ArePaired}
use Rattle.flight_laws.proofs.EventLemmas.{hears_begin, losing_is}
use Rattle.flight_laws.proofs.HearLemmas.{HearsOn, heard_works}
use Rattle.flight_laws.proofs.HearingLemmas.{HasHeard, few_heard}
use Rattle.flight_laws.proofs.MendingLemmas.{mends_keep}
use Rattle.flight_laws.proofs.PipeLemmas.{pipe_there}
use Rattle.flight_laws.proofs.WorkingLemmas.{lost_kept, tick_kept}
use Rattle.flight_laws.proofs.WorksLemmas.{works_begin, works_counted}
use Rattle.spelling_laws.proofs.PutLemmas.{AllTell, changed_effects, changes_tell}
use Rattle.spelling_laws.proofs.WorkLemmas.{Hears, Works, hears_told, works_told}

pub begun : (plan : Plan) (network : NetworkState) (me : EdgeId) (checked : IsChecked plan) (types : HasTypes plan) → IsOrdered plan network → Works plan network me checked types (begin_at network me)
begun plan network me checked types ordered = (works_begin plan network me ordered, tt)

-- a tick passes
pub tick_works : (plan : Plan) (network : NetworkState) (me : EdgeId) (checked : IsChecked plan) (types : HasTypes plan) → IsOrdered plan network
    → Works plan network me checked types (tick_input plan taken_all (begin_at network me))
tick_works plan network me checked types ordered =
    tick_kept plan me (Works plan network me checked types) (works_told plan network me checked types) (begin_at network me)
    (works_counted plan network me (begin_at network me) (works_begin plan network me ordered), changes_tell plan me.0 counted (begin_at network me) tt)

-- a connection is lost
pub losing_tells : (plan : Plan) (network : NetworkState) (me peer : EdgeId) → IsChecked plan → HasTypes plan → IsOrdered plan network → stands network me.0 peer.0 ≡ true
    → AllTell plan me.0 (losing_work plan network me peer).effects
losing_tells plan network me peer checked types ordered up =
    subst (λ (w : Work). AllTell plan me.0 w.effects) (sym (losing_is plan me peer network up))
    (lost_kept plan me (Works plan network me checked types) (works_told plan network me checked types) peer (begin_at network me) (begun plan network me checked types ordered)).1

-- ---- octets are heard

-- what is no whole PDU yet is held
held_effects : (peer : EdgeId) (rest : List ℕ) (near : Option Peering) (work : Work) → (holds peer rest near work).effects ≡ work.effects
held_effects peer rest None work = refl
held_effects peer rest (Some kept) work = changed_effects (with_peering peer (Some (record kept { held = rest }))) work

module _ (plan : Plan) (network : NetworkState) (me peer : EdgeId) (apart : nat_eq me.0 peer.0 ≡ false) (checked : IsChecked plan) (types : HasTypes plan) where
  heard_on : (more : List ℕ) (result : Work) → HasHeard peer (ends_at plan peer.0 me.0) (Hears plan network me peer apart checked types) more result
      → HasHeard peer (ends_at plan peer.0 me.0) (HearsOn plan network me peer) more result
  heard_on more result heard = record { later = heard.later; rest = heard.rest; last = heard.last; keeps = heard.keeps.0; said = heard.said; behind = heard.behind; is = heard.is }

  heard_tells : (more : List ℕ) (result : Work) → HasHeard peer (ends_at plan peer.0 me.0) (Hears plan network me peer apart checked types) more result → AllTell plan me.0 result.effects
  heard_tells more result heard = subst (λ (w : Work). AllTell plan me.0 w.effects) (sym heard.is)
      (subst (AllTell plan me.0) (sym (held_effects peer heard.rest (heard.last.edge.peering peer.0) heard.last)) heard.keeps.1)

  pub heard_both : (result : Work) → HasHeard peer (ends_at plan peer.0 me.0) (Hears plan network me peer apart checked types) (network.pipes peer.0 me.0) result
      → Works plan network me checked types result
  heard_both result heard = (heard_works plan network me peer apart result (heard_on (network.pipes peer.0 me.0) result heard), heard_tells (network.pipes peer.0 me.0) result heard)

pub deliver_tells : (plan : Plan) (from to : EdgeId) (count : ℕ) (network : NetworkState) (kept : Peering) → IsChecked plan → HasTypes plan → IsOrdered plan network → nat_eq from.0 to.0 ≡ false
    → (network.edges to.0).peering from.0 ≡ Some kept
    → AllTell plan to.0 (octets_input plan taken_all from (take count (network.pipes from.0 to.0)) (Some kept) (begin_at network to)).effects
deliver_tells plan from to count network kept checked types ordered apart at =
    (mends_keep plan to (Works plan later to checked types) (works_told plan later to checked types).rows (hears_few plan taken_all from (suc (length octets)) octets (begin_at network to))
    (heard_both plan later to from away checked types (hears_few plan taken_all from (suc (length octets)) octets (begin_at network to))
    (rw (pipe_there from to (drop count pipe) network) (few_heard plan from (ends_at plan from.0 to.0) pair.talk.here.between.two (Hears plan later to from away checked types)
    (hears_told plan later to from away checked types)
    (suc (length octets)) octets (drop count pipe) pair.answers (begin_at network to) pair.talk.answered whole
    (hears_begin plan from to (drop count pipe) network kept ordered apart at pair, tt))))).1
  where
    away : nat_eq to.0 from.0 ≡ false
    away = apart_back from.0 to.0 apart

    pipe : List ℕ
    pipe = network.pipes from.0 to.0

    octets : List ℕ
    octets = kept.held ++ take count pipe

    later : NetworkState
    later = with_pipe from to (drop count pipe) network

    pair : ArePaired (ends_at plan to.0 from.0) (ends_at plan from.0 to.0) (Some kept) ((network.edges from.0).peering to.0) (flight network to.0 from.0) (kept.held ++ pipe)
    pair = rw at at (ordered.two to.0 from.0 (apart_back from.0 to.0 apart))

    whole : octets ++ drop count pipe ≡ octets_of_all (ends_at plan from.0 to.0).me pair.answers
    whole = append_assoc kept.held (take count pipe) (drop count pipe) ∙ ap (λ (l : List ℕ). kept.held ++ l) (take-append-drop count pipe) ∙ pair.back_is
