-- An edge that bridges a frame, or a packet, says nothing to a neighbour and changes nothing of its ends: only what its bridges
-- have learned, the calls of its link and what it gives out are others.
use Rattle.std.proofs.Common.{◌≡◌, ◌++◌, ◌||◌, ◌∙◌, ℕ, true, false, List, [], ◌∷◌, Option, Result, refl, ap, sym, subst}
use Rattle.net_values.proofs.BoolLemmas.{clash, or_false}
use Rattle.net_base.specs.declared.plan.Plan.{Plan}
use Rattle.net_base.specs.declared.plan.places.EdgeId.{EdgeId}
use Rattle.net_base.specs.declared.plan.places.ServiceId.{ServiceId}
use Rattle.net_base.specs.declared.trace.arrival.Arrival.{Arrival}
use Rattle.net_base.specs.declared.trace.drop_cause.DropCause.{DropCause}
use Rattle.pw_messages.specs.LinkAnswers.{Answers}
use Rattle.edge_model.specs.declared.effect.Effect.{Effect}
use Rattle.edge_model.specs.declared.effect.Effect.TheVariants as effect
use Rattle.edge_model.specs.Frame.{received}
use Rattle.edge_model.specs.Packet.{packet_input}
use Rattle.edge_model.specs.State.{EdgeState}
use Rattle.edge_model.specs.Work.{Work}
use Rattle.edge_model.proofs.BridgeLemmas.{BridgesOnly, LearnsOnly, PingsOnly, is_of_bridging, packet_bridges, received_bridges, with_pings}
use Rattle.edge_model.proofs.SessionLemmas.{are_all, GivesOnly}
use Rattle.flight_laws.specs.Meeting.{IsFine, Spares, TellWell, closes, said_to}
use Rattle.flight_laws.proofs.KeepLemmas.{KeepsEnds}
use Rattle.flight_laws.proofs.WorkLemmas.{closes-append, said-append, same_end}

-- nothing of the ends, of what is kept for neighbours, and of what was said to them is another one
pub record IsBridged (old new : Work) : Type 0 where
  pub keeps : KeepsEnds old.edge new.edge
  pub peering : new.edge.peering ≡ old.edge.peering
  pub said : (place : ℕ) → said_to place new.effects ≡ said_to place old.effects
  pub closed : (place : ℕ) → closes place new.effects ≡ closes place old.effects
  pub well : TellWell old.effects → TellWell new.effects
  pub effects : GivesOnly is_of_bridging old.effects new.effects
  pub idle : new.idle ≡ old.idle

-- it is nothing else for any place, and is as fine as before
pub bridged_spares : (place : ℕ) (old new : Work) → IsBridged old new → Spares place old new
bridged_spares place old new bridged = record { kept = ap (λ f. f place) bridged.peering; said = bridged.said place; closed = bridged.closed place }

pub bridged_fine : (me : EdgeId) (old new : Work) → IsBridged old new → IsFine me old → IsFine me new
bridged_fine me old new bridged fine = record { place = bridged.keeps.me ∙ fine.place; idle = bridged.idle ∙ fine.idle; well = bridged.well fine.well }

-- ---- what bridging gives out

-- effects of bridging say nothing to a neighbour, close no end, and tell nothing of sessions
record AreQuiet (es : List Effect) : Type 0 where
  says : (place : ℕ) → said_to place es ≡ []
  shuts : (place : ℕ) → closes place es ≡ false
  well : TellWell es

more_quiet : (es : List Effect) → are_all is_of_bridging es ≡ true → AreQuiet es
more_quiet [] all = record { says = λ place. refl; shuts = λ place. refl; well = tt }
more_quiet (effect.Left circuit octets ∷ es) all = (let rest = more_quiet es all in record { says = rest.says; shuts = rest.shuts; well = (tt, rest.well) })
more_quiet (effect.Sent peer wire came octets ∷ es) all = (let rest = more_quiet es all in record { says = rest.says; shuts = rest.shuts; well = (tt, rest.well) })
more_quiet (effect.Dropped cause ∷ es) all = (let rest = more_quiet es all in record { says = rest.says; shuts = rest.shuts; well = (tt, rest.well) })
more_quiet (effect.Said peer octets ∷ es) all = clash all
more_quiet (effect.Session peer state ∷ es) all = clash all
more_quiet (effect.Wire wire down ∷ es) all = clash all
more_quiet (effect.Pong wire sequence ∷ es) all = (let rest = more_quiet es all in record { says = rest.says; shuts = rest.shuts; well = (tt, rest.well) })
more_quiet (effect.Closed peer ∷ es) all = clash all

well_more : (es more : List Effect) → TellWell es → TellWell more → TellWell (es ++ more)
well_more [] more well rest = rest
well_more (e ∷ es) more well rest = (well.0, well_more es more well.1 rest)

-- all that is left as it was
pub learns_keeps : (old new : EdgeState) → LearnsOnly old new → KeepsEnds old new
learns_keeps old new only = record { me = only.me; wire_on = only.wires; bits = only.bits; ends = only.ends; told_down = only.downs; next_label = only.labels; kept = only.kept }

-- sessions and ends are left as they were, and only effects of bridging are given out
given_are : (old new : Work) → KeepsEnds old.edge new.edge → new.edge.peering ≡ old.edge.peering → GivesOnly is_of_bridging old.effects new.effects → new.idle ≡ old.idle → IsBridged old new
given_are old new keeps peering gives idle = record {
  keeps = keeps;
  peering = peering;
  said = λ place. ap (said_to place) gives.given
      ∙ (said-append place old.effects more ∙ (ap (λ (l : List ℕ). said_to place old.effects ++ l) (quiet.says place) ∙ same_end (said_to place old.effects)));
  closed = λ place. ap (closes place) gives.given
      ∙ (closes-append place old.effects more ∙ (ap (λ b. closes place old.effects || b) (quiet.shuts place) ∙ or_false (closes place old.effects)));
  well = λ well. rw gives.given (well_more old.effects more well quiet.well);
  effects = gives;
  idle = idle;
}
  where
    more : List Effect
    more = gives.more

    quiet : AreQuiet more
    quiet = more_quiet more gives.own

pub bridges_are : (old new : Work) → BridgesOnly old new → IsBridged old new
bridges_are old new only = given_are old new (learns_keeps old.edge new.edge only.edge) only.edge.peering only.effects only.idle

pings_keep : (pings : ℕ → ℕ) (edge : EdgeState) → KeepsEnds edge (with_pings pings edge)
pings_keep pings edge = record { me = refl; wire_on = refl; bits = refl; ends = refl; told_down = refl; next_label = refl; kept = refl }

-- so it is with a ping that applies
pub pings_are : (old new : Work) → PingsOnly old new → IsBridged old new
pings_are old new only =
    given_are old new (subst (KeepsEnds old.edge) (sym only.edge) (pings_keep only.pings old.edge)) (ap (λ (edge : EdgeState). edge.peering) only.edge) only.effects only.idle

-- ---- a frame or a packet is bridged

pub received_bridged : (plan : Plan) (told : Answers) (came : Arrival) (service : ServiceId) (arrival : Option ℕ) (read : Result (List ℕ) DropCause) (work : Work)
    → IsBridged work (received plan told came service arrival read work)
received_bridged plan told came service arrival read work = bridges_are work _ (received_bridges plan told came service arrival read work)

pub packet_bridged : (plan : Plan) (told : Answers) (octets : List ℕ) (work : Work) → IsBridged work (packet_input plan told octets work)
packet_bridged plan told octets work = bridges_are work _ (packet_bridges plan told octets work)
