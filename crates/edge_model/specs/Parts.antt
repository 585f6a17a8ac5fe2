-- A joined piece of octets is heard like its two parts in turn: how a connection cuts what is put on it tells nothing (RFC
-- 5036 section 2.5).
use Rattle.std.specs.Prelude.{◌≡◌, ◌≤◌, ◌++◌, ℕ, true, false, List, Option, Some, None}
use Rattle.net_base.specs.declared.plan.Plan.{Plan}
use Rattle.net_base.specs.declared.plan.places.EdgeId.{EdgeId}
use Rattle.net_values.specs.Octets.{AreOctets}
use Rattle.pw_messages.specs.LinkAnswers.{Answers}
use Rattle.edge_model.specs.declared.input.Input.{Input}
use Rattle.edge_model.specs.Hear.{hears, hears_on, octets_input}
use Rattle.edge_model.specs.State.{EdgeState, Peering, empty_edge, has_end}
use Rattle.edge_model.specs.Step.{edge_step}
use Rattle.edge_model.specs.Work.{Work}

-- the maximum of the session with a peer, where it stands, is one that a session can have (RFC 5036 section 3.5.3)
abbrev pub HasFitMaximum : Option Peering → Type 0
HasFitMaximum None = Unit {0}
HasFitMaximum (Some kept) = kept.session.max_pdu ≤ 4096

-- so it is with each of an edge's sessions
abbrev pub SessionsFit : EdgeState → Type 0
SessionsFit edge = (k : ℕ) → HasFitMaximum (edge.peering k)

-- the input `Octets`
abbrev pub takes_octets : Plan → Answers → EdgeId → List ℕ → Work → Work
takes_octets plan told peer octets work = octets_input plan told peer octets (work.edge.peering peer.0) work

-- Whatever the link answers, and whatever the maximum becomes between two PDUs.
pub record EdgeHearsInParts : Type 0 where
  -- what is left of the first part is held, and stands in front of the second
  pub goes_on : (plan : Plan) (told : Answers) (peer : EdgeId) (octets more : List ℕ) (work : Work) → AreOctets (octets ++ more) → HasFitMaximum (work.edge.peering peer.0)
      → has_end (hears plan told peer octets work).edge peer ≡ true
      → hears plan told peer (octets ++ more) work ≡ hears_on plan told peer more ((hears plan told peer octets work).edge.peering peer.0) (hears plan told peer octets work)
  -- where the session ended in the first part, the second is given up
  pub gives_up : (plan : Plan) (told : Answers) (peer : EdgeId) (octets more : List ℕ) (work : Work) → AreOctets (octets ++ more) → HasFitMaximum (work.edge.peering peer.0)
      → has_end (hears plan told peer octets work).edge peer ≡ false
      → hears plan told peer (octets ++ more) work ≡ hears plan told peer octets work
  -- the same where octets may be held already
  pub with_held : (plan : Plan) (told : Answers) (peer : EdgeId) (octets more : List ℕ) (kept : Peering) (work : Work) → AreOctets (kept.held ++ (octets ++ more)) → HasFitMaximum (work.edge.peering peer.0)
      → has_end (hears_on plan told peer octets (Some kept) work).edge peer ≡ true
      → hears_on plan told peer (octets ++ more) (Some kept) work
      ≡ hears_on plan told peer more ((hears_on plan told peer octets (Some kept) work).edge.peering peer.0) (hears_on plan told peer octets (Some kept) work)
  -- two inputs are as one of all their octets, where the first leaves nothing to mend: an edge mends after each message that it hears, and
  -- mending right after that changes nothing
  pub two_inputs : (plan : Plan) (told : Answers) (peer : EdgeId) (octets more : List ℕ) (kept : Peering) (work : Work) → work.edge.peering peer.0 ≡ Some kept
      → AreOctets (kept.held ++ (octets ++ more)) → HasFitMaximum (Some kept)
      → takes_octets plan told peer octets work ≡ hears_on plan told peer octets (Some kept) work → has_end (takes_octets plan told peer octets work).edge peer ≡ true
      → takes_octets plan told peer more (takes_octets plan told peer octets work) ≡ takes_octets plan told peer (octets ++ more) work
  -- each edge that comes about has such sessions
  pub begins : (plan : Plan) (me : EdgeId) → SessionsFit (empty_edge plan me)
  pub keeps : (plan : Plan) (told : Answers) (input : Input) (work : Work) → SessionsFit work.edge → SessionsFit (edge_step plan told input work).edge
