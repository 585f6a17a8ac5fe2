-- What holds of learned addresses in every run of a checked plan.
use Rattle.std.specs.Prelude.{◌≡◌, ◌++◌, ℕ, true, List, ◌∷◌}
use Rattle.std.specs.List.{list_all}
use Rattle.net_base.specs.declared.plan.Plan.{Plan}
use Rattle.net_base.specs.declared.plan.places.CircuitId.{CircuitId}
use Rattle.net_base.specs.declared.plan.places.ServiceId.{ServiceId}
use Rattle.net_base.specs.declared.trace.event.Event.{Event}
use Rattle.net_base.specs.declared.trace.event.Event.TheVariants.{Frame}
use Rattle.net_base.specs.trace.Frame.{destination_of}
use Rattle.flight_laws.specs.Laws.{IsRun, network_after}
use Rattle.network_model.specs.Frame.{next_origin}
use Rattle.network_model.specs.Run.{run}
use Rattle.address_laws.specs.Known.{EntersForSite, ReachesSite}
use Rattle.address_laws.specs.Points.{CopiesComeRight, Points}
use Rattle.address_laws.specs.Sites.{OneSite, Sites}
use Rattle.address_laws.specs.Stretch.{StartsRight, is_of_stretch}

-- In each stretch of a run, from a state in which it may begin, addresses keep pointing to their sites, and copies under way come
-- from behind the ports by which they will arrive.
abbrev pub PointsLast : Plan → List Event → Type 0
PointsLast plan events = (before during after : List Event) (service : ServiceId) (site : Sites)
    → events ≡ before ++ (during ++ after)
    → OneSite plan service site (run plan events).entries
    → StartsRight plan (network_after plan before) service site
    → list_all is_of_stretch during ≡ true
    → Points plan (network_after plan (before ++ during)) service site
    × CopiesComeRight plan (network_after plan (before ++ during)) service (run plan events).entries

-- and a frame that enters there for a station reaches its site once
abbrev pub KnownAreReached : ℕ → Plan → List Event → Type 0
KnownAreReached most plan events = (before during : List Event) (circuit : CircuitId) (octets : List ℕ) (later after : List Event) (service : ServiceId) (site : Sites)
    → events ≡ before ++ (during ++ Frame circuit octets ∷ (later ++ after))
    → OneSite plan service site (run plan events).entries
    → StartsRight plan (network_after plan before) service site
    → list_all is_of_stretch during ≡ true
    → (enters : EntersForSite plan (network_after plan (before ++ during)) service site circuit octets later)
    → ReachesSite most (site (destination_of enters.frame)) (next_origin (network_after plan (before ++ during))) (run plan events).entries

-- in every run, addresses keep pointing to their sites
abbrev pub RunsKeepPoints : Type 0
RunsKeepPoints = (plan : Plan) (events : List Event) → IsRun plan events → PointsLast plan events

-- twelve segments at most
abbrev pub RunsReachKnown : Type 0
RunsReachKnown = (plan : Plan) (events : List Event) → IsRun plan events → KnownAreReached 12 plan events
