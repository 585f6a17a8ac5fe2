-- What the end beside the peer holds can be told on, and has room for a point at a switching point, since the ends of a wire are terminal
-- alike. Without such an end nothing is held.
use Rattle.std.proofs.Common.{◌≡◌, ◌<◌, ◌∙◌, ap, length, subst}
use Rattle.std.specs.Option.{option_copied}
use Rattle.pw_signalling.specs.AnyEnd.{end_of}
use Rattle.pw_signalling.specs.End.{fresh}
use Rattle.pw_ends.specs.Ends.{end_in, place_of, seen_ends}
use Rattle.edge_model.specs.declared.end_place.EndPlace.{EndPlace}
use Rattle.provider_edge.proofs.AcrossLemmas.{alike, held_none, held_read, read_kind, read_room, read_vlan}
use Rattle.provider_edge.specs.Invariant.{IsEdge}
use Rattle.provider_edge.specs.Lists.{EdgeLists}
use Rattle.provider_edge.proofs.edge.Edge.held_beside.Goals as goal

pub returns-in-Some-clause-held : goal.returns-in-Some-clause-held
returns-in-Some-clause-held c =
    held_read c.args.self.now c.args.slot c.in-Some.other c.place_at.result.wire c.args.peer (end_of c.end_in.result.now) (option_copied c.remote.result)
    (ap (λ (p : EndPlace). p.wire) c.place_at.ensures.place)
    (subst (λ (n : EdgeLists). (place_of n.ends c.in-Some.other).wire ≡ c.place_at.result.wire) c.self.view_is c.in-Some.ensures.wire)
    (subst (λ (n : EdgeLists). (place_of n.ends c.in-Some.other).peer ≡ c.args.peer) c.self.view_is c.in-Some.ensures.peer)
    c.end_in.ensures.end c.remote.ensures.remote

pub returns-in-Some-clause-kind : goal.returns-in-Some-clause-kind
returns-in-Some-clause-kind c =
    read_kind (place_of c.args.self.now.ends c.in-Some.other) (option_copied c.remote.result) (end_of c.end_in.result.now)
    (end_in c.args.self.now.ends c.in-Some.other) c.remote.ensures.remote c.end_in.ensures.end c.end_in.ensures.holds

pub returns-in-Some-clause-vlan : goal.returns-in-Some-clause-vlan
returns-in-Some-clause-vlan c =
    read_vlan (place_of c.args.self.now.ends c.in-Some.other) (option_copied c.remote.result) (end_of c.end_in.result.now)
    (end_in c.args.self.now.ends c.in-Some.other) c.remote.ensures.remote c.end_in.ensures.end c.end_in.ensures.holds

pub returns-in-Some-clause-room : goal.returns-in-Some-clause-room
returns-in-Some-clause-room c = λ switching.
    let is : IsEdge c.args.self.now = subst IsEdge c.self.view_is c.self.invariant in
    let within : c.in-Some.other < length c.args.self.now.ends.places = subst (λ (n : EdgeLists). c.in-Some.other < length n.ends.places) c.self.view_is c.in-Some.ensures.within in
    read_room (place_of c.args.self.now.ends c.in-Some.other) (option_copied c.remote.result) (end_of c.end_in.result.now) (end_in c.args.self.now.ends c.in-Some.other)
    (alike c.args.self.now c.in-Some.other c.args.slot is within c.requires
    (subst (λ (n : EdgeLists). (place_of n.ends c.in-Some.other).wire ≡ c.place_at.result.wire) c.self.view_is c.in-Some.ensures.wire ∙ ap (λ (p : EndPlace). p.wire) c.place_at.ensures.place)
    ∙ switching)
    c.remote.ensures.remote c.end_in.ensures.end c.end_in.ensures.holds

pub returns-in-None-clause-held : goal.returns-in-None-clause-held
returns-in-None-clause-held c =
    held_none c.args.self.now c.args.slot c.place_at.result.wire c.args.peer (ap (λ (p : EndPlace). p.wire) c.place_at.ensures.place)
    (subst (λ (n : EdgeLists). seen_ends n.ends c.place_at.result.wire.0 c.args.peer.0 ≡ fresh) c.self.view_is (c.beside.ensures.untold c.in-None.is))
