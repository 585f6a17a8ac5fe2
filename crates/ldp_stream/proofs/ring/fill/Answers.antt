-- The octets held stay where they are.
use Rattle.std.proofs.Common.{◌-◌, replicate, vec_len, arith}
use Rattle.ldp_stream.proofs.RingLemmas.{filled}
use Rattle.ldp_stream.proofs.ring.fill.Goals as goal

pub returns-then-len-lt-ROOM-clause-held : goal.returns-then-len-lt-ROOM-clause-held
returns-then-len-lt-ROOM-clause-held c =
    let ends = c.requires.last (omega (arith, c.if-len-lt-ROOM.true, c.len.ensures)) in
    filled c.args.octets.now.items (replicate (4100 - vec_len c.args.octets.now) 0) c.resize.new.self.items c.args.front c.args.count (omega (arith, ends)) (omega (arith, c.requires.within))
    (search (c.resize.ensures.items, c.resize.ensures.succeeds c.requires.has_room))
