-- The parts of the packet stand one behind another.
use Rattle.std.proofs.Common.{◌++◌, ◌∷◌, [], ◌∙◌, List, ℕ, drop, ap}
use Rattle.vccv_channel.specs.Channel.{label_stack, channel_header}
use Rattle.vccv_channel.specs.Checksum.{summed}
use Rattle.vccv_channel.specs.Echo.{request_header}
use Rattle.vccv_channel.proofs.PacketLemmas.{packet_written}
use Rattle.vccv_channel.proofs.requesting.request.Goals as goal

pub returns-clause-octets : goal.returns-clause-octets
returns-clause-octets c =
    let base = c.args.out.now in
    let stack = label_stack c.args.cc c.args.label c.args.points in
    let channel = channel_header c.args.cc in
    let front : List ℕ = 0x45 ∷ 0 ∷ 0 ∷ 28 ∷ 0 ∷ 0 ∷ 0 ∷ 0 ∷ 255 ∷ 1 ∷ [] in
    let kind : List ℕ = 8 ∷ 0 ∷ [] in
    let message = summed kind c.numbers_of.result in
    packet_written base stack channel (summed front c.joined-addresses.result) message c.put_channel-begin.new.out c.put_summed-middle.new.out c.put_summed.new.out c.put_channel-begin.result c.put_summed-middle.result c.put_summed.result
    c.put_channel-begin.ensures.end c.put_channel-begin.ensures.octets c.put_summed-middle.ensures.end c.put_summed-middle.ensures.octets c.put_summed.ensures.end c.put_summed.ensures.octets
    ∙ (ap (λ (addresses : List ℕ). (stack ++ (channel ++ (summed front addresses ++ message))) ++ drop c.put_summed.result base) c.joined-addresses.ensures
    ∙ ap (λ (numbers : List ℕ). (stack ++ (channel ++ (request_header c.args.ping ++ summed kind numbers))) ++ drop c.put_summed.result base) c.numbers_of.ensures)
