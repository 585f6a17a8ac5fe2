-- The parts of the packet stand one behind another.
use Rattle.std.proofs.Common.{◌++◌, ◌∷◌, [], ◌∙◌, List, ℕ, drop, slice_index, ap}
use Rattle.vccv_channel.specs.Channel.{label_stack, channel_header}
use Rattle.vccv_channel.specs.Checksum.{summed}
use Rattle.vccv_channel.specs.Echo.{answer_header, echo_source, echo_destination}
use Rattle.vccv_channel.proofs.PacketLemmas.{packet_written}
use Rattle.vccv_channel.proofs.answering.answer.Goals as goal

pub returns-clause-octets : goal.returns-clause-octets
returns-clause-octets c =
    let base = c.args.out.now in
    let ip = c.args.ip.now in
    let stack = label_stack c.args.cc c.args.label c.args.points in
    let channel = channel_header c.args.cc in
    let front = c.header_front.result in
    let kind : List ℕ = 0 ∷ slice_index ip 21 ∷ [] in
    let message = summed kind c.split_at.result.1.now in
    let exchanged = c.joined-addresses.ensures ∙ (ap (λ (l : List ℕ). l ++ c.four_at-2.result) c.four_at.ensures ∙ ap (λ (l : List ℕ). echo_destination ip ++ l) c.four_at-2.ensures) in
    packet_written base stack channel (summed front c.joined-addresses.result) message c.put_channel-begin.new.out c.put_summed-middle.new.out c.put_summed.new.out c.put_channel-begin.result c.put_summed-middle.result c.put_summed.result
    c.put_channel-begin.ensures.end c.put_channel-begin.ensures.octets c.put_summed-middle.ensures.end c.put_summed-middle.ensures.octets c.put_summed.ensures.end c.put_summed.ensures.octets
    ∙ (ap (λ (addresses : List ℕ). (stack ++ (channel ++ (summed front addresses ++ message))) ++ drop c.put_summed.result base) exchanged
    ∙ (ap (λ (before : List ℕ). (stack ++ (channel ++ (summed before (echo_destination ip ++ echo_source ip) ++ message))) ++ drop c.put_summed.result base) c.header_front.ensures
    ∙ ap (λ (rest : List ℕ). (stack ++ (channel ++ (answer_header ip ++ summed kind rest))) ++ drop c.put_summed.result base) c.split_at.ensures.back))
