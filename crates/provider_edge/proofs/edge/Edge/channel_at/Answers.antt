use Rattle.std.proofs.Common.{ap, sym, option_copied, ◌∙◌}
use Rattle.pw_ends.specs.Ends.{end_in}
use Rattle.pw_signalling.specs.End.{EndState}
use Rattle.vccv_channel.specs.Pick.{picked}
use Rattle.provider_edge.proofs.EchoLemmas.{channel_bound, channel_free}
use Rattle.provider_edge.proofs.edge.Edge.channel_at.Goals as goal

pub returns-in-Some : goal.returns-in-Some
returns-in-Some c = λ row at.
    channel_bound row c.args.self.now.me (end_in c.args.self.now.ends c.args.slot).remote c.in-Some.binding.now c.offer_at-offer.result c.pick.result (c.offer_at-offer.ensures.row row at)
    (sym (c.remote.ensures.remote ∙ ap (λ (e : EndState). e.remote) c.end_in.ensures.end) ∙ ap option_copied c.in-Some.is)
    (c.pick.ensures ∙ ap (picked c.offer_at-offer.result.vccv c.in-Some.binding.now.told.vccv c.offer_at-offer.result.cword) c.len.ensures.count)

pub returns-in-None : goal.returns-in-None
returns-in-None c = λ row at.
    channel_free row c.args.self.now.me (end_in c.args.self.now.ends c.args.slot).remote
    (sym (c.remote.ensures.remote ∙ ap (λ (e : EndState). e.remote) c.end_in.ensures.end) ∙ ap option_copied c.in-None.is)
