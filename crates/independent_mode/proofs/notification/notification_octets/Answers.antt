use Rattle.std.proofs.Common.{◌≡◌, subst}
use Rattle.std.specs.Prelude.{IfOk}
use Rattle.ldp_grammar.specs.declared.message.Message.{Message}
use Rattle.ldp_grammar.specs.Written.{written}
use Rattle.pw_messages.specs.Sender.{platform_of}
use Rattle.independent_mode.proofs.notification.notification_octets.Goals as goal

pub returns : goal.returns
returns c = subst (λ (m : Message). IfOk c.pdu_octets.result (λ octets. octets ≡ written m (platform_of c.args.sender.router))) c.notification-message.ensures.message c.pdu_octets.ensures
