-- One more address is written.
use Rattle.std.proofs.Common.{◌≡◌, ◌<◌, ◌+◌, ◌++◌, ◌∷◌, ◌∙◌, [], List, length, take, get_or, sym, ap, subst}
use Rattle.std.proofs.lemmas.List.{take_more}
use Rattle.net_values.specs.declared.mac.Mac.{Mac}
use Rattle.pw_tlvs.proofs.MacLemmas.{AreWritten, written_more}
use Rattle.pw_tlvs.proofs.macs.write_macs.Goals as goal

pub loop-mac-preserved : goal.loop-mac-preserved
loop-mac-preserved c =
    let i = c.loop-mac.mac-index in
    let no_mac : Mac = record { 0 = [] } in
    let same = c.as_slice-mac-items.ensures in
    let mac = get_or c.as_slice-mac-items.result.now i no_mac in
    let more : take (i + 1) c.args.list.now ≡ take i c.args.list.now ++ mac ∷ [] =
    take_more c.args.list.now i no_mac (subst (λ (l : List Mac). i < length l) same c.loop-mac-test.true)
    ∙ ap (λ (m : Mac). take i c.args.list.now ++ m ∷ []) (ap (λ (l : List Mac). get_or l i no_mac) (sym same)) in
    subst (λ (l : List Mac). AreWritten l (i + 1) c.put_mac-at.result c.args.out.now c.put_mac-at.new.out) (sym more)
    (written_more (take i c.args.list.now) mac i c.loop-mac.at c.put_mac-at.result c.args.out.now c.loop-mac.out c.put_mac-at.new.out c.loop-mac.invariant c.put_mac-at.ensures.whole c.put_mac-at.ensures.end c.put_mac-at.ensures.octets)
