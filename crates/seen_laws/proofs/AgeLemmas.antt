-- Packets that are too old are told, and what is told of them shows those that live on.
use Rattle.std.proofs.Common.{◌≡◌, ◌<◌, ◌++◌, ◌∙◌, ℕ, Bool, true, false, List, [], ◌∷◌, cond, map, nat_eq, refl, sym, ap, subst, arith, append_assoc}
use Rattle.std.proofs.lemmas.Bool.{eq-eqb, ne_eqb}
use Rattle.net_base.specs.declared.plan.Plan.{Plan}
use Rattle.net_base.specs.declared.trace.entry.Entry.TheVariants.{Aged}
use Rattle.network_model.specs.Age.{aged_entries}
use Rattle.network_model.specs.declared.packet.Packet.{Packet}
use Rattle.network_model.specs.State.{NetworkState, all_older, lives_on, older, with_older}
use Rattle.network_model.proofs.PacketListLemmas.{AreNumbered, NumbersRise}
use Rattle.seen_network.specs.Seen.{Seen, SeenCopy, with_copies, without_copy}
use Rattle.seen_laws.specs.Shows.{AreTold, AreUpTo, Shows, copy_of, tolds}
use Rattle.seen_laws.proofs.CopyLemmas.{below_behind, below_more, older_below}

pub aged_told : (packets : List Packet) → AreTold (aged_entries packets)
aged_told [] = tt
aged_told (p ∷ ps) = by (lives_on p) (aged_told ps) where
  by : (b : Bool) → AreTold (aged_entries ps) → AreTold (cond b (aged_entries ps) (Aged p.number ∷ aged_entries ps))
  by true rest = rest
  by false rest = rest

-- the copy with a number goes from behind those with lower ones
goes_behind : (most : ℕ) (front : List SeenCopy) (copy : SeenCopy) (rest : List SeenCopy) → AreUpTo most front → most < copy.number → without_copy copy.number (front ++ copy ∷ rest) ≡ front ++ rest
goes_behind most [] copy rest below above = rw (eq-eqb copy.number copy.number refl) refl
goes_behind most (first ∷ front) copy rest below above = rw (apart) (ap (λ (l : List SeenCopy). first ∷ l) (goes_behind most front copy rest below.1 above)) where
  apart : nat_eq first.number copy.number ≡ false
  apart = ne_eqb first.number copy.number (λ same. omega (arith, same, below.0, above))

-- what is told of packets that are too old, where so many copies of younger numbers are seen in front of theirs
aged_seen : (least : ℕ) (front : List SeenCopy) (packets : List Packet) (seen : Seen) → NumbersRise least packets → AreUpTo least front → seen.under_way ≡ front ++ map copy_of packets
    → tolds (aged_entries packets) seen ≡ with_copies (front ++ map copy_of (all_older packets)) seen
unfolding with_copies
aged_seen least front [] seen rise below is = ap (λ (l : List SeenCopy). with_copies l seen) is
aged_seen least front (p ∷ ps) seen rise below is =
    by (lives_on p) (aged_seen p.number (front ++ copy_of p ∷ []) ps seen rise.1 further (is ∙ sym (append_assoc front (copy_of p ∷ []) (map copy_of ps))))
    (aged_seen p.number front ps (with_copies (without_copy p.number seen.under_way) seen) rise.1 (below_more least p.number front (omega (arith, rise.0)) below)
    (ap (without_copy p.number) is ∙ goes_behind least front (copy_of p) (map copy_of ps) below rise.0)) where
      further : AreUpTo p.number (front ++ copy_of p ∷ [])
      further = below_behind p.number front (copy_of p) (below_more least p.number front (omega (arith, rise.0)) below) (omega arith)

      by : (b : Bool) → tolds (aged_entries ps) seen ≡ with_copies ((front ++ copy_of p ∷ []) ++ map copy_of (all_older ps)) seen
          → tolds (aged_entries ps) (with_copies (without_copy p.number seen.under_way) seen)
          ≡ with_copies (front ++ map copy_of (all_older ps)) (with_copies (without_copy p.number seen.under_way) seen)
          → tolds (cond b (aged_entries ps) (Aged p.number ∷ aged_entries ps)) seen ≡ with_copies (front ++ map copy_of (cond b (older p ∷ all_older ps) (all_older ps))) seen
      by true lives goes = lives ∙ ap (λ (l : List SeenCopy). with_copies l seen) (append_assoc front (copy_of p ∷ []) (map copy_of (all_older ps)))
      by false lives goes = goes

-- what a tick tells of packets shows those that it leaves
pub aged_shows : (plan : Plan) (network : NetworkState) (seen : Seen) → Shows plan network seen → AreNumbered network → Shows plan (with_older network) (tolds (aged_entries network.under_way) seen)
unfolding with_older with_copies
aged_shows plan network seen shows numbered = subst (Shows plan (with_older network)) (sym (aged_seen 0 [] network.under_way seen numbered.rise tt shows.under_way)) (record {
  standing = shows.standing;
  pipes = shows.pipes;
  rests = shows.rests;
  up = shows.up;
  on = shows.on;
  under_way = refl;
  counted = older_below network.sent network.under_way (subst (AreUpTo network.sent) shows.under_way shows.counted);
})
