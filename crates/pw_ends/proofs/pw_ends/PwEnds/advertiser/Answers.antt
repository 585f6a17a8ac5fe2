-- The end that owns the label is the only one that may advertise it.
use Rattle.std.proofs.Common.{◌≡◌, ◌∙◌, length, map, subst, sym}
use Rattle.pw_ends.specs.Ends.{EndLists}
use Rattle.pw_ends.specs.Kept.{AreApart, OwnApart, own_of}
use Rattle.pw_ends.proofs.AdvertiserLemmas.{advertiser_found, advertiser_left, advertiser_none}
use Rattle.pw_ends.proofs.pw_ends.PwEnds.advertiser.Goals as goal

pub returns-in-Some-clause-place : goal.returns-in-Some-clause-place
returns-in-Some-clause-place c =
    advertiser_found c.args.self.now c.args.number
    (subst (λ (l : EndLists). AreApart l.places) c.self.view_is c.self.invariant.kept.apart)
    (subst (λ (l : EndLists). length l.ends ≡ length l.places) c.self.view_is c.self.invariant.kept.count)
    c.in-Some.slot (sym c.owner_of.ensures.slot ∙ c.in-Some.is) (sym c.advertises.ensures ∙ c.if-advertises.true)

pub returns-in_default-clause-place : goal.returns-in_default-clause-place
returns-in_default-clause-place c =
    advertiser_left c.args.self.now c.args.number
    (subst (λ (l : EndLists). AreApart l.places) c.self.view_is c.self.invariant.kept.apart)
    (subst (λ (l : EndLists). length l.ends ≡ length l.places) c.self.view_is c.self.invariant.kept.count)
    (subst (λ (l : EndLists). OwnApart (map own_of l.ends)) c.self.view_is c.self.invariant.kept.owns.apart)
    c.in-Some.slot (sym c.owner_of.ensures.slot ∙ c.in-Some.is) (sym c.advertises.ensures ∙ c.if-advertises.false)

pub returns-in_default-2-clause-place : goal.returns-in_default-2-clause-place
returns-in_default-2-clause-place c =
    advertiser_none c.args.self.now c.args.number
    (subst (λ (l : EndLists). AreApart l.places) c.self.view_is c.self.invariant.kept.apart)
    (subst (λ (l : EndLists). length l.ends ≡ length l.places) c.self.view_is c.self.invariant.kept.count)
    (sym c.owner_of.ensures.slot ∙ c.in_default.is)
