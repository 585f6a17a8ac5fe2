-- What it costs to tell messages: their weights, and their octets.
use Rattle.std.proofs.Common.{◌≡◌, ◌≤◌, ◌<◌, ◌+◌, ◌*◌, ◌-◌, ◌++◌, ◌∙◌, ℕ, zero, suc, List, [], ◌∷◌, Option, Some, None, option_and_then, length, map, refl, sym, ap, subst, zero-add, arith}
use Rattle.std.proofs.Math.Nat.{suc-mul}
use Rattle.std.specs.List.{AllByRecursion}
use Rattle.net_base.specs.declared.plan.Plan.{Plan}
use Rattle.net_base.specs.plan.Accepted.{IsChecked}
use Rattle.ldp_grammar.specs.declared.message.Message.{Message}
use Rattle.session_core.specs.declared.peers.Peers.{Peers}
use Rattle.edge_model.specs.declared.effect.Effect.{Effect}
use Rattle.edge_model.specs.declared.effect.Effect.TheVariants as effect
use Rattle.edge_model.specs.declared.end_place.EndPlace.{EndPlace}
use Rattle.edge_model.specs.EndPlaces.{end_named}
use Rattle.edge_model.specs.State.{EdgeState}
use Rattle.flight_laws.specs.Ends.{ends_at}
use Rattle.flight_laws.proofs.PlaceLemmas.{IsNamed, named_is}
use Rattle.flight_laws.proofs.SaidLemmas.{ready}
use Rattle.flight_laws.proofs.SteadyLemmas.{end_small}
use Rattle.rest_laws.specs.Delivered.{weigh_one}
use Rattle.rest_laws.specs.Levels.{Saying, level_at, level_of, levels_end, pw_id_of, saying_of}
use Rattle.rest_laws.specs.Rises.{AreSaidAt, IsSaidAt, left_above, said_count}
use Rattle.rest_laws.specs.Weight.{grow, heavy, total}
use Rattle.rest_laws.proofs.WeightLemmas.{heavy_rises, heavy_some}
use Rattle.quiet_laws.proofs.SpelledLemmas.{same_saying}
use Rattle.quiet_laws.proofs.ToldLemmas.{AreTold, IsTold, Put}

-- ---- weights, several times

pub grow_more : (k f g h : ℕ) → g ≡ k + f → k * h + grow f h ≤ grow g h
grow_more zero f g h is = subst (λ (n : ℕ). 0 * h + grow f h ≤ grow n h) (sym (is ∙ zero-add f)) (itself h (grow f h)) where
  itself : (h n : ℕ) → 0 * h + n ≤ n
  itself h n = omega (arith)
grow_more (suc k) f g h is = subst (λ (n : ℕ). suc k * h + grow f h ≤ grow n h) (sym (is ∙ longer k f)) (one (k * h) (grow f h) (grow (k + f) h) h (suc k * h) (suc-mul k h) (grow_more k f (k + f) h refl)) where
  longer : (k f : ℕ) → suc k + f ≡ suc (k + f)
  longer k f = omega arith

  one : (a b c h s : ℕ) → s ≡ a + h → a + b ≤ c → s + b ≤ h + c
  one a b c h s is le = omega (arith, is, le)

grow_least : (few h : ℕ) → h ≤ grow few h
grow_least zero h = omega arith
grow_least (suc few) h = omega arith

no_less : (a : ℕ) → suc a ≤ 0 → ⊥
no_less a le = omega (arith, le)

no_fewer : (a : ℕ) → a < 0 → ⊥
no_fewer a le = omega (arith, le)

-- so many times the weights of few are less than one above them
cost_under : (h : ℕ) → 1 ≤ h → (all : ℕ) (ns : List ℕ) (few : ℕ) → 261 * length ns ≤ few → AllByRecursion (λ n. heavy all n ≤ h) ns → 261 * total all ns < grow few h
cost_under h some all [] few short each = none (grow few h) (grow_least few h) some where
  none : (g : ℕ) → h ≤ g → 1 ≤ h → 261 * 0 < g
  none g least some = omega (arith, least, some)
cost_under h some all (n ∷ ns) few short each =
    over (heavy all n) (total all ns) h (grow (few - 261) h) (grow few h) each.0 (cost_under h some all ns (few - 261) (less (length ns) few short) each.1)
    (grow_more 261 (few - 261) few h (parts (length ns) few short))
  where
    less : (l few : ℕ) → 261 * suc l ≤ few → 261 * l ≤ few - 261
    less l few le = omega (arith, le)

    parts : (l few : ℕ) → 261 * suc l ≤ few → few ≡ 261 + (few - 261)
    parts l few le = omega (arith, le)

    over : (w t h g f : ℕ) → w ≤ h → 261 * t < g → 261 * h + g ≤ f → 261 * (w + t) < f
    over w t h g f one rest sum = omega (arith, one, rest, sum)

each_under : (few levels : ℕ) (ns : List ℕ) → AllByRecursion (λ n. n < suc levels) ns → AllByRecursion (λ n. heavy few n ≤ heavy few levels) ns
each_under few levels [] each = tt
each_under few levels (n ∷ ns) each = (heavy_rises few n levels (omega (arith, each.0)), each_under few levels ns each.1)

pub costly : (few most levels : ℕ) (ns : List ℕ) → 261 * most ≤ few → length ns ≤ most → AllByRecursion (λ n. n < levels) ns → 261 * total few ns < heavy few levels
costly few most zero [] enough short each = omega arith
costly few most zero (n ∷ ns) enough short each = absurd (no_fewer n each.0)
costly few most (suc levels) ns enough short each = cost_under (heavy few levels) (heavy_some few levels) few ns few (both (length ns) most few short enough) (each_under few levels ns each) where
  both : (l most few : ℕ) → l ≤ most → 261 * most ≤ few → 261 * l ≤ few
  both l most few one other = omega (arith, one, other)

-- ---- what messages cost

module _ (plan : Plan) (edges : ℕ → EdgeState) (me few : ℕ) where
  abbrev pub weighs : Put → ℕ
  weighs p = weigh_one few (level_of plan edges me p.to p.message)

  -- a PDU of a message has at most 260 octets
  abbrev pub costs : List Put → ℕ
  costs [] = 0
  costs (p ∷ ps) = (weighs p + 260) + costs ps

  pub costs_joined : (ps qs : List Put) → costs (ps ++ qs) ≡ costs ps + costs qs
  costs_joined [] qs = sym (zero-add (costs qs))
  costs_joined (p ∷ ps) qs = sum (weighs p + 260) (costs (ps ++ qs)) (costs ps) (costs qs) (costs_joined ps qs) where
    sum : (w a b c : ℕ) → a ≡ b + c → w + a ≡ (w + b) + c
    sum w a b c is = omega (arith, is)

  -- no message weighs more than this
  pub weigh_top : (o : Option ℕ) → weigh_one few o ≤ heavy few levels_end
  weigh_top None = heavy_some few levels_end
  weigh_top (Some level) = heavy_rises few (left_above level) levels_end (fewer level) where
    fewer : (l : ℕ) → 112 - l ≤ 112
    fewer l = omega arith

  abbrev pub worth : ℕ
  worth = heavy few levels_end + 260

  pub costs_few : (es : List Effect) (ps : List Put) → AreTold plan me es ps → costs ps ≤ said_count es * worth
  costs_few [] [] are = none (0 * worth) where
    none : (n : ℕ) → 0 ≤ n
    none n = omega arith
  costs_few [] (p ∷ ps) are = absurd are
  costs_few (effect.Said peer [] ∷ es) ps are = more (said_count es) worth (costs ps) (costs_few es ps are)
    where
      more : (c x n : ℕ) → n ≤ c * x → n ≤ (1 + c) * x
      more c x n le = omega (arith, le, ap (λ (k : ℕ). k * x) (one_on c), suc-mul c x) where
        one_on : (c : ℕ) → 1 + c ≡ suc c
        one_on c = omega arith
  costs_few (effect.Said peer (o ∷ os) ∷ es) [] are = absurd are
  costs_few (effect.Said peer (o ∷ os) ∷ es) (p ∷ ps) are = one (said_count es) worth (weighs p) (heavy few levels_end) (costs ps) refl (weigh_top (level_of plan edges me p.to p.message)) (costs_few es ps are.1)
    where
      one : (c x w h n : ℕ) → x ≡ h + 260 → w ≤ h → n ≤ c * x → (w + 260) + n ≤ (1 + c) * x
      one c x w h n is top le = omega (arith, is, top, le, ap (λ (k : ℕ). k * x) (one_on c), suc-mul c x) where
        one_on : (c : ℕ) → 1 + c ≡ suc c
        one_on c = omega arith
  costs_few (e ∷ es) ps are = more (said_count es) worth (costs ps) (costs_few es ps are)
    where
      more : (c x n : ℕ) → n ≤ c * x → n ≤ (0 + c) * x
      more c x n le = omega (arith, le, ap (λ (k : ℕ). k * x) (zero-add c))

  -- ---- by levels

  -- what the level of a message goes by
  record HasParts (peer : ℕ) (m : Message) : Type 0 where
    saying : Saying
    says : saying_of m ≡ Some saying
    pw : ℕ
    names : pw_id_of m ≡ Some pw
    low : pw < 4294967296

  abbrev ends_by : ℕ → Option ℕ → Option EndPlace
  ends_by peer o = option_and_then (end_named plan (record { 0 = me }) (record { 0 = peer })) o

  parts_of : IsChecked plan → (peer : ℕ) (m : Message) (level : ℕ) → level_of plan edges me peer m ≡ Some level → HasParts peer m
  parts_of checked peer m level has = by (saying_of m) refl has where
    at_place : (saying : Saying) (n : ℕ) → saying_of m ≡ Some saying → pw_id_of m ≡ Some n → (o : Option EndPlace) → end_named plan (record { 0 = me }) (record { 0 = peer }) n ≡ o
        → option_and_then (level_at plan edges me saying) o ≡ Some level → HasParts peer m
    at_place saying n says names None named is = absurd (cc (is))
    at_place saying n says names (Some place) named is =
        let here : IsNamed plan (record { 0 = me }) (record { 0 = peer }) n place = named_is plan (record { 0 = me }) (record { 0 = peer }) n place named in
        record { saying = saying; says = says; pw = n; names = names; low = subst (λ (k : ℕ). k < 4294967296) here.pw_id_is (end_small plan (record { 0 = me }) place checked here.holds) }

    numbered : (saying : Saying) → saying_of m ≡ Some saying → (o : Option ℕ) → pw_id_of m ≡ o → option_and_then (level_at plan edges me saying) (ends_by peer o) ≡ Some level → HasParts peer m
    numbered saying says None names is = absurd (cc (is))
    numbered saying says (Some n) names is = at_place saying n says names (end_named plan (record { 0 = me }) (record { 0 = peer }) n) refl is

    by : (o : Option Saying) → saying_of m ≡ o → option_and_then (λ (s : Saying). option_and_then (level_at plan edges me s) (ends_by peer (pw_id_of m))) o ≡ Some level → HasParts peer m
    by None says is = absurd (cc (is))
    by (Some saying) says is = numbered saying says (pw_id_of m) refl is

  -- messages that say the same of the same wire are of one level
  same_level : (peer : ℕ) (m n : Message) → saying_of m ≡ saying_of n → pw_id_of m ≡ pw_id_of n → level_of plan edges me peer m ≡ level_of plan edges me peer n
  same_level peer m n says names =
      ap (λ (o : Option Saying). option_and_then (λ (s : Saying). option_and_then (level_at plan edges me s) (ends_by peer (pw_id_of m))) o) says
      ∙ ap (λ (o : Option ℕ). option_and_then (λ (s : Saying). option_and_then (level_at plan edges me s) (ends_by peer o)) (saying_of n)) names

  level_told : IsChecked plan → (peer level : ℕ) (octets : List ℕ) (p : Put) → IsSaidAt plan edges me level peer octets → IsTold plan me peer octets p → level_of plan edges me p.to p.message ≡ Some level
  level_told checked peer level octets p said told =
      let parts : HasParts peer said.message = parts_of checked peer said.message level said.is in
      let ends : Peers = ends_at plan me p.to in
      let same = same_saying ends parts.pw parts.low ends.me told.fit.me.four p.message told.said (ready ends p.message told.fit told.said).short said.message said.router parts.saying parts.says parts.names
      (sym said.spelled ∙ told.spelled) in
      ap (λ (k : ℕ). level_of plan edges me k p.message) told.to
      ∙ (same_level peer p.message said.message (same.0 ∙ sym parts.says) (same.1 ∙ sym parts.names) ∙ said.is)

  pub costs_levels : IsChecked plan → (es : List Effect) (ps : List Put) (levels : List ℕ) → AreTold plan me es ps → AreSaidAt plan edges me es levels → costs ps ≤ 261 * total few (map left_above levels)
  costs_levels checked [] [] levels told are = none (261 * total few (map left_above levels)) where
    none : (n : ℕ) → 0 ≤ n
    none n = omega arith
  costs_levels checked [] (p ∷ ps) levels told are = absurd told
  costs_levels checked (effect.Said peer octets ∷ es) ps [] told are = absurd are
  costs_levels checked (effect.Said peer [] ∷ es) ps (l ∷ levels) told are =
      more (heavy few (left_above l)) (total few (map left_above levels)) (costs ps) (costs_levels checked es ps levels told are.1)
    where
      more : (h t c : ℕ) → c ≤ 261 * t → c ≤ 261 * (h + t)
      more h t c le = omega (arith, le)
  costs_levels checked (effect.Said peer (o ∷ os) ∷ es) [] (l ∷ levels) told are = absurd told
  costs_levels checked (effect.Said peer (o ∷ os) ∷ es) (p ∷ ps) (l ∷ levels) told are =
      one (weighs p) (heavy few (left_above l)) (total few (map left_above levels)) (costs ps)
      (ap (weigh_one few) (level_told checked peer.0 l (o ∷ os) p are.0 told.0)) (heavy_some few (left_above l)) (costs_levels checked es ps levels told.1 are.1)
    where
      one : (w h t c : ℕ) → w ≡ h → 1 ≤ h → c ≤ 261 * t → (w + 260) + c ≤ 261 * (h + t)
      one w h t c is some le = omega (arith, is, some, le)
  costs_levels checked (e ∷ es) ps levels told are = costs_levels checked es ps levels told are
