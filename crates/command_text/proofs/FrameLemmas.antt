-- The words of a frame: digits have no space among them, and their number says whether a word stands behind them.
use Rattle.std.proofs.Common.{◌≡◌, ◌==◌, ◌∙◌, ◌+◌, ◌*◌, ◌++◌, codes, ℕ, suc, Bool, true, false, List, [], ◌∷◌, length, slice_get, Option, Some, None, Err, is_some, nat_lt, option_and_then, option_map, if◌then◌else◌, refl, ap, sym, arith}
use Rattle.std.proofs.lemmas.Bool.Decides.{nat_tests}
use Rattle.net_base.specs.declared.plan.Plan.{Plan}
use Rattle.octet_text.specs.Cut.{behind_mark}
use Rattle.octet_text.specs.Hex.{digit_value, pair_value, unhex}
use Rattle.octet_text.proofs.MarkLemmas.{longer_behind}
use Rattle.plan_names.specs.Planned.{names_of}
use Rattle.plan_names.specs.declared.plan_names.PlanNames.{PlanNames}
use Rattle.script_text.specs.Script.{space, words_of}
use Rattle.script_text.proofs.PartLemmas.{word_behind, word_first, word_none}
use Rattle.command_text.specs.declared.scenario_fault.ScenarioFault.TheVariants.{BadWord}
use Rattle.command_text.specs.Events.{frame_command_behind, frame_event_in, command_of, command_in, one}
use Rattle.command_text.specs.Hex.{of_frame_size, frame_of}
use Rattle.command_text.specs.Words.{first_word, word_at}

no_space : (octet value : ℕ) → digit_value octet ≡ Some value → (octet == space) ≡ false
no_space octet value e = grind (arith, nat_tests)

parted : (a b : ℕ) (rest octets : List ℕ) (x y : Option ℕ) (read : Option (List ℕ)) → digit_value a ≡ x → digit_value b ≡ y
    → ((xs : List ℕ) → read ≡ Some xs → first_word rest ≡ rest)
    → option_and_then (λ octet. option_map (λ xs. octet ∷ xs) read) (option_and_then (λ high. option_map (λ low. high * 16 + low) y) x) ≡ Some octets
    → first_word (a ∷ b ∷ rest) ≡ a ∷ b ∷ rest
parted a b rest octets None y read p q before e = absurd (cc)
parted a b rest octets (Some high) None read p q before e = absurd (cc)
parted a b rest octets (Some high) (Some low) None p q before e = absurd (cc)
parted a b rest octets (Some high) (Some low) (Some xs) p q before e = rw (no_space a high p, no_space b low q) (ap (λ (l : List ℕ). a ∷ b ∷ l) (before xs refl))

-- digits have no space among them, and are twice as many as their octets
spaceless : (digits octets : List ℕ) → unhex digits ≡ Some octets → first_word digits ≡ digits
spaceless [] octets e = refl
spaceless (a ∷ []) octets e = absurd (cc)
spaceless (a ∷ b ∷ rest) octets e = parted a b rest octets (digit_value a) (digit_value b) (unhex rest) refl refl (λ xs r. spaceless rest xs r) e

counted : (x : Option ℕ) (read : Option (List ℕ)) (octets : List ℕ) (count : ℕ) → ((xs : List ℕ) → read ≡ Some xs → count ≡ 2 * length xs)
    → option_and_then (λ octet. option_map (λ xs. octet ∷ xs) read) x ≡ Some octets → suc (suc count) ≡ 2 * length octets
counted None read octets count before e = absurd (cc)
counted (Some octet) None octets count before e = absurd (cc)
counted (Some octet) (Some xs) octets count before e =
    let same : octet ∷ xs ≡ octets = cc in
    omega (arith, before xs refl, ap (λ (l : List ℕ). length l) same)

twice_as_many : (digits octets : List ℕ) → unhex digits ≡ Some octets → length digits ≡ 2 * length octets
twice_as_many [] octets e = let same : [] ≡ octets = cc in ap (λ (l : List ℕ). 2 * length l) same
twice_as_many (a ∷ []) octets e = absurd (cc)
twice_as_many (a ∷ b ∷ rest) octets e = counted (pair_value a b) (unhex rest) octets (length rest) (λ xs r. twice_as_many rest xs r) e

-- the octets of a frame are those of its digits
kept : (test : Bool) (xs octets : List ℕ) → (if test then Some xs else None) ≡ Some octets → xs ≡ octets
kept true xs octets e = cc
kept false xs octets e = absurd (cc)

of_digits : (digits octets : List ℕ) → frame_of digits ≡ Some octets → unhex digits ≡ Some octets
of_digits digits octets e = go (unhex digits) e
  where
    go : (read : Option (List ℕ)) → option_and_then of_frame_size read ≡ Some octets → read ≡ Some octets
    go None e = absurd (cc)
    go (Some xs) e = ap Some (kept _ xs octets e)

-- where all is the digits of a frame, the first word is
pub frame_of_first : (digits octets : List ℕ) → Some octets ≡ frame_of digits → Some octets ≡ frame_of (first_word digits)
frame_of_first digits octets e = e ∙ ap frame_of (sym (spaceless digits octets (of_digits digits octets (sym e))))

-- a word stands behind the digits of a frame where the text goes on behind them
pub more_behind : (text octets : List ℕ) → frame_of (first_word text) ≡ Some octets → nat_lt (2 * length octets) (length text) ≡ is_some (behind_mark space text)
more_behind text octets e =
    ap (λ n. nat_lt n (length text)) (sym (twice_as_many (first_word text) octets (of_digits (first_word text) octets e))) ∙ longer_behind space text

-- the third word of a text, and whether there is a fourth
second_behind : (rest : List ℕ) → slice_get (words_of rest) 1 ≡ option_map first_word (behind_mark space rest)
second_behind rest = word_behind 0 rest ∙ by (behind_mark space rest) where
  by : (o : Option (List ℕ)) → option_and_then (λ r. slice_get (words_of r) 0) o ≡ option_map first_word o
  by None = refl
  by (Some r) = word_first r

third_behind : (rest : List ℕ) → is_some (slice_get (words_of rest) 2) ≡ is_some (option_and_then (behind_mark space) (behind_mark space rest))
third_behind rest = ap (λ o. is_some o) (word_behind 1 rest) ∙ by (behind_mark space rest) where
  one : (o : Option (List ℕ)) → is_some (option_map first_word o) ≡ is_some o
  one None = refl
  one (Some r) = refl

  by : (o : Option (List ℕ)) → is_some (option_and_then (λ r. slice_get (words_of r) 1) o) ≡ is_some (option_and_then (behind_mark space) o)
  by None = refl
  by (Some r) = ap (λ o. is_some o) (second_behind r) ∙ one (behind_mark space r)

-- a frame by what follows its first word
pub frame_is : (names : PlanNames) (event : ℕ) (text rest : List ℕ) → Some rest ≡ behind_mark space text → frame_command_behind names event rest ≡ frame_event_in names event text
unfolding frame_command_behind frame_event_in word_at
frame_is names event text rest e =
    let behind : (n : ℕ) → slice_get (words_of text) (suc n) ≡ slice_get (words_of rest) n = λ n. word_behind n text ∙ ap (λ o. option_and_then (λ r. slice_get (words_of r) n) o) (sym e) in
    rw (behind 0, behind 1, behind 2, word_first rest, second_behind rest, third_behind rest) refl

pub no_frame : (names : PlanNames) (event : ℕ) (text : List ℕ) → None ≡ behind_mark space text → frame_event_in names event text ≡ Err (BadWord event 2)
unfolding frame_event_in word_at
no_frame names event text e =
    let none : slice_get (words_of text) 1 ≡ None = word_none 1 text (omega arith) e in
    rw none refl

-- a text that begins so is a frame
pub frame_command : (plan : Plan) (names : PlanNames) (event plays : ℕ) (text rest : List ℕ) → names ≡ names_of plan → text ≡ codes "frame " ++ rest
    → command_in plan event plays text ≡ one (frame_command_behind names event rest)
unfolding command_of
frame_command plan names event plays text rest named same =
    ap (λ (t : List ℕ). command_in plan event plays t) same
    ∙ (ap one (sym (frame_is (names_of plan) event (codes "frame " ++ rest) rest refl))
    ∙ ap (λ (n : PlanNames). one (frame_command_behind n event rest)) (sym named))
