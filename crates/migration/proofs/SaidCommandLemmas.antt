-- Commands that were read can be said.
use Rattle.std.proofs.Common.{◌≡◌, ◌<◌, ◌≤◌, ◌+◌, ◌-◌, ◌*◌, ◌&&◌, ◌==◌, nat_le, nat_lt, ℕ, zero, suc, Bool, true, false, cond, List, [], ◌∷◌, length, map, slice_get, Option, Some, None, is_some, option_and_then, option_map, Result, Ok, Err, IfOk, IfSome, codes, leb-true, refl, subst, arith, if◌then◌else◌}
use Rattle.std.proofs.lemmas.Bool.{and_parts}
use Rattle.std.proofs.lemmas.Bool.Decides.{Decides-ltb}
use Rattle.std.proofs.lemmas.List.{length-map}
use Rattle.std.specs.List.{All, AllByRecursion}
use Rattle.std.specs.Str.{bytes_eq}
use Rattle.toml.specs.Data.{Items, no_items, item, as_str}
use Rattle.net_base.specs.declared.plan.Plan.{Plan}
use Rattle.net_base.specs.declared.trace.event.Event.{Event}
use Rattle.net_base.specs.declared.trace.event.Event.TheVariants.{Tick}
use Rattle.net_base.specs.plan.NameFaults.{circuit_names}
use Rattle.net_base.specs.plan.Planned.{IsEventOf}
use Rattle.command_text.specs.declared.command.Command.{Command}
use Rattle.command_text.specs.declared.command.Command.TheVariants.{One, Ticks}
use Rattle.command_text.specs.declared.scenario_fault.ScenarioFault.{ScenarioFault}
use Rattle.command_text.specs.declared.scenario_fault.ScenarioFault.TheVariants.{BadWord}
use Rattle.command_text.specs.Reading.{◌>>=◌, checked, found}
use Rattle.plan_names.specs.Planned.{names_of}
use Rattle.command_text.specs.Planned.{IsCount}
use Rattle.command_text.specs.Events.{command_of, commands_in, event_by, event_in, frame_event_in, one, play_in, plays_after, repeats_in, row_event_in, tick_in}
use Rattle.octet_text.specs.Hex.{digit_value, pair_value, unhex}
use Rattle.command_text.specs.Hex.{of_frame_size, frame_of}
use Rattle.plan_names.specs.Names.{place_in}
use Rattle.plan_names.specs.Decimal.{value_from, is_decimal, decimal_from}
use Rattle.command_text.specs.Words.{is_space, first_word, word_at, said_word, ends_before, some_word}
use Rattle.event_rows.proofs.RowLemmas.{row_planned}
use Rattle.event_laws.proofs.EventLemmas.{row_in_range}
use Rattle.script_text.specs.Parts.{before_part, parted_by}
use Rattle.script_text.specs.Script.{space, words_of}
use Rattle.line_shapes.specs.Shapes.{line_said}
use Rattle.line_shapes.proofs.ReadLemmas.{read_is}
use Rattle.event_rows.specs.Rows.{event_forms}
use Rattle.plan_names.proofs.NameLemmas.{place_within}
use Rattle.event_laws.specs.Law.{IsEventInRange, IsWritable}
use Rattle.migration.specs.CommandLaw.{HasNoBlank, IsSaidCommand, AreSaidCommands}

-- reading in steps
if_ok : {A B : Type 0} {Q : A → Type 0} (P : B → Type 0) (r : Result A ScenarioFault) (f : A → Result B ScenarioFault) → IfOk r Q → ((x : A) → Q x → IfOk (f x) P) → IfOk (r >>= f) P
if_ok P (Ok x) f q g = g x q
if_ok P (Err e) f q g = tt

if_any : {A B : Type 0} (P : B → Type 0) (r : Result A ScenarioFault) (f : A → Result B ScenarioFault) → ((x : A) → IfOk (f x) P) → IfOk (r >>= f) P
if_any P (Ok x) f g = g x
if_any P (Err e) f g = tt

-- words
said_ok : {A : Type 0} (P : A → Type 0) (reader : List ℕ → Option A) → ((word : List ℕ) → IfSome (reader word) P) → (event number : ℕ) (text : List ℕ) → IfOk (said_word reader event number text) P
said_ok {A} P reader each event number text = of_word (word_at number text)
  where
    of_value : (o : Option A) → IfSome o P → IfOk (found (BadWord event number) o) P
    of_value None is = tt
    of_value (Some x) is = is

    of_word : (word : Option (List ℕ)) → IfOk (found (BadWord event number) (option_and_then reader word)) P
    of_word None = tt
    of_word (Some word) = of_value (reader word) (each word)

if_some : {A : Type 0} (P : A → Type 0) (test : Bool) (x : A) → (test ≡ true → P x) → IfSome (cond test (Some x) None) P
if_some P true x p = p refl
if_some P false x p = tt

row_ok : {Y : Type 0} (f : Y → List ℕ) (rows : List Y) (word : List ℕ) → IfSome (place_in (map f rows) word) (λ place. place < length rows)
row_ok f rows word = subst (λ n. IfSome (place_in (map f rows) word) (λ place. place < n)) (length-map rows f) (place_within (map f rows) word)

number_ok : (low high : ℕ) (word : List ℕ) → IfSome (decimal_from low high word) (λ n. (low ≤ n) × (n ≤ high))
number_ok low high word = if_some _ (is_decimal word && (nat_le low (value_from 0 word) && nat_le (value_from 0 word) high)) (value_from 0 word) (λ is.
    let range = (and_parts (is_decimal word) (nat_le low (value_from 0 word) && nat_le (value_from 0 word) high) is).1 in
    let both = and_parts (nat_le low (value_from 0 word)) (nat_le (value_from 0 word) high) range in
    (leb-true low (value_from 0 word) both.0, leb-true (value_from 0 word) high both.1))

-- octets of hexadecimal digits
choose : (P : ℕ → Type 0) (s t u : Bool) (x y z : ℕ) → (s ≡ true → P x) → (t ≡ true → P y) → (u ≡ true → P z) → IfSome (if s then Some x else if t then Some y else if u then Some z else None) P
choose P true t u x y z p q r = p refl
choose P false true u x y z p q r = q refl
choose P false false true x y z p q r = r refl
choose P false false false x y z p q r = tt

between : (low high n : ℕ) → (nat_le low n && nat_le n high) ≡ true → (low ≤ n) × (n ≤ high)
between low high n is =
    let both = and_parts (nat_le low n) (nat_le n high) is in
    (leb-true low n both.0, leb-true n high both.1)

digit_ok : (c : ℕ) → IfSome (digit_value c) (λ v. v < 16)
digit_ok c =
    choose _ (nat_le 48 c && nat_le c 57) (nat_le 97 c && nat_le c 102) (nat_le 65 c && nat_le c 70) (c - 48) (c - 97 + 10) (c - 65 + 10)
    (λ is. let r = between 48 57 c is in omega (arith, r.0, r.1)) (λ is. let r = between 97 102 c is in omega (arith, r.0, r.1)) (λ is. let r = between 65 70 c is in omega (arith, r.0, r.1))

pair_ok : (a b : ℕ) → IfSome (pair_value a b) (λ octet. octet < 256)
pair_ok a b = of_both (digit_value a) (digit_value b) (digit_ok a) (digit_ok b)
  where
    of_both : (x y : Option ℕ) → IfSome x (λ v. v < 16) → IfSome y (λ v. v < 16) → IfSome (option_and_then (λ high. option_map (λ low. high * 16 + low) y) x) (λ octet. octet < 256)
    of_both None y p q = tt
    of_both (Some high) None p q = tt
    of_both (Some high) (Some low) p q = omega (arith, p, q)

abbrev EachOctet : List ℕ → Type 0
EachOctet octets = AllByRecursion (λ octet. octet < 256) octets

unhex_ok : (digits : List ℕ) → IfSome (unhex digits) EachOctet
unhex_ok [] = tt
unhex_ok (a ∷ []) = tt
unhex_ok (a ∷ b ∷ rest) = of_both (pair_value a b) (unhex rest) (pair_ok a b) (unhex_ok rest)
  where
    of_both : (x : Option ℕ) (y : Option (List ℕ)) → IfSome x (λ octet. octet < 256) → IfSome y EachOctet → IfSome (option_and_then (λ octet. option_map (λ octets. octet ∷ octets) y) x) EachOctet
    of_both None y p q = tt
    of_both (Some octet) None p q = tt
    of_both (Some octet) (Some octets) p q = (p, q)

all_octets : (octets : List ℕ) → EachOctet octets → All (λ octet. octet < 256) octets
all_octets [] each k d lt = absurd (omega (arith, lt))
all_octets (octet ∷ rest) each zero d lt = each.0
all_octets (octet ∷ rest) each (suc k) d lt = all_octets rest each.1 k d (omega (arith, lt))

frame_ok : (word : List ℕ) → IfSome (frame_of word) IsWritable
frame_ok word = of_octets (unhex word) (unhex_ok word)
  where
    of_octets : (o : Option (List ℕ)) → IfSome o EachOctet → IfSome (option_and_then of_frame_size o) IsWritable
    of_octets None each = tt
    of_octets (Some octets) each = if_some _ (nat_le 1 (length octets) && nat_le (length octets) 9216) octets (λ is.
        let size = between 1 9216 (length octets) is in
        record { each = all_octets octets each; some = size.0; few = size.1 })

-- a word has no blank
abbrev AreClean : List (List ℕ) → Type 0
AreClean [] = Unit {0}
AreClean (word ∷ words) = HasNoBlank word × AreClean words

words_clean : (text : List ℕ) → AreClean (words_of text)
unfolding parted_by
words_clean [] = (tt, tt)
words_clean (octet ∷ rest) = of_test (octet == space) refl (words_of rest) (words_clean rest)
  where
    of_words : (words : List (List ℕ)) → is_space octet ≡ false → AreClean words → AreClean (before_part octet words)
    of_words [] other are = ((other, tt), tt)
    of_words (word ∷ words) other are = ((other, are.0), are.1)

    of_test : (test : Bool) → (octet == space) ≡ test → (words : List (List ℕ)) → AreClean words → AreClean (if test then [] ∷ words else before_part octet words)
    of_test true is words are = (tt, are)
    of_test false is words are = of_words words is are

word_clean : (words : List (List ℕ)) (n : ℕ) → AreClean words → IfSome (slice_get words n) HasNoBlank
word_clean [] zero are = tt
word_clean [] (suc n) are = tt
word_clean (word ∷ words) zero are = are.0
word_clean (word ∷ words) (suc n) are = word_clean words n are.1

file_ok : (event number : ℕ) (text : List ℕ) → IfOk (said_word some_word event number text) (λ word. (1 ≤ length word) × HasNoBlank word)
unfolding word_at
file_ok event number text = of_word (slice_get (words_of text) (number - 1)) (word_clean (words_of text) (number - 1) (words_clean text))
  where
    of_test : (test : Bool) (word : List ℕ) → nat_lt 0 (length word) ≡ test → HasNoBlank word
        → IfOk (found (BadWord event number) (if test then Some word else None)) (λ w. (1 ≤ length w) × HasNoBlank w)
    of_test true word is clean = ((Decides-ltb 0 (length word)).0 is, clean)
    of_test false word is clean = tt

    of_word : (word : Option (List ℕ)) → IfSome word HasNoBlank → IfOk (found (BadWord event number) (option_and_then some_word word)) (λ w. (1 ≤ length w) × HasNoBlank w)
    of_word None clean = tt
    of_word (Some word) clean = of_test (nat_lt 0 (length word)) word refl clean

-- events
abbrev IsSaidEvent : Plan → Event → Type 0
IsSaidEvent plan event = IsEventOf plan event × IsEventInRange event

module _ (plan : Plan) (number : ℕ) (text : List ℕ) where
  circuit_word : (at : ℕ) → IfOk (said_word (place_in (circuit_names plan.circuits)) number at text) (λ place. place < length plan.circuits)
  circuit_word at = said_ok _ (place_in (circuit_names plan.circuits)) (row_ok (λ row. row.name) plan.circuits) number at text

  frame_event_ok : IfOk (frame_event_in (names_of plan) number text) (IsSaidEvent plan)
  unfolding frame_event_in
  frame_event_ok = if_ok _ (said_word (place_in (circuit_names plan.circuits)) number 2 text) _ (circuit_word 2)
      (λ a p. if_ok _ (said_word frame_of number 3 text) _ (said_ok _ frame_of frame_ok number 3 text) (λ octets w.
      if_any _ (ends_before number 4 text) _ (λ end. ((p, omega (arith, w.few)), w))))

  row_event_ok : IfOk (row_event_in plan number text) (IsSaidEvent plan)
  unfolding row_event_in
  row_event_ok = of_read (line_said plan event_forms (words_of text)) refl
    where
      of_read : (r : Result (ℕ × List ℕ) ℕ) → line_said plan event_forms (words_of text) ≡ r → IfOk (event_by number r) (IsSaidEvent plan)
      of_read (Ok read) is =
          let line = read_is plan event_forms (words_of text) read is in
          (row_planned plan read.0 read.1 line.within line.fit, row_in_range plan read.0 read.1 line.within line.fit)
      of_read (Err word) is = tt

  repeats_ok : IfOk (repeats_in number text) IsCount
  unfolding repeats_in
  repeats_ok = if_ok _ (said_word (decimal_from 1 10000) number 2 text) _ (said_ok _ (decimal_from 1 10000) (number_ok 1 10000) number 2 text)
      (λ n r. if_any _ (ends_before number 3 text) _ (λ end. r))

-- a command of either kind
of_if : (P : Command → Type 0) (test : Bool) (a b : Result Command ScenarioFault) → IfOk a P → IfOk b P → IfOk (if test then a else b) P
of_if P true a b p q = p
of_if P false a b p q = q

module _ (plan : Plan) (number plays : ℕ) (text : List ℕ) where
  one_ok : (read : Result Event ScenarioFault) → IfOk read (IsSaidEvent plan) → IfOk (one read) (IsSaidCommand plan plays)
  one_ok read is = if_ok _ read _ is (λ event said. said)

  tick_ok : IfOk (tick_in number text) (IsSaidCommand plan plays)
  tick_ok = of_if _ (is_some (word_at 2 text)) (repeats_in number text >>= (λ count. Ok (Ticks count))) (Ok (One Tick))
      (if_ok _ (repeats_in number text) _ (repeats_ok plan number text) (λ count is. is)) (tt, tt)

  few_ok : IfOk (checked (BadWord number 1) (nat_lt plays 4)) (λ _. plays < 4)
  few_ok = of_test (nat_lt plays 4) refl
    where
      of_test : (test : Bool) → nat_lt plays 4 ≡ test → IfOk (checked (BadWord number 1) test) (λ _. plays < 4)
      of_test true is = (Decides-ltb plays 4).0 is
      of_test false is = tt

  play_ok : IfOk (play_in (names_of plan) number plays text) (IsSaidCommand plan plays)
  unfolding play_in
  play_ok =
      if_ok _ (checked (BadWord number 1) (nat_lt plays 4)) _ few_ok (λ few is_few.
      if_ok _ (said_word (place_in (circuit_names plan.circuits)) number 2 text) _ (circuit_word plan number text 2) (λ circuit p.
      if_ok _ (said_word some_word number 3 text) _ (file_ok number 3 text) (λ file is. if_any _ (ends_before number 4 text) _ (λ end. (p, is_few, is.0, is.1)))))

  command_ok : (word : List ℕ) → IfOk (command_of plan number plays word text) (IsSaidCommand plan plays)
  unfolding command_of
  command_ok word =
      of_if _ (bytes_eq word (codes "frame")) _ _ (one_ok (frame_event_in (names_of plan) number text) (frame_event_ok plan number text))
      (of_if _ (bytes_eq word (codes "tick")) _ _ tick_ok
      (of_if _ (bytes_eq word (codes "settle")) _ _ (if_ok _ (repeats_in number text) _ (repeats_ok plan number text) (λ count is. is))
      (of_if _ (bytes_eq word (codes "flow")) _ _ (if_ok _ (repeats_in number text) _ (repeats_ok plan number text) (λ count is. is))
      (of_if _ (bytes_eq word (codes "play")) _ _ play_ok (one_ok (row_event_in plan number text) (row_event_ok plan number text))))))

-- the commands of items
pub commands_said : (plan : Plan) (number plays : ℕ) (items : Items) → IfOk (commands_in plan number plays items) (AreSaidCommands plan plays)
commands_said plan number plays no_items = tt
commands_said plan number plays (item value rest) =
    if_ok _ (event_in plan number plays value) _ (if_any _ (found _ (as_str value)) _ (λ text. command_ok plan number plays text (first_word text))) (λ command is.
    if_ok _ (commands_in plan (number + 1) (plays_after plays command) rest) _ (commands_said plan (number + 1) (plays_after plays command) rest) (λ commands are. (is, are)))
