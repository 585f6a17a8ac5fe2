-- What a table has at its keys.
use Rattle.std.proofs.Common.{◌≡◌, ◌∙◌, ◌&&◌, ℕ, Bool, false, true, List, [], ◌∷◌, Option, Some, None, Ordering, Less, Equal, Greater, nat_cmp, is_eq, refl, sym}
use Rattle.std.specs.Cmp.{tied_itself}
use Rattle.std.specs.Cmp.Lexicographic.{slice_cmp}
use Rattle.std.specs.Ordering.{match_ordering}
use Rattle.std.proofs.lemmas.Bool.{and_parts, and_from}
use Rattle.std.proofs.lemmas.Cmp.{nat_list_cmp_total}
use Rattle.std.proofs.lemmas.Map.Lookups.{exact_bytes}
use Rattle.toml.specs.Data.{Data, Members, no_members, member, get_member, same_key}
use Rattle.migration.specs.Tables.{put, put_told, put_some}

-- a key that was put is there
pub put_same : (key : List ℕ) (value : Data) (ms : Members) → get_member key (put key value ms) ≡ Some value
unfolding put
put_same key value no_members = rw (tied_itself nat_list_cmp_total key) refl
put_same key value (member k d ms) = of_order (slice_cmp nat_cmp key k) refl (put_same key value ms)
  where
    of_order : (o : Ordering) → slice_cmp nat_cmp key k ≡ o → get_member key (put key value ms) ≡ Some value
        → get_member key (match_ordering o (member key value (member k d ms)) (member k value ms) (member k d (put key value ms))) ≡ Some value
    of_order Less same later = rw (tied_itself nat_list_cmp_total key) refl
    of_order Equal same later = rw same refl
    of_order Greater same later = rw same later

passed : (o : Ordering) (a b : Option Data) → is_eq o ≡ false → match_ordering o a b a ≡ a
passed Less a b e = refl
passed Equal a b e = cc (sym e)
passed Greater a b e = refl

-- another key is as it was
pub put_other : (key other : List ℕ) (value : Data) (ms : Members) → same_key key other ≡ false → get_member key (put other value ms) ≡ get_member key ms
unfolding put
put_other key other value no_members apart = passed (slice_cmp nat_cmp key other) None (Some value) apart
put_other key other value (member k d ms) apart = of_order (slice_cmp nat_cmp other k) refl (put_other key other value ms apart)
  where
    of_order : (o : Ordering) → slice_cmp nat_cmp other k ≡ o → get_member key (put other value ms) ≡ get_member key ms
        → get_member key (match_ordering o (member other value (member k d ms)) (member k value ms) (member k d (put other value ms))) ≡ get_member key (member k d ms)
    of_order Less same later = passed (slice_cmp nat_cmp key other) (get_member key (member k d ms)) (Some value) apart
    of_order Equal same later =
        let here : same_key key k ≡ false = rw (← exact_bytes other k same) apart in
        passed (slice_cmp nat_cmp key k) (get_member key ms) (Some value) here ∙ sym (passed (slice_cmp nat_cmp key k) (get_member key ms) (Some d) here)
    of_order Greater same later = rw later refl

-- the same where a number may be absent, and where an array may be
pub told_other : (key other : List ℕ) (number : Option ℕ) (ms : Members) → same_key key other ≡ false → get_member key (put_told other number ms) ≡ get_member key ms
told_other key other None ms apart = refl
told_other key other (Some n) ms apart = put_other key other _ ms apart

pub some_other : (key other : List ℕ) (values : List Data) (ms : Members) → same_key key other ≡ false → get_member key (put_some other values ms) ≡ get_member key ms
some_other key other [] ms apart = refl
some_other key other (value ∷ values) ms apart = put_other key other _ ms apart

-- every key passes a test
abbrev pub all_keys : (List ℕ → Bool) → Members → Bool
all_keys test no_members = true
all_keys test (member key value ms) = test key && all_keys test ms

pub put_keys : (test : List ℕ → Bool) (key : List ℕ) (value : Data) (ms : Members) → test key ≡ true → all_keys test ms ≡ true → all_keys test (put key value ms) ≡ true
unfolding put
put_keys test key value no_members this all = and_from (test key) true this refl
put_keys test key value (member k d ms) this all =
    let (first, more) = and_parts (test k) (all_keys test ms) all in
    of_order (slice_cmp nat_cmp key k) first more (put_keys test key value ms this more)
  where
    of_order : (o : Ordering) → test k ≡ true → all_keys test ms ≡ true → all_keys test (put key value ms) ≡ true
        → all_keys test (match_ordering o (member key value (member k d ms)) (member k value ms) (member k d (put key value ms))) ≡ true
    of_order Less first more later = and_from (test key) (test k && all_keys test ms) this (and_from (test k) (all_keys test ms) first more)
    of_order Equal first more later = and_from (test k) (all_keys test ms) first more
    of_order Greater first more later = and_from (test k) (all_keys test (put key value ms)) first later

pub told_keys : (test : List ℕ → Bool) (key : List ℕ) (number : Option ℕ) (ms : Members) → test key ≡ true → all_keys test ms ≡ true → all_keys test (put_told key number ms) ≡ true
told_keys test key None ms this all = all
told_keys test key (Some n) ms this all = put_keys test key _ ms this all

pub some_keys : (test : List ℕ → Bool) (key : List ℕ) (values : List Data) (ms : Members) → test key ≡ true → all_keys test ms ≡ true → all_keys test (put_some key values ms) ≡ true
some_keys test key [] ms this all = all
some_keys test key (value ∷ values) ms this all = put_keys test key _ ms this all
