-- How deep a table is.
use Rattle.std.proofs.Common.{◌≤◌, ℕ, suc, max, List, [], ◌∷◌, map, Option, Some, None, Ordering, Less, Equal, Greater, nat_cmp, arith}
use Rattle.std.proofs.lemmas.Bool.Decides.{nat_tests}
use Rattle.std.specs.Cmp.Lexicographic.{slice_cmp}
use Rattle.std.specs.Ordering.{match_ordering}
use Rattle.toml.specs.Data.{Data, Members, no_members, member, string, array, table, depth, items_depth, members_depth}
use Rattle.toml.specs.View.{items_of}
use Rattle.migration.specs.Tables.{put, put_told, put_some}

both : (a b n : ℕ) → a ≤ n → b ≤ n → max a b ≤ n
both a b n p q = grind (arith, nat_tests)

left : (a b n : ℕ) → max a b ≤ n → a ≤ n
left a b n p = grind (arith, nat_tests)

right : (a b n : ℕ) → max a b ≤ n → b ≤ n
right a b n p = grind (arith, nat_tests)

-- a table is as deep as what is put into it and as it was
pub put_depth : (n : ℕ) (key : List ℕ) (value : Data) (ms : Members) → depth value ≤ n → members_depth ms ≤ n → members_depth (put key value ms) ≤ n
unfolding put
put_depth n key value no_members this all = both (depth value) 0 n this (omega arith)
put_depth n key value (member k d ms) this all =
    of_order (slice_cmp nat_cmp key k) (left (depth d) (members_depth ms) n all) (right (depth d) (members_depth ms) n all) (put_depth n key value ms this (right (depth d) (members_depth ms) n all))
  where
    of_order : (o : Ordering) → depth d ≤ n → members_depth ms ≤ n → members_depth (put key value ms) ≤ n
        → members_depth (match_ordering o (member key value (member k d ms)) (member k value ms) (member k d (put key value ms))) ≤ n
    of_order Less first more later = both (depth value) (max (depth d) (members_depth ms)) n this (both (depth d) (members_depth ms) n first more)
    of_order Equal first more later = both (depth value) (members_depth ms) n this more
    of_order Greater first more later = both (depth d) (members_depth (put key value ms)) n first later

pub told_depth : (n : ℕ) (key : List ℕ) (number : Option ℕ) (ms : Members) → members_depth ms ≤ n → members_depth (put_told key number ms) ≤ n
told_depth n key None ms all = all
told_depth n key (Some number) ms all = put_depth n key _ ms (omega arith) all

pub some_depth : (n : ℕ) (key : List ℕ) (values : List Data) (ms : Members) → items_depth (items_of values) ≤ n → members_depth ms ≤ suc n → members_depth (put_some key values ms) ≤ suc n
some_depth n key [] ms this all = all
some_depth n key (value ∷ values) ms this all = put_depth (suc n) key (array (items_of (value ∷ values))) ms (omega (arith, this)) all

-- an array of tables, and one of texts
pub rows_depth : {A : Type 0} (f : A → Members) (n : ℕ) → ((a : A) → members_depth (f a) ≤ n) → (rows : List A) → items_depth (items_of (map (λ a. table (f a)) rows)) ≤ suc n
rows_depth f n each [] = omega arith
rows_depth f n each (row ∷ rows) = both (suc (members_depth (f row))) (items_depth (items_of (map (λ a. table (f a)) rows))) (suc n) (omega (arith, each row)) (rows_depth f n each rows)

pub texts_depth : {A : Type 0} (f : A → List ℕ) (rows : List A) → items_depth (items_of (map (λ a. string (f a)) rows)) ≤ 0
texts_depth f [] = omega arith
texts_depth f (row ∷ rows) = both 0 (items_depth (items_of (map (λ a. string (f a)) rows))) 0 (omega arith) (texts_depth f rows)
