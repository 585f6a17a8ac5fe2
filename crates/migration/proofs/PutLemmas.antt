-- A key that is put into a table.
use Rattle.std.proofs.Common.{◌≡◌, ◌∙◌, List, [], ◌∷◌, Ordering, Less, Equal, Greater, String, Global, string_bytes, string_cmp, refl}
use Rattle.std.specs.BTreeMap.{insert_entry}
use Rattle.std.specs.Ordering.{match_ordering}
use Rattle.toml.specs.View.{view, members_view}
use Rattle.toml.specs.declared.value.Value.{Value}
use Rattle.migration.specs.Tables.{put}

match_view : (o : Ordering) (a b c : List (String Global × Value)) → members_view (match_ordering o a b c) ≡ match_ordering o (members_view a) (members_view b) (members_view c)
match_view Less a b c = refl
match_view Equal a b c = refl
match_view Greater a b c = refl

-- what the map of a table is after an insert
pub put_view : (key : String Global) (value : Value) (es : List (String Global × Value)) → members_view (insert_entry string_cmp es key value) ≡ put (string_bytes key) (view value) (members_view es)
unfolding put
put_view key value [] = refl
put_view key value (e ∷ es) = match_view (string_cmp key e.0) _ _ _ ∙ rw (put_view key value es)
