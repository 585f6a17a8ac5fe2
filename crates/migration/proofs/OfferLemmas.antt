-- An offer is read from its table.
use Rattle.std.proofs.Common.{◌≡◌, ◌≤◌, ◌==◌, ◌∙◌, ℕ, Bool, true, false, List, [], Option, Some, None, unwrap_or, Ok, codes, refl, arith, if◌then◌else◌}
use Rattle.std.proofs.lemmas.Bool.Decides.{nat_tests}
use Rattle.toml.specs.Data.{Data, Members, string, boolean, table, get_member, same_key}
use Rattle.net_values.specs.Name.{IsName}
use Rattle.net_base.specs.declared.plan.offer.Offer.{Offer}
use Rattle.net_base.specs.declared.plan.table.Table.TheVariants as kind
use Rattle.net_base.specs.plan.Accepted.{IsOffer}
use Rattle.net_base.specs.plan.Faults.{is_told_within}
use Rattle.command_text.specs.declared.row_place.RowPlace.{RowPlace}
use Rattle.scenario_text.specs.declared.document_version.DocumentVersion.TheVariants.{Two}
use Rattle.scenario_text.specs.declared.group_use.GroupUse.{GroupUse}
use Rattle.scenario_text.specs.declared.group_use.GroupUse.TheVariants.{Number, Named}
use Rattle.scenario_text.specs.declared.offer_row.OfferRow.{OfferRow}
use Rattle.scenario_text.specs.Keys.{is_offer_key}
use Rattle.scenario_text.specs.Values.{a_boolean, a_mode, a_number, a_description, defaulted, optional}
use Rattle.scenario_text.specs.Rows.{a_group, near_in, offer_table_in}
use Rattle.scenario_text.specs.References.{told_unless_zero, offer_from}
use Rattle.migration.specs.Tables.{put, put_told}
use Rattle.migration.proofs.KeyLemmas.{put_same, put_other, put_keys, told_keys, all_keys}
use Rattle.migration.specs.Groups.{group_name}
use Rattle.migration.specs.Rows.{number, mode_name, put_group, offer_table}
use Rattle.migration.specs.ReadPlan.{IsSaid, IsTold}
use Rattle.migration.proofs.GroupNameLemmas.{group_named}
use Rattle.migration.proofs.ReadLemmas.{skip, skip_told, defaulted_is, defaulted_none, optional_is, optional_none, number_is, mode_is, description_is, known}

-- the group of an end as its row names it
abbrev pub use_of : ℕ → GroupUse
use_of group = if group == 0 then Number 0 else Named (group_name group)

-- an offer as its row says it
abbrev pub row_of : Offer → OfferRow
row_of offer =
    record {
      tagged = offer.tagged;
      cword = offer.cword;
      mtu = Some (unwrap_or offer.mtu 0);
      vlan = offer.vlan;
      vccv = unwrap_or offer.vccv 0;
      status = offer.status;
      group = use_of offer.group;
      description = offer.description;
    }

skip_group : {x : Option Data} (key : List ℕ) (group : ℕ) (ms : Members) → same_key key (codes "group") ≡ false → get_member key ms ≡ x → get_member key (put_group group ms) ≡ x
skip_group {x} key group ms apart at = of_test (group == 0)
  where
    of_test : (test : Bool) → get_member key (if test then ms else put (codes "group") (string (group_name group)) ms) ≡ x
    of_test true = at
    of_test false = put_other key (codes "group") (string (group_name group)) ms apart ∙ at

group_keys : (test : List ℕ → Bool) (group : ℕ) (ms : Members) → test (codes "group") ≡ true → all_keys test ms ≡ true → all_keys test (put_group group ms) ≡ true
group_keys test group ms this all = of_test (group == 0)
  where
    of_test : (t : Bool) → all_keys test (if t then ms else put (codes "group") (string (group_name group)) ms) ≡ true
    of_test true = all
    of_test false = put_keys test (codes "group") (string (group_name group)) ms this all

-- the value at the key of the group
abbrev group_value : ℕ → Option Data
group_value group = if group == 0 then None else Some (string (group_name group))

group_at_key : (group : ℕ) (ms : Members) → get_member (codes "group") ms ≡ None → get_member (codes "group") (put_group group ms) ≡ group_value group
group_at_key group ms none = of_test (group == 0)
  where
    of_test : (test : Bool) → get_member (codes "group") (if test then ms else put (codes "group") (string (group_name group)) ms) ≡ (if test then None else Some (string (group_name group)))
    of_test true = none
    of_test false = put_same (codes "group") (string (group_name group)) ms

-- the value at a key that may be absent
abbrev pub told_value : Option ℕ → Option Data
told_value None = None
told_value (Some n) = Some (number n)

pub told_at_key : (key : List ℕ) (value : Option ℕ) (ms : Members) → get_member key ms ≡ None → get_member key (put_told key value ms) ≡ told_value value
told_at_key key None ms none = none
told_at_key key (Some n) ms none = put_same key (number n) ms

pub told_read : (key : List ℕ) (value : Option ℕ) (ms : Members) (row : RowPlace) (low high : ℕ) → get_member key ms ≡ told_value value → is_told_within low high value ≡ true
    → optional None (a_number low high) row key ms ≡ Ok value
told_read key None ms row low high at within = optional_none (a_number low high) row key ms None at
told_read key (Some n) ms row low high at within = optional_is (a_number low high) row key ms None (number n) n at (rw within refl)

use_read : (group : ℕ) (ms : Members) (row : RowPlace) → get_member (codes "group") ms ≡ group_value group → IsName (group_name group) → defaulted (Number 0) (a_group Two) row (codes "group") ms ≡ Ok (use_of group)
use_read group ms row at name = of_test (group == 0) at
  where
    of_test : (test : Bool) → get_member (codes "group") ms ≡ (if test then None else Some (string (group_name group)))
        → defaulted (Number 0) (a_group Two) row (codes "group") ms ≡ Ok (if test then Number 0 else Named (group_name group))
    of_test true at = defaulted_none (a_group Two) row (codes "group") ms (Number 0) at
    of_test false at = defaulted_is (a_group Two) row (codes "group") ms (Number 0) (string (group_name group)) (Named (group_name group)) at (rw name refl)

module _ (offer : Offer) where
  mode_at : get_member (codes "mode") (offer_table offer) ≡ Some (string (mode_name offer.tagged))
  unfolding offer_table
  mode_at = put_same (codes "mode") _ _

  cword_at : get_member (codes "control_word") (offer_table offer) ≡ Some (boolean offer.cword)
  unfolding offer_table
  cword_at = skip (codes "control_word") (codes "mode") _ _ refl (put_same (codes "control_word") _ _)

  mtu_at : get_member (codes "mtu") (offer_table offer) ≡ Some (number (unwrap_or offer.mtu 0))
  unfolding offer_table
  mtu_at = skip (codes "mtu") (codes "mode") _ _ refl (skip (codes "mtu") (codes "control_word") _ _ refl (put_same (codes "mtu") _ _))

  vccv_at : get_member (codes "vccv") (offer_table offer) ≡ Some (number (unwrap_or offer.vccv 0))
  unfolding offer_table
  vccv_at =
      skip (codes "vccv") (codes "mode") _ _ refl (skip (codes "vccv") (codes "control_word") _ _ refl (skip (codes "vccv") (codes "mtu") _ _ refl
      (skip_told (codes "vccv") (codes "vlan") offer.vlan _ refl (put_same (codes "vccv") _ _))))

  status_at : get_member (codes "status") (offer_table offer) ≡ Some (boolean offer.status)
  unfolding offer_table
  status_at =
      skip (codes "status") (codes "mode") _ _ refl (skip (codes "status") (codes "control_word") _ _ refl (skip (codes "status") (codes "mtu") _ _ refl
      (skip_told (codes "status") (codes "vlan") offer.vlan _ refl (skip (codes "status") (codes "vccv") _ _ refl (put_same (codes "status") _ _)))))

  group_at : get_member (codes "group") (offer_table offer) ≡ group_value offer.group
  unfolding offer_table
  group_at =
      skip (codes "group") (codes "mode") _ _ refl (skip (codes "group") (codes "control_word") _ _ refl (skip (codes "group") (codes "mtu") _ _ refl
      (skip_told (codes "group") (codes "vlan") offer.vlan _ refl (skip (codes "group") (codes "vccv") _ _ refl (skip (codes "group") (codes "status") _ _ refl
      (group_at_key offer.group _ (skip (codes "group") (codes "description") _ _ refl refl)))))))

  description_at : get_member (codes "description") (offer_table offer) ≡ Some (string offer.description)
  unfolding offer_table
  description_at =
      skip (codes "description") (codes "mode") _ _ refl (skip (codes "description") (codes "control_word") _ _ refl (skip (codes "description") (codes "mtu") _ _ refl
      (skip_told (codes "description") (codes "vlan") offer.vlan _ refl (skip (codes "description") (codes "vccv") _ _ refl (skip (codes "description") (codes "status") _ _ refl
      (skip_group (codes "description") offer.group _ refl (put_same (codes "description") _ _)))))))

  keys_known : all_keys is_offer_key (offer_table offer) ≡ true
  unfolding offer_table
  keys_known =
      put_keys _ (codes "mode") _ _ refl (put_keys _ (codes "control_word") _ _ refl (put_keys _ (codes "mtu") _ _ refl (told_keys _ (codes "vlan") offer.vlan _ refl
      (put_keys _ (codes "vccv") _ _ refl (put_keys _ (codes "status") _ _ refl (group_keys _ offer.group _ refl (put_keys _ (codes "description") _ _ refl refl)))))))

  vlan_at : get_member (codes "vlan") (offer_table offer) ≡ told_value offer.vlan
  unfolding offer_table
  vlan_at =
      skip (codes "vlan") (codes "mode") _ _ refl (skip (codes "vlan") (codes "control_word") _ _ refl (skip (codes "vlan") (codes "mtu") _ _ refl
      (told_at_key (codes "vlan") offer.vlan _ (skip (codes "vlan") (codes "vccv") _ _ refl (skip (codes "vlan") (codes "status") _ _ refl
      (skip_group (codes "vlan") offer.group _ refl (skip (codes "vlan") (codes "description") _ _ refl refl)))))))

  told_most : (most : ℕ) (value : Option ℕ) → IsTold most value → unwrap_or value 0 ≤ most
  told_most most None told = omega arith
  told_most most (Some n) told = told.1

  -- the keys of an offer
  pub keys_read : (row : RowPlace) → IsOffer offer → IsSaid offer → near_in Two row (offer_table offer) ≡ Ok (row_of offer)
  unfolding near_in
  keys_read row is said =
      rw (
        defaulted_is a_mode row (codes "mode") (offer_table offer) false (string (mode_name offer.tagged)) offer.tagged mode_at (mode_is _ offer.tagged),
        defaulted_is a_boolean row (codes "control_word") (offer_table offer) true (boolean offer.cword) offer.cword cword_at refl,
        optional_is (a_number 0 65535) row (codes "mtu") (offer_table offer) None (number (unwrap_or offer.mtu 0)) (unwrap_or offer.mtu 0) mtu_at (number_is 0 65535 (unwrap_or offer.mtu 0) _ (omega arith) (told_most 65535 offer.mtu said.mtu)),
        told_read (codes "vlan") offer.vlan (offer_table offer) row 0 4095 vlan_at is.vlan,
        defaulted_is (a_number 0 7) row (codes "vccv") (offer_table offer) 0 (number (unwrap_or offer.vccv 0)) (unwrap_or offer.vccv 0) vccv_at (number_is 0 7 (unwrap_or offer.vccv 0) _ (omega arith) (told_most 7 offer.vccv said.vccv)),
        defaulted_is a_boolean row (codes "status") (offer_table offer) true (boolean offer.status) offer.status status_at refl,
        use_read offer.group (offer_table offer) row group_at (group_named offer.group said.group),
        defaulted_is a_description row (codes "description") (offer_table offer) [] (string offer.description) offer.description description_at (description_is _ offer.description said.description),
      ) refl

  -- a table of an end
  pub near_read : (index : ℕ) → IsOffer offer → IsSaid offer → offer_table_in kind.Near index (offer_table offer) ≡ Ok (row_of offer)
  unfolding offer_table_in
  near_read index is said = rw (keys_read (record { table = kind.Near; index = index }) is said, known Two kind.Near (record { table = kind.Near; index = index }) (offer_table offer) keys_known) refl

  pub far_read : (index : ℕ) → IsOffer offer → IsSaid offer → offer_table_in kind.Far index (offer_table offer) ≡ Ok (row_of offer)
  unfolding offer_table_in
  far_read index is said = rw (keys_read (record { table = kind.Far; index = index }) is said, known Two kind.Far (record { table = kind.Far; index = index }) (offer_table offer) keys_known) refl

  told_back : (most : ℕ) (value : Option ℕ) → IsTold most value → told_unless_zero (unwrap_or value 0) ≡ value
  told_back most None told = refl
  told_back most (Some n) told =
      let some : (n == 0) ≡ false = grind (arith, nat_tests, told.0) in
      rw some refl

  -- an offer from its row, whatever the service's MTU is
  pub offer_back : (mtu : ℕ) → IsSaid offer → offer_from mtu offer.group (row_of offer) ≡ offer
  offer_back mtu said = rw (told_back 65535 offer.mtu said.mtu, told_back 7 offer.vccv said.vccv) refl
