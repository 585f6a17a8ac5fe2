-- What the ends of a wire offer.
use Rattle.std.specs.Prelude.{◌≤◌, codes, ℕ, List, Result, Ok, IfSome}
use Rattle.toml.specs.Data.{Members}
use Rattle.command_text.specs.declared.row_place.RowPlace.{RowPlace}
use Rattle.command_text.specs.declared.scenario_fault.ScenarioFault.{ScenarioFault}
use Rattle.command_text.specs.Reading.{◌>>=◌}
use Rattle.scenario_text.specs.declared.document_version.DocumentVersion.{DocumentVersion}
use Rattle.scenario_text.specs.declared.offer_keys.OfferKeys.{OfferKeys}
use Rattle.scenario_text.specs.declared.offer_row.OfferRow.{OfferRow}
use Rattle.scenario_text.specs.Rows.{a_group}
use Rattle.scenario_text.specs.Values.{a_boolean, a_description, a_mode, a_number, defaulted, optional}

-- the numbers are in the ranges of their keys
pub record HasRanges (offer : OfferRow) : Type 0 where
  pub mtu : IfSome offer.mtu (λ n. (0 ≤ n) × (n ≤ 65535))
  pub vlan : IfSome offer.vlan (λ n. (0 ≤ n) × (n ≤ 4095))
  pub vccv : offer.vccv ≤ 7

-- the keys of what an end offers
pub record KeyNames : Type 0 where
  pub mode : List ℕ
  pub control_word : List ℕ
  pub mtu : List ℕ
  pub vlan : List ℕ
  pub vccv : List ℕ
  pub status : List ℕ
  pub group : List ℕ
  pub description : List ℕ

-- the keys as the code holds them
abbrev pub keys_view : OfferKeys → KeyNames
keys_view keys =
    record {
      mode = keys.mode.now;
      control_word = keys.control_word.now;
      mtu = keys.mtu.now;
      vlan = keys.vlan.now;
      vccv = keys.vccv.now;
      status = keys.status.now;
      group = keys.group.now;
      description = keys.description.now;
    }

-- the keys without a prefix
abbrev pub near_keys : KeyNames
near_keys =
    record {
      mode = codes "mode";
      control_word = codes "control_word";
      mtu = codes "mtu";
      vlan = codes "vlan";
      vccv = codes "vccv";
      status = codes "status";
      group = codes "group";
      description = codes "description";
    }

-- the keys of the far end among a wire's own
abbrev pub far_keys : KeyNames
far_keys =
    record {
      mode = codes "far_mode";
      control_word = codes "far_control_word";
      mtu = codes "far_mtu";
      vlan = codes "far_vlan";
      vccv = codes "far_vccv";
      status = codes "far_status";
      group = codes "far_group";
      description = codes "far_description";
    }

-- an offer with what the row says of VCCV, status, group and description
unfoldable pub rest_in : KeyNames → OfferRow → DocumentVersion → RowPlace → Members → Result OfferRow ScenarioFault
rest_in keys front version row ms = do
  vccv ← defaulted front.vccv (a_number 0 7) row keys.vccv ms
  status ← defaulted front.status a_boolean row keys.status ms
  group ← defaulted front.group (a_group version) row keys.group ms
  description ← defaulted front.description a_description row keys.description ms
  Ok (record { tagged = front.tagged; cword = front.cword; mtu = front.mtu; vlan = front.vlan; vccv = vccv; status = status; group = group; description = description })

-- what an end offers by these keys; where a key is absent, the same as another offer
unfoldable pub offer_in : KeyNames → OfferRow → DocumentVersion → RowPlace → Members → Result OfferRow ScenarioFault
offer_in keys other version row ms = do
  tagged ← defaulted other.tagged a_mode row keys.mode ms
  cword ← defaulted other.cword a_boolean row keys.control_word ms
  mtu ← optional other.mtu (a_number 0 65535) row keys.mtu ms
  vlan ← optional other.vlan (a_number 0 4095) row keys.vlan ms
  rest_in keys (record { tagged = tagged; cword = cword; mtu = mtu; vlan = vlan; vccv = other.vccv; status = other.status; group = other.group; description = other.description }) version row ms
