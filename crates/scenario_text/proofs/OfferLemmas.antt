-- What an end offers by its keys, of the near end and of the far one.
use Rattle.std.proofs.Common.{◌≡◌, refl}
use Rattle.toml.specs.Data.{Members}
use Rattle.command_text.specs.declared.row_place.RowPlace.{RowPlace}
use Rattle.scenario_text.specs.declared.document_version.DocumentVersion.{DocumentVersion}
use Rattle.scenario_text.specs.declared.document_version.DocumentVersion.TheVariants.{One}
use Rattle.scenario_text.specs.declared.offer_row.OfferRow.{OfferRow}
use Rattle.scenario_text.specs.Offers.{far_keys, near_keys, offer_in, rest_in}
use Rattle.scenario_text.specs.Rows.{far_in, near_in, plain_offer}

pub near_is : (version : DocumentVersion) (row : RowPlace) (ms : Members) → offer_in near_keys plain_offer version row ms ≡ near_in version row ms
unfolding near_in offer_in rest_in
near_is version row ms = refl

pub far_is : (near : OfferRow) (row : RowPlace) (ms : Members) → offer_in far_keys near One row ms ≡ far_in near row ms
unfolding far_in offer_in rest_in
far_is near row ms = refl
