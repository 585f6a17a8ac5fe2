-- A document is the scenario of its text, where its bytes are UTF-8.
use Rattle.std.proofs.Common.{◌≡◌, ◌∙◌, ℕ, true, List, Result, Err, if◌then◌else◌, sym, ap, subst}
use Rattle.std.proofs.lemmas.Bool.{false_from_ne_true}
use Rattle.std.proofs.lemmas.Str.{is_utf8-from_IsUtf8, IsUtf8-from_is_utf8}
use Rattle.std.specs.Str.{IsUtf8, is_utf8}
use Rattle.toml.specs.Parse.{parse_document}
use Rattle.command_text.specs.declared.scenario_fault.ScenarioFault.{ScenarioFault}
use Rattle.command_text.specs.declared.scenario_fault.ScenarioFault.TheVariants.{NotToml}
use Rattle.command_text.specs.Reading.{Gives}
use Rattle.scenario_text.specs.declared.scenario.Scenario.{Scenario}
use Rattle.scenario_text.specs.Document.{scenario_or, document}

pub document_text : (bytes : List ℕ) → IsUtf8 bytes → document bytes ≡ scenario_or (parse_document bytes)
unfolding document
document_text bytes text = ap (λ b. if b then scenario_or (parse_document bytes) else Err NotToml) (is_utf8-from_IsUtf8 bytes text)

pub document_other : (bytes : List ℕ) → ¬ (IsUtf8 bytes) → document bytes ≡ Err NotToml
unfolding document
document_other bytes other = ap (λ b. if b then scenario_or (parse_document bytes) else Err NotToml) (false_from_ne_true (is_utf8 bytes) (λ h. other (IsUtf8-from_is_utf8 bytes h)))

-- a text is UTF-8
pub text_is_utf8 : (text : List ℕ) → IsUtf8 text → is_utf8 text ≡ true
text_is_utf8 text utf8 = is_utf8-from_IsUtf8 text utf8

pub gives_document : (bytes text : List ℕ) (result : Result Scenario ScenarioFault) → text ≡ bytes → IsUtf8 bytes → Gives result (scenario_or (parse_document text)) → Gives result (document bytes)
gives_document bytes text result same utf8 gives = subst (λ (d : Result Scenario ScenarioFault). Gives result d) (ap (λ t. scenario_or (parse_document t)) same ∙ sym (document_text bytes utf8)) gives
