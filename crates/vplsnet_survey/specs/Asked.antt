-- What the words of the command line ask for.
use Rattle.std.specs.Prelude.{codes, ℕ, List, [], ◌∷◌, Option, Some, None, option_map, if◌then◌else◌}
use Rattle.std.specs.Str.{bytes_eq}
use Rattle.vplsnet.specs.Asked.{is_plain_argument}
use Rattle.vplsnet_survey.specs.declared.request.Request.{Request}

-- a scenario's file, and of how many faults a case has at most
pub record SurveyAsked : Type 0 where
  pub file : List ℕ
  pub most : ℕ

-- a request as it was asked for
abbrev pub survey_by : Request → SurveyAsked
survey_by request = record { file = request.file.now; most = request.most }

-- `1`, `2` or `3`
abbrev pub most_in : List ℕ → Option ℕ
most_in word =
    if bytes_eq word (codes "1") then Some 1 else
    if bytes_eq word (codes "2") then Some 2 else
    if bytes_eq word (codes "3") then Some 3 else None

-- a file and how many, where that is told
abbrev pub of_file : List ℕ → Option ℕ → Option SurveyAsked
of_file file most = option_map (λ (many : ℕ). record { file = file; most = many }) most

-- `FILE`, of one fault, or `FILE 1`, `FILE 2` or `FILE 3`, where the file is neither empty nor an option; any other words ask for nothing
abbrev pub survey_asked : List (List ℕ) → Option SurveyAsked
survey_asked [] = None
survey_asked (file ∷ []) = if is_plain_argument file then of_file file (Some 1) else None
survey_asked (file ∷ count ∷ []) = if is_plain_argument file then of_file file (most_in count) else None
survey_asked (file ∷ count ∷ more ∷ rest) = None
