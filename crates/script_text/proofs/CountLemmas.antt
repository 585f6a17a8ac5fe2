-- A script has 100,000 lines at most.
use Rattle.std.proofs.Common.{◌≡◌, ◌<◌, ◌≤◌, ◌+◌, ◌-◌, ◌^◌, nat_le, ℕ, suc, Bool, true, false, List, [], ◌∷◌, length, Result, Ok, Err, if◌then◌else◌, refl, ap, arith}
use Rattle.std.proofs.lemmas.Bool.Decides.{nat_tests}
use Rattle.script_text.specs.declared.script_fault.ScriptFault.{ScriptFault}
use Rattle.script_text.specs.declared.script_fault.ScriptFault.TheVariants.{Bad}
use Rattle.script_text.specs.Parts.{parted_by}
use Rattle.script_text.specs.Reading.{◌>>=◌}
use Rattle.script_text.specs.Script.{last_in, last_within, line_feed, line_in, lines_in, lines_with, most_lines, script}

abbrev count : Result (List (List (List ℕ))) ScriptFault → ℕ
count (Ok lines) = length lines
count (Err fault) = 0

if_ok : {A : Type 0} (b : Bool) (read : Result A ScriptFault) (fault : ScriptFault) (x : A) → (if b then read else Err fault) ≡ Ok x → (b ≡ true) × (read ≡ Ok x)
if_ok true read fault x is = (refl, is)
if_ok false read fault x is = cc is

more_ok : (number most : ℕ) (head : Result (List (List ℕ)) ScriptFault) (rest : Result (List (List (List ℕ))) ScriptFault) (lines : List (List (List ℕ)))
    → (head >>= (λ words. lines_with words rest)) ≡ Ok lines
    → ((more : List (List (List ℕ))) → rest ≡ Ok more → (number + 1) + length more ≤ most) → number + length lines ≤ most
more_ok number most (Ok words) (Ok more) lines is bound =
    let same : suc (length more) ≡ length lines = ap count is in
    let fits : (number + 1) + length more ≤ most = bound more refl in
    omega (arith, same, fits)
more_ok number most (Ok words) (Err fault) lines is bound = cc is
more_ok number most (Err fault) rest lines is bound = cc is

last_few : (number : ℕ) (last : List ℕ) (lines : List (List (List ℕ))) → number ≤ most_lines + 1 → last_within number last ≡ Ok lines → number + length lines ≤ most_lines + 1
last_few number [] lines low is = let none : 0 ≡ length lines = ap count is in omega (arith, low, none)
last_few number (octet ∷ rest) lines low is = cc (if_ok (nat_le number most_lines) (last_in number (octet ∷ rest)) (Bad number 1) lines is).1

few_in : (number : ℕ) (parts : List (List ℕ)) (lines : List (List (List ℕ))) → number ≤ most_lines + 1 → lines_in number parts ≡ Ok lines → number + length lines ≤ most_lines + 1
few_in number [] lines low is = let none : 0 ≡ length lines = ap count is in omega (arith, low, none)
few_in number (last ∷ []) lines low is = last_few number last lines low is
few_in number (line ∷ next ∷ parts) lines low is =
    let rest : Result (List (List (List ℕ))) ScriptFault = lines_in (number + 1) (next ∷ parts) in
    let both = if_ok (nat_le number most_lines) (line_in number line >>= (λ words. lines_with words rest)) (Bad number 1) lines is in
    let here : number ≤ most_lines = grind (arith, nat_tests, both.0) in
    more_ok number (most_lines + 1) (line_in number line) rest lines both.1 (λ more read. few_in (number + 1) (next ∷ parts) more (omega (arith, here)) read)

pub few_lines : (octets : List ℕ) (lines : List (List (List ℕ))) → script octets ≡ Ok lines → length lines < 2 ^ 32 - 1
unfolding script
few_lines octets lines is = let few : 1 + length lines ≤ most_lines + 1 = few_in 1 (parted_by line_feed octets) lines (omega arith) is in omega (arith, few)
