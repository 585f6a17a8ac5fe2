-- With which files the answers agree, of reads one after another.
use Rattle.std.proofs.Common.{◌≡◌, ◌++◌, ◌∙◌, ℕ, List, [], ◌∷◌, Option, length, drop, refl, ap, sym, subst, append_assoc}
use Rattle.net_base.specs.outside.Outside.{Agrees, ReadCall}
use Rattle.vplsnet.specs.Around.{Files, Has, OfFiles, gained}
use Rattle.vplsnet.specs.Files.{IsLonger}
use Rattle.vplsnet.specs.Reads.{GainsReads}

abbrev pub Held : Type 0
Held = List ℕ → Option (List ℕ)

-- files with which all of these answers agree agree with some of them
abbrev pub Within : Files → Files → Type 0
Within some all = (held : Held) → Agrees held all → Agrees held some

agrees_front : (held : Held) (xs ys : List ReadCall) → Agrees held (xs ++ ys) → Agrees held xs
agrees_front held [] ys all = tt
agrees_front held (x ∷ xs) ys all = (all.0, agrees_front held xs ys all.1)

agrees_back : (held : Held) (xs ys : List ReadCall) → Agrees held (xs ++ ys) → Agrees held ys
agrees_back held [] ys all = all
agrees_back held (x ∷ xs) ys all = agrees_back held xs ys all.1

drop_front : (xs ys : List ReadCall) → drop (length xs) (xs ++ ys) ≡ ys
drop_front [] ys = refl
drop_front (x ∷ xs) ys = drop_front xs ys

pub gained_is : (before after reads : List ReadCall) → after ≡ before ++ reads → gained before after ≡ reads
unfolding gained
gained_is before after reads is = ap (λ (l : List ReadCall). drop (length before) l) is ∙ drop_front before reads

gained_both : (P Q : ReadCall → Type 0) (a b c : List ReadCall) (one : GainsReads P a b) (two : GainsReads Q b c) → gained a c ≡ one.gained ++ two.gained
gained_both P Q a b c one two =
    gained_is a c (one.gained ++ two.gained) (two.joined ∙ (ap (λ (l : List ReadCall). l ++ two.gained) one.joined ∙ append_assoc a one.gained two.gained))

-- the first reads, and those behind them
pub within_first : (P Q : ReadCall → Type 0) (a b c : List ReadCall) → GainsReads P a b → GainsReads Q b c → Within (gained a b) (gained a c)
within_first P Q a b c one two = λ held all.
    let both : Agrees held (one.gained ++ two.gained) = subst (λ (l : List ReadCall). Agrees held l) (gained_both P Q a b c one two) all in
    subst (λ (l : List ReadCall). Agrees held l) (sym (gained_is a b one.gained one.joined)) (agrees_front held one.gained two.gained both)

pub within_second : (P Q : ReadCall → Type 0) (a b c : List ReadCall) → GainsReads P a b → GainsReads Q b c → Within (gained b c) (gained a c)
within_second P Q a b c one two = λ held all.
    let both : Agrees held (one.gained ++ two.gained) = subst (λ (l : List ReadCall). Agrees held l) (gained_both P Q a b c one two) all in
    subst (λ (l : List ReadCall). Agrees held l) (sym (gained_is b c two.gained two.joined)) (agrees_back held one.gained two.gained both)

-- what is so by some answers is so by all of them
pub of_within : (IsSo : Held → Type 0) (some all : Files) → Within some all → OfFiles some IsSo → OfFiles all IsSo
of_within IsSo some all within of = λ held agrees. of held (within held agrees)

pub has_within : (some all : Files) (name octets : List ℕ) → Within some all → Has some name octets → Has all name octets
has_within some all name octets within has = λ held agrees. has held (within held agrees)

-- a file that is too long, under the name and the limit that are told
pub longer_as : (files : Files) (named name : List ℕ) (limit most : ℕ) → named ≡ name → limit ≡ most → OfFiles files (λ held. IsLonger most (held name))
    → OfFiles files (λ held. IsLonger limit (held named))
longer_as files named name limit most is_name is_limit longer = λ held agrees.
    subst (λ (n : List ℕ). IsLonger limit (held n)) (sym is_name) (subst (λ (l : ℕ). IsLonger l (held name)) (sym is_limit) (longer held agrees))
