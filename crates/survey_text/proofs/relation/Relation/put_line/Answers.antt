use Rattle.std.proofs.Common.{◌+◌, ◌++◌, ℕ, List, drop}
use Rattle.std.specs.Prelude.{codes}
use Rattle.survey_reach.specs.Words.{in_word}
use Rattle.survey_text.specs.Text.{line_head, names_at, names_where}
use Rattle.text_pieces.specs.Pieces.{spaced}
use Rattle.std.proofs.lemmas.Result.{err_from_is_err_and}
use Rattle.text_lines.proofs.WrittenLemmas.{cut_first, cut_later, puts_two}
use Rattle.survey_text.proofs.relation.Relation.put_line.Goals as goal

pub returns-in_err-put_head : goal.returns-in_err-put_head
returns-in_err-put_head g c =
    let p = err_from_is_err_and c.from_residual.result c.from_residual.ensures.1 in
    let of = c.args.self.of in
    let head : List ℕ = line_head of.over.plan.now of.service c.args.self.word.now in
    let names : List ℕ = spaced (names_at g.before of.service c.args.edge 0 of.over.plan.now.circuits) in
    let others : List ℕ = spaced (names_where of.over.plan.now g.before of.service (in_word c.args.others) (c.args.edge + 1) (drop (c.args.edge + 1) of.over.plan.now.edges)) in
    rw p.1 (cut_first _ _ head (names ++ (codes " :" ++ (others ++ codes "\n"))) c.in_err-put_head.ensures)

pub returns-in_err-put_at : goal.returns-in_err-put_at
returns-in_err-put_at g c =
    let p = err_from_is_err_and c.from_residual-in_err-put_at.result c.from_residual-in_err-put_at.ensures.1 in
    let of = c.args.self.of in
    let head : List ℕ = line_head of.over.plan.now of.service c.args.self.word.now in
    let names : List ℕ = spaced (names_at g.before of.service c.args.edge 0 of.over.plan.now.circuits) in
    let others : List ℕ = spaced (names_where of.over.plan.now g.before of.service (in_word c.args.others) (c.args.edge + 1) (drop (c.args.edge + 1) of.over.plan.now.edges)) in
    rw p.1 (cut_later _ _ _ head _ c.in_ok-put_head.ensures (cut_first _ _ names (codes " :" ++ (others ++ codes "\n")) c.in_err-put_at.ensures))

pub returns-in_err-put : goal.returns-in_err-put
returns-in_err-put g c =
    let p = err_from_is_err_and c.from_residual-in_err-put.result c.from_residual-in_err-put.ensures.1 in
    let of = c.args.self.of in
    let head : List ℕ = line_head of.over.plan.now of.service c.args.self.word.now in
    let names : List ℕ = spaced (names_at g.before of.service c.args.edge 0 of.over.plan.now.circuits) in
    let others : List ℕ = spaced (names_where of.over.plan.now g.before of.service (in_word c.args.others) (c.args.edge + 1) (drop (c.args.edge + 1) of.over.plan.now.edges)) in
    rw p.1 (cut_later _ _ _ head _ c.in_ok-put_head.ensures (cut_later _ _ _ names _ c.in_ok-put_at.ensures (cut_first _ _ (codes " :") (others ++ codes "\n") c.in_err-put.ensures)))

pub returns-in_err-put_sites : goal.returns-in_err-put_sites
returns-in_err-put_sites g c =
    let p = err_from_is_err_and c.from_residual-in_err-put_sites.result c.from_residual-in_err-put_sites.ensures.1 in
    let of = c.args.self.of in
    let head : List ℕ = line_head of.over.plan.now of.service c.args.self.word.now in
    let names : List ℕ = spaced (names_at g.before of.service c.args.edge 0 of.over.plan.now.circuits) in
    let others : List ℕ = spaced (names_where of.over.plan.now g.before of.service (in_word c.args.others) (c.args.edge + 1) (drop (c.args.edge + 1) of.over.plan.now.edges)) in
    rw p.1 (cut_later _ _ _ head _ c.in_ok-put_head.ensures (cut_later _ _ _ names _ c.in_ok-put_at.ensures (cut_later _ _ _ (codes " :") _ c.in_ok-put.ensures
    (cut_first _ _ others (codes "\n") c.in_err-put_sites.ensures))))

pub returns : goal.returns
returns g c =
    let of = c.args.self.of in
    let head : List ℕ = line_head of.over.plan.now of.service c.args.self.word.now in
    let names : List ℕ = spaced (names_at g.before of.service c.args.edge 0 of.over.plan.now.circuits) in
    let others : List ℕ = spaced (names_where of.over.plan.now g.before of.service (in_word c.args.others) (c.args.edge + 1) (drop (c.args.edge + 1) of.over.plan.now.edges)) in
    puts_two _ _ _ _ head (names ++ (codes " :" ++ (others ++ codes "\n"))) c.in_ok-put_head.ensures
    (puts_two _ _ _ _ names (codes " :" ++ (others ++ codes "\n")) c.in_ok-put_at.ensures
    (puts_two _ _ _ _ (codes " :") (others ++ codes "\n") c.in_ok-put.ensures
    (puts_two _ _ _ _ others (codes "\n") c.in_ok-put_sites.ensures c.put_end.ensures)))
