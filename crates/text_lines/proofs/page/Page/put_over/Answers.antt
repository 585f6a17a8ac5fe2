-- Room is made and one more piece filled in; where none can be made, the octets are cut there.
use Rattle.std.proofs.Common.{◌<◌, ◌∙◌, ◌++◌, [], drop, length, take, refl, sym, arith, ap, List, ℕ, length-take, take-append-drop}
use Rattle.std.proofs.lemmas.Result.{err_from_is_err_and}
use Rattle.std.proofs.lemmas.Grind.{common_steps}
use Rattle.std.proofs.lemmas.List.{drop-drop}
use Rattle.text_lines.proofs.WrittenLemmas.{moves_goes, putting_cut, putting_more}
use Rattle.text_lines.proofs.page.Page.put_over.Goals as goal

pub returns-in_err-make_room : goal.returns-in_err-make_room
returns-in_err-make_room g c =
    let p = err_from_is_err_and c.from_residual.result c.from_residual.ensures.1 in
    rw p.1 (putting_cut _ _ _ _ [] _ _ refl c.putting.invariant.putting c.in_err-make_room.ensures.cut)

pub putting-preserved : goal.putting-preserved
putting-preserved g c =
    let count = c.fill-at.result in
    let rest = c.split_at.result.1.now in
    let back = c.split_at.ensures.back in
    let left : 0 < length rest = omega (arith, c.split_at.ensures.back_len, c.putting-test.true) in
    let some = c.fill-at.ensures.some left c.in_ok-make_room.ensures.room in
    let within = c.fill-at.ensures.within in
    let len = length-take count rest in
    let behind = ap (λ (l : List ℕ). drop count l) back ∙ drop-drop count c.putting.at c.args.octets.now in
    let split = sym back ∙ (sym (take-append-drop count rest) ∙ ap (λ (l : List ℕ). take count rest ++ l) behind) in
    record {
      within = grind (arith, common_steps);
      putting = putting_more _ _ _ _ _ _ _ split c.putting.invariant.putting (moves_goes _ _ _ _ _ _ c.in_ok-make_room.ensures.moves refl refl c.fill-at.ensures.front (omega arith));
    }
