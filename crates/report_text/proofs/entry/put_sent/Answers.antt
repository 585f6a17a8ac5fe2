-- A line is put word by word: what was put before a word, that word, and the words behind it.
use Rattle.std.proofs.Common.{◌∷◌, drop}
use Rattle.std.specs.Prelude.{codes}
use Rattle.std.specs.Fmt.{decimal}
use Rattle.std.proofs.lemmas.Result.{err_from_is_err_and}
use Rattle.text_lines.specs.Lines.{line_end}
use Rattle.text_lines.proofs.WrittenLemmas.{cut_first, cut_later, puts_two}
use Rattle.report_text.specs.SentWords.{sent_words}
use Rattle.report_text.proofs.entry.put_sent.Goals as goal

pub returns-in_err-put : goal.returns-in_err-put
returns-in_err-put g c =
    let p = err_from_is_err_and c.from_residual.result c.from_residual.ensures.1 in
    rw p.1 (cut_first _ _ (codes "sent") (line_end (drop 1 (sent_words c.args.sent.now))) c.in_err-put.ensures)

pub returns-in_err-put_next : goal.returns-in_err-put_next
returns-in_err-put_next g c =
    let p = err_from_is_err_and c.from_residual-in_err-put_next.result c.from_residual-in_err-put_next.ensures.1 in
    let at_0 = cut_first _ _ (32 ∷ decimal c.args.sent.now.packet) (line_end (drop 2 (sent_words c.args.sent.now))) c.in_err-put_next.ensures in
    rw p.1 (cut_later _ _ _ (codes "sent") (line_end (drop 1 (sent_words c.args.sent.now))) c.in_ok-put.ensures at_0)

pub returns-in_err-put_next-2 : goal.returns-in_err-put_next-2
returns-in_err-put_next-2 g c =
    let p = err_from_is_err_and c.from_residual-in_err-put_next-2.result c.from_residual-in_err-put_next-2.ensures.1 in
    let at_1 = cut_first _ _ (32 ∷ c.args.sent.now.from.now) (line_end (drop 3 (sent_words c.args.sent.now))) c.in_err-put_next-2.ensures in
    let at_0 = cut_later _ _ _ (32 ∷ decimal c.args.sent.now.packet) (line_end (drop 2 (sent_words c.args.sent.now))) c.in_ok-put_next.ensures at_1 in
    rw p.1 (cut_later _ _ _ (codes "sent") (line_end (drop 1 (sent_words c.args.sent.now))) c.in_ok-put.ensures at_0)

pub returns-in_err-put_next-3 : goal.returns-in_err-put_next-3
returns-in_err-put_next-3 g c =
    let p = err_from_is_err_and c.from_residual-in_err-put_next-3.result c.from_residual-in_err-put_next-3.ensures.1 in
    let at_2 = cut_first _ _ (32 ∷ c.args.sent.now.to.now) (line_end (drop 4 (sent_words c.args.sent.now))) c.in_err-put_next-3.ensures in
    let at_1 = cut_later _ _ _ (32 ∷ c.args.sent.now.from.now) (line_end (drop 3 (sent_words c.args.sent.now))) c.in_ok-put_next-2.ensures at_2 in
    let at_0 = cut_later _ _ _ (32 ∷ decimal c.args.sent.now.packet) (line_end (drop 2 (sent_words c.args.sent.now))) c.in_ok-put_next.ensures at_1 in
    rw p.1 (cut_later _ _ _ (codes "sent") (line_end (drop 1 (sent_words c.args.sent.now))) c.in_ok-put.ensures at_0)

pub returns-in_err-put_next-4 : goal.returns-in_err-put_next-4
returns-in_err-put_next-4 g c =
    let p = err_from_is_err_and c.from_residual-in_err-put_next-4.result c.from_residual-in_err-put_next-4.ensures.1 in
    let at_3 = cut_first _ _ (32 ∷ c.args.sent.now.wire.now) (line_end (drop 5 (sent_words c.args.sent.now))) c.in_err-put_next-4.ensures in
    let at_2 = cut_later _ _ _ (32 ∷ c.args.sent.now.to.now) (line_end (drop 4 (sent_words c.args.sent.now))) c.in_ok-put_next-3.ensures at_3 in
    let at_1 = cut_later _ _ _ (32 ∷ c.args.sent.now.from.now) (line_end (drop 3 (sent_words c.args.sent.now))) c.in_ok-put_next-2.ensures at_2 in
    let at_0 = cut_later _ _ _ (32 ∷ decimal c.args.sent.now.packet) (line_end (drop 2 (sent_words c.args.sent.now))) c.in_ok-put_next.ensures at_1 in
    rw p.1 (cut_later _ _ _ (codes "sent") (line_end (drop 1 (sent_words c.args.sent.now))) c.in_ok-put.ensures at_0)

pub returns-in_err-put_next-5 : goal.returns-in_err-put_next-5
returns-in_err-put_next-5 g c =
    let p = err_from_is_err_and c.from_residual-in_err-put_next-5.result c.from_residual-in_err-put_next-5.ensures.1 in
    let at_4 = cut_first _ _ (32 ∷ c.args.sent.now.arrival.now) (line_end (drop 6 (sent_words c.args.sent.now))) c.in_err-put_next-5.ensures in
    let at_3 = cut_later _ _ _ (32 ∷ c.args.sent.now.wire.now) (line_end (drop 5 (sent_words c.args.sent.now))) c.in_ok-put_next-4.ensures at_4 in
    let at_2 = cut_later _ _ _ (32 ∷ c.args.sent.now.to.now) (line_end (drop 4 (sent_words c.args.sent.now))) c.in_ok-put_next-3.ensures at_3 in
    let at_1 = cut_later _ _ _ (32 ∷ c.args.sent.now.from.now) (line_end (drop 3 (sent_words c.args.sent.now))) c.in_ok-put_next-2.ensures at_2 in
    let at_0 = cut_later _ _ _ (32 ∷ decimal c.args.sent.now.packet) (line_end (drop 2 (sent_words c.args.sent.now))) c.in_ok-put_next.ensures at_1 in
    rw p.1 (cut_later _ _ _ (codes "sent") (line_end (drop 1 (sent_words c.args.sent.now))) c.in_ok-put.ensures at_0)

pub returns-in_err-put_next-6 : goal.returns-in_err-put_next-6
returns-in_err-put_next-6 g c =
    let p = err_from_is_err_and c.from_residual-in_err-put_next-6.result c.from_residual-in_err-put_next-6.ensures.1 in
    let at_5 = cut_first _ _ (32 ∷ decimal c.args.sent.now.origin) (line_end (drop 7 (sent_words c.args.sent.now))) c.in_err-put_next-6.ensures in
    let at_4 = cut_later _ _ _ (32 ∷ c.args.sent.now.arrival.now) (line_end (drop 6 (sent_words c.args.sent.now))) c.in_ok-put_next-5.ensures at_5 in
    let at_3 = cut_later _ _ _ (32 ∷ c.args.sent.now.wire.now) (line_end (drop 5 (sent_words c.args.sent.now))) c.in_ok-put_next-4.ensures at_4 in
    let at_2 = cut_later _ _ _ (32 ∷ c.args.sent.now.to.now) (line_end (drop 4 (sent_words c.args.sent.now))) c.in_ok-put_next-3.ensures at_3 in
    let at_1 = cut_later _ _ _ (32 ∷ c.args.sent.now.from.now) (line_end (drop 3 (sent_words c.args.sent.now))) c.in_ok-put_next-2.ensures at_2 in
    let at_0 = cut_later _ _ _ (32 ∷ decimal c.args.sent.now.packet) (line_end (drop 2 (sent_words c.args.sent.now))) c.in_ok-put_next.ensures at_1 in
    rw p.1 (cut_later _ _ _ (codes "sent") (line_end (drop 1 (sent_words c.args.sent.now))) c.in_ok-put.ensures at_0)

pub returns-in_err-put_next-7 : goal.returns-in_err-put_next-7
returns-in_err-put_next-7 g c =
    let p = err_from_is_err_and c.from_residual-in_err-put_next-7.result c.from_residual-in_err-put_next-7.ensures.1 in
    let at_6 = cut_first _ _ (32 ∷ decimal c.args.sent.now.hops) (line_end (drop 8 (sent_words c.args.sent.now))) c.in_err-put_next-7.ensures in
    let at_5 = cut_later _ _ _ (32 ∷ decimal c.args.sent.now.origin) (line_end (drop 7 (sent_words c.args.sent.now))) c.in_ok-put_next-6.ensures at_6 in
    let at_4 = cut_later _ _ _ (32 ∷ c.args.sent.now.arrival.now) (line_end (drop 6 (sent_words c.args.sent.now))) c.in_ok-put_next-5.ensures at_5 in
    let at_3 = cut_later _ _ _ (32 ∷ c.args.sent.now.wire.now) (line_end (drop 5 (sent_words c.args.sent.now))) c.in_ok-put_next-4.ensures at_4 in
    let at_2 = cut_later _ _ _ (32 ∷ c.args.sent.now.to.now) (line_end (drop 4 (sent_words c.args.sent.now))) c.in_ok-put_next-3.ensures at_3 in
    let at_1 = cut_later _ _ _ (32 ∷ c.args.sent.now.from.now) (line_end (drop 3 (sent_words c.args.sent.now))) c.in_ok-put_next-2.ensures at_2 in
    let at_0 = cut_later _ _ _ (32 ∷ decimal c.args.sent.now.packet) (line_end (drop 2 (sent_words c.args.sent.now))) c.in_ok-put_next.ensures at_1 in
    rw p.1 (cut_later _ _ _ (codes "sent") (line_end (drop 1 (sent_words c.args.sent.now))) c.in_ok-put.ensures at_0)

pub returns : goal.returns
returns g c =
    let at_6 = puts_two _ _ _ _ (32 ∷ decimal c.args.sent.now.hops) (line_end (drop 8 (sent_words c.args.sent.now))) c.in_ok-put_next-7.ensures c.put_last.ensures in
    let at_5 = puts_two _ _ _ _ (32 ∷ decimal c.args.sent.now.origin) (line_end (drop 7 (sent_words c.args.sent.now))) c.in_ok-put_next-6.ensures at_6 in
    let at_4 = puts_two _ _ _ _ (32 ∷ c.args.sent.now.arrival.now) (line_end (drop 6 (sent_words c.args.sent.now))) c.in_ok-put_next-5.ensures at_5 in
    let at_3 = puts_two _ _ _ _ (32 ∷ c.args.sent.now.wire.now) (line_end (drop 5 (sent_words c.args.sent.now))) c.in_ok-put_next-4.ensures at_4 in
    let at_2 = puts_two _ _ _ _ (32 ∷ c.args.sent.now.to.now) (line_end (drop 4 (sent_words c.args.sent.now))) c.in_ok-put_next-3.ensures at_3 in
    let at_1 = puts_two _ _ _ _ (32 ∷ c.args.sent.now.from.now) (line_end (drop 3 (sent_words c.args.sent.now))) c.in_ok-put_next-2.ensures at_2 in
    let at_0 = puts_two _ _ _ _ (32 ∷ decimal c.args.sent.now.packet) (line_end (drop 2 (sent_words c.args.sent.now))) c.in_ok-put_next.ensures at_1 in
    puts_two _ _ _ _ (codes "sent") (line_end (drop 1 (sent_words c.args.sent.now))) c.in_ok-put.ensures at_0
