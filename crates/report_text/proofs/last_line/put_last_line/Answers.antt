-- The last line tells the counts, or the bound.
use Rattle.report_text.proofs.last_line.put_last_line.Goals as goal

pub returns-in-End : goal.returns-in-End
returns-in-End g c = rw c.in-End.is (rw (c.words.ensures, c.counts_of.ensures) at c.put_line.ensures)

pub returns-in-Crowded : goal.returns-in-Crowded
returns-in-Crowded g c =
    let told = c.stopped.ensures in
    let put = c.put_line-in-Crowded.ensures in
    rw c.in-Crowded.is (rw (told, c.from.ensures) at put)

pub returns-in-TooMuch : goal.returns-in-TooMuch
returns-in-TooMuch g c =
    let told = c.stopped-in-TooMuch.ensures in
    let put = c.put_line-in-TooMuch.ensures in
    rw c.in-TooMuch.is (rw told at put)
