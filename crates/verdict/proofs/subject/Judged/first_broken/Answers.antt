-- U2 and U3, then the keys.
use Rattle.std.proofs.Common.{sym, ◌∙◌}
use Rattle.verdict.proofs.Fitting.{broken-err, broken-ok}
use Rattle.verdict.proofs.subject.Judged.first_broken.Goals as goal

pub returns-in-Ok : goal.returns-in-Ok
returns-in-Ok c =
    let s = c.args.self.now in
    c.first_of_keys.ensures ∙ broken-ok s.width s.page.now s.header s.rules _ (sym c.in-Ok.ensures)

pub returns-in-Err : goal.returns-in-Err
returns-in-Err c =
    let s = c.args.self.now in
    broken-err s.width s.page.now s.header s.rules _ (sym c.in-Err.ensures)
