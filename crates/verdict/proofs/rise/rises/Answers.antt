-- The slot before is read as one; two parts of the page are the two suffixes where their lengths are alike.
use Rattle.verdict.proofs.Suffixes.{alike_long, below_words}
use Rattle.verdict.proofs.rise.rises.Goals as goal

pub returns : goal.returns
returns c =
    let long = alike_long c.read_u16.result c.args.b.len c.if-read_u16-b.false in
    below_words _ _ _ _ _ _ c.read_u16-2.ensures c.read_u16.ensures long.0 long.1 c.words_below.ensures
