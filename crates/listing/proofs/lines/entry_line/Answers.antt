-- One text after the other.
use Rattle.view.specs.Shown.{shown}
use Rattle.listing.proofs.Writing.{adds_is, adds-then, entry-words}
use Rattle.listing.proofs.lines.entry_line.Goals as goal

pub returns : goal.returns
returns c =
    let front = adds-then _ _ _ _ _ c.decimal.ensures (adds-then _ _ _ _ _ c.push.ensures c.put_key.ensures.0) in
    adds_is _ _ _ _ (entry-words c.args.i (shown c.args.key.now) c.args.value) (adds-then _ _ _ _ _ front c.numbers.ensures.0)
