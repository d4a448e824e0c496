-- The lines before the entry went to the receiver, but for those that stand in the text.
use Rattle.std.proofs.Common.{◌+◌, ◌≤◌, length}
use Rattle.listing.specs.Texts.{lines_text}
use Rattle.listing.proofs.Going.{Gone}
use Rattle.listing.proofs.print.Page.print_entries.Given as goal

abbrev pub invariant-loop-i : goal.invariant-loop-i
invariant-loop-i g l = Gone g.T.Receiver.takes l.initial.to l.to l.text (lines_text l.self.width l.self.bytes.now l.h.prefix_len 0 l.i) × (65100 ≤ length l.text.text + l.text.room)
