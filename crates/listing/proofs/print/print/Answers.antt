-- What is printed is all of the text, and what is summed shows nothing.
use Rattle.std.proofs.Common.{◌∙◌, sym, rules}
use Rattle.std.proofs.KnownBytes.{Appends-nil}
use Rattle.paper.specs.Printed.{printed}
use Rattle.listing.proofs.Telling.{mode-printed, mode-summed, shown_all, shown_none, told-printed, told-summed}
use Rattle.listing.proofs.print.print.Goals as goal
use Rattle.listing.proofs.print.print.Goals.{in-Printed+in_ok-print_input-in-Printed, in-Summed+in_ok-print_input-in-Summed}

pub returns-clause-ok : goal.returns-clause-ok
returns-clause-ok g c =
    elim c.match-from.branch [
      | in-Printed+in_ok-print_input-in-Printed w ↦ cc (told-printed c.args.mode (printed c.args.input.now) (mode-printed _ (sym w.in-Printed.is ∙ c.from.ensures)))
      | in-Summed+in_ok-print_input-in-Summed w ↦
          let zero = c.default-sums.ensures in
          cc (told-summed c.args.mode c.default-sums.result _ (printed c.args.input.now) (mode-summed _ (sym w.in-Summed.is ∙ c.from.ensures)) zero.0 zero.1.0 zero.1.1 w.in_ok-print_input-in-Summed.ensures.ok)
    ]

pub returns-clause-bytes : goal.returns-clause-bytes
returns-clause-bytes g c =
    elim c.match-from.branch [
      | in-Printed+in_ok-print_input-in-Printed w ↦
          let zero = mode-printed _ (sym w.in-Printed.is ∙ c.from.ensures) in
          rw (shown_all c.args.mode (printed c.args.input.now) zero) (search rules)
      | in-Summed+in_ok-print_input-in-Summed w ↦
          let other = mode-summed _ (sym w.in-Summed.is ∙ c.from.ensures) in
          rw (w.to-is, shown_none c.args.mode (printed c.args.input.now) other) (Appends-nil _)
    ]
