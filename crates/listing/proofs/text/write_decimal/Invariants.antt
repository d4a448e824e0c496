-- The digits of the running quotient are left, as many as the places before i.
use Rattle.std.proofs.Common.{◌≡◌, ◌++◌, length, drop}
use Rattle.paper.specs.Printed.{decimal}
use Rattle.listing.proofs.text.write_decimal.Given as goal

abbrev pub invariant-loop-i : goal.invariant-loop-i
invariant-loop-i l = (length (decimal l.rest) ≡ l.i) × (decimal l.n ≡ decimal l.rest ++ drop l.i l.out)
