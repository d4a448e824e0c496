-- What is left to put in are the numbers that are left, and each takes 21 bytes at most.
use Rattle.std.proofs.Common.{◌+◌, ◌*◌, ◌≤◌, drop}
use Rattle.paper.specs.Printed.{number_words}
use Rattle.listing.proofs.Writing.{Left}
use Rattle.listing.proofs.text.Text.numbers.Given as goal

abbrev pub invariant-loop-n : goal.invariant-loop-n
invariant-loop-n l = Left l.initial.self (number_words l.numbers) l.self (number_words (drop l.n-index l.numbers)) × (l.initial.self.room ≤ 21 * l.n-index + l.self.room)
