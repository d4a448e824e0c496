-- The tests are the rules, in another grouping.
use mathlib.Core.Bool.{and_assoc, and-true}
use Rattle.node.specs.Header.{rules_of, prefix_held}
use Rattle.node.specs.Header.{rules_of}
use Rattle.paper.specs.Lists.{every}
use Rattle.paper.specs.Verdicts.{header_rules}
use Rattle.node.proofs.header.rules_hold.Goals as goal

pub returns : goal.returns
unfolding rules_of header_rules every prefix_held
returns c = simp (c.prefix_within-prefix.ensures, c.long_within.ensures, c.long_within-2.ensures, and_assoc, and-true)
