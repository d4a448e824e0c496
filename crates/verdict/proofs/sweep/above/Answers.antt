-- The first entry has none before it, a head that is above decides, and else the two suffixes do.
use Rattle.std.proofs.Common.{arith}
use Rattle.verdict.proofs.Sweeping.{heads-rise, honest-before, rises-here}
use Rattle.verdict.proofs.sweep.above.Goals as goal

pub returns-in_default : goal.returns-in_default
returns-in_default c =
    let first = rw c.in_default.is at c.requires.0 in
    λ e z. absurd (omega arith)

pub returns-then-head-s : goal.returns-then-head-s
returns-then-head-s c =
    let before = rw c.in-Some.is at c.requires.0 in
    λ e z. heads-rise _ _ _ before.1 z (λ k. (c.type_inv.p k).fits) _ c.requires.3 (omega arith) c.if-head-s.true

pub rises-requires : goal.rises-requires
rises-requires c =
    let before = rw c.in-Some.is at c.requires.0 in
    (omega arith, honest-before _ _ _ before.1 before.0, c.requires.3)

pub returns : goal.returns
returns c =
    let before = rw c.in-Some.is at c.requires.0 in
    λ e z. rises-here _ _ _ before.1 z _ (c.rises.ensures e)
