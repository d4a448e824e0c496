-- Heads that differ decide, then lengths where a suffix lives in its head, then bytes.
use Rattle.std.proofs.Common.{arith}
use Rattle.verdict.proofs.Suffixes.{below-heads, below-short, below-long}
use Rattle.verdict.proofs.suffix.below.Goals as goal

pub returns-then-a-b : goal.returns-then-a-b
returns-then-a-b c = below-heads _ (λ k. (c.type_inv.p k).fits) _ _ (omega arith) (omega arith) c.requires.0.faithful c.requires.1.faithful c.if-a-b.true

pub returns-then-a-le4 : goal.returns-then-a-le4
returns-then-a-le4 c =
    below-short _ (λ k. (c.type_inv.p k).fits) _ _ (omega arith) (omega arith) c.requires.0.faithful c.requires.1.faithful
    c.requires.0.room c.requires.1.room c.if-a-b.false c.if-a-le4.true

pub returns-then-b-le4 : goal.returns-then-b-le4
returns-then-b-le4 c =
    below-long _ (λ k. (c.type_inv.p k).fits) _ _ (omega arith) (omega arith) c.requires.0.faithful c.requires.1.faithful
    c.requires.0.room c.requires.1.room c.if-a-b.false c.if-a-le4.false c.if-b-le4.true
