-- A short suffix is cut out of its head, a long one begins with four bytes of the page.
use Rattle.std.proofs.Common.{sym, ap, ◌∙◌, arith}
use Rattle.keys.specs.Keys.{head_of}
use Rattle.node.proofs.Spelling.{suffix-short}
use Rattle.verdict.proofs.Suffixes.{long-head}
use Rattle.verdict.proofs.suffix.true_head.Goals as goal

pub returns-then-s-le4 : goal.returns-then-s-le4
returns-then-s-le4 c = (c.kept.ensures ∙ ap head_of (sym (suffix-short _ _ c.if-s-le4.true)), omega arith)

pub returns : goal.returns
returns c = (c.read_be_u32.ensures ∙ long-head _ _ c.if-s-le4.false, omega arith)
