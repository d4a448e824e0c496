-- What is shown is the slot's key.
use Rattle.std.proofs.Common.{refl}
use Rattle.node.proofs.Spelling.{length-prefix_of}
use Rattle.view.specs.declared.key.KeyView.{KeyView}
use Rattle.view.proofs.Paged.{shows-key, shows-size}
use Rattle.view.proofs.key.KeyView.new.Goals as goal

abbrev made : goal.After-struct_known-1 → KeyView
made c = record { prefix = c.prefix.result; suffix = c.long_suffix.result; short = c.head_bytes.result; len = c.args.s.len }

pub returns-clause-key : goal.returns-clause-key
returns-clause-key c = shows-key _ _ _ (made c) (c.prefix.ensures, c.long_suffix.ensures, c.head_bytes.ensures, refl)

pub returns-clause-size : goal.returns-clause-size
returns-clause-size c =
    let a = c.requires in
    (rw c.prefix.ensures (length-prefix_of _ _ a.0 a.1), shows-size _ _ _ (made c) a (c.prefix.ensures, c.long_suffix.ensures, c.head_bytes.ensures, refl))
