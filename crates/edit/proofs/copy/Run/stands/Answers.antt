-- Both prefixes differ, the suffix does not go on with the prefix, or what is left of both pieces is asked of the fences.
use Rattle.std.proofs.Common.{refl, sym}
use Rattle.edit.proofs.Cuts.{cut-within, stands-unlike, stands-lacks, stands-outside, stands-done}
use Rattle.edit.proofs.RunKeys.{key-read, key_most}
use Rattle.edit.proofs.copy.Run.stands.Goals as goal

pub returns-then-not-self : goal.returns-then-not-self
returns-then-not-self c =
    let run = c.args.self.now in
    sym (stands-unlike _ _ run.fenced _ _ _ run.meeting _ _ (key-read _ _ _ run.own _ refl _ refl) _ refl c.if-not-self.true)

pub slice_bounds-begins_with-count : goal.slice_bounds-begins_with-count
slice_bounds-begins_with-count c =
    let run = c.args.self.now in
    (cut-within _ _ run.fenced _ _ _ run.meeting c.suffix-suffix.result.now _ refl _ c.prefix-whole.ensures).0

pub slice_bounds-begins_with-start : goal.slice_bounds-begins_with-start
slice_bounds-begins_with-start c =
    let run = c.args.self.now in
    (cut-within _ _ run.fenced _ _ _ run.meeting c.suffix-suffix.result.now _ refl _ c.prefix-whole.ensures).0

pub returns-then-not-begins_with : goal.returns-then-not-begins_with
returns-then-not-begins_with c =
    let run = c.args.self.now in
    sym
    (stands-lacks _ _ run.fenced _ _ _ run.meeting _ _ (key-read _ _ _ run.own _ c.read_slot-s.ensures _ c.suffix-suffix.ensures) _ c.prefix-whole.ensures c.if-not-self.false _ c.begins_with.ensures
    c.if-not-begins_with.true)

pub cut-rest-requires : goal.cut-rest-requires
cut-rest-requires c = let run = c.args.self.now in key_most _ _ run.shown _ c.requires _ c.read_slot-s.ensures _ c.suffix-suffix.ensures _

pub returns-then-not-inside : goal.returns-then-not-inside
returns-then-not-inside c =
    let run = c.args.self.now in
    sym
    (stands-outside _ _ run.fenced _ _ _ run.meeting _ _ (key-read _ _ _ run.own _ c.read_slot-s.ensures _ c.suffix-suffix.ensures) _ c.prefix-whole.ensures c.if-not-self.false _
    c.begins_with.ensures c.if-not-begins_with.false _ c.cut-rest.ensures _ c.inside.ensures c.if-not-inside.true)

pub returns : goal.returns
returns c =
    let run = c.args.self.now in
    sym
    (stands-done _ _ run.fenced _ _ _ run.meeting _ _ (key-read _ _ _ run.own _ c.read_slot-s.ensures _ c.suffix-suffix.ensures) _ c.prefix-whole.ensures c.if-not-self.false _
    c.begins_with.ensures c.if-not-begins_with.false _ c.cut-rest.ensures _ c.inside.ensures c.if-not-inside.false)
