-- Words that differ decide, equal ones are eight bytes more in common, and the last word once more covers the end.
use Rattle.std.proofs.Common.{◌∙◌, ◌-◌, ◌+◌, ◌*◌, arith}
use Rattle.octets.specs.Bytes.{IsBytes}
use Rattle.keys.proofs.Words.{word_out, word_on, all_alike}
use Rattle.keys.proofs.order.words.Goals as goal

pub returns-then-x-y : goal.returns-then-x-y
returns-then-x-y c =
    let ha : IsBytes c.args.a.now = λ k. (c.type_inv.a k).fits in
    let hb : IsBytes c.args.b.now = λ k. (c.type_inv.b k).fits in
    c.by_number.ensures
    ∙ word_out _ _ ha hb 8 (c.args.from + 8 * c.loop-k.k) _ _ c.read_be_u64-x.ensures c.read_be_u64-y.ensures c.if-x-y.true c.loop-k.invariant (omega arith) (omega arith)

pub loop-k-preserved : goal.loop-k-preserved
loop-k-preserved c =
    let ha : IsBytes c.args.a.now = λ k. (c.type_inv.a k).fits in
    let hb : IsBytes c.args.b.now = λ k. (c.type_inv.b k).fits in
    let on = word_on _ _ ha hb 8 (c.args.from + 8 * c.loop-k.k) _ _ c.read_be_u64-x.ensures c.read_be_u64-y.ensures c.if-x-y.false c.loop-k.invariant (omega arith) (omega arith) in
    omega arith

pub returns-then-u-v : goal.returns-then-u-v
returns-then-u-v c =
    let ha : IsBytes c.args.a.now = λ k. (c.type_inv.a k).fits in
    let hb : IsBytes c.args.b.now = λ k. (c.type_inv.b k).fits in
    c.by_number-then-u-v.ensures
    ∙ word_out _ _ ha hb 8 (c.args.n - 8) _ _ c.read_be_u64-u.ensures c.read_be_u64-v.ensures c.if-u-v.true (omega arith) (omega arith) (omega arith)

pub returns : goal.returns
returns c =
    let ha : IsBytes c.args.a.now = λ k. (c.type_inv.a k).fits in
    let hb : IsBytes c.args.b.now = λ k. (c.type_inv.b k).fits in
    let last = word_on _ _ ha hb 8 (c.args.n - 8) _ _ c.read_be_u64-u.ensures c.read_be_u64-v.ensures c.if-u-v.false (omega arith) (omega arith) (omega arith) in
    c.by_number-2.ensures ∙ all_alike _ _ c.args.n c.requires.1.ends (omega arith)
