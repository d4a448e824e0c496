-- Two words of four bytes cover four to seven: the first word decides, or the second, or the lengths.
use Rattle.std.proofs.Common.{◌∙◌, ◌-◌, arith}
use Rattle.octets.specs.Bytes.{IsBytes}
use Rattle.keys.proofs.Words.{word_out, word_on, all_alike}
use Rattle.keys.proofs.order.few.Goals as goal

pub returns-then-x-y : goal.returns-then-x-y
returns-then-x-y c =
    let ha : IsBytes c.args.a.now = λ k. (c.type_inv.a k).fits in
    let hb : IsBytes c.args.b.now = λ k. (c.type_inv.b k).fits in
    c.by_number.ensures
    ∙ word_out _ _ ha hb 4 0 _ _ c.read_be_u32-x.ensures c.read_be_u32-y.ensures c.if-x-y.true (omega arith) (omega arith) (omega arith)

pub returns-then-u-v : goal.returns-then-u-v
returns-then-u-v c =
    let ha : IsBytes c.args.a.now = λ k. (c.type_inv.a k).fits in
    let hb : IsBytes c.args.b.now = λ k. (c.type_inv.b k).fits in
    let first = word_on _ _ ha hb 4 0 _ _ c.read_be_u32-x.ensures c.read_be_u32-y.ensures c.if-x-y.false (omega arith) (omega arith) (omega arith) in
    c.by_number-then-u-v.ensures
    ∙ word_out _ _ ha hb 4 (c.args.n - 4) _ _ c.read_be_u32-u.ensures c.read_be_u32-v.ensures c.if-u-v.true (omega arith) (omega arith) (omega arith)

pub returns : goal.returns
returns c =
    let ha : IsBytes c.args.a.now = λ k. (c.type_inv.a k).fits in
    let hb : IsBytes c.args.b.now = λ k. (c.type_inv.b k).fits in
    let first = word_on _ _ ha hb 4 0 _ _ c.read_be_u32-x.ensures c.read_be_u32-y.ensures c.if-x-y.false (omega arith) (omega arith) (omega arith) in
    let last = word_on _ _ ha hb 4 (c.args.n - 4) _ _ c.read_be_u32-u.ensures c.read_be_u32-v.ensures c.if-u-v.false (omega arith) (omega arith) (omega arith) in
    c.by_number-2.ensures ∙ all_alike _ _ c.args.n c.requires.2.ends (omega arith)
