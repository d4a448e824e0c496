-- The first words that differ decide; the second are looked at where the first are alike.
use Rattle.std.proofs.Common.{◌+◌, arith}
use Rattle.octets.specs.Bytes.{IsBytes}
use Rattle.keys.proofs.Words.{word_on}
use Rattle.verdict.proofs.Suffixes.{word-less}
use Rattle.verdict.proofs.rise.words_below.Goals as goal

pub returns-then-x-y : goal.returns-then-x-y
returns-then-x-y c =
    let a = c.args.a.now in
    let b = c.args.b.now in
    let ha : IsBytes a = λ k. (c.type_inv.a k).fits in
    let hb : IsBytes b = λ k. (c.type_inv.b k).fits in
    word-less a b ha hb _ _ _ c.read_be_u64-x.ensures c.read_be_u64-y.ensures (omega arith) (omega arith) (omega arith)

pub returns : goal.returns
returns c =
    let a = c.args.a.now in
    let b = c.args.b.now in
    let ha : IsBytes a = λ k. (c.type_inv.a k).fits in
    let hb : IsBytes b = λ k. (c.type_inv.b k).fits in
    let k = c.fork-k.result in
    let on = word_on a b ha hb 8 k _ _ c.read_be_u64-x.ensures c.read_be_u64-y.ensures c.if-x-y.false (omega arith) (omega arith) (omega arith) in
    word-less a b ha hb (k + 8) _ _ c.read_be_u64.ensures c.read_be_u64-2.ensures on (omega arith) (omega arith)
