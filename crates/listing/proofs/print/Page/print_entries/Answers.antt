-- Each turn puts a line behind the text, which went to the receiver before where there was no room.
use Rattle.std.proofs.Common.{◌≡◌, ◌≤◌, arith, rules, subst}
use Rattle.listing.specs.Texts.{lines_text}
use Rattle.listing.proofs.Writing.{adds_is, adds-size, suffix-most, value_is}
use Rattle.listing.proofs.Joined.{lines-more, lines-rest, line_is, row_held}
use Rattle.listing.proofs.Going.{Gone, gone-adds, gone-all, gone-on, gone-stops, stops-in, on_ok, on_err, failed}
use Rattle.listing.proofs.print.Page.print_entries.Goals as goal
use Rattle.listing.proofs.print.Page.print_entries.Goals.{then-room-lt65100+in_ok-take, else-room-lt65100}

pub returns-in_err-take-clause-left : goal.returns-in_err-take-clause-left
returns-in_err-take-clause-left g c =
    let all = lines-rest c.args.self.now.width c.args.self.now.bytes.now c.args.h.prefix_len c.loop-i.i c.args.h.count (omega arith) in
    let here = gone-stops g.T.Receiver.takes g.T.Receiver.stops g.met.T.Receiver.stops_after _ _ _ _ _ _ c.loop-i.invariant.0 c.as_slice.ensures c.in_err-take.ensures.left in
    failed c.from_residual.result (stops-in g.T.Receiver.stops g.met.T.Receiver.stops_within _ _ _ _ _ all here)

pub new-key-requires : goal.new-key-requires
new-key-requires g c =
    let row = row_held _ _ _ _ c.requires.0 c.loop-i.i _ (omega arith) c.read_slot-slot.ensures in
    (search rules, search rules, omega arith)

pub read_value-value-requires : goal.read_value-value-requires
read_value-value-requires g c =
    let row = row_held _ _ _ _ c.requires.0 c.loop-i.i _ (omega arith) c.read_slot-slot.ensures in
    omega arith

pub entry_line-requires : goal.entry_line-requires
entry_line-requires g c =
    let row = row_held _ _ _ _ c.requires.0 c.loop-i.i _ (omega arith) c.read_slot-slot.ensures in
    let short = suffix-most _ _ _ row in
    elim c.if-room-lt65100.branch [ then-room-lt65100+in_ok-take w ↦ rw w.text-is (omega arith) | else-room-lt65100 w ↦ rw w.text-is (omega arith) ]

pub loop-i-preserved : goal.loop-i-preserved
loop-i-preserved g c =
    let page = c.args.self.now in
    let value = value_is _ page.bytes.now _ _ _ c.requires.0.width c.value_at.ensures c.read_value-value.ensures in
    let line = adds_is _ _ _ _ (line_is page.width page.bytes.now c.args.h.prefix_len c.loop-i.i _ _ _ c.new-key.ensures.key value) c.entry_line.ensures in
    let more = lines-more page.width page.bytes.now c.args.h.prefix_len c.loop-i.i _ c.read_slot-slot.ensures in
    let before : Gone g.T.Receiver.takes c.args.to.now c.if-room-lt65100.to c.if-room-lt65100.text (lines_text c.args.self.now.width c.args.self.now.bytes.now c.args.h.prefix_len 0 c.loop-i.i)
    = elim c.if-room-lt65100.branch [
      | then-room-lt65100+in_ok-take w ↦
          rw (w.to-is, w.text-is)
          (gone-on g.T.Receiver.takes g.met.T.Receiver.takes_more _ _ _ _ _ _ c.loop-i.invariant.0 w.as_slice.ensures _ w.in_ok-take.ensures.ok w.clear-then-room-lt65100.ensures.0)
      | else-room-lt65100 w ↦ rw (w.to-is, w.text-is) c.loop-i.invariant.0
    ] in
    let room : 65100 ≤ c.if-room-lt65100.text.room
    = elim c.if-room-lt65100.branch [ then-room-lt65100+in_ok-take w ↦ rw w.text-is (omega arith) | else-room-lt65100 w ↦ rw w.text-is (omega arith) ] in
    (subst (Gone _ _ _ _) more (gone-adds g.T.Receiver.takes _ _ _ _ _ _ before line), omega (arith, adds-size _ _ _ line))

pub returns-clause-ok : goal.returns-clause-ok
returns-clause-ok g c =
    let all : c.loop-i.i ≡ c.args.h.count = omega arith in
    rw (← all) (on_ok c.take-2.result (gone-all g.T.Receiver.takes g.met.T.Receiver.takes_more _ _ _ _ _ _ c.loop-i.invariant.0 c.as_slice-2.ensures) c.take-2.ensures.ok)

pub returns-clause-left : goal.returns-clause-left
returns-clause-left g c =
    let all : c.loop-i.i ≡ c.args.h.count = omega arith in
    rw (← all)
    (on_err c.take-2.result (gone-stops g.T.Receiver.takes g.T.Receiver.stops g.met.T.Receiver.stops_after _ _ _ _ _ _ c.loop-i.invariant.0 c.as_slice-2.ensures) c.take-2.ensures.left)
