-- The fold over the records that are left, on the page as it is now, is the whole fold: one law a turn, one for each way out.
use Rattle.std.proofs.Common.{◌≡◌, ◌+◌, ◌≤◌, length}
use Rattle.paper.specs.Demand.{page_after}
use Rattle.filing.specs.Batches.{records_of, fold_from}
use Rattle.filing.specs.Standing.{Standing}
use Rattle.filing.proofs.batch.file_all.Given as goal

abbrev pub invariant-loop-record : goal.invariant-loop-record
invariant-loop-record l =
    let left = records_of l.record-iterator.left.now in
    let all = records_of l.fn.records.left.now in record {
      count : l.filed + length left ≤ length all;
      size : length l.p ≡ length l.initial.p;
      standing : Standing l.width l.p;
      fold : fold_from 0 l.width l.initial.p all ≡ fold_from l.filed l.width l.p left;
      page : page_after l.width l.initial.p all ≡ page_after l.width l.p left;
    }
