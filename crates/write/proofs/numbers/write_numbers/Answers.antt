-- Each write is a field of the table, in its order.
use Rattle.paper.specs.Edits.{put_all, number_fields}
use Rattle.write.proofs.numbers.write_numbers.Goals as goal

pub returns : goal.returns
unfolding put_all number_fields
returns c = cc
