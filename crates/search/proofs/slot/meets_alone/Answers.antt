-- Where the bytes decide, the suffix is long, and stands where its payload does.
use Rattle.std.proofs.Common.{sym, ◌∙◌}
use Rattle.search.proofs.Meets.{open_room}
use Rattle.search.proofs.slot.meets_alone.Goals as goal

pub long_suffix-requires : goal.long_suffix-requires
long_suffix-requires c = open_room _ _ _ _ (sym c.rank.ensures ∙ c.in_default.is) c.requires
