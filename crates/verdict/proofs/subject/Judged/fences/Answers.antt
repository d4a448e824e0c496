-- Each slot has the head of its suffix.
use Rattle.verdict.proofs.Tallied.{fence_rooms}
use Rattle.verdict.proofs.subject.Judged.fences.Goals as goal

pub honest-requires : goal.honest-requires
honest-requires c = (fence_rooms _ _ c.args.self.now.long c.args.self.now.rules).0

pub honest-requires-2 : goal.honest-requires-2
honest-requires-2 c = (fence_rooms _ _ c.args.self.now.long c.args.self.now.rules).1
