-- The needs of what is left of the run fit into what is left of the room exactly where the whole run fits.
use Rattle.std.proofs.Common.{◌≡◌, ◌-◌, leb, length}
use Rattle.edit.specs.RunTests.{needs_from}
use Rattle.edit.proofs.copy.Run.fits.Given as goal

abbrev pub invariant-loop-j : goal.invariant-loop-j
invariant-loop-j l =
    let h = l.self.header in
    let m = length l.self.prefix.now in
    leb (needs_from l.width h.prefix_len m l.self.source.now l.a l.n) (h.end - h.start) ≡ leb (needs_from l.width h.prefix_len m l.self.source.now l.j (l.j-end - l.j)) l.left
