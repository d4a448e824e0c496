-- "Refresh all hints in use", of a page whose hints flag and count are known.
use Rattle.std.specs.Prelude.{ℕ, List}
use Rattle.octets.specs.Bytes.{put}
use Rattle.keys.specs.Choice.{pick}
use Rattle.paper.specs.Page.{slot_of}
use Rattle.paper.specs.Hints.{in_use, fresh, flat}

-- p with fresh hints where they are in use, else p
unfoldable pub refresh_as : ℕ → ℕ → List ℕ → List ℕ
refresh_as flag count p = pick (in_use flag count) (put p 64 (flat (fresh count (λ i. (slot_of p i).head)))) p
