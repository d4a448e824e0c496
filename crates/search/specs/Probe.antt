-- A probe against a prefix of a length that is given.
use Rattle.std.specs.Prelude.{ℕ, List, take}
use Rattle.keys.specs.Keys.{order}
use Rattle.paper.specs.Page.{prefix_of}
use Rattle.std.specs.declared.cmp.Ordering.{Ordering}
use Rattle.std.specs.declared.cmp.Ordering.TheVariants.{Less, Equal, Greater}

-- where a probe stands to the page's prefix of n bytes
unfoldable pub class_by : List ℕ → ℕ → List ℕ → Ordering
class_by p n k = order (take n k) (prefix_of p n)

-- the class as a number: 0 before the prefix, 1 within it, 2 after it
unfoldable pub class_number : Ordering → ℕ
class_number Less = 0
class_number Equal = 1
class_number Greater = 2
