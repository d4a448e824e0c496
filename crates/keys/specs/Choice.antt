-- A choice by a test.
use Rattle.std.specs.Prelude.{Bool, true, false, ◌&&◌}

-- the first where the test is true, the second where it is not
abbrev pub pick {ℓ} : {A : Type ℓ} → Bool → A → A → A
pick true a b = a
pick false a b = b

-- both tests
abbrev pub both : Bool → Bool → Bool
both a b = a && b
