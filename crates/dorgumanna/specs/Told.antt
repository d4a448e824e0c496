-- What a caller in C is told: the number of `paper`'s answers, and their values as words of 64 bits.
use Rattle.std.specs.Prelude.{ℕ, List, [], ◌∷◌, ℤ, pos, negsuc, Result, Ok, Err}
use Rattle.paper.specs.Refusals.{number_of, carried_by}
use Rattle.paper.specs.Answers.{Said}
use Rattle.filing.specs.declared.batch.NotFiled.{NotFiled}
use Rattle.filing.specs.declared.batch.NotFiled.TheVariants.{Refused, Cut}
use Rattle.dorgumanna.specs.declared.answer.Answer.{Answer}
use Rattle.dorgumanna.specs.declared.answer.SpaceAnswer.{SpaceAnswer}
use Rattle.paper.specs.declared.refusal.Refusal.{Refusal}
use Rattle.paper.specs.declared.answers.Space.{Space}

-- a number in two's complement of 64 bits; the one negative number that a call answers is -1
unfoldable pub word : ℤ → ℕ
word (pos n) = n
word (negsuc n) = 18446744073709551615

-- the first value, or 0
unfoldable pub first : List ℤ → ℕ
first [] = 0
first (x ∷ xs) = word x

-- the second value, or 0
unfoldable pub second : List ℤ → ℕ
second [] = 0
second (x ∷ xs) = first xs

unfoldable pub told : Said → Answer
told s = record { number = s.number; a = first s.values; b = second s.values }

-- the space numbers; a refusal has 0 for each of them
unfoldable pub space_told : Result Space Refusal → SpaceAnswer
space_told (Ok s) =
    record {
      number = 0;
      carried = 0;
      start = s.start;
      end = s.end;
      free = s.free;
      used = s.used;
      effective = s.effective;
      reclaimable = s.reclaimable;
      compacted = s.compacted;
    }
space_told (Err r) =
    record {
      number = number_of r;
      carried = carried_by r;
      start = 0;
      end = 0;
      free = 0;
      used = 0;
      effective = 0;
      reclaimable = 0;
      compacted = 0;
    }

-- a batch: the number of records; or the refusal's number, the place of the record refused and what the refusal carries; 255 where the
-- buffer ends inside a record
unfoldable pub batch_told : Result ℕ NotFiled → Answer
batch_told (Ok n) = record { number = 0; a = n; b = 0 }
batch_told (Err (Refused i r)) = record { number = number_of r; a = i; b = carried_by r }
batch_told (Err Cut) = record { number = 255; a = 0; b = 0 }
