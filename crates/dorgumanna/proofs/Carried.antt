-- A refusal that is neither a 5 nor an 18 carries nothing.
use Rattle.std.proofs.Common.{◌≡◌, refl, ℕ}
use Rattle.paper.specs.Refusals.{carried_by}
use Rattle.paper.specs.declared.refusal.Refusal.{Refusal}
use Rattle.paper.specs.declared.refusal.Refusal.TheVariants.{PageLength, Width, KeyLength, HeaderRules, NotFit, FenceOrder, ValueRange, Prefix, OutsideFences, SlotNumber, Present, Neighbours, NoRoom, Payload, BufferLength, ShortKey, NotFound, OtherValue}

pub carries_none : (r : Refusal) → ((u : ℕ) → r ≡ NotFit u → ⊥) → ((v : ℕ) → r ≡ OtherValue v → ⊥) → 0 ≡ carried_by r
unfolding carried_by
carries_none PageLength f g = refl
carries_none Width f g = refl
carries_none KeyLength f g = refl
carries_none HeaderRules f g = refl
carries_none FenceOrder f g = refl
carries_none ValueRange f g = refl
carries_none Prefix f g = refl
carries_none OutsideFences f g = refl
carries_none SlotNumber f g = refl
carries_none Present f g = refl
carries_none Neighbours f g = refl
carries_none NoRoom f g = refl
carries_none Payload f g = refl
carries_none BufferLength f g = refl
carries_none ShortKey f g = refl
carries_none NotFound f g = refl
carries_none (NotFit u) f g = absurd (f u refl)
carries_none (OtherValue v) f g = absurd (g v refl)
