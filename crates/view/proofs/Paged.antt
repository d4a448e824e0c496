-- The key of a view that shows a slot of a page is the slot's key, as long as prefix and suffix together, and fits where that fits. Assumes nothing.
use Rattle.std.proofs.Common.{◌≡◌, List, ◌++◌, ℕ, ◌+◌, ◌≤◌, length, length-append, arith}
use Rattle.std.proofs.lemmas.Grind.{common_steps}
use Rattle.octets.specs.Bytes.{big_bytes}
use Rattle.paper.specs.Page.{prefix_of, suffix_of, body_bytes}
use Rattle.paper.specs.declared.page.Slot.{Slot}
use Rattle.node.proofs.Spelling.{length-prefix_of, length-suffix_of}
use Rattle.view.specs.Shown.{shown, long_suffix}
use Rattle.view.specs.declared.key.KeyView.{KeyView}

-- what is asked of a page, a prefix length and a slot
abbrev pub Asks : List ℕ → ℕ → Slot → Type 0
Asks p n s = (16384 ≤ length p) × (n ≤ 16256) × (96 + s.offset + body_bytes 4 s.len ≤ length p)

-- what the contract of `KeyView::new` says of a view's fields
abbrev pub Shows : List ℕ → ℕ → Slot → KeyView → Type 0
Shows p n s v = (v.prefix.now ≡ prefix_of p n) × (v.suffix.now ≡ long_suffix p s) × (v.short ≡ big_bytes 4 s.head) × (v.len ≡ s.len)

module _ (p : List ℕ) (n : ℕ) (s : Slot) (v : KeyView) where
  -- the key of a view that shows a slot is the slot's
  pub shows-key : Shows p n s v → shown v ≡ prefix_of p n ++ suffix_of p s
  unfolding suffix_of
  shows-key h = grind (arith, common_steps)

  -- it is as long as that
  pub shows-size : Asks p n s → Shows p n s v → length (shown v) ≡ n + s.len
  shows-size asks shows = rw (shows-key shows, length-append, length-prefix_of p n asks.0 asks.1, length-suffix_of p s asks.2)

  -- and fits where that does
  pub shows_fits : (m : ℕ) → Asks p n s → Shows p n s v → n + s.len ≤ m → length (shown v) ≤ m
  shows_fits m asks shows h = rw (shows-size asks shows) h
