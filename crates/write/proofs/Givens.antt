-- What a call that has tested a page holds: the facts of a fit page, and the room that 13 asks for, are what each writing half requires.
-- Assumes nothing.
use Rattle.std.proofs.Common.{◌≡◌, refl, true, List, ℕ, ◌+◌, ◌*◌, ◌≤◌, ◌<◌, arith, length}
use Rattle.paper.specs.Page.{slot_of, frame_of, numbers_of, header_of, view_of}
use Rattle.paper.specs.Space.{payload_bytes, need, free}
use Rattle.paper.specs.Listing.{Entry}
use Rattle.paper.specs.Calls.{room_for_key, need_of_all}
use Rattle.paper.proofs.Fit.{Rules, Fit, effective-used, length-rows, placed}
use Rattle.paper.proofs.Changing.{roomy}
use Rattle.paper.proofs.ChangingFit.{dropped}
use Rattle.write.specs.Room.{Room, Seat, Source, Ready}

module _ (w : ℕ) (p : List ℕ) (size : length p ≡ 16384) (F : Fit w (view_of w p)) where
  rules : Rules (frame_of p) (numbers_of p)
  unfolding view_of
  rules = F.r1

  -- insert of a suffix of k bytes as slot i
  pub room-given : (i k : ℕ) → i ≤ (numbers_of p).count → need w k ≤ free (numbers_of p) → Room w p (header_of p) i k
  unfolding header_of need
  room-given i k h l =
      record {
        size = omega arith;
        header = refl;
        slot = h;
        start = rules.start;
        top = rules.top;
        effective = rules.high;
        room = omega (arith, rules.order);
      }

  -- the payload of slot i
  pub payload-given : (i : ℕ) → i < (numbers_of p).count → (slot_of p i).offset + payload_bytes w (slot_of p i).len ≤ 16256
  payload-given i h = ((placed w p F).rows i h).1

  -- set value of slot i
  pub set_given : (i : ℕ) → i < (numbers_of p).count → (16384 ≤ length p) × (8 * i + 8 ≤ 16256) × ((slot_of p i).offset + payload_bytes w (slot_of p i).len ≤ 16256)
  set_given i h = (omega arith, omega (arith, rules.start, rules.order, rules.top), payload-given i h)

  -- change of slot i's key to the suffix s
  pub seat-given : (i : ℕ) (s : List ℕ) → w ≤ 8 → length s ≤ 65535 → i < (numbers_of p).count → room_for_key w p i s ≡ true → Seat w p (header_of p) i s
  unfolding header_of
  seat-given i s k l h m =
      record {
        size = omega arith;
        width = k;
        suffix = l;
        header = refl;
        slot = h;
        start = rules.start;
        order = rules.order;
        top = rules.top;
        effective = rules.high;
        dropped = dropped w p i s F h m;
        payload = payload-given i h;
        room = roomy w p i s F h m;
      }

  -- run copy from it
  pub source-given : w ≤ 8 → Source w p (header_of p).prefix_len
  unfolding header_of
  source-given k =
      record {
        size = omega arith;
        width = k;
        prefix = refl;
        most = rules.prefix_most;
        slots = omega (arith, rules.start, rules.order, rules.top);
        rows = payload-given;
      }

  -- run copy to it
  pub ready-given : (es : List Entry) → need_of_all w p es ≤ free (numbers_of p) → Ready w p (header_of p) es
  unfolding header_of
  ready-given es h =
      record {
        size = omega arith;
        header = refl;
        start = rules.start;
        top = rules.top;
        effective = omega (arith, rules.order, used);
        room = omega (arith, rules.order);
      }
    where
      used : (numbers_of p).effective + (numbers_of p).end ≤ 16352 + (numbers_of p).start
      used = unfold view_of in effective-used w (view_of w p) F (length-rows w p)
