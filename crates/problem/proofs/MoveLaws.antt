-- A legal move, and what rests on each block afterwards: its old support carries nothing, its destination carries it, all else is as it was.
-- Assumes nothing.
use Prim.Native.Nat.{ℕ, ◌-◌, ◌≤◌, ◌<◌}
use mathlib.Core.Path.{◌≡◌, sym, ap, ◌∙◌}
use mathlib.Core.Logic.{◌⊎◌, inl, inr, ◌≢◌}
use mathlib.Core.List.{List}
use native.Mathlib.Omega.{arith}
use lib.ListN.{length, get_or, set, length-set}
use lib.Seq.{get_or-set_same, get_or-set_other}
use Rattle.blocks.specs.State.{State, support, put}
use Rattle.blocks.specs.Position.{Proper}
use Rattle.blocks.specs.Tests.{load}
use Rattle.lists.proofs.ReflectLaws.{same?, not-not, eqb_reflects}
use Rattle.blocks.proofs.StateLaws.{length-put, support_put_other, support_at, put_at}
use Rattle.blocks.proofs.FrameLaws.{support_moved, proper_moved}
use Rattle.blocks.proofs.ClearLaws.{load_rests, load_none, load_is}
use Rattle.problem.specs.Known.{Loads, Movable, MovedTo}

-- nothing rests on b, so no load is found
nothing_on : (s : State) (b : ℕ) → ((c : ℕ) → support s c ≢ b) → load s b ≡ 0
nothing_on s b h = not-not (eqb_reflects (load s b) 0) (λ n. h (load s b) (load_rests s b n))

module _ {s : State} {l : List ℕ} {a x : ℕ} (w : Movable s l a x) where
  within : (k y : ℕ) → k < length l → k < length (set l y 0)
  within k y h = rw (length-set l y 0) h

  at : (b : ℕ) → 1 ≤ b → b ≤ length s → get_or (set (set l (support s a) 0) x a) b 0 ≡ load (put s a x) b
  at b low high = by (same? b x) (same? b (support s a))
    where
      proper : Proper (put s a x)
      proper = proper_moved w.legal w.proper

      block : b ≢ 0
      block e = absurd (omega arith)

      by : (b ≡ x) ⊎ (¬ (b ≡ x)) → (b ≡ support s a) ⊎ (¬ (b ≡ support s a)) → get_or (set (set l (support s a) 0) x a) b 0 ≡ load (put s a x) b
      by (inl e) _ =
          ap (λ k. get_or (set (set l (support s a) 0) x a) k 0) e
          ∙ get_or-set_same (set l (support s a) 0) x a 0 (within x (support s a) (omega (arith, w.loads.room, w.legal.inside)))
          ∙ sym (load_is (put s a x) proper b a block (support_moved w.legal ∙ sym e))
      by (inr n) (inl e) =
          get_or-set_other (set l (support s a) 0) x b a 0 n
          ∙ ap (λ k. get_or (set l (support s a) 0) k 0) e
          ∙ get_or-set_same l (support s a) 0 0 (omega (arith, w.loads.room, w.proper.entries a))
          ∙ sym (nothing_on (put s a x) b (λ c. none c (same? c a)))
        where
          -- whoever rested there was a, and a has gone
          none : (c : ℕ) → (c ≡ a) ⊎ (¬ (c ≡ a)) → support (put s a x) c ≢ b
          none c (inl same) f = n (sym f ∙ ap (support (put s a x)) same ∙ support_moved w.legal)
          none c (inr other) f =
              let r : support s c ≡ b = sym (support_put_other s a x c other) ∙ f in
              other (w.proper.carries c a (r ∙ e) (λ z. block (sym r ∙ z)))
      by (inr n) (inr m) =
          get_or-set_other (set l (support s a) 0) x b a 0 n ∙ get_or-set_other l (support s a) b 0 0 m ∙ w.loads.at b low high ∙ same (same? (load s b) 0)
        where
          same : (load s b ≡ 0) ⊎ (¬ (load s b ≡ 0)) → load s b ≡ load (put s a x) b
          same (inl z) = z ∙ sym (nothing_on (put s a x) b (λ c. none c (same? c a)))
            where
              none : (c : ℕ) → (c ≡ a) ⊎ (¬ (c ≡ a)) → support (put s a x) c ≢ b
              none c (inl here) f = n (sym f ∙ ap (support (put s a x)) here ∙ support_moved w.legal)
              none c (inr other) f = block (load_none s b c z (sym (support_put_other s a x c other) ∙ f))
          same (inr f) =
              let r : support s (load s b) ≡ b = load_rests s b f in
              let other : load s b ≢ a = λ e. m (sym r ∙ ap (support s) e) in
              sym (load_is (put s a x) proper b (load s b) block (support_put_other s a x (load s b) other ∙ r))

  loads_moved : Loads (put s a x) (set (set l (support s a) 0) x a)
  loads_moved =
      record {
        room = rw (length-put s a x, length-set (set l (support s a) 0) x a, length-set l (support s a) 0) w.loads.room;
        at = λ b low high. at b low (rw (length-put s a x) at high);
      }

-- ---- what the code does, step by step: u is what was read as the old support

module _ {s : State} {l : List ℕ} {a x u : ℕ} (w : Movable s l a x) (e : u ≡ get_or s (a - 1) 0) where
  old : u ≡ support s a
  old = e ∙ sym (support_at s a w.legal.block.low)

  pub moved_to : MovedTo s a x (set s (a - 1) x) (set (set l u 0) x a)
  moved_to =
      let same : set s (a - 1) x ≡ put s a x = sym (put_at s a x w.legal.block.low) in
      record { state = same; loads = rw (same, old) (loads_moved w) }
