-- The towers after a legal move of a to x. Idea: nothing stands on a, so no bottom but a's changes; a tops the tower that it joins, its old support the tower
-- that it leaves, and a clear block that is neither a nor x stays the top of its tower. Assumes nothing.
use mathlib.Core.Path.{◌≡◌, sym, ap, ◌∙◌}
use mathlib.Core.Logic.{◌⊎◌, inl, inr, ◌≢◌}
use mathlib.Core.Bool.{cond}
use mathlib.Core.List.{List}
use Prim.Native.Nat.{ℕ, zero, suc, ◌-◌, ◌*◌, ◌≤◌, ◌<◌}
use native.Mathlib.Omega.{arith}
use borrow.Author.Tests.{eq-eqb, ne_eqb}
use lib.Dec.{eqb}
use lib.ListN.{length, get_or, set, length-set}
use lib.Seq.{get_or-set_same, get_or-set_other}
use mir.Syntax.{w16, w64}
use mir.Val.{Fits}
use Rattle.blocks.specs.State.{State, Block, support, put, down, Clear}
use Rattle.blocks.specs.Position.{Proper}
use Rattle.blocks.specs.Loop.{top}
use Rattle.lists.proofs.ReflectLaws.{same?}
use Rattle.blocks.proofs.StateLaws.{length-put, support_put_other, support_at, down_table}
use Rattle.blocks.proofs.FrameLaws.{moved_block, moved_avoided, support_moved, down_frame, moved_clear, clear_frame, proper_moved}
use Rattle.blocks.proofs.TowerLaws.{Reaches}
use Rattle.rows.specs.Rows.{Yard, row, store, bottoms_of, tops_of, Within, row_size}
use Rattle.rows.proofs.RowLaws.{stored, stored_beside, within_none, within_store}
use Rattle.towers.specs.Towers.{bottom, Bottoms, Tops}
use Rattle.towers.specs.Moved.{Shifting, Shifted}
use Rattle.towers.proofs.BottomLaws.{Base, base_over, base_flat, bottom_base, bottom_is, bottom_same, bottom_block, top_is, top_reaches, top_block}

module _ {s : State} {y : Yard} {a x : ℕ} (w : Shifting s y a x) where
  abbrev t : State
  t = put s a x

  after : Proper t
  after = proper_moved w.legal w.proper

  -- the same blocks
  kept : {b : ℕ} → Block s b → Block t b
  kept k = record { low = k.low; high = rw (length-put s a x) k.high }

  unkept : {b : ℕ} → Block t b → Block s b
  unkept k = record { low = k.low; high = rw (length-put s a x) at k.high }

  -- ---- bottoms

  base_frame : {b r : ℕ} → b ≢ a → Base s b r → Base t b r
  base_frame {b} {r} n v = record {
    steps = v.steps;
    reaches = down_frame w.legal b n v.steps ∙ v.reaches;
    block = v.block;
    flat = support_put_other s a x r (λ e. moved_avoided w.legal b n v.steps (v.reaches ∙ e)) ∙ v.flat;
  }

  bottom_other : {b : ℕ} → Block s b → b ≢ a → bottom t b ≡ bottom s b
  bottom_other k n = bottom_is after (kept k) (base_frame n (bottom_base w.proper k))

  -- what stands at the bottom of a's new tower
  abbrev joined : ℕ
  joined = cond (eqb x 0) a (get_or (bottoms_of y) x 0)

  target : x ≢ 0 → Block s x
  target n = record { low = omega (arith, n); high = w.legal.inside }

  joined_table : x ≡ 0 → joined ≡ a
  joined_table z = rw (eq-eqb x 0 z)

  joined_block : x ≢ 0 → joined ≡ bottom s x
  joined_block n = rw (ne_eqb x 0 n) (w.bottoms.at x (target n).low (target n).high)

  bottom_moved : bottom t a ≡ joined
  bottom_moved = bottom_is after (kept w.legal.block) (go (same? x 0))
    where
      go : (x ≡ 0) ⊎ (¬ (x ≡ 0)) → Base t a joined
      go (inl z) = rw (joined_table z) (base_flat (moved_block w.legal) (support_moved w.legal ∙ z))
      go (inr n) = rw (joined_block n) (base_over (1, support_moved w.legal) (base_frame w.legal.apart (bottom_base w.proper (target n))))

  bottoms_at : {b : ℕ} → Block s b → get_or (set (bottoms_of y) a joined) b 0 ≡ bottom t b
  bottoms_at {b} k = go (same? b a)
    where
      go : (b ≡ a) ⊎ (¬ (b ≡ a)) → get_or (set (bottoms_of y) a joined) b 0 ≡ bottom t b
      go (inl e) = rw e (get_or-set_same (bottoms_of y) a joined 0 (omega (arith, w.legal.block.high, w.bottoms.room)) ∙ sym bottom_moved)
      go (inr n) = get_or-set_other (bottoms_of y) a b joined 0 n ∙ w.bottoms.at b k.low k.high ∙ sym (bottom_other k n)

  -- ---- tops

  abbrev old : ℕ
  old = support s a

  -- the bottom of the tower that a leaves; the table where a stands on the table
  abbrev left : ℕ
  left = cond (eqb old 0) 0 (get_or (bottoms_of y) old 0)

  source : old ≢ 0 → Block s old
  source n = record { low = omega (arith, n); high = w.proper.entries a }

  left_table : old ≡ 0 → left ≡ 0
  left_table z = rw (eq-eqb old 0 z)

  left_block : old ≢ 0 → left ≡ bottom s old
  left_block n = rw (ne_eqb old 0 n) (w.bottoms.at old (source n).low (source n).high)

  old_apart : old ≢ a
  old_apart e = moved_block w.legal (w.legal.clear.free a e)

  -- whoever rested on the old support was a
  old_clear : Clear t old
  old_clear = record { free = λ c e. go c e (same? c a) (same? old 0) }
    where
      go : (c : ℕ) → support t c ≡ old → (c ≡ a) ⊎ (¬ (c ≡ a)) → (old ≡ 0) ⊎ (¬ (old ≡ 0)) → old ≡ 0
      go c e _ (inl z) = z
      go c e (inl q) (inr n) = absurd (w.legal.changes (sym (support_moved w.legal) ∙ ap (support t) (sym q) ∙ e))
      go c e (inr q) (inr n) =
          let r : support s c ≡ old = sym (support_put_other s a x c q) ∙ e in
          absurd (q (w.proper.carries c a r (λ z. n (sym r ∙ z))))

  joined_inside : joined ≤ length s
  joined_inside = rw (sym bottom_moved) (unkept (bottom_block after (kept w.legal.block))).high

  left_inside : left ≤ length s
  left_inside = go (same? old 0)
    where
      go : (old ≡ 0) ⊎ (¬ (old ≡ 0)) → left ≤ length s
      go (inl z) = omega (arith, left_table z)
      go (inr n) = rw (left_block n) (bottom_block w.proper (source n)).high

  -- a tower that a neither leaves nor joins keeps its top
  module _ {b : ℕ} (k : Block s b) (n : b ≢ a) (apart : bottom s b ≢ joined) (away : bottom s b ≢ left) where
    abbrev c : ℕ
    c = top s (length s) b

    reached : Reaches s c b
    reached = (top_reaches w.proper k).1

    -- below a stands its old support
    not_moved : c ≢ a
    not_moved e = go reached.0 reached.1
      where
        go : (j : ℕ) → down s j c ≡ b → ⊥
        go zero r = n (sym r ∙ e)
        go (suc j) r =
            let under : down s j old ≡ b = ap (λ y. down s j (support s y)) (sym e) ∙ r in
            let some : old ≢ 0 = λ z. omega (arith, k.low, sym under ∙ ap (down s j) z ∙ down_table s j) in
            away (sym (left_block some ∙ bottom_same w.proper (j, under) k))

    not_target : c ≢ x
    not_target e = apart (sym (joined_block some ∙ bottom_same w.proper (reached.0, ap (down s reached.0) (sym e) ∙ reached.1) k))
      where
        some : x ≢ 0
        some z = omega (arith, (top_block w.proper k).low, e ∙ z)

    top_kept : top t (length t) b ≡ c
    top_kept =
        let clear : Clear t c = clear_frame w.legal not_target (top_reaches w.proper k).0 in
        let reach : Reaches t c b = (reached.0, down_frame w.legal c not_moved reached.0 ∙ reached.1) in
        top_is after (kept (top_block w.proper k)) (kept k) clear (sym (bottom_same after reach (kept k)))

  abbrev tops : List ℕ
  tops = set (set (tops_of y) left old) joined a

  left_in : left < length (tops_of y)
  left_in = omega (arith, left_inside, w.tops.room)

  joined_in : joined < length (set (tops_of y) left old)
  joined_in = rw (length-set (tops_of y) left old) (omega (arith, joined_inside, w.tops.room))

  tops_at : {b : ℕ} → Block s b → get_or tops (bottom t b) 0 ≡ top t (length t) b
  tops_at {b} k = go (same? (bottom t b) joined) (same? (bottom t b) left)
    where
      go : (bottom t b ≡ joined) ⊎ (¬ (bottom t b ≡ joined)) → (bottom t b ≡ left) ⊎ (¬ (bottom t b ≡ left)) → get_or tops (bottom t b) 0 ≡ top t (length t) b
      go (inl e) _ =
          ap (λ j. get_or tops j 0) e
          ∙ get_or-set_same (set (tops_of y) left old) joined a 0 joined_in
          ∙ sym (top_is after (kept w.legal.block) (kept k) (moved_clear w.legal) (e ∙ sym bottom_moved))
      go (inr n) (inl e) =
          get_or-set_other (set (tops_of y) left old) joined (bottom t b) a 0 n
          ∙ ap (λ j. get_or (set (tops_of y) left old) j 0) e
          ∙ get_or-set_same (tops_of y) left old 0 left_in
          ∙ sym (top_is after (kept (source some)) (kept k) old_clear (e ∙ left_block some ∙ sym (bottom_other (source some) old_apart)))
        where
          some : old ≢ 0
          some z = omega (arith, (bottom_block after (kept k)).low, e ∙ left_table z)
      go (inr n) (inr m) =
          let other : b ≢ a = λ e. n (ap (bottom t) e ∙ bottom_moved) in
          let same : bottom t b ≡ bottom s b = bottom_other k other in
          get_or-set_other (set (tops_of y) left old) joined (bottom t b) a 0 n
          ∙ get_or-set_other (tops_of y) left (bottom t b) old 0 m
          ∙ ap (λ j. get_or (tops_of y) j 0) same
          ∙ w.tops.at b k.low k.high
          ∙ sym (top_kept k other (λ e. n (same ∙ e)) (λ e. m (same ∙ e)))

  filled : Bottoms t (set (bottoms_of y) a joined) × Tops t tops
  filled = (
    record {
      room = rw (length-put s a x, length-set (bottoms_of y) a joined) w.bottoms.room;
      at = λ b low high. bottoms_at (unkept (record { low = low; high = high }));
    },
    record {
      room = rw (length-put s a x, length-set (set (tops_of y) left old) joined a, length-set (tops_of y) left old) w.tops.room;
      at = λ b low high. tops_at (unkept (record { low = low; high = high }));
    },
  )

-- ---- what the code does, step by step: u is what was read as the old support, p and q the bottoms of the two towers

module _ {s : State} {y : Yard} {a x u : ℕ} (w : Shifting s y a x) (e : u ≡ get_or s (a - 1) 0) where
  is_old : u ≡ support s a
  is_old = e ∙ sym (support_at s a w.legal.block.low)

  module _ {p : ℕ} (f : p ≡ cond (eqb u 0) 0 (get_or (bottoms_of y) u 0)) where
    is_left : p ≡ left w
    is_left = f ∙ rw is_old

    pub left_within : p < row_size
    left_within = omega (arith, is_left, left_inside w, w.small)

    pub left_scaled : Fits w64 (p * 2)
    left_scaled = record { fits = omega (arith, is_left, left_inside w, w.small) }

    module _ {q : ℕ} (h : q ≡ cond (eqb x 0) a (get_or (bottoms_of y) x 0)) where
      shifted : Bottoms (put s a x) (set (bottoms_of y) a q) × Tops (put s a x) (set (set (tops_of y) p u) q a)
      shifted = rw (is_left, is_old, h) (filled w)

module _ {s : State} {y : Yard} {a x q : ℕ} (w : Shifting s y a x) (h : q ≡ cond (eqb x 0) a (get_or (bottoms_of y) x 0)) where
  pub joined_within : q < row_size
  joined_within = omega (arith, h, joined_inside w, w.small)

  pub joined_scaled : Fits w64 (q * 2)
  joined_scaled = record { fits = omega (arith, h, joined_inside w, w.small) }

  pub joined_fits : Fits w16 q
  joined_fits = record { fits = omega (arith, h, joined_inside w, w.small) }

-- ---- the same in the rows of the lent array

module _ {s : State} {y : Yard} {a x u p q : ℕ} (w : Shifting s y a x) (e : u ≡ get_or s (a - 1) 0) (f : p ≡ cond (eqb u 0) 0 (get_or (bottoms_of y) u 0))
    (h : q ≡ cond (eqb x 0) a (get_or (bottoms_of y) x 0)) where
  abbrev y₁ : Yard
  y₁ = store y 4 p u

  abbrev y₂ : Yard
  y₂ = store y₁ 4 q a

  abbrev y₃ : Yard
  y₃ = store y₂ 3 a q

  within₁ : Within 3 5 y y₁
  within₁ = within_store 4 p u within_none (omega arith) (omega arith)

  within₂ : Within 3 5 y y₂
  within₂ = within_store 4 q a within₁ (omega arith) (omega arith)

  bottoms_after : row y₃ 3 ≡ set (bottoms_of y) a q
  bottoms_after =
      stored y₂ 3 a q (omega (arith, within₂.size, w.sized.rows))
      ∙ ap (λ l. set l a q) (stored_beside y₁ 4 q a 3 (λ z. omega arith) ∙ stored_beside y 4 p u 3 (λ z. omega arith))

  tops_after : row y₃ 4 ≡ set (set (tops_of y) p u) q a
  tops_after =
      stored_beside y₂ 3 a q 4 (λ z. omega arith)
      ∙ stored y₁ 4 q a (omega (arith, within₁.size, w.sized.rows))
      ∙ ap (λ l. set l q a) (stored y 4 p u (omega (arith, w.sized.rows)))

  pub shifted_rows : Shifted s a x y y₃
  shifted_rows =
      let d = shifted w e f h in
      record {
        bottoms = rw bottoms_after d.0;
        tops = rw tops_after d.1;
        within = within_store 3 a q within₂ (omega arith) (omega arith);
      }
