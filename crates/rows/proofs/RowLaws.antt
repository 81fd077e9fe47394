-- A row that is stored is read back; the others, and the number of rows and their lengths, stay. Assumes nothing.
use Prim.Native.Nat.{ℕ, zero, suc, ◌*◌, ◌≤◌, ◌<◌}
use mathlib.Core.Path.{◌≡◌, refl, sym, ap, ◌∙◌}
use mathlib.Core.Logic.{◌⊎◌, inl, inr, ◌≢◌}
use mathlib.Core.List.{List, []}
use native.Mathlib.Omega.{arith}
use lib.ListN.{length, get_or, set, replicate, length-set, length-replicate, get_or-replicate, get_or-eq_default}
use lib.Seq.{get_or-set_same, get_or-set_other}
use mir.Syntax.{w64}
use mir.Val.{Fits}
use Rattle.lists.proofs.ReflectLaws.{decided, ltb_reflects, same?}
use Rattle.rows.specs.Rows.{Yard, row, store, row_count, Fresh, Sized, Within, row_size}

-- an index into a row fits where entries of two bytes are counted
pub scaled : {i : ℕ} → i < row_size → Fits w64 (i * 2)
scaled h = record { fits = omega arith }

pub row_set : (y : Yard) (k : ℕ) (v : List ℕ) → k < length y → row (set y k v) k ≡ v
row_set y k v h = get_or-set_same y k v [] h

pub row_beside : (y : Yard) (k j : ℕ) (v : List ℕ) → j ≢ k → row (set y k v) j ≡ row y j
row_beside y k j v n = get_or-set_other y k j v [] n

-- ---- one number stored

module _ (y : Yard) (k i v : ℕ) where
  pub stored : k < length y → row (store y k i v) k ≡ set (row y k) i v
  stored h = row_set y k (set (row y k) i v) h

  pub stored_beside : (j : ℕ) → j ≢ k → row (store y k i v) j ≡ row y j
  stored_beside j n = row_beside y k j (set (row y k) i v) n

-- ---- rows that have changed

pub within_none : {lo hi : ℕ} {y : Yard} → Within lo hi y y
within_none = record { size = refl; long = λ k. refl; below = λ k h. refl; above = λ k h. refl }

-- a row is written over by one as long
pub within_set : {lo hi : ℕ} {y y' : Yard} (k : ℕ) (v : List ℕ) → Within lo hi y y' → length v ≡ length (row y' k) → lo ≤ k → k < hi → Within lo hi y (set y' k v)
within_set {y' = y'} k v w e low high =
    record {
      size = length-set y' k v ∙ w.size;
      long = λ j. as_long j (same? j k) (decided (ltb_reflects k (length y'))) ∙ w.long j;
      below = λ j h. row_beside y' k j v (λ e. omega arith) ∙ w.below j h;
      above = λ j h. row_beside y' k j v (λ e. omega arith) ∙ w.above j h;
    }
  where
    as_long : (j : ℕ) → (j ≡ k) ⊎ (¬ (j ≡ k)) → (k < length y') ⊎ (¬ (k < length y')) → length (row (set y' k v) j) ≡ length (row y' j)
    as_long j (inl q) (inl h) = rw q (ap length (row_set y' k v h) ∙ e)
    as_long j (inl q) (inr h) =
        rw q (ap length (get_or-eq_default (set y' k v) [] (omega (arith, length-set y' k v, h)) ∙ sym (get_or-eq_default y' [] (omega (arith, h)))))
    as_long j (inr n) _ = ap length (row_beside y' k j v n)

-- a number is stored in a row
pub within_store : {lo hi : ℕ} {y y' : Yard} (k i v : ℕ) → Within lo hi y y' → lo ≤ k → k < hi → Within lo hi y (store y' k i v)
within_store {y' = y'} k i v w low high = within_set k (set (row y' k) i v) w (length-set (row y' k) i v) low high

pub within_then : {lo hi : ℕ} {x y z : Yard} → Within lo hi x y → Within lo hi y z → Within lo hi x z
within_then v w =
    record {
      size = w.size ∙ v.size;
      long = λ k. w.long k ∙ v.long k;
      below = λ k h. w.below k h ∙ v.below k h;
      above = λ k h. w.above k h ∙ v.above k h;
    }

pub within_wider : {lo hi lo' hi' : ℕ} {y z : Yard} → Within lo hi y z → lo' ≤ lo → hi ≤ hi' → Within lo' hi' y z
within_wider w low high =
    record { size = w.size; long = w.long; below = λ k h. w.below k (omega arith); above = λ k h. w.above k (omega arith) }

-- an array of a run stays one
pub sized_within : {lo hi : ℕ} {y y' : Yard} → Sized y → Within lo hi y y' → Sized y'
sized_within s w = record { rows = w.size ∙ s.rows; rooms = λ k h. omega (arith, s.rooms k h, w.long k) }

-- ---- an array made anew

module _ (n : ℕ) where
  new_row : (k : ℕ) → k < n → row (replicate n (replicate {A = ℕ} row_size 0)) k ≡ replicate {A = ℕ} row_size 0
  new_row k h = get_or-replicate n k (replicate {A = ℕ} row_size 0) [] h

  -- its rows are blank
  pub fresh_new : Fresh n (replicate n (replicate {A = ℕ} row_size 0))
  fresh_new =
      record {
        sized = omega (arith, length-replicate n (replicate {A = ℕ} row_size 0));
        blank = λ k h. rw (new_row k h) (record {
          room = omega (arith, length-replicate {A = ℕ} row_size 0);
          zeros = record { at = zero_at row_size };
        });
      }
    where
      zero_at : (m i : ℕ) → get_or (replicate {A = ℕ} m 0) i 0 ≡ 0
      zero_at zero i = refl
      zero_at (suc m) zero = refl
      zero_at (suc m) (suc i) = zero_at m i

pub sized_fresh : {y : Yard} → length y ≡ row_count → Fresh row_count y → Sized y
sized_fresh e f = record { rows = e; rooms = λ k h. (f.blank k h).room }

pub sized_new : Sized (replicate row_count (replicate {A = ℕ} row_size 0))
sized_new = sized_fresh (length-replicate row_count (replicate {A = ℕ} row_size 0)) (fresh_new row_count)

pub fresh_front : {n m : ℕ} {y : Yard} → Fresh n y → m ≤ n → Fresh m y
fresh_front f h = record { sized = omega (arith, f.sized); blank = λ k l. f.blank k (omega arith) }
