-- Numbers written over a space, from the front or from a place on. Assumes nothing.
use Prim.Native.Nat.{ℕ, suc, ◌+◌, ◌≤◌, ◌<◌}
use mathlib.Core.Path.{◌≡◌, sym, ◌∙◌, ap, ap₂}
use mathlib.Core.List.{List, [], ◌∷◌, ◌++◌, append_assoc}
use native.Mathlib.Omega.{arith}
use lib.ListN.{length, get_or, set, take, drop, length-append, length-drop, get_or-append}
use lib.Seq.{sets, sets-eq, length-sets, drop-drop, length-take-le, get_or-append-add, take-append_seam, drop-append_seam}
use Rattle.lists.specs.Lists.{overwrite, overwrite_at}

-- ---- writing over a space

pub overwrite_front : (l space : List ℕ) → take (length l) (overwrite l space) ≡ l
overwrite_front l space = take-append_seam l (drop (length l) space)

pub overwrite_rest : (l space : List ℕ) → drop (length l) (overwrite l space) ≡ drop (length l) space
overwrite_rest l space = drop-append_seam l (drop (length l) space)

pub length-overwrite : (l space : List ℕ) → length l ≤ length space → length (overwrite l space) ≡ length space
length-overwrite l space h = simp (length-append, length-drop) (omega arith)

-- ---- stores one after another

pub sets_append : (l : List ℕ) (i : ℕ) (v w : List ℕ) → sets l i (v ++ w) ≡ sets (sets l i v) (i + length v) w
sets_append l i [] w = ap (λ k. sets l k w) (omega arith)
sets_append l i (x ∷ v) w = sets_append (set l i x) (suc i) v w ∙ ap (λ k. sets (sets (set l i x) (suc i) v) k w) (omega arith)

-- Stores one after another, as a part of the space.
pub sets_at : (at : ℕ) (vs l : List ℕ) → at + length vs ≤ length l → sets l at vs ≡ overwrite_at at vs l
unfolding overwrite_at
sets_at at vs l h =
    sets-eq vs l at h ∙ append_assoc (take at l) vs (drop (at + length vs) l) ∙ ap (λ (r : List ℕ). take at l ++ (vs ++ r)) (sym (drop-drop (length vs) at l))

pub sets_front : (vs l : List ℕ) → length vs ≤ length l → sets l 0 vs ≡ overwrite vs l
unfolding overwrite_at
sets_front vs l h = sets_at 0 vs l (omega arith)

module _ (at : ℕ) (vs l : List ℕ) (room : at + length vs ≤ length l) where
  pub length-overwrite_at : length (overwrite_at at vs l) ≡ length l
  length-overwrite_at = ap length (sym (sets_at at vs l room)) ∙ length-sets l at vs

  -- What was written is read again.
  pub get_d_overwrite_at : (i : ℕ) → i < length vs → get_or (overwrite_at at vs l) (at + i) 0 ≡ get_or vs i 0
  unfolding overwrite_at
  get_d_overwrite_at i h =
      ap (λ (j : ℕ). get_or (take at l ++ overwrite vs (drop at l)) (j + i) 0) (sym front)
      ∙ get_or-append-add (take at l) (overwrite vs (drop at l)) i 0
      ∙ get_or-append vs (drop (length vs) (drop at l)) 0 i h
    where
      front : length (take at l) ≡ at
      front = length-take-le at l (omega arith)

-- Writing on behind a written front.
pub overwrite_next : (front vs space : List ℕ) → overwrite_at (length front) vs (overwrite front space) ≡ overwrite (front ++ vs) space
unfolding overwrite_at
overwrite_next front vs space =
    ap (λ (l : List ℕ). l ++ overwrite vs (drop (length front) (overwrite front space))) (overwrite_front front space)
    ∙ ap (λ (l : List ℕ). front ++ overwrite vs l) (overwrite_rest front space)
    ∙ ap (λ (l : List ℕ). front ++ (vs ++ l)) (drop-drop (length vs) (length front) space ∙ ap (λ (i : ℕ). drop i space) (sym (length-append front vs)))
    ∙ sym (append_assoc front vs (drop (length (front ++ vs)) space))

-- Writing what stands there already.
pub overwrite_between : (front vs rest : List ℕ) → overwrite_at (length front) vs (front ++ (vs ++ rest)) ≡ front ++ (vs ++ rest)
unfolding overwrite_at
overwrite_between front vs rest =
    ap₂ (λ (l m : List ℕ). l ++ overwrite vs m) (take-append_seam front (vs ++ rest)) (drop-append_seam front (vs ++ rest))
    ∙ ap (λ (l : List ℕ). front ++ (vs ++ l)) (drop-append_seam vs rest)
