-- Writing the LF records of pairs one after another: what the loop knows after i of them. Assumes nothing.
use Prim.Native.Nat.{ℕ, suc, ◌+◌, ◌-◌, ◌*◌, ◌≤◌, ◌<◌}
use mathlib.Core.Path.{◌≡◌, refl, sym, ◌∙◌, ap, ap₂}
use mathlib.Core.List.{List, [], ◌∷◌, ◌++◌, append_assoc, append-nil}
use native.Mathlib.Omega.{arith}
use lib.ListN.{length, get_or, take, drop, length-append, take-append-drop}
use lib.Seq.{drop-cons, drop-drop, length-take-le}
use Rattle.blocks.specs.Move.{◌⟶◌, Plan}
use Rattle.blocks.specs.Answer.{moves}
use Rattle.lists.specs.Lists.{overwrite, overwrite_at}
use Rattle.records.specs.Marks.{size}
use Rattle.records.specs.Records.{record_bytes, PutRecord}
use Rattle.records.specs.declared.Kind.TheVariants.{Lf}
use Rattle.lists.proofs.WriteLaws.{overwrite_next}
use Rattle.records.proofs.WriteLaws.{length_record}
use Rattle.responder.specs.Responses.{move_bytes}
use Rattle.responder.specs.Answers.{MovesFit, PutMoves}
use Rattle.responder.proofs.SizeLaws.{size_lf}

pub length-move_bytes : (p : Plan) → length (move_bytes p) ≡ 6 * length p
length-move_bytes [] = refl
length-move_bytes ((a ⟶ x) ∷ p) =
    let rest : length (move_bytes p) ≡ 6 * length p = length-move_bytes p in
    let one : length (record_bytes Lf (a ∷ x ∷ [])) ≡ 6 = length_record Lf a x ∙ size_lf in
    length-append (record_bytes Lf (a ∷ x ∷ [])) (move_bytes p) ∙ omega (arith, one, rest)

-- ---- writing on behind what was written at a place

at_front : (at : ℕ) (vs l : List ℕ) → at ≤ length l → overwrite_at at vs l ≡ overwrite (take at l ++ vs) l
unfolding overwrite_at
at_front at vs l h =
    let long : length (take at l ++ vs) ≡ at + length vs = length-append (take at l) vs ∙ ap (λ i. i + length vs) (length-take-le at l h) in
    ap (λ r. take at l ++ (vs ++ r)) (drop-drop (length vs) at l ∙ ap (λ i. drop i l) (sym long))
    ∙ sym (append_assoc (take at l) vs (drop (length (take at l ++ vs)) l))

overwrite_at_next : (at : ℕ) (front vs l : List ℕ) → at ≤ length l
    → overwrite_at (at + length front) vs (overwrite_at at front l) ≡ overwrite_at at (front ++ vs) l
overwrite_at_next at front vs l h =
    let before : List ℕ = take at l ++ front in
    let long : at + length front ≡ length before = ap (λ i. i + length front) (sym (length-take-le at l h)) ∙ sym (length-append (take at l) front) in
    ap₂ (λ i s. overwrite_at i vs s) long (at_front at front l h)
    ∙ overwrite_next before vs l
    ∙ ap (λ r. overwrite r l) (append_assoc (take at l) front vs)
    ∙ sym (at_front at (front ++ vs) l h)

-- ---- the records of k pairs from the i-th on

abbrev rest : List ℕ → ℕ → ℕ → List ℕ
rest pairs i k = move_bytes (moves (take (2 * k) (drop (2 * i) pairs)))

next_pair : (pairs : List ℕ) (i k : ℕ) → 2 * i + 1 < length pairs
    → take (2 * suc k) (drop (2 * i) pairs) ≡ get_or pairs (2 * i) 0 ∷ get_or pairs (2 * i + 1) 0 ∷ take (2 * k) (drop (2 * (i + 1)) pairs)
next_pair pairs i k h =
    let twice : 2 * suc k ≡ suc (suc (2 * k)) = omega arith in
    let one : suc (2 * i) ≡ 2 * i + 1 = omega arith in
    let two : suc (2 * i + 1) ≡ 2 * (i + 1) = omega arith in
    ap (λ j. take j (drop (2 * i) pairs)) twice
    ∙ ap
    (take (suc (suc (2 * k))))
    (drop-cons pairs (2 * i) 0 (omega arith)
    ∙ ap (λ j. get_or pairs (2 * i) 0 ∷ drop j pairs) one
    ∙ ap (λ l. get_or pairs (2 * i) 0 ∷ l) (drop-cons pairs (2 * i + 1) 0 h ∙ ap (λ j. get_or pairs (2 * i + 1) 0 ∷ drop j pairs) two))

pub record Writing (count : ℕ) (pairs out₀ : List ℕ) (start : ℕ) (out : List ℕ) (at i : ℕ) : Type 0 where
  pub fit : MovesFit count pairs out₀ start
  pub within : i ≤ count
  pub done : List ℕ
  pub long : length done ≡ 6 * i
  pub place : at ≡ start + length done
  pub kept : length out ≡ length out₀
  pub so_far : out ≡ overwrite_at start done out₀
  pub all : done ++ rest pairs i (count - i) ≡ move_bytes (moves (take (2 * count) pairs))

pub writing_begin : {count : ℕ} {pairs out : List ℕ} {start : ℕ} → MovesFit count pairs out start → Writing count pairs out start out start 0
unfolding overwrite_at
writing_begin {count} {pairs} {out} {start} w =
    let whole : count - 0 ≡ count = omega arith in
    record {
      fit = w;
      within = omega arith;
      done = [];
      long = refl;
      place = omega arith;
      kept = refl;
      so_far = sym (take-append-drop start out);
      all = ap (rest pairs 0) whole;
    }

module _ {count : ℕ} {pairs out₀ : List ℕ} {start : ℕ} {out : List ℕ} {at i : ℕ} (w : Writing count pairs out₀ start out at i) where
  bytes : start + 6 * count ≤ length out₀
  bytes = let r : start + count * 6 ≤ length out₀ = rw (← size_lf) w.fit.room in omega arith

  module _ (l : i < count) where
    pub pair_first : 2 * i < length pairs
    pair_first = omega (arith, w.fit.there)

    pub pair_second : 2 * i + 1 < length pairs
    pair_second = omega (arith, w.fit.there)

    pub record_room : at + size Lf ≤ length out
    record_room = omega (arith, size_lf, bytes, w.place, w.long, w.kept)

    pub writing_next : {next : ℕ} {out' : List ℕ} → PutRecord Lf (get_or pairs (2 * i) 0) (get_or pairs (2 * i + 1) 0) at out next out' → length out' ≡ length out
        → Writing count pairs out₀ start out' next (i + 1)
    writing_next {next} {out'} p same =
        record {
          fit = w.fit;
          within = omega arith;
          done = w.done ++ one;
          long = length-append w.done one ∙ omega (arith, size_one, w.long);
          place = p.after ∙ omega (arith, w.place, size_lf, length-append w.done one, size_one);
          kept = same ∙ w.kept;
          so_far =
              p.written
              ∙ ap₂ (λ a s. overwrite_at a one s) w.place w.so_far
              ∙ overwrite_at_next start w.done one out₀ (omega (arith, bytes));
          all = append_assoc w.done one (rest pairs (i + 1) (count - (i + 1))) ∙ sym (ap (λ r. w.done ++ r) here) ∙ w.all;
        }
      where
        one : List ℕ
        one = record_bytes Lf (get_or pairs (2 * i) 0 ∷ get_or pairs (2 * i + 1) 0 ∷ [])

        size_one : length one ≡ 6
        size_one = length_record Lf (get_or pairs (2 * i) 0) (get_or pairs (2 * i + 1) 0) ∙ size_lf

        left : count - i ≡ suc (count - (i + 1))
        left = omega arith

        here : rest pairs i (count - i) ≡ one ++ rest pairs (i + 1) (count - (i + 1))
        here = ap (rest pairs i) left ∙ ap (λ r. move_bytes (moves r)) (next_pair pairs i (count - (i + 1)) pair_second)

  pub writing_end : count ≤ i → PutMoves count pairs start out₀ at out
  writing_end l =
      let none : count - i ≡ 0 = omega arith in
      let whole : w.done ≡ move_bytes (moves (take (2 * count) pairs)) =
      sym (append-nil w.done) ∙ sym (ap (λ k. w.done ++ rest pairs i k) none) ∙ w.all in
      record { after = w.place ∙ ap (λ d. start + length d) whole; written = w.so_far ∙ ap (λ d. overwrite_at start d out₀) whole }
