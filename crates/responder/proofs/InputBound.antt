-- What decides the answer: with more bytes behind those that decide, the same sheet is read, or the same record is missing, and a tail stays one.
-- Assumes nothing.
use Prim.Native.Nat.{ℕ, suc, ◌+◌, ◌-◌, ◌*◌, ◌≤◌, ◌<◌}
use mathlib.Core.Path.{◌≡◌, refl, sym, ◌∙◌, ap}
use mathlib.Core.Logic.{◌⊎◌, inl, inr}
use mathlib.Core.Bool.{Bool, true, false, ◌&&◌, cond, false≢true}
use mathlib.Core.List.{List, [], ◌++◌}
use Rattle.std.specs.Prelude.{Option, Some, None, Ok, Err}
use native.Mathlib.Omega.{arith}
use lib.Dec.{ltb}
use lib.ListN.{length, take, drop, length-take, length-append, take-append-drop}
use lib.Seq.{take_all}
use Rattle.blocks.specs.State.{most}
use Rattle.blocks.specs.Method.{method_of}
use Rattle.blocks.specs.Question.{IsMethod, is_method}
use Rattle.lists.proofs.ReflectLaws.{Reflects, holds, fails, decided, not-not, to_true, leb_reflects, ltb_reflects}
use Rattle.planner.specs.Answers.{Answer}
use Rattle.records.specs.Marks.{marks, mark_of, size}
use Rattle.records.specs.declared.Kind.TheVariants.{Hd, Nw, Gl, Hl, Ln}
use Rattle.records.proofs.ReadLaws.{found_room}
use Rattle.sheets.specs.declared.Head.{Head}
use Rattle.sheets.specs.declared.Unread.TheVariants.{Headless, Long, Broken}
use Rattle.sheets.specs.Sheets.{head_kind, there, head_at, length_count, nows_at, goals_at, lengths_at, end_at, nows, goals, lengths, Sheet, sheet_at}
use Rattle.sheets.specs.Cases.{IsLong, RecordMissing, IsBroken, IsWhole, Says}
use Rattle.sheets.proofs.PlaceLaws.{size_hd, size_hl, length_count_le, end_at_lem}
use Rattle.sheets.proofs.HeadLaws.{head_record, record_head, no_record, no_head, head_room, long_sheet}
use Rattle.sheets.proofs.SheetLaws.{sheet_says}
use Rattle.responder.specs.Responses.{response_to}
use Rattle.responder.specs.Wanted.{decided_by, wanted_by, wanted}
use Rattle.responder.specs.Bounds.{Decides, WantedWithin, enough, WantedBounded, Enough}
use Rattle.responder.proofs.PrefixLaws.{same_record, same_entries}
use Rattle.responder.proofs.DecidedLaws.{method_reflects}
use Rattle.responder.specs.Answers.{Answered}
use Rattle.responder.proofs.AnsweredLaws.{headless_way, unnamed_way, long_way, broken_way, tail_way}
use Rattle.responder.proofs.SizeLaws.{enough_is}

-- the end of a GL record and of a LN record by the records before it, and of a record that is not there
goal_ends : (n d p : ℕ) → p ≡ 1 + n + d → size Hd + p * size Nw ≡ goals_at 0 n + suc d * size Gl
unfolding mark_of marks
goal_ends n d p e = omega (arith, e)

length_ends : (n d p : ℕ) → p ≡ 1 + n + n + d → size Hd + p * size Nw ≡ lengths_at 0 n + suc d * size Ln
unfolding mark_of marks
length_ends n d p e = omega (arith, e)

missing_ends : (n k p : ℕ) → p ≤ 2 * n + k → size Hd + p * size Nw ≤ end_at 0 n k + 1
unfolding mark_of marks
missing_ends n k p l = omega arith

module _ (bytes more : List ℕ) where
  abbrev all : List ℕ
  all = bytes ++ more

  -- ---- with more bytes behind, the head and the records that decide are as they were

  pub head_stays : {t : Bool} {n m : ℕ} → head_at bytes 0 ≡ there t n m → head_at all 0 ≡ there t n m
  head_stays {t} e =
      let f = head_record bytes 0 e in
      record_head all 0 t (same_record bytes more (head_kind t) 0 (found_room (head_kind t) bytes 0 f) ∙ f)

  no_head_stays : head_at bytes 0 ≡ None → size Hd ≤ length bytes → head_at all 0 ≡ None
  no_head_stays e h =
      no_head all 0
      (same_record bytes more Hd 0 (omega (arith, h)) ∙ no_record bytes 0 e false)
      (same_record bytes more Hl 0 (omega (arith, h, size_hl)) ∙ no_record bytes 0 e true)

  long_stays : {m : ℕ} → IsLong bytes 0 m → IsLong all 0 m
  long_stays w = record { measured = w.measured; n = w.n; head = head_stays w.head; long = w.long }

  pub nows_stay : (n : ℕ) → goals_at 0 n ≤ length bytes → nows all 0 n ≡ nows bytes 0 n
  nows_stay n h = same_entries bytes more Nw n n (nows_at 0) (omega arith) h

  pub goals_stay : (n : ℕ) → lengths_at 0 n ≤ length bytes → goals all 0 n ≡ goals bytes 0 n
  goals_stay n h = same_entries bytes more Gl n n (goals_at 0 n) (omega arith) h

  broken_stays : {m p : ℕ} → IsBroken bytes 0 m p → size Hd + p * size Nw ≤ length bytes → IsBroken all 0 m p
  broken_stays {m} {p} w h = record { measured = t; n = n; head = head_stays w.head; small = w.small; missing = by w.missing }
    where
      t : Bool
      t = w.measured

      n : ℕ
      n = w.n

      by : RecordMissing bytes 0 n (length_count t n) p → RecordMissing all 0 n (length_count t n) p
      by (inl f) =
          let same : nows all 0 n ≡ nows bytes 0 n = same_entries bytes more Nw n p (nows_at 0) (omega (arith, f.place)) (omega (arith, h)) in
          inl (record { few = rw same f.few; place = rw same f.place })
      by (inr (inl f)) =
          let d : ℕ = length (goals bytes 0 n) in
          let ends : size Hd + p * size Nw ≡ goals_at 0 n + suc d * size Gl = goal_ends n d p f.place in
          let same-nows : nows all 0 n ≡ nows bytes 0 n = nows_stay n (omega (arith, ends)) in
          let same : goals all 0 n ≡ goals bytes 0 n = same_entries bytes more Gl n (suc d) (goals_at 0 n) (omega arith) (omega (arith, ends)) in
          inr (inl (record { nows_there_lem = rw same-nows f.nows_there_lem; few = rw same f.few; place = rw same f.place }))
      by (inr (inr f)) =
          let k : ℕ = length_count t n in
          let d : ℕ = length (lengths bytes 0 n k) in
          let ends : size Hd + p * size Nw ≡ lengths_at 0 n + suc d * size Ln = length_ends n d p f.place in
          let same-nows : nows all 0 n ≡ nows bytes 0 n = nows_stay n (omega (arith, ends)) in
          let same_goals : goals all 0 n ≡ goals bytes 0 n = goals_stay n (omega (arith, ends)) in
          let same : lengths all 0 n k ≡ lengths bytes 0 n k = same_entries bytes more Ln k (suc d) (lengths_at 0 n) (omega arith) (omega (arith, ends)) in
          inr (inr (record {
            nows_there_lem = rw same-nows f.nows_there_lem;
            goals_there_lem = rw same_goals f.goals_there_lem;
            few = rw same f.few;
            place = rw same f.place;
          }))

  pub whole_stays : {n m : ℕ} {t : Bool} {e : ℕ} → IsWhole bytes 0 n m t e → e ≤ length bytes → IsWhole all 0 n m t e
  whole_stays {n} {t = t} w h =
      let k : ℕ = length_count t n in
      let same-nows : nows all 0 n ≡ nows bytes 0 n = nows_stay n (omega (arith, w.end)) in
      let same_goals : goals all 0 n ≡ goals bytes 0 n = goals_stay n (omega (arith, w.end)) in
      let same : lengths all 0 n k ≡ lengths bytes 0 n k = same_entries bytes more Ln k k (lengths_at 0 n) (omega arith) (omega (arith, w.end)) in
      record {
        head = head_stays w.head;
        small = w.small;
        nows_there_lem = ap length same-nows ∙ w.nows_there_lem;
        goals_there_lem = ap length same_goals ∙ w.goals_there_lem;
        lengths_there_lem = ap length same ∙ w.lengths_there_lem;
        end = w.end;
      }

  -- ---- and so is the answer

  same_answer : {r : Answer} → Answered all r [] → Answered bytes r [] → response_to all ≡ response_to bytes
  same_answer a b = sym a.same ∙ b.same

  module _ (none : wanted bytes ≡ 0) where
    -- behind a head with a method so many bytes are there
    decided_there : {t : Bool} {n m d : ℕ} → head_at bytes 0 ≡ there t n m → IsMethod m → decided_by (sheet_at bytes 0) ≡ d → d ≤ end_at 0 n (length_count t n) + 1
        → d ≤ length bytes
    unfolding wanted
    decided_there {t} {n} {m} {d} e i is l =
        by (is_method (method_of m)) (to_true (method_reflects m) i) (ltb_reflects (length bytes) (decided_by (sheet_at bytes 0)))
        (ap (λ f. wanted_by f bytes) (sym e) ∙ none)
      where
        by : (a : Bool) {u : Bool} → a ≡ true → Reflects (length bytes < decided_by (sheet_at bytes 0)) u
            → cond (a && u) (end_at 0 n (length_count t n) + 1 - length bytes) 0 ≡ 0 → d ≤ length bytes
        by true f (holds h) z = omega (arith, h, is, l, z)
        by true f (fails h) z = omega (arith, h, is)
        by false f r z = absurd (false≢true f)

    headless_there : head_at bytes 0 ≡ None → size Hd ≤ length bytes
    unfolding wanted
    headless_there e = let z : size Hd - length bytes ≡ 0 = ap (λ f. wanted_by f bytes) (sym e) ∙ none in omega (arith, z)

    -- without a method question 1 is answered no
    named : {t : Bool} {n m : ℕ} → head_at bytes 0 ≡ there t n m → (IsMethod m → response_to all ≡ response_to bytes) → response_to all ≡ response_to bytes
    named {t} {n} {m} e f = by (decided (method_reflects m))
      where
        by : IsMethod m ⊎ (¬ IsMethod m) → response_to all ≡ response_to bytes
        by (inl i) = f i
        by (inr i) = same_answer (unnamed_way all (head_stays e) [] i) (unnamed_way bytes e [] i)

    broken_size : {m p : ℕ} (w : IsBroken bytes 0 m p) → p ≤ 2 * w.n + length_count w.measured w.n
    broken_size {m} {p} w = by w.missing
      where
        by : RecordMissing bytes 0 w.n (length_count w.measured w.n) p → p ≤ 2 * w.n + length_count w.measured w.n
        by (inl f) = omega (arith, f.place, f.few)
        by (inr (inl f)) = omega (arith, f.place, f.few)
        by (inr (inr f)) = omega (arith, f.place, f.few)

    same : (s : Sheet) → sheet_at bytes 0 ≡ s → Says bytes 0 s → response_to all ≡ response_to bytes
    same (Err Headless) e w = same_answer (headless_way [] (no_head_stays w (headless_there w)) refl) (headless_way [] w refl)
    same (Err (Long m)) e w = same_answer (long_way [] (long_stays w) refl) (long_way [] w refl)
    same (Err (Broken m p)) e w = named w.head (λ i.
        let h = decided_there w.head i (ap decided_by e) (missing_ends w.n (length_count w.measured w.n) p (broken_size w)) in
        same_answer (broken_way [] (broken_stays w h) refl) (broken_way [] w refl))
    same (Ok s) e w = named w.head (λ i.
        let h = decided_there w.head i (ap decided_by e) (omega (arith, w.end)) in
        same_answer
        (tail_way (whole_stays w (omega (arith, h))) [] (λ f. omega (arith, f, h, length-append bytes more)) refl)
        (tail_way w [] (λ f. omega (arith, f, h)) refl))

pub decides : Decides
decides bytes more none = same bytes more none (sheet_at bytes 0) refl (sheet_says bytes 0)

-- ---- never more than fill 48,007 bytes: a head that says more slabs than the limit decides

pub wanted_bounded : WantedBounded
unfolding wanted
wanted_bounded bytes l = by (head_at bytes 0) refl
  where
    by : (o : Option Head) → head_at bytes 0 ≡ o → length bytes + wanted_by o bytes ≤ enough
    by None e = omega (arith, size_hd, enough_is)
    by (Some h) e = behind (is_method (method_of h.method)) (ltb_reflects (length bytes) (decided_by (sheet_at bytes 0)))
      where
        t : Bool
        t = h.measured

        n : ℕ
        n = h.n

        small : length bytes < decided_by (sheet_at bytes 0) → n ≤ most
        small l = not-not (leb_reflects n most) (λ k. omega (arith, l, head_room bytes 0 e, ap decided_by (long_sheet bytes 0 e (omega (arith, k)))))

        behind : (a : Bool) {u : Bool} → Reflects (length bytes < decided_by (sheet_at bytes 0)) u
            → length bytes + cond (a && u) (end_at 0 n (length_count t n) + 1 - length bytes) 0 ≤ enough
        behind true (holds h) = omega (arith, small h, length_count_le t n, end_at_lem 0 n (length_count t n), enough_is)
        behind true (fails h) = omega arith
        behind false (holds h) = omega arith
        behind false (fails h) = omega arith

-- and behind a head never more than fill its sheet and a byte
pub wanted_within : WantedWithin
unfolding wanted
wanted_within bytes =
    record {
      head = λ e. let same = ap (λ f. wanted_by f bytes) e in omega (arith, same);
      sheet = λ t n m e.
          let same = ap (λ f. wanted_by f bytes) e in
          let rest = end_at 0 n (length_count t n) + 1 - length bytes in
          omega (arith, same, some_or_none rest (is_method (method_of m) && ltb (length bytes) (decided_by (sheet_at bytes 0))));
    }
  where
    some_or_none : (r : ℕ) (t : Bool) → cond t r 0 ≤ r
    some_or_none r true = omega arith
    some_or_none r false = omega arith

-- so 48,007 bytes decide
pub input_bound : Enough
input_bound bytes = by (decided (leb_reflects (length bytes) enough))
  where
    by : (length bytes ≤ enough) ⊎ (¬ (length bytes ≤ enough)) → response_to (take enough bytes) ≡ response_to bytes
    by (inl l) = ap response_to (take_all enough bytes l)
    by (inr l) =
        let full : length (take enough bytes) ≡ enough = omega (arith, l, length-take enough bytes) in
        let none : wanted (take enough bytes) ≡ 0 = omega (arith, full, wanted_bounded (take enough bytes) (omega (arith, full))) in
        sym (decides (take enough bytes) (drop enough bytes) none) ∙ ap response_to (take-append-drop enough bytes)
