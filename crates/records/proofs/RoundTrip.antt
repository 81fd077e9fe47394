-- The round trip: the theorem of `specs/RoundTrip.antt`. Assumes nothing.
use Prim.Native.Nat.{ℕ, zero, suc, ◌+◌, ◌*◌, ◌/◌, ◌%◌, ◌<◌, ◌≤◌}
use mathlib.Core.Path.{◌≡◌, refl, sym, ◌∙◌, ap, ap₂}
use mathlib.Core.Logic.{◌≢◌}
use mathlib.Core.Bool.{Bool, true, false, ◌&&◌}
use mathlib.Core.List.{List, [], ◌∷◌, ◌++◌, append_assoc}
use Rattle.std.specs.Prelude.{Option, None}
use native.Mathlib.Omega.{arith}
use native.Mathlib.Numerals.{add-one}
use borrow.Author.Tests.{le-leb, eq-eqb, lt-ltb, eqb-true}
use lib.Dec.{leb, ltb, eqb, lit<}
use lib.ListN.{length, get_or, take, drop, length-append}
use lib.Seq.{drop-cons}
use Rattle.lists.specs.Search.{pick}
use Rattle.records.specs.Marks.{mark_of, size}
use Rattle.records.specs.Records.{field_at, has_record, field_of, found, record_at, found_if, entries_at, field_bytes, record_bytes}
use Rattle.lists.specs.Lists.{overwrite_at}
use Rattle.records.specs.RoundTrip.{RoundTrip, Bytes, entry_bytes, EntriesTrip}
use Rattle.records.specs.declared.Kind.{Kind}
use Rattle.records.specs.declared.Fields.{Fields}
use Rattle.records.proofs.MarkLaws.{fields_low, fields_high, by_fields, high_small, low_small, own_mark}
use Rattle.lists.proofs.WriteLaws.{length-overwrite_at, get_d_overwrite_at, overwrite_between}
use Rattle.records.proofs.ReadLaws.{found_has, found_room, found_first, found_second, has_high, has_low}
use Rattle.records.proofs.EntryLaws.{entries_more}
use Rattle.records.proofs.WriteLaws.{length_record}

-- ---- the bytes of a record

module _ (k : Kind) (x y : ℕ) where
  first_high : get_or (record_bytes k (x ∷ y ∷ [])) 2 0 ≡ x / 256
  unfolding record_bytes
  first_high = by_fields (λ n. get_or (field_bytes (take n (x ∷ y ∷ []))) 0 0 ≡ x / 256) k refl refl

  first_low : get_or (record_bytes k (x ∷ y ∷ [])) 3 0 ≡ x % 256
  unfolding record_bytes
  first_low = by_fields (λ n. get_or (field_bytes (take n (x ∷ y ∷ []))) 1 0 ≡ x % 256) k refl refl

  second_high : (mark_of k).fields ≡ 2 → get_or (record_bytes k (x ∷ y ∷ [])) 4 0 ≡ y / 256
  unfolding record_bytes
  second_high f = simp f

  second_low : (mark_of k).fields ≡ 2 → get_or (record_bytes k (x ∷ y ∷ [])) 5 0 ≡ y % 256
  unfolding record_bytes
  second_low f = simp f

-- ---- what is written is read back

module _ (k : Kind) (x y at : ℕ) (space : List ℕ) (room : at + size k ≤ length space) where
  abbrev written : List ℕ
  written = overwrite_at at (record_bytes k (x ∷ y ∷ [])) space

  inside : at + length (record_bytes k (x ∷ y ∷ [])) ≤ length space
  inside = omega (arith, length_record k x y)

  byte : (i : ℕ) → i < size k → get_or written (at + i) 0 ≡ get_or (record_bytes k (x ∷ y ∷ [])) i 0
  byte i h = get_d_overwrite_at at (record_bytes k (x ∷ y ∷ [])) space inside i (omega (arith, length_record k x y))

  high : get_or written at 0 ≡ (mark_of k).high
  unfolding record_bytes
  high = let e : at ≡ at + 0 = omega arith in ap (λ (i : ℕ). get_or written i 0) e ∙ byte 0 (omega arith)

  low : get_or written (at + 1) 0 ≡ (mark_of k).low
  unfolding record_bytes
  low = byte 1 (omega arith)

  first : field_at written (at + 2) ≡ x
  first =
      let e : at + 2 + 1 ≡ at + 3 = omega arith in
      let h : get_or written (at + 2) 0 ≡ x / 256 = byte 2 (omega (arith, fields_low k)) ∙ first_high k x y in
      let l : get_or written (at + 2 + 1) 0 ≡ x % 256 = ap (λ (i : ℕ). get_or written i 0) e ∙ byte 3 (omega (arith, fields_low k)) ∙ first_low k x y in
      omega arith

  second : (mark_of k).fields ≡ 2 → field_at written (at + 4) ≡ y
  second f =
      let e : at + 4 + 1 ≡ at + 5 = omega arith in
      let h : get_or written (at + 4) 0 ≡ y / 256 = byte 4 (omega arith) ∙ second_high k x y f in
      let l : get_or written (at + 4 + 1) 0 ≡ y % 256 = ap (λ (i : ℕ). get_or written i 0) e ∙ byte 5 (omega arith) ∙ second_low k x y f in
      omega arith

  fits : at + size k ≤ length written
  fits = omega (arith, length-overwrite_at at (record_bytes k (x ∷ y ∷ [])) space inside)

  has_written : has_record k written at ≡ true
  unfolding has_record
  has_written =
      simp (le-leb (at + size k) (length written) fits, eq-eqb (get_or written at 0) (mark_of k).high high, eq-eqb (get_or written (at + 1) 0) (mark_of k).low low)

  own_field : (n : ℕ) → (mark_of k).fields ≡ n → n ≤ 2 → pick (ltb 1 n) (field_at written (at + 4)) ≡ pick (ltb 1 n) y
  own_field zero e h = refl
  own_field (suc zero) e h = refl
  own_field (suc (suc zero)) e h = second e
  own_field (suc (suc (suc n))) e h = absurd (omega arith)

  read_back : record_at k written at ≡ found x (pick (ltb 1 (mark_of k).fields) y)
  unfolding record_at field_of
  read_back =
      ap (λ (b : Bool). found_if b (found (pick (ltb 0 (mark_of k).fields) (field_at written (at + 2))) (pick (ltb 1 (mark_of k).fields) (field_at written (at + 4))))) has_written
      ∙ ap (λ (t : Bool). found (pick t (field_at written (at + 2))) (pick (ltb 1 (mark_of k).fields) (field_at written (at + 4)))) (lt-ltb 0 (mark_of k).fields (fields_low k))
      ∙ ap₂ found first (own_field (mark_of k).fields refl (fields_high k))

-- ---- and as no other kind

other_mark : (j : Kind) (bytes : List ℕ) (at : ℕ) → (get_or bytes at 0 ≡ (mark_of j).high → get_or bytes (at + 1) 0 ≡ (mark_of j).low → ⊥) → record_at j bytes at ≡ None
unfolding record_at has_record
other_mark j bytes at d =
    none
    (leb (at + size j) (length bytes))
    (eqb (get_or bytes at 0) (mark_of j).high)
    (eqb (get_or bytes (at + 1) 0) (mark_of j).low)
    _
    (λ h l. d (eqb-true (get_or bytes at 0) (mark_of j).high h) (eqb-true (get_or bytes (at + 1) 0) (mark_of j).low l))
  where
    none : (a b c : Bool) (f : Option Fields) → (b ≡ true → c ≡ true → ⊥) → found_if (a && (b && c)) f ≡ None
    none false b c f h = refl
    none true false c f h = refl
    none true true false f h = refl
    none true true true f h = absurd (h refl refl)

as_no_other : (k : Kind) (x y at : ℕ) (space : List ℕ) (j : Kind) → j ≢ k → at + size k ≤ length space
    → record_at j (overwrite_at at (record_bytes k (x ∷ y ∷ [])) space) at ≡ None
as_no_other k x y at space j d room =
    other_mark j (written k x y at space room) at (λ h l. d (own_mark j k (sym h ∙ high k x y at space room) (sym l ∙ low k x y at space room)))

-- ---- what is written are bytes

pub small_nil : Bytes []
small_nil = record { small = λ i. lit< tt }

small_cons : {a : ℕ} {l : List ℕ} → a < 256 → Bytes l → Bytes (a ∷ l)
small_cons {a} {l} h w = record { small = each }
  where
    each : (i : ℕ) → get_or (a ∷ l) i 0 < 256
    each zero = h
    each (suc i) = w.small i

-- One list behind another.
pub small_append : (l : List ℕ) {v : List ℕ} → Bytes l → Bytes v → Bytes (l ++ v)
small_append [] w u = u
small_append (a ∷ l) w u = small_cons (w.small 0) (small_append l (record { small = λ i. w.small (suc i) }) u)

all_bytes : (k : Kind) (x y : ℕ) → x < 65536 → y < 65536 → Bytes (record_bytes k (x ∷ y ∷ []))
unfolding record_bytes
all_bytes k x y hx hy = small_cons (high_small k) (small_cons (low_small k) (by_fields (λ n. Bytes (field_bytes (take n (x ∷ y ∷ [])))) k (field x hx small_nil) (field x hx (field y hy small_nil))))
  where
    field : (v : ℕ) → v < 65536 → {l : List ℕ} → Bytes l → Bytes (v / 256 ∷ v % 256 ∷ l)
    field v h w = small_cons (omega arith) (small_cons (omega arith) w)

-- ---- what is read would be written

next_byte : (l : List ℕ) (at n : ℕ) → at < length l → take (suc n) (drop at l) ≡ get_or l at 0 ∷ take n (drop (at + 1) l)
next_byte l at n h = ap (take (suc n)) (drop-cons l at 0 h) ∙ ap (λ (j : ℕ). get_or l at 0 ∷ take n (drop j l)) (sym (add-one at))

-- Two bytes are those of the number that they make.
two_bytes : {a b : ℕ} (v : ℕ) → v ≡ 256 * a + b → a < 256 → b < 256 → (a ≡ v / 256) × (b ≡ v % 256)
two_bytes v e h l = (omega arith, omega arith)

module _ (bytes : List ℕ) (small : Bytes bytes) where
  next_field : (n v : ℕ) (rest : List ℕ) (at : ℕ) → v ≡ field_at bytes at → at + 1 < length bytes → take n (drop (at + 2) bytes) ≡ field_bytes rest
      → take (suc (suc n)) (drop at bytes) ≡ field_bytes (v ∷ rest)
  next_field n v rest at e h w =
      let two : (get_or bytes at 0 ≡ v / 256) × (get_or bytes (at + 1) 0 ≡ v % 256) = two_bytes v e (small.small at) (small.small (at + 1)) in
      let on : at + 1 + 1 ≡ at + 2 = omega arith in
      next_byte bytes at (suc n) (omega arith)
      ∙ ap (λ (l : List ℕ). get_or bytes at 0 ∷ l) (next_byte bytes (at + 1) n h)
      ∙ simp (on, w, two.0, two.1)

  module _ (k : Kind) (x y at : ℕ) (found : record_at k bytes at ≡ found x y) where
    room : at + size k ≤ length bytes
    room = found_room k bytes at found

    fields_back : (n : ℕ) → (mark_of k).fields ≡ n → 1 ≤ n → n ≤ 2 → take (2 * n) (drop (at + 2) bytes) ≡ field_bytes (take n (x ∷ y ∷ []))
    fields_back zero e l h = absurd (omega arith)
    fields_back (suc zero) e l h = next_field 0 x [] (at + 2) (found_first k bytes at found) (omega (arith, room)) refl
    fields_back (suc (suc zero)) e l h =
        let on : at + 2 + 2 ≡ at + 4 = omega arith in
        let last : take 2 (drop (at + 4) bytes) ≡ field_bytes (y ∷ []) = next_field 0 y [] (at + 4) (found_second k bytes at found e) (omega (arith, room)) refl in
        next_field 2 x (y ∷ []) (at + 2) (found_first k bytes at found) (omega (arith, room)) (ap (λ (j : ℕ). take 2 (drop j bytes)) on ∙ last)
    fields_back (suc (suc (suc n))) e l h = absurd (omega arith)

    read_forth : take (size k) (drop at bytes) ≡ record_bytes k (x ∷ y ∷ [])
    unfolding record_bytes
    read_forth =
        let n : ℕ = (mark_of k).fields in
        let more : 2 + 2 * n ≡ suc (suc (2 * n)) = omega arith in
        let on : at + 1 + 1 ≡ at + 2 = omega arith in
        let has : has_record k bytes at ≡ true = found_has k bytes at found in
        ap (λ (j : ℕ). take j (drop at bytes)) more
        ∙ next_byte bytes at (suc (2 * n)) (omega (arith, room))
        ∙ ap (λ (l : List ℕ). get_or bytes at 0 ∷ l) (next_byte bytes (at + 1) (2 * n) (omega (arith, room)))
        ∙ simp (on, has_high k bytes at has, has_low k bytes at has, fields_back n refl (fields_low k) (fields_high k))

pub round_trip : (k : Kind) (x y at : ℕ) (space : List ℕ) → RoundTrip k x y at space
round_trip k x y at space = record {
  back = read_back k x y at space;
  other = as_no_other k x y at space;
  bytes = all_bytes k x y;
  forth = λ small found. read_forth space small k x y at found;
}

-- ---- entries one after another

-- A record that stands between others is read.
pub read_between : (k : Kind) (x y : ℕ) (front rest : List ℕ) → record_at k (front ++ (record_bytes k (x ∷ y ∷ []) ++ rest)) (length front) ≡ found x (pick (ltb 1 (mark_of k).fields) y)
read_between k x y front rest =
    ap (λ (l : List ℕ). record_at k l (length front)) (sym (overwrite_between front (record_bytes k (x ∷ y ∷ [])) rest))
    ∙ read_back k x y (length front) (front ++ (record_bytes k (x ∷ y ∷ []) ++ rest)) (simp (length-append, length_record) (omega arith))

entries_back : (k : Kind) (front vs rest : List ℕ) → entries_at k (front ++ (entry_bytes k vs ++ rest)) (length front) (length vs) ≡ vs
unfolding entry_bytes entries_at
entries_back k front [] rest = refl
entries_back k front (v ∷ vs) rest =
    let first : List ℕ = record_bytes k (v ∷ 0 ∷ []) in
    let more : List ℕ = entry_bytes k vs ++ rest in
    let long : length (front ++ first) ≡ length front + size k = length-append front first ∙ ap (λ (n : ℕ). length front + n) (length_record k v 0) in
    let apart : front ++ ((first ++ entry_bytes k vs) ++ rest) ≡ front ++ (first ++ more) = ap (λ (l : List ℕ). front ++ l) (append_assoc first (entry_bytes k vs) rest) in
    let next : entries_at k (front ++ (first ++ more)) (length front + size k) (length vs) ≡ vs =
    ap (λ (l : List ℕ). entries_at k l (length front + size k) (length vs)) (sym (append_assoc front first more))
    ∙ ap (λ (i : ℕ). entries_at k ((front ++ first) ++ more) i (length vs)) (sym long)
    ∙ entries_back k (front ++ first) vs rest in
    ap (λ (l : List ℕ). entries_at k l (length front) (suc (length vs))) apart
    ∙ entries_more k (front ++ (first ++ more)) (length front) (length vs) (read_between k v 0 front more)
    ∙ ap (λ (l : List ℕ). v ∷ l) next

pub entries_trip : (k : Kind) (front vs rest : List ℕ) → EntriesTrip k front vs rest
entries_trip k front vs rest = record { back = entries_back k front vs rest }
