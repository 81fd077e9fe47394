-- Lists of questions compute what their sentences say: the law, over any rows. Assumes nothing.
use mathlib.Core.Path.{◌≡◌, refl, sym, ap, ◌∙◌, subst}
use mathlib.Core.Logic.{◌⊎◌, inl, inr, ◌≢◌, ◌↔◌}
use mathlib.Core.Bool.{Bool, true, false, cond, ◌||◌, true≢false}
use mathlib.Core.List.{List, [], ◌∷◌, ◌++◌}
use Prim.Native.Nat.{ℕ, ◌≤◌}
use native.Mathlib.Omega.{arith}
use Rattle.lists.specs.Search.{lowest, Lowest}
use Rattle.blocks.specs.Loop.{memberᵇ}
use Rattle.blocks.specs.Question.{Question, asks, None, asks_none, Asked, all_yes, no', first_no, AllYes, FirstNo, numbers}
use Rattle.lists.proofs.ReflectLaws.{Reflects, holds, fails, to_false, reflects_iff, eqb_reflects}
use Rattle.lists.proofs.SearchLaws.{lowest_zero, lowest_found, lowest_absent, lowest_unique}

-- ---- the reflection of a row

-- The test decides the property, and the place is the one that has the fault.
pub record Decided (q : Question) : Type 0 where
  pub decides : Reflects q.property q.test
  pub faults : (p : ℕ) → q.fault p ↔ ((¬ q.property) × (q.place ≡ p))

-- Each row is decided after a yes to those before it.
abbrev pub Decides : List Question → Type 0
Decides [] = Unit {0}
Decides (q ∷ qs) = Decided q × (q.property → Decides qs)

-- the two shapes of rows
pub asks_decided : {k : ℕ} {P : Type 0} {t : Bool} → Reflects P t → Decided (asks k P t)
asks_decided r = record { decides = r; faults = λ p. (λ f. (f.1, sym f.0), λ f. (sym f.1, f.0)) }

pub none_decided : {k : ℕ} (A : ℕ → Type 0) (t : ℕ → Bool) (n : ℕ) → ((b : ℕ) → 1 ≤ b → b ≤ n → Reflects (A b) (t b)) → Decided (asks_none k A n (lowest t n))
none_decided A t n same =
    record {
      decides = reflects_iff absent none (eqb_reflects (lowest t n) 0);
      faults = λ p. (λ w. (λ h. h p w.low w.high w.holds, lowest_unique A t n same p w), λ f. subst (Lowest A n) f.1 (found f.0));
    }
  where
    absent : lowest t n ≡ 0 → None A n
    absent = lowest_absent A t n same

    none : None A n → lowest t n ≡ 0
    none h = lowest_zero t n (λ c l m. to_false (same c l m) (h c l m))

    found : ¬ None A n → Lowest A n (lowest t n)
    found m = lowest_found A t n same (λ e. m (absent e))

-- ---- the law

-- What the questions come to, as a sentence.
abbrev pub Says : List Question → Asked → Type 0
Says qs all_yes = AllYes qs
Says qs (no' k p) = FirstNo qs k p

-- all yes is no "no"
pub clash : {k p : ℕ} → all_yes ≡ no' k p → ⊥
clash e = let z : ◌≡◌ {A = ℕ} 0 1 = cc in omega arith

-- Questions come to what their sentences say.
pub first_no_lem : (qs : List Question) → Decides qs → (v : Asked) → (first_no qs ≡ v) ↔ Says qs v
first_no_lem [] d all_yes = (λ e. tt, λ h. refl)
first_no_lem [] d (no' k p) = (λ e. clash e, λ h. absurd h)
first_no_lem (q ∷ qs) d v = by d.0.decides v (λ y. first_no_lem qs (d.1 y))
  where
    by : {t : Bool} → Reflects q.property t → (v : Asked) → (q.property → (w : Asked) → (first_no qs ≡ w) ↔ Says qs w)
        → (cond t (first_no qs) (no' q.number q.place) ≡ v) ↔ Says (q ∷ qs) v
    by (holds y) all_yes rest = (λ e. (y, (rest y all_yes).0 e), λ h. (rest y all_yes).1 h.1)
    by (holds y) (no' k p) rest = (λ e. inr (y, (rest y (no' k p)).0 e), out)
      where
        out : FirstNo (q ∷ qs) k p → first_no qs ≡ no' k p
        out (inl (e, f)) = absurd (((d.0.faults p).0 f).0 y)
        out (inr (_, r)) = (rest y (no' k p)).1 r
    by (fails n) all_yes rest = (λ e. absurd (clash (sym e)), λ h. absurd (n h.0))
    by (fails n) (no' k p) rest = (into, out)
      where
        into : no' q.number q.place ≡ no' k p → FirstNo (q ∷ qs) k p
        into e =
            let place : q.place ≡ p = cc in
            inl (cc, (d.0.faults p).1 (n, place))

        out : FirstNo (q ∷ qs) k p → no' q.number q.place ≡ no' k p
        out (inl (e, f)) = let place = ((d.0.faults p).0 f).1 in cc
        out (inr (y, r)) = absurd (n y)

-- ---- one list before another

pub decides_append : (qs rs : List Question) → Decides qs → (AllYes qs → Decides rs) → Decides (qs ++ rs)
decides_append [] rs d f = f tt
decides_append (q ∷ qs) rs d f = (d.0, λ y. decides_append qs rs (d.1 y) (λ h. f (y, h)))

pub all_yes_append : (qs rs : List Question) → AllYes (qs ++ rs) ↔ (AllYes qs × AllYes rs)
all_yes_append [] rs = (λ h. (tt, h), λ h. h.1)
all_yes_append (q ∷ qs) rs =
    let r = all_yes_append qs rs in
    (λ h. ((h.0, (r.0 h.1).0), (r.0 h.1).1), λ h. (h.0.0, r.1 (h.0.1, h.1)))

-- a "no" of both is a "no" of the first, or all yes there and a "no" of the second
pub sentence_append : (qs rs : List Question) (k p : ℕ) → FirstNo (qs ++ rs) k p ↔ (FirstNo qs k p ⊎ (AllYes qs × FirstNo rs k p))
sentence_append [] rs k p = (λ h. inr (tt, h), out)
  where
    out : FirstNo [] k p ⊎ (AllYes [] × FirstNo rs k p) → FirstNo rs k p
    out (inl h) = absurd h
    out (inr h) = h.1
sentence_append (q ∷ qs) rs k p = (into (sentence_append qs rs k p).0, out (sentence_append qs rs k p).1)
  where
    into : (FirstNo (qs ++ rs) k p → FirstNo qs k p ⊎ (AllYes qs × FirstNo rs k p)) → FirstNo (q ∷ (qs ++ rs)) k p
        → FirstNo (q ∷ qs) k p ⊎ (AllYes (q ∷ qs) × FirstNo rs k p)
    into rest (inl f) = inl (inl f)
    into rest (inr (y, r)) = by (rest r)
      where
        by : FirstNo qs k p ⊎ (AllYes qs × FirstNo rs k p) → FirstNo (q ∷ qs) k p ⊎ (AllYes (q ∷ qs) × FirstNo rs k p)
        by (inl f) = inl (inr (y, f))
        by (inr (h, f)) = inr ((y, h), f)

    out : (FirstNo qs k p ⊎ (AllYes qs × FirstNo rs k p) → FirstNo (qs ++ rs) k p) → FirstNo (q ∷ qs) k p ⊎ (AllYes (q ∷ qs) × FirstNo rs k p)
        → FirstNo (q ∷ (qs ++ rs)) k p
    out rest (inl (inl f)) = inl f
    out rest (inl (inr (y, f))) = inr (y, rest (inl f))
    out rest (inr ((y, h), f)) = inr (y, rest (inr (h, f)))

-- the same of the functions
pub first_no_append : (qs rs : List Question) → first_no qs ≡ all_yes → first_no (qs ++ rs) ≡ first_no rs
first_no_append [] rs e = refl
first_no_append (q ∷ qs) rs e = by q.test e (λ f. first_no_append qs rs f)
  where
    by : (t : Bool) → cond t (first_no qs) (no' q.number q.place) ≡ all_yes → (first_no qs ≡ all_yes → first_no (qs ++ rs) ≡ first_no rs)
        → cond t (first_no (qs ++ rs)) (no' q.number q.place) ≡ first_no rs
    by true e rest = rest e
    by false e rest = absurd (clash (sym e))

pub first_no_front : (qs rs : List Question) (k p : ℕ) → first_no qs ≡ no' k p → first_no (qs ++ rs) ≡ no' k p
first_no_front [] rs k p e = absurd (clash e)
first_no_front (q ∷ qs) rs k p e = by q.test e (λ f. first_no_front qs rs k p f)
  where
    by : (t : Bool) → cond t (first_no qs) (no' q.number q.place) ≡ no' k p → (first_no qs ≡ no' k p → first_no (qs ++ rs) ≡ no' k p)
        → cond t (first_no (qs ++ rs)) (no' q.number q.place) ≡ no' k p
    by true e rest = rest e
    by false e rest = e

pub first_no_same : (qs rs rs' : List Question) → first_no rs ≡ first_no rs' → first_no (qs ++ rs) ≡ first_no (qs ++ rs')
first_no_same [] rs rs' e = e
first_no_same (q ∷ qs) rs rs' e = ap (λ v. cond q.test v (no' q.number q.place)) (first_no_same qs rs rs' e)

-- ---- every "no" has the number of one of its rows

-- so a number that no row has is not given
pub other_number : (qs : List Question) (j : ℕ) → memberᵇ j (numbers qs) ≡ false → (k p : ℕ) → FirstNo qs k p → k ≢ j
other_number [] j m k p f e = absurd f
other_number (q ∷ qs) j m k p f e = by (eqb_reflects j q.number) m f (λ h r. other_number qs j h k p r e)
  where
    by : {t : Bool} → Reflects (j ≡ q.number) t → (t || memberᵇ j (numbers qs)) ≡ false → FirstNo (q ∷ qs) k p
        → (memberᵇ j (numbers qs) ≡ false → FirstNo qs k p → ⊥) → ⊥
    by (holds i) h f rest = true≢false h
    by (fails n) h (inl (i, f)) rest = n (sym e ∙ i)
    by (fails n) h (inr (y, r)) rest = rest h r

-- Every row has a number of the list; and then every "no" has.
abbrev pub Among : List ℕ → List Question → Type 0
Among ns [] = Unit {0}
Among ns (q ∷ qs) = (memberᵇ q.number ns ≡ true) × Among ns qs

pub among_append : (ns : List ℕ) (qs rs : List Question) → Among ns qs → Among ns rs → Among ns (qs ++ rs)
among_append ns [] rs a b = b
among_append ns (q ∷ qs) rs a b = (a.0, among_append ns qs rs a.1 b)

pub number_among : (ns : List ℕ) (qs : List Question) → Among ns qs → (k p : ℕ) → FirstNo qs k p → memberᵇ k ns ≡ true
number_among ns [] a k p f = absurd f
number_among ns (q ∷ qs) a k p (inl (e, f)) = ap (λ j. memberᵇ j ns) e ∙ a.0
number_among ns (q ∷ qs) a k p (inr (y, r)) = number_among ns qs a.1 k p r
