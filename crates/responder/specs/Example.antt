-- Inputs with their answers by the definition: document 01's whole example, alone and with a tail, others in which the fields of a record differ, some with
-- lengths (document 02, Job 3), also of three slabs, and three heads at the limits of the entries (document 02, Job 5). Statements alone;
-- `proofs/Example.antt` proves them by computation. Assumes nothing.
use Rattle.std.specs.Prelude.{ℕ, ◌≡◌, List, [], ◌∷◌, ◌++◌, set}
use Rattle.records.specs.Example.{input, output}
use Rattle.responder.specs.Responses.{response_to}

-- A record of one field and of two, of numbers below 256: the mark's two bytes, and each field.
abbrev one : ℕ → ℕ → ℕ → List ℕ
one h l x = h ∷ l ∷ 0 ∷ x ∷ []

abbrev two : ℕ → ℕ → ℕ → ℕ → List ℕ
two h l x y = h ∷ l ∷ 0 ∷ x ∷ 0 ∷ y ∷ []

-- S6 by method 2: three lifts, misplaced 2. Its records behind the head, and with head mark HD.
abbrev s6_lists : List ℕ
s6_lists = one 78 87 2 ++ (one 78 87 3 ++ (one 78 87 0 ++ (one 71 76 2 ++ (one 71 76 0 ++ one 71 76 0))))

abbrev pub s6 : List ℕ
s6 = two 72 68 3 2 ++ s6_lists

-- With head mark HL and equal lengths.
abbrev pub s6_measured : List ℕ
s6_measured = two 72 76 3 2 ++ (s6_lists ++ (one 76 78 7 ++ (one 76 78 7 ++ one 76 78 7)))

abbrev pub s6_lifts : List ℕ
s6_lifts = two 80 76 3 2 ++ (two 76 70 1 0 ++ (two 76 70 2 0 ++ two 76 70 1 2))

-- Now 2 1 5, goals all 0: number 4, place 3.
abbrev pub first_outside : List ℕ
first_outside = two 72 68 3 2 ++ (one 78 87 2 ++ (one 78 87 1 ++ (one 78 87 5 ++ (one 71 76 0 ++ (one 71 76 0 ++ one 71 76 0)))))

-- No slabs, and a byte after the head: number 12, place 1.
abbrev pub tail : List ℕ
tail = two 72 68 0 1 ++ (0 ∷ [])

-- S2 by a method with head mark HL and two lengths; by method 2 document 01's whole example without them.
abbrev measured_by : ℕ → ℕ → ℕ → List ℕ
measured_by m a b = two 72 76 2 m ++ (one 78 87 2 ++ (one 78 87 0 ++ (one 71 76 0 ++ (one 71 76 1 ++ (one 76 78 a ++ one 76 78 b)))))

abbrev pub measured : ℕ → ℕ → List ℕ
measured a b = measured_by 2 a b

-- A head alone, of method 2 and so many slabs, by the two bytes of their number.
abbrev pub head : ℕ → ℕ → List ℕ
head h l = 72 ∷ 68 ∷ h ∷ l ∷ 0 ∷ 2 ∷ []

pub record Examples : Type 0 where
  pub whole : response_to input ≡ output
  -- no head, and half of one: number 12, place 0
  pub nothing : response_to [] ≡ two 78 79 12 0
  pub half_a_head : response_to (72 ∷ 68 ∷ 0 ∷ []) ≡ two 78 79 12 0
  -- no such method comes before a tail, before a missing record and before too many slabs
  pub no_method : response_to (two 72 68 0 4 ++ (0 ∷ [])) ≡ two 78 79 1 0
  pub no_method_cut : response_to (two 72 68 2 0) ≡ two 78 79 1 0
  pub no_method_long : response_to (72 ∷ 68 ∷ 15 ∷ 161 ∷ 0 ∷ 9 ∷ []) ≡ two 78 79 1 0
  -- a record with another mark comes before a tail: number 12, place 1
  pub marked : response_to (set input 6 0 ++ (0 ∷ [])) ≡ two 78 79 12 1
  pub planned : response_to s6 ≡ s6_lifts
  pub refused : response_to first_outside ≡ two 78 79 4 3
  pub behind : response_to tail ≡ two 78 79 12 1
  -- document 01's whole example and a byte after its last GL record: number 12, place 2 × 2 + 1
  pub behind_goals_lem : response_to (input ++ (0 ∷ [])) ≡ two 78 79 12 5
  -- equal lengths may rest on each other: the lifts are those without lengths
  pub equal : response_to (measured 7 7) ≡ output
  -- HL has HD's fields: S2 by method 3, whose lifts are those by method 2, and S6, three slabs, by method 2
  pub other_method : response_to (measured_by 3 7 7) ≡ output
  pub three_slabs : response_to s6_measured ≡ s6_lifts
  -- slab 1 is too long for slab 2 now: number 17, place 1; slab 2 for slab 1 in the goal: number 18, place 2
  pub overhangs_now : response_to (measured 8 7) ≡ two 78 79 17 1
  pub overhangs_goal : response_to (measured 7 8) ≡ two 78 79 18 2
  -- a byte after the last LN record: number 12, place 3 × 2 + 1
  pub behind_lengths : response_to (measured 7 7 ++ (0 ∷ [])) ≡ two 78 79 12 7
  -- behind three slabs' lists and lengths: places 2 × 3 + 1 and 3 × 3 + 1
  pub behind_three : response_to (s6 ++ (0 ∷ [])) ≡ two 78 79 12 7
  pub behind_three_lengths : response_to (s6_measured ++ (0 ∷ [])) ≡ two 78 79 12 10
  -- the program is the yard office's: of 601 and of 4,000 slabs the next record is missing, number 12, place 1; 4,001 are too many, number 2
  pub beyond_panel : response_to (head 2 89) ≡ two 78 79 12 1
  pub most_slabs : response_to (head 15 160) ≡ two 78 79 12 1
  pub too_many : response_to (head 15 161) ≡ two 78 79 2 0
