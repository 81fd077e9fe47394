-- The starred sheets of document 01, "Sheets with known ends", as one table of what the operations must answer, and further tables that settle ties, counts,
-- lifts, verdicts and refusals. proofs/Starred proves them by computation alone, and proofs/FewestLaws what S2 and S6 need by the theorems. Assumes nothing.
use Rattle.std.specs.Prelude.{ℕ, ◌+◌, ◌*◌, ◌-◌, ◌≡◌, true, false, List, [], ◌∷◌, ◌++◌, length, replicate}
use Rattle.std.proofs.Math.Option.{some}
use Rattle.blocks.specs.State.{State}
use Rattle.blocks.specs.Position.{Problem}
use Rattle.blocks.specs.Tests.{measure}
use Rattle.blocks.specs.Loop.{shown_width}
use Rattle.blocks.specs.Method.{Method, number_of}
use Rattle.blocks.specs.Length.{given, MeasuredIf}
use Rattle.blocks.specs.Answer.{check_answer, plan_answer, plan_space, deadlock_answer, deadlock_space, replay_answer}
use Rattle.blocks.specs.Sheet.{Sheet, measured_by, plain, goal_state, Arrives, Accepted, Call, office, panel}
use Rattle.blocks.specs.Demands.{Fewest}

-- One claim of a table. A method goes by its number, and lists of lifts are written as the operations write them: slab, destination.
pub data Claim : Type 0 where
  gives : Sheet → ℕ → List ℕ → Claim  -- the method writes this list
  takes : Sheet → ℕ → ℕ → Claim  -- the method writes so many lifts
  shows : Sheet → List ℕ → Claim  -- the deadlock test writes these rows; none, where there is no deadlock
  misplaces : Sheet → ℕ → Claim  -- planning answers so many misplaced slabs
  needs : Sheet → ℕ → Claim  -- the fewest lifts that could do
  all_down : Sheet → ℕ → Claim  -- the number that document 02, Job 4, names for method 1
  replays : Sheet → List ℕ → ℕ → ℕ → Claim  -- the list has this verdict and place
  checks : Sheet → ℕ → ℕ → Claim  -- a check answers this number and place
  refuses_plan : Sheet → ℕ → ℕ → ℕ → ℕ → Claim  -- by the method, with so many numbers lent: number, place
  refuses_panel : Sheet → ℕ → ℕ → ℕ → ℕ → Claim  -- the same by the panel's entry
  refuses_deadlock : Sheet → ℕ → ℕ → ℕ → Claim  -- with so many numbers lent: number, place
  refuses_replay : Sheet → List ℕ → ℕ → ℕ → Claim  -- of the list: number, no verdict, place

-- With goals all 0 and as long; and with lengths.
abbrev grounds : State → Sheet
grounds s = plain s (replicate (length s) 0)

abbrev with : List ℕ → State → State → Sheet
with l s g = measured_by (some l) s g

-- Lent space full of a number that no slab has.
abbrev pub lent : ℕ → List ℕ
lent n = replicate n 99

-- Just this list is written into the space, from the front.
abbrev pub on_top : List ℕ → ℕ → List ℕ
on_top l n = l ++ lent (n - length l)

-- A number more than planning needs, and the deadlock test; what is just enough stands in `Limits`.
abbrev pub lifts_most : Sheet → ℕ
lifts_most h = 4 * length h.initial + 1

abbrev pub lifts_lent : Sheet → List ℕ
lifts_lent h = lent (lifts_most h)

abbrev pub rows_most : Sheet → ℕ
rows_most h = shown_width * length h.initial + 1

abbrev pub rows_lent : Sheet → List ℕ
rows_lent h = lent (rows_most h)

-- Planning refuses: number, place, counts 0, and the space as it was.
abbrev pub Refuses : Call → Sheet → ℕ → ℕ → ℕ → Type 0
Refuses c h n k p = (plan_answer c h (lent n) ≡ record { number = k; place = p; count = 0; misplaced = 0 }) × (plan_space c h (lent n) ≡ lent n)

abbrev pub Holds : Claim → Type 0
Holds (gives h m l) =
    (plan_space (office m) h (lifts_lent h) ≡ on_top l (lifts_most h))
    × (2 * (plan_answer (office m) h (lifts_lent h)).count ≡ length l)
    × ((plan_answer (office m) h (lifts_lent h)).number ≡ 0)
Holds (takes h m k) = ((plan_answer (office m) h (lifts_lent h)).count ≡ k) × ((plan_answer (office m) h (lifts_lent h)).number ≡ 0)
Holds (shows h l) =
    (deadlock_space h (rows_lent h) ≡ on_top l (rows_most h))
    × (shown_width * (deadlock_answer h (rows_lent h)).count ≡ length l)
    × ((deadlock_answer h (rows_lent h)).number ≡ 0)
Holds (misplaces h c) = ((plan_answer (office 1) h (lifts_lent h)).misplaced ≡ c) × ((plan_answer (office 1) h (lifts_lent h)).number ≡ 0)
Holds (needs h k) = Fewest (Arrives h) k
Holds (all_down h k) = measure h.initial (goal_state h) ≡ k
Holds (replays h l v p) = replay_answer h l ≡ record { number = 0; verdict = v; place = p }
Holds (checks h k p) = check_answer h ≡ record { number = k; place = p }
Holds (refuses_plan h m n k p) = Refuses (office m) h n k p
Holds (refuses_panel h m n k p) = Refuses (panel m) h n k p
Holds (refuses_deadlock h n k p) = (deadlock_answer h (lent n) ≡ record { number = k; place = p; count = 0 }) × (deadlock_space h (lent n) ≡ lent n)
Holds (refuses_replay h l k p) = replay_answer h l ≡ record { number = k; verdict = 65535; place = p }

abbrev pub AllHold : List Claim → Type 0
AllHold [] = Unit {0}
AllHold (c ∷ cs) = Holds c × AllHold cs

-- The sheets, now and goal.
abbrev S1 : Sheet
S1 = plain [] []

abbrev pub S2 : Sheet
S2 = plain (2 ∷ 0 ∷ []) (0 ∷ 1 ∷ [])

abbrev S3 : Sheet
S3 = plain (0 ∷ 0 ∷ 1 ∷ []) (2 ∷ 3 ∷ 0 ∷ [])

abbrev S4 : Sheet
S4 = plain (2 ∷ 0 ∷ 4 ∷ 0 ∷ []) (4 ∷ 0 ∷ 2 ∷ 0 ∷ [])

abbrev S5 : Sheet
S5 = plain (2 ∷ 3 ∷ 0 ∷ 5 ∷ 0 ∷ []) (5 ∷ 0 ∷ 0 ∷ 3 ∷ 2 ∷ [])

abbrev pub S6 : Sheet
S6 = plain (2 ∷ 3 ∷ 0 ∷ []) (2 ∷ 0 ∷ 0 ∷ [])

-- Sheets of docs/WHY.md.
abbrev five : Sheet
five = plain (0 ∷ 1 ∷ 0 ∷ 3 ∷ 4 ∷ 0 ∷ 6 ∷ 0 ∷ 8 ∷ 0 ∷ []) (7 ∷ 0 ∷ 0 ∷ 3 ∷ 10 ∷ 0 ∷ 8 ∷ 0 ∷ 6 ∷ 0 ∷ [])

abbrev waits : Sheet
waits = plain (6 ∷ 3 ∷ 0 ∷ 5 ∷ 0 ∷ 0 ∷ []) (2 ∷ 5 ∷ 0 ∷ 3 ∷ 0 ∷ 0 ∷ [])

abbrev longer : Sheet
longer = plain (3 ∷ 0 ∷ 4 ∷ 0 ∷ 2 ∷ 1 ∷ []) (2 ∷ 0 ∷ 1 ∷ 0 ∷ 4 ∷ 5 ∷ [])

-- The starred sheets, row by row as document 01 has them.
abbrev pub starred : List Claim
starred =
    -- S1: empty / empty: no lifts, no deadlock
    gives S1 1 [] ∷
    gives S1 2 [] ∷
    gives S1 3 [] ∷
    shows S1 [] ∷
    -- S2: method 2 lifts 1→0, 2→1; no deadlock
    gives S2 2 (1 ∷ 0 ∷ 2 ∷ 1 ∷ []) ∷
    shows S2 [] ∷
    -- S3 (Sussman's anomaly): 3→0, 2→3, 1→2 by every method
    gives S3 1 (3 ∷ 0 ∷ 2 ∷ 3 ∷ 1 ∷ 2 ∷ []) ∷
    gives S3 2 (3 ∷ 0 ∷ 2 ∷ 3 ∷ 1 ∷ 2 ∷ []) ∷
    gives S3 3 (3 ∷ 0 ∷ 2 ∷ 3 ∷ 1 ∷ 2 ∷ []) ∷
    -- S4: method 1 takes four lifts; method 2 lifts 1→0, 3→2, 1→4; deadlock rows 1 4 4, 3 2 2
    takes S4 1 4 ∷
    gives S4 2 (1 ∷ 0 ∷ 3 ∷ 2 ∷ 1 ∷ 4 ∷ []) ∷
    shows S4 (1 ∷ 4 ∷ 4 ∷ 3 ∷ 2 ∷ 2 ∷ []) ∷
    -- S5: method 1 six lifts; methods 2 and 3 lift 1→0, 2→0, 4→3, 5→2, 1→5; deadlock row 1 2 0
    takes S5 1 6 ∷
    gives S5 2 (1 ∷ 0 ∷ 2 ∷ 0 ∷ 4 ∷ 3 ∷ 5 ∷ 2 ∷ 1 ∷ 5 ∷ []) ∷
    gives S5 3 (1 ∷ 0 ∷ 2 ∷ 0 ∷ 4 ∷ 3 ∷ 5 ∷ 2 ∷ 1 ∷ 5 ∷ []) ∷
    shows S5 (1 ∷ 2 ∷ 0 ∷ []) ∷
    -- S6: misplaced 2; method 2 lifts 1→0, 2→0, 1→2
    misplaces S6 2 ∷
    gives S6 2 (1 ∷ 0 ∷ 2 ∷ 0 ∷ 1 ∷ 2 ∷ []) ∷
    -- With goals all 0 and as long: now 2 1 5: number 4, place 3; now 0 1 1: number 5, place 3; now 1: number 6, place 1
    checks (grounds (2 ∷ 1 ∷ 5 ∷ [])) 4 3 ∷
    checks (grounds (0 ∷ 1 ∷ 1 ∷ [])) 5 3 ∷
    checks (grounds (1 ∷ [])) 6 1 ∷
    []

-- Sheets that settle the ties of each method (docs/DECISIONS.md, 2 and 5), with whole lists.
abbrev pub ties : List Claim
ties =
    -- of two slabs that have a constructive lift the lower comes first, wherever they stand and go
    gives (plain (0 ∷ 0 ∷ 0 ∷ 0 ∷ []) (0 ∷ 0 ∷ 1 ∷ 2 ∷ [])) 1 (3 ∷ 1 ∷ 4 ∷ 2 ∷ []) ∷
    gives (plain (0 ∷ 0 ∷ 0 ∷ 0 ∷ []) (0 ∷ 0 ∷ 1 ∷ 2 ∷ [])) 2 (3 ∷ 1 ∷ 4 ∷ 2 ∷ []) ∷
    gives (plain (0 ∷ 0 ∷ 0 ∷ 0 ∷ []) (0 ∷ 0 ∷ 1 ∷ 2 ∷ [])) 3 (3 ∷ 1 ∷ 4 ∷ 2 ∷ []) ∷
    gives (plain (0 ∷ 0 ∷ 1 ∷ 0 ∷ 0 ∷ []) (2 ∷ 0 ∷ 4 ∷ 0 ∷ 1 ∷ [])) 1 (3 ∷ 0 ∷ 1 ∷ 2 ∷ 3 ∷ 4 ∷ 5 ∷ 1 ∷ []) ∷
    gives (plain (0 ∷ 0 ∷ 1 ∷ 0 ∷ []) (0 ∷ 0 ∷ 0 ∷ 2 ∷ [])) 2 (3 ∷ 0 ∷ 4 ∷ 2 ∷ []) ∷
    gives (plain (0 ∷ 0 ∷ 0 ∷ 1 ∷ []) (0 ∷ 0 ∷ 2 ∷ 0 ∷ [])) 2 (3 ∷ 2 ∷ 4 ∷ 0 ∷ []) ∷
    gives (plain (3 ∷ 0 ∷ 0 ∷ 2 ∷ []) (0 ∷ 0 ∷ 1 ∷ 0 ∷ [])) 3 (1 ∷ 0 ∷ 3 ∷ 1 ∷ 4 ∷ 0 ∷ []) ∷
    gives (plain (3 ∷ 0 ∷ 2 ∷ 1 ∷ []) (0 ∷ 4 ∷ 0 ∷ 1 ∷ [])) 3 (4 ∷ 0 ∷ 1 ∷ 0 ∷ 3 ∷ 0 ∷ 4 ∷ 1 ∷ 2 ∷ 4 ∷ []) ∷
    -- also where the lower has one only since the last lift
    gives (plain (0 ∷ 0 ∷ 1 ∷ 0 ∷ []) (3 ∷ 0 ∷ 0 ∷ 2 ∷ [])) 2 (3 ∷ 0 ∷ 1 ∷ 3 ∷ 4 ∷ 2 ∷ []) ∷
    -- of two slabs to put down the lower comes first, wherever they stand
    gives (plain (0 ∷ 0 ∷ 1 ∷ 2 ∷ []) (0 ∷ 0 ∷ 0 ∷ 0 ∷ [])) 1 (3 ∷ 0 ∷ 4 ∷ 0 ∷ []) ∷
    gives (plain (0 ∷ 0 ∷ 2 ∷ 1 ∷ []) (0 ∷ 0 ∷ 0 ∷ 0 ∷ [])) 1 (3 ∷ 0 ∷ 4 ∷ 0 ∷ []) ∷
    gives (plain (2 ∷ 0 ∷ 4 ∷ 0 ∷ []) (4 ∷ 0 ∷ 2 ∷ 0 ∷ [])) 1 (1 ∷ 0 ∷ 3 ∷ 0 ∷ 1 ∷ 4 ∷ 3 ∷ 2 ∷ []) ∷
    gives (plain (2 ∷ 3 ∷ 0 ∷ 5 ∷ 0 ∷ []) (5 ∷ 0 ∷ 0 ∷ 3 ∷ 2 ∷ [])) 1 (1 ∷ 0 ∷ 2 ∷ 0 ∷ 4 ∷ 0 ∷ 4 ∷ 3 ∷ 5 ∷ 2 ∷ 1 ∷ 5 ∷ []) ∷
    gives (plain (3 ∷ 0 ∷ 0 ∷ 5 ∷ 2 ∷ []) (2 ∷ 4 ∷ 0 ∷ 0 ∷ 3 ∷ [])) 1 (1 ∷ 0 ∷ 4 ∷ 0 ∷ 5 ∷ 0 ∷ 2 ∷ 4 ∷ 1 ∷ 2 ∷ 5 ∷ 3 ∷ []) ∷
    gives (plain (0 ∷ 5 ∷ 4 ∷ 0 ∷ 1 ∷ []) (0 ∷ 0 ∷ 4 ∷ 1 ∷ 0 ∷ [])) 1 (2 ∷ 0 ∷ 3 ∷ 0 ∷ 5 ∷ 0 ∷ 4 ∷ 1 ∷ 3 ∷ 4 ∷ []) ∷
    gives (plain (0 ∷ 0 ∷ 2 ∷ 1 ∷ []) (0 ∷ 0 ∷ 1 ∷ 2 ∷ [])) 2 (3 ∷ 0 ∷ 4 ∷ 2 ∷ 3 ∷ 1 ∷ []) ∷
    gives (plain (3 ∷ 0 ∷ 4 ∷ 0 ∷ 2 ∷ 1 ∷ []) (2 ∷ 0 ∷ 1 ∷ 0 ∷ 4 ∷ 5 ∷ [])) 2 (5 ∷ 0 ∷ 6 ∷ 0 ∷ 1 ∷ 2 ∷ 3 ∷ 1 ∷ 5 ∷ 4 ∷ 6 ∷ 5 ∷ []) ∷
    gives (plain (5 ∷ 0 ∷ 4 ∷ 0 ∷ 2 ∷ []) (2 ∷ 0 ∷ 4 ∷ 5 ∷ 1 ∷ [])) 2 (1 ∷ 0 ∷ 3 ∷ 0 ∷ 5 ∷ 0 ∷ 1 ∷ 2 ∷ 5 ∷ 1 ∷ 4 ∷ 5 ∷ 3 ∷ 4 ∷ []) ∷
    -- the lowest slab on the loop is put down, and the loop is that of the lowest misplaced clear slab, on or off the ground;
    -- method 3 may write more lifts than method 2
    gives (plain (2 ∷ 0 ∷ 4 ∷ 0 ∷ []) (4 ∷ 0 ∷ 2 ∷ 0 ∷ [])) 3 (1 ∷ 0 ∷ 3 ∷ 2 ∷ 1 ∷ 4 ∷ []) ∷
    gives (plain (0 ∷ 0 ∷ 2 ∷ 1 ∷ []) (0 ∷ 0 ∷ 1 ∷ 2 ∷ [])) 3 (3 ∷ 0 ∷ 4 ∷ 2 ∷ 3 ∷ 1 ∷ []) ∷
    gives (plain (3 ∷ 0 ∷ 4 ∷ 0 ∷ 2 ∷ 1 ∷ []) (2 ∷ 0 ∷ 1 ∷ 0 ∷ 4 ∷ 5 ∷ [])) 3 (6 ∷ 0 ∷ 1 ∷ 0 ∷ 3 ∷ 0 ∷ 5 ∷ 4 ∷ 1 ∷ 2 ∷ 3 ∷ 1 ∷ 6 ∷ 5 ∷ []) ∷
    gives (plain (0 ∷ 0 ∷ 2 ∷ 5 ∷ 1 ∷ []) (0 ∷ 0 ∷ 1 ∷ 2 ∷ 4 ∷ [])) 3 (3 ∷ 0 ∷ 4 ∷ 2 ∷ 5 ∷ 4 ∷ 3 ∷ 1 ∷ []) ∷
    gives (plain (0 ∷ 0 ∷ 0 ∷ 2 ∷ 1 ∷ []) (0 ∷ 0 ∷ 1 ∷ 3 ∷ 2 ∷ [])) 3 (4 ∷ 0 ∷ 5 ∷ 2 ∷ 3 ∷ 1 ∷ 4 ∷ 3 ∷ []) ∷
    gives (plain (3 ∷ 4 ∷ 5 ∷ 0 ∷ 0 ∷ []) (3 ∷ 5 ∷ 0 ∷ 0 ∷ 4 ∷ [])) 3 (1 ∷ 0 ∷ 3 ∷ 0 ∷ 1 ∷ 3 ∷ 2 ∷ 0 ∷ 5 ∷ 4 ∷ 2 ∷ 5 ∷ []) ∷
    gives (plain (0 ∷ 3 ∷ 5 ∷ 1 ∷ 0 ∷ []) (0 ∷ 3 ∷ 0 ∷ 5 ∷ 1 ∷ [])) 3 (2 ∷ 0 ∷ 3 ∷ 0 ∷ 2 ∷ 3 ∷ 4 ∷ 0 ∷ 5 ∷ 1 ∷ 4 ∷ 5 ∷ []) ∷
    gives (plain (4 ∷ 0 ∷ 2 ∷ 0 ∷ 1 ∷ 3 ∷ []) (0 ∷ 6 ∷ 4 ∷ 2 ∷ 1 ∷ 0 ∷ [])) 3 (6 ∷ 0 ∷ 3 ∷ 0 ∷ 2 ∷ 6 ∷ 5 ∷ 0 ∷ 1 ∷ 0 ∷ 4 ∷ 2 ∷ 3 ∷ 4 ∷ 5 ∷ 1 ∷ []) ∷
    gives (plain (3 ∷ 0 ∷ 2 ∷ 1 ∷ 7 ∷ 0 ∷ 0 ∷ []) (2 ∷ 0 ∷ 0 ∷ 3 ∷ 6 ∷ 7 ∷ 0 ∷ [])) 3 (4 ∷ 0 ∷ 1 ∷ 0 ∷ 3 ∷ 0 ∷ 1 ∷ 2 ∷ 4 ∷ 3 ∷ 5 ∷ 0 ∷ 6 ∷ 7 ∷ 5 ∷ 6 ∷ []) ∷
    gives (plain (0 ∷ 6 ∷ 7 ∷ 8 ∷ 9 ∷ 0 ∷ 0 ∷ 0 ∷ 0 ∷ []) (8 ∷ 7 ∷ 6 ∷ 9 ∷ 1 ∷ 0 ∷ 0 ∷ 0 ∷ 0 ∷ [])) 3 (4 ∷ 0 ∷ 1 ∷ 8 ∷ 5 ∷ 1 ∷ 4 ∷ 9 ∷ 2 ∷ 0 ∷ 3 ∷ 6 ∷ 2 ∷ 7 ∷ []) ∷
    gives (plain (0 ∷ 6 ∷ 7 ∷ 8 ∷ 9 ∷ 0 ∷ 0 ∷ 0 ∷ 0 ∷ []) (7 ∷ 1 ∷ 8 ∷ 9 ∷ 6 ∷ 0 ∷ 0 ∷ 0 ∷ 0 ∷ [])) 3 (2 ∷ 0 ∷ 5 ∷ 6 ∷ 4 ∷ 9 ∷ 3 ∷ 8 ∷ 1 ∷ 7 ∷ 2 ∷ 1 ∷ []) ∷
    -- the lowest when the yard stalls, though the slab at which the last walk began waits still
    gives (plain (7 ∷ 4 ∷ 0 ∷ 0 ∷ 8 ∷ 0 ∷ 9 ∷ 1 ∷ 0 ∷ []) (9 ∷ 3 ∷ 4 ∷ 8 ∷ 7 ∷ 0 ∷ 2 ∷ 6 ∷ 0 ∷ [])) 3
    (5 ∷ 0 ∷ 8 ∷ 6 ∷ 1 ∷ 0 ∷ 2 ∷ 0 ∷ 4 ∷ 8 ∷ 3 ∷ 4 ∷ 2 ∷ 3 ∷ 7 ∷ 2 ∷ 1 ∷ 9 ∷ 5 ∷ 7 ∷ []) ∷
    -- and so are the rows of the deadlock test
    shows (plain (0 ∷ 0 ∷ 0 ∷ 2 ∷ 1 ∷ []) (0 ∷ 0 ∷ 1 ∷ 3 ∷ 2 ∷ [])) (4 ∷ 1 ∷ 1 ∷ 5 ∷ 2 ∷ 2 ∷ []) ∷
    shows (plain (3 ∷ 4 ∷ 5 ∷ 0 ∷ 0 ∷ []) (3 ∷ 5 ∷ 0 ∷ 0 ∷ 4 ∷ [])) (1 ∷ 3 ∷ 0 ∷ []) ∷
    -- the loop is that of the lowest slab that waits, 3, and not that with the lowest number: 5 is in its own way
    shows (plain (2 ∷ 0 ∷ 0 ∷ 0 ∷ 4 ∷ 1 ∷ []) (4 ∷ 0 ∷ 6 ∷ 0 ∷ 1 ∷ 2 ∷ [])) (6 ∷ 2 ∷ 2 ∷ []) ∷
    -- c is that of the stalled yard: 5 has gone onto 4 before; at the start it is 4
    shows (plain (2 ∷ 3 ∷ 0 ∷ 0 ∷ 0 ∷ []) (2 ∷ 5 ∷ 0 ∷ 0 ∷ 4 ∷ [])) (1 ∷ 2 ∷ 5 ∷ []) ∷
    -- and not what the block rests on in the goal: 5 and 3 lie between 1 and 4
    shows (plain (2 ∷ 3 ∷ 0 ∷ 0 ∷ 0 ∷ []) (5 ∷ 0 ∷ 4 ∷ 0 ∷ 3 ∷ [])) (1 ∷ 3 ∷ 4 ∷ []) ∷
    -- the successor is above c, and not above d, where both carry a slab
    gives (plain (0 ∷ 0 ∷ 1 ∷ 2 ∷ []) (0 ∷ 1 ∷ 2 ∷ 3 ∷ [])) 3 (3 ∷ 0 ∷ 4 ∷ 0 ∷ 2 ∷ 1 ∷ 3 ∷ 2 ∷ 4 ∷ 3 ∷ []) ∷
    shows (plain (0 ∷ 0 ∷ 1 ∷ 2 ∷ []) (0 ∷ 1 ∷ 2 ∷ 3 ∷ [])) (3 ∷ 1 ∷ 1 ∷ []) ∷
    -- c or d is in the way, and not another slab that is beneath both: 5 beneath 4; 2 between 1 and 3
    shows (plain (2 ∷ 0 ∷ 4 ∷ 5 ∷ 0 ∷ []) (4 ∷ 0 ∷ 2 ∷ 5 ∷ 0 ∷ [])) (1 ∷ 4 ∷ 4 ∷ 3 ∷ 2 ∷ 2 ∷ []) ∷
    shows (plain (2 ∷ 3 ∷ 4 ∷ 0 ∷ 0 ∷ []) (2 ∷ 3 ∷ 5 ∷ 0 ∷ 0 ∷ [])) (1 ∷ 3 ∷ 5 ∷ []) ∷
    -- loops of three and of four, in the order of successors; the second is entered at 3, and begins with 2
    gives (plain (4 ∷ 5 ∷ 6 ∷ 0 ∷ 0 ∷ 0 ∷ []) (6 ∷ 4 ∷ 5 ∷ 0 ∷ 0 ∷ 0 ∷ [])) 3 (1 ∷ 0 ∷ 2 ∷ 4 ∷ 3 ∷ 5 ∷ 1 ∷ 6 ∷ []) ∷
    shows (plain (4 ∷ 5 ∷ 6 ∷ 0 ∷ 0 ∷ 0 ∷ []) (6 ∷ 4 ∷ 5 ∷ 0 ∷ 0 ∷ 0 ∷ [])) (1 ∷ 6 ∷ 6 ∷ 3 ∷ 5 ∷ 5 ∷ 2 ∷ 4 ∷ 4 ∷ []) ∷
    gives (plain (0 ∷ 6 ∷ 7 ∷ 8 ∷ 9 ∷ 0 ∷ 0 ∷ 0 ∷ 0 ∷ []) (7 ∷ 9 ∷ 8 ∷ 6 ∷ 1 ∷ 0 ∷ 0 ∷ 0 ∷ 0 ∷ [])) 3 (2 ∷ 0 ∷ 4 ∷ 6 ∷ 3 ∷ 8 ∷ 1 ∷ 7 ∷ 5 ∷ 1 ∷ 2 ∷ 9 ∷ []) ∷
    shows (plain (0 ∷ 6 ∷ 7 ∷ 8 ∷ 9 ∷ 0 ∷ 0 ∷ 0 ∷ 0 ∷ []) (7 ∷ 9 ∷ 8 ∷ 6 ∷ 1 ∷ 0 ∷ 0 ∷ 0 ∷ 0 ∷ [])) (2 ∷ 9 ∷ 9 ∷ 5 ∷ 7 ∷ 7 ∷ 3 ∷ 8 ∷ 8 ∷ 4 ∷ 6 ∷ 6 ∷ []) ∷
    []

-- Every misplaced slab is counted and no other, as the yard stands at the start.
abbrev pub counts : List Claim
counts =
    misplaces S2 2 ∷
    misplaces S3 3 ∷
    misplaces S4 2 ∷
    misplaces S5 4 ∷
    misplaces (plain (3 ∷ 1 ∷ 0 ∷ 5 ∷ 0 ∷ []) (3 ∷ 1 ∷ 4 ∷ 5 ∷ 0 ∷ [])) 3 ∷
    misplaces (plain (0 ∷ 1 ∷ 2 ∷ []) (0 ∷ 1 ∷ 2 ∷ [])) 0 ∷
    -- 5 rests on 4, as it shall, and the foot of its pile and the slabs beneath it are those of the goal, in another order
    misplaces (plain (0 ∷ 1 ∷ 2 ∷ 3 ∷ 4 ∷ []) (0 ∷ 3 ∷ 1 ∷ 2 ∷ 4 ∷ [])) 4 ∷
    -- 3, 4 and 5 rest where they shall, and 2 beneath them does not
    misplaces (plain (0 ∷ 1 ∷ 2 ∷ 3 ∷ 4 ∷ []) (0 ∷ 0 ∷ 2 ∷ 3 ∷ 4 ∷ [])) 4 ∷
    []

-- S2 needs as many lifts as slabs are misplaced; S6, which has a deadlock, one more.
abbrev pub fewest : List Claim
fewest =
    needs S2 2 ∷
    needs S6 3 ∷
    []

-- The number that document 02, Job 4, names for method 1, and what each method takes.
abbrev pub lifts : List Claim
lifts =
    -- the five piles of docs/WHY.md: five slabs are misplaced, and 5, 7 and 9 are off the ground both now and in the goal
    all_down five 8 ∷
    takes five 1 8 ∷
    takes five 2 6 ∷
    takes five 3 6 ∷
    -- counted once: slab 1 of S2, which is off the ground now alone, and slab 2, in the goal alone; not at all: in position
    all_down S2 2 ∷
    takes S2 1 2 ∷
    all_down (plain (0 ∷ 1 ∷ 2 ∷ []) (0 ∷ 1 ∷ 2 ∷ [])) 0 ∷
    -- "waits" of docs/WHY.md: method 2 takes more than method 3; "longer": method 3 takes more than method 2
    all_down waits 6 ∷
    takes waits 1 6 ∷
    takes waits 2 5 ∷
    takes waits 3 4 ∷
    all_down longer 8 ∷
    takes longer 1 8 ∷
    takes longer 2 6 ∷
    takes longer 3 7 ∷
    []

-- Each verdict of replay with its place, on S2 and S4.
abbrev pub verdicts : List Claim
verdicts =
    replays S2 (1 ∷ 0 ∷ 2 ∷ 1 ∷ []) 0 0 ∷
    -- 1: no such slab, or no such destination; asked before 2
    replays S2 (0 ∷ 1 ∷ []) 1 1 ∷
    replays S2 (1 ∷ 0 ∷ 3 ∷ 0 ∷ []) 1 2 ∷
    replays S2 (1 ∷ 0 ∷ 2 ∷ 3 ∷ []) 1 2 ∷
    replays S2 (2 ∷ 3 ∷ []) 1 1 ∷
    replays S2 (0 ∷ 0 ∷ []) 1 1 ∷
    replays S2 (3 ∷ 3 ∷ []) 1 1 ∷
    -- 2: a slab rests on it; asked before 3
    replays S2 (2 ∷ 0 ∷ []) 2 1 ∷
    replays S6 (2 ∷ 0 ∷ []) 2 1 ∷
    replays S6 (2 ∷ 3 ∷ []) 2 1 ∷
    -- and before 4
    replays S2 (2 ∷ 2 ∷ []) 2 1 ∷
    replays S4 (2 ∷ 4 ∷ []) 2 1 ∷
    -- 3: it rests there; asked before 4
    replays S2 (1 ∷ 2 ∷ []) 3 1 ∷
    replays S2 (1 ∷ 0 ∷ 1 ∷ 0 ∷ []) 3 2 ∷
    -- 4: onto itself, or onto a slab that carries one
    replays S2 (1 ∷ 1 ∷ []) 4 1 ∷
    replays S4 (1 ∷ 0 ∷ 1 ∷ 4 ∷ []) 4 2 ∷
    replays (grounds (2 ∷ 3 ∷ 0 ∷ 0 ∷ [])) (4 ∷ 2 ∷ []) 4 1 ∷
    -- the first bad lift is named, and not one behind it
    replays S4 (1 ∷ 0 ∷ 1 ∷ 4 ∷ 3 ∷ 2 ∷ []) 4 2 ∷
    replays S2 (2 ∷ 0 ∷ 1 ∷ 1 ∷ []) 2 1 ∷
    -- 5: the end differs from the goal. "Replay of no lifts on S2: verdict 5, place 1."
    replays S2 [] 5 1 ∷
    replays S2 (1 ∷ 0 ∷ []) 5 2 ∷
    -- by its support, and not by whether it is misplaced: 1 rests on 2, as it shall
    replays S6 [] 5 2 ∷
    -- whether it is on the ground, clear or lifted, and wherever it rests and goes
    replays (plain (0 ∷ 1 ∷ []) (2 ∷ 0 ∷ [])) [] 5 1 ∷
    replays (plain (4 ∷ 0 ∷ 0 ∷ 0 ∷ []) (3 ∷ 0 ∷ 0 ∷ 2 ∷ [])) [] 5 1 ∷
    replays (plain (0 ∷ 3 ∷ 1 ∷ 0 ∷ []) (3 ∷ 0 ∷ 0 ∷ 0 ∷ [])) (2 ∷ 0 ∷ 3 ∷ 0 ∷ 2 ∷ 3 ∷ []) 5 1 ∷
    replays (plain (2 ∷ 5 ∷ 0 ∷ 0 ∷ 0 ∷ []) (0 ∷ 0 ∷ 0 ∷ 1 ∷ 2 ∷ [])) (1 ∷ 0 ∷ 2 ∷ 0 ∷ 3 ∷ 1 ∷ 5 ∷ 2 ∷ []) 5 3 ∷
    replays (plain (5 ∷ 0 ∷ 4 ∷ 0 ∷ 3 ∷ 1 ∷ 0 ∷ []) (0 ∷ 0 ∷ 0 ∷ 2 ∷ 0 ∷ 1 ∷ 6 ∷ [])) (2 ∷ 7 ∷ 6 ∷ 2 ∷ 1 ∷ 0 ∷ []) 5 2 ∷
    -- at the end, and not on the way
    replays S2 (1 ∷ 0 ∷ 2 ∷ 1 ∷ 2 ∷ 0 ∷ []) 5 2 ∷
    -- "A list may be of any length"
    replays S2 (1 ∷ 0 ∷ 1 ∷ 2 ∷ 1 ∷ 0 ∷ 1 ∷ 2 ∷ 1 ∷ 0 ∷ 2 ∷ 1 ∷ []) 0 0 ∷
    []

-- Each refusal of the two lists with its place, and those of planning, the deadlock test and replay.
abbrev pub refusals : List Claim
refusals =
    -- 3: as many entries
    checks (plain (0 ∷ 0 ∷ []) (0 ∷ [])) 3 0 ∷
    checks (plain (2 ∷ 1 ∷ 5 ∷ []) (0 ∷ 0 ∷ [])) 3 0 ∷
    -- 4, 5 and 6 of the now list, whatever the goal list is
    checks (plain (8 ∷ 9 ∷ 7 ∷ 7 ∷ []) (0 ∷ 0 ∷ 0 ∷ 0 ∷ [])) 4 1 ∷
    checks (plain (2 ∷ 1 ∷ 5 ∷ []) (2 ∷ 1 ∷ 5 ∷ [])) 4 3 ∷
    checks (plain (0 ∷ 1 ∷ 1 ∷ 4 ∷ []) (0 ∷ 0 ∷ 0 ∷ 0 ∷ [])) 5 3 ∷
    checks (plain (0 ∷ 0 ∷ 1 ∷ 1 ∷ 1 ∷ []) (2 ∷ 1 ∷ 9 ∷ 0 ∷ 0 ∷ [])) 5 4 ∷
    checks (plain (0 ∷ 3 ∷ 2 ∷ []) (0 ∷ 1 ∷ 1 ∷ [])) 6 2 ∷
    -- the lowest slab, wherever it rests; 6 before 7
    checks (grounds (2 ∷ 2 ∷ 1 ∷ 1 ∷ 3 ∷ 3 ∷ [])) 5 2 ∷
    checks (plain (2 ∷ 3 ∷ 1 ∷ []) (4 ∷ 0 ∷ 0 ∷ [])) 6 1 ∷
    checks (grounds (6 ∷ 6 ∷ 1 ∷ 3 ∷ 5 ∷ 1 ∷ [])) 5 2 ∷
    checks (grounds (2 ∷ 4 ∷ 2 ∷ 4 ∷ [])) 5 3 ∷
    checks (grounds (2 ∷ 4 ∷ 3 ∷ 0 ∷ 3 ∷ 2 ∷ [])) 5 5 ∷
    checks (grounds (6 ∷ 1 ∷ 4 ∷ 6 ∷ 4 ∷ 0 ∷ [])) 5 4 ∷
    checks (grounds (4 ∷ 0 ∷ 0 ∷ [])) 4 1 ∷
    checks (grounds (5 ∷ 6 ∷ 1 ∷ [])) 4 1 ∷
    checks (grounds (3 ∷ 6 ∷ 5 ∷ [])) 4 2 ∷
    checks (grounds (2 ∷ 1 ∷ 3 ∷ [])) 6 1 ∷
    checks (grounds (1 ∷ 3 ∷ 2 ∷ [])) 6 1 ∷
    -- 7, 8 and 9: the same three of the goal list
    checks (plain (0 ∷ 0 ∷ 0 ∷ 0 ∷ []) (2 ∷ 1 ∷ 0 ∷ 7 ∷ [])) 7 4 ∷
    checks (plain (0 ∷ 0 ∷ 0 ∷ []) (2 ∷ 1 ∷ 5 ∷ [])) 7 3 ∷
    checks (plain (0 ∷ 0 ∷ 0 ∷ 0 ∷ []) (4 ∷ 4 ∷ 0 ∷ 4 ∷ [])) 8 2 ∷
    checks (plain (0 ∷ 0 ∷ 0 ∷ 0 ∷ []) (0 ∷ 1 ∷ 1 ∷ 4 ∷ [])) 8 3 ∷
    checks (plain (0 ∷ 0 ∷ 0 ∷ []) (0 ∷ 3 ∷ 2 ∷ [])) 9 2 ∷
    checks (plain (0 ∷ 0 ∷ 0 ∷ 0 ∷ []) (8 ∷ 9 ∷ 7 ∷ 7 ∷ [])) 7 1 ∷
    checks (plain (0 ∷ 0 ∷ 0 ∷ 0 ∷ 0 ∷ 0 ∷ []) (2 ∷ 2 ∷ 1 ∷ 1 ∷ 3 ∷ 3 ∷ [])) 8 2 ∷
    checks (plain (0 ∷ 0 ∷ 0 ∷ 0 ∷ 0 ∷ 0 ∷ []) (6 ∷ 3 ∷ 3 ∷ 2 ∷ 6 ∷ 0 ∷ [])) 8 3 ∷
    checks (plain (0 ∷ 0 ∷ 0 ∷ 0 ∷ 0 ∷ 0 ∷ []) (2 ∷ 0 ∷ 1 ∷ 2 ∷ 1 ∷ 0 ∷ [])) 8 4 ∷
    checks (plain (0 ∷ 0 ∷ 0 ∷ 0 ∷ 0 ∷ 0 ∷ []) (3 ∷ 5 ∷ 6 ∷ 3 ∷ 6 ∷ 0 ∷ [])) 8 4 ∷
    checks (plain (0 ∷ 0 ∷ 0 ∷ []) (2 ∷ 3 ∷ 1 ∷ [])) 9 1 ∷
    checks (plain (0 ∷ 0 ∷ 0 ∷ []) (4 ∷ 0 ∷ 0 ∷ [])) 7 1 ∷
    checks (plain (0 ∷ 0 ∷ 0 ∷ []) (5 ∷ 6 ∷ 1 ∷ [])) 7 1 ∷
    checks (plain (0 ∷ 0 ∷ 0 ∷ []) (3 ∷ 6 ∷ 5 ∷ [])) 7 2 ∷
    checks (plain (0 ∷ 0 ∷ 0 ∷ []) (2 ∷ 1 ∷ 3 ∷ [])) 9 1 ∷
    checks (plain (0 ∷ 0 ∷ 0 ∷ []) (1 ∷ 3 ∷ 2 ∷ [])) 9 1 ∷
    -- 1: the method, before all else
    refuses_plan S2 0 8 1 0 ∷
    refuses_plan (plain (2 ∷ 1 ∷ 5 ∷ []) []) 4 0 1 0 ∷
    -- a fault of the now list and of the goal list, asked by planning: counts 0, whatever the place is
    refuses_plan (plain (0 ∷ 1 ∷ 1 ∷ []) (0 ∷ 0 ∷ 0 ∷ [])) 2 12 5 3 ∷
    refuses_plan (plain (2 ∷ 0 ∷ 0 ∷ []) (2 ∷ 1 ∷ 5 ∷ [])) 3 12 7 3 ∷
    -- 10: one number too few
    refuses_plan S2 2 7 10 0 ∷
    refuses_deadlock S2 5 10 0 ∷
    refuses_deadlock S2 4 10 0 ∷
    -- 19, by the panel's entry: after 1, before 3, and not asked of few slabs
    refuses_panel (grounds (replicate 601 0)) 4 0 1 0 ∷
    refuses_panel (plain (replicate 601 9) []) 2 0 19 0 ∷
    refuses_panel S2 2 7 10 0 ∷
    -- 11: an odd number of entries
    refuses_replay S2 (1 ∷ []) 11 0 ∷
    refuses_replay S2 (1 ∷ 0 ∷ 2 ∷ []) 11 0 ∷
    []

-- Sheets with lengths (document 02, Job 3).
abbrev pub measured : List Claim
measured =
    -- "equal lengths may rest on each other and the ground takes any", whatever the lengths are
    checks (with (200 ∷ 200 ∷ []) (2 ∷ 0 ∷ []) (0 ∷ 1 ∷ [])) 0 0 ∷
    checks (with (65535 ∷ 0 ∷ 7 ∷ []) (0 ∷ 3 ∷ 1 ∷ []) (0 ∷ 1 ∷ 0 ∷ [])) 0 0 ∷
    -- no slabs have no lengths, which is a list of lengths
    checks (with [] [] []) 0 0 ∷
    checks (with (5 ∷ []) [] []) 16 0 ∷
    -- a list that is given is the lengths, be it empty; one that is not given is not looked at
    checks (measured_by (given true []) (2 ∷ 0 ∷ []) (0 ∷ 1 ∷ [])) 16 0 ∷
    checks (measured_by (given false (300 ∷ 200 ∷ [])) (2 ∷ 0 ∷ []) (0 ∷ 1 ∷ [])) 0 0 ∷
    -- 16: not n lengths, after 9 and before 17
    checks (with (200 ∷ []) (2 ∷ 0 ∷ []) (0 ∷ 1 ∷ [])) 16 0 ∷
    checks (with (300 ∷ 200 ∷ 100 ∷ []) (2 ∷ 0 ∷ []) (0 ∷ 1 ∷ [])) 16 0 ∷
    checks (with (200 ∷ []) (0 ∷ 0 ∷ []) (2 ∷ 1 ∷ [])) 9 1 ∷
    checks (with (65535 ∷ 0 ∷ []) (0 ∷ 0 ∷ 0 ∷ []) (0 ∷ 1 ∷ 1 ∷ [])) 8 3 ∷
    -- 17: the lowest slab that overhangs now, before 18
    checks (with (300 ∷ 200 ∷ []) (2 ∷ 0 ∷ []) (0 ∷ 1 ∷ [])) 17 1 ∷
    checks (with (100 ∷ 200 ∷ 100 ∷ 200 ∷ []) (0 ∷ 1 ∷ 0 ∷ 3 ∷ []) (2 ∷ 0 ∷ 4 ∷ 0 ∷ [])) 17 2 ∷
    checks (with (100 ∷ 200 ∷ 300 ∷ []) (0 ∷ 1 ∷ 2 ∷ []) (0 ∷ 1 ∷ 2 ∷ [])) 17 2 ∷
    -- by what it rests on, and not by what that rests on: 1 is as long as 2, and longer than 3
    checks (with (200 ∷ 200 ∷ 100 ∷ []) (2 ∷ 3 ∷ 0 ∷ []) (0 ∷ 0 ∷ 0 ∷ [])) 17 2 ∷
    checks (with (200 ∷ 100 ∷ 300 ∷ []) (2 ∷ 3 ∷ 0 ∷ []) (0 ∷ 0 ∷ 0 ∷ [])) 17 1 ∷
    checks (with (300 ∷ 200 ∷ 100 ∷ []) (2 ∷ 3 ∷ 0 ∷ []) (0 ∷ 0 ∷ 0 ∷ [])) 17 1 ∷
    checks (with (200 ∷ 200 ∷ 100 ∷ 100 ∷ []) (4 ∷ 3 ∷ 0 ∷ 0 ∷ []) (0 ∷ 0 ∷ 0 ∷ 0 ∷ [])) 17 1 ∷
    checks (with (300 ∷ 300 ∷ 100 ∷ 300 ∷ 400 ∷ []) (0 ∷ 3 ∷ 0 ∷ 5 ∷ 1 ∷ []) (0 ∷ 0 ∷ 0 ∷ 0 ∷ 0 ∷ [])) 17 2 ∷
    checks (with (100 ∷ 200 ∷ 200 ∷ 400 ∷ 300 ∷ 100 ∷ []) (5 ∷ 1 ∷ 6 ∷ 0 ∷ 0 ∷ 0 ∷ []) (0 ∷ 0 ∷ 0 ∷ 0 ∷ 0 ∷ 0 ∷ [])) 17 2 ∷
    -- a centimetre is enough, at any length
    checks (with (201 ∷ 200 ∷ []) (2 ∷ 0 ∷ []) (0 ∷ 1 ∷ [])) 17 1 ∷
    checks (with (1 ∷ 0 ∷ []) (2 ∷ 0 ∷ []) (0 ∷ 1 ∷ [])) 17 1 ∷
    checks (with (256 ∷ 255 ∷ []) (2 ∷ 0 ∷ []) (0 ∷ 1 ∷ [])) 17 1 ∷
    checks (with (32768 ∷ 32767 ∷ []) (2 ∷ 0 ∷ []) (0 ∷ 1 ∷ [])) 17 1 ∷
    checks (with (65535 ∷ 65534 ∷ []) (2 ∷ 0 ∷ []) (0 ∷ 1 ∷ [])) 17 1 ∷
    checks (with (200 ∷ 201 ∷ []) (2 ∷ 0 ∷ []) (0 ∷ 1 ∷ [])) 18 2 ∷
    -- 18: one in the goal
    checks (with (200 ∷ 300 ∷ []) (2 ∷ 0 ∷ []) (0 ∷ 1 ∷ [])) 18 2 ∷
    checks (with (200 ∷ 100 ∷ 200 ∷ 100 ∷ []) (0 ∷ 1 ∷ 0 ∷ 3 ∷ []) (0 ∷ 0 ∷ 2 ∷ 3 ∷ [])) 18 3 ∷
    checks (with (200 ∷ 100 ∷ 200 ∷ 100 ∷ []) (0 ∷ 1 ∷ 0 ∷ 3 ∷ []) (2 ∷ 0 ∷ 4 ∷ 0 ∷ [])) 18 1 ∷
    checks (with (200 ∷ 200 ∷ 100 ∷ []) (0 ∷ 0 ∷ 0 ∷ []) (2 ∷ 3 ∷ 0 ∷ [])) 18 2 ∷
    checks (with (200 ∷ 100 ∷ 300 ∷ []) (0 ∷ 0 ∷ 0 ∷ []) (2 ∷ 3 ∷ 0 ∷ [])) 18 1 ∷
    checks (with (300 ∷ 200 ∷ 100 ∷ []) (0 ∷ 0 ∷ 0 ∷ []) (2 ∷ 3 ∷ 0 ∷ [])) 18 1 ∷
    checks (with (200 ∷ 200 ∷ 100 ∷ 100 ∷ []) (0 ∷ 0 ∷ 0 ∷ 0 ∷ []) (4 ∷ 3 ∷ 0 ∷ 0 ∷ [])) 18 1 ∷
    checks (with (200 ∷ 400 ∷ 300 ∷ 100 ∷ []) (0 ∷ 0 ∷ 0 ∷ 0 ∷ []) (4 ∷ 1 ∷ 0 ∷ 0 ∷ [])) 18 1 ∷
    checks (with (100 ∷ 200 ∷ 200 ∷ 400 ∷ 300 ∷ 100 ∷ []) (0 ∷ 0 ∷ 0 ∷ 0 ∷ 0 ∷ 0 ∷ []) (5 ∷ 1 ∷ 6 ∷ 0 ∷ 0 ∷ 0 ∷ [])) 18 2 ∷
    -- of several faults the first question's, whichever they are: 4 to 9 with all behind them
    checks (with (5 ∷ []) (9 ∷ 1 ∷ 1 ∷ 4 ∷ []) (9 ∷ 1 ∷ 1 ∷ 4 ∷ [])) 4 1 ∷
    checks (with (1 ∷ 2 ∷ 3 ∷ 4 ∷ []) (9 ∷ 1 ∷ 1 ∷ 4 ∷ []) (9 ∷ 1 ∷ 1 ∷ 4 ∷ [])) 4 1 ∷
    checks (with (5 ∷ []) (0 ∷ 1 ∷ 1 ∷ 4 ∷ []) (9 ∷ 1 ∷ 1 ∷ 4 ∷ [])) 5 3 ∷
    checks (with (1 ∷ 2 ∷ 3 ∷ 4 ∷ []) (0 ∷ 1 ∷ 1 ∷ 4 ∷ []) (9 ∷ 1 ∷ 1 ∷ 4 ∷ [])) 5 3 ∷
    checks (with (5 ∷ []) (0 ∷ 1 ∷ 0 ∷ 4 ∷ []) (9 ∷ 1 ∷ 1 ∷ 4 ∷ [])) 6 4 ∷
    checks (with (1 ∷ 2 ∷ 3 ∷ 4 ∷ []) (0 ∷ 1 ∷ 0 ∷ 4 ∷ []) (9 ∷ 1 ∷ 1 ∷ 4 ∷ [])) 6 4 ∷
    checks (with (5 ∷ []) (0 ∷ 1 ∷ 0 ∷ 0 ∷ []) (9 ∷ 1 ∷ 1 ∷ 4 ∷ [])) 7 1 ∷
    checks (with (1 ∷ 2 ∷ 3 ∷ 4 ∷ []) (0 ∷ 1 ∷ 0 ∷ 0 ∷ []) (9 ∷ 1 ∷ 1 ∷ 4 ∷ [])) 7 1 ∷
    checks (with (5 ∷ []) (0 ∷ 1 ∷ 0 ∷ 0 ∷ []) (0 ∷ 1 ∷ 1 ∷ 4 ∷ [])) 8 3 ∷
    checks (with (1 ∷ 2 ∷ 3 ∷ 4 ∷ []) (0 ∷ 1 ∷ 0 ∷ 0 ∷ []) (0 ∷ 1 ∷ 1 ∷ 4 ∷ [])) 8 3 ∷
    checks (with (5 ∷ []) (0 ∷ 1 ∷ 0 ∷ 0 ∷ []) (0 ∷ 1 ∷ 0 ∷ 4 ∷ [])) 9 4 ∷
    checks (with (1 ∷ 2 ∷ 3 ∷ 4 ∷ []) (0 ∷ 1 ∷ 0 ∷ 0 ∷ []) (0 ∷ 1 ∷ 0 ∷ 4 ∷ [])) 9 4 ∷
    checks (with (1 ∷ 2 ∷ 3 ∷ []) (0 ∷ 1 ∷ 0 ∷ 0 ∷ []) (0 ∷ 1 ∷ 0 ∷ 0 ∷ [])) 16 0 ∷
    checks (with (1 ∷ 2 ∷ 3 ∷ 4 ∷ []) (0 ∷ 1 ∷ 0 ∷ 0 ∷ []) (0 ∷ 0 ∷ 0 ∷ 3 ∷ [])) 17 2 ∷
    -- S2 and S4 with lengths that are accepted: the lists without them
    gives (with (200 ∷ 200 ∷ []) (2 ∷ 0 ∷ []) (0 ∷ 1 ∷ [])) 2 (1 ∷ 0 ∷ 2 ∷ 1 ∷ []) ∷
    gives (with (100 ∷ 300 ∷ 100 ∷ 200 ∷ []) (2 ∷ 0 ∷ 4 ∷ 0 ∷ []) (4 ∷ 0 ∷ 2 ∷ 0 ∷ [])) 2 (1 ∷ 0 ∷ 3 ∷ 2 ∷ 1 ∷ 4 ∷ []) ∷
    shows (with (100 ∷ 300 ∷ 100 ∷ 200 ∷ []) (2 ∷ 0 ∷ 4 ∷ 0 ∷ []) (4 ∷ 0 ∷ 2 ∷ 0 ∷ [])) (1 ∷ 4 ∷ 4 ∷ 3 ∷ 2 ∷ 2 ∷ []) ∷
    -- verdict 6: onto a shorter slab; asked after 4
    replays (with (300 ∷ 200 ∷ 100 ∷ []) (0 ∷ 0 ∷ 2 ∷ []) (0 ∷ 1 ∷ 2 ∷ [])) (3 ∷ 0 ∷ 1 ∷ 2 ∷ []) 6 2 ∷
    replays (with (300 ∷ 200 ∷ 100 ∷ []) (0 ∷ 0 ∷ 2 ∷ []) (0 ∷ 1 ∷ 2 ∷ [])) (1 ∷ 2 ∷ []) 4 1 ∷
    replays (with (300 ∷ 200 ∷ 100 ∷ []) (0 ∷ 0 ∷ 2 ∷ []) (0 ∷ 1 ∷ 2 ∷ [])) (3 ∷ 0 ∷ 2 ∷ 1 ∷ 3 ∷ 2 ∷ []) 0 0 ∷
    replays (with (201 ∷ 200 ∷ []) (0 ∷ 0 ∷ []) (0 ∷ 1 ∷ [])) (1 ∷ 2 ∷ []) 6 1 ∷
    replays (with (300 ∷ 300 ∷ 200 ∷ 100 ∷ []) (0 ∷ 0 ∷ 0 ∷ 2 ∷ []) (0 ∷ 0 ∷ 0 ∷ 0 ∷ [])) (2 ∷ 3 ∷ []) 2 1 ∷
    -- equal lengths, and the ground
    replays (with (200 ∷ 200 ∷ []) (2 ∷ 0 ∷ []) (0 ∷ 1 ∷ [])) (1 ∷ 0 ∷ 2 ∷ 1 ∷ []) 0 0 ∷
    replays (with (200 ∷ 200 ∷ []) (2 ∷ 0 ∷ []) (0 ∷ 1 ∷ [])) (1 ∷ 0 ∷ []) 5 2 ∷
    -- 1 before, 10 and 11 behind 16 to 18
    refuses_plan (with (300 ∷ 200 ∷ []) (2 ∷ 0 ∷ []) (0 ∷ 1 ∷ [])) 4 7 1 0 ∷
    refuses_plan (with (200 ∷ []) (2 ∷ 0 ∷ []) (0 ∷ 1 ∷ [])) 2 8 16 0 ∷
    refuses_plan (with (300 ∷ 200 ∷ []) (2 ∷ 0 ∷ []) (0 ∷ 1 ∷ [])) 2 7 17 1 ∷
    refuses_plan (with (200 ∷ 300 ∷ []) (2 ∷ 0 ∷ []) (0 ∷ 1 ∷ [])) 2 7 18 2 ∷
    refuses_plan (with (200 ∷ 200 ∷ []) (2 ∷ 0 ∷ []) (0 ∷ 1 ∷ [])) 2 7 10 0 ∷
    refuses_deadlock (with (200 ∷ []) (2 ∷ 0 ∷ []) (0 ∷ 1 ∷ [])) 3 16 0 ∷
    refuses_deadlock (with (200 ∷ 300 ∷ []) (2 ∷ 0 ∷ []) (0 ∷ 1 ∷ [])) 3 18 2 ∷
    refuses_deadlock (with (200 ∷ 200 ∷ []) (2 ∷ 0 ∷ []) (0 ∷ 1 ∷ [])) 5 10 0 ∷
    refuses_replay (with (200 ∷ 300 ∷ []) (2 ∷ 0 ∷ []) (0 ∷ 1 ∷ [])) (1 ∷ []) 18 2 ∷
    refuses_replay (with (200 ∷ 200 ∷ []) (2 ∷ 0 ∷ []) (0 ∷ 1 ∷ [])) (1 ∷ []) 11 0 ∷
    []

-- The limits, over all lists of a length.
pub record Limits : Type 0 where
  -- document 01: "4,000 entries pass question 2, 4,001 do not."
  pub most_passes : (h : Sheet) → length h.initial ≡ 4000 → Problem h.initial h.goal → MeasuredIf h.lengths h.initial h.goal
      → check_answer h ≡ record { number = 0; place = 0 }
  pub more_refused : (h : Sheet) → length h.initial ≡ 4001 → check_answer h ≡ record { number = 2; place = 0 }
  -- "Space of 4 × n passes, 4 × n − 1 does not." Likewise 3 × n for the deadlock test (document 02, Job 6).
  pub room_passes : (m : Method) (h : Sheet) (space : List ℕ) → Accepted h → length space ≡ 4 * length h.initial
      → (plan_answer (office (number_of m)) h space).number ≡ 0
  pub room_refused : (m : Method) (h : Sheet) (space : List ℕ) → Accepted h → length space + 1 ≡ 4 * length h.initial
      → plan_answer (office (number_of m)) h space ≡ record { number = 10; place = 0; count = 0; misplaced = 0 }
  pub rows_pass : (h : Sheet) (space : List ℕ) → Accepted h → length space ≡ 3 * length h.initial → (deadlock_answer h space).number ≡ 0
  pub rows_refused : (h : Sheet) (space : List ℕ) → Accepted h → length space + 1 ≡ 3 * length h.initial
      → deadlock_answer h space ≡ record { number = 10; place = 0; count = 0 }
