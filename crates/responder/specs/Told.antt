-- What an answer tells, read back from its bytes: demand 3 of the records that the program writes. Statements alone; `proofs/ToldLaws.antt` proves them.
-- Assumes nothing.
use Rattle.std.specs.Prelude.{ℕ, zero, suc, ◌+◌, ◌*◌, ◌≡◌, ◌⊎◌, ◌↔◌, Bool, Option, Some, None, List, [], ◌∷◌, length}
use Rattle.blocks.specs.Move.{◌⟶◌, Plan}
use Rattle.blocks.specs.Method.{Method, plan, outcome, number_of}
use Rattle.blocks.specs.Steps.{By}
use Rattle.blocks.specs.Sheet.{goal_state, Arrives}
use Rattle.blocks.specs.Demands.{HeadCount, Promise}
use Rattle.records.specs.Marks.{size}
use Rattle.records.specs.Records.{found, record_at}
use Rattle.records.specs.RoundTrip.{Bytes}
use Rattle.records.specs.declared.Kind.TheVariants.{Pl, Lf}
use Rattle.records.specs.declared.Fields.{Fields}
use Rattle.sheets.specs.Sheets.{nows}
use Rattle.responder.specs.Responses.{sheet_in, refusal_bytes, response_to}
use Rattle.responder.specs.Refusals.{Complete, ProgramRefused}

-- ---- lifts read back

-- LF, slab and destination: the lift that was found, and then the rest; nothing where nothing was found.
abbrev pub and_lift : Option Fields → Plan → Plan
and_lift (Some f) rest = (f.first ⟶ f.second) ∷ rest
and_lift None rest = []

-- The LF records that stand one after another from a place on, at most c, up to the first place without one.
unfoldable pub lifts_at : List ℕ → ℕ → ℕ → Plan
lifts_at bytes at zero = []
lifts_at bytes at (suc c) = and_lift (record_at Lf bytes at) (lifts_at bytes (at + size Lf) c)

-- ---- what an answer tells of an input

-- Of PL with c lifts and d misplaced: behind it stand c LF records and nothing more. They are the list that the method of the head, by its words too, gives
-- for the sheet of the NW and GL records, and it keeps demand 3 under the lengths of the LN records. So many slabs of the sheet are misplaced, and what that
-- promises holds too.
pub record TellsPlan (bytes answer : List ℕ) (c d : ℕ) : Type 0 where
  pub measured : Bool
  pub n : ℕ
  pub method : Method
  pub sheet : Complete bytes measured n (number_of method)
  pub lifts : length (lifts_at answer (size Pl) c) ≡ c
  pub end : length answer ≡ size Pl + c * size Lf
  pub head_count : HeadCount (Arrives (sheet_in measured n bytes)) (nows bytes 0 n) (goal_state (sheet_in measured n bytes)) d
  pub given : outcome method (nows bytes 0 n) (goal_state (sheet_in measured n bytes)) ≡ plan (lifts_at answer (size Pl) c)
  pub told : By method (nows bytes 0 n) (goal_state (sheet_in measured n bytes)) (lifts_at answer (size Pl) c)
  pub promise : Promise (Arrives (sheet_in measured n bytes)) method (nows bytes 0 n) (goal_state (sheet_in measured n bytes)) (lifts_at answer (size Pl) c)

-- Of an answer of any kind.
pub record Tells (bytes answer : List ℕ) : Type 0 where
  -- "It writes PL and the LF records, or one NO."
  pub either : ((c : ℕ) × (d : ℕ) × (record_at Pl answer 0 ≡ found c d)) ⊎ ((k : ℕ) × (p : ℕ) × (answer ≡ refusal_bytes k p))
  -- PL exactly where every question gets a yes, and then demand 3 is kept;
  pub planned : ((measured : Bool) × (n : ℕ) × (m : ℕ) × Complete bytes measured n m) ↔ ((c : ℕ) × (d : ℕ) × (record_at Pl answer 0 ≡ found c d))
  pub promised : (c d : ℕ) → record_at Pl answer 0 ≡ found c d → TellsPlan bytes answer c d
  -- NO exactly with the number and place of the first "no".
  pub refused : (k p : ℕ) → ProgramRefused bytes k p ↔ (answer ≡ refusal_bytes k p)
  -- No field is too large for its two bytes.
  pub small : Bytes answer

-- ---- the theorem: the answer to every input tells this

abbrev pub Told : Type 0
Told = (bytes : List ℕ) → Tells bytes (response_to bytes)
