-- What the functions promise. Assumes nothing.
use Rattle.std.specs.Prelude.{ℕ, ◌+◌, ◌*◌, ◌≤◌, ◌<◌, ◌≡◌, cond, Ok, Err, List, length, take}
use Rattle.blocks.specs.State.{most}
use Rattle.blocks.specs.Method.{method_of}
use Rattle.blocks.specs.Question.{is_method}
use Rattle.blocks.specs.Answer.{moves}
use Rattle.lists.specs.Lists.{overwrite, overwrite_at}
use Rattle.records.specs.Marks.{size}
use Rattle.records.specs.declared.Kind.TheVariants.{Pl, Lf}
use Rattle.refusals.specs.Refusals.{number_of}
use Rattle.refusals.specs.declared.Refusal.{Refusal}
use Rattle.refusals.specs.declared.Question.TheVariants.{Method, TooMany, Record}
use Rattle.planner.specs.Answers.{Answer}
use Rattle.planner.specs.declared.Planned.{Planned}
use Rattle.sheets.specs.declared.Unread.{Unread}
use Rattle.sheets.specs.declared.Unread.TheVariants.{Headless, Long, Broken}
use Rattle.responder.specs.Responses.{refusal_bytes, move_bytes, plan_bytes, response_to}
use Rattle.responder.specs.Told.{Tells}

-- The longest answer: PL and the LF records of two lifts for each slab.
abbrev pub longest : ℕ
longest = size Pl + 2 * most * size Lf

-- Some bytes stand at the front of the space, the rest is as it was, and their number is answered.
pub record Wrote (bytes space : List ℕ) (r : ℕ) (space' : List ℕ) : Type 0 where
  pub counted : r ≡ length bytes
  pub written : space' ≡ overwrite bytes space

-- Room for any answer.
pub record Roomy (out : List ℕ) : Type 0 where
  pub room : longest ≤ length out

-- The program: its answer in full, or nothing at all where there is no room for the longest one.
pub record Responds (bytes out : List ℕ) (r : ℕ) (out' : List ℕ) : Type 0 where
  pub answers : longest ≤ length out → Wrote (response_to bytes) out r out'
  -- demand 3 of the records that are read back, and the refusals in plain sentences
  pub tells : longest ≤ length out → Tells bytes (take r out')
  pub cramped : length out < longest → (r ≡ 0) × (out' ≡ out)
  -- the second part follows from the first: a caller that lends the front of `out` on needs no proof
  pub within : (r ≤ length out') × (r ≡ length (take r out'))

-- ---- a "no" by what was read

abbrev pub no_method : Refusal
no_method = record { question = Method; place = 0 }

abbrev pub too_many : Refusal
too_many = record { question = TooMany; place = 0 }

-- "Place: the records before it".
abbrev pub no_record : ℕ → Refusal
no_record p = record { question = Record; place = p }

-- A "no" behind question 1.
abbrev pub refused_as : ℕ → Refusal → Refusal
refused_as m r = cond (is_method (method_of m)) r no_method

-- To a sheet that is not whole.
abbrev pub refusal_of : Unread → Refusal
refusal_of Headless = no_record 0
refusal_of (Long m) = refused_as m too_many
refusal_of (Broken m p) = refused_as m (no_record p)

-- ---- the answer of planning as records

-- The records of each case: NO with number and place, or PL with the counts and the LF records of the pairs at the front of the space.
abbrev pub reply_of : Answer → List ℕ → List ℕ
reply_of (Ok p) pairs = plan_bytes p.count p.misplaced (moves (take (2 * p.count) pairs))
reply_of (Err r) pairs = refusal_bytes (number_of r.question) r.place

-- The counts of a plan are within the bounds, and its pairs are in the space.
pub record Writable (a : Answer) (pairs : List ℕ) : Type 0 where
  pub counts : (p : Planned) → a ≡ Ok p → (p.count ≤ 2 * most) × (p.misplaced ≤ most) × (2 * p.count ≤ length pairs)

-- The records of an answer are the definition's, and they can be written.
pub record Answered (bytes : List ℕ) (r : Answer) (space' : List ℕ) : Type 0 where
  pub same : reply_of r space' ≡ response_to bytes
  pub writable : Writable r space'

-- ---- the LF records

-- The pairs are there, and room for their records.
pub record MovesFit (count : ℕ) (pairs out : List ℕ) (start : ℕ) : Type 0 where
  pub there : 2 * count ≤ length pairs
  pub room : start + count * size Lf ≤ length out

-- The records of the first pairs stand at the place, all else is as it was, and the place after them is answered.
pub record PutMoves (count : ℕ) (pairs : List ℕ) (start : ℕ) (space : List ℕ) (next : ℕ) (space' : List ℕ) : Type 0 where
  pub after : next ≡ start + length (move_bytes (moves (take (2 * count) pairs)))
  pub written : space' ≡ overwrite_at start (move_bytes (moves (take (2 * count) pairs))) space
