-- How much of the input decides the answer, and how long an answer can be. Statements alone; `proofs/InputBound.antt`,
-- `proofs/Needed.antt` and `proofs/AnswerBound.antt` prove them. Assumes nothing.
use Rattle.std.specs.Prelude.{ℕ, ◌+◌, ◌-◌, ◌*◌, ◌≤◌, ◌≡◌, ◌⊎◌, ◌≢◌, Bool, None, List, ◌++◌, length, take}
use Rattle.blocks.specs.State.{most}
use Rattle.records.specs.Marks.{size}
use Rattle.records.specs.RoundTrip.{Bytes}
use Rattle.records.specs.declared.Kind.TheVariants.{Hd, Nw}
use Rattle.sheets.specs.Sheets.{there, head_at, length_count, nows_at, end_at}
use Rattle.responder.specs.Responses.{response_to}
use Rattle.responder.specs.Wanted.{wanted}
use Rattle.responder.specs.Answers.{longest}

-- Where no more bytes are wanted, none that come change the answer.
abbrev pub Decides : Type 0
Decides = (bytes more : List ℕ) → wanted bytes ≡ 0 → response_to (bytes ++ more) ≡ response_to bytes

-- A record ends at a place: none stands before it, or the head and i others.
abbrev pub RecordEnds : ℕ → Type 0
RecordEnds at = (at ≡ 0) ⊎ ((i : ℕ) × (at ≡ nows_at 0 + i * size Nw))

-- Some bytes that follow change the answer.
pub record Undecided (bytes : List ℕ) : Type 0 where
  pub more : List ℕ
  pub small : Bytes more
  pub other : response_to (bytes ++ more) ≢ response_to bytes

-- Where a record ends, more bytes are wanted only while the answer is not decided.
abbrev pub Needed : Type 0
Needed = (bytes : List ℕ) → RecordEnds (length bytes) → wanted bytes ≢ 0 → Undecided bytes

-- No more are wanted than the rest of the head, and behind a head than the rest of its sheet and a byte.
pub record WantsWithin (bytes : List ℕ) : Type 0 where
  pub head : head_at bytes 0 ≡ None → wanted bytes ≤ size Hd - length bytes
  pub sheet : (measured : Bool) (n m : ℕ) → head_at bytes 0 ≡ there measured n m → wanted bytes ≤ end_at 0 n (length_count measured n) + 1 - length bytes

abbrev pub WantedWithin : Type 0
WantedWithin = (bytes : List ℕ) → WantsWithin bytes

-- A byte more than the longest input without a tail.
abbrev pub enough : ℕ
enough = end_at 0 most most + 1

-- Never more are wanted than fill 48,007 bytes.
abbrev pub WantedBounded : Type 0
WantedBounded = (bytes : List ℕ) → length bytes ≤ enough → length bytes + wanted bytes ≤ enough

-- The answer to an input is the answer to its first 48,007 bytes.
abbrev pub Enough : Type 0
Enough = (bytes : List ℕ) → response_to (take enough bytes) ≡ response_to bytes

-- Every answer has at most 48,006 bytes.
abbrev pub Fits : Type 0
Fits = (bytes : List ℕ) → length (response_to bytes) ≤ longest
