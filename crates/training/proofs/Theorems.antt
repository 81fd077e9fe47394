-- The statements of specs/Numbering and specs/Promises. Assumes nothing.
use mathlib.Core.Path.{◌≡◌, refl, sym, ap, ◌∙◌, subst}
use mathlib.Core.Logic.{◌⊎◌, inl, inr, ◌≢◌, ◌↔◌}
use mathlib.Core.Bool.{false}
use mathlib.Core.List.{List, [], ◌∷◌, ◌++◌}
use Prim.Native.Nat.{ℕ, zero, suc, ◌-◌, ◌≤◌, ◌<◌}
use native.Mathlib.Omega.{arith}
use native.Mathlib.Nat.{mod-lt}
use lib.ListN.{length, take, drop}
use Rattle.lists.specs.Lists.{overwrite}
use Rattle.lists.proofs.ReflectLaws.{decided, reflects_not, eqb_reflects, leb_reflects, ltb_reflects}
use Rattle.lists.proofs.WriteLaws.{overwrite_front}
use Rattle.blocks.specs.State.{State, support}
use Rattle.blocks.specs.Position.{Proper}
use Rattle.blocks.specs.Sheet.{plain, Accepted}
use Rattle.blocks.specs.Question.{Question, Asked, all_yes, no', first_no, FirstNo, numbers, state_questions, asks_room}
use Rattle.blocks.specs.Answer.{checked, written}
use Rattle.blocks.specs.Loop.{memberᵇ}
use Rattle.blocks.proofs.QuestionLaws.{Decided, Decides, asks_decided, first_no_lem, other_number}
use Rattle.blocks.proofs.DecidedLaws.{room_decided, state_decides, state_yes}
use Rattle.counts.specs.Ways.{ways, held}
use Rattle.counts.proofs.WaysLaws.{ways_some}
use Rattle.generator.specs.Shifts.{next_seed}
use Rattle.generator.proofs.SeedLaws.{next_some}
use Rattle.training.specs.Arrangement.{arrangement}
use Rattle.training.specs.Numbering.{IsState, Before, Numbering}
use Rattle.training.specs.Training.{asks_few, asks_number, asks_seed, questions, train_questions, TrainRefused, train_answer, train_space}
use Rattle.training.specs.Training.{draw_questions, DrawRefused, drawn_number, drawn_state, draw_answer, draw_space, moved, draw_seed}
use Rattle.training.specs.Promises.{Promises}
use Rattle.training.proofs.StartLaws.{start, start_length, start_open}
use Rattle.training.proofs.NumberLaws.{arrangement_length, finish_proper, finish_every, finish_ordered}

-- ---- the numbers

pub state_iff : (s : State) → (first_no (state_questions 4 5 6 s) ≡ all_yes) ↔ Proper s
state_iff s =
    let asked = first_no_lem (state_questions 4 5 6 s) (state_decides 4 5 6 s) all_yes in
    let yes = state_yes 4 5 6 s in
    (λ e. yes.0 (asked.0 e), λ p. asked.1 (yes.1 p))

-- nothing comes before itself
before_other : (s t : State) → Before s t → s ≢ t
before_other s t w e = omega (arith, w.less, ap (λ u. support u w.first) e)

module _ (n : ℕ) where
  -- nothing is settled yet
  nothing : (s : State) (c : ℕ) → c ≤ length (start n) - n → support s c ≡ support (start n) c
  nothing s zero h = refl
  nothing s (suc i) h = absurd (omega (arith, start_length n))

  ordered : (r q : ℕ) → r < q → q < ways n 0 → Before (arrangement n r) (arrangement n q)
  unfolding arrangement
  ordered r q l h = finish_ordered n (start_open n) r q l h

  single : (r q : ℕ) → r < ways n 0 → q < ways n 0 → arrangement n r ≡ arrangement n q → r ≡ q
  single r q h k e = by (decided (ltb_reflects r q)) (decided (ltb_reflects q r))
    where
      by : (r < q) ⊎ (¬ (r < q)) → (q < r) ⊎ (¬ (q < r)) → r ≡ q
      by (inl l) _ = absurd (before_other (arrangement n r) (arrangement n q) (ordered r q l k) e)
      by (inr l) (inl m) = absurd (before_other (arrangement n q) (arrangement n r) (ordered q r m h) (sym e))
      by (inr l) (inr m) = omega (arith, l, m)

  pub numbering : Numbering n
  unfolding arrangement
  numbering = record {
    is_state = λ r h. record { sized = arrangement_length n r; accepted = (state_iff (arrangement n r)).1 (finish_proper n (start_open n) r h) };
    every = λ s w. finish_every n (start_open n) ((state_iff s).0 w.accepted) (record { same = w.sized ∙ sym (start_length n); settled = nothing s });
    ordered = ordered;
    single = single;
  }

-- ---- the questions, of either operation

module _ (n : ℕ) (given : Question) (space : List ℕ) where
  order : numbers (questions n given space) ≡ 14 ∷ given.number ∷ 10 ∷ []
  unfolding questions asks_few asks_room
  order = refl

  module _ (d : Decided given) where
    decides : Decides (questions n given space)
    unfolding questions asks_few
    decides = (asks_decided (leb_reflects n held), λ _. (d, λ _. (room_decided n space, λ _. tt)))

    refuses : (k p : ℕ) → (first_no (questions n given space) ≡ no' k p) ↔ FirstNo (questions n given space) k p
    refuses k p = first_no_lem (questions n given space) decides (no' k p)

    accepts : (first_no (questions n given space) ≡ all_yes) ↔ ((n ≤ held) × given.property × (n ≤ length space))
    unfolding questions asks_few asks_room
    accepts =
        let asked = first_no_lem (questions n given space) decides all_yes in
        (λ e. let y = asked.0 e in (y.0, y.1.0, y.1.1.0), λ w. asked.1 (w.0, (w.1, (w.2, tt))))

    -- an answer without a number is no refusal
    answered : memberᵇ 0 (14 ∷ given.number ∷ 10 ∷ []) ≡ false → (checked (first_no (questions n given space))).number ≡ 0 → first_no (questions n given space) ≡ all_yes
    answered other = by (first_no (questions n given space)) refl
      where
        by : (a : Asked) → first_no (questions n given space) ≡ a → (checked a).number ≡ 0 → a ≡ all_yes
        by all_yes e z = refl
        by (no' k p) e z = absurd (other_number (questions n given space) 0 (ap (memberᵇ 0) order ∙ other) k p ((refuses k p).0 e) z)

pub number_decided : (n r : ℕ) → Decided (asks_number n r)
unfolding asks_number
number_decided n r = asks_decided (ltb_reflects r (ways n 0))

pub seed_decided : (seed : ℕ) → Decided (asks_seed seed)
unfolding asks_seed
seed_decided seed = asks_decided (reflects_not (eqb_reflects seed 0))

-- ---- the two operations

module _ (n r : ℕ) (space : List ℕ) where
  train_order : numbers (train_questions n r space) ≡ 14 ∷ 15 ∷ 10 ∷ []
  unfolding asks_number
  train_order = order n (asks_number n r) space

  pub train_accepts : (first_no (train_questions n r space) ≡ all_yes) ↔ ((n ≤ held) × (r < ways n 0) × (n ≤ length space))
  unfolding asks_number
  train_accepts = accepts n (asks_number n r) space (number_decided n r)

  pub train_refuses : (k p : ℕ) → (first_no (train_questions n r space) ≡ no' k p) ↔ TrainRefused n r space k p
  train_refuses = refuses n (asks_number n r) space (number_decided n r)

  pub train_refusal : (k p : ℕ) → TrainRefused n r space k p → (train_answer n r space ≡ record { number = k; place = p }) × (train_space n r space ≡ space)
  unfolding train_answer train_space
  train_refusal k p w = let e = (train_refuses k p).1 w in (ap checked e, ap (λ a. written a (arrangement n r) space) e)

module _ (n seed : ℕ) (space : List ℕ) where
  draw_order : numbers (draw_questions n seed space) ≡ 14 ∷ 15 ∷ 10 ∷ []
  unfolding asks_seed
  draw_order = order n (asks_seed seed) space

  pub draw_accepts : (first_no (draw_questions n seed space) ≡ all_yes) ↔ ((n ≤ held) × (seed ≢ 0) × (n ≤ length space))
  unfolding asks_seed
  draw_accepts = accepts n (asks_seed seed) space (seed_decided seed)

  pub draw_refuses : (k p : ℕ) → (first_no (draw_questions n seed space) ≡ no' k p) ↔ DrawRefused n seed space k p
  draw_refuses = refuses n (asks_seed seed) space (seed_decided seed)

  pub draw_refusal : (k p : ℕ) → DrawRefused n seed space k p
      → (draw_answer n seed space ≡ record { number = k; place = p }) × (draw_space n seed space ≡ space) × (draw_seed n seed space ≡ seed)
  unfolding draw_answer draw_space draw_seed
  draw_refusal k p w =
      let e = (draw_refuses k p).1 w in
      (ap checked e, ap (λ a. written a (drawn_state n seed) space) e, ap (λ a. moved a seed) e)

-- ---- what is written

-- over the front of a space, and no further
front : (n r : ℕ) (space : List ℕ) → overwrite (arrangement n r) space ≡ arrangement n r ++ drop n space
front n r space = ap (λ k. arrangement n r ++ drop k space) (arrangement_length n r)

-- the front is then a state
pub front_state : (n r : ℕ) (space : List ℕ) → r < ways n 0 → IsState n (take n (overwrite (arrangement n r) space))
front_state n r space h =
    subst (IsState n) (sym (overwrite_front (arrangement n r) space) ∙ ap (λ k. take k (overwrite (arrangement n r) space)) (arrangement_length n r)) ((numbering n).is_state r h)

pub drawn_below : (n seed : ℕ) → drawn_number n seed < ways n 0
unfolding drawn_number
drawn_below n seed = mod-lt (next_seed seed) (ways_some n 0)

train_answers : (n r : ℕ) (space : List ℕ) → n ≤ held → r < ways n 0 → n ≤ length space
    → (train_answer n r space ≡ record { number = 0; place = 0 }) × (train_space n r space ≡ arrangement n r ++ drop n space)
unfolding train_answer train_space
train_answers n r space h k l =
    let e = (train_accepts n r space).1 (h, k, l) in
    (ap checked e, ap (λ a. written a (arrangement n r) space) e ∙ front n r space)

draw_answers : (n seed : ℕ) (space : List ℕ) → n ≤ held → seed ≢ 0 → n ≤ length space
    → (draw_answer n seed space ≡ record { number = 0; place = 0 }) × (draw_space n seed space ≡ drawn_state n seed ++ drop n space)
    × (draw_seed n seed space ≡ next_seed seed)
unfolding draw_answer draw_space draw_seed
draw_answers n seed space h k l =
    let e = (draw_accepts n seed space).1 (h, k, l) in
    (ap checked e, ap (λ a. written a (drawn_state n seed) space) e ∙ front n (drawn_number n seed) space, ap (λ a. moved a seed) e)

train_writes : (n r : ℕ) (space : List ℕ) → (train_answer n r space).number ≡ 0 → IsState n (take n (train_space n r space))
unfolding train_answer train_space asks_number
train_writes n r space z =
    let e = answered n (asks_number n r) space (number_decided n r) refl z in
    subst (λ a. IsState n (take n (written a (arrangement n r) space))) (sym e) (front_state n r space ((train_accepts n r space).0 e).1)

draw_writes : (n seed : ℕ) (space : List ℕ) → (draw_answer n seed space).number ≡ 0 → IsState n (take n (draw_space n seed space)) × (draw_seed n seed space ≢ 0)
unfolding draw_answer draw_space draw_seed asks_seed
draw_writes n seed space z =
    let e = answered n (asks_seed seed) space (seed_decided seed) refl z in (
      subst (λ a. IsState n (take n (written a (drawn_state n seed) space))) (sym e) (front_state n (drawn_number n seed) space (drawn_below n seed)),
      subst (λ a. moved a seed ≢ 0) (sym e) (next_some seed ((draw_accepts n seed space).0 e).1),
    )

-- ---- the record

sheet : (n : ℕ) (s g : State) → n ≤ held → IsState n s → IsState n g → Accepted (plain s g)
sheet n s g h v w = record {
  small = omega (arith, v.sized);
  problem = record { initial = (state_iff s).0 v.accepted; goal = (state_iff g).0 w.accepted; same = w.sized ∙ sym v.sized };
  measured = tt;
}

pub promises : Promises
promises = record {
  numbering = numbering;
  train_order = train_order;
  draw_order = draw_order;
  train_accepts = train_accepts;
  draw_accepts = draw_accepts;
  train_refuses = train_refuses;
  draw_refuses = draw_refuses;
  train_refusal = train_refusal;
  draw_refusal = draw_refusal;
  train_answers = train_answers;
  draw_answers = draw_answers;
  train_writes = train_writes;
  draw_writes = draw_writes;
  sheet = sheet;
}
