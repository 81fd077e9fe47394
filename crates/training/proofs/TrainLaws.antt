-- The ways out of the two operations. Assumes nothing.
use Rattle.std.proofs.Common.{Ok, Err}
use mathlib.Core.Path.{◌≡◌, refl, sym, ap, ◌∙◌, subst}
use mathlib.Core.Logic.{inl, inr, ◌≢◌}
use mathlib.Core.List.{List}
use Prim.Native.Nat.{ℕ, ◌%◌, ◌≤◌, ◌<◌}
use native.Mathlib.Omega.{arith}
use lib.ListN.{length, take}
use Rattle.lists.specs.Lists.{overwrite}
use Rattle.blocks.specs.Question.{all_yes, first_no, asks_room}
use Rattle.blocks.specs.Answer.{checked, written}
use Rattle.refusals.specs.declared.Question.{Question}
use Rattle.refusals.specs.declared.Question.TheVariants.{TrainingSize, TrainingNumber, Space}
use Rattle.refusals.specs.declared.Refusal.{Refusal}
use Rattle.refusals.specs.Refusals.{number_of}
use Rattle.counts.specs.Ways.{ways, held}
use Rattle.counts.proofs.WaysLaws.{ways_some}
use Rattle.generator.specs.Shifts.{next_seed}
use Rattle.generator.specs.declared.Generator.{Generator}
use Rattle.generator.proofs.SeedLaws.{next_some}
use Rattle.training.specs.Arrangement.{arrangement}
use Rattle.training.specs.Numbering.{IsState}
use Rattle.training.specs.Training.{asks_few, asks_number, asks_seed, questions, train_questions, TrainRefused, train_answer, train_space}
use Rattle.training.specs.Training.{draw_questions, DrawRefused, drawn_number, drawn_state, draw_answer, draw_space, moved, draw_seed}
use Rattle.training.specs.Placing.{Numbered}
use Rattle.training.specs.Answers.{Trains, Draws}
use Rattle.training.specs.declared.Drawn.{Drawn}
use Rattle.training.proofs.Theorems.{front_state, drawn_below, train_accepts, train_refuses, train_refusal, draw_accepts, draw_refuses, draw_refusal}

-- a refusal that names no place
abbrev no : Question → Refusal
no q = record { question = q; place = 0 }

-- ---- a given number

module _ (n r : ℕ) (space : List ℕ) where
  refused : (q : Question) → TrainRefused n r space (number_of q) 0 → {e : Refusal} → e ≡ no q → Trains n r space (Err e) space
  refused q w f =
      let u = train_refusal n r space (number_of q) 0 w in
      rw f (record { asked = sym ((train_refuses n r space (number_of q) 0).1 w); answer = sym u.0; lent = sym u.1; state = tt })

  pub too_many : held < n → {e : Refusal} → e ≡ no TrainingSize → Trains n r space (Err e) space
  unfolding questions asks_few
  too_many h = refused TrainingSize (inl (refl, (refl, λ l. omega arith)))

  module _ {c : ℕ} (h : n ≤ held) (e : c ≡ ways n 0) where
    pub too_high : c ≤ r → {f : Refusal} → f ≡ no TrainingNumber → Trains n r space (Err f) space
    unfolding questions asks_few asks_number
    too_high k = refused TrainingNumber (inr (h, inl (refl, (refl, λ l. omega arith))))

    pub too_short : r < c → length space < n → {f : Refusal} → f ≡ no Space → Trains n r space (Err f) space
    unfolding questions asks_few asks_number asks_room
    too_short k l = refused Space (inr (h, inr (omega arith, inl (refl, (refl, λ m. omega arith)))))

    pub trained : {space' : List ℕ} → r < c → n ≤ length space → space' ≡ overwrite (arrangement n r) space → Trains n r space (Ok tt) space'
    unfolding train_answer train_space
    trained k l f =
        let below : r < ways n 0 = omega arith in
        let yes : first_no (train_questions n r space) ≡ all_yes = (train_accepts n r space).1 (h, below, l) in
        record {
          asked = sym yes;
          answer = ap checked (sym yes);
          lent = f ∙ ap (λ a. written a (arrangement n r) space) (sym yes);
          state = subst (λ t. IsState n (take n t)) (sym f) (front_state n r space below);
        }

-- ---- a drawn number

pub some_count : (n : ℕ) {c : ℕ} → c ≡ ways n 0 → 0 < c
some_count n e = omega (arith, ways_some n 0)

module _ (n : ℕ) (g : Generator) (space : List ℕ) where
  kept : (q : Question) {d : Drawn} → d ≡ record { answer = Err (no q); generator = g } → DrawRefused n g.seed space (number_of q) 0 → Draws n g.seed space d space
  kept q e w =
      let u = draw_refusal n g.seed space (number_of q) 0 w in
      rw e (record {
        asked = sym ((draw_refuses n g.seed space (number_of q) 0).1 w);
        answer = sym u.0;
        lent = sym u.1;
        advanced = sym u.2;
        state = tt;
        lasts = tt;
      })

  pub drawn_too_many : {d : Drawn} → d ≡ record { answer = Err (no TrainingSize); generator = g } → held < n → Draws n g.seed space d space
  unfolding questions asks_few
  drawn_too_many e h = kept TrainingSize e (inl (refl, (refl, λ l. omega arith)))

  module _ (h : n ≤ held) where
    pub drawn_from_zero : {d : Drawn} → d ≡ record { answer = Err (no TrainingNumber); generator = g } → g.seed ≡ 0 → Draws n g.seed space d space
    unfolding questions asks_few asks_seed
    drawn_from_zero e z = kept TrainingNumber e (inr (h, inl (refl, (refl, λ m. m z))))

    module _ (m : ¬ (g.seed ≡ 0)) where
      pub drawn_too_short : {d : Drawn} → d ≡ record { answer = Err (no Space); generator = g } → length space < n → Draws n g.seed space d space
      unfolding questions asks_few asks_seed asks_room
      drawn_too_short e l = kept Space e (inr (h, inr (m, inl (refl, (refl, λ k. omega arith)))))

      module _ (l : n ≤ length space) {c : ℕ} {next : Generator} (e : c ≡ ways n 0) (f : next.seed ≡ next_seed g.seed) where
        same : next.seed % c ≡ drawn_number n g.seed
        unfolding drawn_number
        same = ap (λ x. x % c) f ∙ ap (λ x. next_seed g.seed % x) e

        pub drawn_numbered : Numbered n (next.seed % c) space
        drawn_numbered = record { small = h; number = subst (λ x. x < ways n 0) (sym same) (drawn_below n g.seed); room = l }

        pub drawn : {space' : List ℕ} → space' ≡ overwrite (arrangement n (next.seed % c)) space
            → Draws n g.seed space (record { answer = Ok tt; generator = next }) space'
        unfolding draw_answer draw_space draw_seed
        drawn is =
            let yes : first_no (draw_questions n g.seed space) ≡ all_yes = (draw_accepts n g.seed space).1 (h, m, l) in
            let whole = is ∙ ap (λ x. overwrite (arrangement n x) space) same in
            record {
              asked = sym yes;
              answer = ap checked (sym yes);
              lent = whole ∙ ap (λ a. written a (drawn_state n g.seed) space) (sym yes);
              advanced = f ∙ ap (λ a. moved a g.seed) (sym yes);
              state = subst (λ t. IsState n (take n t)) (sym whole) (front_state n (drawn_number n g.seed) space (drawn_below n g.seed));
              lasts = subst (λ x. x ≢ 0) (sym f) (next_some g.seed m);
            }
