-- Following a list of pairs: what the loop knows after k moves, and what each of its ways out answers. Assumes nothing.
use Rattle.std.specs.Prelude.{Some, None, Ok, Err}
use Prim.Native.Nat.{ℕ, zero, suc, ◌+◌, ◌*◌, ◌/◌, ◌≤◌, ◌<◌}
use mathlib.Core.Path.{◌≡◌, refl, sym, ap, ap₂, ◌∙◌}
use mathlib.Core.Logic.{◌≢◌}
use mathlib.Core.List.{List, ◌∷◌}
use mathlib.Core.Option.{none, some}
use native.Mathlib.Omega.{arith}
use native.Mathlib.Numerals.{add-one}
use lib.ListN.{length, get_or, drop, drop_of_length-le}
use lib.Seq.{drop-cons}
use Rattle.blocks.specs.State.{State, put}
use Rattle.blocks.specs.Move.{◌⟶◌, Legal}
use Rattle.blocks.specs.Question.{first_no}
use Rattle.blocks.specs.Length.{Lengths, Counted}
use Rattle.blocks.specs.Sheet.{Sheet}
use Rattle.blocks.specs.Replay.{lift_questions}
use Rattle.blocks.specs.Answer.{ReplayAnswer, moves, first_difference, arrival, or_bad, replay_from}
use Rattle.blocks.proofs.StateLaws.{length-put}
use Rattle.blocks.proofs.FrameLaws.{proper_moved}
use Rattle.blocks.proofs.ReplayLaws.{lift_yes}
use Rattle.problem.specs.Known.{Movable, MovedTo}
use Rattle.lists.specs.Search.{nonzero}
use Rattle.lists.proofs.NonzeroLaws.{none_zero, some_is, some_nonzero}
use Rattle.validator.specs.Replayed.{verdict_of, answer_of, fault_of, Followable, Follows}
use Rattle.validator.specs.declared.Fault.{Fault}
use Rattle.validator.specs.declared.Verdict.TheVariants.{Arrives as arrived, Bad, Elsewhere}

pub record Following (h : Sheet) (list : List ℕ) (n k : ℕ) (cur l : List ℕ) : Type 0 where
  pub known : Followable h cur list l
  pub all : n ≡ length list / 2
  pub within : k ≤ n
  -- what is left to do gives what the whole gives
  pub answer : replay_from h (suc k) cur (moves (drop (2 * k) list)) ≡ replay_from h 1 h.initial (moves list)

pub begin : {h : Sheet} {list l : List ℕ} {n : ℕ} → Followable h h.initial list l → n ≡ length list / 2 → Following h list n 0 h.initial l
begin w e = record { known = w; all = e; within = omega arith; answer = refl }

-- a move leaves as many blocks
recounted : (ls : Lengths) (s t : State) → length t ≡ length s → Counted ls s → Counted ls t
recounted none s t e c = tt
recounted (some l) s t e c = c ∙ sym e

module _ {sheet : Sheet} {list cur l : List ℕ} {n k : ℕ} (w : Following sheet list n k cur l) where
  -- both numbers of the next pair are there
  pub pair_within : k < n → 2 * k + 1 < length list
  pair_within h = omega (arith, w.all, w.known.even)

  pub first_within : k < n → 2 * k < length list
  first_within h = omega (arith, pair_within h)

  module _ {a x : ℕ} (h : k < n) (ea : a ≡ get_or list (2 * k) 0) (ex : x ≡ get_or list (2 * k + 1) 0) where
    -- what the moves after this one give
    abbrev onward : ReplayAnswer
    onward = replay_from sheet (suc (suc k)) (put cur a x) (moves (drop (2 * (k + 1)) list))

    -- the next pair and the rest
    next_pair : moves (drop (2 * k) list) ≡ (a ⟶ x) ∷ moves (drop (2 * (k + 1)) list)
    next_pair =
        let one : 2 * k + 1 ≡ suc (2 * k) = omega arith in
        let two : 2 * (k + 1) ≡ suc (suc (2 * k)) = omega arith in
        rw (ea, ex, one, two, drop-cons list (2 * k) 0 (first_within h), drop-cons list (suc (2 * k)) 0 (omega (arith, pair_within h)))

    unrolled : or_bad (first_no (lift_questions sheet.lengths cur a x)) (suc k) onward ≡ replay_from sheet 1 sheet.initial (moves list)
    unfolding replay_from
    unrolled = sym (ap (replay_from sheet (suc k) cur) next_pair) ∙ w.answer

    -- a bad move ends with its verdict and its place
    pub bad_way : {f : Fault} → fault_of (Err f) ≡ first_no (lift_questions sheet.lengths cur a x) → Follows sheet list (Bad f (k + 1))
    bad_way {f} e =
        record {
          answer = ap (λ p. record { number = 0; verdict = verdict_of f; place = p }) (add-one k) ∙ ap (λ q. or_bad q (suc k) onward) e ∙ unrolled;
        }

    module _ (f : fault_of (Ok tt) ≡ first_no (lift_questions sheet.lengths cur a x)) where
      legal : Legal cur a x
      legal = ((lift_yes sheet.lengths cur a x).0 (sym f)).0

      pub movable : Movable cur l a x
      movable =
          record { small = w.known.small; proper = w.known.proper; legal = legal; loads = w.known.loads }

      -- one move further
      pub next : {cur' l' : List ℕ} → MovedTo cur a x cur' l' → Following sheet list n (k + 1) cur' l'
      next {cur'} m =
          let long : length cur' ≡ length cur = ap length m.state ∙ length-put cur a x in
          record {
            known =
                record {
                  small = omega (arith, long, w.known.small);
                  proper = rw m.state (proper_moved legal w.known.proper);
                  same = w.known.same ∙ sym long;
                  counted = recounted sheet.lengths cur cur' long w.known.counted;
                  even = w.known.even;
                  loads = m.loads;
                };
            all = w.all;
            within = omega arith;
            answer =
                ap₂ (λ j t. replay_from sheet (suc j) t (moves (drop (2 * (k + 1)) list))) (add-one k) m.state
                ∙ ap (λ q. or_bad q (suc k) onward) f
                ∙ unrolled;
          }

  -- at the end the state is compared with the goal
  ended : n ≤ k → arrival (first_difference cur sheet.goal) ≡ replay_from sheet 1 sheet.initial (moves list)
  unfolding replay_from
  ended h =
      let over : length list ≤ 2 * k = omega (arith, w.all, w.known.even) in
      sym (ap (λ r. replay_from sheet (suc k) cur (moves r)) (drop_of_length-le list over)) ∙ w.answer

  pub differs_way : {p : ℕ} → n ≤ k → Some p ≡ nonzero (first_difference cur sheet.goal) → Follows sheet list (Elsewhere p)
  differs_way {p} h e =
      record { answer = by p (some_nonzero (first_difference cur sheet.goal) (sym e)) ∙ ap arrival (sym (some_is (first_difference cur sheet.goal) (sym e))) ∙ ended h }
    where
      by : (q : ℕ) → q ≢ 0 → answer_of (Ok (Elsewhere q)) ≡ arrival q
      by zero z = absurd (z refl)
      by (suc q) z = refl

  pub arrives_way : n ≤ k → None ≡ nonzero (first_difference cur sheet.goal) → Follows sheet list arrived
  arrives_way h e = record { answer = ap arrival (sym (none_zero (first_difference cur sheet.goal) (sym e))) ∙ ended h }
