-- Replay whole: what each way out of `validate` answers, and what an accepted sheet lends to the moves. Assumes nothing.
use Rattle.std.specs.Prelude.{Ok, Err}
use Prim.Native.Nat.{ℕ, ◌%◌}
use mathlib.Core.Path.{◌≡◌, refl, sym, ap, ◌∙◌}
use mathlib.Core.Logic.{inl, ◌≢◌}
use mathlib.Core.List.{List, ◌∷◌, []}
use mathlib.Core.Option.{none, some}
use native.Mathlib.Omega.{arith}
use lib.ListN.{length}
use Rattle.rows.specs.Rows.{Yard, loads_of}
use Rattle.blocks.specs.State.{State}
use Rattle.blocks.specs.Question.{all_yes, first_no, asks_even}
use Rattle.blocks.specs.Length.{Lengths, MeasuredIf, Counted}
use Rattle.blocks.specs.Sheet.{Sheet, measured_by, Arrives, sheet_questions, replay_questions}
use Rattle.blocks.specs.Replay as replay
use Rattle.blocks.specs.Answer.{moves, replayed, replay_from, replay_answer}
use Rattle.blocks.specs.SheetDemands.{Replayable}
use Rattle.blocks.proofs.QuestionLaws.{first_no_front}
use Rattle.blocks.proofs.SheetLaws.{behind_late, replay_refuses, replay_accepts, replay_answers, replay_zero}
use Rattle.refusals.specs.Refusals as refusals
use Rattle.refusals.specs.Refusals.{no_of, asked_of}
use Rattle.refusals.specs.declared.Refusal.{Refusal}
use Rattle.refusals.specs.declared.Question.TheVariants.{Odd}
use Rattle.lengths.specs.Checks.{Examines}
use Rattle.lengths.proofs.ExamineLaws.{accepted}
use Rattle.validator.specs.Replayed.{Answer, verdict_of, number_of, answer_of, Replays, Followable, Follows}
use Rattle.validator.specs.declared.Fault.{Fault}
use Rattle.validator.specs.declared.Fault.TheVariants.{Unknown, Covered, Idle, Taken, TooLong}
use Rattle.validator.specs.declared.Verdict.{Verdict}
use Rattle.validator.specs.declared.Verdict.TheVariants.{Arrives as arrived, Bad, Elsewhere}

-- an answer by its case and its numbers
replays : {h : Sheet} {list : List ℕ} {r : Answer} → asked_of r ≡ first_no (replay_questions h list)
    → answer_of r ≡ replayed (asked_of r) (replay_from h 1 h.initial (moves list)) → Replays h list r
unfolding replay_answer
replays {h} {list} {r} e a =
    record { asked = e; answer = same; arrives = (λ i. (replay_zero h list).0 (ap (λ o. o.verdict) (sym same ∙ ap answer_of i)), back r e same) }
  where
    same : answer_of r ≡ replay_answer h list
    same = a ∙ ap (λ q. replayed q (replay_from h 1 h.initial (moves list))) e

    -- no other verdict has the number 0
    zero_arrives : (v : Verdict) → number_of v ≡ 0 → v ≡ arrived
    zero_arrives arrived z = refl
    zero_arrives (Elsewhere b) z = absurd (omega arith)
    zero_arrives (Bad f k) z = bad f z
      where
        bad : (g : Fault) → verdict_of g ≡ 0 → Bad f k ≡ arrived
        bad Unknown y = absurd (omega arith)
        bad Covered y = absurd (omega arith)
        bad Idle y = absurd (omega arith)
        bad Taken y = absurd (omega arith)
        bad TooLong y = absurd (omega arith)

    back : (q : Answer) → asked_of q ≡ first_no (replay_questions h list) → answer_of q ≡ replay_answer h list → Replayable h list × Arrives h (moves list) → q ≡ Ok arrived
    back (Err p) f b w =
        let y : first_no (replay_questions h list) ≡ all_yes = (replay_accepts h list).1 w.0 in
        let z : no_of p ≡ all_yes = f ∙ y in
        cc
    back (Ok v) f b w = ap Ok (zero_arrives v (ap (λ o. o.verdict) (b ∙ (replay_answers h list w.0 0 0).1 (replay.Replayed.arrives w.1))))

-- lengths that are accepted are as many as the blocks
counted : (ls : Lengths) (s g : State) → MeasuredIf ls s g → Counted ls s
counted none s g m = tt
counted (some l) s g m = m.count

module _ {h : Sheet} {y y' : Yard} where
  -- the sheet is refused
  pub refused_way : (list : List ℕ) {r : Refusal} → Examines h (Err r) y y' → Replays h list (Err r)
  unfolding replay_questions
  refused_way list {r} w =
      replays (sym (first_no_front (sheet_questions none h) (asks_even list ∷ []) (refusals.number_of r.question) r.place (sym w.checks.asked))) refl

  module _ (w : Examines h (Ok tt) y y') where
    -- the sheet is accepted, and the answer to question 11 is no
    pub odd_way : {list : List ℕ} {r : Refusal} → r ≡ record { question = Odd; place = 0 } → length list % 2 ≢ 0 → Replays h list (Err r)
    unfolding replay_questions asks_even
    odd_way {list} e n =
        replays (ap no_of e ∙ sym ((replay_refuses h list 11 0).1 (behind_late none h _ 11 0 tt (accepted w.checks refl) (inl (refl, (refl, n)))))) refl

    -- all is answered yes, and the moves are followed
    pub followable : {list : List ℕ} → length list % 2 ≡ 0 → Followable h h.initial list (loads_of y')
    followable z =
        let a = accepted w.checks refl in
        record { small = a.small; proper = a.problem.initial; same = a.problem.same; counted = counted h.lengths h.initial h.goal a.measured; even = z; loads = (w.known refl).loads }

    pub judged_way : {list : List ℕ} {v : Verdict} → length list % 2 ≡ 0 → Follows h list v → Replays h list (Ok v)
    judged_way {list} z f =
        let yes-all : all_yes ≡ first_no (replay_questions h list) = sym ((replay_accepts h list).1 (record { accepted = accepted w.checks refl; even = z })) in
        replays yes-all f.answer

-- ---- a copy of the state

module _ (ls : Lengths) (g : State) {s t : State} (e : t ≡ s) {list : List ℕ} where
  pub copied : {l : List ℕ} → Followable (measured_by ls s g) s list l → Followable (measured_by ls t g) t list l
  copied w = rw e w

  pub followed : {v : Verdict} → Follows (measured_by ls t g) list v → Follows (measured_by ls s g) list v
  followed f = rw e at f
