-- What the operations ask of a sheet and answer: where no question is answered no, what a refusal answers, and which sheets and entries are asked alike.
-- Assumes nothing.
use mathlib.Core.Path.{◌≡◌, refl, sym, ap, ap₂, ◌∙◌}
use mathlib.Core.Logic.Iff
use mathlib.Core.Logic.{◌⊎◌, inl, inr, ◌≢◌, ◌↔◌}
use mathlib.Core.Bool.{Bool, true, cond, true≢false}
use mathlib.Core.List.{List, [], ◌∷◌, ◌++◌, append-nil, append_assoc}
use mathlib.Core.Option.{Option, none, some}
use Prim.Native.Nat.{ℕ, ◌*◌, ◌≤◌, ◌<◌}
use native.Mathlib.Omega.{arith}
use lib.ListN.{length}
use Rattle.blocks.specs.State.{State, most}
use Rattle.blocks.specs.Position.{Problem}
use Rattle.blocks.specs.Move.{Plan}
use Rattle.blocks.specs.Loop.{memberᵇ, shown_width}
use Rattle.blocks.specs.Method.{Method, plan, outcome_by, method_of, plan_outcome, deadlock_loop, deadlock_rows}
use Rattle.blocks.specs.Question.{Question, Asked, all_yes, no', first_no, AllYes, FirstNo, numbers, IsMethod, asks_method, asks_size, asks_same}
use Rattle.blocks.specs.Question.{asks_outside, asks_shared, asks_floating, asks_room, asks_even, asks_plan, asks_limit, limit_questions, state_questions, list_questions, problem_questions}
use Rattle.blocks.specs.Length.{Lengths, asks_lengths, asks_overhang, overhang_questions, length_questions}
use Rattle.blocks.specs.Sheet.{Sheet, plain, goal_state, Arrives, Accepted, Call, office, Takes}
use Rattle.blocks.specs.Sheet.{sheet_questions, plan_questions, deadlock_questions, replay_questions, Refused, PlanRefused, DeadlockRefused, ReplayRefused}
use Rattle.blocks.specs.Replay.{move_questions, fit_questions, lift_questions, Replayed}
use Rattle.blocks.specs.Answer.{flat, moves, checked, planned, written, plan_for, tested, replayed, no_verdict}
use Rattle.blocks.specs.Answer.{check_answer, plan_answer, plan_space, deadlock_answer, deadlock_space, replay_from, replay_answer}
use Rattle.blocks.specs.SheetDemands.{sheet_numbers, Plannable, Testable, Replayable, AsBefore, SameLists, SameAnswers, RefusedBy}
use Rattle.lists.proofs.ReflectLaws.{Reflects, holds, fails, leb_reflects}
use Rattle.blocks.proofs.MethodLaws.{method_written}
use Rattle.blocks.proofs.QuestionLaws.{Decides, first_no_lem, decides_append, all_yes_append, sentence_append, first_no_append, first_no_same, Among, among_append, number_among}
use Rattle.blocks.proofs.DecidedLaws.{method_decided, room_decided, even_decided, plan_decided}
use Rattle.blocks.proofs.LengthLaws.{plan_fits}
use Rattle.blocks.proofs.GoalStateLaws.{completed_same, bounded}
use Rattle.blocks.proofs.ReplayLaws.{replay_verdict, replay_arrives}
use Rattle.blocks.proofs.LimitLaws.{limit_decides, limit_yes}
pub use Rattle.blocks.proofs.AskedLaws.{rest, rest_decides, rest_yes, sheet_decides, sheet_yes, numbers_append, sheet_order}

-- the numbers that are given out, and those of a sheet among them
abbrev pub all_numbers : List ℕ
all_numbers = 1 ∷ 2 ∷ 19 ∷ 3 ∷ 4 ∷ 5 ∷ 6 ∷ 7 ∷ 8 ∷ 9 ∷ 16 ∷ 17 ∷ 18 ∷ 10 ∷ 11 ∷ []

limit_among : (limit : Option ℕ) (n : ℕ) → Among all_numbers (limit_questions limit n)
unfolding limit_questions asks_limit
limit_among none n = tt
limit_among (some limit) n = (refl, tt)

lengths_among : (ls : Lengths) (s g : State) → Among all_numbers (length_questions ls s g)
unfolding length_questions overhang_questions asks_lengths asks_overhang
lengths_among none s g = tt
lengths_among (some l) s g = (refl, (refl, (refl, tt)))

sheet_among : (limit : Option ℕ) (h : Sheet) → Among all_numbers (sheet_questions limit h)
unfolding sheet_questions list_questions state_questions asks_size asks_same asks_outside asks_shared asks_floating
sheet_among limit h =
    let last = lengths_among h.lengths h.initial h.goal in (
      refl,
      among_append all_numbers (limit_questions limit (length h.initial)) (rest h) (limit_among limit (length h.initial))
          (refl, (refl, (refl, (refl, (refl, (refl, (refl, last))))))),
    )

-- ---- with the questions of an operation behind them

module _ (limit : Option ℕ) (h : Sheet) (late : List Question) where
  behind_order : numbers (sheet_questions limit h ++ late) ≡ sheet_numbers limit h.lengths ++ numbers late
  behind_order = numbers_append (sheet_questions limit h) late ∙ ap (λ l. l ++ numbers late) (sheet_order limit h)

  behind_decides : Decides late → Decides (sheet_questions limit h ++ late)
  behind_decides d = decides_append (sheet_questions limit h) late (sheet_decides limit h) (λ _. d)

  behind_yes : AllYes (sheet_questions limit h ++ late) ↔ ((Takes limit (length h.initial) × Accepted h) × AllYes late)
  behind_yes = Iff.trans (all_yes_append (sheet_questions limit h) late) (Iff.and (sheet_yes limit h) Iff.rfl)

  -- a "no" of the sheet's, and one of the operation's
  pub behind_front : (k p : ℕ) → FirstNo (sheet_questions limit h) k p → FirstNo (sheet_questions limit h ++ late) k p
  behind_front k p f = (sentence_append (sheet_questions limit h) late k p).1 (inl f)

  pub behind_late : (k p : ℕ) → Takes limit (length h.initial) → Accepted h → FirstNo late k p → FirstNo (sheet_questions limit h ++ late) k p
  behind_late k p t a f = (sentence_append (sheet_questions limit h) late k p).1 (inr ((sheet_yes limit h).1 (t, a), f))

-- ---- the check

module _ (h : Sheet) where
  pub accepts : (first_no (sheet_questions none h) ≡ all_yes) ↔ Accepted h
  accepts = Iff.trans (first_no_lem (sheet_questions none h) (sheet_decides none h) all_yes) (Iff.trans (sheet_yes none h) (λ a. a.1, λ a. (tt, a)))

  pub refuses : (k p : ℕ) → (first_no (sheet_questions none h) ≡ no' k p) ↔ Refused h k p
  refuses k p = first_no_lem (sheet_questions none h) (sheet_decides none h) (no' k p)

  pub check_accepts : (check_answer h ≡ record { number = 0; place = 0 }) ↔ Accepted h
  unfolding check_answer
  check_accepts = (from (first_no (sheet_questions none h)) refl, λ a. ap checked (accepts.1 a))
    where
      from : (v : Asked) → first_no (sheet_questions none h) ≡ v → checked (first_no (sheet_questions none h)) ≡ record { number = 0; place = 0 } → Accepted h
      from all_yes e w = accepts.0 e
      from (no' k p) e w =
          let zero : k ≡ 0 = ap (λ r. r.number) (sym (ap checked e) ∙ w) in
          let among = number_among all_numbers (sheet_questions none h) (sheet_among none h) k p ((refuses k p).0 e) in
          absurd (true≢false (sym among ∙ ap (λ j. memberᵇ j all_numbers) zero))

  pub check_refuses : (k p : ℕ) → Refused h k p → check_answer h ≡ record { number = k; place = p }
  unfolding check_answer
  check_refuses k p r = ap checked ((refuses k p).1 r)

-- ---- planning

-- every method gives a plan
given : (o : Option Method) (s g : State) → Problem s g → (p : Plan) × (outcome_by o s g ≡ plan p)
given none s g q = ([], refl)
given (some m) s g q = let w = method_written m s g q in (w.0, w.1)

module _ (c : Call) (h : Sheet) (space : List ℕ) where
  -- the questions after those put to the sheet
  abbrev pub late : List Question
  late = asks_room (4 * length h.initial) space ∷ asks_plan (plan_outcome c.method h.initial (goal_state h)) ∷ []

  pub plan_order : numbers (plan_questions c h space) ≡ 1 ∷ (sheet_numbers c.limit h.lengths ++ (10 ∷ 13 ∷ []))
  unfolding plan_questions asks_method asks_room asks_plan
  plan_order = ap (λ l. 1 ∷ l) (behind_order c.limit h late)

  pub plan_decides : Decides (plan_questions c h space)
  unfolding plan_questions
  plan_decides =
      (method_decided c.method, λ _. behind_decides c.limit h late (room_decided _ space, λ _. (plan_decided (plan_outcome c.method h.initial (goal_state h)), λ _. tt)))

  pub plan_refuses : (k p : ℕ) → (first_no (plan_questions c h space) ≡ no' k p) ↔ PlanRefused c h space k p
  plan_refuses k p = first_no_lem (plan_questions c h space) plan_decides (no' k p)

  pub plan_refusal : (k p : ℕ) → PlanRefused c h space k p
      → (plan_answer c h space ≡ record { number = k; place = p; count = 0; misplaced = 0 }) × (plan_space c h space ≡ space)
  unfolding plan_answer plan_space
  plan_refusal k p r = let e : first_no (plan_questions c h space) ≡ no' k p = (plan_refuses k p).1 r in (rw e, rw e)

  pub plan_accepts : (first_no (plan_questions c h space) ≡ all_yes) ↔ Plannable c h space
  unfolding plan_questions asks_method asks_room asks_plan plan_outcome
  plan_accepts =
      let all = behind_yes c.limit h late in
      Iff.trans (first_no_lem (plan_questions c h space) plan_decides all_yes) (
        λ y. let z = all.0 y.1 in record { method = y.0; takes = z.0.0; accepted = z.0.1; room = z.1.0 },
        λ w.
            (w.method, all.1 ((w.takes, w.accepted), (w.room, (given (method_of c.method) h.initial (goal_state h) (bounded w.accepted).problem, tt)))),
      )

  -- question 13 is never answered no: every other has one of the numbers
  pub plan_among : (k p : ℕ) → PlanRefused c h space k p → memberᵇ k all_numbers ≡ true
  unfolding plan_questions asks_method asks_room asks_plan plan_outcome
  plan_among k p (inl (e, f)) = ap (λ j. memberᵇ j all_numbers) e
  plan_among k p (inr (i, r)) = by ((sentence_append (sheet_questions c.limit h) late k p).0 r)
    where
      by : FirstNo (sheet_questions c.limit h) k p ⊎ (AllYes (sheet_questions c.limit h) × FirstNo late k p) → memberᵇ k all_numbers ≡ true
      by (inl f) = number_among all_numbers (sheet_questions c.limit h) (sheet_among c.limit h) k p f
      by (inr (y, inl (e, f))) = ap (λ j. memberᵇ j all_numbers) e
      by (inr (y, inr (w, inl (e, f)))) =
          absurd (f.1 (given (method_of c.method) h.initial (goal_state h) (bounded ((sheet_yes c.limit h).0 y).1).problem))
      by (inr (y, inr (w, inr (_, f)))) = absurd f

  pub never_13 : (p : ℕ) → ¬ PlanRefused c h space 13 p
  never_13 p r = true≢false (sym (plan_among 13 p r))

  pub plan_number : (k p : ℕ) → PlanRefused c h space k p → k ≢ 0
  plan_number k p r e = true≢false (sym (plan_among k p r) ∙ ap (λ j. memberᵇ j all_numbers) e)

  -- ---- the first questions answered no

  refused_by : (k : ℕ) → PlanRefused c h space k 0 → RefusedBy k c h space
  refused_by k r = let w = plan_refusal k 0 r in record { answered = w.0; kept = w.1 }

  pub method_no : ¬ IsMethod c.method → PlanRefused c h space 1 0
  unfolding plan_questions asks_method
  method_no n = inl (refl, (refl, n))

  pub no_method : ¬ IsMethod c.method → RefusedBy 1 c h space
  no_method n = refused_by 1 (method_no n)

  module _ (i : IsMethod c.method) where
    pub sheet_no : (k p : ℕ) → FirstNo (sheet_questions c.limit h) k p → PlanRefused c h space k p
    unfolding plan_questions asks_method
    sheet_no k p f = inr (i, behind_front c.limit h late k p f)

    pub room_no : Takes c.limit (length h.initial) → Accepted h → length space < 4 * length h.initial → PlanRefused c h space 10 0
    unfolding plan_questions asks_method asks_room
    room_no t w l = inr (i, behind_late c.limit h late 10 0 t w (inl (refl, (refl, λ r. omega arith))))

    pub beyond_most : most < length h.initial → RefusedBy 2 c h space
    unfolding sheet_questions asks_size
    beyond_most l = refused_by 2 (sheet_no 2 0 (inl (refl, (refl, λ k. omega (arith, l, k)))))

    pub limit_no : length h.initial ≤ most → ¬ Takes c.limit (length h.initial) → PlanRefused c h space 19 0
    unfolding sheet_questions asks_size limit_questions asks_limit
    limit_no l n = sheet_no 19 0 (inr (l, by c.limit n))
      where
        by : (limit : Option ℕ) → ¬ Takes limit (length h.initial) → FirstNo (limit_questions limit (length h.initial) ++ rest h) 19 0
        by none n = absurd (n tt)
        by (some limit) n = inl (refl, (refl, n))

    pub beyond_limit : length h.initial ≤ most → ¬ Takes c.limit (length h.initial) → RefusedBy 19 c h space
    beyond_limit l n = refused_by 19 (limit_no l n)

-- ---- the deadlock test

module _ (h : Sheet) (space : List ℕ) where
  pub deadlock_order : numbers (deadlock_questions h space) ≡ sheet_numbers none h.lengths ++ (10 ∷ [])
  unfolding deadlock_questions asks_room
  deadlock_order = behind_order none h _

  deadlock_decides : Decides (deadlock_questions h space)
  unfolding deadlock_questions
  deadlock_decides = behind_decides none h _ (room_decided _ space, λ _. tt)

  pub deadlock_refuses : (k p : ℕ) → (first_no (deadlock_questions h space) ≡ no' k p) ↔ DeadlockRefused h space k p
  deadlock_refuses k p = first_no_lem (deadlock_questions h space) deadlock_decides (no' k p)

  pub deadlock_refusal : (k p : ℕ) → DeadlockRefused h space k p
      → (deadlock_answer h space ≡ record { number = k; place = p; count = 0 }) × (deadlock_space h space ≡ space)
  unfolding deadlock_answer deadlock_space
  deadlock_refusal k p r = let e : first_no (deadlock_questions h space) ≡ no' k p = (deadlock_refuses k p).1 r in (rw e, rw e)

  pub deadlock_accepts : (first_no (deadlock_questions h space) ≡ all_yes) ↔ Testable h space
  unfolding deadlock_questions asks_room
  deadlock_accepts =
      let all = behind_yes none h (asks_room (shown_width * length h.initial) space ∷ []) in
      Iff.trans (first_no_lem (deadlock_questions h space) deadlock_decides all_yes)
      (λ y. let z = all.0 y in record { accepted = z.0.1; room = z.1.0 }, λ w. all.1 ((tt, w.accepted), (w.room, tt)))

  pub deadlock_number : (k p : ℕ) → DeadlockRefused h space k p → k ≢ 0
  unfolding deadlock_questions asks_room
  deadlock_number k p r e =
      let all = among_append all_numbers (sheet_questions none h) (asks_room (shown_width * length h.initial) space ∷ []) (sheet_among none h) (refl, tt) in
      true≢false (sym (number_among all_numbers (deadlock_questions h space) all k p r) ∙ ap (λ j. memberᵇ j all_numbers) e)

-- ---- replay

module _ (h : Sheet) (lifts : List ℕ) where
  pub replay_order : numbers (replay_questions h lifts) ≡ sheet_numbers none h.lengths ++ (11 ∷ [])
  unfolding replay_questions asks_even
  replay_order = behind_order none h _

  replay_decides : Decides (replay_questions h lifts)
  unfolding replay_questions
  replay_decides = behind_decides none h _ (even_decided lifts, λ _. tt)

  pub replay_refuses : (k p : ℕ) → (first_no (replay_questions h lifts) ≡ no' k p) ↔ ReplayRefused h lifts k p
  replay_refuses k p = first_no_lem (replay_questions h lifts) replay_decides (no' k p)

  pub replay_refusal : (k p : ℕ) → ReplayRefused h lifts k p → replay_answer h lifts ≡ record { number = k; verdict = no_verdict; place = p }
  unfolding replay_answer
  replay_refusal k p r = rw ((replay_refuses k p).1 r)

  pub replay_accepts : (first_no (replay_questions h lifts) ≡ all_yes) ↔ Replayable h lifts
  unfolding replay_questions asks_even
  replay_accepts =
      let all = behind_yes none h (asks_even lifts ∷ []) in
      Iff.trans (first_no_lem (replay_questions h lifts) replay_decides all_yes)
      (λ y. let z = all.0 y in record { accepted = z.0.1; even = z.1.0 }, λ w. all.1 ((tt, w.accepted), (w.even, tt)))

  -- the list is followed
  replay_followed : Replayable h lifts → replay_answer h lifts ≡ replay_from h 1 h.initial (moves lifts)
  unfolding replay_answer
  replay_followed w = ap (λ v. replayed v (replay_from h 1 h.initial (moves lifts))) (replay_accepts.1 w)

  pub replay_answers : Replayable h lifts → (v k : ℕ)
      → (replay_answer h lifts ≡ record { number = 0; verdict = v; place = k }) ↔ Replayed h (moves lifts) v k
  replay_answers w v k =
      let same = replay_followed w in
      let r = replay_verdict h w.accepted.problem.same (moves lifts) v k in
      (λ e. r.0 (sym same ∙ e), λ u. same ∙ r.1 u)

  -- verdict 0: a refused replay has another number in its place
  pub replay_zero : ((replay_answer h lifts).verdict ≡ 0) ↔ (Replayable h lifts × Arrives h (moves lifts))
  replay_zero = (
    from (first_no (replay_questions h lifts)) refl,
    λ w. ap (λ r. r.verdict) ((replay_answers w.0 0 0).1 (Replayed.arrives w.1)),
  )
    where
      from : (v : Asked) → first_no (replay_questions h lifts) ≡ v → (replay_answer h lifts).verdict ≡ 0 → Replayable h lifts × Arrives h (moves lifts)
      from all_yes e z =
          let w = replay_accepts.0 e in
          let zero : (replay_from h 1 h.initial (moves lifts)).verdict ≡ 0 = ap (λ r. r.verdict) (sym (replay_followed w)) ∙ z in
          (w, (replay_arrives h w.accepted.problem.same (moves lifts)).0 zero)
      from (no' k p) e z =
          let filler = ap (λ r. r.verdict) (replay_refusal k p ((replay_refuses k p).0 e)) in
          absurd (omega (arith, filler, z))

  pub replay_says : (replay_answer h lifts ≡ record { number = 0; verdict = 0; place = 0 }) ↔ (Replayable h lifts × Arrives h (moves lifts))
  replay_says = (λ e. replay_zero.0 (ap (λ r. r.verdict) e), λ w. (replay_answers w.0 0 0).1 (Replayed.arrives w.1))

-- ---- sheets and entries that are asked alike

-- without lengths: document 01's questions, and its goal state
module _ (s g : State) where
  plain_asked : sheet_questions none (plain s g) ≡ problem_questions s g
  unfolding sheet_questions limit_questions length_questions problem_questions
  plain_asked = ap (λ qs. asks_size (length s) ∷ qs) (append-nil (list_questions s g))

  pub as_before : AsBefore s g
  unfolding plan_questions deadlock_questions replay_questions lift_questions fit_questions move_questions
  as_before =
      record {
        check = plain_asked;
        plan = λ m space.
            ap₂ (λ qs t. asks_method m ∷ (qs ++ (asks_room (4 * length s) space ∷ asks_plan (plan_outcome m s t) ∷ []))) plain_asked (completed_same s g);
        deadlock = λ space. ap (λ qs. qs ++ (asks_room (shown_width * length s) space ∷ [])) plain_asked;
        replay = λ lifts. ap (λ qs. qs ++ (asks_even lifts ∷ [])) plain_asked;
        lift = λ a x. refl;
        accepted = (λ w. record { small = w.small; problem = w.problem }, λ w. record { small = w.small; problem = w.problem; measured = tt });
        goal = completed_same s g;
        legal = λ p. (λ w. w.legal, λ w. record { legal = w; fits = plan_fits p });
        arrives = λ p. (λ w. w.solves, λ w. record { solves = w; fits = plan_fits p });
      }

module _ (limit : Option ℕ) (h : Sheet) (rs : List Question) where
  apart : first_no ((limit_questions limit (length h.initial) ++ rest h) ++ rs) ≡ first_no (limit_questions limit (length h.initial) ++ (rest h ++ rs))
  apart = ap first_no (append_assoc (limit_questions limit (length h.initial)) (rest h) rs)

  -- where a yes to 2 keeps the limit, 19 is not answered no
  pub past_limit : (length h.initial ≤ most → Takes limit (length h.initial)) → first_no (sheet_questions limit h ++ rs) ≡ first_no (sheet_questions none h ++ rs)
  unfolding sheet_questions limit_questions asks_size
  past_limit t = by (leb_reflects n most)
    where
      n : ℕ
      n = length h.initial

      by : {u : Bool} → Reflects (n ≤ most) u
          → cond u (first_no ((limit_questions limit n ++ rest h) ++ rs)) (no' 2 0) ≡ cond u (first_no (rest h ++ rs)) (no' 2 0)
      by (holds l) = apart ∙ first_no_append (limit_questions limit n) (rest h ++ rs) ((first_no_lem (limit_questions limit n) (limit_decides limit n) all_yes).1 ((limit_yes limit n).1 (t l)))
      by (fails m) = refl

-- so a "no" without a limit is one with it
pub limit_kept : (limit : Option ℕ) (h : Sheet) → (length h.initial ≤ most → Takes limit (length h.initial)) → (k p : ℕ) → Refused h k p
    → FirstNo (sheet_questions limit h) k p
limit_kept limit h t k p f =
    let same = ap first_no (sym (append-nil (sheet_questions limit h))) ∙ past_limit limit h [] t ∙ ap first_no (append-nil (sheet_questions none h)) in
    (first_no_lem (sheet_questions limit h) (sheet_decides limit h) (no' k p)).0 (same ∙ (refuses h k p).1 f)

-- an accepted sheet has a yes to all that is asked after 19
rest_passed : (h : Sheet) → Accepted h → (rs : List Question) → first_no (rest h ++ rs) ≡ first_no rs
rest_passed h w rs = first_no_append (rest h) rs ((first_no_lem (rest h) (rest_decides h) all_yes).1 ((rest_yes h).1 (w.problem, w.measured)))

pub entry_same : (c : Call) (h : Sheet) (space : List ℕ) → Takes c.limit (length h.initial) → SameAnswers c (office c.method) h space
unfolding plan_answer plan_space plan_questions
entry_same c h space t =
    let q = asks_method c.method in
    let e = ap (λ v. cond q.test v (no' q.number q.place)) (past_limit c.limit h (late c h space) (λ _. t)) in
    record { answer = ap (λ v. planned v h.initial (goal_state h) (plan_for c h)) e; lent = ap (λ v. written v (flat (plan_for c h)) space) e }

-- with lengths that are accepted what comes after the sheet's questions is asked as without
module _ (h : Sheet) (w : Accepted h) where
  abbrev bare : Sheet
  bare = plain h.initial h.goal

  same_rest : (limit : Option ℕ) (rs : List Question) → first_no (sheet_questions limit h ++ rs) ≡ first_no (sheet_questions limit bare ++ rs)
  unfolding sheet_questions
  same_rest limit rs =
      let n = length h.initial in
      let same = rest_passed h w rs ∙ sym (rest_passed bare (record { small = w.small; problem = w.problem; measured = tt }) rs) in
      ap (λ v. cond (asks_size n).test v (no' (asks_size n).number (asks_size n).place))
      (apart limit h rs ∙ first_no_same (limit_questions limit n) (rest h ++ rs) (rest bare ++ rs) same ∙ sym (apart limit bare rs))

  same_plan : (c : Call) (space : List ℕ) → first_no (plan_questions c h space) ≡ first_no (plan_questions c bare space)
  unfolding plan_questions
  same_plan c space =
      let q = asks_method c.method in
      ap (λ v. cond q.test v (no' q.number q.place)) (same_rest c.limit (late c h space))

  same_deadlock : (space : List ℕ) → first_no (deadlock_questions h space) ≡ first_no (deadlock_questions bare space)
  unfolding deadlock_questions
  same_deadlock space = same_rest none _

  pub same_lists : SameLists h
  unfolding check_answer plan_answer plan_space deadlock_answer deadlock_space
  same_lists =
      let s = h.initial in
      let g = goal_state h in
      record {
        check = ap checked ((accepts h).1 w ∙ sym ((accepts bare).1 (record { small = w.small; problem = w.problem; measured = tt })));
        plan = λ c space. ap (λ v. planned v s g (plan_for c h)) (same_plan c space);
        plan_space_lem = λ c space. ap (λ v. written v (flat (plan_for c h)) space) (same_plan c space);
        deadlock = λ space. ap (λ v. tested v (deadlock_loop s g)) (same_deadlock space);
        deadlock_space_lem = λ space. ap (λ v. written v (deadlock_rows s g) space) (same_deadlock space);
      }
