-- Replay computes what its plain sentences say: the tests of one move, and the verdict and the place of a plan. Assumes nothing.
use mathlib.Core.Path.{◌≡◌, refl, sym, ap, ◌∙◌, subst}
use mathlib.Core.Logic.Iff
use mathlib.Core.Logic.{◌⊎◌, inl, inr, ◌↔◌, ◌≢◌}
use mathlib.Core.Bool.{not, ◌&&◌}
use mathlib.Core.List.{List, [], ◌∷◌, ◌++◌, append-nil}
use mathlib.Core.Option.{none, some}
use Prim.Native.Nat.{ℕ, zero, suc, ◌+◌, ◌≤◌}
use native.Mathlib.Omega.{arith}
use lib.Dec.{eqb, leb}
use lib.ListN.{length}
use lib.Seq.{ext_get_or}
use Rattle.lists.specs.Search.{Lowest}
use Rattle.blocks.specs.State.{State, Block, support, put}
use Rattle.blocks.specs.Move.{◌⟶◌, Plan, Legal, after}
use Rattle.blocks.specs.Question.{Question, Asked, all_yes, no', first_no, AllYes, FirstNo, numbers}
use Rattle.blocks.specs.Sheet.{Sheet, Arrives}
use Rattle.blocks.specs.Replay.{move_questions, fit_questions, lift_questions, BadLift, Replayed}
use Rattle.blocks.specs.Answer.{ReplayAnswer, no_verdict, first_difference, arrival, or_bad, replay_from}
use Rattle.blocks.specs.Length.{Lengths, Fits, LegalUnder}
use Rattle.blocks.specs.SheetDemands.{when}
use Rattle.lists.proofs.ReflectLaws.{Reflects, to_false, not-not, reflects_not, reflects_and, reflects_iff, eqb_reflects, leb_reflects}
use Rattle.lists.proofs.SearchLaws.{lowest_zero, lowest_found, lowest_absent, lowest_unique}
use Rattle.blocks.proofs.StateLaws.{length-put}
use Rattle.blocks.proofs.ClearLaws.{clear_test}
use Rattle.blocks.proofs.QuestionLaws.{Decides, asks_decided, first_no_lem, decides_append, all_yes_append, sentence_append, other_number}
use Rattle.blocks.proofs.FitsLaws.{fits_test}

-- ---- questions whose places are 0

pub placeless_no : (qs : List Question) → Decides qs → ((v q : ℕ) → FirstNo qs v q → q ≡ 0) → (v q : ℕ) → (first_no qs ≡ no' v q) ↔ (FirstNo qs v 0 × (q ≡ 0))
placeless_no qs d placeless v q = (λ e. let r = (law q).0 e in let z : q ≡ 0 = placeless v q r in (subst (FirstNo qs v) z r, z), λ h. (law 0).1 h.0 ∙ ap (no' v) (sym h.1))
  where
    law : (q : ℕ) → (first_no qs ≡ no' v q) ↔ FirstNo qs v q
    law q = first_no_lem qs d (no' v q)

-- ---- one move

module _ (s : State) (a x : ℕ) where
  inside? : Reflects (Block s a × (x ≤ length s)) (leb 1 a && (leb a (length s) && leb x (length s)))
  inside? = reflects_iff
      (λ h. (record { low = h.0; high = h.1.0 }, h.1.1))
      (λ h. (h.0.low, (h.0.high, h.1)))
      (reflects_and (leb_reflects 1 a) (reflects_and (leb_reflects a (length s)) (leb_reflects x (length s))))

  pub move_decides : Decides (move_questions s a x)
  unfolding move_questions
  move_decides = (
    asks_decided inside?,
    λ _. (
      asks_decided (clear_test s a),
      λ _. (
        asks_decided (reflects_not (eqb_reflects x (support s a))),
        λ _.
            (asks_decided (reflects_and (reflects_not (eqb_reflects x a)) (clear_test s x)), λ _. tt),
      ),
    ),
  )

  -- a move is legal exactly where all is yes
  move_legal : AllYes (move_questions s a x) ↔ Legal s a x
  unfolding move_questions
  move_legal = (
    λ y. record { block = y.0.0; inside = y.0.1; clear = y.1.0; changes = y.1.1.0; apart = y.1.1.1.0.0; free = y.1.1.1.0.1 },
    λ l. ((l.block, l.inside), (l.clear, (l.changes, ((l.apart, l.free), tt)))),
  )

  pub move_yes : (first_no (move_questions s a x) ≡ all_yes) ↔ Legal s a x
  move_yes = Iff.trans (first_no_lem (move_questions s a x) move_decides all_yes) move_legal

  -- the place of a "no" is 0
  move_placeless : (v q : ℕ) → FirstNo (move_questions s a x) v q → q ≡ 0
  unfolding move_questions
  move_placeless v q (inl f) = f.1.0
  move_placeless v q (inr (_, inl f)) = f.1.0
  move_placeless v q (inr (_, inr (_, inl f))) = f.1.0
  move_placeless v q (inr (_, inr (_, inr (_, inl f)))) = f.1.0
  move_placeless v q (inr (_, inr (_, inr (_, inr (_, f))))) = absurd f

-- ---- one lift: a move that fits

pub lift_order : (ls : Lengths) (s : State) (a x : ℕ) → numbers (lift_questions ls s a x) ≡ 1 ∷ 2 ∷ 3 ∷ 4 ∷ when ls (6 ∷ [])
unfolding lift_questions move_questions fit_questions
lift_order none s a x = refl
lift_order (some l) s a x = refl

fit_decides : (ls : Lengths) (a x : ℕ) → Decides (fit_questions ls a x)
unfolding fit_questions
fit_decides none a x = tt
fit_decides (some l) a x = (asks_decided (fits_test l a x), λ _. tt)

fit_fits : (ls : Lengths) (a x : ℕ) → AllYes (fit_questions ls a x) ↔ Fits ls a x
unfolding fit_questions
fit_fits none a x = (λ y. tt, λ f. tt)
fit_fits (some l) a x = (λ y. y.0, λ f. (f, tt))

fit_placeless : (ls : Lengths) (a x v q : ℕ) → FirstNo (fit_questions ls a x) v q → q ≡ 0
unfolding fit_questions
fit_placeless none a x v q f = absurd f
fit_placeless (some l) a x v q (inl f) = f.1.0
fit_placeless (some l) a x v q (inr (_, f)) = absurd f

module _ (ls : Lengths) (s : State) (a x : ℕ) where
  pub lift_decides : Decides (lift_questions ls s a x)
  unfolding lift_questions
  lift_decides = decides_append (move_questions s a x) (fit_questions ls a x) (move_decides s a x) (λ _. fit_decides ls a x)

  -- a lift is legal under the rule exactly where all is yes, and a bad lift is the first "no"
  pub lift_yes : (first_no (lift_questions ls s a x) ≡ all_yes) ↔ (Legal s a x × Fits ls a x)
  unfolding lift_questions
  lift_yes =
      Iff.trans (first_no_lem (lift_questions ls s a x) lift_decides all_yes)
      (Iff.trans (all_yes_append (move_questions s a x) (fit_questions ls a x)) (Iff.and (move_legal s a x) (fit_fits ls a x)))

  pub lift_no : (v q : ℕ) → (first_no (lift_questions ls s a x) ≡ no' v q) ↔ (BadLift ls s a x v × (q ≡ 0))
  unfolding lift_questions
  lift_no = placeless_no (lift_questions ls s a x) lift_decides (λ v q f. by v q ((sentence_append (move_questions s a x) (fit_questions ls a x) v q).0 f))
    where
      by : (v q : ℕ) → FirstNo (move_questions s a x) v q ⊎ (AllYes (move_questions s a x) × FirstNo (fit_questions ls a x) v q) → q ≡ 0
      by v q (inl f) = move_placeless s a x v q f
      by v q (inr f) = fit_placeless ls a x v q f.1

-- no verdict of a lift is 0, or the filler of a refused replay
bad_verdict : (ls : Lengths) (s : State) (a x v : ℕ) → BadLift ls s a x v → (v ≢ 0) × (v ≢ no_verdict)
unfolding lift_questions move_questions fit_questions
bad_verdict none s a x v b = (other_number (lift_questions none s a x) 0 refl v 0 b, other_number (lift_questions none s a x) no_verdict refl v 0 b)
bad_verdict (some l) s a x v b = (other_number (lift_questions (some l) s a x) 0 refl v 0 b, other_number (lift_questions (some l) s a x) no_verdict refl v 0 b)

-- ---- a plan

length-after : (s : State) (p : Plan) → length (after s p) ≡ length s
length-after s [] = refl
length-after s ((a ⟶ x) ∷ p) = length-after (put s a x) p ∙ length-put s a x

no_moves : (ls : Lengths) (s : State) → LegalUnder ls s []
no_moves ls s = record { legal = tt; fits = tt }

one_more : {ls : Lengths} {s : State} {a x : ℕ} {p : Plan} → Legal s a x × Fits ls a x → LegalUnder ls (put s a x) p → LegalUnder ls s ((a ⟶ x) ∷ p)
one_more l h = record { legal = (l.0, h.legal); fits = (l.1, h.fits) }

-- a plan is legal under the rule, or it has a first bad lift
data Walked (ls : Lengths) (s : State) (p : Plan) : Type 0 where
  whole : LegalUnder ls s p → Walked ls s p
  stops : (v : ℕ) (q : Plan) (a x : ℕ) (r : Plan) → p ≡ q ++ ((a ⟶ x) ∷ r) → LegalUnder ls s q → BadLift ls (after s q) a x v → Walked ls s p

walked : (ls : Lengths) (s : State) (p : Plan) → Walked ls s p
walked ls s [] = whole (no_moves ls s)
walked ls s ((a ⟶ x) ∷ p) = by (first_no (lift_questions ls s a x)) refl (walked ls (put s a x) p)
  where
    on : Legal s a x × Fits ls a x → Walked ls (put s a x) p → Walked ls s ((a ⟶ x) ∷ p)
    on l (whole h) = whole (one_more l h)
    on l (stops v q b y r e h k) = stops v ((a ⟶ x) ∷ q) b y r (ap (λ t. (a ⟶ x) ∷ t) e) (one_more l h) k

    by : (w : Asked) → first_no (lift_questions ls s a x) ≡ w → Walked ls (put s a x) p → Walked ls s ((a ⟶ x) ∷ p)
    by (no' v q) e m = stops v [] a x p refl (no_moves ls s) ((lift_no ls s a x v q).0 e).0
    by all_yes e m = on ((lift_yes ls s a x).0 e) m

-- legal moves that fit are followed
through : (h : Sheet) (k : ℕ) (s : State) (q r : Plan) → LegalUnder h.lengths s q → replay_from h k s (q ++ r) ≡ replay_from h (length q + k) (after s q) r
unfolding replay_from
through h k s [] r w = ap (λ n. replay_from h n s r) (omega arith)
through h k s ((a ⟶ x) ∷ q) r w =
    ap (λ v. or_bad v k (replay_from h (suc k) (put s a x) (q ++ r))) ((lift_yes h.lengths s a x).1 (w.legal.0, w.fits.0))
    ∙ (through h (suc k) (put s a x) q r (record { legal = w.legal.1; fits = w.fits.1 })
    ∙ ap (λ n. replay_from h n (after (put s a x) q) r) (omega arith))

abbrev answer : ℕ → ℕ → ReplayAnswer
answer v k = record { number = 0; verdict = v; place = k }

arrival_off : (b : ℕ) → 1 ≤ b → arrival b ≡ answer 5 b
arrival_off zero h = absurd (omega arith)
arrival_off (suc i) h = refl

-- the end of a plan that is legal under the rule
ended : (h : Sheet) (p : Plan) → LegalUnder h.lengths h.initial p
    → replay_from h 1 h.initial p ≡ arrival (first_difference (after h.initial p) h.goal)
unfolding replay_from
ended h p w = ap (λ q. replay_from h 1 h.initial q) (sym (append-nil p)) ∙ through h 1 h.initial p [] w

module _ (s g : State) where
  differ? : (b : ℕ) → Reflects (support s b ≢ support g b) (not (eqb (support s b) (support g b)))
  differ? b = reflects_not (eqb_reflects (support s b) (support g b))

  difference_none : s ≡ g → first_difference s g ≡ 0
  unfolding first_difference
  difference_none e = lowest_zero _ (length s) (λ c h l. to_false (differ? c) (λ n. n (ap (λ t. support t c) e)))

  difference_is : (b : ℕ) → Lowest (λ c. support s c ≢ support g c) (length s) b → first_difference s g ≡ b
  unfolding first_difference
  difference_is b w = lowest_unique _ _ (length s) (λ c h l. differ? c) b w

  difference_found : first_difference s g ≢ 0 → Lowest (λ c. support s c ≢ support g c) (length s) (first_difference s g)
  unfolding first_difference
  difference_found = lowest_found _ _ (length s) (λ c h l. differ? c)

  difference_absent : length g ≡ length s → first_difference s g ≡ 0 → s ≡ g
  unfolding first_difference
  difference_absent same e = ext_get_or 0 s g (sym same) (λ i l. not-not (eqb_reflects (support s (suc i)) (support g (suc i)))
      (lowest_absent _ _ (length s) (λ c h l. differ? c) e (suc i) (omega arith) l))

module _ (h : Sheet) where
  abbrev s : State
  s = h.initial

  abbrev g : State
  g = h.goal

  -- replay answers what the sentences say
  answers : (p : Plan) {v k : ℕ} → Replayed h p v k → replay_from h 1 s p ≡ answer v k
  unfolding replay_from
  answers p (Replayed.arrives w) =
      ended h p (record { legal = w.solves.legal; fits = w.fits }) ∙ ap arrival (difference_none (after s p) g w.solves.arrives)
  answers p (Replayed.faulty {v = v} q a x r e l b) =
      ap (λ t. replay_from h 1 s t) e
      ∙ (through h 1 s q ((a ⟶ x) ∷ r) l
      ∙ (ap (λ w. or_bad w (length q + 1) (replay_from h (suc (length q + 1)) (put (after s q) a x) r)) ((lift_no h.lengths (after s q) a x v 0).1 (b, refl))
      ∙ ap (λ n. answer v n) (omega arith)))
  answers p (Replayed.differs {b = b} l w) =
      let d : Lowest (λ c. support (after s p) c ≢ support g c) (length (after s p)) b = rw (length-after s p) w in
      ended h p l ∙ (ap arrival (difference_is (after s p) g b d) ∙ arrival_off b w.low)

  -- and they always say something
  said : length g ≡ length s → (p : Plan) → (v : ℕ) × (k : ℕ) × Replayed h p v k
  said same p = by (walked h.lengths s p)
    where
      by : Walked h.lengths s p → (v : ℕ) × (k : ℕ) × Replayed h p v k
      by (stops v q a x r e l b) = (v, suc (length q), Replayed.faulty q a x r e l b)
      by (whole l) = ends (first_difference (after s p) g) refl
        where
          ends : (b : ℕ) → first_difference (after s p) g ≡ b → (v : ℕ) × (k : ℕ) × Replayed h p v k
          ends zero e =
              let there : after s p ≡ g = difference_absent (after s p) g (same ∙ sym (length-after s p)) e in
              (0, 0, Replayed.arrives (record { solves = record { legal = l.legal; arrives = there }; fits = l.fits }))
          ends (suc i) e = (5, suc i, Replayed.differs {b = suc i} l (rw (← e, ← length-after s p) (difference_found (after s p) g (omega arith))))

  -- replay answers a verdict and a place exactly where they are the plan's
  pub replay_verdict : length g ≡ length s → (p : Plan) (v k : ℕ) → (replay_from h 1 s p ≡ record { number = 0; verdict = v; place = k }) ↔ Replayed h p v k
  replay_verdict same p v k = (λ e. is (said same p) e, answers p)
    where
      is : (v : ℕ) × (k : ℕ) × Replayed h p v k → replay_from h 1 s p ≡ answer v k → Replayed h p v k
      is (u, j, w) e =
          let f : answer u j ≡ answer v k = sym (answers p w) ∙ e in
          rw (← ap (λ r. r.verdict) f, ← ap (λ r. r.place) f) w

  -- verdict 0 exactly when every move is legal under the rule and the end is the goal
  pub replay_arrives : length g ≡ length s → (p : Plan) → ((replay_from h 1 s p).verdict ≡ 0) ↔ Arrives h p
  replay_arrives same p = (λ e. is (said same p) e, λ w. ap (λ r. r.verdict) (answers p (Replayed.arrives w)))
    where
      solves : {v k : ℕ} → Replayed h p v k → v ≡ 0 → Arrives h p
      solves (Replayed.arrives w) e = w
      solves (Replayed.faulty q a x r d l b) e = absurd ((bad_verdict h.lengths (after s q) a x _ b).0 e)
      solves (Replayed.differs l w) e = absurd (omega arith)

      is : (v : ℕ) × (k : ℕ) × Replayed h p v k → (replay_from h 1 s p).verdict ≡ 0 → Arrives h p
      is (v, k, w) e = solves w (sym (ap (λ r. r.verdict) (answers p w)) ∙ e)

  -- the filler of a refused replay is no plan's verdict
  pub no_verdict_lem : (p : Plan) (k : ℕ) → ¬ Replayed h p no_verdict k
  no_verdict_lem p k w = apart w refl
    where
      apart : {v k : ℕ} → Replayed h p v k → v ≢ no_verdict
      apart (Replayed.arrives w) e = absurd (omega (arith, e))
      apart (Replayed.faulty q a x r d l b) e = (bad_verdict h.lengths (after s q) a x _ b).1 e
      apart (Replayed.differs l w) e = absurd (omega (arith, e))
