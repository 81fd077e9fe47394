-- Writing an answer: NO, or PL and the LF records behind it; and the ways out of `respond`. Assumes nothing.
use Prim.Native.Nat.{ℕ, ◌+◌, ◌*◌, ◌^◌, ◌≤◌, ◌<◌}
use mathlib.Core.Path.{◌≡◌, refl, sym, ◌∙◌, ap, ap₂, subst}
use mathlib.Core.List.{List, [], ◌∷◌, ◌++◌}
use Rattle.std.specs.Prelude.{Ok, Err}
use native.Mathlib.Omega.{arith}
use lib.ListN.{length, take, drop, length-append}
use lib.Seq.{length-take-le}
use Rattle.blocks.specs.State.{most}
use Rattle.blocks.specs.Answer.{moves}
use Rattle.lists.specs.Lists.{overwrite, overwrite_at}
use Rattle.records.specs.Marks.{size}
use Rattle.records.specs.Records.{record_bytes, PutRecord}
use Rattle.records.specs.declared.Kind.{Kind}
use Rattle.records.specs.declared.Kind.TheVariants.{Pl, Lf, No}
use Rattle.lists.proofs.WriteLaws.{overwrite_front, overwrite_next}
use Rattle.records.proofs.WriteLaws.{length_record}
use Rattle.refusals.specs.Refusals.{number_of}
use Rattle.refusals.specs.declared.Refusal.{Refusal}
use Rattle.planner.specs.Answers.{Answer}
use Rattle.planner.specs.declared.Planned.{Planned}
use Rattle.responder.specs.Responses.{move_bytes, response_to}
use Rattle.responder.specs.Told.{Tells}
use Rattle.responder.specs.Answers.{Wrote, Roomy, Responds, reply_of, Writable, Answered, MovesFit, PutMoves}
use Rattle.responder.proofs.SizeLaws.{size_pl, size_lf, size_no, longest_is}
use Rattle.responder.proofs.ToldLaws.{told}

-- ---- one record at the front

front_record : {k : Kind} {x y : ℕ} {out : List ℕ} {r : ℕ} {out' : List ℕ} → PutRecord k x y 0 out r out' → Wrote (record_bytes k (x ∷ y ∷ [])) out r out'
unfolding overwrite_at
front_record {k} {x} {y} p = record { counted = omega (arith, p.after, length_record k x y); written = p.written }

pub no_room : {out : List ℕ} → Roomy out → 0 + size No ≤ length out
no_room w = omega (arith, w.room, longest_is, size_no)

pub plan_room : {out : List ℕ} → Roomy out → 0 + size Pl ≤ length out
plan_room w = omega (arith, w.room, longest_is, size_pl)

-- ---- the ways out of `write_answer`

pub refused_written : {a : Answer} {q : Refusal} {k : ℕ} (pairs : List ℕ) {out : List ℕ} {r : ℕ} {out' : List ℕ} → a ≡ Err q → k ≡ number_of q.question
    → PutRecord No k q.place 0 out r out' → Wrote (reply_of a pairs) out r out'
refused_written {q = q} pairs {out} {r} {out'} e n p =
    let w = subst (λ i. PutRecord No i q.place 0 out r out') n p in subst (λ b. Wrote (reply_of b pairs) out r out') (sym e) (front_record w)

module _ {a : Answer} {plan : Planned} {pairs : List ℕ} (w : Writable a pairs) (e : a ≡ Ok plan) where
  abbrev c : ℕ
  c = plan.count

  abbrev d : ℕ
  d = plan.misplaced

  abbrev counts : (c ≤ 2 * most) × (d ≤ most) × (2 * c ≤ length pairs)
  counts = w.counts plan e

  pub count_fits : c < 2 ^ 16
  count_fits = omega (arith, counts.0)

  pub misplaced_fits : d < 2 ^ 16
  misplaced_fits = omega (arith, counts.1)

  pub moves_fit : {x y : ℕ} {out : List ℕ} {at : ℕ} {out₁ : List ℕ} → Roomy out → PutRecord Pl x y 0 out at out₁ → length out₁ ≡ length out
      → MovesFit c pairs out₁ at
  moves_fit room p same =
      let six : c * size Lf ≡ 6 * c = rw size_lf (omega arith) in
      record { there = counts.2; room = omega (arith, six, same, room.room, longest_is, counts.0, p.after, size_pl) }

  pub plan_written : {out : List ℕ} {at : ℕ} {out₁ : List ℕ} {r : ℕ} {out' : List ℕ} → PutRecord Pl c d 0 out at out₁ → PutMoves c pairs at out₁ r out'
      → Wrote (reply_of a pairs) out r out'
  plan_written {out} {at} {out₁} {r} {out'} p q =
      subst (λ b. Wrote (reply_of b pairs) out r out') (sym e) (record { counted = long; written = there })
    where
      head : List ℕ
      head = record_bytes Pl (c ∷ d ∷ [])

      lifts : List ℕ
      lifts = move_bytes (moves (take (2 * c) pairs))

      first : Wrote head out at out₁
      first = front_record p

      long : r ≡ length (head ++ lifts)
      long = q.after ∙ ap (λ i. i + length lifts) first.counted ∙ sym (length-append head lifts)

      there : out' ≡ overwrite (head ++ lifts) out
      there = q.written ∙ ap₂ (λ i s. overwrite_at i lifts s) first.counted first.written ∙ overwrite_next head lifts out

-- ---- the ways out of `respond`

inside : {bytes out : List ℕ} {r : ℕ} {out' : List ℕ} → Wrote bytes out r out' → r ≤ length out'
inside {bytes} {out} w = omega (arith, w.counted, ap length w.written, length-append bytes (drop (length bytes) out))

-- what was written is at the front
front : {bytes out : List ℕ} {r : ℕ} {out' : List ℕ} → Wrote bytes out r out' → take r out' ≡ bytes
front {bytes} {out} w = ap₂ take w.counted w.written ∙ overwrite_front bytes out

pub cramped_way : (bytes : List ℕ) {out : List ℕ} → length out < 6 + 12 * most → Responds bytes out 0 out
cramped_way bytes h =
    record {
      answers = λ l. absurd (omega (arith, l, longest_is));
      tells = λ l. absurd (omega (arith, l, longest_is));
      cramped = λ _. (refl, refl);
      within = (omega arith, refl);
    }

pub roomy : {out : List ℕ} → 6 + 12 * most ≤ length out → Roomy out
roomy h = record { room = omega (arith, h, longest_is) }

pub written_way : {bytes : List ℕ} {a : Answer} {space out : List ℕ} {r : ℕ} {out' : List ℕ} → 6 + 12 * most ≤ length out → Answered bytes a space
    → Wrote (reply_of a space) out r out' → Responds bytes out r out'
written_way {bytes} {out = out} {r} {out'} room w v =
    record {
      answers = λ _. all;
      tells = λ _. subst (Tells bytes) (sym (front all)) (told bytes);
      cramped = λ l. absurd (omega (arith, l, room, longest_is));
      within = (inside v, sym (length-take-le _ _ (inside v)));
    }
  where
    all : Wrote (response_to bytes) out r out'
    all = subst (λ l. Wrote l out r out') w.same v
