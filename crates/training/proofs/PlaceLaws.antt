-- One block taken by the code: the definition's next part-state, with its loads. Assumes nothing.
use Rattle.std.proofs.Common.{Option, Some, is_some, true}
use mathlib.Core.Path.{◌≡◌, refl, sym, ap, ap₂, ◌∙◌, subst}
use mathlib.Core.Logic.{◌⊎◌, inl, inr, ◌≢◌}
use mathlib.Core.List.{List}
use Prim.Native.Nat.{ℕ, suc, ◌+◌, ◌-◌, ◌*◌, ◌/◌, ◌%◌, ◌^◌, ◌≤◌, ◌<◌}
use native.Mathlib.Omega.{arith}
use native.Mathlib.Nat.{mod-lt}
use lib.Dec.{eqb}
use lib.ListN.{length, get_or, set, length-set}
use lib.Seq.{get_or-set_same, get_or-set_other}
use Rattle.blocks.specs.State.{State, Block, support, put}
use Rattle.blocks.specs.Position.{Proper}
use Rattle.lists.specs.Search.{lowest, nonzero}
use Rattle.lists.proofs.NonzeroLaws.{nonzero_some, some_is}
use Rattle.blocks.specs.Tests.{load, clearᵇ}
use Rattle.lists.proofs.ReflectLaws.{to_false, eqb_reflects, same?}
use Rattle.lists.proofs.SearchLaws.{lowest_ext, count_le}
use Rattle.blocks.proofs.StateLaws.{length-put, support_put_same, support_put_other, put_at}
use Rattle.blocks.proofs.ClearLaws.{load_is}
use Rattle.problem.specs.Known.{Loads}
use Rattle.counts.specs.Ways.{ways, held}
use Rattle.training.specs.Placing.{Open, Placing, Placed}
use Rattle.training.specs.Arrangement.{picked, other_topᵇ}
use Rattle.training.specs.declared.Progress.{Progress}
use Rattle.training.proofs.NthLaws.{Ranked}
use Rattle.counts.proofs.WaysLaws.{ways_some}
use Rattle.training.proofs.PartLaws.{turn, turn_block, at, open_ground, open_stack, target, on_table, picked_ranked, next_ground, next_by}

-- what rests on each block after b was put on the top t
module _ {s : State} {l : List ℕ} {b t : ℕ} (loads : Loads s l) (w : Block s b) (v : Block s t) (on : support s b ≡ 0) (proper : Proper (put s b t)) where
  same_load : (c : ℕ) → 1 ≤ c → c ≢ t → load (put s b t) c ≡ load s c
  unfolding load
  same_load c h n =
      lowest_ext (λ d. eqb (support (put s b t) d) c) (λ d. eqb (support s d) c) (length (put s b t)) (λ d a k. by d (same? d b))
      ∙ ap (lowest (λ d. eqb (support s d) c)) (length-put s b t)
    where
      by : (d : ℕ) → (d ≡ b) ⊎ (¬ (d ≡ b)) → eqb (support (put s b t) d) c ≡ eqb (support s d) c
      by d (inl e) = to_false (eqb_reflects (support (put s b t) d) c) (λ z. n (sym z ∙ ap (support (put s b t)) e ∙ support_put_same s b t w))
          ∙ sym (to_false (eqb_reflects (support s d) c) (λ z. let none : c ≡ 0 = sym z ∙ ap (support s) e ∙ on in absurd (omega arith)))
      by d (inr e) = ap (λ x. eqb x c) (support_put_other s b t d e)

  pub loads_stacked : Loads (put s b t) (set l t b)
  loads_stacked = record {
    room = rw (length-put s b t, length-set l t b) loads.room;
    at = λ c h k. by c h k (same? c t);
  }
    where
      by : (c : ℕ) → 1 ≤ c → c ≤ length (put s b t) → (c ≡ t) ⊎ (¬ (c ≡ t)) → get_or (set l t b) c 0 ≡ load (put s b t) c
      by c h k (inl e) =
          ap (λ i. get_or (set l t b) i 0) e ∙ get_or-set_same l t b 0 (omega (arith, loads.room, v.high))
          ∙ sym (load_is (put s b t) proper c b (λ z. absurd (omega arith)) (support_put_same s b t w ∙ sym e))
      by c h k (inr e) = get_or-set_other l t c b 0 e ∙ loads.at c h (omega (arith, length-put s b t)) ∙ sym (same_load c h e)

module _ {m : ℕ} {p : Progress} {s : State} {l : List ℕ} (w : Placing (suc m) p.grounded p.rest s l) where
  o : Open (suc m) p.grounded s
  o = w.part

  -- the table of counts holds the two that are asked for
  pub first_held : m + (p.grounded + 1) ≤ held
  first_held = omega (arith, o.tops, count_le (clearᵇ s) (length s), w.small)

  pub second_held : m + p.grounded ≤ held
  second_held = omega (arith, first_held)

  module _ {here : ℕ} (h : here ≡ ways m (p.grounded + 1)) where
    pub place_ground : p.rest < here → Placed m p s (record { grounded = p.grounded + 1; rest = p.rest }) s l
    place_ground k =
        let less : p.rest < ways m (p.grounded + 1) = omega arith in
        record {
          same = refl;
          is = sym (next_ground m p.grounded p.rest s less);
          placing = record { small = w.small; part = open_ground o; number = less; loads = w.loads };
        }

    module _ {each : ℕ} (k : here ≤ p.rest) (e : each ≡ ways m p.grounded) where
      abbrev over : ℕ
      over = p.rest - ways m (p.grounded + 1)

      no : ¬ (p.rest < ways m (p.grounded + 1))
      no z = absurd (omega arith)

      same_top : picked s (turn m s) ((p.rest - here) / each) ≡ picked s (turn m s) (over / ways m p.grounded)
      same_top = ap (λ x. picked s (turn m s) ((p.rest - x) / each)) h ∙ ap (λ x. picked s (turn m s) ((p.rest - ways m (p.grounded + 1)) / x)) e

      -- there is another tower to go to
      pub top_there : {found : Option ℕ} → found ≡ nonzero (picked s (length s - m) ((p.rest - here) / each)) → is_some found ≡ true
      top_there f = ap is_some (f ∙ ap nonzero same_top ∙ sym (nonzero_some (picked s (turn m s) (over / ways m p.grounded)) (λ z. absurd (omega (arith, (picked_ranked o p.rest w.number no).low, z)))))

      module _ {found : Option ℕ} {t : ℕ} (f : found ≡ nonzero (picked s (length s - m) ((p.rest - here) / each))) (g : found ≡ Some t) where
        same_t : t ≡ picked s (turn m s) (over / ways m p.grounded)
        same_t = sym (some_is (picked s (turn m s) ((p.rest - here) / each)) (sym f ∙ g)) ∙ same_top

        ranked : Ranked (other_topᵇ s (turn m s)) (length s) (over / ways m p.grounded) t
        ranked = subst (Ranked (other_topᵇ s (turn m s)) (length s) ((p.rest - ways m (p.grounded + 1)) / ways m p.grounded)) (sym same_t)
            (picked_ranked o p.rest w.number no)

        pub top_within : t < length l
        top_within = omega (arith, ranked.high, w.loads.room)

        pub top_fits : t < 65536
        top_fits = omega (arith, ranked.high, w.small)

        pub top_scaled : t * 2 < 2 ^ 64
        top_scaled = omega (arith, top_fits)

        pub place_stack : Placed m p s (record { grounded = p.grounded; rest = (p.rest - here) % each }) (set s (length s - m - 1) t) (set l t (length s - m))
        place_stack =
            record {
              same = length-set s (b - 1) t;
              is = ap₂ (λ x y. at p.grounded x y) left state ∙ sym (next_by m p.grounded p.rest s no);
              placing = record {
                small = rw (length-set s (b - 1) t) w.small;
                part = subst (Open m p.grounded) (sym stored) (open_stack o ranked);
                number = subst (λ x. x < ways m p.grounded) (sym left) (mod-lt over (ways_some m p.grounded));
                loads = subst (λ x. Loads x (set l t b)) (sym stored) (loads_stacked w.loads (turn_block o) (target o ranked) (on_table o ranked) (open_stack o ranked).proper);
              };
            }
          where
            b : ℕ
            b = length s - m

            stored : set s (b - 1) t ≡ put s b t
            stored = sym (put_at s b t (turn_block o).low)

            state : set s (b - 1) t ≡ put s b (picked s b (over / ways m p.grounded))
            state = stored ∙ ap (put s b) same_t

            left : (p.rest - here) % each ≡ over % ways m p.grounded
            left = ap (λ x. (p.rest - x) % each) h ∙ ap (λ x. over % x) e

  -- a quotient can be asked for
  pub some_each : {each : ℕ} → each ≡ ways m p.grounded → 0 < each
  some_each e = omega (arith, ways_some m p.grounded)

  pub one_more_fits : p.grounded + 1 < 2 ^ 64
  one_more_fits = omega (arith, first_held)

-- what the code asks on the way, and where the block is grounded
pub ruleset place_facts = (first_held, second_held, one_more_fits, top_there, top_scaled, some_each, top_within, top_fits, place_ground)
