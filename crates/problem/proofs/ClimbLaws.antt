-- The climb through the loads: which blocks are marked after some turns, how many turns are left, and that at the end every block that comes down is marked.
-- A block is marked when its entry of `stands` is not 0; the table is marked from the start. Assumes nothing.
use mathlib.Core.Path.{◌≡◌, refl, sym, ap, ◌∙◌, subst}
use mathlib.Core.Logic.{◌⊎◌, inl, inr, ◌≢◌, ⊎_elim}
use mathlib.Core.Bool.{Bool, true, false, cond, ◌&&◌}
use mathlib.Core.List.{List}
use Prim.Native.Nat.{ℕ, zero, suc, ◌+◌, ◌-◌, ◌≤◌, ◌<◌}
use native.Mathlib.Omega.{arith}
use native.Mathlib.Numerals.{add-one}
use borrow.Author.Tests.{eq-eqb, ne_eqb}
use lib.Dec.{eqb}
use lib.ListN.{length, get_or, set, length-set}
use lib.Seq.{get_or-set_same, get_or-set_other}
use Rattle.blocks.specs.State.{State, most, support, down, Grounded}
use Rattle.lists.specs.Search.{pick, count}
use Rattle.blocks.specs.Position.{InPosition}
use Rattle.blocks.specs.Tests.{load}
use Rattle.blocks.specs.Question.{first_outside, first_shared}
use Rattle.lists.proofs.ReflectLaws.{Reflects, holds, fails, not-not, reflects_not, reflects_and, reflects_iff, eqb_reflects, same?}
use Rattle.lists.proofs.SearchLaws.{count_one_more}
use Rattle.blocks.proofs.StateLaws.{support_at}
use Rattle.blocks.proofs.ClearLaws.{load_rests, load_block, load_none}
use Rattle.blocks.proofs.PositionLaws.{position_table, position_beneath, position_on}
use Rattle.blocks.proofs.DecidedLaws.{entries_yes, carries_yes}
use Rattle.lists.specs.Lists.{Zeros}
use Rattle.rows.specs.Rows.{Yard, row, store, Within, row_size}
use Rattle.rows.proofs.RowLaws.{within_none, within_store, within_then, stored, stored_beside}
use Rattle.problem.specs.Known.{Loads, stands_as, Climbable, Climbed, Standings}

-- ---- one block

-- a block is picked where it rests on the table
pub picked : (x y : ℕ) → x ≡ 0 → y ≡ pick (eqb x 0) y
picked x y e = ap (λ t. pick t y) (sym (eq-eqb x 0 e))

-- the block that is picked rests on the table, as the table does
picked_rests : (s : State) (i : ℕ) → support s (pick (eqb (get_or s i 0) 0) (suc i)) ≡ 0
picked_rests s i = go (eqb (get_or s i 0) 0) (eqb_reflects (get_or s i 0) 0)
  where
    go : (t : Bool) → Reflects (get_or s i 0 ≡ 0) t → support s (pick t (suc i)) ≡ 0
    go true (holds e) = e
    go false (fails n) = refl

looked_rests : (s : State) (i : ℕ) {x : ℕ} → x ≡ pick (eqb (get_or s i 0) 0) (suc i) → support s x ≡ 0
looked_rests s i is = ap (support s) is ∙ picked_rests s i

pick_le : (t : Bool) (x : ℕ) → pick t x ≤ x
pick_le true x = omega arith
pick_le false x = omega arith

pick_same : (t : Bool) (x : ℕ) → pick t x ≢ 0 → pick t x ≡ x
pick_same true x h = refl
pick_same false x h = absurd (h refl)

-- the three answers
pub stands_right : (x y m : ℕ) → x ≡ y → m ≡ 2 → 2 ≡ stands_as x y m
stands_right x y m e h = rw (eq-eqb x y e, eq-eqb m 2 h)

cond_two : (t : Bool) → eqb (cond t 2 1) 2 ≡ t
cond_two true = refl
cond_two false = refl

stands_some : (x y m : ℕ) → 1 ≤ stands_as x y m
stands_some x y m = go (eqb x y && eqb m 2)
  where
    go : (t : Bool) → 1 ≤ cond t 2 1
    go true = omega arith
    go false = omega arith

stands_small : (x y m : ℕ) → stands_as x y m ≤ 2
stands_small x y m = go (eqb x y && eqb m 2)
  where
    go : (t : Bool) → cond t 2 1 ≤ 2
    go true = omega arith
    go false = omega arith

-- a block is in position exactly where it stands as it should
stands_reflects : (s g : State) (b m : ℕ) → Reflects (InPosition s g (support s b)) (eqb m 2)
    → Reflects (InPosition s g b) (eqb (stands_as (support s b) (support g b) m) 2)
stands_reflects s g b m below = subst (Reflects (InPosition s g b)) (sym (cond_two (eqb (support s b) (support g b) && eqb m 2)))
    (reflects_iff (λ h. position_on h.0 h.1) (λ i. (i.agrees 0, position_beneath i 1)) (reflects_and (eqb_reflects (support s b) (support g b)) below))

-- ---- the loop

abbrev Marked : List ℕ → ℕ → Type 0
Marked st b = get_or st b 0 ≢ 0

-- what is known of a marked block: it comes down to the table, its mark says whether it is in position, and is at most 2
abbrev Known : State → State → List ℕ → ℕ → Type 0
Known s g st b = Grounded s b × Reflects (InPosition s g b) (eqb (get_or st b 0) 2) × (get_or st b 0 ≤ 2)

-- The climb before a turn: `block` is to be marked, 0 for none, and the blocks up to `next` have been looked at for those on the table.
pub record Climbing (s g : State) (n block next : ℕ) (st : List ℕ) : Type 0 where
  pub all : n ≡ length s
  pub room : length s < length st
  pub inside : block ≤ length s
  pub within : next ≤ length s
  pub table : get_or st 0 0 ≡ 2
  -- of the marked blocks
  pub known : (b : ℕ) → Marked st b → Known s g st b
  pub came : (b : ℕ) → Marked st b → Marked st (support s b)
  pub low : (b : ℕ) → Marked st b → support s b ≡ 0 → b ≤ next
  -- of the block to be marked
  pub fresh : block ≢ 0 → get_or st block 0 ≡ 0
  pub rests : Marked st (support s block)
  pub seen : support s block ≡ 0 → block ≤ next
  -- no other block is left out
  pub roots : (b : ℕ) → b ≤ next → support s b ≡ 0 → Marked st b ⊎ (b ≡ block)
  pub loads : (b c : ℕ) → b ≢ 0 → Marked st b → support s c ≡ b → Marked st c ⊎ (c ≡ block)

-- what the climb rests on
pub record Climbs (s g : State) (y : Yard) (ld : ℕ) : Type 0 where
  pub small : length s ≤ most
  pub entries : first_outside s ≡ 0
  pub carries : first_shared s ≡ 0
  pub same : length g ≡ length s
  pub known : Loads s (row y ld)
  pub sized : ld + 1 < length y

-- how many turns are left at most: each looks at one block more or marks one
abbrev pub left : State → List ℕ → ℕ → ℕ
left s st next = (length s - next) + count (λ b. eqb (get_or st b 0) 0) (length s)

module _ {s g : State} where
  -- nothing but the table is marked
  pub begin : {n : ℕ} {st : List ℕ} → Zeros st → length s < length st → n ≡ length s → Climbing s g n 0 0 (set st 0 2)
  begin {n} {st} e h a = record {
    all = a;
    room = simp length-set h;
    inside = omega arith;
    within = omega arith;
    table = here;
    known = λ b m. only (λ c. Known s g (set st 0 2) c) b m (record { steps = 0; reaches = refl }, rw here (holds (position_table s g)), omega (arith, here));
    came = λ b m. only (λ c. Marked (set st 0 2) (support s c)) b m marked;
    low = λ b m r. only (λ c. c ≤ 0) b m (omega arith);
    fresh = λ m. absurd (m refl);
    rests = marked;
    seen = λ r. omega arith;
    roots = λ b k r. inr (omega arith);
    loads = λ b c k m r. absurd (k (only (λ c. c ≡ 0) b m refl));
  }
    where
      here : get_or (set st 0 2) 0 0 ≡ 2
      here = get_or-set_same st 0 2 0 (omega arith)

      marked : Marked (set st 0 2) 0
      marked q = omega (arith, here)

      only : (P : ℕ → Type 0) (b : ℕ) → Marked (set st 0 2) b → P 0 → P b
      only P zero m y = y
      only P (suc i) m y = absurd (m (get_or-set_other st 0 (suc i) 2 0 (λ q. omega arith) ∙ e.at (suc i)))

  -- no block is to be marked: the next one is looked at
  pub look : {n block next x : ℕ} {st : List ℕ} → Climbing s g n block next st → block ≡ 0 → next < n → x ≡ pick (eqb (get_or s next 0) 0) (next + 1)
      → Climbing s g n x (next + 1) st
  look {n} {block} {next} {x} {st} w e h a = record {
    all = w.all;
    room = w.room;
    inside = omega (arith, top);
    within = omega arith;
    table = w.table;
    known = w.known;
    came = w.came;
    low = λ b m r. omega (arith, w.low b m r);
    fresh = λ m. not-not (eqb_reflects (get_or st x 0) 0) (unmarked m);
    rests = rw on_table marked;
    seen = λ r. top;
    roots = roots;
    loads = λ b c k m r. ⊎_elim (λ y. inl y) (λ y. inl (subst (Marked st) (sym (y ∙ e)) marked)) (w.loads b c k m r);
  }
    where
      is : x ≡ pick (eqb (get_or s next 0) 0) (suc next)
      is = a ∙ rw add-one

      top : x ≤ next + 1
      top = omega (arith, is, pick_le (eqb (get_or s next 0) 0) (suc next))

      on_table : support s x ≡ 0
      on_table = looked_rests s next is

      marked : Marked st 0
      marked q = omega arith

      unmarked : x ≢ 0 → ¬ Marked st x
      unmarked m y = omega (arith, w.low x y on_table, is, pick_same (eqb (get_or s next 0) 0) (suc next) (λ q. m (is ∙ q)))

      roots : (b : ℕ) → b ≤ next + 1 → support s b ≡ 0 → Marked st b ⊎ (b ≡ x)
      roots b k r = go (same? b (suc next))
        where
          go : (b ≡ suc next) ⊎ (¬ (b ≡ suc next)) → Marked st b ⊎ (b ≡ x)
          go (inl q) = inr (q ∙ picked (get_or s next 0) (suc next) (sym (ap (support s) q) ∙ r) ∙ sym is)
          go (inr m) = ⊎_elim (λ y. inl y) (λ y. inl (subst (Marked st) (sym (y ∙ e)) marked)) (w.roots b (omega (arith, m)) r)

  -- the block is marked, and what rests on it comes next
  module _ {n block next x v ld : ℕ} {rows : Yard} {st : List ℕ} (p : Climbs s g rows ld) (w : Climbing s g n block next st) (m : block ≢ 0)
      (e : x ≡ get_or (row rows ld) block 0) (f : v ≡ stands_as (get_or s (block - 1) 0) (get_or g (block - 1) 0) (get_or st (get_or s (block - 1) 0) 0)) where
    abbrev new : List ℕ
    new = set st block v

    is_load : x ≡ load s block
    is_load = e ∙ p.known.at block (omega (arith, m)) w.inside

    on_block : x ≢ 0 → support s x ≡ block
    on_block h = ap (support s) is_load ∙ load_rests s block (λ q. h (is_load ∙ q))

    mark : v ≡ stands_as (support s block) (support g block) (get_or st (support s block) 0)
    mark = f ∙ rw (← support_at s block (omega (arith, m)), ← support_at g block (omega (arith, m)))

    at_block : get_or new block 0 ≡ v
    at_block = get_or-set_same st block v 0 (omega arith)

    at_other : (b : ℕ) → b ≢ block → get_or new b 0 ≡ get_or st b 0
    at_other b h = get_or-set_other st block b v 0 h

    marked : Marked new block
    marked q = omega (arith, at_block, mark, stands_some (support s block) (support g block) (get_or st (support s block) 0))

    -- a marked block stays marked; another that is marked now was marked before
    stays : (b : ℕ) → Marked st b → Marked new b
    stays b h q = h (sym (at_other b (λ r. h (ap (λ c. get_or st c 0) r ∙ w.fresh m))) ∙ q)

    was : (P : ℕ → Type 0) → P block → ((b : ℕ) → b ≢ block → Marked st b → P b) → (b : ℕ) → Marked new b → P b
    was P here other b h = go (same? b block)
      where
        go : (b ≡ block) ⊎ (b ≢ block) → P b
        go (inl q) = subst P (sym q) here
        go (inr d) = other b d (λ q. h (at_other b d ∙ q))

    -- the block itself
    known_here : Known s g new block
    known_here = (record { steps = suc below.0.steps; reaches = below.0.reaches }, right, small)
      where
        below : Known s g st (support s block)
        below = w.known (support s block) w.rests

        right : Reflects (InPosition s g block) (eqb (get_or new block 0) 2)
        right = rw (at_block, mark) (stands_reflects s g block (get_or st (support s block) 0) below.1)

        small : get_or new block 0 ≤ 2
        small = omega (arith, at_block, mark, stands_small (support s block) (support g block) (get_or st (support s block) 0))

    known_other : (b : ℕ) → b ≢ block → Marked st b → Known s g new b
    known_other b d h = ((w.known b h).0, rw (at_other b d) (w.known b h).1, omega (arith, at_other b d, (w.known b h).2))

    -- what comes next is not marked
    apart : x ≢ 0 → x ≢ block
    apart h q = w.rests (ap (λ c. get_or st c 0) (ap (support s) (sym q) ∙ on_block h) ∙ w.fresh m)

    unmarked : x ≢ 0 → ¬ Marked st x
    unmarked h y = w.came x y (ap (λ c. get_or st c 0) (on_block h) ∙ w.fresh m)

    -- what rests on a marked block is marked or comes next
    next_loads : (b c : ℕ) → b ≢ 0 → Marked new b → support s c ≡ b → Marked new c ⊎ (c ≡ x)
    next_loads b c k h r = was (λ d. support s c ≡ d → d ≢ 0 → Marked new c ⊎ (c ≡ x)) here other b h r k
      where
        here : support s c ≡ block → block ≢ 0 → Marked new c ⊎ (c ≡ x)
        here q d =
            let some : x ≢ 0 = λ y. m (load_none s block c (sym is_load ∙ y) q) in
            inr (carries_yes s p.carries c x (q ∙ sym (on_block some)) (λ y. m (sym q ∙ y)))

        other : (d : ℕ) → d ≢ block → Marked st d → support s c ≡ d → d ≢ 0 → Marked new c ⊎ (c ≡ x)
        other d a y q i = inl (⊎_elim (λ u. stays c u) (λ u. subst (Marked new) (sym u) marked) (w.loads d c i y q))

    pub step : Climbing s g n x next new
    step = record {
      all = w.all;
      room = simp length-set w.room;
      inside = x_inside (same? x 0);
      within = w.within;
      table = at_other 0 (λ q. m (sym q)) ∙ w.table;
      known = was (Known s g new) known_here known_other;
      came = was (λ b. Marked new (support s b)) (stays (support s block) w.rests) (λ b d h. stays (support s b) (w.came b h));
      low = was (λ b. support s b ≡ 0 → b ≤ next) w.seen (λ b d h. w.low b h);
      fresh = λ h. at_other x (apart h) ∙ not-not (eqb_reflects (get_or st x 0) 0) (unmarked h);
      rests = x_rests (same? x 0);
      seen = λ r. x_seen r (same? x 0);
      roots = λ b k r. inl (⊎_elim (λ u. stays b u) (λ u. subst (Marked new) (sym u) marked) (w.roots b k r));
      loads = next_loads;
    }
      where
        x_inside : (x ≡ 0) ⊎ (x ≢ 0) → x ≤ length s
        x_inside (inl q) = omega arith
        x_inside (inr h) = omega (arith, is_load, (load_block s block (λ q. h (is_load ∙ q))).high)

        x_rests : (x ≡ 0) ⊎ (x ≢ 0) → Marked new (support s x)
        x_rests (inl q) = λ y. omega (arith, at_other 0 (λ r. m (sym r)), ap (λ c. get_or new (support s c) 0) (sym q) ∙ y)
        x_rests (inr h) = subst (Marked new) (sym (on_block h)) marked

        x_seen : support s x ≡ 0 → (x ≡ 0) ⊎ (x ≢ 0) → x ≤ next
        x_seen r (inl q) = omega arith
        x_seen r (inr h) = absurd (m (sym (on_block h) ∙ r))

    -- one turn less is left
    pub fewer : left s new next < left s st next
    fewer = omega (
      arith,
      count_one_more (λ b. eqb (get_or st b 0) 0) (λ b. eqb (get_or new b 0) 0) (length s) block (omega (arith, m)) w.inside
          (eq-eqb (get_or st block 0) 0 (w.fresh m)) (ne_eqb (get_or new block 0) 0 marked) (λ c h k d. ap (λ y. eqb y 0) (sym (at_other c d))),
    )

  -- no block is to be marked and all have been looked at: all that come down are marked
  module _ {n block next ld : ℕ} {rows : Yard} {st : List ℕ} (p : Climbs s g rows ld) (w : Climbing s g n block next st) (e : block ≡ 0) (h : n ≤ next) where
    -- nothing is left out
    none_out : (b : ℕ) → Marked st b ⊎ (b ≡ block) → Marked st b
    none_out b (inl y) = y
    none_out b (inr q) = λ y. omega (arith, ap (λ c. get_or st c 0) (sym (q ∙ e)) ∙ y)

    down_marked : (k b : ℕ) → b ≤ length s → down s k b ≡ 0 → Marked st b
    down_marked zero b i r = none_out b (inr (r ∙ sym e))
    down_marked (suc k) b i r =
        by (same? (support s b) 0) (down_marked k (support s b) (entries_yes s p.entries b) r)
      where
        by : (support s b ≡ 0) ⊎ (support s b ≢ 0) → Marked st (support s b) → Marked st b
        by (inl q) y = none_out b (w.roots b (omega arith) q)
        by (inr d) y = none_out b (w.loads (support s b) b d y refl)

    pub finish : Standings s g st
    finish = record {
      room = w.room;
      table = w.table;
      reached = λ b j k. reflects_iff (λ y. (w.known b y).0) (λ y. down_marked y.steps b k y.reaches) (reflects_not (eqb_reflects (get_or st b 0) 0));
      right = λ b j k y. (w.known b (down_marked y.steps b k y.reaches)).1;
      small = λ b j k. low_mark b (same? (get_or st b 0) 0);
    }
      where
        low_mark : (b : ℕ) → (get_or st b 0 ≡ 0) ⊎ (get_or st b 0 ≢ 0) → get_or st b 0 ≤ 2
        low_mark b (inl q) = omega arith
        low_mark b (inr m) = (w.known b m).2

-- ---- the same in the rows: the row behind that of the loads is written, and no other

pub record Rising (s g : State) (ld : ℕ) (y₀ : Yard) (n block next below : ℕ) (y : Yard) : Type 0 where
  pub given : Climbs s g y₀ ld
  pub climbing : Climbing s g n block next (row y (ld + 1))
  -- how the support of the block to be marked stands
  pub carried : block ≢ 0 → below ≡ get_or (row y (ld + 1)) (support s block) 0
  pub within : Within (ld + 1) (ld + 2) y₀ y

-- the rows where the climb begins: of the standings only the table's is written
abbrev pub begun : ℕ → Yard → Yard
begun ld y = store y (ld + 1) 0 2

begun_within : (ld : ℕ) (y : Yard) → Within (ld + 1) (ld + 2) y (begun ld y)
begun_within ld y = within_store (ld + 1) 0 2 within_none (omega arith) (omega arith)

module _ {s g : State} {ld : ℕ} (y : Yard) where
  pub rise_begin : {n : ℕ} → Climbable s g y ld → n ≡ length s → Rising s g ld (begun ld y) n 0 0 2 (begun ld y)
  rise_begin p e =
      record {
        given =
            record {
              small = p.small;
              entries = p.entries;
              carries = p.carries;
              same = p.same;
              known = rw ((begun_within ld y).below ld (omega arith)) p.known;
              sized = omega (arith, p.sized, (begun_within ld y).size);
            };
        climbing = rw (stored y (ld + 1) 0 2 p.sized) (begin p.blank.zeros (omega (arith, p.small, p.blank.room)) e);
        carried = λ m. absurd (m refl);
        within = within_none;
      }

  pub rise_end : {n block next below : ℕ} {y' : Yard} → Rising s g ld (begun ld y) n block next below y' → block ≡ 0 → n ≤ next → Climbed s g ld y y'
  rise_end w e h = record { stands = finish w.given w.climbing e h; within = within_then (begun_within ld y) w.within }

module _ {s g : State} {ld : ℕ} {y₀ : Yard} where
  module _ {n block next below : ℕ} {y : Yard} (w : Rising s g ld y₀ n block next below y) where
    sized : ld + 1 < length y
    sized = omega (arith, w.within.size, w.given.sized)

    module _ (m : block ≢ 0) where
      pub block_in : block < row_size
      block_in = omega (arith, w.climbing.inside, w.given.small)

      module _ {x v : ℕ} (e : x ≡ get_or (row (store y (ld + 1) block v) ld) block 0)
          (f : v ≡ stands_as (get_or s (block - 1) 0) (get_or g (block - 1) 0) below) where
        looked_up : v ≡ stands_as (get_or s (block - 1) 0) (get_or g (block - 1) 0) (get_or (row y (ld + 1)) (get_or s (block - 1) 0) 0)
        looked_up =
            f
            ∙ ap (stands_as (get_or s (block - 1) 0) (get_or g (block - 1) 0))
            (w.carried m ∙ ap (λ b. get_or (row y (ld + 1)) b 0) (support_at s block (omega (arith, m))))

        is_load_row : x ≡ get_or (row y₀ ld) block 0
        is_load_row = e ∙ ap (λ l. get_or l block 0) (stored_beside y (ld + 1) block v ld (λ q. omega arith) ∙ w.within.below ld (omega arith))

        next_carried : x ≢ 0 → v ≡ get_or (row (store y (ld + 1) block v) (ld + 1)) (support s x) 0
        next_carried h =
            rw (stored y (ld + 1) block v sized, on_block w.given w.climbing m is_load_row looked_up h)
            (sym (at_block w.given w.climbing m is_load_row looked_up))

        pub rise_step : Rising s g ld y₀ n x next v (store y (ld + 1) block v)
        rise_step =
            record {
              given = w.given;
              climbing = rw (stored y (ld + 1) block v sized) (step w.given w.climbing m is_load_row looked_up);
              carried = next_carried;
              within = within_store (ld + 1) block v w.within (omega arith) (omega arith);
            }

        -- one turn less is left
        pub rise_fewer : left s (row (store y (ld + 1) block v) (ld + 1)) next < left s (row y (ld + 1)) next
        rise_fewer = rw (stored y (ld + 1) block v sized) (fewer w.given w.climbing m is_load_row looked_up)
