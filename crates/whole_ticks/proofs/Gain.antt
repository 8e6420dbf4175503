-- A row that lacks a column gets one more where a row that is reached from it wants a column that has room.
-- Assumes nothing.
use Rattle.ground.proofs.Kit.{ℕ, zero, suc, ◌+◌, ◌≤◌, ◌<◌, true, false, not, ◌≡◌, refl, sym, ◌∙◌, ap, arith, eqb, ltb, eq-eqb, eqb-true, lt-ltb, ltb-true}
use Rattle.ground.proofs.Kit.{not-true}
use Rattle.ground.specs.Choice.{bit}
use Rattle.ground.specs.Folds.{sum_to}
use Rattle.ground.proofs.Cases.{by_bool, both_true, true-false}
use Rattle.ground.proofs.Folds.{sum-cong}
use Rattle.ground.proofs.Sums.{sum_lt}
use Rattle.whole_ticks.specs.Cells.{Parts, Cells, across, down, Fits, put}
use Rattle.whole_ticks.specs.Reach.{wants, reach}
use Rattle.whole_ticks.proofs.Choices.{both_hold, room-for-one}
use Rattle.whole_ticks.proofs.Changes.{put-adds, put-takes, adds-across, adds-down, adds-held, adds-keeps}
use Rattle.whole_ticks.proofs.Reach.{reach-same, reach-back}

-- how many cells are held in all
unfoldable pub cells_in : Parts → Cells → ℕ
cells_in parts cells = sum_to (across cells parts.columns) parts.rows

-- other cells that fit, and are more
abbrev pub More : Parts → Cells → Type 0
More parts cells = (more : Cells) × Fits parts more × (cells_in parts cells < cells_in parts more)

-- row x wants column t, of which there is some left
pub record Free (parts : Parts) (cells : Cells) (x t : ℕ) : Type 0 where
  pub a-row : x < parts.rows
  pub a-column : t < parts.columns
  pub wanted : wants parts cells x t ≡ true
  pub room : down cells parts.rows t < parts.most

-- in other cells row x has given up column t: every row has as many columns as before, and no other row is changed
record Swapped (parts : Parts) (cells others : Cells) (x t : ℕ) : Type 0 where
  fits : Fits parts others
  same : (y : ℕ) → across others parts.columns y ≡ across cells parts.columns y
  room : down others parts.rows t < parts.most
  other : (y v : ℕ) → (y ≡ x → ⊥) → others y v ≡ cells y v

module _ (parts : Parts) (cells : Cells) (fits : Fits parts cells) where
  -- what is wanted could be had, and is not
  wants-two : (x t : ℕ) → wants parts cells x t ≡ true → (1 ≤ parts.part x t) × (cells x t ≡ false)
  wants-two x t e =
      let two = both_true (ltb 0 (parts.part x t)) _ e in
      (ltb-true 0 (parts.part x t) two.0, not-true (cells x t) two.1)

  -- the row itself takes the column
  gain-here : (r t : ℕ) → across cells parts.columns r < parts.ask r → Free parts cells r t → More parts cells
  unfolding cells_in
  gain-here r t less free =
      let two = wants-two r t free.wanted in
      let more = put cells r t true in
      let adds = put-adds cells r t two.1 in
      let row = adds-across adds parts.columns free.a-column in (
        more,
        record {
          inside = λ x u e. adds-held adds x u e (λ x u. 1 ≤ parts.part x u) (fits.inside x u) two.0;
          asked = λ x l. omega (arith, row x, room-for-one x r (across cells parts.columns x) (parts.ask x) (fits.asked x l) (λ e. rw e less));
          room = λ u l. omega (
            arith,
            adds-down adds parts.rows free.a-row u,
            room-for-one u t (down cells parts.rows u) parts.most (fits.room u l) (λ e. rw e free.room),
          );
        },
        sum_lt (across cells parts.columns) (across more parts.columns) parts.rows r (λ x l. omega (arith, row x)) free.a-row
            (omega (arith, row r, ap bit (eq-eqb r r refl))),
      )

  -- row x takes column u for column t
  swapped : (x t u : ℕ) → Free parts cells x u → t < parts.columns → cells x t ≡ true → (others : Cells) × Swapped parts cells others x t
  swapped x t u free column held =
      let two = wants-two x u free.wanted in
      let more = put cells x u true in
      let adds = put-adds cells x u two.1 in
      let takes = put-takes more x t (adds-keeps adds x t held) in
      let rows : (y : ℕ) → across (put more x t false) parts.columns y ≡ across cells parts.columns y =
      λ y. omega (arith, adds-across adds parts.columns free.a-column y, adds-across takes parts.columns column y) in
      let columns : (v : ℕ) → down (put more x t false) parts.rows v + bit (eqb v t) ≡ down cells parts.rows v + bit (eqb v u) =
      λ v. omega (arith, adds-down adds parts.rows free.a-row v, adds-down takes parts.rows free.a-row v) in
      let room : (v : ℕ) → v < parts.columns → down cells parts.rows v + bit (eqb v u) ≤ parts.most =
      λ v l. room-for-one v u (down cells parts.rows v) parts.most (fits.room v l) (λ e. rw e free.room) in (
        put more x t false,
        record {
          fits = record {
            inside = λ y v e. adds-held adds y v (adds-keeps takes y v e) (λ y v. 1 ≤ parts.part y v) (fits.inside y v) two.0;
            asked = λ y l. omega (arith, rows y, fits.asked y l);
            room = λ v l. omega (arith, columns v, room v l);
          };
          same = rows;
          room = omega (arith, columns t, room t column, ap bit (eq-eqb t t refl));
          other = λ y v h. sym (takes.other y v (λ z _. h z)) ∙ adds.other y v (λ z _. h z);
        },
      )

-- along the rows that are reached, from the last one back
pub gain : (parts : Parts) (k : ℕ) (cells : Cells) (r x u : ℕ) → Fits parts cells → across cells parts.columns r < parts.ask r
    → reach parts cells r k x ≡ true → Free parts cells x u → More parts cells
unfolding reach cells_in
gain parts zero cells r x u fits less e free = gain-here parts cells fits r u less (let z = eqb-true x r e in rw z at free)
gain parts (suc k) cells r x u fits less e free =
    by_bool (reach parts cells r k x)
    (λ f. gain parts k cells r x u fits less f free)
    (λ f.
    let by = reach-back parts r cells k x e f in
    let far : (y : ℕ) → reach parts cells r k y ≡ true → y ≡ x → ⊥ = λ y g z. true-false (ap (reach parts cells r k) (sym z) ∙ g) f in
    let two = wants-two parts cells fits by.row by.column by.wanted in
    let swap = swapped parts cells fits x by.column u free by.a-column by.held in
    let free-now : Free parts swap.0 by.row by.column =
    record {
      a-row = by.a-row;
      a-column = by.a-column;
      wanted = both_hold (lt-ltb 0 _ two.0) (ap not (swap.1.other by.row by.column (far by.row by.reached) ∙ two.1));
      room = swap.1.room;
    } in
    let rest = gain parts k swap.0 r by.row by.column swap.1.fits (omega (arith, swap.1.same r, less))
    (reach-same parts r cells swap.0 k (λ y g v. swap.1.other y v (far y g)) by.row by.reached) free-now in
    let held = sum-cong (across swap.0 parts.columns) (across cells parts.columns) parts.rows (λ y l. swap.1.same y) in
    (rest.0, rest.1, omega (arith, rest.2, held)))
