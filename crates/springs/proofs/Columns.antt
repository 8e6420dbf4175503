-- Columns: the walks that write loads and take springs in, and what the springs then say of a table.
-- Assumes nothing.
use Rattle.ground.proofs.Kit.{ℕ, ◌+◌, ◌≤◌, ◌<◌, true, false, List, ◌≡◌, refl, sym, ◌∙◌, ap, subst, arith, length, get_or, set, take, length-take-le, length-set}
use Rattle.ground.proofs.Kit.{suc, replicate, length-replicate, get_or-set_same, get_or-set_other, lt-ltb, le-ltb, Ok, Err, Result}
use mathlib.Core.Path.{fun_ext}
use Rattle.std.proofs.lemmas.List.{get_or-take, get_or_past, get_or-replicate}
use Rattle.ground.specs.Folds.{list_to, sum_to, AddedUp}
use Rattle.ground.proofs.Buffer.{list-cong}
use Rattle.ground.proofs.Cases.{by-eq, by_bool, by_le}
use Rattle.ground.proofs.Folds.{sum-cong, max-to-le, added_none, added_more}
use Rattle.kinds.specs.declared.Task.{Task}
use Rattle.kinds.specs.declared.Settings.{Settings}
use Rattle.kinds.specs.Limits.{scale, most_tasks}
use Rattle.kinds.specs.Settings.{tests_charge}
use Rattle.kinds.specs.Task.{at, Good, OnNotch}
use Rattle.share.specs.Share.{share_at, saturation_at, period_at, charge_at, load_at}
use Rattle.share.specs.Table.{first_bad, priced_rows, periods_at}
use Rattle.share.proofs.Tables.{first-bad-is, good-before, on-before}
use Rattle.springs.specs.declared.Spring.{Spring}
use Rattle.springs.specs.declared.Springs.{Springs}
use Rattle.springs.specs.Spring.{spring_of, share_on, saturation_on, shares_on, periods_on, charges_on, loads_on}
use Rattle.springs.specs.Allowed.{Allowed, AllAtMost, spring_over}
use Rattle.springs.specs.Springs.{spring_in, full_in}
use Rattle.springs.specs.Handover.{Springy, Chargeable, Workable, Beside, StaysLow, Loaded, Summed, Put, Sprung, found_bad, TakenIn}
use Rattle.springs.proofs.Shares.{share-on, saturation-on, share-most, saturation-low, charge-most, good-within, good-allowed}

-- a walk over the first n numbers of a column
module _ (n i : ℕ) (column : List ℕ) (long : n ≤ length column) where
  pub column_read : i < length (take n column) → (i < n) × (get_or (take n column) i 0 ≡ get_or column i 0)
  column_read l =
      let below : i < n = omega (arith, length-take-le n column long) in
      (below, get_or-take {A = ℕ} n column i 0 below)

  pub column_end : length (take n column) ≤ i → i ≤ length (take n column) → i ≡ n
  column_end h g = omega (arith, length-take-le n column long)

-- six columns with a spring set
module _ (largest least elasticity saturation cost tmin : List ℕ) (i : ℕ) (s : Spring) where
  abbrev over-set : ℕ → Spring
  over-set =
      spring_over (set largest i s.largest) (set least i s.least) (set elasticity i s.elasticity) (set saturation i s.saturation) (set cost i s.cost)
      (set tmin i s.tmin)

  pub set_there : (j : ℕ) → (j ≡ i → ⊥) → over-set j ≡ spring_over largest least elasticity saturation cost tmin j
  set_there j d =
      rw (
        get_or-set_other largest i j s.largest 0 d,
        get_or-set_other least i j s.least 0 d,
        get_or-set_other elasticity i j s.elasticity 0 d,
        get_or-set_other saturation i j s.saturation 0 d,
        get_or-set_other cost i j s.cost 0 d,
        get_or-set_other tmin i j s.tmin 0 d,
      )

  module _ (a : i < length largest) (b : i < length least) (c : i < length elasticity) (d : i < length saturation) (e : i < length cost) (f : i < length tmin) where
    pub set_here : over-set i ≡ s
    set_here =
        rw (
          get_or-set_same largest i s.largest 0 a,
          get_or-set_same least i s.least 0 b,
          get_or-set_same elasticity i s.elasticity 0 c,
          get_or-set_same saturation i s.saturation 0 d,
          get_or-set_same cost i s.cost 0 e,
          get_or-set_same tmin i s.tmin 0 f,
        )

-- a column with no number above a bound
pub at-most-set : (most i v : ℕ) (column : List ℕ) → i < length column → v ≤ most → AllAtMost most column → AllAtMost most (set column i v)
at-most-set most i v column l h all j =
    by-eq j i
    (λ q. rw q (rw (get_or-set_same column i v 0 l) h))
    (λ d. rw (get_or-set_other column i j v 0 d) (all j))

pub none-at-most : (most : ℕ) → AllAtMost most (replicate most_tasks 0)
none-at-most most i =
    by_le (suc i) most_tasks
    (λ l. omega (arith, get_or-replicate {A = ℕ} most_tasks i 0 0 l))
    (λ l. omega (arith, get_or_past {X = ℕ} (replicate most_tasks 0) i 0 (omega (arith, length-replicate {A = ℕ} most_tasks 0))))

-- nothing but loads has moved
pub beside_same : (s : Springs) → Beside s s
beside_same s =
    record { largest = refl; least = refl; elasticity = refl; saturation = refl; cost = refl; tmin = refl; count = refl; notch = refl }

pub beside-more : (first second third : Springs) → Beside first second → Beside second third → Beside first third
beside-more first second third a b =
    record {
      largest = b.largest ∙ a.largest;
      least = b.least ∙ a.least;
      elasticity = b.elasticity ∙ a.elasticity;
      saturation = b.saturation ∙ a.saturation;
      cost = b.cost ∙ a.cost;
      tmin = b.tmin ∙ a.tmin;
      count = b.count ∙ a.count;
      notch = b.notch ∙ a.notch;
    }

-- whatever loads are written
pub beside-loads : (old now : Springs) (loads : List ℕ) (few : now.n ≤ most_tasks) → Beside old now
    → Beside old (record now { loads = loads; few = few })
beside-loads old now loads few b =
    record {
      largest = b.largest;
      least = b.least;
      elasticity = b.elasticity;
      saturation = b.saturation;
      cost = b.cost;
      tmin = b.tmin;
      count = b.count;
      notch = b.notch;
    }

pub springs-beside : (old new : Springs) → Beside old new → spring_in new ≡ spring_in old
unfolding spring_in
springs-beside old new b = fun_ext (λ i. rw (b.largest, b.least, b.elasticity, b.saturation, b.cost, b.tmin))

-- and what is said of them still holds
module _ (old new : Springs) (b : Beside old new) where
  pub springy-beside : Springy old → Springy new
  springy-beside w i l = rw (springs-beside old new b) (w i (omega (arith, b.count)))

  pub chargeable-beside : (q : ℕ) → Chargeable q old → Chargeable q new
  chargeable-beside q w i l = rw (springs-beside old new b) (w i (omega (arith, b.count)))

  -- on their own notch too
  pub still-chargeable : Chargeable old.notch old → Chargeable new.notch new
  still-chargeable w i l = subst (λ (q : ℕ). Allowed q (spring_in new i)) (sym b.notch) (chargeable-beside old.notch w i l)

  pub workable-beside : StaysLow old new → Workable old → Workable new
  workable-beside low h = record { allowed = still-chargeable h.allowed; low = low h.low }

-- what may be charged is within its limits
pub charged-springy : (q : ℕ) (s : Springs) → Chargeable q s → Springy s
charged-springy q s w i l = (w i l).within

-- a walk that writes loads: it has come to task i, and their sum is at hand
pub record Walked (load : ℕ → ℕ) (i : ℕ) (old now : Springs) (sum : ℕ) : Type 0 where
  pub within : i ≤ old.n
  pub loaded : Loaded load i old now
  pub added : AddedUp load scale i sum

pub walked-none : (load : ℕ → ℕ) (s : Springs) → Walked load 0 s s 0
walked-none load s =
    record {
      within = omega arith;
      loaded = record { beside = beside_same s; long = refl; are = λ i l. absurd (omega arith); rest = λ j l. refl };
      added = added_none load scale;
    }

pub walked-more : (load : ℕ → ℕ) (i v sum : ℕ) (old now : Springs) (few : now.n ≤ most_tasks) → Walked load i old now sum
    → i < old.n → i < length old.loads → v ≡ load i → v ≤ scale
    → Walked load (i + 1) old (record now { loads = set now.loads i v; few = few }) (sum + v)
walked-more load i v sum old now few w l in_loads e most =
    record {
      within = omega arith;
      loaded =
          record {
            beside = beside-loads old now (set now.loads i v) few w.loaded.beside;
            long = length-set now.loads i v ∙ w.loaded.long;
            are = λ j h.
                by-eq j i
                (λ q. rw q (get_or-set_same now.loads i v 0 (omega (arith, w.loaded.long)) ∙ e))
                (λ d. get_or-set_other now.loads i j v 0 d ∙ w.loaded.are j (omega (arith, d)));
            rest = λ j h. get_or-set_other now.loads i j v 0 (λ q. omega arith) ∙ w.loaded.rest j (omega arith);
          };
      added = added_more load scale i sum v w.added e most;
    }

pub walked-all : (load : ℕ → ℕ) (i sum : ℕ) (old now : Springs) → Walked load i old now sum → i ≡ old.n → Summed load old now sum
walked-all load i sum old now w e =
    let all : Walked load old.n old now sum = rw e at w in
    record { loaded = all.loaded; sum_is = all.added.is }

-- what the settings' edition tests
module _ (s : Settings) (springs : ℕ → Spring) (k n : ℕ) (old new : Springs) where
  pub as-shares : tests_charge s ≡ false → Loaded (shares_on springs k) n old new → Loaded (loads_on s springs k) n old new
  as-shares e w = record { beside = w.beside; long = w.long; are = λ i l. rw e (w.are i l); rest = w.rest }

  pub as-charges : tests_charge s ≡ true → Loaded (charges_on s.notch springs k) n old new → Loaded (loads_on s springs k) n old new
  as-charges e w = record { beside = w.beside; long = w.long; are = λ i l. rw e (w.are i l); rest = w.rest }

-- no load comes to above S where none that is written is
pub loaded-low : (load : ℕ → ℕ) (n : ℕ) (old new : Springs) → Loaded load n old new → ((i : ℕ) → i < n → load i ≤ scale) → StaysLow old new
loaded-low load n old new w most low i =
    by_le n i
    (λ h. rw (w.rest i h) (low i))
    (λ h. rw (w.are i h) (most i h))

-- the loads that a walk has written, summed
pub sum-loaded : (load : ℕ → ℕ) (n : ℕ) (old new : Springs) → Loaded load n old new → sum_to load n ≡ sum_to (λ i. get_or new.loads i 0) n
sum-loaded load n old new w = sum-cong load (λ i. get_or new.loads i 0) n (λ i l. sym (w.are i l))

-- springs taken in
pub sprung-none : (rows : List Task) (s : Springs) → s.n ≡ 0 → Sprung rows 0 s
sprung-none rows s none = record { count = none; springs = λ i l. absurd (omega arith) }

pub sprung-more : (rows : List Task) (i : ℕ) (spring : Spring) (old new : Springs) → Sprung rows i old → Put spring old new
    → spring ≡ spring_of (at rows i) → Sprung rows (i + 1) new
sprung-more rows i spring old new w p e =
    record {
      count = omega (arith, p.count, w.count);
      springs = λ j l.
          by-eq j i
          (λ q. rw q (rw (← w.count) p.here ∙ e))
          (λ d. p.there j (omega (arith, w.count, d)) ∙ w.springs j (omega (arith, d)));
    }

-- and they stay while loads are written
pub sprung-beside : (rows : List Task) (n : ℕ) (old new : Springs) → Beside old new → Sprung rows n old → Sprung rows n new
sprung-beside rows n old new b w = record { count = b.count ∙ w.count; springs = λ i l. rw (springs-beside old new b) (w.springs i l) }

-- up to the first record that is not good, or all of them
module _ (w q : ℕ) (rows : List Task) (n i : ℕ) (now : Springs) (same : now.notch ≡ q) (sprung : Sprung (priced_rows w rows n) i now)
    (first : i ≡ first_bad w q rows n) where
  pub taken-until : i < n → TakenIn w q rows n (Err i) now
  taken-until l =
      let taken : TakenIn w q rows n (found_bad i n) now = rw first (record { is = refl; notch = same; sprung = rw first at sprung }) in
      rw (lt-ltb i n l) at taken

  pub taken-all : i ≡ n → TakenIn w q rows n (Ok tt) now
  taken-all e =
      let taken : TakenIn w q rows n (found_bad i n) now = rw first (record { is = refl; notch = same; sprung = rw first at sprung }) in
      rw (le-ltb i n (omega arith)) at taken

-- the springs of a table
module _ (rows : List Task) (n : ℕ) (s : Springs) (w : Sprung rows n s) where
  pub shares-are : (k i : ℕ) → i < n → share_on (spring_in s i) k ≡ share_at (at rows i) k
  shares-are k i l = ap (λ (x : Spring). share_on x k) (w.springs i l) ∙ share-on (at rows i) k

  pub saturations-are : (i : ℕ) → i < n → saturation_on (spring_in s i) ≡ saturation_at (at rows i)
  saturations-are i l = ap saturation_on (w.springs i l) ∙ saturation-on (at rows i)

  -- document 01's rules, and Ask 10's, from springs
  pub loads-are : (settings : Settings) (k i : ℕ) → i < n → loads_on settings (spring_in s) k i ≡ load_at settings (at rows i) k
  unfolding load_at charge_at period_at
  loads-are settings k i l = rw (w.springs i l, share-on (at rows i) k)

  pub periods-are : (q k : ℕ) → list_to (periods_on q (spring_in s) k) n ≡ periods_at q rows n k
  unfolding periods_at period_at
  periods-are q k = list-cong (periods_on q (spring_in s) k) (λ i. period_at q (at rows i) k) n (λ i l. rw (w.springs i l, share-on (at rows i) k))

  module _ (good : (i : ℕ) → i < n → Good (at rows i)) where
    pub sprung-springy : Springy s
    sprung-springy i l =
        let h : i < n = omega (arith, w.count) in
        rw (w.springs i h) (good-within (at rows i) (good i h))

    pub sprung-chargeable : (q : ℕ) → ((i : ℕ) → i < n → OnNotch q (at rows i)) → Chargeable q s
    sprung-chargeable q on i l =
        let h : i < n = omega (arith, w.count) in
        rw (w.springs i h) (good-allowed (at rows i) (good i h) q (on i h))

-- no load is above S
pub loads-most : (settings : Settings) (s : Springs) → Chargeable settings.notch s → (k i : ℕ) → i < s.n → loads_on settings (spring_in s) k i ≤ scale
loads-most settings s w k i l =
    let a = w i l in
    by_bool (tests_charge settings)
    (λ e. rw e (charge-most settings.notch (spring_in s i) a k))
    (λ e. rw e (share-most (spring_in s i) a.within k))

-- document 01: "K is never above 999,999"
pub full-low : (q : ℕ) (s : Springs) → Chargeable q s → full_in s s.n ≤ 999999
full-low q s w =
    max-to-le (λ i. (spring_in s i).saturation) s.n 999999 (λ i l. let a = w i l in saturation-low (spring_in s i) a.within a.some)

-- what taking in comes to
found-all : (r n : ℕ) → found_bad r n ≡ Ok tt → n ≤ r
found-all r n e = by_le n r (λ h. h) (λ h. let bad = rw (lt-ltb r n h) at e in absurd cc)

found-one : (r n i : ℕ) → found_bad r n ≡ Err i → (i ≡ r) × (r < n)
found-one r n i e =
    by_le n r
    (λ h. let all = rw (le-ltb r n h) at e in absurd cc)
    (λ h. let bad = rw (lt-ltb r n h) at e in (cc, h))

module _ (w q : ℕ) (rows : List Task) (n : ℕ) (r : Result (Unit {0}) ℕ) (now : Springs) (t : TakenIn w q rows n r now) where
  -- all of the records are good, and the springs are theirs
  pub taken-good : r ≡ Ok tt → (n ≤ first_bad w q rows n) × Sprung (priced_rows w rows n) n now
  taken-good e =
      let all : n ≤ first_bad w q rows n = found-all _ n (sym t.is ∙ e) in
      let end : first_bad w q rows n ≡ n = omega (arith, (first-bad-is w q rows n).last, all) in
      (all, rw end at t.sprung)

  -- or one is not
  pub taken-bad : (i : ℕ) → r ≡ Err i → (i ≡ first_bad w q rows n) × (i < n)
  taken-bad i e =
      let one = found-one (first_bad w q rows n) n i (sym t.is ∙ e) in
      (one.0, omega (arith, one.0, one.1))

  -- whichever it is, every call may be made on them where it could on those that stood there
  pub taken-workable : 1 ≤ q → (old : Springs) → now.loads ≡ old.loads → Workable old → Workable now
  taken-workable some old same h =
      let first = first_bad w q rows n in
      let chargeable =
      sprung-chargeable (priced_rows w rows n) first now t.sprung (λ i l. good-before w q rows n i l) q (λ i l. on-before w q rows n i l some) in
      record {
        allowed = subst (λ (p : ℕ). Chargeable p now) (sym t.notch) chargeable;
        low = subst (AllAtMost scale) (sym same) h.low;
      }

-- the saturation step that stands in the column
pub saturation-in : (s : Springs) → Springy s → (i : ℕ) → i < s.n → get_or s.saturation i 0 ≡ saturation_on (spring_in s i)
unfolding spring_in
saturation-in s w i l = (w i l).saturated
