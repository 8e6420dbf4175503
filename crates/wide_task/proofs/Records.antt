-- The test of a record says what Ask 4's sentence says.
-- Assumes nothing.
use Rattle.ground.proofs.Kit.{true, ◌≡◌, le-leb, leb-true, lt-ltb, ltb-true}
use Rattle.ground.proofs.Cases.{both_true}
use Rattle.wide_task.specs.declared.WideTask.{WideTask}
use Rattle.wide_task.specs.WideTask.{Good, is_good}

pub good-is : (t : WideTask) → is_good t ≡ true → Good t
unfolding is_good
good-is t e =
    let e₇ = both_true _ _ e in
    let e₆ = both_true _ _ e₇.0 in
    let e₅ = both_true _ _ e₆.0 in
    let e₄ = both_true _ _ e₅.0 in
    let e₃ = both_true _ _ e₄.0 in
    let e₂ = both_true _ _ e₃.0 in
    let e₁ = both_true _ _ e₂.0 in
    record {
      l-some = leb-true _ _ e₁.0;
      l-tmin = ltb-true _ _ e₁.1;
      l-c = ltb-true _ _ e₂.1;
      tmax-c = ltb-true _ _ e₃.1;
      c-most = leb-true _ _ e₄.1;
      tmin-tmax = leb-true _ _ e₅.1;
      tmax-most = leb-true _ _ e₆.1;
      e-most = leb-true _ _ e₇.1;
    }

pub is-good : (t : WideTask) → Good t → is_good t ≡ true
unfolding is_good
is-good t g =
    rw (
      le-leb _ _ g.l-some,
      lt-ltb _ _ g.l-tmin,
      lt-ltb _ _ g.l-c,
      lt-ltb _ _ g.tmax-c,
      le-leb _ _ g.c-most,
      le-leb _ _ g.tmin-tmax,
      le-leb _ _ g.tmax-most,
      le-leb _ _ g.e-most,
    )
