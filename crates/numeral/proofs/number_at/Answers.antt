-- `numeral::number_at` meets its contract. Assumes nothing.
use Rattle.ground.proofs.Kit.{sym, ◌∙◌, arith}
use Rattle.numeral.proofs.Scan.{no-digits, not_plain, too_large, number_read}
use Rattle.numeral.proofs.number_at.Goals as goal

pub returns-in_err-rest : goal.returns-in_err-rest
returns-in_err-rest c = c.from_residual.ensures ∙ sym (no-digits _ _ (omega (arith, c.in_err-rest.ensures.lookup.0)))

pub returns-in_err-value : goal.returns-in_err-value
returns-in_err-value c =
    c.from_residual-in_err-value.ensures
    ∙ sym (too_large _ _ _ c.in_ok-rest.ensures.lookup.0.2 _ c.run_of-value.ensures.0 _ c.try_from.ensures (sym c.ok.ensures.value ∙ c.in_err-value.was))

pub returns-then-not-is_plain : goal.returns-then-not-is_plain
returns-then-not-is_plain c =
    sym (not_plain _ _ _ c.in_ok-rest.ensures.lookup.0.2 _ c.run_of-value.ensures.1 (sym c.if-not-is_plain.ensures))

pub returns : goal.returns
returns c =
    let run = c.run_of-value.ensures in
    sym (number_read _ _ _ c.in_ok-rest.ensures.lookup.0.2 _ run.1 (sym c.if-not-is_plain.ensures) _ run.0 _ c.try_from.ensures _ (sym c.ok.ensures.value ∙ c.in_ok-value.was))
