-- `sheet::row::put_section` meets its contract. Assumes nothing.
use Rattle.ground.proofs.Kit.{◌≡◌, arith, refl, ◌∙◌, length}
use Rattle.std.proofs.lemmas.List.{get_or_read}
use Rattle.field.proofs.Stores.{put-long}
use Rattle.sheet.proofs.Rows.{row-end, put-no-row, put-row}
use Rattle.sheet.proofs.row.put_section.Goals as goal

pub loop-row-init : goal.loop-row-init
loop-row-init g c = (refl, λ none. put-no-row _ none _ _ _ _)

pub put-at-requires : goal.put-at-requires
put-at-requires g c =
    let so_far = c.loop-row.invariant in
    let place = (so_far.1 c.row-item.result).next-is in
    let end = row-end g.R.Row.size c.loop-row.row-index (length c.args.rows.now) c.loop-row-test.true in
    omega arith

pub loop-row-preserved : goal.loop-row-preserved
loop-row-preserved g c =
    let so_far = c.loop-row.invariant in
    let row = c.put-at.ensures in
    (put-long row ∙ so_far.0, λ none. put-row _ none _ _ _ _ (get_or_read c.args.rows.now _ _ c.loop-row-test.true c.row-item.is none) (so_far.1 none) row)

pub returns : goal.returns
returns g c =
    let all : c.loop-row.row-index ≡ length c.args.rows.now = omega arith in
    rw (← all) c.loop-row.invariant.1
