-- `office_sheet::setting_of` meets its contract. Assumes nothing.
use Rattle.ground.proofs.Kit.{◌∙◌, ap}
use Rattle.office_sheet.specs.Written.{setting_by, setting_of}
use Rattle.office_sheet.proofs.Entering.{setting_tried}
use Rattle.office_sheet.proofs.setting_of.Goals as goal

pub returns-in_err-number : goal.returns-in_err-number
unfolding setting_of
returns-in_err-number c = c.from_residual.ensures ∙ ap setting_by c.in_err-number.ensures

pub returns : goal.returns
unfolding setting_of
returns c =
    c.ok.ensures.value ∙ (setting_tried c.in_ok-number.number _ c.try_from.ensures ∙ ap setting_by c.in_ok-number.ensures)
