-- `sheet::read_head` meets its contract. Assumes nothing.
use Rattle.ground.proofs.Kit.{sym}
use Rattle.sheet.proofs.HeadSteps.{no-settings, settings-counted, settings-wrong, settings-due, room, settings-end}
use Rattle.sheet.proofs.HeadSteps.{settings-read, count-end, head_read, many, begun}
use Rattle.sheet.proofs.Stages.{settings-few}
use Rattle.sheet.proofs.read_head.Goals as goal

pub returns-in_default : goal.returns-in_default
returns-in_default c = no-settings _ c.requires c.in_default.ensures

pub returns-then-not-settings_fit : goal.returns-then-not-settings_fit
returns-then-not-settings_fit c =
    let counted = settings-counted _ c.requires c.in-Some.ensures c.from-count.ensures in
    settings-wrong counted (sym c.if-not-settings_fit.ensures)

pub slice_bounds-numbers-end : goal.slice_bounds-numbers-end
slice_bounds-numbers-end c = settings-few _ (sym c.if-not-settings_fit.ensures)

pub slice_bounds-read_section-end : goal.slice_bounds-read_section-end
slice_bounds-read_section-end c =
    let counted = settings-counted _ c.requires c.in-Some.ensures c.from-count.ensures in
    sym (room counted (sym c.if-not-settings_fit.ensures))

pub read_section-requires : goal.read_section-requires
read_section-requires c = settings-due (settings-counted _ c.requires c.in-Some.ensures c.from-count.ensures)

pub returns-in_default-read_section : goal.returns-in_default-read_section
returns-in_default-read_section c =
    let counted = settings-counted _ c.requires c.in-Some.ensures c.from-count.ensures in
    settings-end counted (sym c.if-not-settings_fit.ensures) c.in_default-read_section.ensures

pub returns-in_default-read : goal.returns-in_default-read
returns-in_default-read c =
    let counted = settings-counted _ c.requires c.in-Some.ensures c.from-count.ensures in
    let settings = settings-read counted (sym c.if-not-settings_fit.ensures) c.in-Some-read_section.ensures in
    count-end settings c.in_default-read.ensures

pub returns-then-n-gt-MOST_TASKS : goal.returns-then-n-gt-MOST_TASKS
returns-then-n-gt-MOST_TASKS c =
    let counted = settings-counted _ c.requires c.in-Some.ensures c.from-count.ensures in
    let settings = settings-read counted (sym c.if-not-settings_fit.ensures) c.in-Some-read_section.ensures in
    let head = head_read settings c.in-Some-read.ensures c.from-n.ensures in
    many head c.if-n-gt-MOST_TASKS.true

pub returns : goal.returns
returns c =
    let counted = settings-counted _ c.requires c.in-Some.ensures c.from-count.ensures in
    let settings = settings-read counted (sym c.if-not-settings_fit.ensures) c.in-Some-read_section.ensures in
    let head = head_read settings c.in-Some-read.ensures c.from-n.ensures in
    begun head c.from-settings.ensures c.if-n-gt-MOST_TASKS.false
