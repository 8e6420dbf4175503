-- `sheet::read_rows` meets its contract. Assumes nothing.
use Rattle.ground.proofs.Kit.{sym}
use Rattle.sheet.proofs.RowSteps.{tasks-end, tasks-read, count-end, count-read, count-wrong}
use Rattle.sheet.proofs.RowSteps.{results-few, results-room, results-due, results_end, results-read, bytes_after, all_read}
use Rattle.sheet.proofs.read_rows.Goals as goal

pub returns-in_default : goal.returns-in_default
returns-in_default c = tasks-end c.requires c.in_default.ensures

pub returns-in_default-read : goal.returns-in_default-read
returns-in_default-read c =
    let tasks = tasks-read c.requires c.in-Some.ensures in
    count-end tasks c.in_default-read.ensures

pub returns-then-not-results_fit : goal.returns-then-not-results_fit
returns-then-not-results_fit c =
    let tasks = tasks-read c.requires c.in-Some.ensures in
    let count = count-read tasks c.in-Some-read.ensures c.from-r.ensures in
    count-wrong count (sym c.if-not-results_fit.ensures)

pub slice_bounds-granted-end : goal.slice_bounds-granted-end
slice_bounds-granted-end c =
    let tasks = tasks-read c.requires c.in-Some.ensures in
    let count = count-read tasks c.in-Some-read.ensures c.from-r.ensures in
    results-few count (sym c.if-not-results_fit.ensures)

pub slice_bounds-read_section-end-2 : goal.slice_bounds-read_section-end-2
slice_bounds-read_section-end-2 c =
    let tasks = tasks-read c.requires c.in-Some.ensures in
    let count = count-read tasks c.in-Some-read.ensures c.from-r.ensures in
    sym (results-room count (sym c.if-not-results_fit.ensures))

pub read_section-requires-2 : goal.read_section-requires-2
read_section-requires-2 c =
    let tasks = tasks-read c.requires c.in-Some.ensures in
    results-due (count-read tasks c.in-Some-read.ensures c.from-r.ensures)

pub returns-in_default-read_section : goal.returns-in_default-read_section
returns-in_default-read_section c =
    let tasks = tasks-read c.requires c.in-Some.ensures in
    let count = count-read tasks c.in-Some-read.ensures c.from-r.ensures in
    results_end count (sym c.if-not-results_fit.ensures) c.in_default-read_section.ensures

pub returns-then-end-s : goal.returns-then-end-s
returns-then-end-s c =
    let tasks = tasks-read c.requires c.in-Some.ensures in
    let count = count-read tasks c.in-Some-read.ensures c.from-r.ensures in
    let results = results-read count (sym c.if-not-results_fit.ensures) c.in-Some-read_section.ensures in
    bytes_after results c.if-end-s.true

pub returns : goal.returns
returns c =
    let tasks = tasks-read c.requires c.in-Some.ensures in
    let count = count-read tasks c.in-Some-read.ensures c.from-r.ensures in
    let results = results-read count (sym c.if-not-results_fit.ensures) c.in-Some-read_section.ensures in
    all_read results c.if-end-s.false
