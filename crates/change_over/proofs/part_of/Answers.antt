-- `change_over::part_of` meets its contract: each `return` is one law of `Parts`. Assumes nothing.
use Rattle.ground.proofs.Kit.{sym, ◌∙◌}
use Rattle.change_over.proofs.Sections.{section-fits}
use Rattle.change_over.proofs.Parts.{takes-proposed, takes-standing, takes-nothing}
use Rattle.change_over.proofs.part_of.Goals as goal

pub tasks_of-requires : goal.tasks_of-requires
tasks_of-requires c =
    let fits = section-fits _ _ _ (sym c.section_of.ensures ∙ c.in-Some.is) in
    (fits.0, fits.1.0)

pub returns-in-Some : goal.returns-in-Some
returns-in-Some c =
    c.tasks_of.ensures ∙ takes-proposed _ _ _ _ (sym c.section_of.ensures ∙ c.in-Some.is)

pub tasks_of-requires-in-Some-section_of : goal.tasks_of-requires-in-Some-section_of
tasks_of-requires-in-Some-section_of c =
    let fits = section-fits _ _ _ (sym c.section_of-2.ensures ∙ c.in-Some-section_of.is) in
    (fits.0, fits.1.0)

pub returns-in-Some-section_of : goal.returns-in-Some-section_of
returns-in-Some-section_of c =
    c.tasks_of-in-Some-section_of.ensures
    ∙ takes-standing _ _ (sym c.section_of.ensures ∙ c.in_default.is) _ _
    (sym c.section_of-2.ensures ∙ c.in-Some-section_of.is)

pub returns : goal.returns
returns c =
    takes-nothing _ _ (sym c.section_of.ensures ∙ c.in_default.is)
    (sym c.section_of-2.ensures ∙ c.in_default-section_of.is)
