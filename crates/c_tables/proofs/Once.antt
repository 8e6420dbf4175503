-- No second answer meets what a call on a table promises: what is told, read as a call's own numbers, settles every field.
-- Assumes nothing.
use Rattle.ground.proofs.Kit.{ℕ, List, ◌≡◌, sym, ◌∙◌}
use lib.IntN.{ℤ}
use Rattle.kinds.specs.declared.Task.{Task}
use Rattle.kinds.specs.declared.Settings.{Settings}
use Rattle.kinds.specs.Answer.{Handed}
use Rattle.outcome.specs.Plan.{Outcome}
use Rattle.proposal.specs.Proposal as proposal
use Rattle.relief.specs.Relief.{Relieved}
use Rattle.c_numbers.specs.declared.ToldVerdict.{ToldVerdict}
use Rattle.c_numbers.proofs.Once.{told-verdict-one}
use Rattle.c_tables.specs.declared.Told.{Told}
use Rattle.c_tables.specs.declared.ToldMargin.{ToldMargin}
use Rattle.c_tables.specs.declared.ToldRelief.{ToldRelief}
use Rattle.c_tables.specs.Told.{told_handed, told_margin, ToldMeets, ToldLooked, ToldProposal, ToldRelieved}

-- number, place, step and looks
told_same : (r q : Told) → told_handed r ≡ told_handed q → r.looks ≡ q.looks → r ≡ q
told_same r q e l = λ i. record { number = (e i).number; step = (e i).value; looks = l i; place = (e i).place }

-- a finder that makes no looks
pub told-one : (o : Outcome) (r q : Told) (periods processors periods' processors' : List ℕ)
    → ToldMeets o r periods processors → ToldMeets o q periods' processors'
    → (r ≡ q) × ((periods ≡ periods') × (processors ≡ processors'))
told-one o r q periods processors periods' processors' a b =
    (told_same r q (a.answers ∙ sym b.answers) (a.no-looks ∙ sym b.no-looks), (a.grants ∙ sym b.grants, a.places ∙ sym b.places))

-- the quick finder
pub told-looked-one : (s : Settings) (rows : List Task) (n : ℕ) (old old' : List ℕ) (r q : Told) (periods processors periods' processors' : List ℕ)
    → ToldLooked s rows n old old' r periods processors → ToldLooked s rows n old old' q periods' processors'
    → (r ≡ q) × ((periods ≡ periods') × (processors ≡ processors'))
told-looked-one s rows n old old' r q periods processors periods' processors' a b =
    (told_same r q (a.answers ∙ sym b.answers) (a.count ∙ sym b.count), (a.grants ∙ sym b.grants, a.places ∙ sym b.places))

pub told-margin-one : (h : Handed ℤ) (r q : ToldMargin) → told_margin r ≡ h → told_margin q ≡ h → r ≡ q
told-margin-one h r q a b = let e = a ∙ sym b in λ i. record { number = (e i).number; place = (e i).place; margin = (e i).value }

-- the checker of a proposal
pub told-proposal-one : (o : proposal.Outcome) (r q : ToldVerdict) (loads other : List ℕ) → ToldProposal o r loads → ToldProposal o q other
    → (r ≡ q) × (loads ≡ other)
told-proposal-one o r q loads other a b = (told-verdict-one o.handed r q a.answers b.answers, a.leaves ∙ sym b.leaves)

-- the relief
pub told-relief-one : (o : Relieved) (r q : ToldRelief) (without other : List ℕ) → ToldRelieved o r without → ToldRelieved o q other
    → (r ≡ q) × (without ≡ other)
told-relief-one o r q without other a b =
    let e = a.answers ∙ sym b.answers in
    let l = a.least-told ∙ sym b.least-told in
    let m = a.more-told ∙ sym b.more-told in
    (λ i. record { number = (e i).number; least = l i; more = m i; place = (e i).place }, a.leaves ∙ sym b.leaves)
