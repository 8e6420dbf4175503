-- No two refusals have the same number and place, and none has the number of an acceptance.
-- Assumes nothing.
use Rattle.ground.proofs.Kit.{ℕ, ◌≤◌, ◌≡◌, refl, sym, ◌∙◌, ap, arith, eqb}
use Rattle.ground.specs.Choice.{pick}
use Rattle.ground.proofs.Cases.{by_le}
use Rattle.kinds.specs.declared.Refusal.{Refusal}
use Rattle.kinds.specs.declared.Refusal.TheVariants.{NoSuchPolicy, Misset, TooManyTasks, PolicyNotServed, OutputTooShort}
use Rattle.kinds.specs.declared.Refusal.TheVariants.{BadRecord, NoStepPasses, SheetEnds, WrongSettingsCount, WrongResultCount}
use Rattle.kinds.specs.declared.Refusal.TheVariants.{BytesAfterLast, NoSuchRecord, ProcessorOutOfRange, ProcessorOverfull, PolicyWithdrawn}
use Rattle.kinds.specs.declared.Refusal.TheVariants.{BadLine, BadPeriod, NoResults, WrongResult}
use Rattle.kinds.specs.Refusal.{number_of, place_of}

-- from its number and place a refusal can be had back
again : ℕ → ℕ → Refusal
again number place =
    pick (eqb number 1) NoSuchPolicy
    (pick (eqb number 2) Misset
    (pick (eqb number 3) (TooManyTasks place)
    (pick (eqb number 4) PolicyNotServed
    (pick (eqb number 5) (OutputTooShort place)
    (pick (eqb number 6) (BadRecord place)
    (pick (eqb number 7) NoStepPasses
    (pick (eqb number 8) (SheetEnds place)
    (pick (eqb number 9) WrongSettingsCount
    (pick (eqb number 10) (WrongResultCount place)
    (pick (eqb number 11) (BytesAfterLast place)
    (pick (eqb number 12) (NoSuchRecord place)
    (pick (eqb number 13) (ProcessorOutOfRange place)
    (pick (eqb number 14) (ProcessorOverfull place)
    (pick (eqb number 15) PolicyWithdrawn
    (pick (eqb number 16) (BadLine place)
    (pick (eqb number 17) (BadPeriod place)
    (pick (eqb number 18) NoResults
    (WrongResult place))))))))))))))))))

again-is : (r : Refusal) → again (number_of r) (place_of r) ≡ r
unfolding again
again-is NoSuchPolicy = refl
again-is Misset = refl
again-is (TooManyTasks place) = refl
again-is PolicyNotServed = refl
again-is (OutputTooShort place) = refl
again-is (BadRecord place) = refl
again-is NoStepPasses = refl
again-is (SheetEnds place) = refl
again-is WrongSettingsCount = refl
again-is (WrongResultCount place) = refl
again-is (BytesAfterLast place) = refl
again-is (NoSuchRecord place) = refl
again-is (ProcessorOutOfRange place) = refl
again-is (ProcessorOverfull place) = refl
again-is PolicyWithdrawn = refl
again-is (BadLine place) = refl
again-is (BadPeriod place) = refl
again-is NoResults = refl
again-is (WrongResult place) = refl

pub refusal-one : (r q : Refusal) → number_of r ≡ number_of q → place_of r ≡ place_of q → r ≡ q
refusal-one r q n p =
    sym (again-is r) ∙ (ap (λ (x : ℕ). again x (place_of r)) n ∙ (ap (λ (x : ℕ). again (number_of q) x) p ∙ again-is q))

-- the number 0 would be the last one's, 19
pub refusal-numbered : (r : Refusal) → 1 ≤ number_of r
unfolding again
refusal-numbered r =
    by_le 1 (number_of r) (λ l. l)
    (λ l.
    let none : number_of r ≡ 0 = omega arith in
    let last : r ≡ WrongResult (place_of r) = sym (again-is r) ∙ ap (λ (x : ℕ). again x (place_of r)) none in
    absurd (omega (arith, ap number_of last)))
