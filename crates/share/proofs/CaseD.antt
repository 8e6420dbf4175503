-- Bench case D, stretched by 55 steps and then by 91 more, has the shares of step 146, by computation.
-- Assumes nothing.
use Rattle.ground.proofs.Kit.{List, [], ◌∷◌, ◌≡◌, refl}
use Rattle.ground.specs.Folds.{list_to}
use Rattle.kinds.specs.declared.Task.{Task}
use Rattle.kinds.specs.Task.{task}
use Rattle.share.specs.Share.{share_at}
use Rattle.share.specs.Twice.{share_again, shares_once, shares_again}

abbrev case_d : List Task
case_d = task 6 10 11 1000 ∷ task 6 10 30 1000 ∷ []

pub case-d : (shares_again case_d 2 55 91 ≡ 545455 ∷ 454000 ∷ []) × (shares_once case_d 2 146 ≡ 545455 ∷ 454000 ∷ [])
unfolding shares_again shares_once share_again share_at list_to
case-d = (refl, refl)
