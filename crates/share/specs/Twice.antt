-- Ask 9: plans are stretched by a steps and later by b more.
-- Assumes nothing.
use Rattle.std.specs.Prelude.{ℕ, List}
use Rattle.ground.specs.Folds.{list_to}
use Rattle.kinds.specs.declared.Task.{Task}
use Rattle.kinds.specs.Task.{at}
use Rattle.rule.specs.Rule.{share_of}
use Rattle.share.specs.Share.{least_of, share_at}
use Rattle.share.specs.Table.{shares}

-- the share at step b once the largest share is replaced by the share at step a
unfoldable pub share_again : Task → ℕ → ℕ → ℕ
share_again t a b = share_of (share_at t a) (least_of t) t.e b

-- the shares of the first n tasks, stretched once and stretched again
unfoldable pub shares_once : List Task → ℕ → ℕ → List ℕ
shares_once rows n k = list_to (shares rows k) n

unfoldable pub shares_again : List Task → ℕ → ℕ → ℕ → List ℕ
shares_again rows n a b = list_to (λ i. share_again (at rows i) a b) n
