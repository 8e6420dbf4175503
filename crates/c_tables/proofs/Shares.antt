-- 32 bits hold the share of any record.
-- Assumes nothing.
use Rattle.ground.proofs.Kit.{ℕ, ◌≤◌, arith}
use Rattle.ground.proofs.Cases.{by_bool}
use Rattle.kinds.specs.declared.Task.{Task}
use Rattle.kinds.specs.declared.Settings.{Settings}
use Rattle.kinds.specs.Limits.{scale}
use Rattle.kinds.specs.Task.{priced, is_good}
use Rattle.kinds.proofs.Records.{good-is}
use Rattle.share.specs.Share.{share_under}
use Rattle.share.proofs.Tasks.{share-most}
use Rattle.share.proofs.Under.{good-shared, bad-shared}

pub shared-most : (s : Settings) (t : Task) (k : ℕ) → share_under s t k ≤ scale
shared-most s t k =
    by_bool (is_good s.swap s.notch t)
    (λ g. rw (good-shared s t k g) (share-most (priced s.swap t) (good-is s.swap s.notch t g) k))
    (λ b. rw (bad-shared s t k b) (omega arith))
