-- `lent_input::run`: the step took what was read, and what it left is written. Assumes nothing.
use Rattle.std.proofs.Common.{rules, refl}
use Rattle.std.proofs.lemmas.Result.{on_ok_weaker}
use Rattle.lent_input.proofs.run.Goals as goal

pub returns : goal.returns
returns g c =
    on_ok_weaker c.write_all.result (λ wrote. record {
      given = _;
      lent = _;
      count = _;
      left = _;
      fits = search rules;
      read = search rules;
      end = search rules;
      buffer = refl;
      took = c.step-k.ensures;
      wrote = search rules;
    }) c.write_all.ensures.bytes
