-- `writer::put_settings` meets its contract. Assumes nothing.
use Rattle.ground.proofs.Kit.{arith}
use Rattle.field.specs.Number.{bytes_of}
use Rattle.field.proofs.Stores.{put_then}
use Rattle.sheet.specs.Sections.{setting_size}
use Rattle.writer.specs.Encode.{settings_bytes}
use Rattle.writer.proofs.Rows.{put_front}
use Rattle.writer.proofs.put_settings.Goals as goal

pub returns : goal.returns
unfolding settings_bytes
returns c =
    let rows = put_front (bytes_of setting_size) 0 setting_size c.from-numbers.result c.args.count (omega arith) (c.put_section.ensures 0) in
    rw (← c.from-numbers.ensures) (put_then c.put-first.ensures rows)
