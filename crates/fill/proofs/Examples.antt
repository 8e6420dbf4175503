-- Document 01's whole case, worked out over the definition, and the line of a refusal.
-- Assumes nothing.
use Rattle.ground.proofs.Kit.{[], ◌∷◌, ◌≡◌, refl}
use Rattle.ground.specs.First.{first_from, first_below}
use Rattle.ground.specs.Least.{least_up_to}
use Rattle.ground.specs.Folds.{sum_to, max_to, list_to, join_to}
use Rattle.ground.specs.Laid.{over}
use Rattle.kinds.specs.Task.{is_within, is_good}
use Rattle.share.specs.Share.{share_at, saturation_at, period_at, load_at}
use Rattle.share.specs.Table.{full_compression, first_bad, periods_at, priced_rows}
use Rattle.policy.specs.Passing.{passes, least_step}
use Rattle.admission.specs.Admission.{gate, admission}
use Rattle.outcome.specs.Plan.{processors_at, found}
use Rattle.plain_finder.specs.Asked.{asked}
use Rattle.field.specs.Number.{number_at, bytes_of}
use Rattle.sheet.specs.Sections.{settings_fit, results_fit}
use Rattle.sheet.specs.Reading.{settings_count, task_count, result_count, sheet_in, read_rows, read_sheet}
use Rattle.sheet.specs.Rows.{task_bytes, granted_bytes, rows_bytes}
use Rattle.writer.specs.Encode.{settings_bytes, encode}
use Rattle.numeral.specs.Decimal.{digits_in, decimal}
use Rattle.fill.specs.Results.{results_of, with_plan}
use Rattle.refusal_line.specs.Line.{refusal_line}
use Rattle.fill.specs.Fill.{planned_sheet, planned, filled}

-- "Output: the same without its last two bytes, then `01 00 0A 00 00 00 00 00`."
whole-case : filled
    (2 ∷ 0 ∷ 1 ∷ 0 ∷ 1 ∷ 0 ∷ 1 ∷ 0 ∷ 6 ∷ 0 ∷ 0 ∷ 0 ∷ 10 ∷ 0 ∷ 0 ∷ 0 ∷ 20 ∷ 0 ∷ 0 ∷ 0 ∷ 232 ∷ 3 ∷ 0 ∷ 0 ∷ 0 ∷ 0 ∷ [])
    ≡ 2 ∷ 0 ∷ 1 ∷ 0 ∷ 1 ∷ 0 ∷ 1 ∷ 0 ∷ 6 ∷ 0 ∷ 0 ∷ 0 ∷ 10 ∷ 0 ∷ 0 ∷ 0 ∷ 20 ∷ 0 ∷ 0 ∷ 0 ∷ 232 ∷ 3 ∷ 0 ∷ 0
    ∷ 1 ∷ 0 ∷ 10 ∷ 0 ∷ 0 ∷ 0 ∷ 0 ∷ 0 ∷ []
unfolding
    filled planned planned_sheet with_plan results_of first_from first_below least_up_to sum_to max_to list_to is_within is_good share_at saturation_at period_at load_at
    full_compression first_bad periods_at priced_rows passes least_step gate admission processors_at found asked number_at bytes_of settings_fit results_fit
    over settings_count task_count result_count sheet_in read_rows read_sheet task_bytes granted_bytes rows_bytes join_to settings_bytes encode
whole-case = refl

-- Ask 2: "A record with C + 2w above Tmin is refused by 6": the same case with three settings and w = 3
swap-refused : filled
    (3 ∷ 0 ∷ 1 ∷ 0 ∷ 1 ∷ 0 ∷ 3 ∷ 0 ∷ 1 ∷ 0 ∷ 6 ∷ 0 ∷ 0 ∷ 0 ∷ 10 ∷ 0 ∷ 0 ∷ 0 ∷ 20 ∷ 0 ∷ 0 ∷ 0 ∷ 232 ∷ 3 ∷ 0 ∷ 0 ∷ 0 ∷ 0 ∷ [])
    ≡ refusal_line 6 0
unfolding
    filled planned planned_sheet first_from first_below is_within is_good first_bad gate admission found asked number_at settings_fit results_fit list_to over
    settings_count task_count result_count sheet_in read_rows read_sheet
swap-refused = refl

-- Ask 5: "Tmin and Tmax must be multiples of q, or refusal 6": the same case with four settings, w = 0 and q = 3
notch-refused : filled
    (4 ∷ 0 ∷ 1 ∷ 0 ∷ 1 ∷ 0 ∷ 0 ∷ 0 ∷ 3 ∷ 0 ∷ 1 ∷ 0 ∷ 6 ∷ 0 ∷ 0 ∷ 0 ∷ 10 ∷ 0 ∷ 0 ∷ 0 ∷ 20 ∷ 0 ∷ 0 ∷ 0 ∷ 232 ∷ 3 ∷ 0 ∷ 0 ∷ 0 ∷ 0 ∷ [])
    ≡ refusal_line 6 0
unfolding
    filled planned planned_sheet first_from first_below is_within is_good first_bad gate admission found asked number_at settings_fit results_fit list_to over
    settings_count task_count result_count sheet_in read_rows read_sheet
notch-refused = refl

-- Ask 10: "another number is refused by 2": the same case with five settings, w = 0, q = 1 and edition 3
edition-refused : filled
    (5 ∷ 0 ∷ 1 ∷ 0 ∷ 1 ∷ 0 ∷ 0 ∷ 0 ∷ 1 ∷ 0 ∷ 3 ∷ 0
    ∷ 1 ∷ 0 ∷ 6 ∷ 0 ∷ 0 ∷ 0 ∷ 10 ∷ 0 ∷ 0 ∷ 0 ∷ 20 ∷ 0 ∷ 0 ∷ 0 ∷ 232 ∷ 3 ∷ 0 ∷ 0 ∷ 0 ∷ 0 ∷ [])
    ≡ refusal_line 2 0
unfolding
    filled planned planned_sheet gate admission found asked number_at settings_fit results_fit list_to over settings_count task_count result_count sheet_in read_rows
    read_sheet
edition-refused = refl

-- `refused 8 at 1` and a newline
one_byte : filled (2 ∷ []) ≡ 114 ∷ 101 ∷ 102 ∷ 117 ∷ 115 ∷ 101 ∷ 100 ∷ 32 ∷ 56 ∷ 32 ∷ 97 ∷ 116 ∷ 32 ∷ 49 ∷ 10 ∷ []
unfolding filled planned refusal_line decimal digits_in read_sheet
one_byte = refl
