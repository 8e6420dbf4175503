-- Station sheets in numbers that cross to C.
-- Assumes nothing.
use Rattle.std.specs.Prelude.{ℕ}
use Rattle.kinds.specs.declared.Sheet.{Sheet}
use Rattle.kinds.specs.Policy.{policy_number}
use Rattle.kinds.specs.Answer.{Handed}
use Rattle.change_over.specs.declared.Which.{Which}
use Rattle.change_over.specs.declared.Which.TheVariants.{Standing, Proposed}
use Rattle.change_over.specs.declared.Part.{Part}
use Rattle.c_numbers.specs.Numbers.{station_settings}
use Rattle.c_sheets.specs.declared.StationSheet.{StationSheet}
use Rattle.c_sheets.specs.declared.ToldReading.{ToldReading}
use Rattle.c_sheets.specs.declared.ToldPart.{ToldPart}

-- the sheet that the numbers stand for
abbrev pub sheet_of : StationSheet → Sheet
sheet_of x = record { count = x.count; settings = station_settings x.station; table = x.table; results = x.results }

-- a sheet in numbers
abbrev pub told_sheet : Sheet → StationSheet
told_sheet x =
    record {
      count = x.count;
      station =
          record {
            policy = policy_number x.settings.policy;
            m = x.settings.m;
            w = x.settings.swap;
            q = x.settings.notch;
            edition = x.settings.edition;
          };
      table = x.table;
      results = x.results;
    }

abbrev pub in_numbers : Handed Sheet → Handed StationSheet
in_numbers h = record { number = h.number; place = h.place; value = told_sheet h.value }

abbrev pub told_reading : ToldReading → Handed StationSheet
told_reading r = record { number = r.number; place = r.place; value = r.sheet }

-- the two lent sheets as numbers
abbrev pub number_of_sheet : Which → ℕ
number_of_sheet Standing = 0
number_of_sheet Proposed = 1

abbrev pub told_part : Part → ToldPart
told_part p = record { which = number_of_sheet p.which; place = p.from; size = p.size }
