-- The table of the options, by computation. Assumes nothing.
use mathlib.Core.Path.{refl}
use Rattle.topjeska.specs.Options.{OptionTable}

pub options_hold : OptionTable
options_hold =
    record {
      sheet_none = λ s g l. refl;
      sheet_lengths = λ s g l. refl;
      sheet_panel = λ s g l. refl;
      sheet_both = λ s g l. refl;
      sheet_others = λ s g l. refl;
      call_none = λ m. refl;
      call_lengths = λ m. refl;
      call_panel = λ m. refl;
      call_both = λ m. refl;
      call_others = λ m. refl;
    }
