-- What is reported of the operator's money is conserved.
use Rattle.std.specs.Prelude.{◌≡◌, ◌+◌, List, ⊤}
use Rattle.cct_model.specs.terms.device.Setup.{Setup}
use Rattle.cct_model.specs.lines.entry.Entry.{Entry}
use Rattle.cct_model.specs.lines.entry.Entry.TheVariants as entry
use Rattle.cct_model.specs.lines.entry.Totals.{Totals}
use Rattle.cct_model.specs.Records.{records}
use Rattle.cct_model.specs.Money.{posted_in}

-- What is available, reserved, paid and sold is together the value of all coins posted before.
abbrev pub IsConserved : Setup → List Entry → Totals → Type 0
IsConserved setup past t =
    t.available + t.reserved + t.paid + t.sold ≡ posted_in setup (records past)

-- An entry that shows the operator's money shows it so.
abbrev pub IsBalanced : Setup → List Entry → Entry → Type 0
IsBalanced setup past (entry.Balance t) = IsConserved setup past t
IsBalanced setup past e = ⊤
