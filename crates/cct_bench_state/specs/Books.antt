-- What the records of a journal show: the carry of the earlier ones, and the others after it,
-- newest first.
use Rattle.std.specs.Prelude.{◌≡◌, ℕ, ◌&&◌, max, Bool, true, List, [], ◌∷◌, ◌++◌, flat_map, Option}
use Rattle.std.specs.Prelude.{Some, None, ⊤}
use Rattle.cct_journal_carry.specs.Tally.{carry_in, setup_of}
use Rattle.cct_journal_carry.specs.declared.tally.Tally.{Tally}
use Rattle.cct_model.specs.Carry.{Fits, available_held, carry_with, follows_carry, reserved_held}
use Rattle.cct_model.specs.Records.{id_of}
use Rattle.cct_model.specs.Text.{line_of}
use Rattle.cct_model.specs.lines.carry.Carry.{Carry}
use Rattle.cct_model.specs.lines.entry.Entry.TheVariants as entry
use Rattle.cct_model.specs.lines.entry.Totals.{Totals}
use Rattle.cct_model.specs.lines.record.Record.{Record}
use Rattle.cct_model.specs.terms.device.Setup.{Setup}
use Rattle.cct_bench_report.specs.Listing.{total_in}
use Rattle.cct_bench_report.specs.Sums.{sums_in, with_record}
use Rattle.cct_bench_report.specs.declared.sums.Sums.{Sums}
use Rattle.cct_bench_state.specs.Account.{accounts_after}
use Rattle.cct_bench_state.specs.Lines.{account_lines, last_line}
use Rattle.cct_bench_state.specs.declared.books.Books.{Books}

-- The greatest id that was used.
abbrev pub last_after : Carry → List Record → ℕ
last_after c [] = c.last_id
last_after c (r ∷ before) = max (id_of r) (last_after c before)

-- The sums over all records.
abbrev pub sums_after : Carry → List Record → Sums
sums_after c [] = sums_in c
sums_after c (r ∷ before) = with_record r (sums_after c before)

-- The carry of all records, by a setup.
abbrev pub carry_after : Setup → Carry → List Record → Carry
carry_after setup c [] = c
carry_after setup c (r ∷ before) = carry_with setup r (carry_after setup c before)

-- Each record follows those before it.
abbrev pub follow_after : Setup → Carry → List Record → Bool
follow_after setup c [] = true
follow_after setup c (r ∷ before) =
    follows_carry setup (carry_after setup c before) r && follow_after setup c before

-- The records are those of a machine with this setup, where one is given.
abbrev pub SuitsSetup : Option Setup → Carry → List Record → Type 0
SuitsSetup None c before = ⊤
SuitsSetup (Some setup) c before = Fits setup c × (follow_after setup c before ≡ true)

-- What the operator has by the carry of all records.
abbrev pub money_in : Setup → Carry → Totals
money_in setup c = record {
  available = available_held setup c 0;
  reserved = reserved_held setup c;
  paid = c.paid_value;
  sold = c.sold;
}

-- The line of the money, where a setup is given.
abbrev pub money_lines : Option Setup → Carry → List Record → List (List ℕ)
money_lines None c before = []
money_lines (Some setup) c before =
    line_of (entry.Balance (money_in setup (carry_after setup c before))) ∷ []

-- The lines of a state: those of each address, in rising order, the last id, the sums, and the
-- money.
abbrev pub state_lines : Option Setup → Carry → List Record → List (List ℕ)
state_lines setup c before =
    flat_map account_lines (accounts_after c before)
    ++ last_line (last_after c before) ∷ line_of (total_in (sums_after c before))
    ∷ money_lines setup c before

-- A tally, where a setup is given, went over the records, and each of them follows.
abbrev pub Tallies : Option Setup → Carry → List Record → Option Tally → Type 0
Tallies None c before tally = tally ≡ None
Tallies (Some setup) c before None = ⊥
Tallies (Some setup) c before (Some tally) =
    (setup_of tally ≡ setup) × (carry_in tally ≡ carry_after setup c before)
    × SuitsSetup (Some setup) c before

-- Books were kept over these records after those of a carry, which suit the setup, where one is
-- given.
pub record Keeps (setup : Option Setup) (c : Carry) (before : List Record) (books : Books) : Type 0
  where
    pub accounts : books.accounts.items ≡ accounts_after c before
    pub last : books.last_id ≡ last_after c before
    pub sums : books.sums ≡ sums_after c before
    pub tallies : Tallies setup c before books.tally

-- The line of the money that a tally shows, where there is one.
abbrev pub tally_lines : Option Tally → List (List ℕ)
tally_lines None = []
tally_lines (Some tally) = line_of (entry.Balance (money_in (setup_of tally) (carry_in tally))) ∷ []
