-- What is known of a disk whose state is reported.
use Rattle.std.specs.Prelude.{ℕ, List}
use Rattle.cct_journal.specs.Image.{HasFrom, IsAlien, IsBadAt}
use Rattle.cct_bench_state.specs.Telling.{Known}

-- Its reads give this image.
abbrev pub of_image : List ℕ → Known
of_image image = record { has = HasFrom image; alien = IsAlien image; bad = IsBadAt image }

-- Nothing is known.
abbrev pub any_disk : Known
any_disk = record { has = λ base c records. Unit {0}; alien = Unit {0}; bad = λ index. Unit {0} }
