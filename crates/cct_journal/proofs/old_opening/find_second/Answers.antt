use Rattle.std.proofs.Common.{ℕ, sym, subst, arith, MatchOption}
use Rattle.cct_model_lines.specs.declared.carry.Carry.{Carry}
use Rattle.cct_journal.specs.Half.{half}
use Rattle.cct_journal.specs.OldImage.{BeginsSecond}
use Rattle.cct_journal.specs.OldStands.{OldBeginsAt}
use Rattle.cct_journal.specs.declared.old_place.OldVersion.TheVariants.{Two}
use Rattle.cct_journal.proofs.OldFound.{second_alien, second_begins, second_read}
use Rattle.cct_journal.proofs.old_opening.find_second.Goals as goal

pub returns-in_default-clause-refused : goal.returns-in_default-clause-refused
returns-in_default-clause-refused g c image told is current =
    let whole = half image c.args.current.second in
    second_alien image c.args.current current is
    (subst
    (λ o. MatchOption o
    ((generation base : ℕ) (carry : Carry) → BeginsSecond c.args.current.second generation base carry whole → ⊥)
    (λ s. BeginsSecond c.args.current.second s.generation s.base s.carry whole)) c.in_default.is
    (second_read c.args.current.second c.read_in.new.room whole c.read_old_start.result
    (c.in_ok-read_in.ensures.gives image told) c.read_old_start.ensures.begins c.read_old_start.ensures.none))

pub returns-clause-begins : goal.returns-clause-begins
returns-clause-begins g c image told is current =
    let whole = half image c.args.current.second in
    subst (λ p. OldBeginsAt image (record { version = Two; place = p })) (sym c.place_at.ensures)
    (second_begins image c.args.current c.in-Some.start (omega (arith, g.met.D.Disk.fits _ image told, c.requires)) current
    (subst
    (λ o. MatchOption o
    ((generation base : ℕ) (carry : Carry) → BeginsSecond c.args.current.second generation base carry whole → ⊥)
    (λ s. BeginsSecond c.args.current.second s.generation s.base s.carry whole)) c.in-Some.is
    (second_read c.args.current.second c.read_in.new.room whole c.read_old_start.result
    (c.in_ok-read_in.ensures.gives image told) c.read_old_start.ensures.begins c.read_old_start.ensures.none)))
