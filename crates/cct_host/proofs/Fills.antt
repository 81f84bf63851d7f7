-- What a put makes of the current half of a journal.
use Rattle.std.proofs.Common.{◌≡◌, ◌∙◌, ℕ, suc, ◌+◌, ◌-◌, ap, arith, sym}
use Rattle.cct_disk.specs.declared.disk.Disk.{Ghosts}
use Rattle.cct_journal.specs.declared.journal.Journal.{Journal}
use Rattle.cct_journal.specs.Image.{half_room, kept_after, kept_before}
use Rattle.cct_journal.specs.Journal as journals
use Rattle.cct_host.specs.Host.{FillsOn}

none_more : (n : ℕ) → n - n ≡ 0
none_more n = omega arith

one_more : (n m : ℕ) → m ≡ n + 1 → m - n ≡ 1
one_more n m is = omega (arith, is)

then_suc : (n : ℕ) → n + 1 ≡ suc n
then_suc n = omega arith

module _ {D : Type 0} {g : Ghosts D} where
  -- without one it stays
  pub fills_none : (journal : Journal D g) → FillsOn journal journal
  fills_none journal =
      sym (ap (kept_after (half_room (g.size (journals.disk_of journal))) (journals.kept_of journal))
      (none_more (journals.used_of journal)))

  -- one more
  pub fills_one : (old new : Journal D g) → journals.used_of new ≡ journals.used_of old + 1 →
      journals.kept_of new ≡ kept_before (half_room (g.size (journals.disk_of old))) (journals.kept_of old) + 1 →
      FillsOn old new
  fills_one old new counted kept =
      let room = half_room (g.size (journals.disk_of old)) in
      kept ∙ then_suc (kept_before room (journals.kept_of old))
      ∙ sym (ap (kept_after room (journals.kept_of old)) (one_more (journals.used_of old) (journals.used_of new) counted))
