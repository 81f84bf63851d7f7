-- All calls but the last, and then that.
use Rattle.std.proofs.Common.{◌≡◌, ◌-◌, ◌∷◌, [], ℕ, length, map, reverse, take, ap, sym, subst, ◌∙◌, slice_index_or, rules}
use Rattle.cct_disk_queue.specs.Calls.{AreWithin, called}
use Rattle.cct_disk_queue.specs.declared.calls.Note.TheVariants.{Write}
use Rattle.cct_disk_queue.proofs.Images.{after_sized}
use Rattle.cct_disk_queue.proofs.Noted.{in_front, within_front, within_last}
use Rattle.cct_disk_queue.proofs.calls.+make_all.Goals as goal

pub make_all-requires : goal.make_all-requires
make_all-requires t c =
    let kept = c.args.kept.now in
    let row = c.args.notes.now in
    let some = c.in-len1-up.len_at_least in (
      search rules,
      (
        in_front kept row (Write 0 0 0) some (length kept) c.requires.there,
        within_front kept row (Write 0 0 0) some (length c.args.bytes.now.items) c.requires.within,
      ),
    )

pub make-requires-clause-within : goal.make-requires-clause-within
make-requires-clause-within t c =
    let kept = c.args.kept.now in
    let row = c.args.notes.now in
    let some = c.in-len1-up.len_at_least in
    let front = within_front kept row (Write 0 0 0) some (length c.args.bytes.now.items) c.requires.within in
    let same : length c.make_all.new.bytes.items ≡ length c.args.bytes.now.items =
    ap length c.make_all.ensures
    ∙ after_sized c.args.bytes.now.items (map (called kept) (reverse (take (length row - 1) row))) front in
    subst (λ (n : ℕ). AreWithin n (called kept (slice_index_or row (length row - 1) (Write 0 0 0)) ∷ [])) (sym same)
    (within_last kept row (Write 0 0 0) some (length c.args.bytes.now.items) c.requires.within)
