-- One place more is set.
use Rattle.std.proofs.Common.{◌≡◌, inl, inr, ℕ, ◌+◌, ◌<◌, length, get_or, sym, ◌∙◌, ap, subst, arith}
use Rattle.std.proofs.lemmas.Bool.{cases_eq}
use Rattle.std.proofs.lemmas.Grind.{get_or-set_at}
use Rattle.std.proofs.lemmas.List.{get_or_read, get_or-set_other}
use Rattle.cct_disk.proofs.Ranges.{set_within}
use Rattle.cct_disk.specs.Content.{cut_byte}
use Rattle.cct_disk.proofs.traced.choose.Goals as goal

pub loop-i-preserved : goal.loop-i-preserved
loop-i-preserved c =
    let before = c.loop-i.invariant in
    let bytes = c.args.bytes.now.items in
    let old = c.args.old.now in
    let place = c.args.at + c.loop-i.i in
    let within : place < length c.loop-i.bytes.items =
    omega (arith, before.outside.size, c.requires, c.loop-i-test.true) in
    let now_is : c.index.result.now ≡ get_or bytes place 0 =
    get_or_read c.loop-i.bytes.items place c.index.result.now within c.index.ensures 0
    ∙ before.undone c.loop-i.i (omega arith) in
    let set_is : c.byte_after_cut.result ≡ cut_byte c.args.choice place (get_or old c.loop-i.i 0) (get_or bytes place 0) =
    c.byte_after_cut.ensures ∙ ap (λ (n : ℕ). cut_byte c.args.choice place (get_or old c.loop-i.i 0) n) now_is in
    record {
      outside = set_within _ _ _ _ _ _ (omega arith) (omega (arith, c.loop-i-test.true)) before.outside;
      done = λ k less. elim (cases_eq k c.loop-i.i) [
        | inl this ↦ get_or-set_at c.loop-i.bytes.items place (c.args.at + k) c.byte_after_cut.result 0
            (omega (arith, this)) within
            ∙ subst (λ (j : ℕ). c.byte_after_cut.result ≡ cut_byte c.args.choice (c.args.at + j)
            (get_or old j 0) (get_or bytes (c.args.at + j) 0)) (sym this) set_is
        | inr other ↦ get_or-set_other c.loop-i.bytes.items place (c.args.at + k) c.byte_after_cut.result 0
            (omega (arith, other))
            ∙ before.done k (omega (arith, less, other))
      ];
      undone = λ k more.
          get_or-set_other c.loop-i.bytes.items place (c.args.at + k) c.byte_after_cut.result 0
          (omega (arith, more))
          ∙ before.undone k (omega (arith, more));
    }
