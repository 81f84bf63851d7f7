-- The range holds what the choice says.
use Rattle.std.proofs.Common.{◌≡◌, ℕ, ◌-◌, List, ◌++◌, length, take, drop, ◌∙◌, ap, arith, rules, length-append, length-drop}
use Rattle.std.proofs.lemmas.List.{take_all, drop_at}
use Rattle.cct_disk.specs.Content.{Content, window}
use Rattle.cct_disk.specs.Traced.{content_of}
use Rattle.cct_disk.proofs.Ranges.{length-window}
use Rattle.cct_disk.proofs.Tears.{tears}
use Rattle.cct_disk.proofs.traced.Traced.write_torn.Goals as goal

pub returns : goal.returns
returns c =
    let old = content_of c.args.self.now in
    let bytes = c.args.bytes.now in
    let stood = window c.args.at (length bytes) old.bytes in
    let kept = c.deref.result.now in
    let kept_is : kept ≡ old.replaced ++ stood =
    c.deref.ensures.value ∙ ap (λ (new : Content). new.replaced) c.write.ensures.content_is in
    let from = c.len.result - length bytes in
    let before : length old.replaced ≡ from =
    omega (
      arith,
      ap length c.deref.ensures.value,
      c.len.ensures,
      ap length kept_is,
      length-append old.replaced stood,
      length-window c.args.at (length bytes) old.bytes c.requires.place,
    ) in
    let replaced_is : take (length kept - from) (drop from kept) ≡ stood =
    take_all _ _ (omega (arith, length-drop from kept)) ∙ ap (λ (l : List ℕ). drop from l) kept_is ∙ drop_at old.replaced stood from before in
    record {
      traced = search rules;
      content_is = tears c.args.choice c.args.at bytes old c.requires.place (content_of c.write.new.self)
          c.write.ensures.content_is _ c.choose.new.bytes.items replaced_is c.choose.ensures.outside
          c.choose.ensures.inside;
      changes_are = c.write.ensures.changes_are;
    }
