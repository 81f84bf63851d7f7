-- A turn looks at one write more.
use Rattle.std.proofs.Common.{◌≡◌, ℕ, ◌-◌, ◌≤◌, List, [], ◌∷◌, ◌++◌, length, take, reverse, refl, sym, ◌∙◌, ap}
use Rattle.std.proofs.Common.{subst, arith, append_assoc}
use Rattle.std.proofs.lemmas.List.{append-nil, take_all, take-append-le, reverse-append}
use Rattle.cct_disk.specs.Traced.{content_of}
use Rattle.cct_disk.specs.declared.traced.Change.{Change}
use Rattle.cct_disk.specs.declared.traced.Change.TheVariants.{Wrote}
use Rattle.cct_disk.proofs.Cuts.{Cutting, cutting_starts, cutting_goes_on, cutting_is}
use Rattle.cct_disk.proofs.traced.Traced.rewrite_unsynced.Goals as goal

pub loop-span-init : goal.loop-span-init
loop-span-init c =
    let old = content_of c.args.self.now in
    let all : take c.len-left.result c.args.self.now.trace.items ≡ c.args.self.now.trace.items =
    take_all _ _ (omega arith) in
    let kept = c.requires.traced.kept in
    record {
      entry_room = kept.entry_room;
      byte_room = kept.byte_room;
      among = omega arith;
      again = [];
      traced = sym (append-nil c.args.self.now.trace.items);
      cutting = subst (λ (end : ℕ). Cutting c.args.choice old old
          (reverse (take c.len-left.result c.args.self.now.trace.items)) end) (sym (omega arith))
          (subst (λ (l : List Change). Cutting c.args.choice old old (reverse l)
          (length c.args.self.now.replaced.items)) (sym all)
          (cutting_starts c.args.choice old kept.within kept.all_replaced));
      changes = refl;
    }

pub loop-span-preserved : goal.loop-span-preserved
loop-span-preserved c =
    let before = c.loop-span.invariant in
    let trace = c.args.self.now.trace.items in
    let left = c.loop-span.left in
    let span = c.in-Some.span in
    let front : (n : ℕ) → n ≤ left → take n c.deref.result.now ≡ take n trace = λ n le.
    ap (λ (l : List Change). take n l) (c.deref.ensures.value ∙ before.traced)
    ∙ take-append-le n trace before.again (omega (arith, le, before.among)) in
    let now_left : reverse (take left trace) ≡ Wrote span ∷ reverse (take (left - 1) trace) =
    ap reverse (sym (front left (omega arith))) ∙ c.in-Some.ensures.rest.1
    ∙ ap (λ (l : List Change). Wrote span ∷ reverse l) (front (left - 1) (omega arith)) in
    record {
      entry_room = omega (arith, before.entry_room, c.push_reserved.ensures.capacity);
      byte_room = omega (arith, before.byte_room, c.rewrite.ensures.capacity);
      among = omega (arith, before.among);
      again = before.again ++ Wrote span ∷ [];
      traced = c.push_reserved.ensures.items ∙ ap (λ (l : List Change). l ++ Wrote span ∷ []) before.traced
          ∙ append_assoc trace before.again (Wrote span ∷ []);
      cutting = cutting_is
          (ap reverse c.push_reserved.ensures.items ∙ reverse-append c.loop-span.self.trace.items (Wrote span ∷ []))
          c.rewrite.ensures.replaced
          (cutting_goes_on span (subst (λ (l : List Change). Cutting c.args.choice (content_of c.args.self.now)
          (content_of c.loop-span.self) l c.loop-span.end) now_left before.cutting)
          c.rewrite.new.bytes.items c.rewrite.ensures.outside c.rewrite.ensures.inside);
      changes = before.changes;
    }
