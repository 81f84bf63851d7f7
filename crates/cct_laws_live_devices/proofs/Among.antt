-- Where posts are in order, all that is posted is among what was accepted up to the mark, in its order.
use Rattle.std.proofs.Common.{◌≡◌, ◌⊎◌, inl, inr, ℕ, suc, ◌+◌, ◌-◌, ◌≤◌, Bool, true, false, cond, List, [], ◌∷◌, ◌++◌, length, reverse, take, refl, sym, ap, ◌∙◌, subst, Option, Some, None, arith, append_assoc}
use Rattle.std.specs.Prelude.{nat_le}
use Rattle.std.proofs.lemmas.List.{length-append}
use Rattle.std.proofs.lemmas.Bool.{leb-false, leb-true}
use Rattle.std.proofs.Math.Seq.{take-append_seam}
use Rattle.cct_model.specs.terms.coin.Coin.{Coin}
use Rattle.cct_model.specs.lines.record.Record.{Record}
use Rattle.cct_model.specs.lines.record.Record.TheVariants as record_of
use Rattle.cct_model.specs.lines.entry.End.TheVariants.{Clean}
use Rattle.cct_model.specs.Line.{Line, accepted, put, ended}
use Rattle.cct_model.specs.Job.{credits_line, mask_line}
use Rattle.cct_model.specs.Claims.{behind, coins, fewer, looking, mark, part, reading, AreNewest, InOrder, OrderAt}
use Rattle.cct_laws.specs.Recorded.{put_in}
use Rattle.cct_laws_live_devices.specs.Real.{AreAmong, posted}

among_more : (some more whole : List Coin) → AreAmong some whole → AreAmong some (more ++ whole)
among_more some [] whole are = are
among_more [] (x ∷ more) whole are = tt
among_more (c ∷ some) (x ∷ more) whole are = inr (among_more (c ∷ some) more whole are)

among_front : (front some whole : List Coin) → AreAmong some whole → AreAmong (front ++ some) (front ++ whole)
among_front [] some whole are = are
among_front (c ∷ front) some whole are = inl (refl, among_front front some whole are)

-- coins that came up to a moment stand after those that came after it
abbrev IsBehind : List Coin → List Coin → Type 0
IsBehind upto whole = (newer : List Coin) × (whole ≡ newer ++ upto)

behind_line : (line : Line) (past : List Line) (upto : List Coin) → IsBehind upto (coins past) →
    IsBehind upto (coins (line ∷ past))
behind_line (accepted c) past upto is = (c ∷ is.0, ap (λ cs. c ∷ cs) is.1)
behind_line line past upto is = is

behind_whole : (line : Line) (past : List Line) → IsBehind (coins past) (coins (line ∷ past))
behind_whole line past = behind_line line past (coins past) ([], refl)

by_behind : {A : Type 0} (o : Option A) (line : Line) (past earlier : List Line) → IsBehind (coins earlier) (coins past) →
    IsBehind (coins (behind o past earlier)) (coins (line ∷ past))
by_behind None line past earlier is = behind_line line past (coins earlier) is
by_behind (Some x) line past earlier is = behind_whole line past

reading_behind : (lines : List Line) → IsBehind (coins (reading lines)) (coins lines)
reading_behind [] = ([], refl)
reading_behind (line ∷ past) = by_behind (credits_line line) line past (reading past) (reading_behind past)

looking_behind : (lines : List Line) → IsBehind (coins (looking lines)) (coins lines)
looking_behind [] = ([], refl)
looking_behind (line ∷ past) = by_behind (mask_line line) line past (looking past) (looking_behind past)

abbrev rest_of : List Coin → List Coin
rest_of [] = []
rest_of (x ∷ xs) = xs

-- of two moments the later one has the coins of the earlier
both_behind : (newer known more upto : List Coin) → (newer ++ known) ≡ (more ++ upto) → length upto ≤ length known →
    IsBehind upto known
both_behind [] known more upto same fits = (more, same)
both_behind (x ∷ newer) known [] upto same fits =
    let long = ap length same in
    let sum = length-append newer known in
    absurd (too_long (length newer) (length known) (length upto) (sym (ap suc sum) ∙ long) fits)
  where
    too_long : (a b c : ℕ) → suc (a + b) ≡ c → c ≤ b → ⊥
    too_long a b c same fits = omega (arith, same, fits)
both_behind (x ∷ newer) known (y ∷ more) upto same fits = both_behind newer known more upto (ap rest_of same) fits

within : (known whole upto : List Coin) → IsBehind known whole → IsBehind upto whole → length upto ≤ length known →
    IsBehind upto known
within known whole upto one other fits = both_behind one.0 known other.0 upto (sym one.1 ∙ other.1) fits

-- up to the mark
record Marked (lines : List Line) : Type 0 where
  upto : List Coin
  is_behind : IsBehind upto (coins lines)
  many : length upto ≡ mark lines
  among : AreAmong (posted (put_in lines)) upto

-- the part up to some coins is what came after the mark
part_is : (past : List Line) (known : List Coin) (marked : Marked past) → (between : IsBehind marked.upto known) →
    part past known ≡ between.0
part_is past known marked between =
    ap (λ n. take (length known - n) known) (sym marked.many)
    ∙ ap (λ cs. take (length cs - length marked.upto) cs) between.1
    ∙ ap (λ n. take n (between.0 ++ marked.upto)) (less between.0 marked.upto)
    ∙ take-append_seam between.0 marked.upto
  where
    less : (xs ys : List Coin) → length (xs ++ ys) - length ys ≡ length xs
    less xs ys = let sum = length-append xs ys in omega (arith, sum)

-- what is posted of it is among these coins
newest_among : (past : List Line) (known posts : List Coin) (marked : Marked past) → IsBehind marked.upto known →
    AreNewest posts (part past known) → AreAmong (reverse posts ++ posted (put_in past)) known
newest_among past known posts marked between newest =
    let split : known ≡ reverse posts ++ (newest.0 ++ marked.upto) =
    between.1 ∙ ap (λ cs. cs ++ marked.upto) (sym (part_is past known marked between) ∙ newest.1)
    ∙ append_assoc (reverse posts) newest.0 marked.upto in
    subst (AreAmong (reverse posts ++ posted (put_in past))) (sym split)
    (among_front (reverse posts) (posted (put_in past)) (newest.0 ++ marked.upto)
    (among_more (posted (put_in past)) newest.0 marked.upto marked.among))

-- a part that is empty posts nothing
none_posted : (posts older : List Coin) → [] ≡ reverse posts ++ older → reverse posts ≡ []
none_posted posts older is = front_none (reverse posts) is
  where
    front_none : (front : List Coin) → [] ≡ front ++ older → front ≡ []
    front_none [] is = refl
    front_none (x ∷ front) is = absurd cc

told_upto : (past : List Line) (known : List Coin) (marked : Marked past) → IsBehind known (coins past) →
    mark past ≤ length known → IsBehind marked.upto known
told_upto past known marked is fits =
    within known (coins past) marked.upto is marked.is_behind (subst (λ n. n ≤ length known) (sym marked.many) fits)

-- an item that posts the newest of what came up to some coins
item_marked : (past : List Line) (line : Line) (known posts : List Coin) → coins (line ∷ past) ≡ coins past →
    mark (line ∷ past) ≡ length known → posted (put_in (line ∷ past)) ≡ reverse posts ++ posted (put_in past) →
    IsBehind known (coins past) → AreAmong (reverse posts ++ posted (put_in past)) known → Marked (line ∷ past)
item_marked past line known posts same many posts_are is among = record {
  upto = known;
  is_behind = (is.0, same ∙ is.1);
  many = sym many;
  among = subst (λ cs. AreAmong cs known) (sym posts_are) among;
}

-- one that posts nothing
none_among : (past : List Line) (known : List Coin) → Marked past → IsBehind known (coins past) → mark past ≤ length known →
    AreAmong (posted (put_in past)) known
none_among past known marked is fits =
    let between = told_upto past known marked is fits in
    subst (AreAmong (posted (put_in past))) (sym between.1)
    (among_more (posted (put_in past)) between.0 marked.upto marked.among)

-- a line that is no item
plain_marked : (past : List Line) (line : Line) → mark (line ∷ past) ≡ mark past →
    posted (put_in (line ∷ past)) ≡ posted (put_in past) → Marked past → Marked (line ∷ past)
plain_marked past line many posts marked = record {
  upto = marked.upto;
  is_behind = behind_line line past marked.upto marked.is_behind;
  many = marked.many ∙ sym many;
  among = subst (λ cs. AreAmong cs marked.upto) (sym posts) marked.among;
}

-- a break: the newest of those of its part that came before the credits and before the mask was read
nat_order : (a b : ℕ) → ((nat_le a b ≡ true) × (a ≤ b)) ⊎ ((nat_le a b ≡ false) × (b ≤ a))
nat_order a b = by_test (nat_le a b) refl
  where
    by_test : (test : Bool) → nat_le a b ≡ test → ((nat_le a b ≡ true) × (a ≤ b)) ⊎ ((nat_le a b ≡ false) × (b ≤ a))
    by_test true is = inl (is, leb-true a b is)
    by_test false is = inr (is, let less = leb-false a b is in omega (arith, less))

fewer_behind : (lines : List Line) → IsBehind (fewer (coins (reading lines)) (coins (looking lines))) (coins (looking lines))
fewer_behind lines = elim (nat_order (length (coins (reading lines))) (length (coins (looking lines)))) [
  | inl less ↦
      subst (λ cs. IsBehind cs (coins (looking lines)))
      (sym (ap (λ b. cond b (coins (reading lines)) (coins (looking lines))) less.0))
      (within (coins (looking lines)) (coins lines) (coins (reading lines)) (looking_behind lines) (reading_behind lines) less.1)
  | inr more ↦
      subst (λ cs. IsBehind cs (coins (looking lines)))
      (sym (ap (λ b. cond b (coins (reading lines)) (coins (looking lines))) more.0)) ([], refl)
]

behind_on : (upto known whole : List Coin) → IsBehind upto known → IsBehind known whole → IsBehind upto whole
behind_on upto known whole first second =
    (second.0 ++ first.0, second.1 ∙ ap (λ cs. second.0 ++ cs) first.1 ∙ sym (append_assoc second.0 first.0 upto))

part_short : (past : List Line) (known : List Coin) → length known ≤ mark past → part past known ≡ []
part_short past known short = ap (λ n. take n known) (none (length known) (mark past) short)
  where
    none : (a b : ℕ) → a ≤ b → a - b ≡ 0
    none a b less = omega (arith, less)

broken_among : (past : List Line) (known shorter posts : List Coin) → Marked past → IsBehind known (coins past) →
    IsBehind shorter known → mark past ≤ length known → AreNewest posts (part past shorter) →
    AreAmong (reverse posts ++ posted (put_in past)) known
broken_among past known shorter posts marked is short fits newest =
    elim (nat_order (mark past) (length shorter)) [
      | inl less ↦
          subst (AreAmong (reverse posts ++ posted (put_in past))) (sym short.1)
          (among_more (reverse posts ++ posted (put_in past)) short.0 shorter
          (newest_among past shorter posts marked
          (told_upto past shorter marked (behind_on shorter known (coins past) short is) less.1) newest))
      | inr more ↦
          subst (λ front. AreAmong (front ++ posted (put_in past)) known)
          (sym (none_posted posts newest.0 (sym (part_short past shorter more.1) ∙ newest.1)))
          (none_among past known marked is fits)
    ]

put_marked : (past : List Line) (r : Record) → OrderAt past (put r) → Marked past → Marked (put r ∷ past)
put_marked past (record_of.Epoch addr mask accepts) at marked =
    item_marked past (put (record_of.Epoch addr mask accepts)) (coins past) [] refl refl refl ([], refl)
    (none_among past (coins past) marked ([], refl) at.0)
put_marked past (record_of.Reading addr counter lost accepts posts) at marked =
    item_marked past (put (record_of.Reading addr counter lost accepts posts)) (coins (reading past)) posts refl refl refl
    (reading_behind past)
    (newest_among past (coins (reading past)) posts marked
    (told_upto past (coins (reading past)) marked (reading_behind past) at.0) at.1)
put_marked past (record_of.Broken addr seen counter lost accepts posts) at marked =
    item_marked past (put (record_of.Broken addr seen counter lost accepts posts)) (coins (looking past)) posts refl refl refl
    (looking_behind past)
    (broken_among past (coins (looking past)) (fewer (coins (reading past)) (coins (looking past))) posts marked
    (looking_behind past) (fewer_behind past) at.0 at.1)
put_marked past (record_of.EpochEnd addr) at marked =
    item_marked past (put (record_of.EpochEnd addr)) (coins past) [] refl refl refl ([], refl)
    (none_among past (coins past) marked ([], refl) at.0)
put_marked past r at marked = plain_marked past (put r) refl refl marked

line_marked : (past : List Line) (line : Line) → OrderAt past line → Marked past → Marked (line ∷ past)
line_marked past (put r) at marked = put_marked past r at marked
line_marked past (ended Clean) at marked =
    item_marked past (ended Clean) (coins (reading past)) [] refl refl refl (reading_behind past)
    (none_among past (coins (reading past)) marked (reading_behind past) at)
line_marked past line at marked = plain_marked past line refl refl marked

marked_all : (lines : List Line) → InOrder lines → Marked lines
marked_all [] all = record { upto = []; is_behind = ([], refl); many = refl; among = tt }
marked_all (line ∷ past) all = line_marked past line all.0 (marked_all past all.1)

pub posts_among : (lines : List Line) → InOrder lines → AreAmong (posted (put_in lines)) (coins lines)
posts_among lines all =
    let marked = marked_all lines all in
    subst (AreAmong (posted (put_in lines))) (sym marked.is_behind.1)
    (among_more (posted (put_in lines)) marked.is_behind.0 marked.upto marked.among)
