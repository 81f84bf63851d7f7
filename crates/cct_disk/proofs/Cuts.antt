-- A cut goes back from the newest write to the last sync, and writes each span again by its choice.
use Rattle.std.proofs.Common.{◌≡◌, ◌⊎◌, inl, inr, ⊎_elim, ℕ, ◌+◌, ◌-◌, ◌<◌, ◌≤◌, List, [], ◌∷◌, ◌++◌, None, length}
use Rattle.std.proofs.Common.{take, drop, get_or, refl, sym, ◌∙◌, ap, subst, arith, length-append, length-drop}
use Rattle.std.proofs.Common.{append_assoc}
use Rattle.std.proofs.lemmas.Bool.{cases_lt}
use Rattle.std.proofs.lemmas.Bool.Decides.{nat_tests}
use Rattle.std.proofs.lemmas.List.{append-nil, take_all, take-take, length-take-le, get_or-take, get_or-drop}
use Rattle.std.proofs.lemmas.List.{get_or_append_left}
use Rattle.cct_disk.specs.Disk.{put_at, SameOutside}
use Rattle.cct_disk.specs.Content.{Content, window, IsUnsynced, IsSynced, IsImage, replaced_before, synced_bytes}
use Rattle.cct_disk.specs.Content.{unsynced_in, cut_byte, CutsBytes, AddsNoImage}
use Rattle.cct_disk.specs.Traced.{newest_span, writes_in, replaced_in, AreWithin}
use Rattle.cct_disk.specs.declared.traced.Span.{Span}
use Rattle.cct_disk.specs.declared.traced.Change.{Change}
use Rattle.cct_disk.specs.declared.traced.Change.TheVariants.{Wrote, Settled}
use Rattle.cct_disk.proofs.Ranges.{outside, put_outside, put_inside, length-window}
use Rattle.cct_disk.specs.Laws.{now_counts}
use Rattle.cct_disk.proofs.Images.{wrote_since, wrote_keeps}

-- a place that was not written again so far
pub record IsLeft (old now : Content) (left : List Change) (undone : List ℕ) (place : ℕ) : Type 0 where
  pub kept : get_or now.bytes place 0 ≡ get_or old.bytes place 0
  pub not_undone : get_or undone place 0 ≡ get_or old.bytes place 0
  pub still : IsUnsynced old.past place → IsUnsynced left place

-- a place that holds what the choice says
abbrev pub IsDone : ℕ → Content → Content → List ℕ → ℕ → Type 0
IsDone choice old now undone place =
    get_or now.bytes place 0 ≡ cut_byte choice place (get_or undone place 0) (get_or old.bytes place 0)

-- Of the changes of `old` those in `left` are still to be looked at, whose writes replaced the first `end` bytes.
-- `undone` is what stood there before the others.
pub record Cutting (choice : ℕ) (old now : Content) (left : List Change) (end : ℕ) : Type 0 where
  pub size : length now.bytes ≡ length old.bytes
  pub within : AreWithin (length old.bytes) now.past
  pub all_replaced : replaced_in now.past ≡ length now.replaced
  pub more : List ℕ
  pub behind : now.replaced ≡ old.replaced ++ more
  pub end_is : end ≡ replaced_in left
  pub end_within : end ≤ length old.replaced
  pub left_within : AreWithin (length old.bytes) left
  pub bytes_left : length now.replaced + unsynced_in left ≡ length old.replaced + unsynced_in old.past
  pub writes_left : length now.past + writes_in left ≡ length old.past + writes_in old.past
  pub synced_left : (place : ℕ) → IsSynced old.past place → IsSynced left place
  pub synced_now : (place : ℕ) → IsSynced old.past place → IsSynced now.past place
  pub same : (place : ℕ) → IsSynced old.past place → get_or now.bytes place 0 ≡ get_or old.bytes place 0
  pub images : AddsNoImage old now
  pub undone : List ℕ
  pub undone_size : length undone ≡ length old.bytes
  pub undone_is : synced_bytes left (take end old.replaced) undone ≡ synced_bytes old.past old.replaced old.bytes
  pub places : (place : ℕ) → IsLeft old now left undone place ⊎ IsDone choice old now undone place

-- before the first write is looked at
pub cutting_starts : (choice : ℕ) (old : Content) → AreWithin (length old.bytes) old.past
    → replaced_in old.past ≡ length old.replaced
    → Cutting choice old old old.past (length old.replaced)
cutting_starts choice old within all = record {
  size = refl;
  within = within;
  all_replaced = all;
  more = [];
  behind = sym (append-nil old.replaced);
  end_is = sym all;
  end_within = omega arith;
  left_within = within;
  bytes_left = refl;
  writes_left = refl;
  synced_left = λ place synced. synced;
  synced_now = λ place synced. synced;
  same = λ place synced. refl;
  images = record { later = omega arith; nothing_else = λ t image le since. since; keeps = λ t image le since. since };
  undone = old.bytes;
  undone_size = refl;
  undone_is = ap (λ (l : List ℕ). synced_bytes old.past l old.bytes)
      (take_all (length old.replaced) old.replaced (omega arith));
  places = λ place. inl (record { kept = refl; not_undone = refl; still = λ unsynced. unsynced });
}

-- a place that is set twice by one choice holds what it would hold if it had been set once
set_again : (choice place older old new : ℕ) → cut_byte choice place older (cut_byte choice place old new)
    ≡ cut_byte choice place older new
set_again choice place older old new = grind (arith, nat_tests)

module _ {choice : ℕ} {old now : Content} {left : List Change} {end : ℕ} (span : Span)
    (so_far : Cutting choice old now (Wrote span ∷ left) end) (bytes : List ℕ)
    (beside : SameOutside span.at span.len now.bytes bytes)
    (set : (i : ℕ) → i < span.len → get_or bytes (span.at + i) 0
    ≡ cut_byte choice (span.at + i) (get_or now.replaced (end - span.len + i) 0)
    (get_or now.bytes (span.at + i) 0)) where
  abbrev pub next : Content
  next = record {
    bytes = bytes;
    past = Wrote span ∷ now.past;
    replaced = now.replaced ++ window span.at span.len now.bytes;
  }

  in_now : span.at + span.len ≤ length now.bytes
  in_now = omega (arith, so_far.left_within.0, so_far.size)

  -- what stood there before the write that is looked at
  abbrev taken : List ℕ
  taken = take end old.replaced

  length-taken : length taken ≡ end
  length-taken = length-take-le end old.replaced so_far.end_within

  abbrev stood : List ℕ
  stood = drop (length taken - span.len) taken

  length-stood : length stood ≡ span.len
  length-stood = omega (arith, length-drop (length taken - span.len) taken, length-taken, so_far.end_is)

  abbrev older : List ℕ
  older = put_at so_far.undone span.at stood

  in_undone : span.at + length stood ≤ length so_far.undone
  in_undone = omega (arith, length-stood, so_far.left_within.0, so_far.undone_size)

  older_beside : SameOutside span.at span.len so_far.undone older
  older_beside = subst (λ (n : ℕ). SameOutside span.at n so_far.undone older) length-stood
      (put_outside span.at so_far.undone stood in_undone)

  -- inside the span it is what the write replaced
  older_inside : (place : ℕ) → span.at ≤ place → place < span.at + span.len →
      get_or older place 0 ≡ get_or now.replaced (end - span.len + (place - span.at)) 0
  older_inside place from to =
      let i = place - span.at in
      let j = end - span.len + i in
      put_inside span.at so_far.undone stood in_undone place from (omega (arith, to, length-stood))
      ∙ get_or-drop (length taken - span.len) taken i 0
      ∙ ap (λ (n : ℕ). get_or taken (n - span.len + i) 0) length-taken
      ∙ get_or-take end old.replaced j 0 (omega (arith, from, to, so_far.end_is))
      ∙ sym (get_or_append_left old.replaced so_far.more 0 j
      (omega (arith, from, to, so_far.end_is, so_far.end_within)))
      ∙ ap (λ (l : List ℕ). get_or l j 0) (sym so_far.behind)

  same_next : (place : ℕ) → IsSynced old.past place → get_or bytes place 0 ≡ get_or old.bytes place 0
  same_next place synced =
      outside span.at span.len now.bytes bytes place beside (so_far.synced_left place synced).0
      ∙ so_far.same place synced

  image_next : (image : List ℕ) → IsImage (Wrote span ∷ now.past) bytes image → IsImage old.past old.bytes image
  image_next image is = record {
    size = is.size ∙ beside.size ∙ so_far.size;
    same = λ place synced. is.same place ((so_far.synced_left place synced).0, so_far.synced_now place synced)
        ∙ same_next place synced;
  }

  images_next : AddsNoImage old next
  images_next = record {
    later = omega (arith, so_far.images.later);
    nothing_else = λ t image le since. ⊎_elim
        (λ is. now_counts old.past old.replaced old.bytes t image (image_next image is))
        (λ earlier. so_far.images.nothing_else t image le earlier)
        (wrote_since span now.past now.replaced now.bytes bytes in_now beside t image since);
    keeps = λ t image le since.
        wrote_keeps span now.past now.replaced now.bytes bytes in_now beside t image
        (omega (arith, le, so_far.images.later))
        (so_far.images.keeps t image le since);
  }

  inside_next : (place : ℕ) → span.at ≤ place → place < span.at + span.len → IsDone choice old next older place
  inside_next place from to =
      let i = place - span.at in
      let back : span.at + i ≡ place = omega (arith, from) in
      let is : get_or bytes place 0 ≡ cut_byte choice place (get_or older place 0) (get_or now.bytes place 0) =
      subst (λ (p : ℕ). get_or bytes p 0 ≡ cut_byte choice p (get_or now.replaced (end - span.len + i) 0)
      (get_or now.bytes p 0)) back
      (set i (omega (arith, from, to)))
      ∙ ap (λ (o : ℕ). cut_byte choice place o (get_or now.bytes place 0)) (sym (older_inside place from to)) in
      is ∙ ⊎_elim
      (λ it. ap (λ (n : ℕ). cut_byte choice place (get_or older place 0) n) it.kept)
      (λ it. ap (λ (n : ℕ). cut_byte choice place (get_or older place 0) n) it
      ∙ set_again choice place (get_or older place 0) (get_or so_far.undone place 0) (get_or old.bytes place 0))
      (so_far.places place)

  apart : (place : ℕ) → (place < span.at) ⊎ (span.at + span.len ≤ place)
      → (span.at ≤ place) × (place < span.at + span.len) → ⊥
  apart place (inl less) inside = omega (arith, less, inside.0)
  apart place (inr more) inside = omega (arith, more, inside.1)

  beside_next : (place : ℕ) → (place < span.at) ⊎ (span.at + span.len ≤ place)
      → IsLeft old next left older place ⊎ IsDone choice old next older place
  beside_next place out =
      let bytes_same = outside span.at span.len now.bytes bytes place beside out in
      let older_same = outside span.at span.len so_far.undone older place older_beside out in
      ⊎_elim
      (λ it. inl (record {
        kept = bytes_same ∙ it.kept;
        not_undone = older_same ∙ it.not_undone;
        still = λ unsynced. ⊎_elim (λ inside. absurd (apart place out inside)) (λ rest. rest) (it.still unsynced);
      }))
      (λ it. inr (bytes_same ∙ it ∙ ap (λ (o : ℕ). cut_byte choice place o (get_or old.bytes place 0))
      (sym older_same)))
      (so_far.places place)

  places_next : (place : ℕ) → IsLeft old next left older place ⊎ IsDone choice old next older place
  places_next place = ⊎_elim
      (λ less. beside_next place (inl less))
      (λ from. ⊎_elim (λ to. inr (inside_next place from to)) (λ more. beside_next place (inr more))
      (cases_lt place (span.at + span.len)))
      (cases_lt place span.at)

  rest_is : replaced_before (Wrote span) taken ≡ take (end - span.len) old.replaced
  rest_is = ap (λ (n : ℕ). take (n - span.len) taken) length-taken
      ∙ take-take (end - span.len) end old.replaced (omega arith)

  length-replaced : length next.replaced ≡ length now.replaced + span.len
  length-replaced = omega (
    arith,
    length-append now.replaced (window span.at span.len now.bytes),
    length-window span.at span.len now.bytes in_now,
  )

  -- one write more is looked at
  pub cutting_goes_on : Cutting choice old next left (end - span.len)
  cutting_goes_on = record {
    size = beside.size ∙ so_far.size;
    within = (so_far.left_within.0, so_far.within);
    all_replaced = omega (arith, so_far.all_replaced, length-replaced);
    more = so_far.more ++ window span.at span.len now.bytes;
    behind = ap (λ (l : List ℕ). l ++ window span.at span.len now.bytes) so_far.behind
        ∙ append_assoc old.replaced so_far.more (window span.at span.len now.bytes);
    end_is = omega (arith, so_far.end_is);
    end_within = omega (arith, so_far.end_within);
    left_within = so_far.left_within.1;
    bytes_left = omega (arith, so_far.bytes_left, length-replaced);
    writes_left = omega (arith, so_far.writes_left);
    synced_left = λ place synced. (so_far.synced_left place synced).1;
    synced_now = λ place synced. ((so_far.synced_left place synced).0, so_far.synced_now place synced);
    same = same_next;
    images = images_next;
    undone = older;
    undone_size = older_beside.size ∙ so_far.undone_size;
    undone_is = ap (λ (l : List ℕ). synced_bytes left l older) (sym rest_is) ∙ so_far.undone_is;
    places = places_next;
  }

-- where no write is left
nothing_left : {choice : ℕ} {old now : Content} {left : List Change} {end : ℕ}
    (cutting : Cutting choice old now left end) → ((place : ℕ) → IsUnsynced left place → ⊥)
    → synced_bytes left (take end old.replaced) cutting.undone ≡ cutting.undone → CutsBytes choice old now.bytes
nothing_left {choice} {old} cutting none is = record {
  size = cutting.size;
  synced = cutting.same;
  unsynced = λ place unsynced. ⊎_elim
      (λ it. absurd (none place (it.still unsynced)))
      (λ it. it ∙ ap (λ (l : List ℕ). cut_byte choice place (get_or l place 0) (get_or old.bytes place 0))
      (sym is ∙ cutting.undone_is))
      (cutting.places place);
}

pub cutting_ends : {choice : ℕ} {old now : Content} (left : List Change) {end : ℕ} → newest_span left ≡ None
    → Cutting choice old now left end → CutsBytes choice old now.bytes
cutting_ends [] none cutting = nothing_left cutting (λ place it. it) refl
cutting_ends (Wrote span ∷ left) none cutting = absurd (cc none)
cutting_ends (Settled ∷ left) none cutting = nothing_left cutting (λ place it. it) refl

-- the same state in other words
pub cutting_is : {choice : ℕ} {old : Content} {left : List Change} {end : ℕ} {bytes : List ℕ}
    {past past2 : List Change} {replaced replaced2 : List ℕ} → past2 ≡ past → replaced2 ≡ replaced
    → Cutting choice old (record { bytes = bytes; past = past; replaced = replaced }) left end
    → Cutting choice old (record { bytes = bytes; past = past2; replaced = replaced2 }) left end
cutting_is {choice} {old} {left} {end} {bytes} {past} {past2} {replaced} {replaced2} past_is replaced_is cutting =
    subst (λ (r : List ℕ). Cutting choice old (record { bytes = bytes; past = past2; replaced = r }) left end)
    (sym replaced_is)
    (subst (λ (p : List Change). Cutting choice old
    (record { bytes = bytes; past = p; replaced = replaced }) left end) (sym past_is) cutting)
