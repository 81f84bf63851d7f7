-- A part keeps the records of a run.
use Rattle.std.proofs.Common.{◌≡◌, ◌⊎◌, inl, inr, ℕ, ◌+◌, List, [], ◌∷◌, ◌++◌, length, reverse, Option, Some, None, refl, sym, ap, subst, ◌∙◌, append_assoc, arith}
use Rattle.std.specs.Prelude.{slice_get}
use Rattle.std.proofs.lemmas.Bool.{cases_lt}
use Rattle.std.proofs.lemmas.List.{append-nil, reverse-append}
use Rattle.std.proofs.lemmas.Option.{slice_get_past}
use Rattle.cct_model.specs.lines.entry.Entry.{Entry}
use Rattle.cct_model.specs.lines.record.Record.{Record}
use Rattle.cct_model.specs.terms.device.Setup.{Setup}
use Rattle.cct_model.specs.Carry.{carry_of}
use Rattle.cct_model.specs.Records.{records}
use Rattle.cct_model.specs.Setup.{IsSoundSetup}
use Rattle.cct_model.specs.Transcript.{onto}
use Rattle.cct_laws.proofs.steps.OneMore.{onto-append}
use Rattle.cct_journal.specs.declared.format.TheConstants.{MOST_RECORDS}
use Rattle.cct_journal.specs.Image as images
use Rattle.cct_journal.proofs.Calls.{stands_settled}
use Rattle.cct_host.specs.Attempt.{Attempt, asked, idle, news_of, put, put_of}
use Rattle.cct_host.specs.Host.{StandsFor, disk_of, put_by, setup_of}
use Rattle.cct_host.specs.OnDisk.{StandsUpTo}
use Rattle.cct_disk_queue.specs.Calls.{Act, Leaves, Since, after}
use Rattle.cct_disk_queue.specs.Queue.{Queue, bytes_of}
use Rattle.cct_poll.specs.declared.poll.Poll.{Poll}
use Rattle.cct_laws_live.specs.LiveStep.{LiveStep}
use Rattle.cct_laws_live.specs.Life.{IsLife}
use Rattle.cct_laws_poll.specs.Runs.{Deed, Does, advanced, commanded, made}
use Rattle.cct_laws_poll.specs.Parts.{DoesOn, IsNextCall, KeepsPast, MayHave, RunsOn}
use Rattle.cct_laws_poll.proofs.Calls.{after_on, all_first, first_of, first_since, leaves_on, next_first, none_first, none_some, some_same}
use Rattle.cct_laws_poll.proofs.Keeping.{keeps}
use Rattle.cct_laws_poll.proofs.Living.{one, told_news}

-- what the part held before the calls that are noted, and these
abbrev base_in : Poll → List ℕ
base_in poll = (disk_of poll.host).base

abbrev noted_in : Poll → List Act
noted_in poll = (disk_of poll.host).calls

-- After these calls on a part that held these bytes, and after a past: those before the ones that
-- are noted left what the noted ones are made on; and whatever these leave represents the records of
-- a past, or these and one that is put, and the records then are those.
record IsKept (part : List ℕ) (setup : Setup) (poll : Poll) (past : List Entry) (calls : List Act) : Type 0 where
  settled : List Act
  made_are : calls ≡ first_of poll.made (noted_in poll) ++ settled
  holds : after part settled ≡ base_in poll
  only : (image : List ℕ) → Leaves part settled image → image ≡ base_in poll
  before : List Record
  due : Option Record
  adds : records past ≡ put_by due ++ before
  moments : (image : List ℕ) → Since (base_in poll) (noted_in poll) 0 image → StandsUpTo setup due (reverse before) image

-- what a part holds whose calls are made represents the records
holds_past : (poll : Poll) (past : List Entry) → noted_in poll ≡ [] → StandsFor poll.host past
    → images.StandsFor (carry_of (setup_of poll.host)) (base_in poll) (reverse (records past))
holds_past poll past none stands =
    let disk = stands_settled (stands.on_disk (refl, refl)) in
    let same : disk.image ≡ base_in poll =
    some_same _ _ (sym disk.held.tells ∙ ap (λ l. Some (after (base_in poll) l)) none) in
    subst (λ image. images.StandsFor (carry_of (setup_of poll.host)) image (reverse (records past))) same disk.stands

settled_kept : (part : List ℕ) (poll : Poll) (past : List Entry) (calls : List Act) → noted_in poll ≡ []
    → after part calls ≡ base_in poll → ((image : List ℕ) → Leaves part calls image → image ≡ base_in poll)
    → StandsFor poll.host past → IsKept part (setup_of poll.host) poll past calls
settled_kept part poll past calls none holds only stands = record {
  settled = calls;
  made_are = ap (λ l. l ++ calls) (sym (none_first poll.made (noted_in poll) none));
  holds = holds;
  only = only;
  before = records past;
  due = None;
  adds = refl;
  moments = λ image since.
      let is : image ≡ base_in poll = subst (λ l. Since (base_in poll) l 0 image) none since in
      subst (λ i. images.StandsFor (carry_of (setup_of poll.host)) i (reverse (records past))) (sym is)
      (holds_past poll past none stands);
}

-- an attempt adds the record that it puts
adds_put : (addr : ℕ) (what : Attempt) (past : List Entry)
    → records (news_of addr what ++ past) ≡ put_by (put_of what) ++ records past
adds_put addr idle past = refl
adds_put addr (asked sent heard None) past = refl
adds_put addr (asked sent heard (Some end)) past = refl
adds_put addr (put r None) past = refl
adds_put addr (put r (Some end)) past = refl

-- where none is noted, none of the noted ones is made
none_made : (poll : Poll) → noted_in poll ≡ [] → poll.made ≡ 0
none_made poll none = elim (cases_lt 0 poll.made) [
  | inl some ↦ absurd (omega (arith, poll.counts some, ap length none))
  | inr least ↦ omega (arith, least)
]

module _ (part : List ℕ) (setup : Setup) where
  -- where none is noted, all are made
  all_settled : (poll : Poll) (past : List Entry) (calls : List Act) → noted_in poll ≡ []
      → IsKept part setup poll past calls
      → (after part calls ≡ base_in poll) × ((image : List ℕ) → Leaves part calls image → image ≡ base_in poll)
  all_settled poll past calls none kept =
      let same : calls ≡ kept.settled =
      kept.made_are ∙ ap (λ l. l ++ kept.settled) (none_first poll.made (noted_in poll) none) in (
        subst (λ l. after part l ≡ base_in poll) (sym same) kept.holds,
        subst (λ l. (image : List ℕ) → Leaves part l image → image ≡ base_in poll) (sym same) kept.only,
      )

-- one deed
kept_by : (part : List ℕ) (deed : Deed) (past : List Entry) (before after : Poll) (told : List Entry)
    (calls now : List Act) → setup_of after.host ≡ setup_of before.host → StandsFor before.host past
    → StandsFor after.host (onto past told) → DoesOn deed before after told now
    → IsKept part (setup_of before.host) before past calls
    → IsKept part (setup_of before.host) after (onto past told) (now ++ calls)
kept_by part (commanded c) past before next told calls now same stands goes (does, none, still, nothing) kept =
    let held = all_settled part (setup_of before.host) before past calls none kept in
    subst (λ l. IsKept part (setup_of before.host) next (onto past told) (l ++ calls)) (sym nothing)
    (subst (λ s. IsKept part s next (onto past told) calls) same
    (settled_kept part next (onto past told) calls (ap (λ (d : Queue). d.calls) still ∙ none)
    (held.0 ∙ sym (ap (λ (d : Queue). d.base) still))
    (λ image left. held.1 image left ∙ sym (ap (λ (d : Queue). d.base) still)) goes))
kept_by part (advanced addr piece heard) past before next told calls now same stands goes (does, none, count, nothing) kept =
    let held = all_settled part (setup_of before.host) before past calls none kept in
    let step = does.1 in
    let unmade : next.made ≡ 0 = count ∙ none_made before none in
    subst (λ l. IsKept part (setup_of before.host) next (onto past told) (l ++ calls)) (sym nothing) (record {
      settled = calls;
      made_are = ap (λ n. first_of n (noted_in next) ++ calls) (sym unmade);
      holds = held.0 ∙ sym step.part;
      only = λ image left. held.1 image left ∙ sym step.part;
      before = records past;
      due = put_of step.what;
      adds = ap records (ap (onto past) step.told_is ∙ told_news past (news_of addr step.what)) ∙ adds_put addr step.what past;
      moments = keeps before next piece heard addr told past step none stands;
    })
kept_by part made past before next told calls now same stands goes (does, inl (more, count, still), (call, is, one_call)) kept =
    let same_disk : disk_of next.host ≡ disk_of before.host = ap (λ h. disk_of h) still in
    let same_base : base_in before ≡ base_in next = sym (ap (λ (d : Queue). d.base) same_disk) in
    subst (λ l. IsKept part (setup_of before.host) next (onto past told) (l ++ calls)) (sym one_call)
    (subst (λ t. IsKept part (setup_of before.host) next (onto past t) (call ∷ calls)) (sym does.0) (record {
      settled = kept.settled;
      made_are = ap (λ l. call ∷ l) kept.made_are
          ∙ ap (λ l. l ++ kept.settled) (sym (next_first before.made (noted_in before) call is))
          ∙ ap (λ (d : Queue). first_of (before.made + 1) d.calls ++ kept.settled) (sym same_disk)
          ∙ ap (λ n. first_of n (noted_in next) ++ kept.settled) (sym count);
      holds = kept.holds ∙ same_base;
      only = λ image left. kept.only image left ∙ same_base;
      before = kept.before;
      due = kept.due;
      adds = kept.adds;
      moments = subst (λ (d : Queue). (image : List ℕ) → Since d.base d.calls 0 image
          → StandsUpTo (setup_of before.host) kept.due (reverse kept.before) image) (sym same_disk) kept.moments;
    }))
kept_by part made past before next told calls now same stands goes (does, inr (last, count, none, made_is), (call, is, one_call)) kept =
    let all : call ∷ calls ≡ noted_in before ++ kept.settled =
    ap (λ l. call ∷ l) kept.made_are
    ∙ ap (λ l. l ++ kept.settled) (sym (next_first before.made (noted_in before) call is))
    ∙ ap (λ l. l ++ kept.settled) (all_first (before.made + 1) (noted_in before) last) in
    let holds : after part (call ∷ calls) ≡ base_in next =
    ap (after part) all ∙ after_on part (base_in before) kept.settled kept.holds (noted_in before) ∙ sym made_is in
    let disk = stands_settled (stands.on_disk (refl, refl)) in
    let bytes : disk.image ≡ bytes_of (disk_of before.host) = some_same _ _ (sym disk.held.tells) in
    subst (λ l. IsKept part (setup_of before.host) next (onto past told) (l ++ calls)) (sym one_call)
    (subst (λ s. IsKept part s next (onto past told) (call ∷ calls)) same
    (settled_kept part next (onto past told) (call ∷ calls) none holds
    (λ image left. disk.held.only image
    (leaves_on part (base_in before) kept.settled kept.holds kept.only (noted_in before) image
    (subst (λ l. Leaves part l image) all left)) ∙ bytes ∙ sym made_is) goes))

-- what a power cut may leave then
has_calls : (l : List Act) → (l ≡ []) ⊎ (l ≡ [] → ⊥)
has_calls [] = inl refl
has_calls (call ∷ l) = inr (λ is. cc is)

up_to_past : (setup : Setup) (poll : Poll) (past : List Entry) (due : Option Record) (before : List Record) (image : List ℕ)
    → (noted_in poll ≡ [] → ⊥) → records past ≡ put_by due ++ before → StandsUpTo setup due (reverse before) image
    → KeepsPast setup poll past image
up_to_past setup poll past None before image some adds stands =
    inl (subst (λ rs. images.StandsFor (carry_of setup) image (reverse rs)) (sym adds) stands)
up_to_past setup poll past (Some r) before image some adds (inl stands) = inr (some, r, before, adds, stands)
up_to_past setup poll past (Some r) before image some adds (inr stands) =
    inl (subst (λ rs. images.StandsFor (carry_of setup) image rs)
    (sym (ap reverse adds ∙ reverse-append (r ∷ []) before)) stands)

none_next : (poll : Poll) (call : Act) → noted_in poll ≡ [] → IsNextCall poll call → ⊥
none_next poll call none is =
    none_some (sym (slice_get_past (reverse []) poll.made (omega arith))
    ∙ subst (λ l. slice_get (reverse l) poll.made ≡ Some call) none is)

module _ (part : List ℕ) (poll : Poll) (past : List Entry) (calls : List Act)
    (kept : IsKept part (setup_of poll.host) poll past calls) (image : List ℕ) where
  settled_up : StandsFor poll.host past → noted_in poll ≡ [] → MayHave part calls poll image
      → KeepsPast (setup_of poll.host) poll past image
  settled_up stands none (inl left) =
      inl (subst (λ i. images.StandsFor (carry_of (setup_of poll.host)) i (reverse (records past)))
      (sym ((all_settled part (setup_of poll.host) poll past calls none kept).1 image left))
      (holds_past poll past none stands))
  settled_up stands none (inr (call, is, left)) = absurd (none_next poll call none is)

  on_the_way : MayHave part calls poll image → Since (base_in poll) (noted_in poll) 0 image
  on_the_way (inl left) =
      first_since (base_in poll) poll.made (noted_in poll) image
      (leaves_on part (base_in poll) kept.settled kept.holds kept.only (first_of poll.made (noted_in poll)) image
      (subst (λ l. Leaves part l image) kept.made_are left))
  on_the_way (inr (call, is, left)) =
      first_since (base_in poll) (poll.made + 1) (noted_in poll) image
      (leaves_on part (base_in poll) kept.settled kept.holds kept.only (first_of (poll.made + 1) (noted_in poll)) image
      (subst (λ l. Leaves part l image) (ap (λ l. call ∷ l) kept.made_are
      ∙ ap (λ l. l ++ kept.settled) (sym (next_first poll.made (noted_in poll) call is))) left))

  keeps_up : StandsFor poll.host past → MayHave part calls poll image → KeepsPast (setup_of poll.host) poll past image
  keeps_up stands left = elim (has_calls (noted_in poll)) [
    | inl none ↦ settled_up stands none left
    | inr some ↦ up_to_past (setup_of poll.host) poll past kept.due kept.before image some kept.adds
        (kept.moments image (on_the_way left))
  ]

-- what is left and kept depends on the host, and on how many calls were made
have_same : (part : List ℕ) (calls : List Act) (before next : Poll) (image : List ℕ) → next.host ≡ before.host
    → next.made ≡ before.made → MayHave part calls next image → MayHave part calls before image
have_same part calls before next image same count (inl left) = inl left
have_same part calls before next image same count (inr (call, is, left)) = inr (
  call,
  subst (λ (d : Queue). slice_get (reverse d.calls) before.made ≡ Some call) (ap (λ h. disk_of h) same)
      (subst (λ n. slice_get (reverse (noted_in next)) n ≡ Some call) count is),
  left,
)

keeps_same : (setup : Setup) (before next : Poll) (past : List Entry) (image : List ℕ) → next.host ≡ before.host
    → KeepsPast setup before past image → KeepsPast setup next past image
keeps_same setup before next past image same (inl stands) = inl stands
keeps_same setup before next past image same (inr (some, r, others, adds, stands)) = inr (
  λ none. some (subst (λ (d : Queue). d.calls ≡ []) (ap (λ h. disk_of h) same) none),
  r,
  others,
  adds,
  stands,
)

does_of : (deed : Deed) (before after : Poll) (told : List Entry) (calls : List Act) → DoesOn deed before after told calls
    → Does deed before.host after.host told
does_of (commanded c) before after told calls does = does.0
does_of (advanced addr piece heard) before after told calls does = does.0
does_of made before after told calls does = does.0

module _ (found : List Record) (part : List ℕ) where
  keeps_run : (deeds : List Deed) (steps : List LiveStep) (past : List Entry) (before after : Poll) (told : List Entry)
      (so_far calls : List Act) → IsSoundSetup (setup_of before.host)
      → IsLife MOST_RECORDS (setup_of before.host) found steps past → StandsFor before.host past
      → IsKept part (setup_of before.host) before past so_far → RunsOn deeds before after told calls
      → (image : List ℕ) → MayHave part (calls ++ so_far) after image
      → KeepsPast (setup_of before.host) after (onto past told) image
  keeps_run [] steps past before after told so_far calls sound life stands kept (same, count, nothing, no_calls) image left =
      subst (λ t. KeepsPast (setup_of before.host) after (onto past t) image) (sym nothing)
      (keeps_same (setup_of before.host) before after past image same
      (keeps_up part before past so_far kept image stands
      (have_same part so_far before after image same count
      (subst (λ l. MayHave part (l ++ so_far) after image) no_calls left))))
  keeps_run (deed ∷ deeds) steps past before after told so_far calls sound life stands kept
      (between, first, rest, now, later, same, does, runs, told_is, calls_are) image left =
      let here = one found deed steps past before.host between.host first sound life stands (does_of deed before between first now does) in
      let next = kept_by part deed past before between first so_far now same stands here.stands does kept in
      let all = ap (onto past) told_is ∙ onto-append past first rest in
      subst (λ e. KeepsPast (setup_of before.host) after e image) (sym all)
      (subst (λ s. KeepsPast s after (onto (onto past first) rest) image) same
      (keeps_run deeds (steps ++ here.more) (onto past first) between after rest (now ++ so_far) later
      (subst IsSoundSetup (sym same) sound)
      (subst (λ s. IsLife MOST_RECORDS s found (steps ++ here.more) (onto past first)) (sym same) here.life) here.stands
      (subst (λ s. IsKept part s between (onto past first) (now ++ so_far)) (sym same) next) runs image
      (subst (λ l. MayHave part l after image) (append_assoc later now so_far)
      (subst (λ l. MayHave part (l ++ so_far) after image) calls_are left))))

pub keeps_part : (found : List Record) (deeds : List Deed) (steps : List LiveStep) (past : List Entry)
    (before after : Poll) (told : List Entry) (calls : List Act) → IsSoundSetup (setup_of before.host)
    → IsLife MOST_RECORDS (setup_of before.host) found steps past → StandsFor before.host past
    → noted_in before ≡ [] → RunsOn deeds before after told calls → (image : List ℕ)
    → MayHave (base_in before) calls after image → KeepsPast (setup_of before.host) after (onto past told) image
keeps_part found deeds steps past before after told calls sound life stands none runs image left =
    keeps_run found (base_in before) deeds steps past before after told [] calls sound life stands
    (settled_kept (base_in before) before past [] none refl (λ i is. is) stands) runs image
    (subst (λ l. MayHave (base_in before) l after image) (sym (append-nil calls)) left)
