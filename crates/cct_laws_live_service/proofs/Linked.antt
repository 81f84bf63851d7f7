-- What goes over the link of a service is a chain of the entries that it reports.
use Rattle.std.proofs.Common.{◌≡◌, ℕ, Bool, true, Some, List, [], ◌∷◌, ◌++◌, sym, ap, refl, ◌∙◌, subst, append-nil, append_assoc, true≢false}
use Rattle.cct_model.specs.terms.device.DeviceSetup.{DeviceSetup}
use Rattle.cct_model.specs.lines.entry.Entry.{Entry}
use Rattle.cct_model.specs.lines.entry.Entry.TheVariants as entry_of
use Rattle.cct_live_survey.specs.declared.finding.Finding.{Finding}
use Rattle.cct_live_survey.specs.declared.roll.TheConstants.{MOST_FINDINGS}
use Rattle.cct_live_survey.specs.Roll.{Rolled}
use Rattle.cct_laws_live_devices.specs.Chain.{Chain, gave_told, is_besides, not_begun, told_besides}
use Rattle.cct_laws_live_devices.proofs.Chains.{chains}
use Rattle.cct_laws_live_devices.proofs.Sending.{AllAsked, asked_first, asked_rest}
use Rattle.cct_live_service.specs.declared.notice.Notice.{Notice}
use Rattle.cct_live_service.specs.declared.watch.Watch.{Watch}
use Rattle.cct_live_service.specs.Asked.{most_asked}
use Rattle.cct_live_service.specs.Linked.{ExchangesSince, UsesLink, Watched, asks, decides, decides_at, due_next, goes_on, has_counted, tells, watch_next}
use Rattle.cct_live_service.specs.Watch.{due_of, notices_in, watch_of}
use Rattle.cct_live_service.specs.Told.{Told, answer_news, entry, falls_short, finding, found_told, knows, last, news_of, notice, operates, pay_of, pays, refused, refused_for, taken, unsent, withheld_for}
use Rattle.cct_laws_live_service.proofs.Rolls.{roll_chain}

-- what is reported in two parts
pub news_both : (told more : List Told) → news_of (told ++ more) ≡ news_of more ++ news_of told
news_both [] more = sym (append-nil (news_of more))
news_both (entry e ∷ told) more = ap (λ es. es ++ e ∷ []) (news_both told more) ∙ append_assoc (news_of more) (news_of told) (e ∷ [])
news_both (unsent addr message ∷ told) more =
    ap (λ es. es ++ entry_of.Wire addr message [] ∷ []) (news_both told more)
    ∙ append_assoc (news_of more) (news_of told) (entry_of.Wire addr message [] ∷ [])
news_both (refused number why ∷ told) more = news_both told more
news_both (notice n ∷ told) more = news_both told more
news_both (finding f ∷ told) more = news_both told more
news_both (last e ∷ told) more = news_both told more
news_both (operates s e ∷ told) more = news_both told more
news_both (pays p answer ∷ told) more =
    ap (λ es. es ++ answer_news p answer) (news_both told more)
    ∙ append_assoc (news_of more) (news_of told) (answer_news p answer)
news_both (falls_short p paid rest ∷ told) more = news_both told more
news_both (knows all line ∷ told) more = news_both told more

module _ {L : Type 0} (gives : L → List ℕ → List ℕ → L → Type 0) (sent : L → Bool) (failures : L → ℕ)
    (devices : List DeviceSetup) where
  -- an entry that is no exchange
  entry_aside : (due : List Notice) (old new : Watched L) (e : Entry) (told : List Told) → is_besides e ≡ true →
      ExchangesSince gives sent failures devices due old new (entry e ∷ told) →
      (next : List Notice) × (w : Watch)
      × ExchangesSince gives sent failures devices next (record { link = old.link; watch = w }) new told
  entry_aside due old new (entry_of.Wire addr message heard) told is exchanges = absurd (true≢false (sym is))
  entry_aside due old new e told is exchanges =
      (due_next old.watch due (entry e), watch_next old.watch (entry e), exchanges.1)

  after_wire : (old line new : L) (addr : ℕ) (message heard : List ℕ) (told : List Told) → gives old message heard line →
      Chain gives line (news_of told) new → Chain gives old (news_of told ++ entry_of.Wire addr message heard ∷ []) new
  after_wire old line new addr message heard told given goes =
      chains gives old line new (entry_of.Wire addr message heard ∷ []) (news_of told)
      (gave_told [] addr message heard old line not_begun given) goes

  after_entry : (old new : L) (e : Entry) (told : List Told) → is_besides e ≡ true → Chain gives old (news_of told) new →
      Chain gives old (news_of told ++ e ∷ []) new
  after_entry old new e told is goes =
      chains gives old old new (e ∷ []) (news_of told) (told_besides [] e old not_begun is) goes

  exchanges_chain : (due : List Notice) (old new : Watched L) (told : List Told) → AllAsked (news_of told) →
      ExchangesSince gives sent failures devices due old new told → Chain gives old.link (news_of told) new.link
  exchanges_chain due old new [] asked is =
      subst (λ (l : Watched L). Chain gives old.link [] l.link) (sym is.1) not_begun
  exchanges_chain due old new (entry (entry_of.Wire addr message heard) ∷ told) asked exchanges =
      let failed = has_counted failures old.link exchanges.1 in
      after_wire old.link exchanges.1 new.link addr message heard told exchanges.2
      (exchanges_chain (notices_in (due_of devices old.watch failed addr message heard))
      (record { link = exchanges.1; watch = watch_of devices old.watch failed addr message heard }) new told
      (asked_first (news_of told) _ asked) exchanges.4)
  exchanges_chain due old new (entry e ∷ told) asked exchanges =
      let besides : is_besides e ≡ true = (asked_rest (news_of told) (e ∷ []) asked).0 in
      let aside = entry_aside due old new e told besides exchanges in
      after_entry old.link new.link e told besides
      (exchanges_chain aside.0 (record { link = old.link; watch = aside.1 }) new told
      (asked_first (news_of told) (e ∷ []) asked) aside.2)
  exchanges_chain due old new (unsent addr message ∷ told) asked exchanges =
      let failed = has_counted failures old.link exchanges.1 in
      after_wire old.link exchanges.1 new.link addr message [] told exchanges.2
      (exchanges_chain (notices_in (due_of devices old.watch failed addr message []))
      (record { link = exchanges.1; watch = watch_of devices old.watch failed addr message [] }) new told
      (asked_first (news_of told) _ asked) exchanges.4)
  exchanges_chain due old new (notice n ∷ told) asked exchanges =
      exchanges_chain (due_next old.watch due (notice n)) old new told asked exchanges.1
  exchanges_chain due old new (refused number why ∷ told) asked exchanges =
      exchanges_chain (due_next old.watch due (refused number why)) old new told asked exchanges.1
  exchanges_chain due old new (finding f ∷ told) asked exchanges =
      exchanges_chain (due_next old.watch due (finding f)) old new told asked exchanges.1
  exchanges_chain due old new (last e ∷ told) asked exchanges =
      exchanges_chain (due_next old.watch due (last e)) old new told asked exchanges.1
  exchanges_chain due old new (operates s e ∷ told) asked exchanges =
      exchanges_chain (due_next old.watch due (operates s e)) old new told asked exchanges.1
  exchanges_chain due old new (pays p taken ∷ told) asked exchanges =
      after_entry old.link new.link (entry_of.Taken (pay_of p)) told refl
      (exchanges_chain (due_next old.watch due (pays p taken)) old new told
      (asked_first (news_of told) (entry_of.Taken (pay_of p) ∷ []) asked) exchanges.1)
  exchanges_chain due old new (pays p (refused_for why) ∷ told) asked exchanges =
      after_entry old.link new.link (entry_of.No (pay_of p) why) told refl
      (exchanges_chain (due_next old.watch due (pays p (refused_for why))) old new told
      (asked_first (news_of told) (entry_of.No (pay_of p) why ∷ []) asked) exchanges.1)
  exchanges_chain due old new (pays p (withheld_for why) ∷ told) asked exchanges =
      subst (λ es. Chain gives old.link es new.link) (sym (append-nil (news_of told)))
      (exchanges_chain (due_next old.watch due (pays p (withheld_for why))) old new told
      (subst AllAsked (append-nil (news_of told)) asked) exchanges.1)
  exchanges_chain due old new (falls_short p paid rest ∷ told) asked exchanges =
      exchanges_chain (due_next old.watch due (falls_short p paid rest)) old new told asked exchanges.1
  exchanges_chain due old new (knows all line ∷ told) asked exchanges =
      exchanges_chain (due_next old.watch due (knows all line)) old new told asked exchanges.1

  -- a decision, and what devices said before it
  decided_chain : (line : L) (addr : ℕ) (found : List Finding) (what : Told) → decides_at what ≡ Some addr →
      Chain gives line (news_of (found_told found ++ what ∷ [])) line
  decided_chain line addr (f ∷ found) what at = decided_chain line addr found what at
  decided_chain line addr [] (entry (entry_of.Taken c)) at = after_entry line line (entry_of.Taken c) [] refl not_begun
  decided_chain line addr [] (entry (entry_of.No c why)) at = after_entry line line (entry_of.No c why) [] refl not_begun
  decided_chain line addr [] (notice n) at = not_begun
  decided_chain line addr [] (pays p taken) at = after_entry line line (entry_of.Taken (pay_of p)) [] refl not_begun
  decided_chain line addr [] (pays p (refused_for why)) at =
      after_entry line line (entry_of.No (pay_of p) why) [] refl not_begun
  decided_chain line addr [] (pays p (withheld_for why)) at = not_begun
  decided_chain line addr [] what at = cc at

  pub uses_chain : (roll now : Rolled) (old new : Watched L) (told : List Told) → AllAsked (news_of told) →
      UsesLink gives sent failures devices roll now old new told → Chain gives old.link (news_of told) new.link
  uses_chain _ _ _ _ _ asked (tells roll old new told exchanges) = exchanges_chain [] old new told asked exchanges
  uses_chain _ _ _ _ _ asked (asks whom answered roll now old new watch questions) =
      roll_chain gives devices whom (most_asked whom) roll old answered now new questions
  uses_chain _ _ _ _ _ asked (decides addr answered roll now old new watch found what questions at) =
      subst (λ es. Chain gives old es new) (append-nil (news_of (found_told found ++ what ∷ [])))
      (chains gives old new new [] (news_of (found_told found ++ what ∷ []))
      (roll_chain gives devices (Some addr) MOST_FINDINGS roll old answered now new questions)
      (decided_chain new addr found what at))
  uses_chain _ _ _ _ _ asked (goes_on roll between now old line new told more first then) =
      let both = subst AllAsked (news_both told more) asked in
      subst (λ es. Chain gives old.link es new.link) (sym (news_both told more))
      (chains gives old.link line.link new.link (news_of told) (news_of more)
      (uses_chain roll between old line told (asked_rest (news_of more) (news_of told) both) first)
      (uses_chain between now line new more (asked_first (news_of more) (news_of told) both) then))
