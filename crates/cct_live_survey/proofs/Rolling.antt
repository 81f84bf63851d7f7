-- Calls of a roll: there is room for what is found, only questions were asked, and findings grow at the end.
use Rattle.std.proofs.Common.{◌≡◌, ◌+◌, ◌≤◌, ◌++◌, ◌∙◌, ap, arith, refl, subst, sym, true, false, ℕ, List, [], Option, Some, None, length, nat_le, slice_get, remove, if◌then◌else◌}
use Rattle.std.proofs.lemmas.List.Edits.{length-remove}
use Rattle.std.proofs.lemmas.List.Sums.{sum_by-append, sum_by-remove}
use Rattle.std.proofs.lemmas.Bool.{le-leb, leb-true}
use Rattle.std.proofs.lemmas.List.{append_assoc, append-nil, length-append}
use Rattle.std.proofs.lemmas.Option.{get_or_from_slice_get, slice_get_within}
use Rattle.std.specs.List.{sum_by}
use Rattle.std.specs.Option.{option_to_list}
use Rattle.cct_model_lines.specs.terms.device.DeviceSetup.{DeviceSetup}
use Rattle.cct_model_lines.specs.terms.device.DeviceBody.{DeviceBody}
use Rattle.cct_model_lines.specs.terms.request.Request.TheVariants as request
use Rattle.cct_model_lines.specs.terms.request.ReplyForm.TheVariants as form
use Rattle.cct_live_survey.specs.declared.calling.About.{About}
use Rattle.cct_live_survey.specs.declared.calling.About.TheVariants as about
use Rattle.cct_live_survey.specs.declared.calling.Called.{Called}
use Rattle.cct_live_survey.specs.declared.finding.Finding.{Finding}
use Rattle.cct_live_survey.specs.declared.roll.Answered.{Answered}
use Rattle.cct_live_survey.specs.declared.roll.TheConstants.{MOST_FINDINGS}
use Rattle.cct_live_survey.specs.declared.roll.Turn.{Turn}
use Rattle.cct_live_survey.specs.Asking.{Inquires, category_told, id_told, serial_told, still}
use Rattle.cct_live_survey.specs.Roll.{AsksRoll, Calls, CallsAt, CallsOnce, IsRoomy, Rolled, all_answered, called_more, found_from, given_up, last_silent, most_found, moved, once_more, passed_over, uncalled, was_nobody, was_silent, was_told}
use Rattle.cct_live_survey.proofs.Inquiring.{one_more}

-- what is left to be found when a turn is over
pub sum_moved : (left : List Turn) (index : ℕ) (t : Turn) (next : List Turn) → slice_get left index ≡ Some t
    → sum_by most_found (remove left index ++ next) + most_found t ≡ sum_by most_found left + sum_by most_found next
sum_moved left index t next is =
    let parts = sum_by-append most_found (remove left index) next in
    let less = sum_by-remove most_found left index t (slice_get_within left index t is) in
    let same = ap most_found (get_or_from_slice_get left index t t is) in
    omega (arith, parts, less, same)

-- what may be found by a question is least when it was given up once
pub least_found : (a : About) (silent : ℕ) → found_from a 3 ≤ found_from a silent
least_found about.Serial silent = elim (nat_le 3 silent) as (λ b. 18 ≤ (if b then 18 else 19)) [ true ↦ omega arith | false ↦ omega arith ]
least_found about.Category silent = omega arith
least_found (about.Coin place) silent = omega arith

-- something may be found by each
pub some_found : (a : About) → 1 ≤ found_from a 3
some_found about.Serial = omega arith
some_found about.Category = omega arith
some_found (about.Coin place) = omega arith

-- a turn that is given up has been worth one finding more
pub absent_found : (silent : ℕ) → silent ≡ 2 → 1 + found_from about.Serial (silent + 1) ≤ found_from about.Serial silent
absent_found silent is = subst (λ n. 1 + found_from about.Serial (n + 1) ≤ found_from about.Serial n) (sym is) (omega arith)

three_later : (n : ℕ) → nat_le 3 n ≡ true → nat_le 3 (n + 1) ≡ true
three_later n is = le-leb 3 (n + 1) (omega (arith, leb-true 3 n is))

-- one silence more makes no more to be found
pub no_more_found : (a : About) (silent : ℕ) → found_from a (silent + 1) ≤ found_from a silent
no_more_found about.Serial silent =
    elim (nat_le 3 silent) as (λ b. nat_le 3 silent ≡ b → found_from about.Serial (silent + 1) ≤ (if b then 18 else 19)) [
      | true ↦ λ is. subst (λ b. (if b then 18 else 19) ≤ 18) (sym (three_later silent is)) (omega arith)
      | false ↦ λ is. elim (nat_le 3 (silent + 1)) as (λ b. (if b then 18 else 19) ≤ 19) [ true ↦ omega arith | false ↦ omega arith ]
    ] refl
no_more_found about.Category silent = omega arith
no_more_found (about.Coin place) silent = omega arith

-- what may be found from one turn on is part of what may be found
pub part_found : (left : List Turn) (index : ℕ) (t : Turn) → slice_get left index ≡ Some t → most_found t ≤ sum_by most_found left
part_found left index t is =
    let less = sum_by-remove most_found left index t (slice_get_within left index t is) in
    let same = ap most_found (get_or_from_slice_get left index t t is) in
    omega (arith, less, same)

-- there is room for what is found when a turn is over
pub room_for : (left : List Turn) (findings : List Finding) (index : ℕ) (t : Turn) (found next : ℕ) → IsRoomy left findings
    → slice_get left index ≡ Some t → found + next ≤ most_found t → length findings + found ≤ MOST_FINDINGS
room_for left findings index t found next roomy is fits =
    let room = roomy.room in
    let part = part_found left index t is in
    omega (arith, room, part, fits)

one_at_most : {A : Type 0} (one : Option A) → length (option_to_list one) ≤ 1
one_at_most None = omega arith
one_at_most (Some x) = omega arith

-- and for what may be found then
pub roomy_moved : (left : List Turn) (findings : List Finding) (index : ℕ) (t : Turn) (next : Option Turn) (found : Option Finding)
    → IsRoomy left findings → slice_get left index ≡ Some t
    → length (option_to_list found) + sum_by most_found (option_to_list next) ≤ most_found t
    → IsRoomy (remove left index ++ option_to_list next) (findings ++ option_to_list found)
roomy_moved left findings index t next found roomy is fits =
    let room = roomy.room in
    let turns = roomy.turns in
    let within = slice_get_within left index t is in
    let sums = sum_moved left index t (option_to_list next) is in
    let less = length-remove left index within in
    let more = length-append (remove left index) (option_to_list next) in
    let one = one_at_most next in
    let all = length-append findings (option_to_list found) in
    record {
      turns = omega (arith, turns, less, more, one);
      room = omega (arith, room, sums, all, fits);
    }

-- what was found before stays, and more may stand after it
abbrev pub GrowsTo : Rolled → Rolled → Type 0
GrowsTo old new = (added : List Finding) × (new.findings ≡ old.findings ++ added)

pub none_more : (r : Rolled) → GrowsTo r r
none_more r = ([], sym (append-nil r.findings))

pub and_more : (r s t : Rolled) → GrowsTo r s → GrowsTo s t → GrowsTo r t
and_more r s t before after =
    (before.0 ++ after.0, after.1 ∙ ap (λ fs. fs ++ after.0) before.1 ∙ append_assoc r.findings before.0 after.0)

pub moved_grows : (index : ℕ) (next : Option Turn) (found : Option Finding) (r : Rolled) → GrowsTo r (moved index next found r)
moved_grows index next found r = (option_to_list found, refl)

given_grows : (index : ℕ) (body : DeviceBody) (t : Turn) (a : About) (r : Rolled) → GrowsTo r (given_up index body t a r)
given_grows index body t about.Serial r = (_, refl)
given_grows index body t about.Category r = (_, refl)
given_grows index body t (about.Coin place) r = (_, refl)

passed_grows : (index : ℕ) (body : DeviceBody) (t : Turn) (r : Rolled) → GrowsTo r (passed_over index body t r)
passed_grows index body t r =
    elim (nat_le 3 t.silent) as (λ b. GrowsTo r (if b then moved index (Some t) None r
    else if nat_le 2 t.silent then given_up index body t t.about r else moved index (Some (once_more t)) None r)) [
      | true ↦ moved_grows index (Some t) None r
      | false ↦ elim (nat_le 2 t.silent) as (λ b. GrowsTo r (if b then given_up index body t t.about r else moved index (Some (once_more t)) None r)) [
        | true ↦ given_grows index body t t.about r
        | false ↦ moved_grows index (Some (once_more t)) None r
      ]
    ]

module _ {L : Type 0} {gives : L → List ℕ → List ℕ → L → Type 0} where
  once_inquires : (d : DeviceSetup) (a : About) (line : L) (came : Called) (next : L) → CallsOnce gives d a line came next
      → (first : L) → Inquires gives first line → Inquires gives first next
  once_inquires d about.Serial line came next once first before =
      one_more 1 d.kind d.addr request.SerialNumber form.Serial serial_told before refl (omega arith) once.1
  once_inquires d about.Category line came next once first before =
      one_more 1 d.kind d.addr request.Category form.Text category_told before refl (omega arith) once.1
  once_inquires d (about.Coin place) line came next once first before =
      one_more 1 d.kind d.addr (request.CoinId place) form.CoinId id_told before refl (omega arith) once.1

  at_inquires : (devices : List DeviceSetup) (index : ℕ) (r : Rolled) (line : L) (how : Answered) (now : Rolled) (next : L)
      → CallsAt gives devices index r line how now next → (first : L) → Inquires gives first line → Inquires gives first next
  at_inquires devices index r line how now next (was_told t d found last at there once) first before =
      once_inquires d t.about line _ last once first before
  at_inquires devices index r line how now next (was_silent t d last at there once) first before =
      once_inquires d t.about line _ last once first before
  at_inquires devices index r line how now next (was_nobody t at nobody) first before = before

  at_grows : (devices : List DeviceSetup) (index : ℕ) (r : Rolled) (line : L) (how : Answered) (now : Rolled) (next : L)
      → CallsAt gives devices index r line how now next → GrowsTo r now
  at_grows devices index r line how now next (was_told t d found last at there once) = (option_to_list found, refl)
  at_grows devices index r line how now next (was_silent t d last at there once) = passed_grows index d.body t r
  at_grows devices index r line how now next (was_nobody t at nobody) = moved_grows index None None r

  calls_inquire : (devices : List DeviceSetup) (whom : Option ℕ) (r : Rolled) (line : L) (many : ℕ) (now : Rolled) (next : L)
      → Calls gives devices whom r line many now next → Inquires gives line next
  calls_inquire devices whom r line many now next uncalled = still
  calls_inquire devices whom r line many now next (called_more fewer index before after between last calls at call) =
      at_inquires devices index before between _ after last call line (calls_inquire devices whom r line fewer before between calls)

  calls_grow : (devices : List DeviceSetup) (whom : Option ℕ) (r : Rolled) (line : L) (many : ℕ) (now : Rolled) (next : L)
      → Calls gives devices whom r line many now next → GrowsTo r now
  calls_grow devices whom r line many now next uncalled = none_more r
  calls_grow devices whom r line many now next (called_more fewer index before after between last calls at call) =
      and_more r before after (calls_grow devices whom r line fewer before between calls)
      (at_grows devices index before between _ after last call)

  pub roll_inquires : (devices : List DeviceSetup) (whom : Option ℕ) (most : ℕ) (r : Rolled) (line : L) (how : Answered) (now : Rolled) (next : L)
      → AsksRoll gives devices whom most r line how now next → Inquires gives line next
  roll_inquires devices whom most r line how now next (all_answered many after last few calls done) =
      calls_inquire devices whom r line many after last calls
  roll_inquires devices whom most r line how now next (last_silent many index before after between last few calls at call) =
      at_inquires devices index before between _ after last call line (calls_inquire devices whom r line many before between calls)

  pub roll_grows : (devices : List DeviceSetup) (whom : Option ℕ) (most : ℕ) (r : Rolled) (line : L) (how : Answered) (now : Rolled) (next : L)
      → AsksRoll gives devices whom most r line how now next → GrowsTo r now
  roll_grows devices whom most r line how now next (all_answered many after last few calls done) =
      calls_grow devices whom r line many after last calls
  roll_grows devices whom most r line how now next (last_silent many index before after between last few calls at call) =
      and_more r before after (calls_grow devices whom r line many before between calls)
      (at_grows devices index before between _ after last call)
