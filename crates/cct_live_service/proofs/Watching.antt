-- What is seen of the entries of an attempt, one after another.
use Rattle.std.proofs.Common.{◌≡◌, ℕ, List, [], ◌∷◌, ◌++◌, Bool, true, false, if◌then◌else◌, Option, Some, None, refl}
use Rattle.std.specs.List.{All}
use Rattle.std.specs.Option.{option_to_list}
use Rattle.std.proofs.lemmas.List.Elements.{All-append, All-cons, All-nil}
use Rattle.cct_model.specs.lines.entry.Entry.{Entry}
use Rattle.cct_model.specs.lines.entry.Entry.TheVariants as entry_of
use Rattle.cct_model.specs.terms.coin.Credits.{Credits}
use Rattle.cct_model.specs.terms.device.DeviceSetup.{DeviceSetup}
use Rattle.cct_live_service.specs.declared.holds.Hold.{Hold}
use Rattle.cct_live_service.specs.declared.notice.Notice.TheVariants as notice_of
use Rattle.cct_live_service.specs.declared.watch.Watch.{Watch}
use Rattle.cct_live_service.specs.Held.{is_other, newest_hold}
use Rattle.cct_live_service.specs.Watch.{IsOfWatch, bill_notice, due_after, events_told, hold_at, line_notice, new_notice, notices_in, seen_all, seen_at}

-- one entry more
pub seen_more : (w : Watch) (entries : List Entry) (e : Entry) → seen_all w (entries ++ e ∷ []) ≡ seen_at (seen_all w entries) e
seen_more w [] e = refl
seen_more w (first ∷ entries) e = seen_more (seen_at w first) entries e

-- what is reported after an attempt is of the line, or of a bill
line_of_watch : (was failed : Bool) → All IsOfWatch (option_to_list (line_notice was failed))
line_of_watch false true = All-cons IsOfWatch notice_of.LineFault [] tt (All-nil IsOfWatch)
line_of_watch true false = All-cons IsOfWatch notice_of.LineBack [] tt (All-nil IsOfWatch)
line_of_watch false false = All-nil IsOfWatch
line_of_watch true true = All-nil IsOfWatch

bill_if : (b : Bool) (addr place : ℕ) →
    All IsOfWatch (option_to_list (if b then Some (notice_of.Held addr place) else None))
bill_if true addr place = All-cons IsOfWatch (notice_of.Held addr place) [] tt (All-nil IsOfWatch)
bill_if false addr place = All-nil IsOfWatch

new_of_watch : (addr : ℕ) (before hold : Option Hold) → All IsOfWatch (option_to_list (new_notice addr before hold))
new_of_watch addr before None = All-nil IsOfWatch
new_of_watch addr before (Some hold) = bill_if (is_other hold before) addr hold.place

bill_of_watch : (w : Watch) (addr : ℕ) (told : Option Credits) → All IsOfWatch (option_to_list (bill_notice w addr told))
bill_of_watch w addr None = All-nil IsOfWatch
bill_of_watch w addr (Some told) = new_of_watch addr (hold_at w addr) (newest_hold told)

pub due_of_watch : (devices : List DeviceSetup) (w : Watch) (failed : Bool) (entries : List Entry) →
    All IsOfWatch (notices_in (due_after devices w failed entries))
due_of_watch devices w failed (entry_of.Wire addr sent heard ∷ entries) =
    let told = events_told devices addr sent heard in
    All-append IsOfWatch (option_to_list (line_notice w.is_down failed)) (option_to_list (bill_notice w addr told))
    (line_of_watch w.is_down failed) (bill_of_watch w addr told)
due_of_watch devices w failed [] = All-nil IsOfWatch
due_of_watch devices w failed (e ∷ entries) = All-nil IsOfWatch
