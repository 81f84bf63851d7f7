-- What a service remembers of its line and of the bills that are held, and what it reports of them.
use Rattle.std.specs.Prelude.{ℕ, Bool, true, false, List, [], ◌∷◌, ◌++◌, if◌then◌else◌, Option}
use Rattle.std.specs.Prelude.{Some, None, replicate, slice_index_or, slice_set, ⊤}
use Rattle.std.specs.Option.{option_map, option_to_list}
use Rattle.cct_model.specs.lines.entry.End.{End}
use Rattle.cct_model.specs.lines.entry.End.TheVariants as end_of
use Rattle.cct_model.specs.lines.entry.Entry.{Entry}
use Rattle.cct_model.specs.lines.entry.Entry.TheVariants as entry_of
use Rattle.cct_model.specs.terms.coin.Credits.{Credits}
use Rattle.cct_model.specs.terms.device.DeviceSetup.{DeviceSetup}
use Rattle.cct_model.specs.terms.wire.CheckKind.{CheckKind}
use Rattle.cct_model.specs.terms.wire.CheckKind.TheVariants.{Simple}
use Rattle.cct_model.specs.Exchange.{device_at}
use Rattle.cct_live_service.specs.declared.holds.Hold.{Hold}
use Rattle.cct_live_service.specs.declared.notice.Notice.{Notice}
use Rattle.cct_live_service.specs.declared.notice.Notice.TheVariants as notice_of
use Rattle.cct_live_service.specs.declared.watch.Due.{Due}
use Rattle.cct_live_service.specs.declared.watch.Watch.{Watch}
use Rattle.cct_live_service.specs.Held.{bills_told, is_other, newest_hold}

-- The line is well, and no bill is held.
abbrev pub clear_watch : Watch
clear_watch = record { is_down = false; held = replicate 256 None }

-- The bill that is held at an address, as the last reading there reported it.
abbrev pub hold_at : Watch → ℕ → Option Hold
hold_at w addr = slice_index_or w.held addr None

-- Its place.
abbrev pub place_at : Watch → ℕ → Option ℕ
place_at w addr = option_map (λ (hold : Hold). hold.place) (hold_at w addr)

-- What is reported of the line after an exchange, by whether it was down before and whether the
-- exchange failed.
abbrev pub line_notice : Bool → Bool → Option Notice
line_notice false true = Some notice_of.LineFault
line_notice true false = Some notice_of.LineBack
line_notice was_down has_failed = None

-- What is reported of the bill that a reading at an address shows as held, by the one that was held
-- before.
abbrev pub new_notice : ℕ → Option Hold → Option Hold → Option Notice
new_notice addr before None = None
new_notice addr before (Some hold) =
    if is_other hold before then Some (notice_of.Held addr hold.place) else None

-- What is reported of the bill that is held at an address, where an exchange reported these events
-- of a bill acceptor.
abbrev pub bill_notice : Watch → ℕ → Option Credits → Option Notice
bill_notice w addr None = None
bill_notice w addr (Some told) = new_notice addr (hold_at w addr) (newest_hold told)

-- The bills that are held then.
abbrev pub held_after : List (Option Hold) → ℕ → Option Credits → List (Option Hold)
held_after held addr None = held
held_after held addr (Some told) = slice_set held addr (newest_hold told)

-- The check of a device, where one is.
abbrev pub check_of : Option DeviceSetup → CheckKind
check_of None = Simple
check_of (Some d) = d.kind

-- The events that an exchange with a device of the setup reported of a bill acceptor, if it
-- reported some.
abbrev pub events_told : List DeviceSetup → ℕ → List ℕ → List ℕ → Option Credits
events_told devices addr sent heard = bills_told (check_of (device_at devices addr)) addr sent heard

-- What is reported after an exchange that failed or not.
abbrev pub due_of : List DeviceSetup → Watch → Bool → ℕ → List ℕ → List ℕ → Due
due_of devices w has_failed addr sent heard = record {
  line = line_notice w.is_down has_failed;
  bill = bill_notice w addr (events_told devices addr sent heard);
}

-- What is remembered then.
abbrev pub watch_of : List DeviceSetup → Watch → Bool → ℕ → List ℕ → List ℕ → Watch
watch_of devices w has_failed addr sent heard = record {
  is_down = has_failed;
  held = held_after w.held addr (events_told devices addr sent heard);
}

-- Nothing is reported.
abbrev pub none_due : Due
none_due = record { line = None; bill = None }

-- What is reported, one after the other.
abbrev pub notices_in : Due → List Notice
notices_in due = option_to_list due.line ++ option_to_list due.bill

-- A job at an address ended: a bill that was routed isn't held any more.
abbrev pub ended_at : Watch → ℕ → End → Watch
ended_at w addr end_of.Routed = record { is_down = w.is_down; held = slice_set w.held addr None }
ended_at w addr end = w

-- An entry was reported, which is no exchange.
abbrev pub seen_at : Watch → Entry → Watch
seen_at w (entry_of.Ended addr end) = ended_at w addr end
seen_at w e = w

-- Such entries were reported, one after another.
abbrev pub seen_all : Watch → List Entry → Watch
seen_all w [] = w
seen_all w (e ∷ entries) = seen_all (seen_at w e) entries

-- What is reported after the entries of an attempt, whose exchange failed or not, if it made one.
abbrev pub due_after : List DeviceSetup → Watch → Bool → List Entry → Due
due_after devices w has_failed (entry_of.Wire addr sent heard ∷ entries) =
    due_of devices w has_failed addr sent heard
due_after devices w has_failed entries = none_due

-- What is remembered after its first entry.
abbrev pub watch_first : List DeviceSetup → Watch → Bool → List Entry → Watch
watch_first devices w has_failed (entry_of.Wire addr sent heard ∷ entries) =
    watch_of devices w has_failed addr sent heard
watch_first devices w has_failed entries = w

-- And after all of them.
abbrev pub watch_after : List DeviceSetup → Watch → Bool → List Entry → Watch
watch_after devices w has_failed entries =
    seen_all (watch_first devices w has_failed entries) entries

-- A notice says how the line is, or of a bill that is held.
abbrev pub IsOfWatch : Notice → Type 0
IsOfWatch notice_of.LineFault = ⊤
IsOfWatch notice_of.LineBack = ⊤
IsOfWatch (notice_of.Held addr place) = ⊤
IsOfWatch n = ⊥
