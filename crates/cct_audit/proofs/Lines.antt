-- Captures by their lines.
use Rattle.std.proofs.Common.{◌≡◌, ◌<◌, ◌≤◌, ℕ, List, get_or, length, map, take, refl, ap, sym, ◌∙◌, subst}
use Rattle.std.proofs.lemmas.List.{get_or-map, length-map, take_all}
use Rattle.cct_audit_taps.specs.declared.said.Said.{Said}
use Rattle.cct_monitor.specs.declared.monitor.Monitor.{Monitor}
use Rattle.cct_monitor.specs.Watches.{Came}
use Rattle.cct_script.proofs.Continuing.{Lawful}
use Rattle.cct_audit.specs.Capture.{Read, capture_form, of_capture}
use Rattle.cct_audit.specs.Reading.{TakesTap, TakesWatch}
use Rattle.cct_audit.specs.Telling.{said_line}
use Rattle.cct_audit.specs.declared.reading.Opened.{Opened}
use Rattle.cct_audit.specs.declared.reading.Opened.TheVariants as opened
use Rattle.cct_audit.specs.declared.reading.Tapped.{Tapped}
use Rattle.cct_audit.specs.declared.reading.Tapped.TheVariants as tapped

abbrev pub by_capture : Lawful of_capture
by_capture = record {
  form = capture_form;
  refused = λ number stage why rest. refl;
  last = λ number stage part. refl;
  whole = λ number stage line next parts. refl;
}

-- what a line is, put in another way
pub watch_told : (past : List Came) (o : Opened) (monitor : Monitor) (P Q : Read → Type 0) → ((read : Read) → P read → Q read)
    → TakesWatch past o monitor P → TakesWatch past o monitor Q
watch_told past opened.Watched monitor P Q more takes = (takes.0, more _ takes.1, takes.2)
watch_told past opened.Begun monitor P Q more takes = (more _ takes.0, takes.1)

pub tap_told : (past : List Came) (t : Tapped) (monitor : Monitor) (report : List Said) (P Q : Read → Type 0)
    → ((read : Read) → P read → Q read) → TakesTap past t monitor report P → TakesTap past t monitor report Q
tap_told past tapped.Tapped monitor report P Q more takes = (takes.0, more _ takes.1, takes.2, takes.3)
tap_told past tapped.Ended monitor report P Q more takes = (more _ takes.0, takes.1)

-- the lines of what is said stand where that stands
pub said_within : (all : List Said) (i : ℕ) → i < length all → i < length (map said_line all)
said_within all i inside = subst (λ n. i < n) (sym (length-map all said_line)) inside

pub said_at : (all : List Said) (i : ℕ) (x : Said) → i < length all → x ≡ get_or all i x
    → said_line x ≡ get_or (map said_line all) i (said_line x)
said_at all i x inside is = ap said_line is ∙ sym (get_or-map said_line all i x (said_line x) inside)

pub said_whole : (all : List Said) (i : ℕ) → length all ≤ i → take i (map said_line all) ≡ map said_line all
said_whole all i past = take_all i (map said_line all) (subst (λ n. n ≤ i) (sym (length-map all said_line)) past)
