-- Where a record is due nothing is sent.
use Rattle.std.proofs.Common.{◌≡◌, ℕ, ◌==◌, if◌then◌else◌, Bool, true, false, Option, Some, None, refl, sym, true≢false, ◌∙◌}
use Rattle.std.specs.Prelude.{is_some}
use Rattle.cct_model.specs.terms.wire.TheConstants.{BROADCAST, HOST}
use Rattle.cct_model.specs.lines.record.Record.{Record}
use Rattle.cct_jobs.specs.declared.job.Job.{Job}
use Rattle.cct_host.specs.declared.desk.JobDesk.{JobDesk}
use Rattle.cct_host.specs.declared.desks.Desks.{Desks}
use Rattle.cct_host.specs.Desks.{desk_there, due_at_desk, due_on, sending_at_desk, sending_on}
use Rattle.cct_host.specs.Held.{due_by, sending_by}
use Rattle.cct_host.proofs.Attempts.{puts_alone}
use Rattle.cct_host.proofs.Putting.{all_is_no_host}

job_alone : (job : Option Job) (due : Option Record) → due_by job ≡ due → is_some due ≡ true → sending_by job ≡ None
job_alone None due is some = refl
job_alone (Some job) None is some = absurd cc
job_alone (Some job) (Some r) is some = puts_alone job r is

bare_alone : (scan sale : JobDesk) (addr : ℕ) (all host : Bool) → (addr == BROADCAST) ≡ all → (addr == HOST) ≡ host
    → is_some (if host then due_by sale.job else None) ≡ true → (if all then sending_by scan.job else None) ≡ None
bare_alone scan sale addr false host every own some = refl
bare_alone scan sale addr true false every own some = absurd cc
bare_alone scan sale addr true true every own some = absurd (true≢false (sym own ∙ all_is_no_host addr every))

desk_alone : (scan sale : JobDesk) (addr : ℕ) (there : Option JobDesk) → is_some (due_at_desk sale addr there) ≡ true
    → sending_at_desk scan addr there ≡ None
desk_alone scan sale addr (Some desk) some = job_alone desk.job (due_by desk.job) refl some
desk_alone scan sale addr None some = bare_alone scan sale addr (addr == BROADCAST) (addr == HOST) refl refl some

-- at an address
pub due_alone : (desks : Desks) (addr : ℕ) → is_some (due_on desks addr) ≡ true → sending_on desks addr ≡ None
due_alone desks addr some = desk_alone desks.scan desks.sale addr (desk_there desks addr) some
