-- What a host is after an entry that changes no job, no epoch, no open order and no record.
use Rattle.std.proofs.Common.{◌≡◌, ◌∙◌, ◌∷◌, List, ap, length, refl, reverse, subst, sym}
use Rattle.cct_model.specs.lines.entry.Entry.{Entry}
use Rattle.cct_model.specs.lines.entry.Entry.TheVariants as entry
use Rattle.cct_model.specs.lines.entry.Totals.{Totals}
use Rattle.cct_model.specs.Carry.{carry}
use Rattle.cct_model.specs.Following.{all_follow}
use Rattle.cct_model.specs.Job.{epoch, job}
use Rattle.cct_model.specs.Order.{order}
use Rattle.cct_disk.specs.declared.disk.Disk.{Ghosts}
use Rattle.cct_journal.specs.Journal as journals
use Rattle.cct_host.specs.declared.host.Host.{Host}
use Rattle.cct_host.specs.OnDisk.{KeepsRecords}
use Rattle.cct_host.specs.Host as hosts
use Rattle.cct_host.specs.Place.{Place, device, lines_at, sales, scans}
use Rattle.cct_host.proofs.Lines.{IsQuiet}
use Rattle.cct_host.proofs.Standing.{desks_stand}

pub host_quiet : {D : Type 0} {g : Ghosts D} (host : Host D g) (past : List Entry) (e : Entry) → IsQuiet past e
    → hosts.StandsFor host past → hosts.StandsFor host (e ∷ past)
host_quiet {D} {g} host past e quiet stands =
    let same = sym quiet.records_are in record {
      keeps = record {
        desks = desks_stand host.desks past e quiet stands.keeps.desks;
        follow = ap (all_follow (hosts.setup_of host)) quiet.records_are ∙ stands.keeps.follow;
        carry_is = stands.keeps.carry_is ∙ ap (carry (hosts.setup_of host)) same;
        used = stands.keeps.used ∙ ap length same;
      };
      on_disk = λ trusted.
          subst (λ rs. KeepsRecords (hosts.setup_of host) g.honest g.seen g.may_leave (hosts.disk_of host) (journals.place_of host.journal)
          (reverse rs)) same (stands.on_disk trusted);
    }

-- a balance that is reported is no line
balance_line : (t : Totals) (place : Place) (past : List Entry)
    → lines_at place (entry.Balance t ∷ past) ≡ lines_at place past
balance_line t (device d) past = refl
balance_line t scans past = refl
balance_line t sales past = refl

pub balance_quiet : (past : List Entry) (t : Totals) → IsQuiet past (entry.Balance t)
balance_quiet past t = record {
  jobs = λ place. ap job (balance_line t place past);
  epochs = λ place. ap epoch (balance_line t place past);
  orders = λ place. ap order (balance_line t place past);
  records_are = refl;
}
