-- What steps at the operator's desk give and leave.
use Rattle.std.proofs.Common.{◌≡◌, ◌≤◌, ℕ, Bool, true, false, List, [], ◌∷◌, ◌++◌, reverse, refl, sym, ap, subst, ◌∙◌, Some}
use Rattle.cct_model.specs.terms.device.DeviceSetup.{DeviceSetup}
use Rattle.cct_model.specs.terms.device.Setup.{Setup}
use Rattle.cct_model.specs.lines.command.Command.TheVariants as command
use Rattle.cct_model.specs.lines.command.CommandNo.{CommandNo}
use Rattle.cct_model.specs.lines.command.Step.TheVariants as step
use Rattle.cct_model.specs.lines.entry.Entry.{Entry}
use Rattle.cct_model.specs.lines.entry.Entry.TheVariants as entry
use Rattle.cct_model.specs.declared.change.Payment.{Payment}
use Rattle.cct_model.specs.declared.change.Session.{Session}
use Rattle.cct_model.specs.Change.{Desk, Serves, desk_after, pay_entries, served, short_entry}
use Rattle.cct_model.specs.Honest.{was_forged}
use Rattle.cct_model.specs.Job.{epoch, job}
use Rattle.cct_model.specs.Order.{order}
use Rattle.cct_model.specs.Records.{records}
use Rattle.cct_model.specs.Transcript.{lines_of, pending, sale_lines, scan_lines}
use Rattle.cct_bus.specs.declared.bus.Bus.{Bus}
use Rattle.cct_bus.specs.Bus as wires
use Rattle.cct_disk.specs.declared.disk.Disk.{Ghosts}
use Rattle.cct_host.specs.declared.host.Host.{Host}
use Rattle.cct_host.specs.Host as hosts
use Rattle.cct_host.specs.Place.{Place, device, lines_at, sales, scans}
use Rattle.cct_host.proofs.Lines.{IsQuiet}
use Rattle.cct_host.proofs.Quiet.{host_quiet}
use Rattle.cct_host_change.specs.Serving.{Asks, Ends, change_told, entries_by}
use Rattle.cct_world.specs.declared.machine.Machine.{Machine}
use Rattle.cct_world.specs.Machine.{Pays, PlaysUndisturbed, capacity_in, desk_of, setup_of}
use Rattle.cct_world.specs.Restarts.{kept_in}
use Rattle.cct_world.specs.Step.{crashes}
use Rattle.cct_world.proofs.Steps.{Left, one_goes}
use Rattle.cct_world.proofs.Wires.{SameMet, command_wire, still}

-- an entry that is no line, that no device meets, and that shows no fault, no record and no power cut
pub record IsAside (e : Entry) : Type 0 where
  lines : (past : List Entry) → ((d : DeviceSetup) → lines_of d (e ∷ past) ≡ lines_of d past)
      × (scan_lines (e ∷ past) ≡ scan_lines past) × (sale_lines (e ∷ past) ≡ sale_lines past)
  wire : (past : List Entry) → SameMet past (e ∷ past) × (pending (e ∷ past) ≡ pending past)
      × (was_forged (e ∷ past) ≡ was_forged past)
  put : (past : List Entry) → records (e ∷ past) ≡ records past
  told : (crashes (e ∷ []) ≡ 0) × (kept_in (e ∷ []) ≡ [])

pub stock_aside : (addr count : ℕ) → IsAside (entry.Stock addr count)
stock_aside addr count =
    record { lines = λ past. ((λ d. refl), refl, refl); wire = λ past. (refl, refl, refl); put = λ past. refl; told = (refl, refl) }

pub change_aside : (first amount : ℕ) (began : Bool) → IsAside (change_told first amount began)
change_aside first amount true =
    record { lines = λ past. ((λ d. refl), refl, refl); wire = λ past. (refl, refl, refl); put = λ past. refl; told = (refl, refl) }
change_aside first amount false =
    record { lines = λ past. ((λ d. refl), refl, refl); wire = λ past. (refl, refl, refl); put = λ past. refl; told = (refl, refl) }

pub idle_aside : IsAside entry.ServeIdle
idle_aside =
    record { lines = λ past. ((λ d. refl), refl, refl); wire = λ past. (refl, refl, refl); put = λ past. refl; told = (refl, refl) }

pub wait_aside : (addr : ℕ) → IsAside (entry.ServeWait addr)
wait_aside addr =
    record { lines = λ past. ((λ d. refl), refl, refl); wire = λ past. (refl, refl, refl); put = λ past. refl; told = (refl, refl) }

pub odd_aside : (id : ℕ) → IsAside (entry.ServeOdd id)
odd_aside id =
    record { lines = λ past. ((λ d. refl), refl, refl); wire = λ past. (refl, refl, refl); put = λ past. refl; told = (refl, refl) }

pub served_aside : (amount : ℕ) → IsAside (entry.Served amount)
served_aside amount =
    record { lines = λ past. ((λ d. refl), refl, refl); wire = λ past. (refl, refl, refl); put = λ past. refl; told = (refl, refl) }

pub short_aside : (paid rest : ℕ) → IsAside (entry.Short paid rest)
short_aside paid rest =
    record { lines = λ past. ((λ d. refl), refl, refl); wire = λ past. (refl, refl, refl); put = λ past. refl; told = (refl, refl) }

-- it changes nothing of the host and nothing on the wire
lines_aside : (e : Entry) → IsAside e → (past : List Entry) (place : Place) → lines_at place (e ∷ past) ≡ lines_at place past
lines_aside e aside past (device d) = (aside.lines past).0 d
lines_aside e aside past scans = (aside.lines past).1
lines_aside e aside past sales = (aside.lines past).2

aside_quiet : (e : Entry) → IsAside e → (past : List Entry) → IsQuiet past e
aside_quiet e aside past = record {
  jobs = λ place. ap job (lines_aside e aside past place);
  epochs = λ place. ap epoch (lines_aside e aside past place);
  orders = λ place. ap order (lines_aside e aside past place);
  records_are = aside.put past;
}

aside_wire : (bus : Bus) (e : Entry) → IsAside e → (past : List Entry) → wires.StandsFor bus past → wires.StandsFor bus (e ∷ past)
aside_wire bus e aside past stands = let is = aside.wire past in still stands is.0 is.1 is.2

-- a report that is just such an entry
pub plain_aside : (report : List Entry) (e : Entry) → report ≡ e ∷ [] → IsAside e
    → (crashes (reverse report) ≡ 0) × (records (reverse report) ≡ []) × (kept_in (reverse report) ≡ [])
plain_aside report e is aside =
    subst (λ es. (crashes (reverse es) ≡ 0) × (records (reverse es) ≡ []) × (kept_in (reverse es) ≡ [])) (sym is)
    (aside.told.0, aside.put [], aside.told.1)

-- a `serve` that ends in an entry
pub ends_in : (capacity : ℕ) (setup : Setup) (past : List Entry) (old new : Desk) (e : Entry) (news : List Entry) → Ends old new e
    → news ≡ e ∷ [] → Serves capacity setup past old.trays old.session news
ends_in capacity setup past old new e news ends is =
    subst (Serves capacity setup past old.trays old.session) (sym is) (ends.entries capacity setup past)

pub ends_at : (old new : Desk) (e : Entry) (news : List Entry) → Ends old new e → news ≡ e ∷ []
    → new ≡ served news old.trays old.session
ends_at old new e news ends is = ends.desk ∙ ap (λ es. served es old.trays old.session) (sym is)

module _ {D : Type 0} {g : Ghosts D} where
  -- a step whose one entry is such
  pub one_aside : (host : Host D g) (bus : Bus) (past : List Entry) (e : Entry) (report : List Entry) → report ≡ e ∷ []
      → IsAside e → hosts.StandsFor host past → wires.StandsFor bus past → (reverse report ≡ e ∷ []) × Left host bus past report
  one_aside host bus past e report is aside stands wired =
      one_goes host bus past e report is (aside_quiet e aside past) stands (aside_wire bus e aside past wired)

  -- a payment that the host refused, and then the end of the session
  pub short_goes : (host : Host D g) (bus : Bus) (past : List Entry) (s : Session) (p : Payment) (why : CommandNo)
      (paid rest : ℕ) (first report : List Entry) → first ≡ entry.No (command.Pay p.addr p.id p.count) why ∷ []
      → report ≡ first ++ entry.Short paid rest ∷ [] → entry.Short paid rest ≡ short_entry s
      → hosts.StandsFor host (entry.No (command.Pay p.addr p.id p.count) why ∷ past) → wires.StandsFor bus past
      → (reverse report ≡ pay_entries s p (Some why)) × Left host bus past report
  short_goes host bus past s p why paid rest first report begins is short stands wired =
      let c = command.Pay p.addr p.id p.count in
      let told : report ≡ entry.No c why ∷ entry.Short paid rest ∷ [] =
      is ∙ ap (λ es. es ++ entry.Short paid rest ∷ []) begins in
      subst (λ r. (reverse r ≡ pay_entries s p (Some why)) × Left host bus past r) (sym told) (
        ap (λ e. e ∷ entry.No c why ∷ []) short,
        (
          host_quiet host (entry.No c why ∷ past) (entry.Short paid rest)
              (aside_quiet (entry.Short paid rest) (short_aside paid rest) (entry.No c why ∷ past)) stands,
          aside_wire bus (entry.Short paid rest) (short_aside paid rest) (entry.No c why ∷ past)
              (command_wire bus past c (Some why) wired),
        ),
      )

-- what such a report says
pub short_plain : (p : Payment) (why : CommandNo) (paid rest : ℕ) (first report : List Entry)
    → first ≡ entry.No (command.Pay p.addr p.id p.count) why ∷ [] → report ≡ first ++ entry.Short paid rest ∷ []
    → (crashes (reverse report) ≡ 0) × (records (reverse report) ≡ []) × (kept_in (reverse report) ≡ [])
short_plain p why paid rest first report begins is =
    subst (λ es. (crashes (reverse es) ≡ 0) × (records (reverse es) ≡ []) × (kept_in (reverse es) ≡ []))
    (sym (is ∙ ap (λ es. es ++ entry.Short paid rest ∷ []) begins)) (refl, refl, refl)

module _ {D : Type 0} {g : Ghosts D} where
  -- a `serve` that ends in an entry
  pub ends_plays : (old new : Machine D g) (e : Entry) (report : List Entry) → new.host ≡ old.host → new.bus ≡ old.bus
      → Ends old.desk new.desk e → report ≡ e ∷ [] → IsAside e
      → PlaysUndisturbed old new step.Serve report (desk_after step.Serve (reverse report) (desk_of old))
  ends_plays old new e report same same_bus ends is aside =
      let plain = plain_aside report e is aside in
      record {
        setup = ap hosts.setup_of same;
        journal = ap hosts.journal_of same;
        plays = λ past stands suits survives.
            let goes = one_aside new.host new.bus past e report is aside
            (subst (λ host. hosts.StandsFor host past) (sym same) stands.host)
            (subst (λ bus. wires.StandsFor bus past) (sym same_bus) stands.bus) in (
              ends_in (capacity_in old) (setup_of old) past old.desk new.desk e (reverse report) ends goes.0,
              record { host = goes.1.0; bus = goes.1.1 },
            );
        told = plain.0;
        recorded = plain.1;
        unkept = plain.2;
        desk = ends_at old.desk new.desk e (reverse report) ends (ap reverse is);
      }

  -- a `serve` that gives the host a payment
  pub asks_plays : (old before new : Machine D g) (p : Payment) (report : List Entry) → before.host ≡ old.host
      → before.bus ≡ old.bus → Asks old.desk before.desk p → Pays before new p report
      → PlaysUndisturbed old new step.Serve report (desk_after step.Serve (reverse report) (desk_of old))
  asks_plays old before new p report same same_bus asks pays = record {
    setup = pays.setup ∙ ap hosts.setup_of same;
    journal = pays.journal ∙ ap hosts.journal_of same;
    plays = λ past stands suits survives.
        let goes = pays.plays asks.session asks.runs past (record {
          host = subst (λ host. hosts.StandsFor host past) (sym same) stands.host;
          bus = subst (λ bus. wires.StandsFor bus past) (sym same_bus) stands.bus;
        }) in
        let here = subst (λ host. reverse report ≡ entries_by (hosts.capacity_in host) (hosts.setup_of host) past asks.session p)
        same goes.0 in (
          subst (Serves (capacity_in old) (setup_of old) past old.desk.trays old.desk.session) (sym here)
              (asks.entries (capacity_in old) (setup_of old) past),
          goes.1,
        );
    told = pays.told;
    recorded = pays.recorded;
    unkept = pays.unkept;
    desk = pays.desk asks.session asks.runs ∙ sym (asks.desk (reverse report));
  }
