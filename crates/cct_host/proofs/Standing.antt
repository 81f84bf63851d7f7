-- What the desks are after an entry that changes nothing of them, and the entries of a `next` by the device at an address.
use Rattle.std.proofs.Common.{◌≡◌, ℕ, List, ◌∷◌, sym, ap, subst, ◌∙◌, Option, Some, None}
use Rattle.cct_model.specs.terms.wire.TheConstants.{BROADCAST, HOST}
use Rattle.cct_model.specs.terms.device.DeviceSetup.{DeviceSetup}
use Rattle.cct_model.specs.lines.entry.Entry.{Entry}
use Rattle.cct_model.specs.Legal.{BareNext, OfNext, SaleEntries, ScanEntries}
use Rattle.cct_model.specs.Records.{greatest_id}
use Rattle.cct_model.specs.Job.{job}
use Rattle.cct_model.specs.Transcript.{sale_lines, scan_lines}
use Rattle.cct_host.specs.declared.desks.Desks.{Desks}
use Rattle.cct_host.specs.Desks.{StandsFor}
use Rattle.cct_host.specs.Place.{sales, scans}
use Rattle.cct_host.proofs.Keeps.{keeps_quiet}
use Rattle.cct_host.proofs.Lines.{IsQuiet}
use Rattle.cct_host.proofs.Places.{desks_quiet}

-- an entry that changes no job, no epoch and no open order
pub desks_stand : (desks : Desks) (past : List Entry) (e : Entry) → IsQuiet past e → StandsFor desks past
    → StandsFor desks (e ∷ past)
desks_stand desks past e quiet stands = record {
  sound = stands.sound;
  devices = desks_quiet _ _ past e quiet stands.devices;
  scan = keeps_quiet scans _ _ _ past e quiet stands.scan;
  sale = keeps_quiet sales _ _ _ past e quiet stands.sale;
  last = stands.last ∙ sym (ap greatest_id quiet.records_are);
}

-- a next at an address with a device, and at one without
pub of_next : (found : Option DeviceSetup) (d : DeviceSetup) (P : DeviceSetup → Type 0) (Q : Type 0) → found ≡ Some d
    → P d → OfNext found P Q
of_next found d P Q is fact = subst (λ f. OfNext f P Q) (sym is) fact

pub of_scan : (hears : List ℕ → List ℕ) (found : Option DeviceSetup) (P : DeviceSetup → Type 0) (past news : List Entry)
    (addr : ℕ) → found ≡ None → addr ≡ BROADCAST
    → ScanEntries hears (job (scan_lines past)) news → OfNext found P (BareNext hears past addr news)
of_scan hears found P past news addr none is polls =
    subst (λ f. OfNext f P (BareNext hears past addr news)) (sym none)
    (subst (λ a. BareNext hears past a news) (sym is) polls)

pub of_sale : (hears : List ℕ → List ℕ) (found : Option DeviceSetup) (P : DeviceSetup → Type 0) (past news : List Entry)
    (addr : ℕ) → found ≡ None → addr ≡ HOST → SaleEntries (job (sale_lines past)) news
    → OfNext found P (BareNext hears past addr news)
of_sale hears found P past news addr none is sells =
    subst (λ f. OfNext f P (BareNext hears past addr news)) (sym none)
    (subst (λ a. BareNext hears past a news) (sym is) sells)
