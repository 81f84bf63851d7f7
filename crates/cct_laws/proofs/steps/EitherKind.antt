-- What is kept by all that comes to a device that takes money, or to a hopper, is kept by all that comes to a device of
-- any kind.
use Rattle.std.proofs.Common.{◌≡◌, ◌⊎◌, inl, inr, true, List, ap, ◌∙◌}
use Rattle.std.specs.Prelude.{◌||◌}
use Rattle.std.proofs.Math.Bool.{or-true}
use Rattle.cct_model.specs.terms.device.DeviceBody.{DeviceBody}
use Rattle.cct_model.specs.terms.device.DeviceBody.TheVariants.{Acceptor, Bill, Hopper}
use Rattle.cct_model.specs.terms.device.DeviceSetup.{DeviceSetup}
use Rattle.cct_model.specs.lines.command.Command.{Command}
use Rattle.cct_model.specs.Device.{IsAcceptor, IsBill, IsHopper, IsTaker}
use Rattle.cct_model.specs.History.{Met}
use Rattle.cct_model.specs.Line.{Line}
use Rattle.cct_laws.specs.DeviceJobs.{is_for_acceptor, is_for_bills, is_for_taker, is_for_hopper, suits}
use Rattle.cct_laws.specs.KeptBoth.{IsKeptBoth}
use Rattle.cct_laws.specs.KeptHopper.{IsKeptHopper}
use Rattle.cct_laws.specs.SinceEpoch.{IsKeptSince}

-- a device takes money or pays
pub one_kind : (body : DeviceBody) → IsTaker body → IsHopper body → ⊥
one_kind (Acceptor accepts values ids) taking paying = paying
one_kind (Hopper life value) taking paying = taking
one_kind (Bill accepts values ids) taking paying = paying

pub acceptor_takes : (body : DeviceBody) → IsAcceptor body → IsTaker body
acceptor_takes (Acceptor accepts values ids) accepting = tt
acceptor_takes (Hopper life value) accepting = absurd accepting
acceptor_takes (Bill accepts values ids) accepting = absurd accepting

pub bills_take : (body : DeviceBody) → IsBill body → IsTaker body
bills_take (Acceptor accepts values ids) billing = absurd billing
bills_take (Hopper life value) billing = absurd billing
bills_take (Bill accepts values ids) billing = tt

pub kind_of : (body : DeviceBody) → IsTaker body ⊎ IsHopper body
kind_of (Acceptor accepts values ids) = inl tt
kind_of (Hopper life value) = inr tt
kind_of (Bill accepts values ids) = inl tt

pub for_taker : (body : DeviceBody) (c : Command) → IsTaker body → suits body c ≡ true → is_for_taker c ≡ true
for_taker (Acceptor accepts values ids) c taking suited = ap (λ b. b || is_for_bills c) suited
for_taker (Hopper life value) c taking suited = absurd taking
for_taker (Bill accepts values ids) c taking suited = ap (λ b. is_for_acceptor c || b) suited ∙ or-true (is_for_acceptor c)

pub for_hopper : (body : DeviceBody) (c : Command) → IsHopper body → suits body c ≡ true → is_for_hopper c ≡ true
for_hopper (Acceptor accepts values ids) c paying suited = absurd paying
for_hopper (Hopper life value) c paying suited = suited
for_hopper (Bill accepts values ids) c paying suited = absurd paying

pub both_taker : (d : DeviceSetup) (P : List Met → List Met → List Line → Type 0) → IsTaker d.body → IsKeptSince d P →
    IsKeptBoth d P
both_taker d P taking kept = record {
  starts = kept.starts;
  accepts = kept.accepts;
  inhibits = kept.inhibits;
  aliens = kept.aliens;
  holds = kept.holds;
  rejects = kept.rejects;
  falls = λ since past lines paying test holds. absurd (one_kind d.body taking paying);
  no_falls = λ since past lines paying test holds. absurd (one_kind d.body taking paying);
  jams = λ since past lines paying holds. absurd (one_kind d.body taking paying);
  resets = kept.resets;
  elsewhere = kept.elsewhere;
  takes = λ since past lines c is_free here range suited is_taken is_owed holds.
      kept.takes since past lines c is_free here range (for_taker d.body c taking suited) is_taken holds;
  halts = λ since past lines paying can holds. absurd (one_kind d.body taking paying);
  asks = kept.asks;
  restarts = kept.restarts;
  keeps = kept.keeps;
  puts = kept.puts;
}

pub both_hopper : (d : DeviceSetup) (P : List Met → List Line → Type 0) → IsHopper d.body → IsKeptHopper d P →
    IsKeptBoth d (λ since past lines. P past lines)
both_hopper d P paying kept = record {
  starts = kept.starts;
  accepts = λ since past lines place is least most test holds. absurd (one_kind d.body (acceptor_takes d.body is) paying);
  inhibits = λ since past lines place is test holds. absurd (one_kind d.body (acceptor_takes d.body is) paying);
  aliens = λ since past lines is holds. absurd (one_kind d.body (acceptor_takes d.body is) paying);
  holds = λ since past lines place is least most test holds. absurd (one_kind d.body (bills_take d.body is) paying);
  rejects = λ since past lines place is test holds. absurd (one_kind d.body (bills_take d.body is) paying);
  falls = λ since past lines is test holds. kept.falls past lines test holds;
  no_falls = λ since past lines is test holds. kept.no_falls past lines test holds;
  jams = λ since past lines is holds. kept.jams past lines holds;
  resets = λ since past lines holds. kept.resets past lines holds;
  elsewhere = λ since past lines asked others holds. kept.elsewhere past lines asked others holds;
  takes = λ since past lines c is_free here range suited is_taken is_owed holds.
      kept.takes past lines c is_free here range (for_hopper d.body c paying suited) is_owed holds;
  halts = λ since past lines is can holds. kept.halts past lines can holds;
  asks = λ since past lines c work q asked got at row_is fate holds.
      kept.asks past lines c work q asked got at row_is fate holds;
  restarts = λ since past lines holds. kept.restarts past lines holds;
  keeps = λ since past lines c work r at row_is holds. kept.keeps past lines c work r at row_is holds;
  puts = λ since past lines c work r at row_is holds. kept.puts past lines c work r at row_is holds;
}
