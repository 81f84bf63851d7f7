-- What each row of a job at a device that takes money leads to: the rows after it need no more than it brings, and no end but a clean one
-- is an item.
use Rattle.std.proofs.Common.{◌≡◌, ◌≤◌, List, [], ◌∷◌}
use Rattle.cct_model.specs.terms.request.Request.{Request}
use Rattle.cct_model.specs.terms.request.Request.TheVariants.{ResetDevice, ReadCredits, ReadBills, SetMaster, GetMask, AcceptCount, SetMask, RouteBill}
use Rattle.cct_model.specs.lines.entry.End.TheVariants.{Told}
use Rattle.cct_model.specs.terms.request.TheConstants.{STACK_CODE}
use Rattle.cct_model.specs.terms.device.DeviceBody.{DeviceBody}
use Rattle.cct_model.specs.terms.device.DeviceBody.TheVariants.{Acceptor, Bill, Hopper}
use Rattle.cct_model.specs.Job.{credits_request}
use Rattle.cct_model.specs.Rows.{Then, goes_on, ends_as, if_quiet, if_posted, new_epoch, reading, epoch_end, TableRow, asks_for, asks_once, puts_due, telling}
use Rattle.cct_model.proofs.Requests.{Each}
use Rattle.cct_model.proofs.Rows.{Behind, EachBefore}
use Rattle.cct_model.specs.declared.judging.Judged.{Judged}
use Rattle.cct_laws.proofs.acceptor.BesideCoins.{World}
use Rattle.cct_laws.proofs.acceptor.Fits.{ReadSoFar, Notes, FitsAt, AfterReset, AfterCredits, AfterShut, AfterMask, AfterCount, AfterEpoch}
use Rattle.cct_laws.proofs.acceptor.Moves.{IsOtherEnd, IsNeutral, IsTold, told_fits}
use Rattle.cct_laws.proofs.acceptor.Rounds.{IsAfterCount, IsAfterReading}
use Rattle.cct_laws.proofs.acceptor.Stops.{IsOverNext}

abbrev pub Leads : TableRow → List TableRow → Type 0
Leads (asks_for ResetDevice behind) rows = Behind IsOtherEnd behind × AfterReset rows
Leads (asks_for ReadCredits if_quiet) rows = AfterReset rows
Leads (asks_for ReadCredits behind) rows = Behind IsOtherEnd behind × AfterCredits rows
Leads (asks_for ReadBills if_quiet) rows = AfterReset rows
Leads (asks_for ReadBills behind) rows = Behind IsOtherEnd behind × AfterCredits rows
Leads (asks_for (SetMaster value) behind) rows = (value ≡ 0) × Behind IsOtherEnd behind × AfterShut rows
Leads (asks_for GetMask behind) rows = Behind IsOtherEnd behind × AfterMask rows
Leads (asks_for AcceptCount behind) rows = IsAfterCount behind rows × AfterCount rows
Leads (asks_for q behind) rows = IsNeutral q × Behind IsOtherEnd behind
Leads (asks_once (SetMask mask) (ends_as end) (ends_as other)) rows = (1 ≤ mask) × IsOtherEnd end × IsOtherEnd other
Leads (asks_once (RouteBill way) (ends_as end) (ends_as other)) rows = (way ≤ STACK_CODE) × IsOtherEnd end × IsOtherEnd other
Leads (asks_once q (ends_as end) (ends_as other)) rows = IsNeutral q × IsOtherEnd end × IsOtherEnd other
Leads (puts_due (new_epoch mask) behind) rows = (1 ≤ mask) × Behind IsOtherEnd behind × AfterEpoch mask rows
Leads (puts_due reading (if_posted of_reading)) rows = IsAfterReading of_reading rows × IsOverNext rows
Leads (puts_due epoch_end (ends_as end)) rows = IsOtherEnd end
Leads r rows = ⊥

-- a request that changes nothing
pub neutral_leads : (q : Request) (behind : Then) (rows : List TableRow) → IsNeutral q → Behind IsOtherEnd behind →
    Leads (asks_for q behind) rows
neutral_leads ResetDevice behind rows neutral other = absurd neutral
neutral_leads ReadCredits behind rows neutral other = absurd neutral
neutral_leads ReadBills behind rows neutral other = absurd neutral
neutral_leads GetMask behind rows neutral other = absurd neutral
neutral_leads AcceptCount behind rows neutral other = absurd neutral
neutral_leads (SetMaster value) behind rows neutral other = absurd neutral
neutral_leads q behind rows neutral other = (neutral, other)

-- or one that only reports, the accept counter too
asked_leads : (q : Request) (behind : Then) (rows : List TableRow) → IsTold q → IsAfterCount behind rows →
    AfterCount rows → Behind IsOtherEnd behind → Leads (asks_for q behind) rows
asked_leads AcceptCount behind rows told after next other = (after, next)
asked_leads ResetDevice behind rows told after next other = absurd told
asked_leads ReadCredits behind rows told after next other = absurd told
asked_leads ReadBills behind rows told after next other = absurd told
asked_leads GetMask behind rows told after next other = absurd told
asked_leads (SetMaster value) behind rows told after next other = absurd told
asked_leads q behind rows told after next other = (told, other)

told_next : (q : Request) (behind : Then) (rows : List TableRow) → IsTold q →
    ((w : World) (b : ReadSoFar) (notes : Notes) (judged : Judged) → FitsAt w b (asks_for q behind ∷ rows) notes judged) →
    AfterCount (asks_for q behind ∷ rows)
told_next ReadCredits behind rows told fits = absurd told
told_next ReadBills behind rows told fits = absurd told
told_next q behind rows told fits = fits

pub told_leads : (qs : List Request) → Each IsTold qs → EachBefore Leads (telling qs)
told_leads [] each = tt
told_leads (q ∷ []) each = (asked_leads q (ends_as Told) [] each.0 tt (λ w b notes judged. tt) tt, tt)
told_leads (q ∷ r ∷ []) each = (
  asked_leads q goes_on (telling (r ∷ [])) each.0 tt
      (told_next r _ [] each.1.0 (λ w b notes judged. told_fits w b (r ∷ []) notes judged each.1)) tt,
  told_leads (r ∷ []) each.1,
)
told_leads (q ∷ r ∷ s ∷ qs) each = (
  asked_leads q goes_on (telling (r ∷ s ∷ qs)) each.0 tt
      (told_next r _ (telling (s ∷ qs)) each.1.0
      (λ w b notes judged. told_fits w b (r ∷ s ∷ qs) notes judged each.1)) tt,
  told_leads (r ∷ s ∷ qs) each.1,
)

-- the rows that read the last events
pub quiet_leads : (body : DeviceBody) (rows : List TableRow) → AfterReset rows →
    Leads (asks_for (credits_request body) if_quiet) rows
quiet_leads (Acceptor accepts values ids) rows next = next
quiet_leads (Hopper life value) rows next = next
quiet_leads (Bill accepts values ids) rows next = next

pub reading_leads : (body : DeviceBody) (rows : List TableRow) → AfterCredits rows →
    Leads (asks_for (credits_request body) goes_on) rows
reading_leads (Acceptor accepts values ids) rows next = (tt, next)
reading_leads (Hopper life value) rows next = (tt, next)
reading_leads (Bill accepts values ids) rows next = (tt, next)

reading_next : (body : DeviceBody) (rows : List TableRow) → AfterCount (asks_for (credits_request body) goes_on ∷ rows)
reading_next (Acceptor accepts values ids) rows = λ w b notes judged begins shut. (begins, shut)
reading_next (Hopper life value) rows = λ w b notes judged begins shut. (begins, shut)
reading_next (Bill accepts values ids) rows = λ w b notes judged begins shut. (begins, shut)

pub counting_leads : (body : DeviceBody) (rows : List TableRow) →
    Leads (asks_for AcceptCount goes_on) (asks_for (credits_request body) goes_on ∷ rows)
counting_leads (Acceptor accepts values ids) rows = (tt, reading_next (Acceptor accepts values ids) rows)
counting_leads (Hopper life value) rows = (tt, reading_next (Hopper life value) rows)
counting_leads (Bill accepts values ids) rows = (tt, reading_next (Bill accepts values ids) rows)
