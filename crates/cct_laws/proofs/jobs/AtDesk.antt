-- What is reported of the desk of the operator alone brings no device anything, and no scan, no
-- sale and no record.
use Rattle.std.proofs.Common.{◌≡◌, ℕ, List, [], ◌∷◌, ◌++◌, rules}
use Rattle.cct_model.specs.terms.device.DeviceSetup.{DeviceSetup}
use Rattle.cct_model.specs.lines.command.Step.{Step}
use Rattle.cct_model.specs.lines.entry.Entry.{Entry}
use Rattle.cct_model.specs.Records.{records}
use Rattle.cct_model.specs.Transcript.{meets, own, scan_own, sale_own}
use Rattle.cct_laws.specs.Ending.{nexts_after, HasNoEnd}
use Rattle.cct_laws.specs.SinceEpoch.{since_epoch, HasCauseAt}
use Rattle.cct_laws.proofs.jobs.StepBrings.{IsOfDesk, tells_stock, begins_change, keeps_change, serves_none, serves_later, serves_odd, serves_all, serves_short}

-- an entry of a step is none of any device, and what is promised of all entries holds of it
pub record IsApart (s : Step) (e : Entry) : Type 0 where
  pub own_is : (d : DeviceSetup) (past : List Entry) → own d past e ≡ []
  pub meets_is : (d : DeviceSetup) (past : List Entry) → meets d past e ≡ []
  pub goes_on : (d : DeviceSetup) (past : List Entry) → since_epoch d (e ∷ past) ≡ meets d past e ++ since_epoch d past
  pub no_scan : scan_own e ≡ []
  pub no_sale : sale_own e ≡ []
  pub no_record : (past : List Entry) → records (e ∷ past) ≡ records past
  pub no_break : (d : DeviceSetup) (past : List Entry) → HasCauseAt d past e
  pub no_end : (addr : ℕ) → HasNoEnd addr (e ∷ [])
  pub no_next : (addr nexts : ℕ) → nexts_after addr s nexts ≡ nexts

pub desk_apart : (s : Step) (e : Entry) → IsOfDesk s e → IsApart s e
desk_apart _ _ (tells_stock addr count) = search rules
desk_apart _ _ (begins_change first amount) = search rules
desk_apart _ _ (keeps_change first amount) = search rules
desk_apart _ _ serves_none = search rules
desk_apart _ _ (serves_later addr) = search rules
desk_apart _ _ (serves_odd id) = search rules
desk_apart _ _ (serves_all amount) = search rules
desk_apart _ _ (serves_short paid rest) = search rules
