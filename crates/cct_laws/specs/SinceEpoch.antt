-- What a device that takes money met since its epoch began, and a fact of that which every step
-- over an honest wire keeps.
use Rattle.std.specs.Prelude.{◌≡◌, ◌≢◌, ◌≤◌, ◌⊎◌, ℕ, ◌==◌, Bool, true, false, List, [], ◌∷◌, ◌++◌}
use Rattle.std.specs.Prelude.{if◌then◌else◌, Option, Some, None, ⊤}
use Rattle.cct_model.specs.terms.coin.TheConstants.{COIN_PLACES}
use Rattle.cct_model.specs.terms.device.DeviceSetup.{DeviceSetup}
use Rattle.cct_model.specs.terms.request.Request.{Request}
use Rattle.cct_model.specs.terms.request.Request.TheVariants.{SetMask}
use Rattle.cct_model.specs.declared.judging.EpochState.TheVariants.{Idle}
use Rattle.cct_model.specs.Claims.{AllPast}
use Rattle.cct_model.specs.lines.record.Record.{Record}
use Rattle.cct_model.specs.lines.record.Record.TheVariants as record_of
use Rattle.cct_model.specs.lines.command.Command.{Command}
use Rattle.cct_model.specs.lines.entry.Entry.{Entry}
use Rattle.cct_model.specs.lines.entry.Entry.TheVariants as entry
use Rattle.cct_model.specs.Reply.{Reply}
use Rattle.cct_model.specs.History.{Met, coin, alien, fall, jam, reset, heard, unless_reset}
use Rattle.cct_model.specs.Acceptor.{mask_of, path_of}
use Rattle.cct_model.specs.Acceptor as acceptor
use Rattle.cct_model.specs.Bill as bill
use Rattle.cct_model.specs.Device.{IsAcceptor, IsBill}
use Rattle.cct_model.specs.Line.{Line, accepted, inhibited, exchange, put, taken, restarted}
use Rattle.cct_model.specs.Line as line
use Rattle.cct_model.specs.Order.{order}
use Rattle.cct_model.specs.Job.{free, job, epoch, sends, puts, address_of}
use Rattle.cct_model.specs.Rows.{row, end_of}
use Rattle.cct_model.specs.Script.{IsCommand}
use Rattle.cct_model.specs.Transcript.{doses, meets, onto}
use Rattle.cct_laws.specs.Law.{EachEntry}
use Rattle.cct_laws.specs.DeviceJobs.{Fate, IsForOthers, is_for_taker, with_ended, IsTaken, WorksAt}

-- What a device met since a record: nothing, where the record begins an epoch at its address.
abbrev pub since_record : DeviceSetup → Record → List Met → List Met
since_record d (record_of.Epoch addr mask accepts) before = if addr == d.addr then [] else before
since_record d r before = before

-- What a device met since the newest record that begins an epoch at its address, newest first; all
-- that it met, where there is none.
abbrev pub since_epoch : DeviceSetup → List Entry → List Met
since_epoch d [] = []
since_epoch d (entry.Put r ∷ past) = since_record d r (since_epoch d past)
since_epoch d (entry.Kept r ∷ past) = since_record d r (since_epoch d past)
since_epoch d (e ∷ past) = meets d past e ++ since_epoch d past

-- What a device met since its epoch began, in a transcript, which is oldest first.
abbrev pub since_epoch_in : DeviceSetup → List Entry → List Met
since_epoch_in d transcript = since_epoch d (onto [] transcript)

-- The inhibit mask that is after bytes were heard: the one that they set, and none after a reset.
abbrev pub mask_set_by : Option Request → Option ℕ → Option ℕ
mask_set_by (Some (SetMask mask)) before = Some mask
mask_set_by asked before = unless_reset asked None before

-- The inhibit mask that was last set, of what a device met; none where it was reset after that, or
-- none was set.
abbrev pub mask_set_in : List Met → Option ℕ
mask_set_in [] = None
mask_set_in (coin place ∷ past) = mask_set_in past
mask_set_in (alien ∷ past) = mask_set_in past
mask_set_in (fall ∷ past) = mask_set_in past
mask_set_in (jam ∷ past) = mask_set_in past
mask_set_in (reset ∷ past) = None
mask_set_in (heard asked ∷ past) = mask_set_by asked (mask_set_in past)

-- A device whose epoch runs with a mask has this inhibit mask, which was then set in the epoch, and
-- no reset came after that; or it has the mask 0, and none stands that was set in the epoch.
abbrev pub IsMaskedBy : ℕ → List Met → List Met → Type 0
IsMaskedBy mask since past =
    ((mask_set_in since ≡ Some mask) × (mask_of past ≡ mask))
    ⊎ ((mask_set_in since ≡ None) × (mask_of past ≡ 0))

-- Whether a device was reset, by itself or by what it heard.
abbrev pub was_reset : List Met → Bool
was_reset [] = false
was_reset (coin place ∷ past) = was_reset past
was_reset (alien ∷ past) = was_reset past
was_reset (fall ∷ past) = was_reset past
was_reset (jam ∷ past) = was_reset past
was_reset (reset ∷ past) = true
was_reset (heard asked ∷ past) = unless_reset asked true (was_reset past)

-- Whether a request sets an inhibit mask, or one before it did.
abbrev pub masked_by : Option Request → Bool → Bool
masked_by (Some (SetMask mask)) before = true
masked_by asked before = before

-- Whether a device heard that it is to set an inhibit mask.
abbrev pub was_masked : List Met → Bool
was_masked [] = false
was_masked (coin place ∷ past) = was_masked past
was_masked (alien ∷ past) = was_masked past
was_masked (fall ∷ past) = was_masked past
was_masked (jam ∷ past) = was_masked past
was_masked (reset ∷ past) = was_masked past
was_masked (heard asked ∷ past) = masked_by asked (was_masked past)

-- The epoch of a device that met this since it began may break: it was reset, or heard no inhibit
-- mask.
abbrev pub MayBreak : List Met → Type 0
MayBreak since = (was_reset since ≡ true) ⊎ (was_masked since ≡ false)

-- A record is no break of a device, or its epoch might break.
abbrev pub HasCause : DeviceSetup → List Entry → Record → Type 0
HasCause d past (record_of.Broken addr seen counter lost accepts posted) =
    addr ≡ d.addr → MayBreak (since_epoch d past)
HasCause d past r = ⊤

-- An entry is no break of a device that is put, or its epoch might break.
abbrev pub HasCauseAt : DeviceSetup → List Entry → Entry → Type 0
HasCauseAt d past (entry.Put r) = HasCause d past r
HasCauseAt d past (entry.Kept r) = HasCause d past r
HasCauseAt d past e = ⊤

-- Each break of a device that was put had a cause.
abbrev pub HaveCauses : DeviceSetup → List Entry → Type 0
HaveCauses d past = EachEntry (HasCauseAt d) past

-- What is accepted is so while an epoch runs: a coin, and a bill as it is stacked.
abbrev pub InEpochAt : List Line → Line → Type 0
InEpochAt past (accepted what) = epoch past ≢ Idle
InEpochAt past line = ⊤

-- The same of each of these lines.
abbrev pub AcceptsInEpochs : List Line → Type 0
AcceptsInEpochs lines = AllPast InEpochAt lines

-- A fact of what a device that takes money met since its epoch began, of all that it met, and of
-- its lines, each newest first. It holds before anything came, and is kept by each thing that can
-- come over an honest wire.
pub record IsKeptSince (d : DeviceSetup) (P : List Met → List Met → List Line → Type 0) : Type 0
  where
    pub starts : P [] [] []
    pub accepts : (since past : List Met) (lines : List Line) (place : ℕ) → IsAcceptor d.body → 1
        ≤ place →
        place ≤ COIN_PLACES → acceptor.accepts past place ≡ true →
        P since past lines → P (coin place ∷ since) (coin place ∷ past)
        (accepted (record { place = place; path = path_of past place }) ∷ lines)
    pub inhibits : (since past : List Met) (lines : List Line) (place : ℕ) → IsAcceptor d.body →
        acceptor.accepts past place ≡ false → P since past lines →
        P (coin place ∷ since) (coin place ∷ past) (inhibited place ∷ lines)
    pub aliens : (since past : List Met) (lines : List Line) → IsAcceptor d.body →
        P since past lines →
        P (alien ∷ since) (alien ∷ past) (line.alien ∷ lines)
    pub holds : (since past : List Met) (lines : List Line) (place : ℕ) → IsBill d.body → 1 ≤ place →
        place ≤ COIN_PLACES →
        bill.holds past place ≡ true → P since past lines →
        P (coin place ∷ since) (coin place ∷ past) lines
    pub rejects : (since past : List Met) (lines : List Line) (place : ℕ) → IsBill d.body →
        bill.holds past place ≡ false → P since past lines →
        P (coin place ∷ since) (coin place ∷ past) (inhibited place ∷ lines)
    pub resets : (since past : List Met) (lines : List Line) → P since past lines →
        P (reset ∷ since) (reset ∷ past) (line.reset ∷ lines)
    pub elsewhere : (since past : List Met) (lines : List Line) (asked : Option Request) →
        IsForOthers asked →
        P since past lines → P (heard asked ∷ since) (heard asked ∷ past) lines
    pub takes : (since past : List Met) (lines : List Line) (c : Command) → job lines ≡ free →
        address_of c ≡ d.addr →
        IsCommand c → is_for_taker c ≡ true → IsTaken d c (epoch lines) → P since past lines →
        P since past (taken c ∷ lines)
    pub asks : (since past : List Met) (lines : List Line) (c : Command) (work : List Line)
        (q : Request)
        (asked : Option Request) (got : Option Reply) →
        WorksAt d lines c work → row d c work (epoch lines) (order lines) ≡ sends q →
        Fate d past q asked got →
        P since past lines → P (heard asked ∷ since) (heard asked ∷ past)
        (with_ended (end_of d c (exchange (Some q) got) work (epoch lines))
        (exchange (Some q) got ∷ doses d.body d.serial past asked ++ lines))
    pub restarts : (since past : List Met) (lines : List Line) → P since past lines →
        P since past (restarted ∷ lines)
    pub keeps : (since past : List Met) (lines : List Line) (c : Command) (work : List Line)
        (r : Record) →
        WorksAt d lines c work → row d c work (epoch lines) (order lines) ≡ puts r →
        P since past lines → P (since_record d r since) past (put r ∷ restarted ∷ lines)
    pub puts : (since past : List Met) (lines : List Line) (c : Command) (work : List Line)
        (r : Record) →
        WorksAt d lines c work → row d c work (epoch lines) (order lines) ≡ puts r →
        P since past lines → P (since_record d r since) past
        (with_ended (end_of d c (put r) work (epoch lines))
        (put r ∷ lines))

-- The same of a fact without regard to the epoch.
abbrev pub IsKept : DeviceSetup → (List Met → List Line → Type 0) → Type 0
IsKept d P = IsKeptSince d (λ since past lines. P past lines)
