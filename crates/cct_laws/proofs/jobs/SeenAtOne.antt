-- What a step brought, seen from one device or from address 0: something there, or entries that are none of it. And
-- how a fact that each step keeps goes along all of them.
use Rattle.std.proofs.Common.{◌≡◌, ◌≢◌, ℕ, suc, ◌==◌, cond, Bool, true, false, List, [], ◌∷◌, ◌++◌, length, slice_index, refl, ap, sym, ◌∙◌, subst, subst₂, Option, Some, None, ◌⊎◌, inl, inr, All, arith, rules, eq-eqb}
use Rattle.std.specs.Prelude.{⊤, is_some}
use Rattle.std.proofs.lemmas.Bool.{ne_eqb}
use Rattle.cct_model.specs.terms.device.DeviceBody.{DeviceBody}
use Rattle.cct_model.specs.terms.device.DeviceBody.TheVariants.{Acceptor, Bill, Hopper}
use Rattle.cct_model.specs.terms.device.DeviceSetup.{DeviceSetup}
use Rattle.cct_model.specs.terms.request.Request.{Request}
use Rattle.cct_model.specs.terms.request.Request.TheVariants.{AddressPoll, SimplePoll}
use Rattle.cct_model.specs.terms.device.Setup.{Setup}
use Rattle.cct_model.specs.lines.record.Record.{Record}
use Rattle.cct_model.specs.lines.record.Record.TheVariants as record_of
use Rattle.cct_model.specs.lines.command.Command.{Command}
use Rattle.cct_model.specs.lines.command.Command.TheVariants as command
use Rattle.cct_model.specs.lines.command.Step.{Step}
use Rattle.cct_model.specs.lines.command.Step.TheVariants as step
use Rattle.cct_model.specs.lines.entry.End.{End}
use Rattle.cct_model.specs.lines.entry.End.TheVariants.{Sold}
use Rattle.cct_model.specs.lines.entry.Entry.{Entry}
use Rattle.cct_model.specs.lines.entry.Entry.TheVariants as entry
use Rattle.cct_model.specs.History.{Met, heard}
use Rattle.cct_model.specs.History as history
use Rattle.cct_model.specs.Bill.{bill_held, stacked_bills, stacked_by}
use Rattle.cct_model.specs.Claims.{coins}
use Rattle.cct_model.specs.Hopper.{taken_of}
use Rattle.cct_model.specs.Device.{IsSound}
use Rattle.cct_model.specs.Setup.{IsSoundSetup}
use Rattle.cct_model.specs.Exchange.{ask, asked, asks_of, device_at}
use Rattle.cct_model.specs.Line.{Line, exchange, put, taken, ended, restarted}
use Rattle.cct_model.specs.Job.{job, puts, address_of}
use Rattle.cct_model.specs.Legal.{with_end, bare_restart, keeping_restart, LegalFrom}
use Rattle.cct_model.specs.Transcript.{pending, meets, met, own, owner, lines_of, heard_by_devices, got_by, dispensed_by, doses, doses_of, stacked_line, scan_own, scan_lines}
use Rattle.cct_laws.specs.Ending.{nexts_after, HasNoEnd}
use Rattle.cct_laws.specs.Faults.{FailsByFault, EchoFailsByFault}
use Rattle.cct_model.specs.Honest.{IsHonestAt, IsHonestFault}
use Rattle.cct_laws.specs.DeviceJobs.{IsForOthers, with_ended}
use Rattle.cct_laws.specs.Law.{IsOf, EachEntry}
use Rattle.cct_laws.specs.SinceEpoch.{since_record, since_epoch, HasCause, HasCauseAt}
use Rattle.cct_laws.specs.Ids.{Ids}
use Rattle.cct_laws.specs.Takers.{accepted_of}
use Rattle.cct_laws.proofs.jobs.StepBrings.{Comes, takes_coin, leaves_coin, takes_bill, leaves_bill, leaves_alien, drops_coin, drops_none, jams, jams_none, is_reset, AtWork, AtDevice, came, took, halted, idled, made_exchange, made_put, row_after, wire_of, wire_end, record_end, poll_wire, poll_end, Brought, of_device, faulted, refused, began_scan, began_sale, nobody, polled, sold, balanced, of_desk, ended_short, lost_power, lost_in_put, lost_in_sale}
use Rattle.cct_model.proofs.Doses.{AreDoses, IsAside, doses_are, same_over}
use Rattle.cct_laws.proofs.jobs.AtDesk.{desk_apart}
use Rattle.cct_laws.proofs.jobs.EntriesOfStep.{Telling, GoesOverForged, over_telling, each_brought}
use Rattle.cct_laws.proofs.orders.Ids.{ids_start, ids_step, ids_forged, put_owned}
use Rattle.cct_laws.proofs.wire.HeardBytes.{ask_to, asked_elsewhere, poll_others}
use Rattle.cct_laws.proofs.setups.DeviceAt.{found_in, same_or_other}

-- what a device met is for others
abbrev pub AreForOthers : List Met → Type 0
AreForOthers [] = ⊤
AreForOthers (heard asked ∷ met) = IsForOthers asked × AreForOthers met
AreForOthers (m ∷ met) = ⊥

-- an entry is none of a device: no line of it but of what it did, which it heard from a damaged
-- wire, and nothing that it met but what is for others. It begins no epoch of it, puts no break of
-- it and ends no job of it; and its lines show as many coins as it accepted, if they did before
pub record Passes (d : DeviceSetup) (past : List Entry) (e : Entry) : Type 0 where
  pub dosed : AreDoses (own d past e)
  pub no_line : IsHonestAt past e → own d past e ≡ []
  pub others : IsHonestAt past e → AreForOthers (meets d past e)
  pub goes_on : since_epoch d (e ∷ past) ≡ meets d past e ++ since_epoch d past
  pub no_break : HasCauseAt d past e
  pub no_end : HasNoEnd d.addr (e ∷ [])
  pub told : (lines : List Line) → accepted_of d.body (met d past) ≡ length (coins lines) →
      accepted_of d.body (meets d past e ++ met d past) ≡ length (coins (own d past e ++ lines))

abbrev pub ArePassed : DeviceSetup → List Entry → List Entry → Type 0
ArePassed d past [] = ⊤
ArePassed d past (e ∷ news) = Passes d (news ++ past) e × ArePassed d past news

-- after an exchange a device's lines show as many coins as it accepted, if they did before
dispensed_told : (count : Option ℕ) (lines : List Line) → 0 ≡ length (coins lines) →
    0 ≡ length (coins (dispensed_by count ++ lines))
dispensed_told None lines told = told
dispensed_told (Some count) lines told = told

stacked_told : (place : Option ℕ) (n : ℕ) (lines : List Line) → n ≡ length (coins lines) →
    cond (is_some place) (suc n) n ≡ length (coins (stacked_line place ++ lines))
stacked_told None n lines told = told
stacked_told (Some place) n lines told = ap suc told

pub doses_told : (body : DeviceBody) (own : ℕ) (past : List Met) (asked : Option Request) (lines : List Line) →
    accepted_of body past ≡ length (coins lines) →
    accepted_of body (heard asked ∷ past) ≡ length (coins (doses body own past asked ++ lines))
doses_told (Acceptor accepts values ids) own past asked lines told = told
doses_told (Hopper life value) own past asked lines told = dispensed_told (taken_of own past asked) lines told
doses_told (Bill accepts values ids) own past asked lines told =
    stacked_told (stacked_by asked (bill_held past)) (stacked_bills past) lines told

-- so they do where a device met nothing, and has no line
none_told : (body : DeviceBody) (past ms : List Met) (ls lines : List Line) → ms ≡ [] → ls ≡ [] →
    accepted_of body past ≡ length (coins lines) → accepted_of body (ms ++ past) ≡ length (coins (ls ++ lines))
none_told body past ms ls lines unmet unlined told =
    subst₂ (λ m l. accepted_of body (m ++ past) ≡ length (coins (l ++ lines))) (sym unmet) (sym unlined) told

-- a step brought a device nothing, and is no `next` at it
pub record Aside (d : DeviceSetup) (past : List Entry) (s : Step) (news : List Entry) : Type 0 where
  pub passes : ArePassed d past news
  pub no_next : (nexts : ℕ) → nexts_after d.addr s nexts ≡ nexts

-- what changes over no dose does not change over entries that are none of a device
pub passed_same : {A : Type 0} (f : List Line → A) → IsAside f → (d : DeviceSetup) (past news : List Entry) → ArePassed d past news →
    f (lines_of d (news ++ past)) ≡ f (lines_of d past)
passed_same f aside d past [] passes = refl
passed_same f aside d past (e ∷ news) passes =
    same_over f aside (own d (news ++ past) e) (lines_of d (news ++ past)) passes.0.dosed
    ∙ passed_same f aside d past news passes.1

pub passed_job : (d : DeviceSetup) (past news : List Entry) → ArePassed d past news →
    job (lines_of d (news ++ past)) ≡ job (lines_of d past)
passed_job d past news passes =
    passed_same job (record { dosed = λ count lines. refl; stacked = λ coin lines. refl }) d past news passes

-- a fact of each entry over entries that are none of a device, and over an entry and the end after it
pub each_aside : (P : List Entry → Entry → Type 0) (d : DeviceSetup) (past news : List Entry) →
    ((older : List Entry) (e : Entry) → Passes d older e → P older e) → ArePassed d past news → EachEntry P past →
    EachEntry P (news ++ past)
each_aside P d past [] holds passes before = before
each_aside P d past (e ∷ news) holds passes before =
    (holds (news ++ past) e passes.0, each_aside P d past news holds passes.1 before)

pub each_with_end : (P : List Entry → Entry → Type 0) (past : List Entry) (addr : ℕ) (e : Entry) (end : Option End) →
    P past e → ((older : List Entry) (found : End) → P older (entry.Ended addr found)) → EachEntry P past →
    EachEntry P (with_end addr e end ++ past)
each_with_end P past addr e None holds ends before = (holds, before)
each_with_end P past addr e (Some end) holds ends before = (ends (e ∷ past) end, (holds, before))

-- an entry that came by itself at an address: one thing that a device there met, and at most one line of it. It changes no
-- job, and is no exchange, no put, no end, no line of a scan and no `next`
pub record IsLoose (addr : ℕ) (s : Step) (e : Entry) (m : Met) (ls : List Line) : Type 0 where
  pub own_is : (d : DeviceSetup) (past : List Entry) → own d past e ≡ cond (addr == d.addr) ls []
  pub meets_is : (d : DeviceSetup) (past : List Entry) → meets d past e ≡ cond (addr == d.addr) (m ∷ []) []
  pub goes_on : (d : DeviceSetup) (past : List Entry) → since_epoch d (e ∷ past) ≡ meets d past e ++ since_epoch d past
  pub same_job : (lines : List Line) → job (ls ++ lines) ≡ job lines
  pub no_exchange : (d : DeviceSetup) (past : List Entry) → FailsByFault d past e × EchoFailsByFault past e
  pub no_break : (d : DeviceSetup) (past : List Entry) → HasCauseAt d past e
  pub no_end : (other : ℕ) → HasNoEnd other (e ∷ [])
  pub no_scan : scan_own e ≡ []
  pub no_next : (other nexts : ℕ) → nexts_after other s nexts ≡ nexts

none_either : (ls : List Line) (b : Bool) → ls ≡ [] → [] ≡ cond b ls []
none_either ls true none = sym none
none_either ls false none = refl

unlined : (addr : ℕ) (s : Step) (e : Entry) (m : Met) →
    ((d : DeviceSetup) (past : List Entry) → own d past e ≡ cond (addr == d.addr) [] []) →
    ((d : DeviceSetup) (past : List Entry) → meets d past e ≡ cond (addr == d.addr) (m ∷ []) []) →
    ((d : DeviceSetup) (past : List Entry) → since_epoch d (e ∷ past) ≡ meets d past e ++ since_epoch d past) →
    ((d : DeviceSetup) (past : List Entry) → FailsByFault d past e × EchoFailsByFault past e) →
    ((d : DeviceSetup) (past : List Entry) → HasCauseAt d past e) → ((other : ℕ) → HasNoEnd other (e ∷ [])) →
    scan_own e ≡ [] → ((other nexts : ℕ) → nexts_after other s nexts ≡ nexts) → IsLoose addr s e m []
unlined addr s e m own_is meets_is goes_on no_exchange no_break no_end no_scan no_next = record {
  own_is = own_is;
  meets_is = meets_is;
  goes_on = goes_on;
  same_job = λ lines. refl;
  no_exchange = no_exchange;
  no_break = no_break;
  no_end = no_end;
  no_scan = no_scan;
  no_next = no_next;
}

pub loose : (d : DeviceSetup) (past : List Met) (s : Step) (e : Entry) (m : Met) (ls : List Line) → Comes d past s e m ls →
    IsLoose d.addr s e m ls
loose d past _ _ _ _ (takes_coin place accepting test) = search rules
loose d past _ _ _ _ (leaves_coin place accepting test) = search rules
loose d past _ _ _ _ (takes_bill place banking test) =
    unlined d.addr (step.Bill d.addr place) (entry.Held d.addr place) (history.coin place)
    (λ x past. none_either [] (d.addr == x.addr) refl) (λ x past. refl) (λ x past. refl) (λ x past. (tt, tt))
    (λ x past. tt) (λ other. tt) refl (λ other nexts. refl)
loose d past _ _ _ _ (leaves_bill place banking test) = search rules
loose d past _ _ _ _ (leaves_alien accepting) = search rules
loose d past _ _ _ _ (drops_coin paying test) = search rules
loose d past _ _ _ _ (drops_none paying test) =
    unlined d.addr (step.Fall d.addr) (entry.NoFall d.addr) history.fall (λ x past. none_either [] (d.addr == x.addr) refl)
    (λ x past. refl) (λ x past. refl) (λ x past. (tt, tt)) (λ x past. tt) (λ other. tt) refl (λ other nexts. refl)
loose d past _ _ _ _ (jams paying test) =
    unlined d.addr (step.Jam d.addr) (entry.Jammed d.addr) history.jam (λ x past. none_either [] (d.addr == x.addr) refl)
    (λ x past. refl) (λ x past. refl) (λ x past. (tt, tt)) (λ x past. tt) (λ other. tt) refl (λ other nexts. refl)
loose d past _ _ _ _ (jams_none paying test) =
    unlined d.addr (step.Jam d.addr) (entry.NoJam d.addr) history.jam (λ x past. none_either [] (d.addr == x.addr) refl)
    (λ x past. refl) (λ x past. refl) (λ x past. (tt, tt)) (λ x past. tt) (λ other. tt) refl (λ other nexts. refl)
loose d past _ _ _ _ is_reset = search rules

pub loose_line : (d : DeviceSetup) (past : List Entry) (s : Step) (e : Entry) (m : Met) (ls : List Line) →
    IsLoose d.addr s e m ls → lines_of d (e ∷ past) ≡ ls ++ lines_of d past
loose_line d past s e m ls is =
    ap (λ front. front ++ lines_of d past) (is.own_is d past ∙ ap (λ b. cond b ls []) (eq-eqb d.addr d.addr refl))

pub loose_met : (d : DeviceSetup) (past : List Entry) (s : Step) (e : Entry) (m : Met) (ls : List Line) →
    IsLoose d.addr s e m ls → meets d past e ≡ m ∷ []
loose_met d past s e m ls is = is.meets_is d past ∙ ap (λ b. cond b (m ∷ []) []) (eq-eqb d.addr d.addr refl)

loose_passes : (d : DeviceSetup) (past : List Entry) (addr : ℕ) (s : Step) (e : Entry) (m : Met) (ls : List Line) →
    addr ≢ d.addr → IsLoose addr s e m ls → Aside d past s (e ∷ [])
loose_passes d past addr s e m ls other is =
    let away = ne_eqb addr d.addr other in
    let none = is.own_is d past ∙ ap (λ b. cond b ls []) away in
    record {
      passes = (
        record {
          dosed = subst AreDoses (sym none) tt;
          no_line = λ honest. none;
          others = λ honest. subst AreForOthers (sym (is.meets_is d past ∙ ap (λ b. cond b (m ∷ []) []) away)) tt;
          goes_on = is.goes_on d past;
          no_break = is.no_break d past;
          no_end = is.no_end d.addr;
          told = λ lines.
              none_told d.body (met d past) (meets d past e) (own d past e) lines
              (is.meets_is d past ∙ ap (λ b. cond b (m ∷ []) []) away) none;
        },
        tt,
      );
      no_next = is.no_next d.addr;
    }

away_none : (addr there : ℕ) (l : Line) → addr ≢ there → cond (addr == there) (l ∷ []) [] ≡ []
away_none addr there l other = rw (ne_eqb addr there other) refl

-- an exchange at another address is at most a dose
away_dosed : (addr there : ℕ) (l : Line) (ls : List Line) → addr ≢ there → cond (addr == there) (l ∷ []) [] ++ ls ≡ ls
away_dosed addr there l ls other = ap (λ front. front ++ ls) (away_none addr there l other)

with_end_passes : (d : DeviceSetup) (past : List Entry) (addr : ℕ) (e : Entry) (end : Option End) → addr ≢ d.addr →
    Passes d past e → ArePassed d past (with_end addr e end)
with_end_passes d past addr e None other passes = (passes, tt)
with_end_passes d past addr e (Some end) other passes = (
  record {
    dosed = subst AreDoses (sym (away_none addr d.addr (ended end) other)) tt;
    no_line = λ honest. away_none addr d.addr (ended end) other;
    others = λ honest. tt;
    goes_on = refl;
    no_break = tt;
    no_end = (other, tt);
    told = λ lines.
        none_told d.body _ [] (own d (e ∷ past) (entry.Ended addr end)) lines refl
        (away_none addr d.addr (ended end) other);
  },
  (passes, tt),
)

-- a device does nothing of what is for others
no_dose_for_others : (body : DeviceBody) (own : ℕ) (past : List Met) (asked : Option Request) → IsForOthers asked →
    doses body own past asked ≡ []
no_dose_for_others (Acceptor accepts values ids) own past asked others = refl
no_dose_for_others (Hopper life value) own past None others = refl
no_dose_for_others (Hopper life value) own past (Some AddressPoll) others = refl
no_dose_for_others (Hopper life value) own past (Some SimplePoll) others = refl
no_dose_for_others (Hopper life value) own past (Some q) others = absurd others
no_dose_for_others (Bill accepts values ids) own past None others = refl
no_dose_for_others (Bill accepts values ids) own past (Some AddressPoll) others = refl
no_dose_for_others (Bill accepts values ids) own past (Some SimplePoll) others = refl
no_dose_for_others (Bill accepts values ids) own past (Some q) others = absurd others

wire_passes : (d : DeviceSetup) (past : List Entry) (addr : ℕ) (sent piece : List ℕ) → addr ≢ d.addr →
    (IsHonestFault (pending past) sent → IsForOthers (asks_of d (heard_by_devices (pending past) sent))) →
    Passes d past (entry.Wire addr sent piece)
wire_passes d past addr sent piece other others =
    let heard_it = asks_of d (heard_by_devices (pending past) sent) in
    let only = away_dosed addr d.addr (exchange (asked d.kind sent) (got_by d sent piece)) (doses_of d past sent) other in
    record {
      dosed = subst AreDoses (sym only) (doses_are d.body d.serial (met d past) heard_it);
      no_line = λ honest. only ∙ no_dose_for_others d.body d.serial (met d past) heard_it (others honest);
      others = λ honest. (others honest, tt);
      goes_on = refl;
      no_break = tt;
      no_end = tt;
      told = λ lines told.
          doses_told d.body d.serial (met d past) heard_it lines told ∙ ap (λ ls. length (coins (ls ++ lines))) (sym only);
    }

put_elsewhere : (d : DeviceSetup) (past : List Entry) (r : Record) → owner past r ≢ d.addr → HasCause d past r
put_elsewhere d past (record_of.Broken addr seen counter lost accepts posted) away = λ here. absurd (away here)
put_elsewhere d past r away = tt

pub since_elsewhere : (d : DeviceSetup) (past : List Entry) (r : Record) (since : List Met) → owner past r ≢ d.addr →
    since_record d r since ≡ since
since_elsewhere d past (record_of.Epoch addr mask accepts) since away = rw (ne_eqb addr d.addr away) refl
since_elsewhere d past r since away = refl

put_passes : (d : DeviceSetup) (past : List Entry) (r : Record) → owner past r ≢ d.addr → Passes d past (entry.Put r)
put_passes d past r away = record {
  dosed = subst AreDoses (sym (away_none (owner past r) d.addr (put r) away)) tt;
  no_line = λ honest. away_none (owner past r) d.addr (put r) away;
  others = λ honest. tt;
  goes_on = since_elsewhere d past r (since_epoch d past) away;
  no_break = put_elsewhere d past r away;
  no_end = tt;
  told = λ lines.
      none_told d.body (met d past) [] (own d past (entry.Put r)) lines refl
      (away_none (owner past r) d.addr (put r) away);
}

taken_passes : (d : DeviceSetup) (past : List Entry) (c : Command) → address_of c ≢ d.addr →
    Passes d past (entry.Taken c)
taken_passes d past c other = record {
  dosed = subst AreDoses (sym (away_none (address_of c) d.addr (taken c) other)) tt;
  no_line = λ honest. away_none (address_of c) d.addr (taken c) other;
  others = λ honest. tt;
  goes_on = refl;
  no_break = tt;
  no_end = tt;
  told = λ lines.
      none_told d.body (met d past) [] (own d past (entry.Taken c)) lines refl
      (away_none (address_of c) d.addr (taken c) other);
}

-- an entry that is no line of any device, and nothing that one meets
none_aside : (d : DeviceSetup) (past : List Entry) (s : Step) (e : Entry) → own d past e ≡ [] → meets d past e ≡ [] →
    since_epoch d (e ∷ past) ≡ meets d past e ++ since_epoch d past → HasCauseAt d past e → HasNoEnd d.addr (e ∷ []) →
    ((nexts : ℕ) → nexts_after d.addr s nexts ≡ nexts) → Aside d past s (e ∷ [])
none_aside d past s e none not_met goes_on no_break no_end no_next = record {
  passes = (
    record {
      dosed = subst AreDoses (sym none) tt;
      no_line = λ honest. none;
      others = λ honest. subst AreForOthers (sym not_met) tt;
      goes_on = goes_on;
      no_break = no_break;
      no_end = no_end;
      told = λ lines. none_told d.body (met d past) (meets d past e) (own d past e) lines not_met none;
    },
    tt,
  );
  no_next = no_next;
}

away_next : (d : DeviceSetup) (addr : ℕ) → addr ≢ d.addr → (nexts : ℕ) →
    nexts_after d.addr (step.Next addr) nexts ≡ nexts
away_next d addr other nexts = rw (ne_eqb addr d.addr other) refl

-- what a step brought at another device
elsewhere : (capacity : ℕ) (setup : Setup) (d e : DeviceSetup) (past news : List Entry) (s : Step) → Ids setup past →
    IsOf setup e → e.addr ≢ d.addr → e.addr ≢ 0 → AtDevice capacity setup e past s news → Aside d past s news
elsewhere capacity setup d e past _ _ ids own other some (came s n m ls comes) =
    loose_passes d past e.addr s n m ls other (loose e (met e past) s n m ls comes)
elsewhere capacity setup d e past _ _ ids own other some (took s c gives suited here is_free is_taken is_owed lets) =
    record { passes = (taken_passes d past c (λ same. other (sym here ∙ same)), tt); no_next = gives.no_next d.addr }
elsewhere capacity setup d e past _ _ ids own other some (halted paying can) =
    record { passes = (taken_passes d past (command.Halt e.addr) other, tt); no_next = λ n. refl }
elsewhere capacity setup d e past _ _ ids own other some (idled is_free) =
    none_aside d past (step.Next e.addr) (entry.Idle e.addr) refl refl refl tt tt (away_next d e.addr other)
elsewhere capacity setup d e past _ _ ids own other some (made_exchange c since q at_work is_row) =
    let to_it : slice_index (ask e.kind e.addr q) 0 ≡ e.addr = ask_to e.kind e.addr q in
    record {
      passes =
          with_end_passes d past e.addr (wire_of setup e past q) (wire_end setup e past c since q) other
          (wire_passes d past e.addr _ _ other (λ honest. subst IsForOthers
          (sym (asked_elsewhere d (pending past) (ask e.kind e.addr q) honest (λ same. other (sym to_it ∙ same))
          (λ zero. some (sym to_it ∙ zero)))) tt));
      no_next = away_next d e.addr other;
    }
elsewhere capacity setup d e past _ _ ids own other some (made_put c since r at_work is_row) =
    record {
      passes =
          with_end_passes d past e.addr (entry.Put r) (record_end e past c since r) other
          (put_passes d past r (λ same. other (sym (put_owned setup past e c since r own ids at_work is_row) ∙ same)));
      no_next = away_next d e.addr other;
    }

-- a device of a sound setup isn't at address 0
pub not_zero : (setup : Setup) (d : DeviceSetup) → IsSoundSetup setup → IsOf setup d → d.addr ≢ 0
not_zero setup d sound is_of =
    let low = (found_in IsSound setup.devices d.addr d sound.devices is_of).0.low in
    omega (arith, low)

nobody_at : (setup : Setup) (d : DeviceSetup) (addr : ℕ) → IsOf setup d → device_at setup.devices addr ≡ None →
    addr ≢ d.addr
nobody_at setup d addr is_of none = λ same. clash (sym none ∙ ap (device_at setup.devices) same ∙ is_of)
  where
    clash : None ≡ Some d → ⊥
    clash e = cc

-- a power cut, seen from one device: nothing was kept, or the record that its job was putting, or another's
pub data Lost (d : DeviceSetup) (past : List Entry) : List Entry → Type 0 where
  bare : Lost d past (bare_restart past)
  kept_here : (c : Command) (since : List Line) (r : Record) → AtWork d past c since → row_after d past c since ≡ puts r →
      owner past r ≡ d.addr → Lost d past (keeping_restart past r)
  kept_elsewhere : (r : Record) → owner past r ≢ d.addr → HasCause d past r → Lost d past (keeping_restart past r)

-- each step brought something at a device, or entries that are none of it, or the power was cut
pub data Seen (capacity : ℕ) (setup : Setup) (d : DeviceSetup) (past : List Entry) (s : Step) (news : List Entry) : Type 0 where
  seen_here : AtDevice capacity setup d past s news → Seen capacity setup d past s news
  seen_aside : Aside d past s news → Seen capacity setup d past s news
  seen_lost : Lost d past news → ((nexts : ℕ) → nexts_after d.addr s nexts ≡ nexts) → Seen capacity setup d past s news

not_host : (setup : Setup) (d : DeviceSetup) → IsSoundSetup setup → IsOf setup d → 1 ≢ d.addr
not_host setup d sound is_of =
    let low = (found_in IsSound setup.devices d.addr d sound.devices is_of).0.low in
    omega (arith, low)

kept_seen : (setup : Setup) (d e : DeviceSetup) (past : List Entry) (c : Command) (since : List Line) (r : Record) →
    Ids setup past → IsOf setup e → AtWork e past c since → row_after e past c since ≡ puts r → (e ≡ d) ⊎ (e.addr ≢ d.addr) →
    Lost d past (keeping_restart past r)
kept_seen setup d e past c since r ids own at_work is_row same =
    let owned = put_owned setup past e c since r own ids at_work is_row in
    elim same [
      | inl it ↦ subst (λ x. Lost x past (keeping_restart past r)) it (kept_here c since r at_work is_row owned)
      | inr other ↦
          let away : owner past r ≢ d.addr = λ is. other (sym owned ∙ is) in
          kept_elsewhere r away (put_elsewhere d past r away)
    ]

pub seen_from : (capacity : ℕ) (setup : Setup) (d : DeviceSetup) (past news : List Entry) (s : Step) →
    IsSoundSetup setup → IsOf setup d → Ids setup past → Brought capacity setup past s news →
    Seen capacity setup d past s news
seen_from capacity setup d past _ _ sound is_of ids (of_device e s news own told) =
    elim (same_or_other setup d e e.addr is_of own) [
      | inl same ↦ seen_here (subst (λ x. AtDevice capacity setup x past s news) same told)
      | inr other ↦ seen_aside (elsewhere capacity setup d e past news s ids own other (not_zero setup e sound own) told)
    ]
seen_from capacity setup d past _ _ sound is_of ids (faulted f) =
    seen_aside (none_aside d past (step.Fault f) (entry.Fault f) refl refl refl tt tt (λ n. refl))
seen_from capacity setup d past _ _ sound is_of ids (refused c why was) =
    seen_aside (none_aside d past (step.Command c) (entry.No c why) refl refl refl tt tt (λ n. refl))
seen_from capacity setup d past _ _ sound is_of ids (began_scan is_free) =
    seen_aside (record {
      passes = (taken_passes d past command.Scan (λ same. not_zero setup d sound is_of (sym same)), tt);
      no_next = λ n. refl;
    })
seen_from capacity setup d past _ _ sound is_of ids (began_sale id price is_free lets) =
    seen_aside (record {
      passes = (taken_passes d past (command.Vend id price) (not_host setup d sound is_of), tt);
      no_next = λ n. refl;
    })
seen_from capacity setup d past _ _ sound is_of ids (nobody addr none) =
    seen_aside (none_aside d past (step.Next addr) (entry.Idle addr) refl refl refl tt tt
    (away_next d addr (nobody_at setup d addr is_of none)))
seen_from capacity setup d past _ _ sound is_of ids (polled c since check addr none is_job is_row) =
    let other : 0 ≢ d.addr = nobody_at setup d 0 is_of none in
    seen_aside (record {
      passes =
          with_end_passes d past 0 (poll_wire setup past check addr) (poll_end setup past since check addr) other
          (wire_passes d past 0 _ _ other (poll_others d (pending past) check addr));
      no_next = away_next d 0 other;
    })
seen_from capacity setup d past _ _ sound is_of ids (sold id price since none selling) =
    let other : 1 ≢ d.addr = not_host setup d sound is_of in
    seen_aside (record {
      passes =
          with_end_passes d past 1 (entry.Put (record_of.Sold id price)) (Some Sold) other
          (put_passes d past (record_of.Sold id price) other);
      no_next = away_next d 1 other;
    })
seen_from capacity setup d past _ _ sound is_of ids balanced =
    seen_aside (none_aside d past step.Balance _ refl refl refl tt tt (λ n. refl))
seen_from capacity setup d past _ _ sound is_of ids (of_desk s e is) =
    let apart = desk_apart s e is in
    seen_aside (none_aside d past s e (apart.own_is d past) (apart.meets_is d past) (apart.goes_on d past)
    (apart.no_break d past) (apart.no_end d.addr) (apart.no_next d.addr))
seen_from capacity setup d past _ _ sound is_of ids (ended_short addr id count why paid rest small range was) =
    let refuses : Aside d past step.Serve (entry.No (command.Pay addr id count) why ∷ []) =
    none_aside d past step.Serve (entry.No (command.Pay addr id count) why) refl refl refl tt tt (λ n. refl) in
    let ends : Aside d (entry.No (command.Pay addr id count) why ∷ past) step.Serve (entry.Short paid rest ∷ []) =
    none_aside d (entry.No (command.Pay addr id count) why ∷ past) step.Serve (entry.Short paid rest) refl refl refl tt tt
    (λ n. refl) in
    seen_aside (record { passes = (ends.passes.0, refuses.passes); no_next = λ n. refl })
seen_from capacity setup d past _ _ sound is_of ids (lost_power at choice) = seen_lost bare (λ n. refl)
seen_from capacity setup d past _ _ sound is_of ids (lost_in_put at choice e c since r own at_work is_row) =
    seen_lost (kept_seen setup d e past c since r ids own at_work is_row (same_or_other setup d e e.addr is_of own)) (λ n. refl)
seen_from capacity setup d past _ _ sound is_of ids (lost_in_sale at choice id price since none selling) =
    seen_lost (kept_elsewhere (record_of.Sold id price) (not_host setup d sound is_of) tt) (λ n. refl)

-- the lines after a power cut
pub lines_kept : (d : DeviceSetup) (past : List Entry) (r : Record) → owner past r ≡ d.addr →
    lines_of d (keeping_restart past r ++ past) ≡ put r ∷ restarted ∷ lines_of d past
lines_kept d past r here = rw (eq-eqb (owner past r) d.addr here) refl

pub lines_kept_elsewhere : (d : DeviceSetup) (past : List Entry) (r : Record) → owner past r ≢ d.addr →
    lines_of d (keeping_restart past r ++ past) ≡ restarted ∷ lines_of d past
lines_kept_elsewhere d past r away = rw (ne_eqb (owner past r) d.addr away) refl

-- the lines of other entries of a device's own address
pub lines_wire : (d : DeviceSetup) (past : List Entry) (sent piece : List ℕ) →
    lines_of d (entry.Wire d.addr sent piece ∷ past) ≡ exchange (asked d.kind sent) (got_by d sent piece)
    ∷ doses_of d past sent ++ lines_of d past
lines_wire d past sent piece = rw (eq-eqb d.addr d.addr refl) refl

pub lines_ended : (d : DeviceSetup) (past : List Entry) (end : End) →
    lines_of d (entry.Ended d.addr end ∷ past) ≡ ended end ∷ lines_of d past
lines_ended d past end = rw (eq-eqb d.addr d.addr refl) refl

pub lines_put : (d : DeviceSetup) (past : List Entry) (r : Record) → owner past r ≡ d.addr →
    lines_of d (entry.Put r ∷ past) ≡ put r ∷ lines_of d past
lines_put d past r here = rw (eq-eqb (owner past r) d.addr here) refl

pub lines_taken : (d : DeviceSetup) (past : List Entry) (c : Command) → address_of c ≡ d.addr →
    lines_of d (entry.Taken c ∷ past) ≡ taken c ∷ lines_of d past
lines_taken d past c here = rw (eq-eqb (address_of c) d.addr here) refl

-- the line of an entry of its job, and of the end after it
pub lines_with_end : (d : DeviceSetup) (past : List Entry) (e : Entry) (end : Option End) (ls : List Line) →
    lines_of d (e ∷ past) ≡ ls → lines_of d (with_end d.addr e end ++ past) ≡ with_ended end ls
lines_with_end d past e None ls line_is = line_is
lines_with_end d past e (Some end) ls line_is = lines_ended d (e ∷ past) end ∙ ap (λ front. ended end ∷ front) line_is

-- nothing of a device is a line of address 0
none_there : (addr : ℕ) (l : Line) → addr ≢ 0 → cond (addr == 0) (l ∷ []) [] ≡ []
none_there addr l other = rw (ne_eqb addr 0 other) refl

unscanned_end : (past : List Entry) (addr : ℕ) (e : Entry) (end : Option End) → addr ≢ 0 → scan_own e ≡ [] →
    scan_lines (with_end addr e end ++ past) ≡ scan_lines past
unscanned_end past addr e None other none = ap (λ ls. ls ++ scan_lines past) none
unscanned_end past addr e (Some end) other none =
    ap (λ ls. ls ++ scan_lines (e ∷ past)) (none_there addr (ended end) other) ∙ ap (λ ls. ls ++ scan_lines past) none

pub unscanned : (capacity : ℕ) (setup : Setup) (d : DeviceSetup) (past news : List Entry) (s : Step) →
    IsSoundSetup setup →
    IsOf setup d → AtDevice capacity setup d past s news → scan_lines (news ++ past) ≡ scan_lines past
unscanned capacity setup d past _ _ sound is_of (came s e m ls comes) =
    ap (λ front. front ++ scan_lines past) (loose d (met d past) s e m ls comes).no_scan
unscanned capacity setup d past _ _ sound is_of (took s c gives suited here is_free is_taken is_owed lets) =
    ap (λ ls. ls ++ scan_lines past) (none_there (address_of c) (taken c)
    (λ zero. not_zero setup d sound is_of (sym here ∙ zero)))
unscanned capacity setup d past _ _ sound is_of (halted paying can) =
    ap (λ ls. ls ++ scan_lines past) (none_there d.addr (taken (command.Halt d.addr)) (not_zero setup d sound is_of))
unscanned capacity setup d past _ _ sound is_of (idled is_free) = refl
unscanned capacity setup d past _ _ sound is_of (made_exchange c since q at_work is_row) =
    let other = not_zero setup d sound is_of in
    unscanned_end past d.addr (wire_of setup d past q) (wire_end setup d past c since q) other
    (rw (ne_eqb d.addr 0 other) refl)
unscanned capacity setup d past _ _ sound is_of (made_put c since r at_work is_row) =
    unscanned_end past d.addr (entry.Put r) (record_end d past c since r) (not_zero setup d sound is_of) refl

-- ids stay in order over all that a step reports
pub ids_told : (capacity : ℕ) (setup : Setup) (past news : List Entry) (s : Step) → IsSoundSetup setup →
    Telling capacity setup past s news → Ids setup past → Ids setup (news ++ past)
ids_told capacity setup past news s sound told ids =
    over_telling capacity setup past news s (λ es. Ids setup (es ++ past))
    (λ older addr at. ids_forged setup (older ++ past) addr at) told
    (ids_step capacity setup past told.told s sound told.brings ids)

-- a fact that each step keeps, each of which has a fact of its own, and that goes on over an entry
-- that reports a forged exchange, from a past whose ids are in order
pub along_from : (capacity : ℕ) (setup : Setup) (S : Step → Type 0) (Q : List Entry → Type 0) → IsSoundSetup setup →
    ((past news : List Entry) (s : Step) → S s → Ids setup past → Brought capacity setup past s news → Q past →
    Q (news ++ past)) → GoesOverForged Q →
    (past : List Entry) (steps : List Step) (end : List Entry) → All S steps → Ids setup past →
    LegalFrom capacity setup past steps end → Q past → Ids setup end × Q end
along_from capacity setup S Q sound keeps over past steps end each ids legal holds =
    each_brought capacity setup S (λ es. Ids setup es × Q es)
    (λ before news s is told both.
    (ids_step capacity setup before news s sound told both.0, keeps before news s is both.0 told both.1))
    (λ before addr both. (ids_forged setup before addr both.0, over before addr both.1))
    past steps end each legal (ids, holds)

-- and from the beginning
pub along : (capacity : ℕ) (setup : Setup) (S : Step → Type 0) (Q : List Entry → Type 0) → IsSoundSetup setup →
    ((past news : List Entry) (s : Step) → S s → Ids setup past → Brought capacity setup past s news → Q past →
    Q (news ++ past)) → GoesOverForged Q →
    (steps : List Step) (end : List Entry) → All S steps → LegalFrom capacity setup [] steps end → Q [] → Q end
along capacity setup S Q sound keeps over steps end each legal holds =
    (along_from capacity setup S Q sound keeps over [] steps end each (ids_start setup) legal holds).1
