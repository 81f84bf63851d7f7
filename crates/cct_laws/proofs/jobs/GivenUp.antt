-- A job that ends for want of an answer had a fault set for each of its last three exchanges.
use Rattle.std.proofs.Common.{◌≡◌, ℕ, zero, suc, ◌==◌, ◌≤◌, cond, true, false, Bool, List, [], ◌∷◌, ◌++◌, not, refl, ap, sym, ◌∙◌, subst, Option, Some, None, inl, inr, MatchBool, arith, All, eq-eqb, eqb-true}
use Rattle.std.proofs.lemmas.Bool.{true≢false, false≢true}
use Rattle.cct_model.specs.terms.wire.CheckKind.{CheckKind}
use Rattle.cct_model.specs.terms.wire.CheckKind.TheVariants.{Simple, Crc}
use Rattle.cct_model.specs.terms.device.DeviceSetup.{DeviceSetup}
use Rattle.cct_model.specs.terms.device.Setup.{Setup}
use Rattle.cct_model.specs.terms.request.Request.{Request}
use Rattle.cct_model.specs.terms.request.Request.TheVariants.{RouteBill, Dispense}
use Rattle.cct_model.specs.lines.record.Record.{Record}
use Rattle.cct_model.specs.lines.command.Command.{Command}
use Rattle.cct_model.specs.lines.command.Command.TheVariants as command
use Rattle.cct_model.specs.lines.command.Step.{Step}
use Rattle.cct_model.specs.lines.entry.End.{End}
use Rattle.cct_model.specs.lines.entry.End.TheVariants.{NoAnswer}
use Rattle.cct_model.specs.lines.entry.Entry.{Entry}
use Rattle.cct_model.specs.lines.entry.Entry.TheVariants as entry
use Rattle.cct_model.specs.Request.{header_of}
use Rattle.cct_model.specs.Reply.{Reply}
use Rattle.cct_model.specs.Setup.{IsSoundSetup}
use Rattle.cct_model.specs.Exchange.{asked, asks_of, after_echo}
use Rattle.cct_model.specs.Line.{Line, accepted, inhibited, alien, fell, reset, exchange, scanned, put, taken, ended}
use Rattle.cct_model.specs.Job.{Job, free, works, job, with_line, tries, address_of}
use Rattle.cct_model.specs.Scan.{scan_tries}
use Rattle.cct_model.specs.Claims.{AllPast}
use Rattle.cct_model.specs.Legal.{Legal}
use Rattle.cct_model.specs.Script.{IsInRange}
use Rattle.cct_model.specs.Transcript.{pending, met, own, owner, lines_of, heard_by_devices, doses_of, scan_own, scan_lines, scan_line, got_by, onto}
use Rattle.cct_laws.specs.Faults.{IsFaultSet, may_be_refused, FailsByFaultBut, EchoFailsByFault, begins, AreFaulted, EndsByFaults}
use Rattle.cct_laws.specs.Law.{IsOf, EachEntry}
use Rattle.cct_laws.specs.Tries.{failed_tries, failed_in, HasThreeTries, ScanTriesAt}
use Rattle.cct_model.proofs.Doses.{job_undosed}
use Rattle.cct_laws.proofs.wire.Faults.{legal_fails_but, legal_echoes}
use Rattle.cct_laws.proofs.jobs.Scans.{IsPoll, tries_more, scan_line_is, legal_scans}
use Rattle.cct_laws.proofs.jobs.Tries.{asks_again, again_in, GivenUpAt, tries_by, legal_given_up}
use Rattle.cct_model.proofs.Requests.{is_once_header, is_asked_again}

-- fewer of the newest exchanges
fewer_by : (here : Bool) (P Q R S : Type 0) → (P → R) → (Q → S) → MatchBool here P Q → MatchBool here R S
fewer_by true P Q R S first second holds = first holds
fewer_by false P Q R S first second holds = second holds

fewer : (addr few many : ℕ) (past : List Entry) → few ≤ many → AreFaulted addr many past → AreFaulted addr few past
fewer addr zero many past less holds = tt
fewer addr (suc few) zero past less holds = absurd (omega (arith, less))
fewer addr (suc few) (suc many) [] less holds = absurd holds
fewer addr (suc few) (suc many) (entry.Wire other sent piece ∷ past) less holds =
    fewer_by (other == addr) _ _ _ _ (λ h. (h.0, fewer addr few many past (omega (arith, less)) h.1))
    (fewer addr (suc few) (suc many) past less) holds
fewer addr (suc few) (suc many) (entry.Taken c ∷ past) less holds =
    fewer_by (begins addr c) _ _ _ _ (λ h. h) (fewer addr (suc few) (suc many) past less) holds
fewer addr (suc few) (suc many) (e ∷ past) less holds = fewer addr (suc few) (suc many) past less holds

-- what passes over an entry for each number passes for any
over : (addr many : ℕ) (past : List Entry) (e : Entry) →
    ((more : ℕ) → AreFaulted addr (suc more) past → AreFaulted addr (suc more) (e ∷ past)) → AreFaulted addr many past →
    AreFaulted addr many (e ∷ past)
over addr zero past e passes holds = tt
over addr (suc many) past e passes holds = passes many holds

-- an entry that is a line, or is none, by which no more tries of the job failed
line_faulted : (failed : Job → ℕ) (addr : ℕ) (past : List Entry) (e : Entry) (here : Bool) (l : Line)
    (lines : List Line) →
    failed (job (l ∷ lines)) ≤ failed (job lines) →
    ((more : ℕ) → AreFaulted addr (suc more) past → AreFaulted addr (suc more) (e ∷ past)) →
    AreFaulted addr (failed (job lines)) past → AreFaulted addr (failed
    (job (cond here (l ∷ []) [] ++ lines))) (e ∷ past)
line_faulted failed addr past e true l lines less passes before =
    over addr (failed (job (l ∷ lines))) past e passes
    (fewer addr (failed (job (l ∷ lines))) (failed (job lines)) past less before)
line_faulted failed addr past e false l lines less passes before = over addr (failed (job lines)) past e passes before

-- a command that begins a job
begun_faulted : (failed : Job → ℕ) (addr : ℕ) (past : List Entry) (c : Command) (here : Bool) (lines : List Line) →
    begins addr c ≡ here → failed (job (taken c ∷ lines)) ≡ 0 → AreFaulted addr (failed (job lines)) past →
    AreFaulted addr (failed (job (cond here (taken c ∷ []) [] ++ lines))) (entry.Taken c ∷ past)
begun_faulted failed addr past c true lines test none before = rw none tt
begun_faulted failed addr past c false lines test none before =
    over addr (failed (job lines)) past (entry.Taken c)
    (λ more h. subst (λ b. MatchBool b ⊥ (AreFaulted addr (suc more) past)) (sym test) h) before

-- an exchange: a failed one had a fault
wire_faulted : (addr other : ℕ) (past : List Entry) (sent piece : List ℕ) (here : Bool) (few many : ℕ) →
    (other == addr) ≡ here → few ≤ suc many → (1 ≤ few → here ≡ true → IsFaultSet past) → (here ≡ false → few ≤ many) →
    AreFaulted addr many past → AreFaulted addr few (entry.Wire other sent piece ∷ past)
wire_faulted addr other past sent piece here zero many test less fails same before = tt
wire_faulted addr other past sent piece true (suc few) many test less fails same before =
    subst (λ b. MatchBool b (IsFaultSet past × AreFaulted addr few past) (AreFaulted addr (suc few) past)) (sym test)
    (fails (omega arith) refl, fewer addr few many past (omega (arith, less)) before)
wire_faulted addr other past sent piece false (suc few) many test less fails same before =
    subst (λ b. MatchBool b (IsFaultSet past × AreFaulted addr few past) (AreFaulted addr (suc few) past)) (sym test)
    (fewer addr (suc few) many past (same refl) before)

-- the failed tries of a job at a device, none where its newest exchange asked what is sent once
abbrev counted_tries : List Line → ℕ
counted_tries since = cond (asks_again since) (failed_tries since) 0

abbrev counted : Job → ℕ
counted free = 0
counted (works c since) = counted_tries since

line_fewer : (l : Line) (j : Job) → ((since : List Line) → counted_tries (l ∷ since) ≤ counted_tries since) →
    counted (with_line l j) ≤ counted j
line_fewer l free less = omega arith
line_fewer l (works c since) less = less since

none_counted : (b : Bool) (n : ℕ) → cond b 0 0 ≤ n
none_counted true n = omega arith
none_counted false n = omega arith

-- a header that is asked again has no more failed tries than are counted
other_header : (p q : Request) → is_asked_again p ≡ false → is_asked_again q ≡ true →
    (header_of p == header_of q) ≡ false
other_header p q once again = by_test (header_of p == header_of q) refl
  where
    by_test : (same : Bool) → (header_of p == header_of q) ≡ same → same ≡ false
    by_test false test = refl
    by_test true test =
        let is : is_asked_again p ≡ is_asked_again q = ap (λ h. not (is_once_header h)) (eqb-true _ _ test) in
        sym again ∙ sym is ∙ once

again_by : (asks_it : Bool) (p q : Request) (since : List Line) → is_asked_again p ≡ asks_it →
    is_asked_again q ≡ true →
    cond (header_of p == header_of q) (suc (tries (header_of q) since)) 0 ≤
    cond asks_it (suc (tries (header_of p) since)) 0
again_by true p q since test again = tries_by (header_of q) (Some p) None since
again_by false p q since test again = rw (other_header p q test again) (omega arith)

again_most : (q : Request) (since : List Line) → is_asked_again q ≡ true →
    tries (header_of q) since ≤ counted_tries since
again_most q [] again = omega arith
again_most q (exchange None found ∷ since) again = omega arith
again_most q (exchange (Some p) (Some y) ∷ since) again = omega arith
again_most q (exchange (Some p) None ∷ since) again = again_by (is_asked_again p) p q since refl again
again_most q (put r ∷ since) again = omega arith
again_most q (l ∷ since) again = again_most q since again

failed_more : (asks_it : Bool) (q : Request) (since : List Line) → is_asked_again q ≡ asks_it →
    cond asks_it (suc (tries (header_of q) since)) 0 ≤ suc (counted_tries since)
failed_more true q since test = omega (arith, again_most q since test)
failed_more false q since test = omega arith

one_more : (asks : Option Request) (found : Option Reply) (j : Job) →
    counted (with_line (exchange asks found) j) ≤ suc (counted j)
one_more asks found free = omega arith
one_more None found (works c since) = omega arith
one_more (Some q) (Some y) (works c since) = none_counted (is_asked_again q) (suc (counted_tries since))
one_more (Some q) None (works c since) = failed_more (is_asked_again q) q since refl

-- an exchange that is counted wasn't answered, and asked nothing that may be refused
none_refusable : (q : Request) → is_asked_again q ≡ true → may_be_refused (Some q) ≡ false
none_refusable (Dispense serial count) again = absurd cc
none_refusable (RouteBill way) again = absurd cc
none_refusable q again = refl

unanswered_by : (asks_it : Bool) (q : Request) (n : ℕ) → is_asked_again q ≡ asks_it → 1 ≤ cond asks_it n 0 →
    may_be_refused (Some q) ≡ false
unanswered_by true q n test some = none_refusable q test
unanswered_by false q n test some = absurd (omega (arith, some))

unanswered : (asks : Option Request) (found : Option Reply) (j : Job) →
    1 ≤ counted (with_line (exchange asks found) j) → (found ≡ None) × (may_be_refused asks ≡ false)
unanswered asks found free some = absurd (omega (arith, some))
unanswered None found (works c since) some = absurd (omega (arith, some))
unanswered (Some q) (Some y) (works c since) some =
    absurd (omega (arith, some, none_counted (is_asked_again q) 0))
unanswered (Some q) None (works c since) some = (refl, unanswered_by (is_asked_again q) q _ refl some)

exchange_faulted : (d : DeviceSetup) (past : List Entry) (addr : ℕ) (sent piece : List ℕ) (here : Bool)
    (ls : List Line) → (addr == d.addr) ≡ here → job (ls ++ lines_of d past) ≡ job (lines_of d past) →
    FailsByFaultBut may_be_refused d past (entry.Wire addr sent piece) →
    AreFaulted d.addr (counted (job (lines_of d past))) past →
    AreFaulted d.addr (counted (job ((cond here (exchange (asked d.kind sent) (got_by d sent piece) ∷ []) [] ++ ls)
    ++ lines_of d past))) (entry.Wire addr sent piece ∷ past)
exchange_faulted d past addr sent piece true ls test same fails before =
    let j = job (lines_of d past) in
    let l = exchange (asked d.kind sent) (got_by d sent piece) in
    subst (λ x. AreFaulted d.addr (counted (with_line l x)) (entry.Wire addr sent piece ∷ past)) (sym same)
    (wire_faulted d.addr addr past sent piece true (counted (with_line l j)) (counted j) test
    (one_more (asked d.kind sent) (got_by d sent piece) j)
    (λ some here. let is = unanswered (asked d.kind sent) (got_by d sent piece) j some in
    fails (eqb-true addr d.addr test) is.1 is.0)
    (λ away. absurd (true≢false away)) before)
exchange_faulted d past addr sent piece false ls test same fails before =
    let many = counted (job (lines_of d past)) in
    subst (λ x. AreFaulted d.addr (counted x) (entry.Wire addr sent piece ∷ past)) (sym same)
    (wire_faulted d.addr addr past sent piece false many many test (omega arith) (λ some here. absurd (false≢true here))
    (λ away. omega arith) before)

-- each failed try of it had a fault
put_fewer : (r : Record) (j : Job) → counted (with_line (put r) j) ≤ counted j
put_fewer r j = line_fewer (put r) j (λ since. none_counted (asks_again since) (counted_tries since))

faulted_at : (d : DeviceSetup) (past : List Entry) (e : Entry) → FailsByFaultBut may_be_refused d past e →
    AreFaulted d.addr (counted (job (lines_of d past))) past →
    AreFaulted d.addr (counted (job (lines_of d (e ∷ past)))) (e ∷ past)
faulted_at d past (entry.Accepted addr c) fails before =
    line_faulted counted d.addr past _ (addr == d.addr) (accepted c) (lines_of d past) (omega arith) (λ more h. h)
    before
faulted_at d past (entry.Inhibited addr place) fails before =
    line_faulted counted d.addr past _ (addr == d.addr) (inhibited place) (lines_of d past) (omega arith)
    (λ more h. h) before
faulted_at d past (entry.Alien addr) fails before =
    line_faulted counted d.addr past _ (addr == d.addr) alien (lines_of d past) (omega arith) (λ more h. h) before
faulted_at d past (entry.Fell addr) fails before =
    line_faulted counted d.addr past _ (addr == d.addr) fell (lines_of d past) (omega arith) (λ more h. h) before
faulted_at d past (entry.Reset addr) fails before =
    line_faulted counted d.addr past _ (addr == d.addr) reset (lines_of d past) (omega arith) (λ more h. h) before
faulted_at d past (entry.Taken (command.Halt addr)) fails before =
    line_faulted counted d.addr past _ (addr == d.addr) (taken (command.Halt addr)) (lines_of d past)
    (line_fewer (taken (command.Halt addr)) (job (lines_of d past)) (λ since. omega arith)) (λ more h. h) before
faulted_at d past (entry.Taken c) fails before =
    begun_faulted counted d.addr past c (address_of c == d.addr) (lines_of d past) refl refl before
faulted_at d past (entry.Wire addr sent piece) fails before =
    exchange_faulted d past addr sent piece (addr == d.addr) (doses_of d past sent) refl
    (job_undosed d.body d.serial (met d past) (asks_of d (heard_by_devices (pending past) sent)) (lines_of d past))
    fails before
faulted_at d past (entry.Put r) fails before =
    line_faulted counted d.addr past _ (owner past r == d.addr) (put r) (lines_of d past)
    (put_fewer r (job (lines_of d past))) (λ more h. h) before
faulted_at d past (entry.Kept r) fails before =
    line_faulted counted d.addr past _ (owner past r == d.addr) (put r) (lines_of d past)
    (put_fewer r (job (lines_of d past))) (λ more h. h) before
faulted_at d past (entry.Ended addr end) fails before =
    line_faulted counted d.addr past _ (addr == d.addr) (ended end) (lines_of d past) (omega arith) (λ more h. h)
    before
faulted_at d past (entry.Crash records) fails before = tt
faulted_at d past e fails before = over d.addr (counted (job (lines_of d past))) past e (λ more h. h) before

-- what was before a front of lines
older_lines : (P : List Line → Line → Type 0) (front lines : List Line) → AllPast P (front ++ lines) → AllPast P lines
older_lines P [] lines all = all
older_lines P (l ∷ front) lines all = older_lines P front lines all.1

-- where its third failed try ends it, three faults were set
third_there : (addr other : ℕ) (end : End) (P : List Line → Line → Type 0) (lines : List Line) → other ≡ addr →
    AllPast P (cond (other == addr) (ended end ∷ []) [] ++ lines) → P lines (ended end)
third_there addr other end P lines same all = by_here (other == addr) (eq-eqb other addr same) all
  where
    by_here : (here : Bool) → here ≡ true → AllPast P (cond here (ended end ∷ []) [] ++ lines) → P lines (ended end)
    by_here true is all = all.0
    by_here false is all = absurd cc

counted_three : (j : Job) → (failed_in j ≡ 3) × (again_in j ≡ true) → counted j ≡ 3
counted_three free given = given.0
counted_three (works c since) given = rw (given.1) (given.0)

ends_at : (d : DeviceSetup) (past : List Entry) (e : Entry) → AllPast GivenUpAt (lines_of d (e ∷ past)) →
    AreFaulted d.addr (counted (job (lines_of d past))) past → EndsByFaults d.addr past e
ends_at d past (entry.Ended addr NoAnswer) given before =
    λ same. subst (λ n. AreFaulted d.addr n past) (counted_three (job (lines_of d past))
    (third_there d.addr addr NoAnswer GivenUpAt (lines_of d past) same given)) before
ends_at d past e given before = tt

-- both, along the entries
record Ends (addr many : ℕ) (past : List Entry) : Type 0 where
  faulted : AreFaulted addr many past
  each : EachEntry (EndsByFaults addr) past

all_ends : (d : DeviceSetup) (past : List Entry) → EachEntry (FailsByFaultBut may_be_refused d) past →
    AllPast GivenUpAt (lines_of d past) → Ends d.addr (counted (job (lines_of d past))) past
all_ends d [] fails given = record { faulted = tt; each = tt }
all_ends d (e ∷ past) fails given =
    let before = all_ends d past fails.1 (older_lines GivenUpAt (own d past e) (lines_of d past) given) in
    record {
      faulted = faulted_at d past e fails.0 before.faulted;
      each = (ends_at d past e given before.faulted, before.each);
    }

-- a job that ends for want of an answer had a fault at each of its last three exchanges
pub legal_ends : (capacity : ℕ) (setup : Setup) (steps : List Step) (transcript : List Entry)
    (d : DeviceSetup) → IsSoundSetup setup → IsOf setup d → All IsInRange steps →
    Legal capacity setup steps transcript → EachEntry (EndsByFaults d.addr) (onto [] transcript)
legal_ends capacity setup steps transcript d sound own in_range legal =
    (all_ends d (onto [] transcript) (legal_fails_but capacity setup steps transcript d sound own in_range legal)
    (legal_given_up capacity setup steps transcript d sound own legal)).each

-- the failed tries of a scan under a check
abbrev scan_failed : CheckKind → Job → ℕ
scan_failed check free = 0
scan_failed check (works c since) = scan_tries check since

scan_fewer : (check : CheckKind) (c : Command) (j : Job) →
    scan_failed check (with_line (taken c) j) ≤ scan_failed check j
scan_fewer check c free = omega arith
scan_fewer check c (works at_work since) = omega arith

one_poll : (check other : CheckKind) (addr : ℕ) (rest : Option (List ℕ)) (j : Job) →
    scan_failed check (with_line (scanned other addr rest) j) ≤ suc (scan_failed check j)
one_poll check other addr rest free = omega arith
one_poll check other addr rest (works c since) = tries_more check other addr rest since

unheard_poll : (check other : CheckKind) (addr : ℕ) (rest : Option (List ℕ)) (j : Job) →
    1 ≤ scan_failed check (with_line (scanned other addr rest) j) → rest ≡ None
unheard_poll check other addr rest free some = absurd (omega (arith, some))
unheard_poll check other addr None (works c since) some = refl
unheard_poll check other addr (Some rest) (works c since) some = absurd (omega (arith, some))

poll_faulted : (check : CheckKind) (past : List Entry) (addr : ℕ) (sent piece : List ℕ) (here : Bool) (l : Line) →
    IsPoll (after_echo sent piece) l → (addr == 0) ≡ here → EchoFailsByFault past (entry.Wire addr sent piece) →
    AreFaulted 0 (scan_failed check (job (scan_lines past))) past →
    AreFaulted 0 (scan_failed check (job (cond here (l ∷ []) [] ++ scan_lines past)))
    (entry.Wire addr sent piece ∷ past)
poll_faulted check past addr sent piece true l is test fails before =
    let j = job (scan_lines past) in
    subst (λ x. AreFaulted 0 (scan_failed check (job (x ∷ scan_lines past))) (entry.Wire addr sent piece ∷ past))
    (sym is.2)
    (wire_faulted 0 addr past sent piece true (scan_failed check
    (with_line (scanned is.0 is.1 (after_echo sent piece)) j))
    (scan_failed check j) test (one_poll check is.0 is.1 (after_echo sent piece) j)
    (λ some here. fails (unheard_poll check is.0 is.1 (after_echo sent piece) j some))
    (λ away. absurd (true≢false away)) before)
poll_faulted check past addr sent piece false l is test fails before =
    let many = scan_failed check (job (scan_lines past)) in
    wire_faulted 0 addr past sent piece false many many test (omega arith) (λ some here. absurd (false≢true here))
    (λ away. omega arith) before

scan_faulted_at : (check : CheckKind) (past : List Entry) (e : Entry) → EchoFailsByFault past e →
    AreFaulted 0 (scan_failed check (job (scan_lines past))) past →
    AreFaulted 0 (scan_failed check (job (scan_lines (e ∷ past)))) (e ∷ past)
scan_faulted_at check past (entry.Taken (command.Halt addr)) fails before =
    line_faulted (scan_failed check) 0 past _ (addr == 0) (taken (command.Halt addr)) (scan_lines past)
    (scan_fewer check (command.Halt addr) (job (scan_lines past))) (λ more h. h) before
scan_faulted_at check past (entry.Taken c) fails before =
    begun_faulted (scan_failed check) 0 past c (address_of c == 0) (scan_lines past) refl refl before
scan_faulted_at check past (entry.Wire addr sent piece) fails before =
    poll_faulted check past addr sent piece (addr == 0) (scan_line sent piece) (scan_line_is sent piece)
    refl fails before
scan_faulted_at check past (entry.Ended addr end) fails before =
    line_faulted (scan_failed check) 0 past _ (addr == 0) (ended end) (scan_lines past) (omega arith) (λ more h. h)
    before
scan_faulted_at check past (entry.Crash records) fails before = tt
scan_faulted_at check past e fails before =
    over 0 (scan_failed check (job (scan_lines past))) past e (λ more h. h) before

-- where its third failed try ends it, three faults were set
three_faulted : (past : List Entry) (j : Job) → HasThreeTries j → AreFaulted 0 (scan_failed Simple j) past →
    AreFaulted 0 (scan_failed Crc j) past → AreFaulted 0 3 past
three_faulted past free three simple crc = absurd three
three_faulted past (works c since) (inl is) simple crc = subst (λ n. AreFaulted 0 n past) is simple
three_faulted past (works c since) (inr is) simple crc = subst (λ n. AreFaulted 0 n past) is crc

scan_ends_at : (past : List Entry) (e : Entry) → AllPast ScanTriesAt (scan_lines (e ∷ past)) →
    AreFaulted 0 (scan_failed Simple (job (scan_lines past))) past →
    AreFaulted 0 (scan_failed Crc (job (scan_lines past))) past → EndsByFaults 0 past e
scan_ends_at past (entry.Ended addr NoAnswer) tries simple crc =
    λ same. three_faulted past (job (scan_lines past))
    (third_there 0 addr NoAnswer ScanTriesAt (scan_lines past) same tries) simple crc
scan_ends_at past e tries simple crc = tt

record ScanEnds (past : List Entry) : Type 0 where
  simple : AreFaulted 0 (scan_failed Simple (job (scan_lines past))) past
  crc : AreFaulted 0 (scan_failed Crc (job (scan_lines past))) past
  each : EachEntry (EndsByFaults 0) past

all_scan_ends : (past : List Entry) → EachEntry EchoFailsByFault past → AllPast ScanTriesAt (scan_lines past) →
    ScanEnds past
all_scan_ends [] fails tries = record { simple = tt; crc = tt; each = tt }
all_scan_ends (e ∷ past) fails tries =
    let before = all_scan_ends past fails.1 (older_lines ScanTriesAt (scan_own e) (scan_lines past) tries) in
    record {
      simple = scan_faulted_at Simple past e fails.0 before.simple;
      crc = scan_faulted_at Crc past e fails.0 before.crc;
      each = (scan_ends_at past e tries before.simple before.crc, before.each);
    }

-- a scan that ends for want of an answer had a fault at each of its last three polls
pub legal_scan_ends : (capacity : ℕ) (setup : Setup) (steps : List Step) (transcript : List Entry) →
    IsSoundSetup setup → Legal capacity setup steps transcript → EachEntry (EndsByFaults 0) (onto [] transcript)
legal_scan_ends capacity setup steps transcript sound legal =
    (all_scan_ends (onto [] transcript) (legal_echoes capacity setup steps transcript legal)
    (legal_scans capacity setup steps transcript sound legal)).each
