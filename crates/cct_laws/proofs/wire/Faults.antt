-- An exchange without the wanted reply, or without the host's own echo, had a fault.
use Rattle.std.proofs.Common.{◌≡◌, ℕ, cond, false, Bool, List, [], ◌∷◌, ◌++◌, refl, ap, sym, ◌∙◌, subst, Option, Some, None, All, eq-eqb}
use Rattle.std.specs.Prelude.{⊤}
use Rattle.cct_model.specs.terms.device.DeviceSetup.{DeviceSetup}
use Rattle.cct_model.specs.terms.device.Setup.{Setup}
use Rattle.cct_model.specs.terms.request.Request.{Request}
use Rattle.cct_model.specs.lines.command.Command.{Command}
use Rattle.cct_model.specs.lines.command.Step.{Step}
use Rattle.cct_model.specs.lines.command.WireFault.TheVariants.{Clear}
use Rattle.cct_model.specs.lines.entry.Entry.{Entry}
use Rattle.cct_model.specs.lines.entry.Entry.TheVariants as entry
use Rattle.cct_model.specs.Device.{IsAcceptor}
use Rattle.cct_model.specs.Setup.{IsSoundSetup}
use Rattle.cct_model.specs.Exchange.{ask, asked, after_echo}
use Rattle.cct_model.specs.Line.{Line, exchange}
use Rattle.cct_model.specs.Order.{order}
use Rattle.cct_model.specs.Job.{job, sends, epoch, judged_in, noted_in}
use Rattle.cct_model.specs.Rows.{done, rows_of}
use Rattle.cct_model.specs.Legal.{Legal}
use Rattle.cct_model.specs.Script.{IsInRange}
use Rattle.cct_model.specs.Transcript.{pending, met, own, lines_of, heard_after, answers, doses_of, got_by, onto}
use Rattle.cct_laws.specs.Faults.{IsFaultSet, FailsByFault, may_be_refused, FailsByFaultBut, EchoFailsByFault}
use Rattle.cct_laws.specs.Ids.{Ids}
use Rattle.cct_laws.specs.DeviceJobs.{WorksAt}
use Rattle.cct_laws.specs.Law.{IsOf, EachEntry, IsAnswered}
use Rattle.cct_laws.proofs.jobs.AskedAndAnswered.{asked_at, undisturbed_at, undisturbed_accepting}
use Rattle.cct_laws.proofs.jobs.EachBrought.{IsBeside, step_so}
use Rattle.cct_laws.proofs.jobs.StepBrings.{AtDevice, came, took, halted, idled, made_exchange, made_put, row_after, wire_of, wire_end, record_end, Brought}
use Rattle.cct_model.proofs.Doses.{AreDoses}
use Rattle.cct_laws.proofs.wire.Exchanges.{heard_under, heard_is}
use Rattle.cct_laws.proofs.wire.Echoes.{echo_off}
use Rattle.cct_laws.proofs.steps.EachKeeps.{IsRanged, ranged_step, works_at}
use Rattle.cct_laws.proofs.jobs.EntriesOfStep.{each_brought, any_steps}
use Rattle.cct_laws.proofs.jobs.SeenAtOne.{each_aside, each_with_end, loose, Lost, bare, kept_here, kept_elsewhere, seen_here, seen_aside, seen_lost, seen_from, along}

none_some : {A : Type 0} {x : A} → None ≡ Some x → ⊥
none_some e = cc

-- the echo is good where no fault is set
clear_echo : (setup : Setup) (past : List Entry) (sent : List ℕ) →
    after_echo sent (heard_after setup past sent) ≡ None →
    IsFaultSet past
clear_echo setup past sent none = λ clear.
    none_some (sym none ∙ ap (after_echo sent) (heard_is setup past sent ∙ ap (λ f. heard_under setup past f sent)
    clear)
    ∙ echo_off sent (answers setup past sent))

echo_beside : (past : List Entry) (e : Entry) → IsBeside e → EchoFailsByFault past e
echo_beside past (entry.Wire addr sent piece) beside = absurd beside
echo_beside past e beside = tt

-- an exchange in which the host didn't hear its own echo had a fault
pub legal_echoes : (capacity : ℕ) (setup : Setup) (steps : List Step) (transcript : List Entry) →
    Legal capacity setup steps transcript → EachEntry EchoFailsByFault (onto [] transcript)
legal_echoes capacity setup steps transcript legal =
    each_brought capacity setup (λ s. ⊤) (EachEntry EchoFailsByFault)
    (λ past news s any told before.
    step_so capacity setup EchoFailsByFault echo_beside (λ older addr sent. clear_echo setup older sent) past news s
    (λ d e m ls own comes. ((loose d (met d past) s e m ls comes).no_exchange d past).1) tt told before)
    (λ past addr before. (tt, before))
    [] steps (onto [] transcript) (any_steps steps) legal tt

-- the exchanges of a device, but for those that ask what is excused: entries that are none of it
aside_fails : (excused : Option Request → Bool) (d : DeviceSetup) (past : List Entry) (e : Entry) →
    AreDoses (own d past e) → FailsByFaultBut excused d past e
aside_fails excused d past (entry.Wire addr sent piece) dosed =
    λ same. absurd (subst (λ here. AreDoses (cond here (exchange (asked d.kind sent) (got_by d sent piece) ∷ []) []
    ++ doses_of d past sent)) (eq-eqb addr d.addr same) dosed)
aside_fails excused d past e dosed = tt

-- and those that are no exchange
less_fails : (excused : Option Request → Bool) (d : DeviceSetup) (past : List Entry) (e : Entry) →
    FailsByFault d past e → FailsByFaultBut excused d past e
less_fails excused d past (entry.Wire addr sent piece) fails = λ same asks none. fails same none
less_fails excused d past e fails = tt

-- what a job asks is answered without a fault, unless it is excused
abbrev IsHeardBut : (Option Request → Bool) → Setup → DeviceSetup → Type 0
IsHeardBut excused setup d =
    (past : List Entry) (c : Command) (since : List Line) (q : Request) → WorksAt d (lines_of d past) c since →
    row_after d past c since ≡ sends q → pending past ≡ Clear → excused (Some q) ≡ false → IsAnswered setup d past q

fails_there : (excused : Option Request → Bool) (capacity : ℕ) (setup : Setup) (d : DeviceSetup)
    (past news : List Entry) (s : Step) → IsSoundSetup setup → IsOf setup d → IsHeardBut excused setup d →
    IsRanged d (job (lines_of d past)) → AtDevice capacity setup d past s news →
    EachEntry (FailsByFaultBut excused d) past → EachEntry (FailsByFaultBut excused d) (news ++ past)
fails_there excused capacity setup d past _ _ sound own heard ranged (came s e m ls comes) before =
    (less_fails excused d past e ((loose d (met d past) s e m ls comes).no_exchange d past).0, before)
fails_there excused capacity setup d past _ _ sound own heard ranged (took s c gives suited here is_free is_taken is_owed lets)
    before = (tt, before)
fails_there excused capacity setup d past _ _ sound own heard ranged (halted paying can) before = (tt, before)
fails_there excused capacity setup d past _ _ sound own heard ranged (idled is_free) before = (tt, before)
fails_there excused capacity setup d past _ _ sound own heard ranged (made_exchange c since q at_work is_row) before =
    let works = works_at d past c since at_work ranged in
    let asks : asked d.kind (ask d.kind d.addr q) ≡ Some q = asked_at setup past d c since q sound own works is_row in
    each_with_end (FailsByFaultBut excused d) past d.addr (wire_of setup d past q) (wire_end setup d past c since q)
    (λ same other none clear.
    none_some (sym none ∙ (heard past c since q works is_row clear (ap excused (sym asks) ∙ other)).2))
    (λ older end. tt) before
fails_there excused capacity setup d past _ _ sound own heard ranged (made_put c since r at_work is_row) before =
    each_with_end (FailsByFaultBut excused d) past d.addr (entry.Put r) (record_end d past c since r) tt
    (λ older end. tt) before

fails_lost : (excused : Option Request → Bool) (d : DeviceSetup) (past news : List Entry) → Lost d past news →
    EachEntry (FailsByFaultBut excused d) past → EachEntry (FailsByFaultBut excused d) (news ++ past)
fails_lost excused d past _ bare before = (tt, before)
fails_lost excused d past _ (kept_here c since r at_work is_row owned) before = (tt, (tt, before))
fails_lost excused d past _ (kept_elsewhere r away caused) before = (tt, (tt, before))

record Fails (excused : Option Request → Bool) (d : DeviceSetup) (past : List Entry) : Type 0 where
  ranged : IsRanged d (job (lines_of d past))
  each : EachEntry (FailsByFaultBut excused d) past

fails_step : (excused : Option Request → Bool) (capacity : ℕ) (setup : Setup) (d : DeviceSetup) →
    IsSoundSetup setup → IsOf setup d → IsHeardBut excused setup d → (past news : List Entry) (s : Step) → IsInRange s →
    Ids setup past → Brought capacity setup past s news → Fails excused d past → Fails excused d (news ++ past)
fails_step excused capacity setup d sound own heard past news s range ids told before = record {
  ranged = ranged_step capacity setup d past news s sound own range ids told before.ranged;
  each =
      elim (seen_from capacity setup d past news s sound own ids told) [
        | seen_here at ↦ fails_there excused capacity setup d past news s sound own heard before.ranged at before.each
        | seen_aside aside ↦ each_aside (FailsByFaultBut excused d) d past news
            (λ older e passes. aside_fails excused d older e passes.dosed) aside.passes before.each
        | seen_lost lost no_next ↦ fails_lost excused d past news lost before.each
      ];
}

fails_but : (excused : Option Request → Bool) (capacity : ℕ) (setup : Setup) (steps : List Step)
    (transcript : List Entry) (d : DeviceSetup) → IsSoundSetup setup → IsOf setup d → IsHeardBut excused setup d →
    All IsInRange steps → Legal capacity setup steps transcript →
    EachEntry (FailsByFaultBut excused d) (onto [] transcript)
fails_but excused capacity setup steps transcript d sound own heard in_range legal =
    (along capacity setup IsInRange (Fails excused d) sound (fails_step excused capacity setup d sound own heard)
    (λ past addr fails. record { ranged = fails.ranged; each = (tt, fails.each) }) steps (onto [] transcript) in_range
    legal (record { ranged = tt; each = tt })).each

-- one of a coin acceptor without the wanted reply had a fault
nothing_excused : (d : DeviceSetup) (past : List Entry) (e : Entry) → FailsByFaultBut (λ asks. false) d past e →
    FailsByFault d past e
nothing_excused d past (entry.Wire addr sent piece) fails = λ same none. fails same refl none
nothing_excused d past e fails = tt

each_unexcused : (d : DeviceSetup) (past : List Entry) → EachEntry (FailsByFaultBut (λ asks. false) d) past →
    EachEntry (FailsByFault d) past
each_unexcused d [] fails = tt
each_unexcused d (e ∷ past) fails = (nothing_excused d past e fails.0, each_unexcused d past fails.1)

pub legal_fails : (capacity : ℕ) (setup : Setup) (steps : List Step) (transcript : List Entry)
    (d : DeviceSetup) → IsSoundSetup setup → IsOf setup d → IsAcceptor d.body → All IsInRange steps →
    Legal capacity setup steps transcript → EachEntry (FailsByFault d) (onto [] transcript)
legal_fails capacity setup steps transcript d sound own accepting in_range legal =
    each_unexcused d (onto [] transcript)
    (fails_but (λ asks. false) capacity setup steps transcript d sound own
    (λ past c since q works is_row clear other. undisturbed_accepting setup past d c (done (rows_of d c) since)
    (judged_in c since (epoch (lines_of d past))) (noted_in since (order (lines_of d past))) q sound own accepting
    works.suited works.in_range clear is_row)
    in_range legal)

-- and one of a device of any kind, but for what it may refuse
pub legal_fails_but : (capacity : ℕ) (setup : Setup) (steps : List Step) (transcript : List Entry)
    (d : DeviceSetup) → IsSoundSetup setup → IsOf setup d → All IsInRange steps →
    Legal capacity setup steps transcript → EachEntry (FailsByFaultBut may_be_refused d) (onto [] transcript)
legal_fails_but capacity setup steps transcript d sound own in_range legal =
    fails_but may_be_refused capacity setup steps transcript d sound own
    (λ past c since q works is_row clear other.
    undisturbed_at setup past d c since q sound own works is_row clear other)
    in_range legal
