-- What a run keeps from line to line, and what it leaves where it stops.
use Rattle.std.proofs.Common.{◌≡◌, ℕ, ◌+◌, List, [], ◌∷◌, ◌++◌, reverse, Option, None, Some, Result, refl, inr, ap}
use Rattle.std.proofs.Common.{sym, ◌∙◌, subst, append_assoc, arith}
use Rattle.std.specs.List.{slice_split, position}
use Rattle.std.specs.Io.KnownBytes.{Consumes}
use Rattle.std.proofs.lemmas.List.{append-nil}
use Rattle.cct_edge.specs.Bytes.{Serves}
use Rattle.cct_edge.specs.declared.fault.Failed.{Failed}
use Rattle.cct_edge.proofs.Chains.{Consumes-nil, Consumes-trans}
use Rattle.cct_model.specs.terms.device.Setup.{Setup}
use Rattle.cct_model.specs.lines.command.Step.{Step}
use Rattle.cct_model.specs.lines.entry.Entry.{Entry}
use Rattle.cct_model.specs.lines.entry.LineKind.{LineKind}
use Rattle.cct_model.specs.AtDesk.{EntriesAtDesk, LeavesDesk}
use Rattle.cct_model.specs.Change.{Desk, clear_desk, desk_after}
use Rattle.cct_model.specs.Script.{is_line_feed, Stage, at_setup, at_steps, at_end, no_devices, setup_at, opens, plays}
use Rattle.cct_model.specs.Script.{Script, script, closed_script, unfinished}
use Rattle.cct_model.specs.Setup.{IsSoundSetup}
use Rattle.cct_model.specs.Transcript.{onto}
use Rattle.cct_laws.proofs.steps.AtTheDesk.{leaves_more}
use Rattle.cct_laws.proofs.steps.OneMore.{transcript_on}
use Rattle.cct_laws.proofs.text.Scripts.{setup_sound, front_legal, front_of_today}
use Rattle.cct_script.specs.Giving.{Standing}
use Rattle.cct_world.specs.Early.{LegalBeforeLoss}
use Rattle.cct_world.specs.Machine.{StepSuits}
use Rattle.cct_world.specs.Step.{crashes, crashes_of}
use Rattle.cct_host.specs.declared.refusal.CrashNo.{CrashNo}
use Rattle.cct_world.proofs.Early.{early_more, early_none}
use Rattle.cct_world.proofs.Suiting.{legal_suits}
use Rattle.cct_script.specs.declared.stops.ScriptStop.{ScriptStop}
use Rattle.cct_script.specs.declared.stops.ScriptStop.TheVariants as stop
use Rattle.cct_bench.specs.declared.ending.Ending.TheVariants as ending
use Rattle.cct_script.specs.Scripts.{IsNext, WithMoreTaken}
use Rattle.cct_bench.specs.Lines.{said_from, ScriptGoesOn, IsClosed, StopsAt, EndsAt}
use Rattle.cct_bench.specs.Disks.{Always, most_records}
use Rattle.cct_bench.specs.Going.{AlsoSays, Going, IsUnbegun}
use Rattle.cct_bench.specs.SetupLines.{TookOpening}
use Rattle.cct_script.specs.Source.{OfBytes, to_come}
use Rattle.cct_text.specs.Writing.{IsNothing}
use Rattle.cct_bench.specs.declared.ending.Ending.{Ending}
use Rattle.cct_bench.specs.Run.{BeforeSteps, IsOfScript, IsUnopened, Played, Stops, ending_at}
use Rattle.cct_script.proofs.Continuing.{ended}
use Rattle.cct_script.proofs.Sources.{told_by}
use Rattle.cct_bench.proofs.Scripts.{by_run}
use Rattle.cct_bench.proofs.Staying.{IsDone, setup_stays}

pub going_begin : (left : Option (List ℕ)) → Going Always clear_desk left left [] 1 (at_setup no_devices) IsUnbegun IsNothing
unfolding script
going_begin left = record {
  taken = [];
  played = [];
  transcript = [];
  consumed = Consumes-nil left;
  says = λ more. record { setup = refl; steps = refl; refused = refl };
  legal = λ relies more. (refl, refl);
  early = λ more. early_none most_records (script more).setup;
  holds = (refl, refl);
  wrote = refl;
}

-- what holds of the past takes the place of something else that does, and it is relied on no more than before; and so does
-- the desk, where it is the same at a machine of the setup
pub going_holds : (Relies Relies1 : List Entry → Type 0) (now next : Setup → Desk) (left0 left : Option (List ℕ))
    (held : List ℕ) (number : ℕ) (setup : Setup) (Before After : List Step → List Entry → Type 0)
    (Written : List Entry → Type 0) → now setup ≡ next setup → ((past : List Entry) → Relies1 past → Relies past)
    → ((played : List Step) (past : List Entry) → Before played past → After played past)
    → Going Relies now left0 left held number (at_steps setup) Before Written
    → Going Relies1 next left0 left held number (at_steps setup) After Written
going_holds Relies Relies1 now next left0 left held number setup Before After Written same less goes g = record {
  taken = g.taken;
  played = g.played;
  transcript = g.transcript;
  consumed = g.consumed;
  says = g.says;
  legal = λ relies more. subst
      (LeavesDesk most_records (script (g.taken ++ more)).setup g.played g.transcript) (same_desk more)
      (g.legal (less (onto [] g.transcript) relies) more);
  early = λ more. subst (LegalBeforeLoss most_records (script (g.taken ++ more)).setup g.played g.transcript)
      (same_desk more) (g.early more);
  holds = goes g.played (onto [] g.transcript) g.holds;
  wrote = g.wrote;
}
  where
    same_desk : (more : List ℕ) → now (script (g.taken ++ more)).setup ≡ next (script (g.taken ++ more)).setup
    same_desk more =
        let is : (script (g.taken ++ more)).setup ≡ setup =
        (g.says more).setup
        ∙ setup_stays number setup (at_steps setup) (slice_split is_line_feed (held ++ more)) refl in
        ap now is ∙ same ∙ sym (ap next is)

-- so does another way to say what was written
pub going_by : (Relies : List Entry → Type 0) (now : Setup → Desk) (left0 left : Option (List ℕ)) (held : List ℕ) (number : ℕ)
    (stage : Stage) (Stands : List Step → List Entry → Type 0) (Written Written1 : List Entry → Type 0) →
    ((xs : List Entry) → Written xs → Written1 xs) → Going Relies now left0 left held number stage Stands Written
    → Going Relies now left0 left held number stage Stands Written1
going_by Relies now left0 left held number stage Stands Written Written1 goes g = record {
  taken = g.taken;
  played = g.played;
  transcript = g.transcript;
  consumed = g.consumed;
  says = g.says;
  legal = g.legal;
  early = g.early;
  holds = g.holds;
  wrote = goes g.transcript g.wrote;
}

-- more bytes came, and the line that they make goes on as this
also_goes : (taken came held more : List ℕ) (number : ℕ) (stage : Stage) (played : List Step) (next : Script) →
    AlsoSays (script (taken ++ (came ++ more))) played (said_from number stage (held ++ (came ++ more))) →
    said_from number stage ((held ++ came) ++ more) ≡ next → AlsoSays (script ((taken ++ came) ++ more)) played next
also_goes taken came held more number stage played next h e =
    subst (λ bytes. AlsoSays (script bytes) played next) (sym (append_assoc taken came more))
    (
    subst (AlsoSays (script (taken ++ (came ++ more))) played)
    (ap (said_from number stage) (sym (append_assoc held came more)) ∙ e)
    h
    )

-- what is so of the setup of a script is so where more bytes came
so_came : (P : Setup → Type 0) (taken came more : List ℕ) → P (script (taken ++ (came ++ more))).setup
    → P (script ((taken ++ came) ++ more)).setup
so_came P taken came more h = subst (λ bytes. P (script bytes).setup) (sym (append_assoc taken came more)) h

legal_came : (now : Setup → Desk) (taken came more : List ℕ) (played : List Step) (transcript : List Entry) →
    LeavesDesk most_records (script (taken ++ (came ++ more))).setup played transcript
    (now (script (taken ++ (came ++ more))).setup) →
    LeavesDesk most_records (script ((taken ++ came) ++ more)).setup played transcript
    (now (script ((taken ++ came) ++ more)).setup)
legal_came now taken came more played transcript h =
    so_came (λ setup. LeavesDesk most_records setup played transcript (now setup)) taken came more h

early_came : (now : Setup → Desk) (taken came more : List ℕ) (played : List Step) (transcript : List Entry) →
    LegalBeforeLoss most_records (script (taken ++ (came ++ more))).setup played transcript
    (now (script (taken ++ (came ++ more))).setup) →
    LegalBeforeLoss most_records (script ((taken ++ came) ++ more)).setup played transcript
    (now (script ((taken ++ came) ++ more)).setup)
early_came now taken came more played transcript h =
    so_came (λ setup. LegalBeforeLoss most_records setup played transcript (now setup)) taken came more h

pub going_opens : (Relies : List Entry → Type 0) (now : Setup → Desk) (left0 left left1 : Option (List ℕ)) (held rest : List ℕ)
    (number : ℕ) (stage next : Stage) (Stands : List Step → List Entry → Type 0) (Written : List Entry → Type 0) →
    Going Relies now left0 left held number stage Stands Written
    → WithMoreTaken held left left1 (λ bytes. ScriptGoesOn number stage bytes (opens next) rest) →
    Going Relies now left0 left1 rest (number + 1) next Stands Written
going_opens Relies now left0 left left1 held rest number stage next Stands Written g r = record {
  taken = g.taken ++ r.0;
  played = g.played;
  transcript = g.transcript;
  consumed = Consumes-trans left0 left left1 g.taken r.0 g.consumed r.1;
  says = λ more. also_goes g.taken r.0 held more number stage g.played _ (g.says (r.0 ++ more)) (r.2 more);
  legal = λ relies more. legal_came now g.taken r.0 more g.played g.transcript (g.legal relies (r.0 ++ more));
  early = λ more. early_came now g.taken r.0 more g.played g.transcript (g.early (r.0 ++ more));
  holds = g.holds;
  wrote = g.wrote;
}

also_plays : (whole rest : Script) (played : List Step) (s : Step)
    → AlsoSays whole played (record { setup = rest.setup; steps = s ∷ rest.steps; refused = rest.refused })
    → AlsoSays whole (played ++ s ∷ []) rest
also_plays whole rest played s h =
    record { setup = h.setup; steps = h.steps ∙ sym (append_assoc played (s ∷ []) rest.steps); refused = h.refused }

-- a step that was read is one that the script says next
step_says : (taken came held more rest : List ℕ) (number : ℕ) (stage next : Stage) (played : List Step) (s : Step) →
    AlsoSays (script (taken ++ (came ++ more))) played (said_from number stage (held ++ (came ++ more))) →
    ScriptGoesOn number stage (held ++ came) (plays s next) rest
    → AlsoSays (script ((taken ++ came) ++ more)) (played ++ s ∷ []) (said_from (number + 1) next (rest ++ more))
step_says taken came held more rest number stage next played s h r =
    also_plays _ (said_from (number + 1) next (rest ++ more)) played s
    (also_goes taken came held more number stage played _ h (r more))

-- the script has the setup of its steps
step_setup : (taken came held more rest : List ℕ) (number : ℕ) (stage next : Stage) (setup : Setup) (played : List Step)
    (s : Step) → AlsoSays (script (taken ++ (came ++ more))) played (said_from number stage (held ++ (came ++ more)))
    → ScriptGoesOn number stage (held ++ came) (plays s next) rest → IsDone setup next
    → setup ≡ (script ((taken ++ came) ++ more)).setup
step_setup taken came held more rest number stage next setup played s h r done =
    sym ((step_says taken came held more rest number stage next played s h r).setup
    ∙ setup_stays (number + 1) setup next (slice_split is_line_feed (rest ++ more)) done)

-- it goes on by legal entries, at the operator's desk
step_legal : (now : Desk) (taken came held more rest : List ℕ) (number : ℕ) (stage next : Stage) (setup : Setup)
    (played : List Step) (transcript report : List Entry) (s : Step) →
    AlsoSays (script (taken ++ (came ++ more))) played (said_from number stage (held ++ (came ++ more)))
    → ScriptGoesOn number stage (held ++ came) (plays s next) rest → IsDone setup next →
    LeavesDesk most_records (script (taken ++ (came ++ more))).setup played transcript now
    → EntriesAtDesk most_records setup (onto [] transcript) now s (reverse report) →
    LeavesDesk most_records (script ((taken ++ came) ++ more)).setup (played ++ s ∷ []) (transcript ++ report)
    (desk_after s (reverse report) now)
step_legal now taken came held more rest number stage next setup played transcript report s h r done legal entries =
    let same = step_setup taken came held more rest number stage next setup played s h r done in
    leaves_more most_records (script ((taken ++ came) ++ more)).setup played transcript report now s
    (legal_came (λ any. now) taken came more played transcript legal)
    (subst (λ by. EntriesAtDesk most_records by (onto [] transcript) now s (reverse report)) same entries)

-- a past that shows no power cut may be relied on
abbrev pub Trusts : (List Entry → Type 0) → Type 0
Trusts Relies = (past : List Entry) → crashes past ≡ 0 → Relies past

-- what may be relied on after some entries may be before them
abbrev pub GoesBack : (List Entry → Type 0) → Type 0
GoesBack Relies = (news past : List Entry) → Relies (news ++ past) → Relies past

-- A step goes on from what holds of any past to what holds after its entries, oldest first: they are those of the step
-- where the past with them may be relied on, and what the step takes for granted is so where it could be before. From the
-- one desk it goes on to the other.
pub record Carries (Relies : List Entry → Type 0) (now next : Desk) (Before After : List Step → List Entry → Type 0)
    (setup : Setup) (s : Step) (WritesThem : List Entry → Type 0) : Type 0 where
  pub report : List Entry
  pub goes : (played : List Step) (past : List Entry) → Before played past → (Relies past → StepSuits setup past s)
      → (Relies (reverse report ++ past) → EntriesAtDesk most_records setup past now s (reverse report))
      × After (played ++ s ∷ []) (reverse report ++ past)
  pub desk : next ≡ desk_after s (reverse report) now
  pub told : crashes (reverse report) ≡ crashes_of s
  pub wrote : WritesThem report

-- what a step takes for granted of the past is so after what was played before it
pub going_suits : (Relies : List Entry → Type 0) (now : Setup → Desk) (left0 left left1 : Option (List ℕ)) (held rest : List ℕ)
    (number : ℕ) (stage next : Stage) (setup : Setup) (Before : List Step → List Entry → Type 0) (Written : List Entry → Type 0) (s : Step)
    → IsDone setup next → (g : Going Relies now left0 left held number stage Before Written)
    → WithMoreTaken held left left1 (λ bytes. ScriptGoesOn number stage bytes (plays s next) rest)
    → Relies (onto [] g.transcript) → StepSuits setup (onto [] g.transcript) s
going_suits Relies now left0 left left1 held rest number stage next setup Before Written s done g r relies =
    let bytes = (g.taken ++ r.0) ++ [] in
    let says = step_says g.taken r.0 held [] rest number stage next g.played s (g.says (r.0 ++ [])) r.2 in
    let same : (script bytes).setup ≡ setup =
    says.setup ∙ setup_stays (number + 1) setup next (slice_split is_line_feed (rest ++ [])) done in
    let steps = (said_from (number + 1) next (rest ++ [])).steps in
    let fronts : (script bytes).steps ≡ g.played ++ (s ∷ steps) =
    says.steps ∙ append_assoc g.played (s ∷ []) steps in
    subst (λ by. StepSuits by (onto [] g.transcript) s) same
    (legal_suits most_records (script bytes).setup g.played g.transcript s (setup_sound bytes)
    (front_of_today bytes g.played (s ∷ steps) fronts).in_range
    (front_legal most_records bytes g.played (s ∷ steps) g.transcript fronts
    (now (script bytes).setup, legal_came now g.taken r.0 [] g.played g.transcript (g.legal relies (r.0 ++ [])))))

pub going_plays : (Relies : List Entry → Type 0) (now later : Desk) (left0 left left1 : Option (List ℕ)) (held rest : List ℕ)
    (number : ℕ) (stage next : Stage) (setup : Setup) (Before After : List Step → List Entry → Type 0) (s : Step)
    (Written WritesThem Written1 : List Entry → Type 0) → GoesBack Relies → Trusts Relies → IsDone setup next
    → ((xs ys : List Entry) → Written xs → WritesThem ys → Written1 (xs ++ ys))
    → Going Relies (λ any. now) left0 left held number stage Before Written
    → WithMoreTaken held left left1 (λ bytes. ScriptGoesOn number stage bytes (plays s next) rest)
    → Carries Relies now later Before After setup s WritesThem
    → Going Relies (λ any. later) left0 left1 rest (number + 1) next After Written1
going_plays Relies now later left0 left left1 held rest number stage next setup Before After s Written WritesThem Written1 back
    trusts done more g r p =
    let past = onto [] g.transcript in
    let on = transcript_on g.transcript p.report in
    let goes = p.goes g.played past g.holds
    (going_suits Relies (λ any. now) left0 left left1 held rest number stage next setup Before Written s done g r) in
    record {
      taken = g.taken ++ r.0;
      played = g.played ++ s ∷ [];
      transcript = g.transcript ++ p.report;
      consumed = Consumes-trans left0 left left1 g.taken r.0 g.consumed r.1;
      says = λ more. step_says g.taken r.0 held more rest number stage next g.played s (g.says (r.0 ++ more)) r.2;
      legal = λ relies more. let here = subst Relies on relies in
          subst (LeavesDesk most_records (script ((g.taken ++ r.0) ++ more)).setup (g.played ++ s ∷ [])
          (g.transcript ++ p.report)) (sym p.desk)
          (step_legal now g.taken r.0 held more rest number stage next setup g.played g.transcript p.report s
          (g.says (r.0 ++ more)) r.2 done (g.legal (back (reverse p.report) past here) (r.0 ++ more)) (goes.0 here));
      early = λ more. let same = step_setup g.taken r.0 held more rest number stage next setup g.played s
          (g.says (r.0 ++ more)) r.2 done in
          subst (LegalBeforeLoss most_records (script ((g.taken ++ r.0) ++ more)).setup (g.played ++ s ∷ [])
          (g.transcript ++ p.report)) (sym p.desk)
          (early_more Relies most_records (script ((g.taken ++ r.0) ++ more)).setup g.played g.transcript p.report now s
          trusts p.told
          (λ relies. subst (λ by. EntriesAtDesk most_records by past now s (reverse p.report)) same (goes.0 relies))
          (early_came (λ any. now) g.taken r.0 more g.played g.transcript (g.early (r.0 ++ more))));
      holds = subst (After (g.played ++ s ∷ [])) (sym on) goes.1;
      wrote = more g.transcript p.report g.wrote p.wrote;
    }

-- once its steps begin, a script has the setup of its stage
abbrev pub IsSetupIn : Stage → Setup → Type 0
IsSetupIn (at_setup before) setup = Unit {0}
IsSetupIn (at_steps before) setup = setup ≡ before
IsSetupIn (at_end before) setup = setup ≡ before

closed_in : (stage : Stage) (setup : Setup) → setup ≡ setup_at stage → IsSetupIn stage setup
closed_in (at_setup before) setup is = tt
closed_in (at_steps before) setup is = is
closed_in (at_end before) setup is = is

said_in : (number : ℕ) (stage : Stage) (bytes : List ℕ) (setup : Setup) → setup ≡ (said_from number stage bytes).setup
    → IsSetupIn stage setup
said_in number (at_setup before) bytes setup is = tt
said_in number (at_steps before) bytes setup is =
    is ∙ setup_stays number before (at_steps before) (slice_split is_line_feed bytes) refl
said_in number (at_end before) bytes setup is =
    is ∙ setup_stays number before (at_end before) (slice_split is_line_feed bytes) refl

-- what is said beside of an end that the script or its source brought at a stage, where this represents the past
abbrev pub EndsBeside : Stage → (List Step → List Entry → Type 0)
    → (Ending → Setup → List ℕ → List Step → List Step → List Entry → Type 0) → Type 0
EndsBeside stage Stands Beside =
    (how : Ending) (setup : Setup) (taken : List ℕ) (played unplayed : List Step) (past : List Entry) → IsOfScript how
    → IsSetupIn stage setup → Stands played past → Beside how setup taken played unplayed past

-- the script says no more
played_closed : (Relies : List Entry → Type 0) (now : Setup → Desk) (left0 left left1 : Option (List ℕ)) (held : List ℕ) (number : ℕ)
    (why : Option LineKind) (how : Ending) (stage : Stage) (Stands : List Step → List Entry → Type 0)
    (Written : List Entry → Type 0) (Breaks : List Entry → List Entry → Type 0)
    (Beside : Ending → Setup → List ℕ → List Step → List Step → List Entry → Type 0) → IsOfScript how
    → EndsBeside stage Stands Beside → (g : Going Relies now left0 left held number stage Stands Written)
    → ((bytes taken : List ℕ) → (script bytes).refused ≡ (closed_script number (setup_at stage) why).refused
    → Stops Relies how bytes taken g.played [] g.transcript Written Breaks)
    → WithMoreTaken held left left1 (IsClosed number stage why left1)
    → OfBytes left0 (λ bytes. Played Relies bytes how left1 Written Breaks Beside)
played_closed Relies now left0 left left1 held number why how stage Stands Written Breaks Beside is beside g stops r =
    let more = to_come left1 in
    let bytes = (g.taken ++ r.0) ++ more in
    let says = also_goes g.taken r.0 held more number stage g.played _ (g.says (r.0 ++ more)) r.2 in (
      bytes,
      told_by left0 left1 (g.taken ++ r.0) (Consumes-trans left0 left left1 g.taken r.0 g.consumed r.1),
      record {
        taken = g.taken ++ r.0;
        played = g.played;
        unplayed = [];
        transcript = g.transcript;
        took = refl;
        steps_are = says.steps;
        legal = λ relies. (
          now (script bytes).setup,
          legal_came now g.taken r.0 more g.played g.transcript (g.legal relies (r.0 ++ more)),
        );
        early = (
          now (script bytes).setup,
          early_came now g.taken r.0 more g.played g.transcript (g.early (r.0 ++ more)),
        );
        stops = stops bytes (g.taken ++ r.0) says.refused;
        beside = beside how (script bytes).setup (g.taken ++ r.0) g.played [] (onto [] g.transcript) is
            (closed_in stage (script bytes).setup says.setup) g.holds;
      },
    )

played_done : (Relies : List Entry → Type 0) (now : Setup → Desk) (left0 left left1 : Option (List ℕ)) (held : List ℕ) (number : ℕ)
    (setup : Setup) (Stands : List Step → List Entry → Type 0) (Written : List Entry → Type 0) (Breaks : List Entry → List Entry → Type 0)
    (Beside : Ending → Setup → List ℕ → List Step → List Step → List Entry → Type 0)
    → EndsBeside (at_end setup) Stands Beside → Going Relies now left0 left held number (at_end setup) Stands Written
    → WithMoreTaken held left left1 (IsClosed number (at_end setup) None left1)
    → OfBytes left0 (λ bytes. Played Relies bytes ending.Done left1 Written Breaks Beside)
played_done Relies now left0 left left1 held number setup Stands Written Breaks Beside beside g r =
    played_closed Relies now left0 left left1 held number None ending.Done (at_end setup) Stands Written Breaks Beside tt
    beside g (λ bytes taken refused. (refl, refused, g.wrote)) r

played_refused : (Relies : List Entry → Type 0) (now : Setup → Desk) (left0 left left1 : Option (List ℕ)) (held : List ℕ) (number : ℕ)
    (why : LineKind) (stage : Stage) (Stands : List Step → List Entry → Type 0) (Written : List Entry → Type 0) (Breaks : List Entry → List Entry → Type 0)
    (Beside : Ending → Setup → List ℕ → List Step → List Step → List Entry → Type 0)
    → EndsBeside stage Stands Beside → Going Relies now left0 left held number stage Stands Written
    → WithMoreTaken held left left1 (IsClosed number stage (Some why) left1)
    → OfBytes left0 (λ bytes. Played Relies bytes (ending.Refused number why) left1 Written Breaks Beside)
played_refused Relies now left0 left left1 held number why stage Stands Written Breaks Beside beside g r =
    played_closed Relies now left0 left left1 held number (Some why) (ending.Refused number why) stage Stands Written Breaks
    Beside tt beside g (λ bytes taken refused. (refl, refused, g.wrote)) r

-- a line without its end plays no step
unread_steps : (taken came held : List ℕ) (number : ℕ) (stage : Stage) (played : List Step) →
    AlsoSays (script (taken ++ (came ++ []))) played (said_from number stage (held ++ (came ++ []))) →
    position is_line_feed (held ++ came) ≡ None → (script (taken ++ came)).steps ≡ played
unread_steps taken came held number stage played h none =
    let next = closed_script number (setup_at stage) (unfinished number stage (held ++ came)) in
    let e : said_from number stage ((held ++ came) ++ []) ≡ next =
    ap (said_from number stage) (append-nil (held ++ came)) ∙ ended by_run number stage (held ++ came) none in
    let says = also_goes taken came held [] number stage played next h e in
    ap (λ bytes. (script bytes).steps) (sym (append-nil (taken ++ came))) ∙ (says.steps ∙ append-nil played)

played_unread : (Relies : List Entry → Type 0) (now : Setup → Desk) (left0 left left1 : Option (List ℕ)) (held : List ℕ) (number : ℕ)
    (stage : Stage) (Stands : List Step → List Entry → Type 0) (Written : List Entry → Type 0) (Breaks : List Entry → List Entry → Type 0)
    (Beside : Ending → Setup → List ℕ → List Step → List Step → List Entry → Type 0)
    → EndsBeside stage Stands Beside → Going Relies now left0 left held number stage Stands Written
    → WithMoreTaken held left left1 (λ bytes. position is_line_feed bytes ≡ None)
    → OfBytes left0 (λ bytes. Played Relies bytes ending.Unread left1 Written Breaks Beside)
played_unread Relies now left0 left left1 held number stage Stands Written Breaks Beside beside g r =
    let more = to_come left1 in
    let bytes = (g.taken ++ r.0) ++ more in
    let after = said_from number stage ((held ++ r.0) ++ more) in
    let says = also_goes g.taken r.0 held more number stage g.played after (g.says (r.0 ++ more)) refl in (
      bytes,
      told_by left0 left1 (g.taken ++ r.0) (Consumes-trans left0 left left1 g.taken r.0 g.consumed r.1),
      record {
        taken = g.taken ++ r.0;
        played = g.played;
        unplayed = after.steps;
        transcript = g.transcript;
        took = refl;
        steps_are = says.steps;
        legal = λ relies. (
          now (script bytes).setup,
          legal_came now g.taken r.0 more g.played g.transcript (g.legal relies (r.0 ++ more)),
        );
        early = (
          now (script bytes).setup,
          early_came now g.taken r.0 more g.played g.transcript (g.early (r.0 ++ more)),
        );
        stops = (unread_steps g.taken r.0 held number stage g.played (g.says (r.0 ++ [])) r.2, g.wrote);
        beside = beside ending.Unread (script bytes).setup (g.taken ++ r.0) g.played after.steps
            (onto [] g.transcript) tt
            (said_in number stage ((held ++ r.0) ++ more) (script bytes).setup says.setup) g.holds;
      },
    )

-- a script that is read no further
stopped : (Relies : List Entry → Type 0) (now : Setup → Desk) (left0 left left1 : Option (List ℕ)) (held : List ℕ) (number : ℕ)
    (stage : Stage) (why : ScriptStop) (Stands : List Step → List Entry → Type 0) (Written : List Entry → Type 0)
    (Breaks : List Entry → List Entry → Type 0)
    (Beside : Ending → Setup → List ℕ → List Step → List Step → List Entry → Type 0)
    → EndsBeside stage Stands Beside → Going Relies now left0 left held number stage Stands Written
    → WithMoreTaken held left left1 (StopsAt number stage why left1)
    → OfBytes left0 (λ bytes. Played Relies bytes (ending_at number why) left1 Written Breaks Beside)
stopped Relies now left0 left left1 held number stage stop.Unread Stands Written Breaks Beside beside g r =
    played_unread Relies now left0 left left1 held number stage Stands Written Breaks Beside beside g r
stopped Relies now left0 left left1 held number stage (stop.Refused why) Stands Written Breaks Beside beside g r =
    played_refused Relies now left0 left left1 held number why stage Stands Written Breaks Beside beside g r

pub played_stopped : (Relies : List Entry → Type 0) (now : Setup → Desk) (left0 left left1 : Option (List ℕ)) (held : List ℕ) (number : ℕ)
    (stage : Stage) (why : ScriptStop) (how : Ending) (Stands : List Step → List Entry → Type 0) (Written : List Entry → Type 0)
    (Breaks : List Entry → List Entry → Type 0)
    (Beside : Ending → Setup → List ℕ → List Step → List Step → List Entry → Type 0) → how ≡ ending_at number why
    → EndsBeside stage Stands Beside → Going Relies now left0 left held number stage Stands Written
    → WithMoreTaken held left left1 (StopsAt number stage why left1)
    → OfBytes left0 (λ bytes. Played Relies bytes how left1 Written Breaks Beside)
played_stopped Relies now left0 left left1 held number stage why how Stands Written Breaks Beside is beside g r =
    subst (λ how. OfBytes left0 (λ bytes. Played Relies bytes how left1 Written Breaks Beside)) (sym is)
    (stopped Relies now left0 left left1 held number stage why Stands Written Breaks Beside beside g r)

-- a script that ended
pub played_ended : (Relies : List Entry → Type 0) (now : Setup → Desk) (left0 left left1 : Option (List ℕ)) (held : List ℕ) (number : ℕ)
    (setup : Setup) (how : Ending) (Stands : List Step → List Entry → Type 0) (Written : List Entry → Type 0) (Breaks : List Entry → List Entry → Type 0)
    (Beside : Ending → Setup → List ℕ → List Step → List Step → List Entry → Type 0)
    → EndsBeside (at_end setup) Stands Beside → Going Relies now left0 left held number (at_end setup) Stands Written
    → WithMoreTaken held left left1 (EndsAt number setup how left1)
    → OfBytes left0 (λ bytes. Played Relies bytes how left1 Written Breaks Beside)
played_ended Relies now left0 left left1 held number setup ending.Done Stands Written Breaks Beside beside g r =
    played_done Relies now left0 left left1 held number setup Stands Written Breaks Beside beside g r
played_ended Relies now left0 left left1 held number setup (ending.Refused line why) Stands Written Breaks Beside beside g
    r =
    subst (λ n. OfBytes left0 (λ bytes. Played Relies bytes (ending.Refused n why) left1 Written Breaks Beside))
    (sym r.2.0)
    (played_refused Relies now left0 left left1 held number why (at_end setup) Stands Written Breaks Beside beside g
    (r.0, r.1, r.2.1))
played_ended Relies now left0 left left1 held number setup ending.Unread Stands Written Breaks Beside beside g r =
    played_unread Relies now left0 left left1 held number (at_end setup) Stands Written Breaks Beside beside g r
played_ended Relies now left0 left left1 held number setup how Stands Written Breaks Beside beside g r = absurd r.2

-- the sink failed within the entries of a step
pub played_broke : (Relies : List Entry → Type 0) (now later : Desk) (left0 left left1 : Option (List ℕ)) (held rest : List ℕ)
    (number : ℕ) (stage next : Stage) (setup : Setup) (Before After : List Step → List Entry → Type 0) (s : Step)
    (Written WritesThem Written1 : List Entry → Type 0) (Breaks : List Entry → List Entry → Type 0)
    (Beside : Ending → Setup → List ℕ → List Step → List Step → List Entry → Type 0) → GoesBack Relies →
    Trusts Relies → ((taken : List ℕ) (played unplayed : List Step) (past : List Entry) → After played past
    → Beside ending.Unwritten setup taken played unplayed past) →
    IsDone setup next → ((xs ys : List Entry) → Written xs → WritesThem ys → Breaks xs ys)
    → Going Relies (λ any. now) left0 left held number stage Before Written →
    WithMoreTaken held left left1 (λ bytes. ScriptGoesOn number stage bytes (plays s next) rest)
    → Carries Relies now later Before After setup s WritesThem →
    OfBytes left0 (λ bytes. Played Relies bytes ending.Unwritten left1 Written1 Breaks Beside)
played_broke Relies now later left0 left left1 held rest number stage next setup Before After s Written WritesThem Written1 Breaks
    Beside back trusts beside done broke g r p =
    let more = to_come left1 in
    let bytes = (g.taken ++ r.0) ++ more in
    let on = said_from (number + 1) next (rest ++ more) in
    let says = step_says g.taken r.0 held more rest number stage next g.played s (g.says (r.0 ++ more)) r.2 in
    let past = onto [] g.transcript in
    let news = reverse p.report in
    let told = transcript_on g.transcript p.report in
    let goes = p.goes g.played past g.holds
    (going_suits Relies (λ any. now) left0 left left1 held rest number stage next setup Before Written s done g r) in
    let same = step_setup g.taken r.0 held more rest number stage next setup g.played s (g.says (r.0 ++ more)) r.2 done
    in
    let entries : Relies (news ++ past) → EntriesAtDesk most_records (script bytes).setup past now s news =
    λ relies. subst (λ by. EntriesAtDesk most_records by past now s news) same (goes.0 relies) in
    let legal : Relies past → LeavesDesk most_records (script bytes).setup g.played g.transcript now =
    λ relies. legal_came (λ any. now) g.taken r.0 more g.played g.transcript (g.legal relies (r.0 ++ more)) in (
      bytes,
      told_by left0 left1 (g.taken ++ r.0) (Consumes-trans left0 left left1 g.taken r.0 g.consumed r.1),
      record {
        taken = g.taken ++ r.0;
        played = g.played ++ s ∷ [];
        unplayed = on.steps;
        transcript = g.transcript ++ p.report;
        took = refl;
        steps_are = says.steps;
        legal = λ relies. let here = subst Relies told relies in (
          desk_after s news now,
          leaves_more most_records (script bytes).setup g.played g.transcript p.report now s (legal (back news past here))
              (entries here),
        );
        early = (
          desk_after s news now,
          early_more Relies most_records (script bytes).setup g.played g.transcript p.report now s trusts p.told entries
              (early_came (λ any. now) g.taken r.0 more g.played g.transcript (g.early (r.0 ++ more))),
        );
        stops = record {
          before = g.played;
          last = s ∷ [];
          whole = g.transcript;
          cut = p.report;
          steps_are = refl;
          one_step = omega arith;
          transcript_is = refl;
          legal = λ relies. (now, legal relies);
          goes_on = λ relies. let here = subst Relies told relies in (
            now,
            desk_after s news now,
            legal (back news past here),
            (news, entries here, (told, refl)),
          );
          in_one = inr refl;
          breaks = subst (Breaks g.transcript) (sym (append-nil p.report))
              (broke g.transcript p.report g.wrote p.wrote);
        };
        beside = subst
            (λ by. Beside ending.Unwritten by (g.taken ++ r.0) (g.played ++ s ∷ []) on.steps
            (onto [] (g.transcript ++ p.report))) same
            (beside (g.taken ++ r.0) (g.played ++ s ∷ []) on.steps (onto [] (g.transcript ++ p.report))
            (subst (After (g.played ++ s ∷ [])) (sym told) goes.1));
      },
    )

-- a step wasn't played
pub played_torn : (Relies : List Entry → Type 0) (now : Setup → Desk) (left0 left left1 : Option (List ℕ)) (held rest : List ℕ) (number : ℕ)
    (stage next : Stage) (setup : Setup) (Before : List Step → List Entry → Type 0) (s : Step) (why : CrashNo)
    (Written Written1 : List Entry → Type 0) (Breaks : List Entry → List Entry → Type 0)
    (Beside : Ending → Setup → List ℕ → List Step → List Step → List Entry → Type 0) →
    ((taken : List ℕ) (played unplayed : List Step) (past : List Entry) → Before played past
    → (Relies past → StepSuits setup past s) → Beside (ending.Unplayed why) setup taken played (s ∷ unplayed) past) →
    IsDone setup next → ((xs : List Entry) → Written xs → Written1 xs)
    → Going Relies now left0 left held number stage Before Written →
    WithMoreTaken held left left1 (λ bytes. ScriptGoesOn number stage bytes (plays s next) rest) →
    OfBytes left0 (λ bytes. Played Relies bytes (ending.Unplayed why) left1 Written1 Breaks Beside)
played_torn Relies now left0 left left1 held rest number stage next setup Before s why Written Written1 Breaks Beside beside
    done wrote g r =
    let more = to_come left1 in
    let bytes = (g.taken ++ r.0) ++ more in
    let on = said_from (number + 1) next (rest ++ more) in
    let says = step_says g.taken r.0 held more rest number stage next g.played s (g.says (r.0 ++ more)) r.2 in
    let same = step_setup g.taken r.0 held more rest number stage next setup g.played s (g.says (r.0 ++ more)) r.2 done
    in (
      bytes,
      told_by left0 left1 (g.taken ++ r.0) (Consumes-trans left0 left left1 g.taken r.0 g.consumed r.1),
      record {
        taken = g.taken ++ r.0;
        played = g.played;
        unplayed = s ∷ on.steps;
        transcript = g.transcript;
        took = refl;
        steps_are = says.steps ∙ append_assoc g.played (s ∷ []) on.steps;
        legal = λ relies. (
          now (script bytes).setup,
          legal_came now g.taken r.0 more g.played g.transcript (g.legal relies (r.0 ++ more)),
        );
        early = (
          now (script bytes).setup,
          early_came now g.taken r.0 more g.played g.transcript (g.early (r.0 ++ more)),
        );
        stops = wrote g.transcript g.wrote;
        beside = subst
            (λ by. Beside (ending.Unplayed why) by (g.taken ++ r.0) g.played (s ∷ on.steps) (onto [] g.transcript)) same
            (beside (g.taken ++ r.0) g.played on.steps (onto [] g.transcript) g.holds
            (going_suits Relies now left0 left left1 held rest number stage next setup Before Written s done g r));
      },
    )

-- the setup that was read is sound
pub going_setup : (Relies : List Entry → Type 0) (now : Setup → Desk) (left0 left : Option (List ℕ)) (held : List ℕ) (number : ℕ)
    (setup : Setup) (Stands : List Step → List Entry → Type 0) (Written : List Entry → Type 0) →
    Going Relies now left0 left held number (at_steps setup) Stands Written → IsSoundSetup setup
going_setup Relies now left0 left held number setup Stands Written g =
    subst IsSoundSetup ((g.says []).setup
    ∙ setup_stays number setup (at_steps setup) (slice_split is_line_feed (held ++ [])) refl)
    (setup_sound (g.taken ++ []))

-- there was no memory before the first step
pub played_none : (Relies Relies1 : List Entry → Type 0) (now : Setup → Desk) (left0 left : Option (List ℕ)) (held : List ℕ) (number : ℕ)
    (stage : Stage) (Stands : List Step → List Entry → Type 0) (Written : List Entry → Type 0) (Breaks : List Entry → List Entry → Type 0)
    (Beside : Ending → Setup → List ℕ → List Step → List Step → List Entry → Type 0) →
    ((setup : Setup) (taken : List ℕ) (unplayed : List Step) → Beside ending.NoMemory setup taken [] unplayed []) →
    Written [] → Going Relies now left0 left held number stage Stands IsNothing
    → OfBytes left0 (λ bytes. Played Relies1 bytes ending.NoMemory left Written Breaks Beside)
played_none Relies Relies1 now left0 left held number stage Stands Written Breaks Beside beside wrote g =
    let bytes = g.taken ++ to_come left in (
      bytes,
      told_by left0 left g.taken g.consumed,
      record {
        taken = g.taken;
        played = [];
        unplayed = (script bytes).steps;
        transcript = [];
        took = refl;
        steps_are = refl;
        legal = λ relies. (clear_desk (script bytes).setup, (refl, refl));
        early = (clear_desk (script bytes).setup, early_none most_records (script bytes).setup);
        stops = (refl, wrote);
        beside = beside (script bytes).setup g.taken (script bytes).steps;
      },
    )

-- no journal was created, and nothing was taken of the script
before_stops : (Relies : List Entry → Type 0) (bytes : List ℕ) (size : ℕ) (seen : Option (List ℕ)) (how : Ending)
    (unplayed : List Step) (Written : List Entry → Type 0) (Breaks : List Entry → List Entry → Type 0)
    → IsUnopened size seen how → Written [] → Stops Relies how bytes [] [] unplayed [] Written Breaks
before_stops Relies bytes size seen (ending.OtherSize len) unplayed Written Breaks is wrote = wrote
before_stops Relies bytes size seen (ending.Uncreated why) unplayed Written Breaks is wrote = wrote
before_stops Relies bytes size seen how unplayed Written Breaks is wrote = absurd is

pub played_before : (Relies : List Entry → Type 0) (left : Option (List ℕ)) (size : ℕ) (seen : Option (List ℕ))
    (how : Ending) (Written : List Entry → Type 0) (Breaks : List Entry → List Entry → Type 0)
    (Beside : Ending → Setup → List ℕ → List Step → List Step → List Entry → Type 0) → IsUnopened size seen how →
    ((setup : Setup) (unplayed : List Step) → Beside how setup [] [] unplayed []) → Written []
    → OfBytes left (λ bytes. Played Relies bytes how left Written Breaks Beside)
played_before Relies left size seen how Written Breaks Beside is beside wrote =
    let bytes = to_come left in (
      bytes,
      told_by left left [] (Consumes-nil left),
      record {
        taken = [];
        played = [];
        unplayed = (script bytes).steps;
        transcript = [];
        took = refl;
        steps_are = refl;
        legal = λ relies. (clear_desk (script bytes).setup, (refl, refl));
        early = (clear_desk (script bytes).setup, early_none most_records (script bytes).setup);
        stops = before_stops Relies bytes size seen how (script bytes).steps Written Breaks is wrote;
        beside = beside (script bytes).setup (script bytes).steps;
      },
    )

-- what is said of the writing in another way, where the script or its source brought the end
stops_by : (Relies Relies1 : List Entry → Type 0) (bytes taken : List ℕ) (played unplayed : List Step)
    (transcript : List Entry) (how : Ending) (Written Written1 : List Entry → Type 0)
    (Breaks Breaks1 : List Entry → List Entry → Type 0) → IsOfScript how →
    ((xs : List Entry) → Written xs → Written1 xs)
    → Stops Relies how bytes taken played unplayed transcript Written Breaks
    → Stops Relies1 how bytes taken played unplayed transcript Written1 Breaks1
stops_by Relies Relies1 bytes taken played unplayed transcript ending.Done Written Written1 Breaks Breaks1 is w h =
    (h.0, h.1, w transcript h.2)
stops_by Relies Relies1 bytes taken played unplayed transcript (ending.Refused number kind) Written Written1 Breaks
    Breaks1 is w h =
    (h.0, h.1, w transcript h.2)
stops_by Relies Relies1 bytes taken played unplayed transcript ending.Unread Written Written1 Breaks Breaks1 is w h =
    (h.0, w transcript h.1)
stops_by Relies Relies1 bytes taken played unplayed transcript how Written Written1 Breaks Breaks1 is w h = absurd is

-- an end before the first step, as one of a run over a disk
pub played_by : (Relies Relies1 : List Entry → Type 0) (left0 left : Option (List ℕ)) (how : Ending)
    (Written Written1 : List Entry → Type 0) (Breaks Breaks1 : List Entry → List Entry → Type 0)
    (Beside : Ending → Setup → List ℕ → List Step → List Step → List Entry → Type 0) →
    ((past : List Entry) → Relies1 past → Relies past) → ((xs : List Entry) → Written xs → Written1 xs)
    → EndsBeside (at_setup no_devices) IsUnbegun Beside
    → OfBytes left0 (λ bytes. Played Relies bytes how left Written Breaks BeforeSteps)
    → OfBytes left0 (λ bytes. Played Relies1 bytes how left Written1 Breaks1 Beside)
played_by Relies Relies1 left0 left how Written Written1 Breaks Breaks1 Beside less w beside (bytes, told, p) = (
  bytes,
  told,
  record {
    taken = p.taken;
    played = p.played;
    unplayed = p.unplayed;
    transcript = p.transcript;
    took = p.took;
    steps_are = p.steps_are;
    legal = λ relies. p.legal (less (onto [] p.transcript) relies);
    early = p.early;
    stops = stops_by Relies Relies1 bytes p.taken p.played p.unplayed p.transcript how Written Written1 Breaks Breaks1
        p.beside.0 w p.stops;
    beside = beside how (script bytes).setup p.taken p.played p.unplayed (onto [] p.transcript) p.beside.0 tt
        p.beside.1;
  },
)

-- what the loop over the setup lines keeps
module _ {S : Type 0} (takes : S → ℕ → Result ℕ Failed → S → Type 0) (left : S → Option (List ℕ)) (faults : S → ℕ) where
  pub record Opens (source0 source : S) (standing : Standing) (number : ℕ) (setup : Setup) : Type 0 where
    pub going : Going Always clear_desk (left source0) (left source) standing.held number (at_setup setup) IsUnbegun IsNothing
    pub opening : TookOpening takes left source0 source standing.held number (at_setup setup)
    pub serves : Serves left faults source0 source ⊥
    pub next : IsNext number standing

-- what the loop over the steps keeps: from what was so at its start comes what is so now, by any disk that was given; and
-- source, sink and disk go on
pub record Runs {D : Type 0} (On : D → Type 0) (Start Now : Option (List ℕ) → D → Type 0) (Source Sink Disk : Type 0)
    (standing : Standing) (number : ℕ) : Type 0 where
  pub going : (first : Option (List ℕ)) (given : D) → On given → Start first given → Now first given
  pub source : Source
  pub sink : Sink
  pub disk : Disk
  pub next : IsNext number standing
