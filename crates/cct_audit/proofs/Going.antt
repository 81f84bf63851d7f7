-- An audit goes on line by line, and ends.
use Rattle.std.proofs.Common.{◌≡◌, ℕ, ◌+◌, List, [], ◌∷◌, ◌++◌, Option, Some, None, refl, ap, sym, ◌∙◌, append_assoc, reverse}
use Rattle.std.specs.List.{slice_split}
use Rattle.std.specs.Io.KnownBytes.{Consumes}
use Rattle.std.proofs.lemmas.List.{append-nil, reverse-append}
use Rattle.cct_edge.proofs.Chains.{Consumes-nil, Consumes-trans}
use Rattle.cct_model.specs.lines.entry.LineKind.{LineKind}
use Rattle.cct_model.specs.Script.{is_line_feed, refusal_at}
use Rattle.cct_script.specs.Scripts.{GoesOnIn, IsClosedIn, StopsIn, WithMoreTaken, unfinished_by}
use Rattle.cct_script.specs.Source.{OfBytes, to_come}
use Rattle.cct_script.specs.declared.stops.ScriptStop.{ScriptStop}
use Rattle.cct_script.specs.declared.stops.ScriptStop.TheVariants as stop
use Rattle.cct_script.proofs.Continuing.{ended}
use Rattle.cct_script.proofs.Sources.{told_by}
use Rattle.cct_monitor.specs.declared.monitor.Monitor.{Monitor}
use Rattle.cct_monitor.specs.Monitor.{StandsFor}
use Rattle.cct_monitor.specs.Watches.{Came}
use Rattle.cct_audit.specs.Audit.{Audited, BreaksOff, Ends, at_end, at_tap}
use Rattle.cct_audit.specs.declared.auditing.AuditEnd.{AuditEnd}
use Rattle.cct_audit.specs.declared.auditing.AuditEnd.TheVariants as ending
use Rattle.cct_audit.specs.Capture.{Capture, Stage, capture, capture_from, closed_capture, comes, is_over, of_capture, opens, over, watching}
use Rattle.cct_audit.specs.Going.{Going, with_came}
use Rattle.cct_audit.specs.Telling.{tells, told, told_last}
use Rattle.cct_audit.proofs.Lines.{by_capture}

pub going_begin : (left : Option (List ℕ)) → Going left left [] 1 (watching []) []
unfolding capture
going_begin left = record { taken = []; consumed = Consumes-nil left; says = λ more. refl }

-- more bytes came
going_came : (left0 left left1 : Option (List ℕ)) (held came : List ℕ) (number : ℕ) (stage : Stage) (past : List Came)
    → Going left0 left held number stage past → Consumes left left1 came
    → Going left0 left1 (held ++ came) number stage past
going_came left0 left left1 held came number stage past g took = record {
  taken = g.taken ++ came;
  consumed = Consumes-trans left0 left left1 g.taken came g.consumed took;
  says = λ more.
      ap capture (append_assoc g.taken came more)
      ∙ g.says (came ++ more)
      ∙ ap (λ bytes. with_came (reverse past) (capture_from number stage (slice_split is_line_feed bytes)))
      (sym (append_assoc held came more));
}

-- a line by which nothing comes
pub going_opens : (left0 left left1 : Option (List ℕ)) (held rest : List ℕ) (number : ℕ) (stage next : Stage)
    (past : List Came) → Going left0 left held number stage past
    → WithMoreTaken held left left1 (λ bytes. GoesOnIn of_capture number stage bytes (opens next) rest)
    → Going left0 left1 rest (number + 1) next past
going_opens left0 left left1 held rest number stage next past g r =
    let now = going_came left0 left left1 held r.0 number stage past g r.1 in
    record {
      taken = now.taken;
      consumed = now.consumed;
      says = λ more. now.says more ∙ ap (with_came (reverse past)) (r.2 more);
    }

-- what came last is after the others
pub after_others : (c : Came) (past more : List Came) → reverse past ++ c ∷ more ≡ reverse (c ∷ past) ++ more
after_others c past more =
    sym (ap (λ xs. xs ++ more) (reverse-append (c ∷ []) past) ∙ append_assoc (reverse past) (c ∷ []) more)

-- a line by which something comes
pub going_comes : (left0 left left1 : Option (List ℕ)) (held rest : List ℕ) (number : ℕ) (stage next : Stage)
    (past : List Came) (c : Came) → Going left0 left held number stage past
    → WithMoreTaken held left left1 (λ bytes. GoesOnIn of_capture number stage bytes (comes c next) rest)
    → Going left0 left1 rest (number + 1) next (c ∷ past)
going_comes left0 left left1 held rest number stage next past c g r =
    let now = going_came left0 left left1 held r.0 number stage past g r.1 in
    record {
      taken = now.taken;
      consumed = now.consumed;
      says = λ more.
          let later = capture_from (number + 1) next (slice_split is_line_feed (rest ++ more)) in
          now.says more
          ∙ ap (with_came (reverse past)) (r.2 more)
          ∙ ap (λ came. record { came = came; refused = later.refused }) (after_others c past later.came);
    }

-- what is said where no more comes
no_more : (past : List Came) (number : ℕ) (why : Option LineKind) → with_came (reverse past) (closed_capture number why)
    ≡ record { came = reverse past; refused = refusal_at number why }
no_more past number why = ap (λ came. record { came = came; refused = refusal_at number why }) (append-nil (reverse past))

-- the bytes of an audit
of_going : (left0 left : Option (List ℕ)) (held : List ℕ) (number : ℕ) (stage : Stage) (past : List Came)
    (how : AuditEnd) (monitor : Monitor) (W : List (List ℕ) → Type 0) (B : List (List ℕ) → List (List ℕ) → Type 0)
    → (g : Going left0 left held number stage past) → StandsFor monitor past → Ends how (g.taken ++ to_come left) g.taken past W B
    → OfBytes left0 (λ bytes. Audited bytes how monitor left W B)
of_going left0 left held number stage past how monitor W B g stands ends = (
  g.taken ++ to_come left,
  told_by left0 left g.taken g.consumed,
  record { taken = g.taken; past = past; took = refl; stands = stands; ends = ends },
)

stopped_here : (left0 left : Option (List ℕ)) (held : List ℕ) (number : ℕ) (stage : Stage) (past : List Came)
    (why : ScriptStop) (W : List (List ℕ) → Type 0) (B : List (List ℕ) → List (List ℕ) → Type 0)
    → (g : Going left0 left held number stage past) → StopsIn of_capture number stage why left held → W (told past)
    → Ends (ending.Stopped number why) (g.taken ++ to_come left) g.taken past W B
stopped_here left0 left held number stage past stop.Unread W B g stops wrote =
    let none = unfinished_by (is_over stage) number held in (
      ap (λ (c : Capture). c.came)
          (
          ap capture (sym (append-nil g.taken))
          ∙ g.says []
          ∙ ap (λ bytes. with_came (reverse past) (capture_from number stage (slice_split is_line_feed bytes))) (append-nil held)
          ∙ ap (with_came (reverse past)) (ended by_capture number stage held stops)
          ∙ no_more past number none
          ),
      wrote,
    )
stopped_here left0 left held number stage past (stop.Refused why) W B g stops wrote = (
  g.says (to_come left) ∙ ap (with_came (reverse past)) stops ∙ no_more past number (Some why),
  wrote,
)

-- it is read no further
pub audit_stops : (left0 left left1 : Option (List ℕ)) (held : List ℕ) (number : ℕ) (stage : Stage) (past : List Came)
    (why : ScriptStop) (monitor : Monitor) (W : List (List ℕ) → Type 0) (B : List (List ℕ) → List (List ℕ) → Type 0)
    → Going left0 left held number stage past → StandsFor monitor past
    → WithMoreTaken held left left1 (StopsIn of_capture number stage why left1)
    → W (told past) → OfBytes left0 (λ bytes. Audited bytes (ending.Stopped number why) monitor left1 W B)
audit_stops left0 left left1 held number stage past why monitor W B g stands r wrote =
    let now = going_came left0 left left1 held r.0 number stage past g r.1 in
    of_going left0 left1 (held ++ r.0) number stage past (ending.Stopped number why) monitor W B now stands
    (stopped_here left0 left1 (held ++ r.0) number stage past why W B now r.2 wrote)

-- it is read to its end, and what is said there is written, or breaks off
ended_here : (left0 left left1 : Option (List ℕ)) (held : List ℕ) (number : ℕ) (past : List Came)
    → (g : Going left0 left held number over past)
    → (r : WithMoreTaken held left left1 (IsClosedIn of_capture number over None left1))
    → capture ((g.taken ++ r.0) ++ to_come left1) ≡ record { came = reverse past; refused = None }
unfolding going_came
ended_here left0 left left1 held number past g r =
    let now = going_came left0 left left1 held r.0 number over past g r.1 in
    now.says (to_come left1) ∙ ap (with_came (reverse past)) r.2 ∙ no_more past number None

pub audit_done : (left0 left left1 : Option (List ℕ)) (held : List ℕ) (number : ℕ) (past : List Came) (monitor : Monitor)
    (W : List (List ℕ) → Type 0) (B : List (List ℕ) → List (List ℕ) → Type 0) → Going left0 left held number over past
    → StandsFor monitor past → WithMoreTaken held left left1 (IsClosedIn of_capture number over None left1) → W (told past ++ told_last past)
    → OfBytes left0 (λ bytes. Audited bytes ending.Done monitor left1 W B)
unfolding going_came
audit_done left0 left left1 held number past monitor W B g stands r wrote =
    of_going left0 left1 (held ++ r.0) number over past ending.Done monitor W B
    (going_came left0 left left1 held r.0 number over past g r.1) stands
    (ended_here left0 left left1 held number past g r, wrote)

pub audit_broke_last : (left0 left left1 : Option (List ℕ)) (held : List ℕ) (number : ℕ) (past : List Came) (monitor : Monitor)
    (W : List (List ℕ) → Type 0) (B : List (List ℕ) → List (List ℕ) → Type 0) → Going left0 left held number over past
    → StandsFor monitor past → WithMoreTaken held left left1 (IsClosedIn of_capture number over None left1) → B (told past) (told_last past)
    → OfBytes left0 (λ bytes. Audited bytes ending.Unwritten monitor left1 W B)
unfolding going_came
audit_broke_last left0 left left1 held number past monitor W B g stands r broke =
    of_going left0 left1 (held ++ r.0) number over past ending.Unwritten monitor W B
    (going_came left0 left left1 held r.0 number over past g r.1) stands
    (at_end past (ended_here left0 left left1 held number past g r) broke)

-- writing broke off at a tap
pub audit_broke : (left0 left : Option (List ℕ)) (held : List ℕ) (number : ℕ) (stage : Stage) (c : Came)
    (before : List Came) (monitor : Monitor) (W : List (List ℕ) → Type 0) (B : List (List ℕ) → List (List ℕ) → Type 0)
    → Going left0 left held number stage (c ∷ before) → StandsFor monitor (c ∷ before) → B (told before) (tells before c)
    → OfBytes left0 (λ bytes. Audited bytes ending.Unwritten monitor left W B)
audit_broke left0 left held number stage c before monitor W B g stands broke =
    let later = capture_from number stage (slice_split is_line_feed (held ++ to_come left)) in
    of_going left0 left held number stage (c ∷ before) ending.Unwritten monitor W B g stands
    (at_tap c before later.came (ap (λ (x : Capture). x.came) (g.says (to_come left))) broke)

-- what is said of the writing, put in another way
pub audited_as : (bytes : List ℕ) (how : AuditEnd) (monitor : Monitor) (left : Option (List ℕ)) (W V : List (List ℕ) → Type 0)
    (B A : List (List ℕ) → List (List ℕ) → Type 0) → ((es : List (List ℕ)) → W es → V es)
    → ((xs ys : List (List ℕ)) → B xs ys → A xs ys) → Audited bytes how monitor left W B → Audited bytes how monitor left V A
audited_as bytes how monitor left W V B A wrote broke a =
    record { taken = a.taken; past = a.past; took = a.took; stands = a.stands; ends = ends_as how a.past a.ends }
  where
    breaks_as : (past : List Came) → BreaksOff bytes B past → BreaksOff bytes A past
    breaks_as _ (at_tap c before rest came is) = at_tap c before rest came (broke (told before) (tells before c) is)
    breaks_as _ (at_end past whole is) = at_end past whole (broke (told past) (told_last past) is)

    ends_as : (how : AuditEnd) (past : List Came) → Ends how bytes a.taken past W B → Ends how bytes a.taken past V A
    ends_as ending.Done past e = (e.0, wrote (told past ++ told_last past) e.1)
    ends_as (ending.Stopped number stop.Unread) past e = (e.0, wrote (told past) e.1)
    ends_as (ending.Stopped number (stop.Refused why)) past e = (e.0, wrote (told past) e.1)
    ends_as ending.Unwritten past e = breaks_as past e
