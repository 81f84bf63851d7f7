-- A span of an acceptor that is watched for resets alone is reported whole where no reset came and few pieces did.
use Rattle.std.proofs.Common.{◌≡◌, ℕ, ◌≤◌, not, true, cond, List, [], ◌++◌, map, length, sym, ap, ◌∙◌, subst, subst₂, arith, All, Contains}
use Rattle.std.specs.List.{list_any}
use Rattle.std.proofs.lemmas.List.Elements.{All-weaker}
use Rattle.cct_model.specs.terms.device.DeviceSetup.{DeviceSetup}
use Rattle.cct_model.specs.terms.device.Setup.{Setup}
use Rattle.cct_model.specs.lines.entry.Entry.{Entry}
use Rattle.cct_model.specs.Honest.{HonestPast}
use Rattle.cct_model.specs.Setup.{IsSoundSetup}
use Rattle.cct_laws.specs.Law.{IsOf}
use Rattle.cct_audit_taps.specs.declared.said.Said.{Said}
use Rattle.cct_audit_taps.specs.declared.said.Said.TheVariants.{Quiet}
use Rattle.cct_audit_taps.specs.declared.money.Money.{Money}
use Rattle.cct_monitor.specs.declared.watched.Family.TheVariants.{QuietAcceptor}
use Rattle.cct_monitor.specs.Once.{all_quietly}
use Rattle.cct_monitor.specs.Spans.{Span, are_near, coins_of, doubted, is_set, is_whole, quietly, spans}
use Rattle.cct_audit_taps.specs.Taps.{quiet_shown}
use Rattle.cct_monitor.specs.Watches.{Watch, all_told, made_tap, made_watch}
use Rattle.cct_monitor.proofs.Reported.{all_both, quiet_of_one, quietly_said}
use Rattle.cct_laws_any_host.specs.Wild.{WildStep, WildFrom, before_tap, taps}
use Rattle.cct_laws_any_host.specs.Claims.{IsOfFamily, IsQuietSpan, IsToldQuiet, IsWatchOf, Takes, quiet_looks}
use Rattle.cct_laws_any_host.proofs.Complete.{both_true, counters_are, near_where_few}
use Rattle.cct_laws_any_host.proofs.Moments.{Behind}
use Rattle.cct_laws_any_host.proofs.Resets.{Stretch, all_stretches, stretch_told}
use Rattle.cct_laws_any_host.proofs.QuietRuns.{moment_of, quiet_runs}

-- such a span is whole
whole_where_few : (d : DeviceSetup) (past : List Entry) (x : Span) → Stretch (λ n. moment_of d (before_tap n past)) x →
    IsQuietSpan d past x → is_whole x ≡ true
whole_where_few d past x is plain =
    let w = (moment_of d (before_tap x.first.number past)).world in
    let v = (moment_of d (before_tap x.last.number past)).world in
    let between : Behind w v = is.still.behind plain.same in
    let few : length between.new ≤ 5 = omega (arith, plain.few, between.came_are) in
    both_true (not (list_any is_set x.first.after)) (are_near x.first.credits.counter x.last.credits.counter)
    (ap not plain.unset)
    (counters_are x.first.credits x.last.credits w v between is.first_is is.last_is
    ∙ near_where_few (length between.new) (length w.events) few)

quiet_is : (addr : ℕ) (x : Span) → is_whole x ≡ true → quietly addr x ≡ Quiet addr x.first.number x.last.number (coins_of x)
quiet_is addr x whole =
    ap (λ b. cond b (Quiet addr x.first.number x.last.number (coins_of x)) (doubted addr x)) whole

told_quiet : (d : DeviceSetup) (past : List Entry) (told : List Said) (x : Span) →
    Stretch (λ n. moment_of d (before_tap n past)) x → Contains told (quietly d.addr x) → IsQuietSpan d past x →
    IsToldQuiet d past told x
told_quiet d past told x is said plain =
    let whole = whole_where_few d past x is plain in
    let are = stretch_told (λ n. moment_of d (before_tap n past)) x is whole plain.same in
    record {
      coins = coins_of x;
      said = subst (Contains told) (quiet_is d.addr x whole) said;
      whole = are.exact (omega (arith, plain.few));
    }

-- by any monitor that so watches the acceptor
pub quiet_told : (setup : Setup) (steps : List WildStep) (past : List Entry) (watches : List Watch) (money : Money) (w : Watch)
    (d : DeviceSetup) → IsSoundSetup setup → WildFrom setup [] steps past → HonestPast past → Contains watches w → w.family ≡ QuietAcceptor money →
    IsOf setup d → IsWatchOf w d →
    All (λ x. IsQuietSpan d past x → IsToldQuiet d past (all_told (map made_tap (taps past) ++ map made_watch watches)) x)
    (spans (quiet_looks money d past))
quiet_told setup steps past watches money w d sound goes honest among accepts own is =
    let told = all_told (map made_tap (taps past) ++ map made_watch watches) in
    let takes : Takes money d.body = subst (λ fam. IsOfFamily fam d.body) accepts is.body_is in
    All-weaker (λ x. Stretch (λ n. moment_of d (before_tap n past)) x
    × Contains (all_quietly d.addr (quiet_looks money d past)) (quietly d.addr x))
    (λ x. IsQuietSpan d past x → IsToldQuiet d past told x)
    (λ x holds. told_quiet d past told x holds.0 (in_all (quietly d.addr x) holds.1))
    (spans (quiet_looks money d past))
    (all_both (Stretch (λ n. moment_of d (before_tap n past)))
    (λ x. Contains (all_quietly d.addr (quiet_looks money d past)) (quietly d.addr x)) (spans (quiet_looks money d past))
    (all_stretches (λ n. moment_of d (before_tap n past)) (quiet_looks money d past) (moment_of d past)
    (quiet_runs money setup steps past d sound own takes goes honest))
    (quietly_said d.addr (quiet_looks money d past)))
  where
    in_all : (x : Said) → Contains (all_quietly d.addr (quiet_looks money d past)) x →
        Contains (all_told (map made_tap (taps past) ++ map made_watch watches)) x
    in_all x there =
        quiet_of_one money w watches (taps past) x accepts among
        (subst₂ (λ kind addr. Contains (all_quietly addr (map (quiet_shown money kind addr) (taps past))) x) (sym is.kind_is)
        (sym is.addr_is) there)
