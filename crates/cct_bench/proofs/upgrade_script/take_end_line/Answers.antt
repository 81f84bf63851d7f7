use Rattle.std.proofs.Common.{◌≡◌, ◌≢◌, ◌++◌, ℕ, List, codes, subst, sym}
use Rattle.std.specs.Prelude.{MatchOption, MatchResult}
use Rattle.std.proofs.lemmas.Bool.Decides.{Decides-eqb}
use Rattle.std.proofs.lemmas.Slice.Eq.{strip_prefix_is}
use Rattle.cct_model.specs.Script.{at_end, at_steps, opens, refuses}
use Rattle.cct_bench.specs.UpgradeScript.{upgrade_form}
use Rattle.cct_bench.proofs.UpgradeForms.{line_takes, other_word}
use Rattle.cct_bench.proofs.upgrade_script.take_end_line.Goals as goal

pub returns-in-Some : goal.returns-in-Some
returns-in-Some c setup =
    let line = c.args.line.now in
    let begins : line ≡ codes "end" ++ c.in-Some.rest.now =
    subst (λ r. MatchOption r ((rest : List ℕ) → line ≢ codes "end" ++ rest) (λ x. line ≡ codes "end" ++ x.now)) c.in-Some.is
    (strip_prefix_is Decides-eqb line (codes "end") c.strip_prefix.result c.strip_prefix.ensures.cases) in
    subst (λ r. MatchResult r (λ done. upgrade_form (at_steps setup) line ≡ opens (at_end setup))
    (λ why. upgrade_form (at_steps setup) line ≡ refuses why)) (sym c.take_rest.ensures)
    (line_takes setup line c.in-Some.rest.now begins)

pub returns-in-None : goal.returns-in-None
returns-in-None c setup =
    let line = c.args.line.now in
    other_word setup line
    (subst (λ r. MatchOption r ((rest : List ℕ) → line ≢ codes "end" ++ rest) (λ x. line ≡ codes "end" ++ x.now)) c.in-None.is
    (strip_prefix_is Decides-eqb line (codes "end") c.strip_prefix.result c.strip_prefix.ensures.cases))
