use Rattle.std.proofs.Common.{◌≡◌, ◌∙◌, ap, ap₂, codes, rules}
use Rattle.std.proofs.lemmas.Result.{IfOk-weaker}
use Rattle.clap.specs.Words.{App, app_of, new_app, with_subcommand}
use Rattle.cct_bench_words.specs.Command.{load_app, words_app}
use Rattle.cct_bench_words.proofs.command.words_command.Goals as goal

pub returns : goal.returns
unfolding words_app
returns c =
    let run : app_of c.new.result ≡ new_app (codes "run") = search rules in
    let report : app_of c.new-2.result ≡ new_app (codes "report") = search rules in
    let upgrade : app_of c.new-3.result ≡ new_app (codes "upgrade") = search rules in
    let audit : app_of c.new-4.result ≡ new_app (codes "audit") = search rules in
    let check : app_of c.new-5.result ≡ new_app (codes "check") = search rules in
    let state : app_of c.new-6.result ≡ new_app (codes "state") = search rules in
    let load : app_of c.in_ok-load_command.field-0 ≡ load_app = c.in_ok-load_command.ensures.app in
    IfOk-weaker c.subcommand-7.result _ _ (λ command adds. adds.shape c.in_ok-load_command.ensures.local
    ∙ ap₂ with_subcommand (c.in_ok-subcommand-6.ensures.shape c.new-6.ensures.local
    ∙ ap₂ with_subcommand (c.in_ok-subcommand-5.ensures.shape c.new-5.ensures.local
    ∙ ap₂ with_subcommand (c.in_ok-subcommand-4.ensures.shape c.new-4.ensures.local
    ∙ ap₂ with_subcommand (c.in_ok-subcommand-3.ensures.shape c.new-3.ensures.local
    ∙ ap₂ with_subcommand (c.in_ok-subcommand-2.ensures.shape c.new-2.ensures.local
    ∙ ap₂ with_subcommand (c.in_ok-subcommand.ensures.shape c.new.ensures.local
    ∙ ap₂ with_subcommand c.bare_command.ensures (ap (λ (a : App). a.top) run)) (ap (λ (a : App). a.top) report))
    (ap (λ (a : App). a.top) upgrade)) (ap (λ (a : App). a.top) audit))
    (ap (λ (a : App). a.top) check)) (ap (λ (a : App). a.top) state)) (ap (λ (a : App). a.top) load)) c.subcommand-7.ensures
