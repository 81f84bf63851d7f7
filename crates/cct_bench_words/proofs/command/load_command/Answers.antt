use Rattle.std.proofs.Common.{◌≡◌, ◌∙◌, ap₂, codes, rules}
use Rattle.std.proofs.lemmas.Result.{IfOk-weaker}
use Rattle.clap.specs.Words.{rule_of, with_rule}
use Rattle.cct_bench_words.specs.Command.{load_app, one_word}
use Rattle.cct_bench_words.proofs.command.load_command.Goals as goal

pub returns-clause-app : goal.returns-clause-app
unfolding load_app
returns-clause-app c =
    let seed : rule_of c.word_named.result ≡ one_word (codes "seed") = search rules in
    let rounds : rule_of c.word_named-2.result ≡ one_word (codes "rounds") = search rules in
    IfOk-weaker c.arg-2.result _ _ (λ command adds. adds.shape c.word_named-2.ensures.local
    ∙ ap₂ with_rule (c.in_ok-arg.ensures.shape c.word_named.ensures.local
    ∙ ap₂ with_rule c.new.ensures.app seed) rounds) c.arg-2.ensures
