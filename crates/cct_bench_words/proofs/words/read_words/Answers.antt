use Rattle.std.proofs.Common.{◌≡◌, ◌∙◌, sym, rules, map, false}
use Rattle.std.specs.Prelude.{string_bytes}
use Rattle.std.specs.List.{list_any}
use Rattle.clap.specs.Words.{subcommand_rows_of}
use Rattle.cct_bench_words.specs.Grammar.{words_said}
use Rattle.cct_bench_words.specs.Said.{is_dashed, said_under}
use Rattle.cct_bench_words.proofs.Agreeing.{answered, dashed_none, error_refuses, matches_say}
use Rattle.cct_bench_words.proofs.Reading.{dashes_told}
use Rattle.cct_bench_words.proofs.words.read_words.Goals as goal

pub returns-then-have_dash-clause-refused : goal.returns-then-have_dash-clause-refused
returns-then-have_dash-clause-refused c =
    λ refused. dashed_none (map string_bytes c.args.words.now)
    (dashes_told c.args.words.now ∙ sym c.have_dash.ensures ∙ c.if-have_dash.true)

pub returns-in-Ok-try_get_matches_from : goal.returns-in-Ok-try_get_matches_from
returns-in-Ok-try_get_matches_from c =
    let words = map string_bytes c.args.words.now in
    let plain : list_any is_dashed words ≡ false =
    dashes_told c.args.words.now ∙ sym c.have_dash.ensures ∙ c.if-have_dash.false in
    let parse = c.in-Ok-try_get_matches_from in
    let says : said_under (subcommand_rows_of parse.matches) ≡ words_said words =
    matches_say _ words _ c.in-Ok.ensures plain parse.ensures.kinds (λ simple. (parse.ensures.matches simple).1) in
    let answer = answered c.said_under.result (words_said words) (c.said_under.ensures ∙ says) in
    record { said = rw c.ok_or.ensures.value answer.0; refused = rw c.ok_or.ensures.value answer.1 }

pub returns-in-Err-clause-refused : goal.returns-in-Err-clause-refused
returns-in-Err-clause-refused c =
    let words = map string_bytes c.args.words.now in
    let plain : list_any is_dashed words ≡ false =
    dashes_told c.args.words.now ∙ sym c.have_dash.ensures ∙ c.if-have_dash.false in
    λ refused. error_refuses _ words c.in-Err.error c.in-Ok.ensures plain c.in-Err.ensures.kinds
    (c.refused_by.ensures (search rules))
