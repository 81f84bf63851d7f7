use Rattle.std.proofs.Common.{◌≡◌, rules, Some, None}
use Rattle.clap.specs.Words.{found_of, rows_of, subcommand_rows_of}
use Rattle.clap.specs.declared.parser.matches.ArgMatches.TheViews.{out-ArgMatches}
use Rattle.cct_bench_words.specs.Said.{said_under}
use Rattle.cct_bench_words.proofs.Reading.{met_none, met_some}
use Rattle.cct_bench_words.proofs.said.said_under.Goals as goal

pub returns-in_err-name : goal.returns-in_err-name
unfolding said_under
returns-in_err-name c =
    let none : subcommand_rows_of c.args.matches.now ≡ None =
    met_none (out-ArgMatches c.args.matches.now).subcommand (search rules) in
    rw none (search rules)

pub returns : goal.returns
unfolding said_under
returns c =
    let some : subcommand_rows_of c.args.matches.now
    ≡ Some (c.in_ok-name.name.now, rows_of (found_of c.in_ok-name.found.now)) =
    met_some (out-ArgMatches c.args.matches.now).subcommand c.in_ok-name.name.now
    (rows_of (found_of c.in_ok-name.found.now)) (search rules) (search rules) in
    rw some c.said_by.ensures
