use Rattle.std.proofs.Common.{◌∙◌, ◌≡◌, ◌+◌, length, refl, reverse, sym, arith}
use Rattle.std.proofs.lemmas.List.{length-reverse}
use Rattle.std.proofs.lemmas.Result.{err_from_is_err_and}
use Rattle.cct_journal.proofs.Found.{found_reads, place_stands, reads_records, replays_all}
use Rattle.cct_journal.proofs.Moments.{reads_hold, reads_then}
use Rattle.cct_journal.proofs.Opens.{counted_has, stopped_refuses}
use Rattle.cct_journal.proofs.Walks.{replayed_all}
use Rattle.cct_journal.proofs.opening.find_place.Goals as goal

pub returns-in_err-used-clause-refused : goal.returns-in_err-used-clause-refused
returns-in_err-used-clause-refused g c =
    let why = err_from_is_err_and c.from_residual-in_err-used.result c.from_residual-in_err-used.ensures.1 in
    rw (why.1, why.2)
    (λ image told.
    stopped_refuses c.in_err-used.field-0.0 image c.in_ok-half.half.second c.in_ok-half.half.generation
    c.in_ok-half.half.base c.in_ok-half.half.carry (c.in_ok-half.ensures.begins image told).headed
    (c.in_err-used.ensures.stopped image (c.find_half.ensures.reads.same_seen ∙ told)))

pub returns-clause-finds : goal.returns-clause-finds
returns-clause-finds g c =
    let over = c.in_ok-used.ensures.replayed in
    let half = c.in_ok-half.half in
    let seen = c.find_half.ensures.reads.same_seen in
    let later = c.replay_records.ensures.reads.same_seen in
    let many : c.in_ok-used.used ≡ half.base + length (reverse over.before) =
    omega (arith, over.count, length-reverse over.before) in
    record {
      found = λ image told. (
        reverse over.before,
        found_reads _ _ _ image (reverse over.before) (later ∙ seen ∙ told)
            (counted_has image half.second half.generation half.base half.carry (reverse over.before)
            (c.in_ok-half.ensures.begins image told).headed (over.fact image (seen ∙ told))) many,
      );
      every = λ carry_of image records told stands.
          reads_records _ _ _ image (reverse over.before) (later ∙ seen ∙ told)
          (counted_has image half.second half.generation half.base half.carry (reverse over.before)
          (c.in_ok-half.ensures.begins image told).headed (over.fact image (seen ∙ told))) many carry_of records stands;
    }

pub returns-clause-replayed : goal.returns-clause-replayed
returns-clause-replayed g c =
    replays_all _ _ _ _ _ _
    (replayed_all _ _ _ _ _ _ _ _ _ refl c.in_ok-used.ensures.replayed
    (λ records counts image told.
    counts image (sym c.replay_records.ensures.reads.same_seen ∙ told)))

pub returns-clause-stands : goal.returns-clause-stands
returns-clause-stands g c carry_of records settled =
    let over = c.in_ok-used.ensures.replayed in
    let half = c.in_ok-half.half in
    let image = settled.image in
    let told = settled.held.tells in
    let begins = c.in_ok-half.ensures.begins image told in
    let many : c.in_ok-used.used ≡ half.base + length (reverse over.before) =
    omega (arith, over.count, length-reverse over.before) in
    place_stands _ _ _ _ _ image (reverse over.before)
    (reads_hold (reads_then c.find_half.ensures.reads c.replay_records.ensures.reads) image settled.held)
    (counted_has image half.second half.generation half.base half.carry (reverse over.before) begins.headed
    (over.fact image (c.find_half.ensures.reads.same_seen ∙ told))) many begins.other_gate carry_of records
    settled.stands
