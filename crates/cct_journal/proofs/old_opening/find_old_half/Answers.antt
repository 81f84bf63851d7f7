use Rattle.std.proofs.Common.{◌≡◌, ◌∙◌, List, ℕ, Some}
use Rattle.std.proofs.lemmas.Result.{IfErr-weaker, IfOk-weaker}
use Rattle.cct_journal.specs.OldStands.{OldBeginsAt, OldBeginsWhere, RefusesOld, RefusesWhere}
use Rattle.cct_journal.proofs.Found.{current_nowhere, current_there}
use Rattle.cct_journal.proofs.OldFound.{none_alien, version_three}
use Rattle.cct_journal.proofs.old_opening.find_old_half.Goals as goal

pub returns-in_default-clause-refused : goal.returns-in_default-clause-refused
returns-in_default-clause-refused g c image told =
    none_alien image (current_nowhere c.in_ok-current.field-0 c.in_default.is (c.in_ok-current.ensures.found image told))

pub returns-then-current-eq-FIRST_VERSION-clause-begins : goal.returns-then-current-eq-FIRST_VERSION-clause-begins
returns-then-current-eq-FIRST_VERSION-clause-begins g c =
    let seen = g.D.Disk.seen in
    IfOk-weaker c.find_first.result
    (λ old. (image : List ℕ) → seen c.find_current.new.disk ≡ Some image → OldBeginsWhere 1 c.in-Some.current image old)
    (λ old. (image : List ℕ) → seen c.args.disk.now ≡ Some image → OldBeginsAt image old)
    (λ old begins image told. begins image (c.find_current.ensures.reads.same_seen ∙ told)
    c.if-current-eq-FIRST_VERSION.true
    (current_there c.in_ok-current.field-0 c.in-Some.current c.in-Some.is (c.in_ok-current.ensures.found image told)))
    c.find_first.ensures.begins

pub returns-then-current-eq-FIRST_VERSION-clause-refused : goal.returns-then-current-eq-FIRST_VERSION-clause-refused
returns-then-current-eq-FIRST_VERSION-clause-refused g c =
    let seen = g.D.Disk.seen in
    IfErr-weaker c.find_first.result
    (λ why. (image : List ℕ) → seen c.find_current.new.disk ≡ Some image → RefusesWhere 1 c.in-Some.current why image)
    (λ why. (image : List ℕ) → seen c.args.disk.now ≡ Some image → RefusesOld why image)
    (λ why refuses image told. refuses image (c.find_current.ensures.reads.same_seen ∙ told)
    c.if-current-eq-FIRST_VERSION.true
    (current_there c.in_ok-current.field-0 c.in-Some.current c.in-Some.is (c.in_ok-current.ensures.found image told)))
    c.find_first.ensures.refused

pub returns-then-current-eq-SECOND_VERSION-clause-begins : goal.returns-then-current-eq-SECOND_VERSION-clause-begins
returns-then-current-eq-SECOND_VERSION-clause-begins g c =
    let seen = g.D.Disk.seen in
    IfOk-weaker c.find_second.result
    (λ old. (image : List ℕ) → seen c.find_current.new.disk ≡ Some image → OldBeginsWhere 2 c.in-Some.current image old)
    (λ old. (image : List ℕ) → seen c.args.disk.now ≡ Some image → OldBeginsAt image old)
    (λ old begins image told. begins image (c.find_current.ensures.reads.same_seen ∙ told)
    c.if-current-eq-SECOND_VERSION.true
    (current_there c.in_ok-current.field-0 c.in-Some.current c.in-Some.is (c.in_ok-current.ensures.found image told)))
    c.find_second.ensures.begins

pub returns-then-current-eq-SECOND_VERSION-clause-refused : goal.returns-then-current-eq-SECOND_VERSION-clause-refused
returns-then-current-eq-SECOND_VERSION-clause-refused g c =
    let seen = g.D.Disk.seen in
    IfErr-weaker c.find_second.result
    (λ why. (image : List ℕ) → seen c.find_current.new.disk ≡ Some image → RefusesWhere 2 c.in-Some.current why image)
    (λ why. (image : List ℕ) → seen c.args.disk.now ≡ Some image → RefusesOld why image)
    (λ why refuses image told. refuses image (c.find_current.ensures.reads.same_seen ∙ told)
    c.if-current-eq-SECOND_VERSION.true
    (current_there c.in_ok-current.field-0 c.in-Some.current c.in-Some.is (c.in_ok-current.ensures.found image told)))
    c.find_second.ensures.refused

pub returns-else-current-eq-SECOND_VERSION-clause-refused : goal.returns-else-current-eq-SECOND_VERSION-clause-refused
returns-else-current-eq-SECOND_VERSION-clause-refused g c image told =
    let current = current_there c.in_ok-current.field-0 c.in-Some.current c.in-Some.is
    (c.in_ok-current.ensures.found image told) in
    c.refuse_today.ensures.refused image (c.find_current.ensures.reads.same_seen ∙ told)
    (version_three image c.in-Some.current current c.if-current-eq-FIRST_VERSION.false
    c.if-current-eq-SECOND_VERSION.false) current
