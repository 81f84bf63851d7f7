-- What a job puts can be spelt in a journal.
use Rattle.std.proofs.Common.{◌≡◌, ℕ, ◌-◌, ◌<◌, ◌^◌, ◌==◌, nat_le, Bool, true, false, cond, List, [], ◌∷◌, take, reverse, min, refl, sym, subst, ◌∙◌, Option, Some, None, arith}
use Rattle.std.specs.Prelude.{IfSome}
use Rattle.std.specs.List.{All}
use Rattle.std.proofs.lemmas.Bool.Decides.{nat_tests}
use Rattle.std.proofs.lemmas.List.{reverse-append}
use Rattle.std.proofs.lemmas.List.Elements.{All-append, All-cons, All-head, All-nil, All-tail}
use Rattle.cct_model.specs.terms.coin.TheConstants.{EVENTS}
use Rattle.cct_model.specs.terms.coin.Coin.{Coin}
use Rattle.cct_model.specs.terms.coin.Pair.{Pair}
use Rattle.cct_model.specs.terms.coin.Credits.{Credits}
use Rattle.cct_model.specs.lines.record.Record.{Record}
use Rattle.cct_model.specs.lines.record.Record.TheVariants as record_of
use Rattle.cct_model.specs.declared.judging.Judged.{Judged}
use Rattle.cct_model.specs.declared.judging.Judged.TheVariants.{Nothing, Moved, Reading, Broken}
use Rattle.cct_model.specs.declared.judging.OpenOrder.{OpenOrder}
use Rattle.cct_model.specs.Order.{close, life_between}
use Rattle.cct_model.specs.Rows.{has_waits}
use Rattle.cct_model.specs.Reading.{accepted_between, coins_among, distance, judge, posted_of, shows_break, shows_move}
use Rattle.cct_record.specs.Body.{Encodable, IsPlaced}
use Rattle.cct_jobs.specs.declared.job.Job.{Job}
use Rattle.cct_jobs.specs.declared.job.Job.TheVariants.{Asks, StartPuts, RoundPuts, StopPuts, StopEnds, OrderOpens, OrderCloses, SalePuts}
use Rattle.cct_jobs.specs.declared.job.Need.{Need}
use Rattle.cct_jobs.specs.declared.job.Need.TheVariants as need
use Rattle.cct_jobs.specs.declared.stage.Stage.TheVariants.{Pays}
use Rattle.cct_jobs.specs.Ahead.{ahead}
use Rattle.cct_jobs.specs.Jobs.{IsPut, JudgedFits, PutsFit, after_halt, after_put, need_of, put_in}

-- the coins that a reading posts have a place

coin_by : (none : Bool) (pair : Pair) (coins : List Coin) → (pair.a == 0) ≡ none → All IsPlaced coins
    → All IsPlaced (cond none coins (record { place = pair.a; path = pair.b } ∷ coins))
coin_by true pair coins is placed = placed
coin_by false pair coins is placed = All-cons IsPlaced _ coins (grind (arith, nat_tests, is)) placed

among_placed : (pairs : List Pair) → All IsPlaced (coins_among pairs)
among_placed [] = All-nil IsPlaced
among_placed (pair ∷ pairs) = coin_by (pair.a == 0) pair (coins_among pairs) refl (among_placed pairs)

reversed_placed : (coins : List Coin) → All IsPlaced coins → All IsPlaced (reverse coins)
reversed_placed [] placed = placed
reversed_placed (coin ∷ coins) placed =
    subst (All IsPlaced) (sym (reverse-append (coin ∷ []) coins))
    (All-append IsPlaced (reverse coins) (coin ∷ [])
    (reversed_placed coins (All-tail IsPlaced coin coins placed))
    (All-cons IsPlaced coin [] (All-head IsPlaced coin coins placed) (All-nil IsPlaced)))

posted_placed : (n : ℕ) (pairs : List Pair) → All IsPlaced (posted_of n pairs)
posted_placed n pairs = reversed_placed (coins_among (take (min n EVENTS) pairs)) (among_placed (take (min n EVENTS) pairs))

judged_by : (moved breaks none : Bool) (addr seen read lost now : ℕ) (posted : List Coin) → lost < 2 ^ 24 → now < 2 ^ 24
    → All IsPlaced posted → JudgedFits (cond moved Moved (cond breaks (Broken (record_of.Broken addr seen read lost now posted))
    (cond none Nothing (Reading (record_of.Reading addr read lost now posted)))))
judged_by true breaks none addr seen read lost now posted few fits placed = tt
judged_by false true none addr seen read lost now posted few fits placed = (few, fits, placed)
judged_by false false true addr seen read lost now posted few fits placed = tt
judged_by false false false addr seen read lost now posted few fits placed = (few, fits, placed)

-- fewer coins are lost than three bytes count
few_lost : (accepts now posted : ℕ) → accepted_between accepts now - posted < 2 ^ 24
unfolding accepted_between
few_lost accepts now posted = omega arith

judge_fits : (addr mask counter accepts : ℕ) (c : Credits) (seen before now : ℕ) → now < 2 ^ 24
    → JudgedFits (judge addr mask counter accepts c seen before now)
unfolding judge
judge_fits addr mask counter accepts c seen before now fits =
    judged_by (shows_move mask seen before now) (shows_break mask counter seen c.counter) _ addr seen c.counter _ now _
    (few_lost accepts now _) fits (posted_placed (distance counter c.counter) c.pairs)

pub judged_fits : (addr mask counter accepts : ℕ) (c : Credits) (seen before now : ℕ) (meaning : Judged) → now < 2 ^ 24
    → meaning ≡ judge addr mask counter accepts c seen before now → JudgedFits meaning
judged_fits addr mask counter accepts c seen before now meaning fits is =
    subst JudgedFits (sym is) (judge_fits addr mask counter accepts c seen before now fits)

-- an order is closed with life counts of three bytes

close_by : (paid : Bool) (o : OpenOrder) (n after : ℕ) → o.life < 2 ^ 24 → after < 2 ^ 24
    → Encodable (cond paid (record_of.Closed o.id n (o.count - n)) (record_of.Odd o.id o.life after))
close_by true o n after first second = tt
close_by false o n after first second = (first, second)

close_fits : (o : OpenOrder) (after : ℕ) → o.life < 2 ^ 24 → after < 2 ^ 24 → Encodable (close o after)
unfolding close
close_fits o after first second =
    close_by (nat_le (life_between o.life after) o.count) o (life_between o.life after) after first second

pub closed_fits : (o : OpenOrder) (after : ℕ) (r : Record) → o.life < 2 ^ 24 → after < 2 ^ 24 → r ≡ close o after
    → Encodable r
closed_fits o after r first second is = subst Encodable (sym is) (close_fits o after first second)

-- what is needed to be put

same_record : (r entry : Record) → need.Put r ≡ need.Put entry → r ≡ entry
same_record r entry is = cc

fits_by : (job : Job) (entry : Record) → need_of job ≡ need.Put entry → PutsFit job → Encodable entry
fits_by (StartPuts target mask counted) entry is fits = subst Encodable (same_record _ entry is) counted.fits
fits_by (RoundPuts own end) entry is fits = subst Encodable (same_record own entry is) fits
fits_by (StopPuts target own end) entry is fits = subst Encodable (same_record own entry is) fits
fits_by (StopEnds target) entry is fits = subst Encodable (same_record _ entry is) tt
fits_by (OrderOpens target own halted) entry is fits = subst Encodable (same_record _ entry is) own.fits
fits_by (OrderCloses own end) entry is fits = subst Encodable (same_record own entry is) fits
fits_by (SalePuts id price) entry is fits = subst Encodable (same_record _ entry is) tt
fits_by job entry is fits = absurd cc

pub put_fits : (job : Job) (n : Need) (entry : Record) → n ≡ need_of job → PutsFit job → n ≡ need.Put entry
    → Encodable entry
put_fits job n entry is fits puts = fits_by job entry (sym is ∙ puts) fits

due_by : (job : Job) → PutsFit job → IfSome (put_in (need_of job)) Encodable
due_by (StartPuts target mask counted) fits = counted.fits
due_by (RoundPuts own end) fits = fits
due_by (StopPuts target own end) fits = fits
due_by (StopEnds target) fits = tt
due_by (OrderOpens target own halted) fits = own.fits
due_by (OrderCloses own end) fits = fits
due_by (SalePuts id price) fits = tt
due_by job fits = tt

pub due_fits : (job : Job) (due : Option Record) → due ≡ put_in (need_of job) → PutsFit job → IfSome due Encodable
due_fits job due is fits = subst (λ o. IfSome o Encodable) (sym is) (due_by job fits)

-- after a put, and after a halt

put_leaves_fit : (job : Job) → IsPut (need_of job) → PutsFit (after_put job)
put_leaves_fit (StartPuts target mask counted) is = tt
put_leaves_fit (RoundPuts entry end) is = tt
put_leaves_fit (StopPuts target entry None) is = tt
put_leaves_fit (StopPuts target entry (Some end)) is = tt
put_leaves_fit (StopEnds target) is = tt
put_leaves_fit (OrderOpens target own halted) is = tt
put_leaves_fit (OrderCloses entry end) is = tt
put_leaves_fit (SalePuts id price) is = tt
put_leaves_fit job is = absurd is

pub after_put_fits : (job after : Job) → after ≡ after_put job → IsPut (need_of job) → PutsFit after
after_put_fits job after goes is = subst PutsFit (sym goes) (put_leaves_fit job is)

halted_fits : (job : Job) → has_waits (ahead job) ≡ true → PutsFit (after_halt job)
halted_fits (Asks target (Pays row) failed) can = tt
halted_fits (Asks target stage failed) can = tt
halted_fits (OrderOpens target own halted) can = tt
halted_fits job can = absurd cc

pub halt_fits : (job after : Job) → after ≡ after_halt job → has_waits (ahead job) ≡ true → PutsFit after
halt_fits job after goes can = subst PutsFit (sym goes) (halted_fits job can)
