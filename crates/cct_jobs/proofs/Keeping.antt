-- A job that goes on keeps to the rows that it had ahead.
use Rattle.std.proofs.Common.{◌≡◌, List, [], refl, sym, subst, arith}
use Rattle.cct_model.specs.declared.judging.Judged.{Judged}
use Rattle.cct_model.specs.declared.judging.Judged.TheVariants.{Nothing, Moved, Reading, Broken}
use Rattle.cct_model.specs.terms.request.Request.{Request}
use Rattle.cct_model.specs.lines.entry.End.{End}
use Rattle.cct_model.specs.Rows.{TableRow, puts_in}
use Rattle.cct_jobs.specs.declared.job.Job.{Job}
use Rattle.cct_jobs.specs.declared.job.Job.TheVariants.{Asks, Done}
use Rattle.cct_jobs.specs.declared.stage.Stage.TheVariants.{IdentAsks}
use Rattle.cct_jobs.specs.declared.stage.ReadBy.TheVariants.{Round, Stop}
use Rattle.cct_jobs.specs.declared.target.Target.{Target}
use Rattle.cct_jobs.specs.Ahead.{coins_in, stage_ahead, reading_ahead}
use Rattle.cct_jobs.specs.Jobs.{JudgedFits, round_after, stop_after}
use Rattle.cct_jobs.specs.Onward.{KeepsTo}
use Rattle.cct_jobs.proofs.Told.{ident_none}

-- a job that is done keeps to any rows
pub done_keeps : (rows : List TableRow) (end : End) → KeepsTo rows (Done end)
done_keeps rows end = record {
  may_put = omega arith;
  fits = tt;
  closes = λ closes some. absurd (omega (arith, some));
  reserves = omega arith;
}

-- what keeps to no rows keeps to any
pub none_keep : (rows : List TableRow) (job : Job) → KeepsTo [] job → KeepsTo rows job
none_keep rows job none = record {
  may_put = omega (arith, none.may_put);
  fits = none.fits;
  closes = λ closes some. absurd (omega (arith, some, none.may_put));
  reserves = omega (arith, none.reserves);
}

-- an identification puts nothing

ident_by : (device : Target) (question : Request) → KeepsTo [] (Asks device (IdentAsks question) 0)
ident_by device question =
    let puts : puts_in (stage_ahead device (IdentAsks question)) ≡ 0 =
    ident_none puts_in (λ q behind rows. refl) device question in
    let coins : coins_in (stage_ahead device (IdentAsks question)) ≡ 0 =
    ident_none coins_in (λ q behind rows. refl) device question in
    record {
      may_put = omega (arith, puts);
      fits = tt;
      closes = λ closes some. absurd cc;
      reserves = omega (arith, coins);
    }

pub ident_keeps : (device : Target) (question : Request) (job : Job) → job ≡ Asks device (IdentAsks question) 0
    → KeepsTo [] job
ident_keeps device question job is = subst (KeepsTo []) (sym is) (ident_by device question)

-- after a reading was judged

round_by : (device : Target) (meaning : Judged) → JudgedFits meaning
    → KeepsTo (reading_ahead device Round) (round_after meaning)
round_by device Nothing fits = done_keeps _ _
round_by device Moved fits = done_keeps _ _
round_by device (Reading entry) fits = record {
  may_put = omega arith;
  fits = fits;
  closes = λ closes some. absurd cc;
  reserves = omega arith;
}
round_by device (Broken entry) fits = record {
  may_put = omega arith;
  fits = fits;
  closes = λ closes some. absurd cc;
  reserves = omega arith;
}

pub round_keeps : (device : Target) (meaning : Judged) (job : Job) → job ≡ round_after meaning → JudgedFits meaning
    → KeepsTo (reading_ahead device Round) job
round_keeps device meaning job is fits =
    subst (KeepsTo (reading_ahead device Round)) (sym is) (round_by device meaning fits)

stop_by : (device : Target) (meaning : Judged) → JudgedFits meaning
    → KeepsTo (reading_ahead device Stop) (stop_after device meaning)
stop_by device Nothing fits = record {
  may_put = omega arith;
  fits = tt;
  closes = λ closes some. absurd cc;
  reserves = omega arith;
}
stop_by device Moved fits = done_keeps _ _
stop_by device (Reading entry) fits = record {
  may_put = omega arith;
  fits = fits;
  closes = λ closes some. absurd cc;
  reserves = omega arith;
}
stop_by device (Broken entry) fits = record {
  may_put = omega arith;
  fits = fits;
  closes = λ closes some. absurd cc;
  reserves = omega arith;
}

pub stop_keeps : (device : Target) (meaning : Judged) (job : Job) → job ≡ stop_after device meaning
    → JudgedFits meaning → KeepsTo (reading_ahead device Stop) job
stop_keeps device meaning job is fits =
    subst (KeepsTo (reading_ahead device Stop)) (sym is) (stop_by device meaning fits)
