-- What a sale needs, what it puts, and what it reserves until then.
use Rattle.std.proofs.Common.{◌≡◌, ℕ, ◌+◌, Bool, false, List, ◌∷◌, refl, sym, ap, ap₂, ◌∙◌, Option, Some, None, arith}
use Rattle.cct_model.specs.lines.command.Command.{Command}
use Rattle.cct_model.specs.lines.entry.End.{End}
use Rattle.cct_model.specs.lines.record.Record.{Record}
use Rattle.cct_model.specs.lines.record.Record.TheVariants as record_of
use Rattle.cct_model.specs.terms.device.DeviceSetup.{DeviceSetup}
use Rattle.cct_model.specs.terms.device.Setup.{Setup}
use Rattle.cct_model.specs.declared.judging.EpochState.{EpochState}
use Rattle.cct_model.specs.declared.judging.OpenOrder.{OpenOrder}
use Rattle.cct_model.specs.Job.{works}
use Rattle.cct_model.specs.Rows.{has_closes, has_waits, left_of_sale, puts_in, row_of_sale}
use Rattle.cct_model.specs.Line.{Line, put}
use Rattle.cct_model.specs.Money.{freed_by, reserved_by_sale}
use Rattle.cct_jobs.specs.declared.job.Job.{Job}
use Rattle.cct_jobs.specs.declared.job.Job.TheVariants.{Asks, SalePuts, Done}
use Rattle.cct_jobs.specs.declared.job.Need.{Need}
use Rattle.cct_jobs.specs.declared.job.Need.TheVariants as need
use Rattle.cct_jobs.specs.declared.owed.Owed.{Owed}
use Rattle.cct_jobs.specs.Ahead.{ahead, coins_in, price_in}
use Rattle.cct_jobs.specs.Jobs.{Stands, after_put, end_of_job, need_of, owed_after}
use Rattle.cct_jobs.specs.Sales.{NeedsSale, StandsSale, newest_sale_end}
use Rattle.cct_jobs.proofs.StageFacts.{of_stage}

-- what it needs, and how it ended

needs_by : (job : Job) (c : Command) (since : List Line) → StandsSale job c since → NeedsSale (need_of job) c since
needs_by (SalePuts id price) c since at = ap₂ row_of_sale at.command_is at.unsold
needs_by (Done end) c since at = ap₂ newest_sale_end at.command_is at.sold ∙ ap Some (sym at.end_is)
needs_by job c since at = absurd at

pub sale_need_known : (job : Job) (c : Command) (since : List Line) (n : Need) → n ≡ need_of job
    → StandsSale job c since → NeedsSale n c since
sale_need_known job c since n is at = rw is (needs_by job c since at)

end_by : (job : Job) (c : Command) (since : List Line) → StandsSale job c since
    → end_of_job job ≡ newest_sale_end c since
end_by (SalePuts id price) c since at = sym (ap (newest_sale_end c) at.unsold)
end_by (Done end) c since at = sym (needs_by (Done end) c since at)
end_by job c since at = absurd at

pub sale_end_known : (job : Job) (c : Command) (since : List Line) (end : Option End) → end ≡ end_of_job job
    → StandsSale job c since → end ≡ newest_sale_end c since
sale_end_known job c since end is at = is ∙ end_by job c since at

-- what it may put, and what it reserves until then

may_put_by : (job : Job) (c : Command) (since : List Line) → StandsSale job c since → newest_sale_end c since ≡ None
    → puts_in (ahead job) ≡ puts_in (left_of_sale c since)
may_put_by (SalePuts id price) c since at on = sym (ap₂ (λ k lines. puts_in (left_of_sale k lines)) at.command_is at.unsold)
may_put_by (Done end) c since at on =
    let ended : newest_sale_end c since ≡ Some end = needs_by (Done end) c since at in
    absurd cc
may_put_by job c since at on = absurd at

pub sale_may_put : (job : Job) (c : Command) (since : List Line) (n : ℕ) → n ≡ puts_in (ahead job)
    → StandsSale job c since → newest_sale_end c since ≡ None → n ≡ puts_in (left_of_sale c since)
sale_may_put job c since n is at on = is ∙ may_put_by job c since at on

and_none : (n : ℕ) → n ≡ n + 0
and_none n = omega arith

price_by : (setup : Setup) (job : Job) (c : Command) (since : List Line) → StandsSale job c since
    → newest_sale_end c since ≡ None → price_in (ahead job) ≡ reserved_by_sale setup (works c since)
price_by setup (SalePuts id price) c since at on =
    and_none price
    ∙ sym (ap₂ (λ k lines. reserved_by_sale setup (works k lines)) at.command_is at.unsold)
price_by setup (Done end) c since at on =
    let ended : newest_sale_end c since ≡ Some end = needs_by (Done end) c since at in
    absurd cc
price_by setup job c since at on = absurd at

pub sale_price : (setup : Setup) (job : Job) (c : Command) (since : List Line) (n : ℕ) → n ≡ price_in (ahead job)
    → StandsSale job c since → newest_sale_end c since ≡ None → n ≡ reserved_by_sale setup (works c since)
sale_price setup job c since n is at on = is ∙ price_by setup job c since at on

-- the record that it is about to put frees just that
pub price_freed : (setup : Setup) (job : Job) (c : Command) (since : List Line) (r : Record)
    → need_of job ≡ need.Put r → StandsSale job c since → price_in (ahead job) ≡ freed_by setup r
price_freed setup (SalePuts id price) c since r is at =
    let same : record_of.Sold id price ≡ r = cc in
    ap (freed_by setup) same
price_freed setup (Done end) c since r is at = absurd cc
price_freed setup job c since r is at = absurd at

-- the job at a device has no price
price_none : (d : DeviceSetup) (job : Job) (c : Command) (since : List Line) (state : EpochState)
    (owed : Option OpenOrder) → Stands d job c since state owed → price_in (ahead job) ≡ 0
price_none d (Asks device stage failed) c since state owed at = (of_stage stage device).price
price_none d (SalePuts id price) c since state owed at = absurd at
price_none d job c since state owed at = refl

pub no_price : (d : DeviceSetup) (job : Job) (c : Command) (since : List Line) (state : EpochState)
    (owed : Option OpenOrder) (n : ℕ) → n ≡ price_in (ahead job) → Stands d job c since state owed → n ≡ 0
no_price d job c since state owed n is at = is ∙ price_none d job c since state owed at

-- what it has none of

-- what holds of a sale that is still to be put, and of a job that is done, holds of each job that represents its lines
by_sale : (P : Job → Type 0) → ((id price : ℕ) → P (SalePuts id price)) → ((end : End) → P (Done end)) → (job : Job)
    (c : Command) (since : List Line) → StandsSale job c since → P job
by_sale P to_put ended (SalePuts id price) c since at = to_put id price
by_sale P to_put ended (Done end) c since at = ended end
by_sale P to_put ended job c since at = absurd at

pub no_coins : (job : Job) (c : Command) (since : List Line) (n : ℕ) → n ≡ coins_in (ahead job)
    → StandsSale job c since → n ≡ 0
no_coins job c since n is at =
    is ∙ by_sale (λ j. coins_in (ahead j) ≡ 0) (λ id price. refl) (λ end. refl) job c since at

pub sale_never_closes : (job : Job) (c : Command) (since : List Line) (b : Bool) → b ≡ has_closes (ahead job)
    → StandsSale job c since → b ≡ false
sale_never_closes job c since b is at =
    is ∙ by_sale (λ j. has_closes (ahead j) ≡ false) (λ id price. refl) (λ end. refl) job c since at

pub sale_never_halts : (job : Job) (c : Command) (since : List Line) (b : Bool) → b ≡ has_waits (ahead job)
    → StandsSale job c since → b ≡ false
sale_never_halts job c since b is at =
    is ∙ by_sale (λ j. has_waits (ahead j) ≡ false) (λ id price. refl) (λ end. refl) job c since at

-- what its put leaves

sells_by : (job : Job) (c : Command) (since : List Line) (entry : Record) → need_of job ≡ need.Put entry
    → StandsSale job c since → StandsSale (after_put job) c (put entry ∷ since)
sells_by (SalePuts id price) c since entry e at =
    let same : record_of.Sold id price ≡ entry = cc in
    record {
      id = id;
      price = price;
      command_is = at.command_is;
      sold = ap₂ (λ r before. put r ∷ before) (sym same) at.unsold;
      end_is = refl;
    }
sells_by (Done end) c since entry e at = absurd cc
sells_by job c since entry e at = absurd at

pub put_sells : (job after : Job) (c : Command) (since : List Line) (entry : Record) → after ≡ after_put job
    → need_of job ≡ need.Put entry → StandsSale job c since → StandsSale after c (put entry ∷ since)
put_sells job after c since entry is e at = rw is (sells_by job c since entry e at)

pub sale_owes : (job : Job) (c : Command) (since : List Line) (before after : Option Owed)
    → after ≡ owed_after job before → StandsSale job c since → after ≡ before
sale_owes job c since before after is at =
    is ∙ by_sale (λ j. owed_after j before ≡ before) (λ id price. refl) (λ end. refl) job c since at
