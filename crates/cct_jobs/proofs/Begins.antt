-- How a job begins.
use Rattle.std.proofs.Common.{◌≡◌, ℕ, List, [], ◌∷◌, refl, sym, ap, subst, ◌∙◌, Option, Some, arith}
use Rattle.std.specs.Prelude.{slice_get}
use Rattle.cct_model.specs.lines.command.Command.{Command}
use Rattle.cct_model.specs.lines.command.Command.TheVariants as command
use Rattle.cct_model.specs.terms.device.DeviceBody.{DeviceBody}
use Rattle.cct_model.specs.terms.device.DeviceBody.TheVariants.{Acceptor, Bill, Hopper}
use Rattle.cct_model.specs.terms.device.DeviceSetup.{DeviceSetup}
use Rattle.cct_model.specs.declared.judging.EpochState.{EpochState}
use Rattle.cct_model.specs.declared.judging.OpenOrder.{OpenOrder}
use Rattle.cct_model.specs.terms.request.Request.TheVariants.{AcceptCount, MakerId, ResetDevice, SetMaster}
use Rattle.cct_model.specs.Exchange.{device_at}
use Rattle.cct_model.specs.Family.{family_of}
use Rattle.cct_model.specs.Job.{address_of, credits_request}
use Rattle.cct_model.specs.Rows.{TableRow, after, asks_for, goes_on, if_quiet, rows_of, telling}
use Rattle.cct_jobs.specs.declared.job.Job.{Job}
use Rattle.cct_jobs.specs.declared.job.Job.TheVariants.{Asks}
use Rattle.cct_jobs.specs.declared.stage.Stage.{Stage}
use Rattle.cct_jobs.specs.declared.stage.Stage.TheVariants.{IdentAsks}
use Rattle.cct_jobs.specs.declared.target.Target.{Target}
use Rattle.cct_jobs.specs.Ahead.{body_of, place_of, questions_of, stage_ahead, table_of}
use Rattle.cct_jobs.specs.Jobs.{Knows, Stands, Suits, target_of}
use Rattle.cct_model.proofs.Addresses.{address_there}
use Rattle.cct_model.proofs.Rows.{after_none}
use Rattle.cct_jobs.proofs.Moves.{begun_rest}
use Rattle.cct_jobs.proofs.Questions.{same_questions}

-- how a device is asked for its credits, by its family
same_credits : (body : DeviceBody) → credits_request (body_of (family_of body)) ≡ credits_request body
same_credits (Acceptor accepts values ids) = refl
same_credits (Hopper life value) = refl
same_credits (Bill accepts values ids) = refl

-- the table looks at nothing else of a device than what a job knows of it
pub table_known : (d : DeviceSetup) (c : Command) → table_of (target_of d) c ≡ rows_of d c
table_known d (command.Start addr mask) =
    ap (λ q. asks_for ResetDevice goes_on ∷ asks_for q if_quiet ∷ after (rows_of d (command.Start addr mask)) 2) (same_credits d.body)
table_known d (command.Round addr) =
    ap (λ q. asks_for AcceptCount goes_on ∷ asks_for q goes_on ∷ after (rows_of d (command.Round addr)) 2) (same_credits d.body)
table_known d (command.Stop addr) =
    ap (λ q. asks_for (SetMaster 0) goes_on ∷ asks_for AcceptCount goes_on ∷ asks_for q goes_on ∷ after (rows_of d (command.Stop addr)) 3)
    (same_credits d.body)
table_known d (command.Ident addr) = ap telling (same_questions d.body)
table_known d c = refl

-- what a job of a command begins at: the rows of a command are all ahead
pub begun_ahead : (devices : List DeviceSetup) (addr : ℕ) (d : DeviceSetup) (device : Target) (c k : Command)
    (rows : List TableRow) → c ≡ k → address_of k ≡ addr → device_at devices (address_of c) ≡ Some d
    → ((x : DeviceSetup) → device_at devices addr ≡ Some x → device ≡ target_of x) → rows ≡ table_of device k
    → rows ≡ rows_of d c
begun_ahead devices addr d device c k rows is here there known rows_are =
    let at : device_at devices addr ≡ Some d = ap (device_at devices) (sym (ap address_of is ∙ here)) ∙ there in
    rows_are ∙ ap (λ (t : Target). table_of t k) (known d at) ∙ table_known d k ∙ ap (rows_of d) (sym is)

-- the first question of an identification
pub first_question : (device : Target) → slice_get (questions_of device) (place_of MakerId (questions_of device)) ≡ Some MakerId
first_question device = refl

pub first_ahead : (device : Target) → stage_ahead device (IdentAsks MakerId) ≡ telling (questions_of device)
first_ahead device = after_none (telling (questions_of device))

-- a job of a command for its device, at its first row
pub first_stage : (devices : List DeviceSetup) (addr : ℕ) (d : DeviceSetup) (device : Target) (stage : Stage)
    (c k : Command) (state : EpochState) (owed : Option OpenOrder) (job : Job) → job ≡ Asks device stage 0
    → c ≡ k → address_of k ≡ addr → device_at devices (address_of c) ≡ Some d
    → ((x : DeviceSetup) → device_at devices addr ≡ Some x → device ≡ target_of x)
    → stage_ahead device stage ≡ table_of device k → (device ≡ target_of d → Suits stage device)
    → Knows stage [] state owed → Stands d job c [] state owed
first_stage devices addr d device stage c k state owed job begun is here there known rows suits knows =
    let at : device_at devices addr ≡ Some d = ap (device_at devices) (sym (ap address_of is ∙ here)) ∙ there in
    subst (λ j. Stands d j c [] state owed) (sym begun)
    (record {
      device_is = known d at;
      is_here = ap address_of is ∙ here ∙ sym (address_there devices addr d at);
      ahead_is = begun_rest d c ∙ sym (begun_ahead devices addr d device c k _ is here there known rows);
      suits = suits (known d at);
      knows = knows;
      trying = record { counted = refl; few = omega arith };
      goes_on = refl;
    })
