-- What holds of the rows and the request of each stage: one record of facts a stage.
use Rattle.std.proofs.Common.{◌≡◌, ℕ, zero, suc, ◌+◌, ◌*◌, ◌≤◌, ◌==◌, Bool, true, false, List, [], ◌∷◌, refl, sym, ap, ◌∙◌, Option, Some, None, arith, true≢false}
use Rattle.std.specs.Prelude.{⊤, slice_get}
use Rattle.cct_model.specs.terms.device.Setup.{Setup}
use Rattle.cct_model.specs.terms.family.Family.{Family}
use Rattle.cct_model.specs.terms.family.Family.TheVariants as family
use Rattle.cct_model.specs.terms.request.Request.{Request}
use Rattle.cct_model.specs.terms.request.Request.TheVariants.{RouteBill, SetMask}
use Rattle.cct_model.specs.declared.judging.EpochState.{EpochState}
use Rattle.cct_model.specs.declared.judging.Judged.{Judged}
use Rattle.cct_model.specs.declared.judging.OpenOrder.{OpenOrder}
use Rattle.cct_model.specs.Exchange.{device_at}
use Rattle.cct_model.specs.Reply.{Reply}
use Rattle.cct_model.specs.Line.{Line, exchange}
use Rattle.cct_model.specs.Job.{Noted, accepts_read, credits_request, noted_in, sends}
use Rattle.cct_model.specs.Money.{coins_of, hopper_value, reserved_for}
use Rattle.cct_model.specs.Rows.{TableRow, after, asks_for, asks_once, ends_first, first, from, has_waits, new_order, puts_due, puts_in, sale, telling, waits_for_coins}
use Rattle.cct_msg.specs.Forms.{FitsItsBytes}
use Rattle.cct_jobs.specs.declared.payout.Payout.{Payout}
use Rattle.cct_jobs.specs.declared.payout.Payout.TheVariants.{Enables, Counts, Dispenses}
use Rattle.cct_jobs.specs.declared.stage.Stage.{Stage}
use Rattle.cct_jobs.specs.declared.stage.Stage.TheVariants.{StartSets, CountsBefore, Reads, Looks, CountsAfter, IdentAsks, PathSets, PathReads, Routes, Pays, StartReads}
use Rattle.cct_jobs.specs.declared.stage.ReadBy.TheVariants.{Round, Stop}
use Rattle.cct_jobs.specs.declared.target.Target.{Target}
use Rattle.cct_jobs.specs.Ahead.{body_of, coins_in, payout_ahead, place_of, price_in, questions_of, stage_ahead}
use Rattle.cct_jobs.specs.Jobs.{Knows, Suits, request_of}
use Rattle.cct_jobs.proofs.Payouts.{first_of_payout, marked_for, payout_fits, payout_knows}
use Rattle.cct_jobs.proofs.Questions.{question_again}
use Rattle.cct_jobs.proofs.Told.{ident_none, told_is}
use Rattle.cct_msg.proofs.Exchanges.{again_fits}
use Rattle.cct_model.proofs.Rows.{told_first}
use Rattle.cct_model.proofs.Tries.{credits_again, path_read_again, path_set_again}

-- a payment or a settlement
abbrev pub IsPays : Stage → Type 0
IsPays (Pays row) = ⊤
IsPays stage = ⊥

-- any other stage: any answer ends its row
abbrev pub IsSettled : Stage → Type 0
IsSettled (Pays row) = ⊥
IsSettled stage = ⊤

-- Its first row asks, so none is passed over, and any answer ends it; only a payment and a
-- settlement wait for a payout; its rows reserve the coins that they show and no price, and put two
-- records at most. What it sends is its request, which fits its bytes, and it knows the same after
-- a failed try.
pub record StageFacts (stage : Stage) (device : Target) : Type 0 where
  pub stays : (means : Judged) → from (stage_ahead device stage) means ≡ stage_ahead device stage
  pub ends : (y : Reply) → IsSettled stage → Suits stage device → ends_first (stage_ahead device stage) (Some y) ≡ true
  pub waits : has_waits (stage_ahead device stage) ≡ true → IsPays stage
  pub reserves : (setup : Setup) (addr : ℕ) →
      coins_of setup addr (coins_in (stage_ahead device stage)) ≡ reserved_for setup addr (stage_ahead device stage)
  pub price : price_in (stage_ahead device stage) ≡ 0
  pub puts : puts_in (stage_ahead device stage) ≤ 2
  pub sent : (addr : ℕ) (means : Judged) (since : List Line) (state : EpochState) (owed : Option OpenOrder) →
      Knows stage since state owed → Suits stage device →
      first addr means (noted_in since owed) (from (stage_ahead device stage) means) ≡ sends (request_of device.family stage)
  pub fits : Suits stage device → FitsItsBytes (request_of device.family stage)
  pub knows : (since : List Line) (state : EpochState) (owed : Option OpenOrder) → Knows stage since state owed →
      Knows stage (exchange (Some (request_of device.family stage)) None ∷ since) state owed

-- rows that wait for no payout, and reserve nothing
abbrev are_plain : List TableRow → Bool
are_plain [] = true
are_plain (waits_for_coins ∷ rows) = false
are_plain (puts_due (new_order id count) behind ∷ rows) = false
are_plain (puts_due (sale id price) behind ∷ rows) = false
are_plain (row ∷ rows) = are_plain rows

-- such rows, the first of which asks
abbrev ask_plainly : List TableRow → Bool
ask_plainly (asks_for q behind ∷ rows) = are_plain rows
ask_plainly (asks_once q behind without ∷ rows) = are_plain rows
ask_plainly rows = false

record PlainRows (rows : List TableRow) : Type 0 where
  waits : has_waits rows ≡ false
  coins : coins_in rows ≡ 0
  price : price_in rows ≡ 0
  reserves : (setup : Setup) (addr : ℕ) → reserved_for setup addr rows ≡ 0

plain_rows : (rows : List TableRow) → are_plain rows ≡ true → PlainRows rows
plain_rows [] plain = record { waits = refl; coins = refl; price = refl; reserves = λ setup addr. refl }
plain_rows (waits_for_coins ∷ rows) plain = absurd cc
plain_rows (puts_due (new_order id count) behind ∷ rows) plain = absurd cc
plain_rows (puts_due (sale id price) behind ∷ rows) plain = absurd cc
plain_rows (row ∷ rows) plain =
    let more = plain_rows rows plain in
    record {
      waits = more.waits;
      coins = more.coins;
      price = more.price;
      reserves = λ setup addr.
          let none = more.reserves setup addr in
          omega (arith, none);
    }

-- rows that ask plainly
record AskingRows (rows : List TableRow) : Type 0 where
  stays : (means : Judged) → from rows means ≡ rows
  ends : (y : Reply) → ends_first rows (Some y) ≡ true
  none : PlainRows rows

asking_rows : (rows : List TableRow) → ask_plainly rows ≡ true → AskingRows rows
asking_rows (asks_for q behind ∷ rows) asks =
    record { stays = λ means. refl; ends = λ y. refl; none = plain_rows (asks_for q behind ∷ rows) asks }
asking_rows (asks_once q behind without ∷ rows) asks =
    record { stays = λ means. refl; ends = λ y. refl; none = plain_rows (asks_once q behind without ∷ rows) asks }
asking_rows rows asks = absurd cc

none_of : (value : ℕ) → 0 * value ≡ 0
none_of value = omega arith

pub nothing : (setup : Setup) (addr : ℕ) → coins_of setup addr 0 ≡ 0
nothing setup addr = none_of (hopper_value (device_at setup.devices addr))

pub and_none : (n : ℕ) → n ≡ n + 0
and_none n = omega arith

module _ {stage : Stage} (device : Target) where
  -- the facts of a stage whose rows ask plainly
  plain : ask_plainly (stage_ahead device stage) ≡ true → puts_in (stage_ahead device stage) ≤ 2 →
      ((addr : ℕ) (means : Judged) (p : Noted) →
      first addr means p (stage_ahead device stage) ≡ sends (request_of device.family stage)) →
      FitsItsBytes (request_of device.family stage) →
      ((since : List Line) (state : EpochState) (owed : Option OpenOrder) → Knows stage since state owed →
      Knows stage (exchange (Some (request_of device.family stage)) None ∷ since) state owed) → StageFacts stage device
  plain asks puts sent fits knows =
      let rows = asking_rows (stage_ahead device stage) asks in
      record {
        stays = rows.stays;
        ends = λ y settled suits. rows.ends y;
        waits = λ waits. absurd (true≢false (sym waits ∙ rows.none.waits));
        reserves = λ setup addr. ap (coins_of setup addr) rows.none.coins ∙ nothing setup addr ∙ sym (rows.none.reserves setup addr);
        price = rows.none.price;
        puts = puts;
        sent = λ addr means since state owed knows suits.
            ap (first addr means (noted_in since owed)) (rows.stays means) ∙ sent addr means (noted_in since owed);
        fits = λ suits. fits;
        knows = knows;
      }

mask_fits : (mask : ℕ) → FitsItsBytes (SetMask mask)
mask_fits mask number count e = absurd cc

way_fits : (way : ℕ) → FitsItsBytes (RouteBill way)
way_fits way number count e = absurd cc

-- one that reads credits leaves which accept counter was read before
before_kept : (which : Family) (since : List Line)
    → accepts_read (exchange (Some (credits_request (body_of which))) None ∷ since) ≡ accepts_read since
before_kept family.Acceptor since = refl
before_kept family.Hopper since = refl
before_kept family.Bill since = refl

-- of a question of an identification

told_ends : (qs : List Request) (n : ℕ) (q : Request) (y : Reply) → slice_get qs n ≡ Some q
    → ends_first (after (telling qs) n) (Some y) ≡ true
told_ends [] n q y is = absurd cc
told_ends (x ∷ []) zero q y is = refl
told_ends (x ∷ []) (suc n) q y is = absurd cc
told_ends (x ∷ z ∷ qs) zero q y is = refl
told_ends (x ∷ z ∷ qs) (suc n) q y is = told_ends (z ∷ qs) n q y is

of_question : (question : Request) (device : Target) → StageFacts (IdentAsks question) device
of_question question device =
    let place = place_of question (questions_of device) in
    record {
      stays = λ means. told_is (λ rows. from rows means ≡ rows) refl (λ q behind rows. refl) (questions_of device) place;
      ends = λ y settled suits. told_ends (questions_of device) place question y suits;
      waits = λ waits. absurd (true≢false (sym waits ∙ ident_none has_waits (λ q behind rows. refl) device question));
      reserves = λ setup addr.
          ap (coins_of setup addr) (ident_none coins_in (λ q behind rows. refl) device question)
          ∙ nothing setup addr
          ∙ sym (ident_none (reserved_for setup addr) (λ q behind rows. refl) device question);
      price = ident_none price_in (λ q behind rows. refl) device question;
      puts =
          let none = ident_none puts_in (λ q behind rows. refl) device question in
          omega (arith, none);
      sent = λ addr means since state owed knows suits.
          told_first addr (questions_of device) place means (noted_in since owed) question suits;
      fits = λ suits. again_fits question (question_again device.family place question suits);
      knows = λ since state owed knows. tt;
    }

-- of a payment or a settlement

payout_stays : (row : Payout) (device : Target) (means : Judged) → from (payout_ahead device row) means ≡ payout_ahead device row
payout_stays (Dispenses serial own halted) device means = refl
payout_stays row device means = refl

payout_reserves : (setup : Setup) (addr : ℕ) (row : Payout) (device : Target)
    → coins_of setup addr (coins_in (payout_ahead device row)) ≡ reserved_for setup addr (payout_ahead device row)
payout_reserves setup addr (Enables id count halted) device = and_none (coins_of setup addr count)
payout_reserves setup addr (Counts id count halted) device = and_none (coins_of setup addr count)
payout_reserves setup addr row device = nothing setup addr

payout_price : (row : Payout) (device : Target) → price_in (payout_ahead device row) ≡ 0
payout_price (Enables id count halted) device = refl
payout_price row device = refl

payout_puts : (row : Payout) (device : Target) → puts_in (payout_ahead device row) ≤ 2
payout_puts (Enables id count halted) device = omega arith
payout_puts (Counts id count halted) device = omega arith
payout_puts row device = omega arith

of_payout : (row : Payout) (device : Target) → StageFacts (Pays row) device
of_payout row device = record {
  stays = payout_stays row device;
  ends = λ y settled suits. absurd settled;
  waits = λ waits. tt;
  reserves = λ setup addr. payout_reserves setup addr row device;
  price = payout_price row device;
  puts = payout_puts row device;
  sent = λ addr means since state owed knows suits.
      first_of_payout row device addr means (noted_in since owed) suits (marked_for row since owed knows);
  fits = payout_fits row device;
  knows = λ since state owed knows. payout_knows row since owed knows;
}

-- Of each stage: a new one that asks plainly has a line here only where its request isn't sent again by its form alone, or
-- where it knows something.
pub of_stage : (stage : Stage) (device : Target) → StageFacts stage device
of_stage (StartReads mask) device =
    plain device refl (omega arith) (λ addr means p. refl) (again_fits _ (credits_again (body_of device.family)))
    (λ since state owed knows. knows)
of_stage (StartSets mask) device =
    plain device refl (omega arith) (λ addr means p. refl) (mask_fits mask) (λ since state owed knows. knows)
of_stage (CountsBefore Round recorded) device =
    plain device refl (omega arith) (λ addr means p. refl) (again_fits _ refl) (λ since state owed knows. knows)
of_stage (CountsBefore Stop recorded) device =
    plain device refl (omega arith) (λ addr means p. refl) (again_fits _ refl) (λ since state owed knows. knows)
of_stage (Reads Round recorded before) device =
    plain device refl (omega arith) (λ addr means p. refl) (again_fits _ (credits_again (body_of device.family)))
    (λ since state owed knows. (knows.0, before_kept device.family since ∙ knows.1))
of_stage (Reads Stop recorded before) device =
    plain device refl (omega arith) (λ addr means p. refl) (again_fits _ (credits_again (body_of device.family)))
    (λ since state owed knows. (knows.0, before_kept device.family since ∙ knows.1))
of_stage (Looks Round recorded before read) device =
    plain device refl (omega arith) (λ addr means p. refl) (again_fits _ refl) (λ since state owed knows. knows)
of_stage (Looks Stop recorded before read) device =
    plain device refl (omega arith) (λ addr means p. refl) (again_fits _ refl) (λ since state owed knows. knows)
of_stage (CountsAfter Round recorded before read seen) device =
    plain device refl (omega arith) (λ addr means p. refl) (again_fits _ refl) (λ since state owed knows. knows)
of_stage (CountsAfter Stop recorded before read seen) device =
    plain device refl (omega arith) (λ addr means p. refl) (again_fits _ refl) (λ since state owed knows. knows)
of_stage (IdentAsks question) device = of_question question device
of_stage (PathSets place path) device =
    plain device refl (omega arith) (λ addr means p. refl) (again_fits _ (path_set_again (place == 0) place path))
    (λ since state owed knows. knows)
of_stage (PathReads place path) device =
    plain device refl (omega arith) (λ addr means p. refl) (again_fits _ (path_read_again (place == 0) place))
    (λ since state owed knows. knows)
of_stage (Routes way) device =
    plain device refl (omega arith) (λ addr means p. refl) (way_fits way) (λ since state owed knows. knows)
of_stage (Pays row) device = of_payout row device
of_stage stage device =
    plain device refl (omega arith) (λ addr means p. refl) (again_fits _ refl) (λ since state owed knows. knows)
