-- The questions of a survey and of a roll are a chain of which nothing is reported.
use Rattle.std.proofs.Common.{◌≡◌, ℕ, true, List, [], refl, Option, Some, None}
use Rattle.cct_model.specs.terms.wire.CheckKind.{CheckKind}
use Rattle.cct_model.specs.terms.device.DeviceSetup.{DeviceSetup}
use Rattle.cct_model.specs.terms.request.Request.{Request}
use Rattle.cct_model.specs.terms.request.Request.TheVariants as request
use Rattle.cct_model.specs.terms.request.ReplyForm.{ReplyForm}
use Rattle.cct_model.specs.Exchange.{ask}
use Rattle.cct_model.specs.Reply.{Reply}
use Rattle.cct_laws_live_devices.specs.Questions.{is_question}
use Rattle.cct_laws_live_devices.specs.Chain.{Chain, IsAsking, gave_question, not_begun}
use Rattle.cct_laws_live_devices.proofs.Chains.{asks_no_more, chains}
use Rattle.cct_live_survey.specs.declared.calling.About.{About}
use Rattle.cct_live_survey.specs.declared.calling.About.TheVariants as about
use Rattle.cct_live_survey.specs.declared.roll.Answered.{Answered}
use Rattle.cct_live_survey.specs.Asking.{Asks, Tries, tried, untried}
use Rattle.cct_live_survey.specs.Roll.{AsksRoll, Calls, CallsAt, CallsOnce, Rolled, all_answered, called_more, last_silent, uncalled, was_nobody, was_silent, was_told}

module _ {L : Type 0} (gives : L → List ℕ → List ℕ → L → Type 0) where
  -- one message, however often it is sent
  pub tries_chain : (A : Type 0) (piece : List ℕ) (answer : List ℕ → Option A) (first : L) (made : ℕ) (found : Option A)
      (last : L) → IsAsking piece → Tries gives piece answer first made found last → Chain gives first [] last
  tries_chain A piece answer first _ _ _ question untried = not_begun
  tries_chain A piece answer first _ _ _ question (tried made heard line next before given) =
      gave_question [] piece heard line next (tries_chain A piece answer first made None line question before) question given

  asks_chain : (A : Type 0) (most : ℕ) (kind : CheckKind) (addr : ℕ) (q : Request) (form : ReplyForm)
      (made_of : Option Reply → A) (first : L) (told : A) (last : L) → is_question (Some q) ≡ true →
      Asks gives most kind addr q form made_of first told last → Chain gives first [] last
  asks_chain A most kind addr q form made_of first told last is asks =
      tries_chain Reply (ask kind addr q) _ first asks.asked.made asks.found last (asks_no_more kind addr q is) asks.asked.tries

  -- a question of a roll
  once_chain : (d : DeviceSetup) (a : About) (first : L) (came : _) (last : L) → CallsOnce gives d a first came last →
      Chain gives first [] last
  once_chain d about.Serial first came last (told, calls, is) = asks_chain _ 1 d.kind d.addr request.SerialNumber _ _ first told last refl calls
  once_chain d about.Category first came last (told, calls, is) = asks_chain _ 1 d.kind d.addr request.Category _ _ first told last refl calls
  once_chain d (about.Coin place) first came last (told, calls, is) =
      asks_chain _ 1 d.kind d.addr (request.CoinId place) _ _ first told last refl calls

  at_chain : (devices : List DeviceSetup) (index : ℕ) (r : Rolled) (first : L) (answered : Answered) (now : Rolled) (last : L) →
      CallsAt gives devices index r first answered now last → Chain gives first [] last
  at_chain devices index r first _ _ _ (was_told t d found last turn there calls) = once_chain d t.about first _ last calls
  at_chain devices index r first _ _ _ (was_silent t d last turn there calls) = once_chain d t.about first _ last calls
  at_chain devices index r first _ _ _ (was_nobody t turn there) = not_begun

  calls_chain : (devices : List DeviceSetup) (whom : Option ℕ) (r : Rolled) (first : L) (many : ℕ) (now : Rolled) (last : L) →
      Calls gives devices whom r first many now last → Chain gives first [] last
  calls_chain devices whom r first _ _ _ uncalled = not_begun
  calls_chain devices whom r first _ _ _ (called_more many index before now line next goes where_at calls) =
      chains gives first line next [] [] (calls_chain devices whom r first many before line goes)
      (at_chain devices index before line _ now next calls)

  pub roll_chain : (devices : List DeviceSetup) (whom : Option ℕ) (most : ℕ) (r : Rolled) (first : L) (answered : Answered)
      (now : Rolled) (last : L) → AsksRoll gives devices whom most r first answered now last → Chain gives first [] last
  roll_chain devices whom most r first _ _ _ (all_answered many now last few goes ends) =
      calls_chain devices whom r first many now last goes
  roll_chain devices whom most r first _ _ _ (last_silent many index before now line last few goes where_at calls) =
      chains gives first line last [] [] (calls_chain devices whom r first many before line goes)
      (at_chain devices index before line _ now last calls)
