-- A life with one exchange over an honest line; and what no prompt line, no chain, no wire and no world does.
use Rattle.std.proofs.Common.{◌≡◌, inl, inr, ℕ, ◌<◌, ◌≤◌, true, false, List, [], ◌∷◌, ◌++◌, replicate, refl, sym, ap, ◌∙◌, Option, Some, Result, arith, true≢false}
use Rattle.std.proofs.lemmas.List.Elements.{All-cons, All-nil, All-replicate}
use Rattle.cct_edge.specs.declared.fault.Failed.{Failed}
use Rattle.cct_model.specs.terms.wire.CheckKind.TheVariants.{Simple}
use Rattle.cct_model.specs.terms.device.DeviceBody.TheVariants.{Acceptor, Hopper}
use Rattle.cct_model.specs.terms.device.DeviceSetup.{DeviceSetup}
use Rattle.cct_model.specs.terms.device.Setup.{Setup}
use Rattle.cct_model.specs.lines.command.Command.TheVariants as command
use Rattle.cct_model.specs.lines.entry.Entry.{Entry}
use Rattle.cct_model.specs.lines.entry.Entry.TheVariants as entry
use Rattle.cct_model.specs.Acceptor.{acceptor_reply}
use Rattle.cct_model.specs.Device.{IsPrinting, IsSound, IsId, IsWord, common_reply, reply_of}
use Rattle.cct_model.specs.Exchange.{after_echo, ask, asked, asker, asks_of, got}
use Rattle.cct_model.specs.Message.{message, spelling}
use Rattle.cct_model.specs.Reply.{reply_data, reply_in}
use Rattle.cct_model.specs.Request.{data_of, form_of, request_of, requests_with}
use Rattle.cct_model.specs.terms.request.Request.TheVariants.{Dispense}
use Rattle.cct_model.specs.Setting.{has_place}
use Rattle.cct_model.specs.Setup.{IsSoundSetup}
use Rattle.cct_model.specs.Transcript.{got_by}
use Rattle.cct_live_port.specs.declared.port.Options.{Options}
use Rattle.cct_live_port.specs.declared.port.Port.{Port}
use Rattle.cct_live_port.specs.Calls.{brought, paused, unread}
use Rattle.cct_live_port.specs.Port.{Gives}
use Rattle.cct_laws_live.specs.Life.{IsLife, IsLifeStep}
use Rattle.cct_laws_live.specs.Live.{started}
use Rattle.cct_laws_live.specs.LiveStep.{LiveStep}
use Rattle.cct_laws_live.specs.LiveStep as live
use Rattle.cct_laws_live_devices.specs.Asked.{Moment, asks, heard_by}
use Rattle.cct_laws_live_devices.specs.Questions.{is_question}
use Rattle.cct_laws_live_devices.specs.Chain.{Chain, gave_question, gave_told, not_begun, told_besides}
use Rattle.cct_laws_live_devices.specs.Prompt.{IsPrompt}
use Rattle.cct_laws_live_devices.specs.AtOnce.{AtOnce, coming_on, history_on, reads_on, silent_on, still, under_way, writes_on}
use Rattle.cct_laws_live_devices.specs.Devices.{Reaches, nothing_befell}
use Rattle.cct_laws_live_devices.specs.Explained.{befallen}
use Rattle.cct_laws_live_devices.specs.Lives.{IsRightOver, first_start}
use Rattle.cct_laws_live_devices.proofs.Living.{life_right_over, new_port}
use Rattle.cct_laws_live_devices.proofs.Standing.{stands}

-- a coin acceptor at address 2
abbrev word : List ℕ
word = 49 ∷ []

abbrev setup : Setup
setup = record {
  devices =
      record {
        addr = 2;
        kind = Simple;
        serial = 1;
        texts = record { maker = word; product = word; software = word; build = word };
        named = false;
        body = Acceptor 0 (replicate 16 100) (replicate 16 (replicate 6 49));
      }
      ∷ [];
}

is_word : IsWord word
is_word = (omega arith, omega arith, All-cons IsPrinting 49 [] (omega arith, omega arith) (All-nil IsPrinting))

sound : IsSoundSetup setup
sound = record {
  devices =
      All-cons IsSound _ []
      (record {
        low = omega arith;
        high = omega arith;
        serial = omega arith;
        maker = is_word;
        product = is_word;
        software = is_word;
        build = is_word;
        body = (
          omega arith,
          All-replicate (λ value. value ≤ 1000000) 16 100 (omega arith),
          All-replicate IsId 16 (replicate 6 49) (refl, All-replicate IsPrinting 6 49 (omega arith, omega arith)),
          refl,
          refl,
        );
      })
      (All-nil IsSound);
  distinct = (refl, tt);
}

-- the host resets it, and hears its acknowledgement
abbrev resets : List ℕ
resets = 2 ∷ 0 ∷ 1 ∷ 1 ∷ 252 ∷ []

abbrev reset_heard : List ℕ
reset_heard = 2 ∷ 0 ∷ 1 ∷ 1 ∷ 252 ∷ 1 ∷ 0 ∷ 2 ∷ 0 ∷ 253 ∷ []

abbrev options : Options
options = record { echoes = true; gap = 0; patience = 1; longest = 1 }

abbrev fresh : Port AtOnce
fresh = record { line = still 0 []; options = options; settled = false; silent = 0; is_sent = false; faults = 0 }

abbrev used : Port AtOnce
used = record { line = still 0 (asks resets ∷ []); options = options; settled = true; silent = 0; is_sent = true; faults = 0 }

gives_reset : Gives (reads_on setup) (writes_on setup) fresh resets reset_heard used
unfolding message spelling data_of request_of requests_with form_of reply_data reply_in has_place ask asked asks_of asker after_echo got
    heard_by acceptor_reply common_reply reply_of
gives_reset = record {
  few = omega arith;
  options = refl;
  goes = inl (record {
    bytes = reset_heard;
    calls = record {
      asked = under_way 2 (0 ∷ 1 ∷ 1 ∷ 252 ∷ 1 ∷ 0 ∷ 2 ∷ 0 ∷ 253 ∷ []) (asks resets ∷ []);
      sends = record {
        quiet = still 1 [];
        waits = record {
          dropped = [];
          silent = 1;
          made = 1;
          hearing = paused [] 0 0 (still 0 []) (still 1 []) unread (omega arith) ([], nothing_befell, refl);
          enough = omega arith;
          few = omega arith;
        };
        writes_once = refl;
      };
      listens = record {
        made = 1;
        hearing =
            brought [] reset_heard 0 0 (under_way 2 (0 ∷ 1 ∷ 1 ∷ 252 ∷ 1 ∷ 0 ∷ 2 ∷ 0 ∷ 253 ∷ []) (asks resets ∷ []))
            (still 0 (asks resets ∷ [])) unread (omega arith, refl) (omega arith) (refl, refl);
        stops = inl refl;
      };
    };
    hears = refl;
    known = Some Simple;
    settles = refl;
    sent_whole = refl;
    no_fault = refl;
  });
}

abbrev told : List Entry
told = entry.Wire 2 resets reset_heard ∷ entry.Taken (command.Start 2 65535) ∷ []

chain : Chain (Gives (reads_on setup) (writes_on setup)) fresh told used
chain =
    gave_told (entry.Taken (command.Start 2 65535) ∷ []) 2 resets reset_heard fresh used
    (told_besides [] (entry.Taken (command.Start 2 65535)) fresh not_begun refl) gives_reset

abbrev steps : List LiveStep
steps = live.command (command.Start 2 65535) ∷ live.next 2 ∷ []

life : IsLife 65535 setup [] steps (told ++ started [])
unfolding message spelling data_of request_of requests_with form_of reply_data reply_in has_place ask asked asks_of after_echo got got_by
life = record {
  follow = refl;
  steps_are =
      All-cons IsLifeStep (live.command (command.Start 2 65535)) (live.next 2 ∷ []) (omega arith) (All-cons IsLifeStep (live.next 2) [] tt (All-nil IsLifeStep));
  live = (
    entry.Taken (command.Start 2 65535) ∷ [],
    refl,
    (entry.Wire 2 resets reset_heard ∷ [], (reset_heard, omega arith, refl), refl),
  );
}

-- so its money is right
right : IsRightOver setup [] (told ++ (entry.Crash 0 ∷ []))
right =
    (life_right_over (reads_on setup) (writes_on setup) true 1 coming_on silent_on 65535 setup history_on sound (stands setup) fresh
    used [] steps told (entry.Crash 0 ∷ []) first_start
    (new_port (reads_on setup) (writes_on setup) 1 coming_on silent_on fresh refl refl (omega arith)) life chain).0

-- on a prompt line nothing is under way after the longest time
module _ {L : Type 0} (reads : L → Option (List ℕ) → L → Type 0) (writes : L → List ℕ → Result (Unit {0}) Failed → L → Type 0) where
  nothing_late : (longest : ℕ) (coming : L → List ℕ) (silent : L → ℕ) (answer : L → List ℕ → List ℕ) (line : L)
      (byte : ℕ) → IsPrompt reads writes longest coming silent answer → coming line ≡ byte ∷ [] → longest ≤ silent line → ⊥
  nothing_late longest coming silent answer line byte prompt is late = too_late (prompt.fast line (λ none. clash (sym is ∙ none)))
    where
      clash : (byte ∷ []) ≡ [] → ⊥
      clash e = cc

      too_late : silent line < longest → ⊥
      too_late fast = omega (arith, fast, late)

-- an exchange that a link doesn't give isn't reported
abbrev gives_none : ℕ → List ℕ → List ℕ → ℕ → Type 0
gives_none old sent piece new = ⊥

none_told : (last : ℕ) → Chain gives_none 0 (entry.Wire 2 resets reset_heard ∷ []) last → ⊥
none_told last (gave_told past addr sent piece line next before given) = given
none_told last (told_besides past e line before is) = true≢false (sym is)
none_told last (gave_question past sent piece line next before question given) = given

-- nor is a dispense left out
abbrev hopper : DeviceSetup
hopper = record {
  addr = 3;
  kind = Simple;
  serial = 7;
  texts = record { maker = word; product = word; software = word; build = word };
  named = false;
  body = Hopper 0 100;
}

abbrev dispenses : List ℕ
dispenses = ask Simple 3 (Dispense 7 1)

abbrev gives_dispense : ℕ → List ℕ → List ℕ → ℕ → Type 0
gives_dispense old sent piece new = sent ≡ dispenses

is_no_question : is_question (asks_of hopper dispenses) ≡ false
unfolding message spelling data_of request_of requests_with ask asks_of
is_no_question = refl

none_left_out : (last : ℕ) → Chain gives_dispense 0 [] last → last ≡ 1 → ⊥
none_left_out last not_begun is = omega (arith, is)
none_left_out last (gave_question past sent piece line next before question given) is =
    true≢false (sym (question hopper) ∙ ap (λ bytes. is_question (asks_of hopper bytes)) given ∙ is_no_question)

-- a reply that no device gives doesn't come over an honest wire
abbrev other_heard : List ℕ
other_heard = 2 ∷ 0 ∷ 1 ∷ 1 ∷ 252 ∷ 1 ∷ 0 ∷ 9 ∷ 0 ∷ 246 ∷ []

no_other : (after : List Moment) → Reaches setup [] resets other_heard after → ⊥
unfolding message spelling data_of request_of requests_with form_of reply_data reply_in has_place ask asked asks_of asker after_echo got
    heard_by acceptor_reply common_reply reply_of
no_other after reached = elim reached.comes [
  | inl well ↦ cc (well.1)
  | inr damaged ↦ absurd (true≢false (sym (damaged other_heard [] refl).none))
]

-- and a coin that didn't fall in isn't there
none_added : befallen (entry.Accepted 2 (record { place = 1; path = 1 }) ∷ []) ≡ [] → ⊥
none_added is = cc is
