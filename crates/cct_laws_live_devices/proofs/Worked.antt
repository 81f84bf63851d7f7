-- A world: an acceptor is started, a coin falls in, and a round posts it. And what no device does.
use Rattle.std.proofs.Common.{◌≡◌, ◌⊎◌, inl, inr, ℕ, false, List, [], ◌∷◌, ◌++◌, replicate, refl, sym, arith, true≢false}
use Rattle.std.specs.Prelude.{codes}
use Rattle.cct_model.specs.terms.wire.CheckKind.TheVariants.{Simple}
use Rattle.cct_model.specs.terms.coin.Coin.{Coin}
use Rattle.cct_model.specs.terms.device.DeviceBody.TheVariants.{Acceptor}
use Rattle.cct_model.specs.terms.device.Setup.{Setup}
use Rattle.cct_model.specs.terms.device.Texts.{Texts}
use Rattle.cct_model.specs.terms.family.Happening.TheVariants as happening
use Rattle.cct_model.specs.lines.command.Command.TheVariants as command
use Rattle.cct_model.specs.lines.record.Record.TheVariants as record_of
use Rattle.cct_model.specs.lines.entry.End.TheVariants.{Posted, Started}
use Rattle.cct_model.specs.lines.command.WireFault.{WireFault}
use Rattle.cct_model.specs.lines.command.WireFault.TheVariants as fault
use Rattle.cct_model.specs.lines.entry.Entry.{Entry}
use Rattle.cct_model.specs.lines.entry.Entry.TheVariants as entry
use Rattle.cct_model.specs.Acceptor.{acceptor_reply}
use Rattle.cct_model.specs.Device.{common_reply, reply_of}
use Rattle.cct_model.specs.Message.{message, spelling}
use Rattle.cct_model.specs.Request.{data_of, request_of, requests_with, form_of}
use Rattle.cct_model.specs.Reply.{reply_data, reply_in}
use Rattle.cct_model.specs.Setting.{has_place}
use Rattle.cct_model.specs.Exchange.{ask, asked, asker, asks_of, after_echo, got}
use Rattle.cct_model.specs.Legal.{EntriesOfHappening}
use Rattle.cct_model.specs.Transcript.{got_by, heard_after, heard_by_devices, heard_by_host, onto}
use Rattle.cct_model.specs.Reading.{distance, accepted_between, judge}
use Rattle.cct_laws_live.specs.LiveStep.{LiveStep}
use Rattle.cct_laws_live.specs.LiveStep as live
use Rattle.cct_laws_live.specs.Live.{Live}
use Rattle.cct_laws_live_devices.specs.World.{AnswersAt, OverDevices}

abbrev texts : Texts
texts = record { maker = codes "BENCH"; product = codes "CCT"; software = codes "1"; build = codes "1" }

abbrev setup : Setup
setup = record {
  devices =
      record {
        addr = 2;
        kind = Simple;
        serial = 1;
        texts = texts;
        named = false;
        body = Acceptor 0 (replicate 16 100) (replicate 16 (codes "XX100A"));
      }
      ∷ [];
}

abbrev coin : Coin
coin = record { place = 1; path = 1 }

abbrev world : List Entry
world =
    entry.Taken (command.Start 2 65535)
    ∷ entry.Wire 2 (2 ∷ 0 ∷ 1 ∷ 1 ∷ 252 ∷ []) (2 ∷ 0 ∷ 1 ∷ 1 ∷ 252 ∷ 1 ∷ 0 ∷ 2 ∷ 0 ∷ 253 ∷ [])
    ∷ entry.Wire 2 (2 ∷ 0 ∷ 1 ∷ 229 ∷ 24 ∷ []) (2 ∷ 0 ∷ 1 ∷ 229 ∷ 24 ∷ 1 ∷ 11 ∷ 2 ∷ 0 ∷ 0 ∷ 0 ∷ 0 ∷ 0 ∷ 0 ∷ 0 ∷ 0 ∷ 0 ∷ 0 ∷ 0 ∷ 0 ∷ 242 ∷ [])
    ∷ entry.Wire 2 (2 ∷ 0 ∷ 1 ∷ 225 ∷ 28 ∷ []) (2 ∷ 0 ∷ 1 ∷ 225 ∷ 28 ∷ 1 ∷ 3 ∷ 2 ∷ 0 ∷ 0 ∷ 0 ∷ 0 ∷ 250 ∷ [])
    ∷ entry.Put (record_of.Epoch 2 65535 0)
    ∷ entry.Wire 2 (2 ∷ 2 ∷ 1 ∷ 231 ∷ 255 ∷ 255 ∷ 22 ∷ []) (2 ∷ 2 ∷ 1 ∷ 231 ∷ 255 ∷ 255 ∷ 22 ∷ 1 ∷ 0 ∷ 2 ∷ 0 ∷ 253 ∷ [])
    ∷ entry.Ended 2 Started
    ∷ entry.Accepted 2 coin
    ∷ entry.Taken (command.Round 2)
    ∷ entry.Wire 2 (2 ∷ 0 ∷ 1 ∷ 225 ∷ 28 ∷ []) (2 ∷ 0 ∷ 1 ∷ 225 ∷ 28 ∷ 1 ∷ 3 ∷ 2 ∷ 0 ∷ 1 ∷ 0 ∷ 0 ∷ 249 ∷ [])
    ∷ entry.Wire 2 (2 ∷ 0 ∷ 1 ∷ 229 ∷ 24 ∷ []) (2 ∷ 0 ∷ 1 ∷ 229 ∷ 24 ∷ 1 ∷ 11 ∷ 2 ∷ 0 ∷ 1 ∷ 1 ∷ 1 ∷ 0 ∷ 0 ∷ 0 ∷ 0 ∷ 0 ∷ 0 ∷ 0 ∷ 0 ∷ 239 ∷ [])
    ∷ entry.Wire 2 (2 ∷ 0 ∷ 1 ∷ 230 ∷ 23 ∷ []) (2 ∷ 0 ∷ 1 ∷ 230 ∷ 23 ∷ 1 ∷ 2 ∷ 2 ∷ 0 ∷ 255 ∷ 255 ∷ 253 ∷ [])
    ∷ entry.Wire 2 (2 ∷ 0 ∷ 1 ∷ 225 ∷ 28 ∷ []) (2 ∷ 0 ∷ 1 ∷ 225 ∷ 28 ∷ 1 ∷ 3 ∷ 2 ∷ 0 ∷ 1 ∷ 0 ∷ 0 ∷ 249 ∷ [])
    ∷ entry.Put (record_of.Reading 2 1 0 1 (coin ∷ []))
    ∷ entry.Ended 2 Posted
    ∷ []

abbrev transcript : List Entry
transcript =
    entry.Taken (command.Start 2 65535)
    ∷ entry.Wire 2 (2 ∷ 0 ∷ 1 ∷ 1 ∷ 252 ∷ []) (2 ∷ 0 ∷ 1 ∷ 1 ∷ 252 ∷ 1 ∷ 0 ∷ 2 ∷ 0 ∷ 253 ∷ [])
    ∷ entry.Wire 2 (2 ∷ 0 ∷ 1 ∷ 229 ∷ 24 ∷ []) (2 ∷ 0 ∷ 1 ∷ 229 ∷ 24 ∷ 1 ∷ 11 ∷ 2 ∷ 0 ∷ 0 ∷ 0 ∷ 0 ∷ 0 ∷ 0 ∷ 0 ∷ 0 ∷ 0 ∷ 0 ∷ 0 ∷ 0 ∷ 242 ∷ [])
    ∷ entry.Wire 2 (2 ∷ 0 ∷ 1 ∷ 225 ∷ 28 ∷ []) (2 ∷ 0 ∷ 1 ∷ 225 ∷ 28 ∷ 1 ∷ 3 ∷ 2 ∷ 0 ∷ 0 ∷ 0 ∷ 0 ∷ 250 ∷ [])
    ∷ entry.Put (record_of.Epoch 2 65535 0)
    ∷ entry.Wire 2 (2 ∷ 2 ∷ 1 ∷ 231 ∷ 255 ∷ 255 ∷ 22 ∷ []) (2 ∷ 2 ∷ 1 ∷ 231 ∷ 255 ∷ 255 ∷ 22 ∷ 1 ∷ 0 ∷ 2 ∷ 0 ∷ 253 ∷ [])
    ∷ entry.Ended 2 Started
    ∷ entry.Taken (command.Round 2)
    ∷ entry.Wire 2 (2 ∷ 0 ∷ 1 ∷ 225 ∷ 28 ∷ []) (2 ∷ 0 ∷ 1 ∷ 225 ∷ 28 ∷ 1 ∷ 3 ∷ 2 ∷ 0 ∷ 1 ∷ 0 ∷ 0 ∷ 249 ∷ [])
    ∷ entry.Wire 2 (2 ∷ 0 ∷ 1 ∷ 229 ∷ 24 ∷ []) (2 ∷ 0 ∷ 1 ∷ 229 ∷ 24 ∷ 1 ∷ 11 ∷ 2 ∷ 0 ∷ 1 ∷ 1 ∷ 1 ∷ 0 ∷ 0 ∷ 0 ∷ 0 ∷ 0 ∷ 0 ∷ 0 ∷ 0 ∷ 239 ∷ [])
    ∷ entry.Wire 2 (2 ∷ 0 ∷ 1 ∷ 230 ∷ 23 ∷ []) (2 ∷ 0 ∷ 1 ∷ 230 ∷ 23 ∷ 1 ∷ 2 ∷ 2 ∷ 0 ∷ 255 ∷ 255 ∷ 253 ∷ [])
    ∷ entry.Wire 2 (2 ∷ 0 ∷ 1 ∷ 225 ∷ 28 ∷ []) (2 ∷ 0 ∷ 1 ∷ 225 ∷ 28 ∷ 1 ∷ 3 ∷ 2 ∷ 0 ∷ 1 ∷ 0 ∷ 0 ∷ 249 ∷ [])
    ∷ entry.Put (record_of.Reading 2 1 0 1 (coin ∷ []))
    ∷ entry.Ended 2 Posted
    ∷ []

abbrev steps : List LiveStep
steps = live.command (command.Start 2 65535) ∷ live.next 2 ∷ live.next 2 ∷ live.next 2 ∷ live.next 2 ∷ live.next 2 ∷ live.command (command.Round 2) ∷ live.next 2 ∷ live.next 2 ∷ live.next 2 ∷ live.next 2 ∷ live.next 2 ∷ []

-- the devices answer so
over : OverDevices setup (onto [] world) (onto [] transcript)
unfolding message spelling data_of request_of requests_with form_of reply_data reply_in has_place ask asked asks_of asker after_echo got
    got_by heard_after distance accepted_between judge acceptor_reply common_reply reply_of
over = record {
  answered = (refl, (tt, (inl refl, (inl refl, (inl refl, (inl refl, (tt, ((2, happening.Coin 1, (omega arith, omega arith), refl), (refl, (inl refl, (tt, (inl refl, (inl refl, (inl refl, (tt, tt)))))))))))))));
  honest = (tt, (tt, (refl, (refl, (refl, (refl, (tt, (tt, (tt, (refl, (tt, (refl, (refl, (refl, (tt, tt)))))))))))))));
  tells = refl;
}

-- and the host does
lived : Live 65535 setup steps transcript
unfolding message spelling data_of request_of requests_with form_of reply_data reply_in has_place ask asked asks_of after_echo got
    got_by distance accepted_between judge
lived = (
  entry.Taken (command.Start 2 65535) ∷ [],
  refl,
  (
    entry.Wire 2 (2 ∷ 0 ∷ 1 ∷ 1 ∷ 252 ∷ []) (2 ∷ 0 ∷ 1 ∷ 1 ∷ 252 ∷ 1 ∷ 0 ∷ 2 ∷ 0 ∷ 253 ∷ []) ∷ [],
    ((2 ∷ 0 ∷ 1 ∷ 1 ∷ 252 ∷ 1 ∷ 0 ∷ 2 ∷ 0 ∷ 253 ∷ []), omega arith, refl),
    (
      entry.Wire 2 (2 ∷ 0 ∷ 1 ∷ 229 ∷ 24 ∷ []) (2 ∷ 0 ∷ 1 ∷ 229 ∷ 24 ∷ 1 ∷ 11 ∷ 2 ∷ 0 ∷ 0 ∷ 0 ∷ 0 ∷ 0 ∷ 0 ∷ 0 ∷ 0 ∷ 0 ∷ 0 ∷ 0 ∷ 0 ∷ 242 ∷ []) ∷ [],
      ((2 ∷ 0 ∷ 1 ∷ 229 ∷ 24 ∷ 1 ∷ 11 ∷ 2 ∷ 0 ∷ 0 ∷ 0 ∷ 0 ∷ 0 ∷ 0 ∷ 0 ∷ 0 ∷ 0 ∷ 0 ∷ 0 ∷ 0 ∷ 242 ∷ []), omega arith, refl),
      (
        entry.Wire 2 (2 ∷ 0 ∷ 1 ∷ 225 ∷ 28 ∷ []) (2 ∷ 0 ∷ 1 ∷ 225 ∷ 28 ∷ 1 ∷ 3 ∷ 2 ∷ 0 ∷ 0 ∷ 0 ∷ 0 ∷ 250 ∷ []) ∷ [],
        ((2 ∷ 0 ∷ 1 ∷ 225 ∷ 28 ∷ 1 ∷ 3 ∷ 2 ∷ 0 ∷ 0 ∷ 0 ∷ 0 ∷ 250 ∷ []), omega arith, refl),
        (
          entry.Put (record_of.Epoch 2 65535 0) ∷ [],
          ([], omega arith, refl),
          (
            entry.Ended 2 Started ∷ entry.Wire 2 (2 ∷ 2 ∷ 1 ∷ 231 ∷ 255 ∷ 255 ∷ 22 ∷ []) (2 ∷ 2 ∷ 1 ∷ 231 ∷ 255 ∷ 255 ∷ 22 ∷ 1 ∷ 0 ∷ 2 ∷ 0 ∷ 253 ∷ []) ∷ [],
            ((2 ∷ 2 ∷ 1 ∷ 231 ∷ 255 ∷ 255 ∷ 22 ∷ 1 ∷ 0 ∷ 2 ∷ 0 ∷ 253 ∷ []), omega arith, refl),
            (
              entry.Taken (command.Round 2) ∷ [],
              refl,
              (
                entry.Wire 2 (2 ∷ 0 ∷ 1 ∷ 225 ∷ 28 ∷ []) (2 ∷ 0 ∷ 1 ∷ 225 ∷ 28 ∷ 1 ∷ 3 ∷ 2 ∷ 0 ∷ 1 ∷ 0 ∷ 0 ∷ 249 ∷ []) ∷ [],
                ((2 ∷ 0 ∷ 1 ∷ 225 ∷ 28 ∷ 1 ∷ 3 ∷ 2 ∷ 0 ∷ 1 ∷ 0 ∷ 0 ∷ 249 ∷ []), omega arith, refl),
                (
                  entry.Wire 2 (2 ∷ 0 ∷ 1 ∷ 229 ∷ 24 ∷ []) (2 ∷ 0 ∷ 1 ∷ 229 ∷ 24 ∷ 1 ∷ 11 ∷ 2 ∷ 0 ∷ 1 ∷ 1 ∷ 1 ∷ 0 ∷ 0 ∷ 0 ∷ 0 ∷ 0 ∷ 0 ∷ 0 ∷ 0 ∷ 239 ∷ []) ∷ [],
                  ((2 ∷ 0 ∷ 1 ∷ 229 ∷ 24 ∷ 1 ∷ 11 ∷ 2 ∷ 0 ∷ 1 ∷ 1 ∷ 1 ∷ 0 ∷ 0 ∷ 0 ∷ 0 ∷ 0 ∷ 0 ∷ 0 ∷ 0 ∷ 239 ∷ []), omega arith, refl),
                  (
                    entry.Wire 2 (2 ∷ 0 ∷ 1 ∷ 230 ∷ 23 ∷ []) (2 ∷ 0 ∷ 1 ∷ 230 ∷ 23 ∷ 1 ∷ 2 ∷ 2 ∷ 0 ∷ 255 ∷ 255 ∷ 253 ∷ []) ∷ [],
                    ((2 ∷ 0 ∷ 1 ∷ 230 ∷ 23 ∷ 1 ∷ 2 ∷ 2 ∷ 0 ∷ 255 ∷ 255 ∷ 253 ∷ []), omega arith, refl),
                    (
                      entry.Wire 2 (2 ∷ 0 ∷ 1 ∷ 225 ∷ 28 ∷ []) (2 ∷ 0 ∷ 1 ∷ 225 ∷ 28 ∷ 1 ∷ 3 ∷ 2 ∷ 0 ∷ 1 ∷ 0 ∷ 0 ∷ 249 ∷ []) ∷ [],
                      ((2 ∷ 0 ∷ 1 ∷ 225 ∷ 28 ∷ 1 ∷ 3 ∷ 2 ∷ 0 ∷ 1 ∷ 0 ∷ 0 ∷ 249 ∷ []), omega arith, refl),
                      (
                        entry.Ended 2 Posted ∷ entry.Put (record_of.Reading 2 1 0 1 (coin ∷ [])) ∷ [],
                        ([], omega arith, refl),
                        refl,
                      ),
                    ),
                  ),
                ),
              ),
            ),
          ),
        ),
      ),
    ),
  ),
)

-- a device isn't heard to answer what it doesn't
no_other_answer : AnswersAt setup [] (entry.Wire 2 (2 ∷ 0 ∷ 1 ∷ 229 ∷ 24 ∷ []) (2 ∷ 0 ∷ 1 ∷ 229 ∷ 24 ∷ 1 ∷ 11 ∷ 2 ∷ 0 ∷ 1 ∷ 1 ∷ 1 ∷ 0 ∷ 0 ∷ 0 ∷ 0 ∷ 0 ∷ 0 ∷ 0 ∷ 0 ∷ 239 ∷ [])) → ⊥
unfolding after_echo message spelling data_of request_of requests_with reply_data has_place asks_of asker heard_after acceptor_reply common_reply reply_of
no_other_answer at = elim at [
  | inl same ↦ cc same
  | inr lost ↦ absurd (true≢false (sym lost.1))
]

-- a dispense that neither the hopper nor the host heard well, though no fault of a bench damages both
lost_both_ways : AnswersAt setup (entry.Fault (fault.DevicesHear (2 ∷ 0 ∷ [])) ∷ [])
    (entry.Wire 2 (2 ∷ 0 ∷ 1 ∷ 229 ∷ 24 ∷ []) (2 ∷ 0 ∷ []))
unfolding message after_echo heard_after asks_of
lost_both_ways = inr (refl, refl, refl)

one_sided : (f : WireFault) (sent answered : List ℕ) →
    (heard_by_devices f sent ≡ sent) ⊎ (heard_by_host f sent answered ≡ sent ++ answered)
one_sided fault.Clear sent answered = inl refl
one_sided (fault.DevicesHear piece) sent answered = inr refl
one_sided (fault.HostHears piece) sent answered = inl refl
one_sided (fault.WholeHeard piece) sent answered = inl refl

-- nor does it accept a coin that it inhibits
none_inhibited : EntriesOfHappening setup [] 2 (happening.Coin 1) (entry.Accepted 2 coin ∷ []) → ⊥
unfolding has_place
none_inhibited is = cc is
