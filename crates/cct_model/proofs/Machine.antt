-- A small machine, and what its host and its devices do on it: an acceptor at address 2 with coins of value 100, and a
-- hopper at address 3 with coins of value 10.
use Rattle.std.proofs.Common.{ℕ, ◌+◌, ◌-◌, ◌*◌, nat_lt, List, [], ◌∷◌, ◌++◌, map, replicate, false, cond, refl}
use Prim.Native.String.{String}
use Rattle.std.specs.Prelude.{codes, ⊤}
use Rattle.cct_model.specs.terms.coin.Coin.{Coin}
use Rattle.cct_model.specs.terms.wire.CheckKind.TheVariants.{Simple, Crc}
use Rattle.cct_model.specs.terms.device.DeviceBody.TheVariants.{Acceptor, Hopper}
use Rattle.cct_model.specs.terms.device.DeviceSetup.{DeviceSetup}
use Rattle.cct_model.specs.terms.device.Texts.{Texts}
use Rattle.cct_model.specs.terms.device.Setup.{Setup}
use Rattle.cct_model.specs.lines.command.Step.{Step}
use Rattle.cct_model.specs.lines.command.Step.TheVariants as step
use Rattle.cct_model.specs.lines.command.Command.TheVariants as command
use Rattle.cct_model.specs.lines.record.Record.TheVariants as record_of
use Rattle.cct_model.specs.lines.entry.Entry.{Entry}
use Rattle.cct_model.specs.lines.entry.Entry.TheVariants as entry
use Rattle.cct_model.specs.lines.entry.End.TheVariants as end_of
use Rattle.cct_model.specs.Legal.{Entries, LegalFrom}

-- a digit of a hexadecimal number
abbrev digit : ℕ → ℕ
digit code = cond (nat_lt code 58) (code - 48) (code - 87)

-- the bytes of which these are the digits
abbrev pub bytes_of : List ℕ → List ℕ
bytes_of [] = []
bytes_of (high ∷ []) = []
bytes_of (high ∷ low ∷ more) = (16 * digit high + digit low) ∷ bytes_of more

abbrev pub texts : Texts
texts = record { maker = codes "BENCH"; product = codes "CCT"; software = codes "1"; build = codes "1" }

-- the acceptor with these values of its coin places
abbrev pub acceptor_of : List ℕ → DeviceSetup
acceptor_of values = record { addr = 2; kind = Simple; serial = 1; texts = texts; named = false; body = Acceptor 0 values (replicate 16 (codes "XX100A")) }

abbrev pub acceptor : DeviceSetup
acceptor = acceptor_of (replicate 16 100)

abbrev pub hopper : DeviceSetup
hopper = record { addr = 3; kind = Simple; serial = 197121; texts = texts; named = false; body = Hopper 16777214 10 }

abbrev pub setup : Setup
setup = record { devices = acceptor ∷ hopper ∷ [] }

-- two acceptors and three hoppers
abbrev pub house : Setup
house = record {
  devices =
      acceptor ∷ hopper
      ∷ record {
        addr = 4;
        kind = Crc;
        serial = 4;
        texts = texts;
        named = false;
        body = Acceptor 0 (replicate 16 50) (replicate 16 (codes "XX050A"));
      }
      ∷ record { addr = 5; kind = Simple; serial = 5; texts = texts; named = false; body = Hopper 0 50 }
      ∷ record { addr = 6; kind = Crc; serial = 6; texts = texts; named = false; body = Hopper 7 100 } ∷ [];
}

-- a coin of a place by its path
abbrev pub coin : ℕ → ℕ → Coin
coin place path = record { place = place; path = path }

-- the entry of an exchange, by the digits of its bytes
abbrev pub wire : ℕ → String → String → Entry
wire addr sent heard = entry.Wire addr (bytes_of (codes sent)) (bytes_of (codes heard))

-- one step of a run with its entries, newest first
pub record Row : Type 0 where
  pub play : Step
  pub news : List Entry

-- each of these rows has the entries of its step, after the rows before it
abbrev pub Plays : ℕ → Setup → List Entry → List Row → Type 0
Plays capacity the past [] = ⊤
Plays capacity the past (row ∷ rows) = Entries capacity the past row.play row.news × Plays capacity the (row.news ++ past) rows

-- each of these runs is played after a past
abbrev pub AllPlay : Setup → List Entry → List (List Row) → Type 0
AllPlay the past [] = ⊤
AllPlay the past (rows ∷ runs) = Plays 65535 the past rows × AllPlay the past runs

-- all entries after these rows
abbrev pub after : List Entry → List Row → List Entry
after past [] = past
after past (row ∷ rows) = after (row.news ++ past) rows

-- each of these runs is played after those before it
abbrev pub PlayOn : Setup → List Entry → List (List Row) → Type 0
PlayOn the past [] = ⊤
PlayOn the past (rows ∷ runs) = Plays 65535 the past rows × PlayOn the (after past rows) runs

pub plays_legal : (capacity : ℕ) (the : Setup) (past : List Entry) (rows : List Row) → Plays capacity the past rows
    → LegalFrom capacity the past (map (λ row. row.play) rows) (after past rows)
plays_legal capacity the past [] plays = refl
plays_legal capacity the past (row ∷ rows) plays = (row.news, plays.0, plays_legal capacity the (row.news ++ past) rows plays.1)

-- the row of a step that gives this entry, and of one that gives these two, the second after the first
abbrev pub one : Step → Entry → Row
one play e = record { play = play; news = e ∷ [] }

abbrev pub both : Step → Entry → Entry → Row
both play e other = record { play = play; news = other ∷ e ∷ [] }

-- the acceptor is started with every coin place
abbrev pub starting : List Row
starting =
    one (step.Command (command.Start 2 65535)) (entry.Taken (command.Start 2 65535))
    ∷ one (step.Next 2) (wire 2 "02000101fc" "02000101fc01000200fd")
    ∷ one (step.Next 2) (wire 2 "020001e518" "020001e518010b02000000000000000000000000f2")
    ∷ one (step.Next 2) (wire 2 "020001e11c" "020001e11c01030200000000fa")
    ∷ one (step.Next 2) (entry.Put (record_of.Epoch 2 65535 0))
    ∷ both (step.Next 2) (wire 2 "020201e7ffff16" "020201e7ffff1601000200fd") (entry.Ended 2 end_of.Started)
    ∷ []

-- a coin of place 5 is accepted and read
abbrev pub coin_read : List Row
coin_read =
    one (step.Coin 2 5) (entry.Accepted 2 (coin 5 1))
    ∷ one (step.Command (command.Round 2)) (entry.Taken (command.Round 2))
    ∷ one (step.Next 2) (wire 2 "020001e11c" "020001e11c01030200010000f9")
    ∷ one (step.Next 2) (wire 2 "020001e518" "020001e518010b02000105010000000000000000eb")
    ∷ one (step.Next 2) (wire 2 "020001e617" "020001e61701020200fffffd")
    ∷ one (step.Next 2) (wire 2 "020001e11c" "020001e11c01030200010000f9")
    ∷ []

-- it is started, takes that coin, and is read
abbrev pub funding : List Row
funding =
    starting ++ coin_read
    ++ both (step.Next 2) (entry.Put (record_of.Reading 2 1 0 1 (coin 5 1 ∷ []))) (entry.Ended 2 end_of.Posted)
    ∷ []

abbrev pub funded : List Entry
funded = after [] funding

-- a payment of four coins, up to the record that opens its order
abbrev pub ordered : List Row
ordered =
    one (step.Command (command.Pay 3 41 4)) (entry.Taken (command.Pay 3 41 4))
    ∷ one (step.Next 3) (wire 3 "030101a4a5b2" "030101a4a5b201000300fc")
    ∷ one (step.Next 3) (wire 3 "030001a854" "030001a85401030300fefffffd")
    ∷ one (step.Next 3) (entry.Put (record_of.Opened 41 3 4 16777214))
    ∷ []

-- up to its dispense
abbrev pub dispensed : List Row
dispensed = ordered ++ one (step.Next 3) (wire 3 "030401a70102030447" "030401a7010203044701000300fc") ∷ []

-- up to the life count after all four fell
abbrev pub paid_out : List Row
paid_out =
    dispensed
    ++ one (step.Fall 3) (entry.Fell 3)
    ∷ one (step.Fall 3) (entry.Fell 3)
    ∷ one (step.Fall 3) (entry.Fell 3)
    ∷ one (step.Fall 3) (entry.Fell 3)
    ∷ one (step.Next 3) (wire 3 "030001a656" "030001a6560104030001000400f3")
    ∷ one (step.Next 3) (wire 3 "030001a854" "030001a85401030300020000f7")
    ∷ []
