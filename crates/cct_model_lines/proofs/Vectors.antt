-- The lines of entries (docs/TRANSCRIPT.md) that no played script brings about today. The others stand in the tables of
-- cct_bench.
use Rattle.std.proofs.Common.{◌≡◌, ℕ, List, [], ◌∷◌, ◌++◌, map, codes, refl}
use Rattle.hex.specs.Hex.{encode_with}
use Rattle.cct_model_lines.specs.terms.coin.Coin.{Coin}
use Rattle.cct_model_lines.specs.declared.command.Command.TheVariants as command
use Rattle.cct_model_lines.specs.declared.command.CommandNo.TheVariants as refusal
use Rattle.cct_model_lines.specs.declared.command.WireFault.TheVariants as fault
use Rattle.cct_model_lines.specs.declared.record.Record.TheVariants as record_of
use Rattle.cct_model_lines.specs.declared.entry.End.TheVariants as end_of
use Rattle.cct_model_lines.specs.declared.entry.Said.TheVariants as said_of
use Rattle.cct_model_lines.specs.declared.entry.SumOf.TheVariants as sum_of
use Rattle.cct_model_lines.specs.declared.entry.Entry.TheVariants as entry
use Rattle.cct_model_lines.specs.Text.{number_text, line_of}

-- a text as a line
abbrev ended : List ℕ → List ℕ
ended text = text ++ 10 ∷ []

commands :
    map line_of (
    entry.Taken (command.Pay 3 4294967295 255)
    ∷ entry.Taken (command.Settle 3)
    ∷ entry.Taken (command.Halt 3)
    ∷ entry.Taken (command.Vend 7 250)
    ∷ [])
    ≡ map ended (
    codes "ok pay 3 4294967295 255"
    ∷ codes "ok settle 3"
    ∷ codes "ok halt 3"
    ∷ codes "ok vend 7 250"
    ∷ [])
unfolding line_of number_text
commands = refl

refusals :
    map (λ why. line_of (entry.No (command.Round 2) why)) (
    refusal.WrongKind
    ∷ refusal.OrderOpen 9
    ∷ refusal.NoOrder
    ∷ refusal.NoPayout
    ∷ refusal.OldId 12
    ∷ refusal.Short 18446744073709551615
    ∷ refusal.JournalFull 10 2 1
    ∷ [])
    ≡ map ended (
    codes "no round 2 wrongkind"
    ∷ codes "no round 2 orderopen 9"
    ∷ codes "no round 2 noorder"
    ∷ codes "no round 2 nopayout"
    ∷ codes "no round 2 oldid 12"
    ∷ codes "no round 2 short 18446744073709551615"
    ∷ codes "no round 2 journalfull 10 2 1"
    ∷ [])
unfolding line_of number_text
refusals = refl

-- the coin of place 16 by path 8, and then that of place 1 by path 2
abbrev two_coins : List Coin
two_coins = record { place = 16; path = 8 } ∷ record { place = 1; path = 2 } ∷ []

records :
    map (λ r. line_of (entry.Listing 9 r)) (
    record_of.Reading 2 7 1 70000 two_coins
    ∷ record_of.Broken 2 256 3 4 5 []
    ∷ record_of.Opened 1 3 5 16777215
    ∷ record_of.Closed 1 4 1
    ∷ record_of.Odd 1 5 4
    ∷ record_of.Sold 8 100
    ∷ [])
    ≡ map ended (
    codes "record 9 reading 2 7 1 70000 16/8,1/2"
    ∷ codes "record 9 broken 2 0100 3 4 5 -"
    ∷ codes "record 9 opened 1 3 5 16777215"
    ∷ codes "record 9 closed 1 4 1"
    ∷ codes "record 9 odd 1 5 4"
    ∷ codes "record 9 sold 8 100"
    ∷ [])
unfolding line_of number_text encode_with
records = refl

others :
    map line_of (
    entry.Fell 3
    ∷ entry.NoFall 3
    ∷ entry.Jammed 255
    ∷ entry.NoJam 3
    ∷ entry.Fault fault.Clear
    ∷ entry.Fault (fault.WholeHeard (197 ∷ []))
    ∷ entry.Kept (record_of.EpochEnd 2)
    ∷ entry.Crash 4
    ∷ entry.Ended 3 end_of.Closed
    ∷ entry.Ended 3 end_of.OddLife
    ∷ entry.Ended 1 end_of.Sold
    ∷ entry.Balance (record { available = 70; reserved = 20; paid = 10; sold = 5 })
    ∷ entry.DiskSize 65536
    ∷ entry.NotBlank 32
    ∷ entry.DiskFault
    ∷ entry.JournalAlien
    ∷ entry.JournalBad 6
    ∷ entry.JournalLost 5 6
    ∷ entry.Upgraded 3
    ∷ entry.UpgradeCurrent
    ∷ entry.UpgradeRoom 32768
    ∷ entry.UpgradeEpoch 2
    ∷ entry.Stock 3 4294967295
    ∷ entry.ChangeOk 60 70
    ∷ entry.ChangeNo
    ∷ entry.ServeIdle
    ∷ entry.ServeWait 3
    ∷ entry.ServeOdd 60
    ∷ entry.Served 70
    ∷ entry.Short 10 60
    ∷ entry.Said (said_of.Sure 2 1 3 (record { place = 5; path = 1 } ∷ []))
    ∷ entry.Said (said_of.Doubt 2 3 5)
    ∷ entry.Said (said_of.Fell 3 1 2 4)
    ∷ entry.Total 1 2 3 4 5
    ∷ entry.Load 42 1000
    ∷ [])
    ≡ map ended (
    codes "fell 3"
    ∷ codes "nofall 3"
    ∷ codes "jammed 255"
    ∷ codes "nojam 3"
    ∷ codes "fault clear"
    ∷ codes "fault whole c5"
    ∷ codes "kept epochend 2"
    ∷ codes "crash 4"
    ∷ codes "closed 3"
    ∷ codes "oddlife 3"
    ∷ codes "sold"
    ∷ codes "balance 70 20 10 5"
    ∷ codes "disksize 65536"
    ∷ codes "notblank 32"
    ∷ codes "diskfault"
    ∷ codes "journal alien"
    ∷ codes "journal bad 6"
    ∷ codes "journal lost 5 6"
    ∷ codes "upgraded 3"
    ∷ codes "upgrade current"
    ∷ codes "upgrade room 32768"
    ∷ codes "upgrade epoch 2"
    ∷ codes "stock 3 4294967295"
    ∷ codes "change ok 60 70"
    ∷ codes "change no busy"
    ∷ codes "serve idle"
    ∷ codes "serve wait 3"
    ∷ codes "serve odd 60"
    ∷ codes "served 70"
    ∷ codes "short 10 60"
    ∷ codes "sure 2 1 3 5/1"
    ∷ codes "doubt 2 3 5"
    ∷ codes "fell 3 1 2 4"
    ∷ codes "total 1 2 3 4 5"
    ∷ codes "load 42 1000"
    ∷ [])
unfolding line_of number_text encode_with
others = refl

sums :
    map (λ what. line_of (entry.Sum what 9)) (
    sum_of.Steps ∷ sum_of.Accepted ∷ sum_of.Posted ∷ sum_of.Lost ∷ sum_of.Fell ∷ sum_of.Closed ∷ [])
    ≡ map ended (
    codes "steps 9" ∷ codes "accepted 9" ∷ codes "posted 9" ∷ codes "lost 9" ∷ codes "fell 9" ∷ codes "closed 9" ∷ [])
unfolding line_of number_text
sums = refl
