-- What a host that calls nothing asks of its caller, and what he may say.
use Rattle.std.specs.Prelude.{◌≡◌, ◌≢◌, ◌<◌, ◌≤◌, ℕ, [], None, false, true, is_some, length}
use Rattle.cct_host.specs.Desks.{due_on, sending_on}
use Rattle.cct_host.specs.Host.{disk_of}
use Rattle.cct_poll.specs.declared.poll.Ask.{Ask}
use Rattle.cct_poll.specs.declared.poll.Ask.TheVariants as ask
use Rattle.cct_poll.specs.declared.poll.Poll.{Poll}

-- No call was lost, and none is noted.
abbrev pub IsSettled : Poll → Type 0
IsSettled poll = (poll.over ≡ false) × ((disk_of poll.host).calls ≡ [])

-- And each entry of the last step was taken.
abbrev pub IsTold : Poll → Type 0
IsTold poll = IsSettled poll × (length poll.report.items ≤ poll.told)

-- And what was heard after the last piece is reported.
abbrev pub IsQuiet : Poll → Type 0
IsQuiet poll = IsTold poll × (poll.asked ≡ None)

-- What is asked at an address. Each poll asks for exactly one of these: to make a call where one is
-- noted; else to take an entry where one is left; else to say what was heard where a piece was
-- sent; else to send the request that the job there sends next, to put the record that is due
-- there, or nothing.
abbrev pub Asks : Ask → Poll → ℕ → Type 0
Asks ask.Over poll addr = poll.over ≡ true
Asks ask.Make poll addr = (poll.over ≡ false) × ((disk_of poll.host).calls ≢ [])
Asks ask.Take poll addr = IsSettled poll × (poll.told < length poll.report.items)
Asks ask.Hear poll addr = IsTold poll × (is_some poll.asked ≡ true)
Asks ask.Send poll addr = IsQuiet poll × (is_some (sending_on poll.host.desks addr) ≡ true)
Asks ask.Put poll addr =
    IsQuiet poll × (sending_on poll.host.desks addr ≡ None)
    × (is_some (due_on poll.host.desks addr) ≡ true)
Asks ask.Idle poll addr =
    IsQuiet poll × (sending_on poll.host.desks addr ≡ None) × (due_on poll.host.desks addr ≡ None)
