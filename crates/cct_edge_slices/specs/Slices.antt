-- What contracts see of a source and a sink over slices.
use Rattle.std.specs.Prelude.{◌≡◌, ◌+◌, ◌<◌, ◌≤◌, ℕ, List, ◌++◌, Option, Some, Result, MatchResult}
use Rattle.std.specs.Prelude.{length, take, drop, min}
use Rattle.std.specs.Borrow.{GName}
use Rattle.cct_edge.specs.declared.fault.Failed.{Failed}
use Rattle.cct_edge_slices.specs.declared.given.Given.{Given}
use Rattle.cct_edge_slices.specs.declared.page.Page.{Page}

-- the bytes of a source that are still to come
abbrev pub given_bytes : Given → List ℕ
given_bytes source = source.left.now

-- a source shows them
abbrev pub given_left : Given → Option (List ℕ)
given_left source = Some (given_bytes source)

-- A take never fails, and gives what fits into a room of so many bytes.
abbrev pub given_takes : Given → ℕ → Result ℕ Failed → Given → Type 0
given_takes before room answer now = MatchResult answer
    (λ n. (n ≡ min room (length (given_bytes before)))
    × (given_bytes now ≡ drop n (given_bytes before)))
    (λ _. ⊥)

-- which reference a page writes through
abbrev pub page_name : Page → GName
page_name page = page.bytes.ghost_name

-- what has been written on a page
abbrev pub written_on : Page → List ℕ
written_on page = take page.used page.bytes.now

-- how many bytes that are
abbrev pub written_count : Page → ℕ
written_count page = page.used

-- how many bytes a page has
abbrev pub page_room : Page → ℕ
page_room page = length page.bytes.now

-- how often a piece didn't fit
abbrev pub page_faults : Page → ℕ
page_faults page = page.faults

-- a page says what has been written
abbrev pub page_written : Page → Option (List ℕ)
page_written page = Some (written_on page)

-- all bytes of a page
abbrev pub page_bytes : Page → List ℕ
page_bytes page = page.bytes.now

-- A page stays where it is and as long as it is; what is written there grows, within it; and after
-- that it is as before.
abbrev pub PageStays : Page → Page → Type 0
PageStays before now = (page_name now ≡ page_name before) × (page_room now ≡ page_room before)
    × (written_count before ≤ written_count now)
    × (written_count before ≤ page_room before → written_count now ≤ page_room now)
    × (drop (written_count now) (page_bytes now) ≡ drop (written_count now) (page_bytes before))

-- A put writes the whole piece after what was written; or nothing, where it doesn't fit.
abbrev pub page_puts : Page → List ℕ → Result (Unit {0}) Failed → Page → Type 0
page_puts before piece answer now = MatchResult answer
    (λ _. PageStays before now × (written_on now ≡ written_on before ++ piece))
    (λ _. PageStays before now × (written_on now ≡ written_on before)
    × (page_room before < written_count before + length piece))
