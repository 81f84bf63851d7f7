-- The roll of a setup: its devices are asked one question after another who they are.
use Rattle.std.specs.Prelude.{◌≡◌, ◌⊎◌, ℕ, ◌+◌, ◌-◌, ◌≤◌, ◌<◌, ◌==◌, nat_le, Bool, false, List, []}
use Rattle.std.specs.Prelude.{◌++◌, length, map, if◌then◌else◌, Option, Some, None, bytes_eq, codes}
use Rattle.std.specs.Prelude.{slice_get}
use Rattle.std.specs.List.{position, remove, sum_by}
use Rattle.std.specs.Option.{option_map, option_to_list}
use Rattle.cct_model_lines.specs.terms.device.DeviceSetup.{DeviceSetup}
use Rattle.cct_model_lines.specs.terms.device.DeviceBody.{DeviceBody}
use Rattle.cct_model_lines.specs.terms.family.Family.{Family}
use Rattle.cct_model_lines.specs.terms.family.Family.TheVariants as family
use Rattle.cct_model_lines.specs.terms.request.Request.TheVariants as request
use Rattle.cct_model_lines.specs.terms.request.ReplyForm.TheVariants as form
use Rattle.cct_model_lines.specs.terms.device.TheConstants.{DEVICES}
use Rattle.cct_model_lines.specs.Exchange.{device_at}
use Rattle.cct_model_lines.specs.Family.{family_of, is_same}
use Rattle.cct_live_survey.specs.declared.calling.About.{About}
use Rattle.cct_live_survey.specs.declared.calling.About.TheVariants as about
use Rattle.cct_live_survey.specs.declared.calling.Called.{Called}
use Rattle.cct_live_survey.specs.declared.calling.Called.TheVariants as called
use Rattle.cct_live_survey.specs.declared.finding.Finding.{Finding}
use Rattle.cct_live_survey.specs.declared.finding.Finding.TheVariants as finding
use Rattle.cct_live_survey.specs.declared.roll.Answered.{Answered}
use Rattle.cct_live_survey.specs.declared.roll.Answered.TheVariants as answered
use Rattle.cct_live_survey.specs.declared.roll.TheConstants.{MOST_FINDINGS}
use Rattle.cct_live_survey.specs.declared.roll.Turn.{Turn}
use Rattle.cct_live_survey.specs.Asking.{Asks, category_told, id_told, serial_told}
use Rattle.cct_live_survey.specs.Category.{family_told}
use Rattle.cct_live_survey.specs.Coins.{coin_at, next_coin}

-- What is made of the answer about a serial number.
abbrev pub serial_call : DeviceSetup → Option ℕ → Called
serial_call d None = called.Silent
serial_call d (Some number) =
    if number == d.serial then called.Told None else called.Told
    (Some (finding.Serial d.addr number))

-- A family, if one was reported, is that of a device.
abbrev pub is_family : DeviceSetup → Option Family → Bool
is_family d (Some told) = is_same told (family_of d.body)
is_family d None = false

-- A category is that of a device's kind.
abbrev pub is_family_of : DeviceSetup → List ℕ → Bool
is_family_of d text = is_family d (family_told text)

-- What is made of the answer about a category.
abbrev pub category_call : DeviceSetup → Option (List ℕ) → Called
category_call d None = called.Silent
category_call d (Some text) =
    if is_family_of d text then called.Told None else called.Told
    (Some (finding.Kind d.addr (Some text)))

-- What is found where this identification is reported, and the setup names that coin, if any.
abbrev pub differing_coin : DeviceSetup → ℕ → List ℕ → Option (List ℕ) → Option Finding
differing_coin d place id (Some wanted) =
    if bytes_eq wanted id then None else Some (finding.Coin d.addr place id)
differing_coin d place id None = Some (finding.Coin d.addr place id)

-- What is found where a device shows this identification of the coin of a place.
abbrev pub other_coin : DeviceSetup → ℕ → List ℕ → Option Finding
other_coin d place id = differing_coin d place id (coin_at d.body place)

-- What is made of the answer about a coin.
abbrev pub coin_call : DeviceSetup → ℕ → Option (List ℕ) → Called
coin_call d place None = called.Silent
coin_call d place (Some id) = called.Told (other_coin d place id)

-- Which devices are still to be asked, and what was found so far, oldest first.
pub record Rolled : Type 0 where
  pub trusts_coins : Bool
  pub left : List Turn
  pub findings : List Finding

-- The first turn of a device.
abbrev pub first_turn : DeviceSetup → Turn
first_turn d = record { addr = d.addr; about = about.Serial; silent = 0 }

-- The roll before any device was asked.
abbrev pub first_roll : Bool → List DeviceSetup → Rolled
first_roll trusts_coins devices =
    record { trusts_coins = trusts_coins; left = map first_turn devices; findings = [] }

-- The question of the first coin from a place on, or none.
abbrev pub coin_from : DeviceBody → ℕ → Option About
coin_from body from = option_map (λ place. about.Coin place) (next_coin body from)

-- What a device is asked about after this, or none.
abbrev pub next_about : Bool → DeviceBody → About → Option About
next_about trusts_coins body about.Serial = Some about.Category
next_about trusts_coins body about.Category = if trusts_coins then None else coin_from body 1
next_about trusts_coins body (about.Coin place) = coin_from body (place + 1)

-- The next turn of a device after this one, or none.
abbrev pub next_turn : Bool → DeviceBody → Turn → Option Turn
next_turn trusts_coins body t =
    option_map (λ next. record { addr = t.addr; about = next; silent = 0 })
    (next_about trusts_coins body t.about)

-- The same turn after one silence more.
abbrev pub once_more : Turn → Turn
once_more t = record { addr = t.addr; about = t.about; silent = t.silent + 1 }

-- How much may be found by this question and those after it, after so many silent turns at it.
abbrev pub found_from : About → ℕ → ℕ
found_from about.Serial silent = if nat_le 3 silent then 18 else 19
found_from about.Category silent = 17
found_from (about.Coin place) silent = 1 + (16 - place)

-- How much may be found from a turn on.
abbrev pub most_found : Turn → ℕ
most_found t = found_from t.about t.silent

-- There is room for all that may be found.
pub record IsRoomy (left : List Turn) (findings : List Finding) : Type 0 where
  pub turns : length left ≤ DEVICES
  pub room : length findings + sum_by most_found left ≤ MOST_FINDINGS

-- The roll after the turn at an index: this one, if any, comes last, and this was found, if
-- anything.
abbrev pub moved : ℕ → Option Turn → Option Finding → Rolled → Rolled
moved index next found r = record {
  trusts_coins = r.trusts_coins;
  left = remove r.left index ++ option_to_list next;
  findings = r.findings ++ option_to_list found;
}

-- The roll after a turn that was answered, or whose question is given up.
abbrev pub gone_on : ℕ → DeviceBody → Turn → Option Finding → Rolled → Rolled
gone_on index body t found r = moved index (next_turn r.trusts_coins body t) found r

-- The roll after the third silence at a question. A device that is absent, or doesn't give a coin,
-- rests from then on.
abbrev pub given_up : ℕ → DeviceBody → Turn → About → Rolled → Rolled
given_up index body t about.Serial r =
    moved index (Some (once_more t)) (Some (finding.Absent t.addr)) r
given_up index body t about.Category r = gone_on index body t (Some (finding.Kind t.addr None)) r
given_up index body t (about.Coin place) r = moved index (Some (once_more t)) None r

-- The roll after a turn that wasn't answered. One that rests goes on to rest.
abbrev pub passed_over : ℕ → DeviceBody → Turn → Rolled → Rolled
passed_over index body t r =
    if nat_le 3 t.silent then moved index (Some t) None r
    else if nat_le 2 t.silent then given_up index body t t.about r
    else moved index (Some (once_more t)) None r

-- A turn is one at this address, or any that doesn't rest.
abbrev pub is_meant : Option ℕ → Turn → Bool
is_meant (Some addr) t = t.addr == addr
is_meant None t = nat_le t.silent 2

-- Over a link of which is known what an exchange gives.
module _ {L : Type 0} (gives : L → List ℕ → List ℕ → L → Type 0) where
  -- A device was asked one question once, and this is what came of it.
  abbrev pub CallsOnce : DeviceSetup → About → L → Called → L → Type 0
  CallsOnce d about.Serial first came last =
      (told : Option ℕ) × Asks gives 1 d.kind d.addr request.SerialNumber form.Serial serial_told
      first told last
      × (came ≡ serial_call d told)
  CallsOnce d about.Category first came last =
      (told : Option (List ℕ)) × Asks gives 1 d.kind d.addr request.Category form.Text category_told
      first told last
      × (came ≡ category_call d told)
  CallsOnce d (about.Coin place) first came last =
      (told : Option (List ℕ)) × Asks gives 1 d.kind d.addr (request.CoinId place) form.CoinId
      id_told first told last
      × (came ≡ coin_call d place told)

  -- The question of a turn was asked once of the device of the setup, and this is the roll then. If
  -- the setup has no such device, nothing was asked.
  pub data CallsAt (devices : List DeviceSetup) (index : ℕ) (r : Rolled) (first : L) : Answered →
      Rolled → L → Type 0 where
    was_told : (t : Turn) (d : DeviceSetup) (found : Option Finding) (last : L) →
        slice_get r.left index ≡ Some t
        → device_at devices t.addr ≡ Some d → CallsOnce d t.about first (called.Told found) last
        → CallsAt devices index r first answered.All (gone_on index d.body t found r) last
    was_silent : (t : Turn) (d : DeviceSetup) (last : L) → slice_get r.left index ≡ Some t
        → device_at devices t.addr ≡ Some d → CallsOnce d t.about first called.Silent last
        → CallsAt devices index r first answered.Silent (passed_over index d.body t r) last
    was_nobody : (t : Turn) → slice_get r.left index ≡ Some t → device_at devices t.addr ≡ None
        → CallsAt devices index r first answered.All (moved index None None r) first

  -- So many questions were asked of those who are meant, one after another, each answered.
  pub data Calls (devices : List DeviceSetup) (whom : Option ℕ) (r : Rolled) (first : L) : ℕ →
      Rolled → L → Type 0 where
    uncalled : Calls devices whom r first 0 r first
    called_more : (many index : ℕ) (before now : Rolled) (line next : L) →
        Calls devices whom r first many before line
        → position (is_meant whom) before.left ≡ Some index →
        CallsAt devices index before line answered.All now next
        → Calls devices whom r first (many + 1) now next

  -- Those who are meant were asked at most so many questions, up to the first that wasn't answered.
  pub data AsksRoll (devices : List DeviceSetup) (whom : Option ℕ) (most : ℕ) (r : Rolled)
      (first : L) : Answered → Rolled → L → Type 0 where
    all_answered : (many : ℕ) (now : Rolled) (last : L) → many ≤ most →
        Calls devices whom r first many now last
        → (many ≡ most) ⊎ (position (is_meant whom) now.left ≡ None) →
        AsksRoll devices whom most r first answered.All now last
    last_silent : (many index : ℕ) (before now : Rolled) (line last : L) → many < most →
        Calls devices whom r first many before line
        → position (is_meant whom) before.left ≡ Some index →
        CallsAt devices index before line answered.Silent now last
        → AsksRoll devices whom most r first answered.Silent now last
