-- The fields of a command, joined by spaces, are the line of a script that gives it.
use Rattle.std.proofs.Common.{◌≡◌, ℕ, ◌+◌, ◌-◌, ◌*◌, ◌/◌, ◌%◌, ◌^◌, ◌<◌, ◌≤◌, ◌==◌, not, Bool, true, false, List, [], ◌∷◌, ◌++◌, Option, Some, None, codes, refl, ap, ◌∙◌, arith, append_assoc}
use Rattle.std.specs.Prelude.{Ok, cond, nat_le}
use Rattle.std.specs.List.{join_with_byte}
use Rattle.std.specs.Option.{ok_or}
use Rattle.std.proofs.lemmas.Bool.Decides.{nat_tests}
use Rattle.hex.proofs.HexLemmas.{decode_of-encode_lower}
use Rattle.cct_model_wire.specs.declared.coin.TheConstants.{COIN_PLACES, PATHS}
use Rattle.cct_model_wire.specs.declared.request.TheConstants.{RETURN_CODE, STACK_CODE}
use Rattle.cct_model_lines.specs.declared.command.Command.{Command}
use Rattle.cct_model_lines.specs.declared.command.Command.TheVariants as command
use Rattle.cct_model_lines.specs.declared.command.Step.{Step}
use Rattle.cct_model_lines.specs.declared.command.Step.TheVariants as step
use Rattle.cct_model_lines.specs.declared.entry.LineKind.TheVariants as kind
use Rattle.cct_model_lines.specs.declared.entry.Entry.TheVariants as entry
use Rattle.cct_model_lines.specs.Grammar.{address_in, digits_from, is_digit, mask_in, number_in, ranged, step_at, step_fields, step_line}
use Rattle.cct_model_lines.specs.Script.{IsCommand}
use Rattle.cct_model_lines.specs.Shape.{shape_of}
use Rattle.cct_model_lines.specs.Text.{command_fields, field_texts, line_of, mask_field, number_text}
use Rattle.cct_text.specs.ScriptLine.{IsByte, IsTyped, command_line}
use Rattle.cct_text.specs.Written as written
use Rattle.cct_text.proofs.CommandFields.{command_above}
use Rattle.cct_text.proofs.Cuts.{EachAbove, cut_joined, mask_bytes}
use Rattle.cct_text.proofs.Numbers.{number_by_steps}

-- digits

digit_is : (d : ℕ) → d < 10 → is_digit (48 + d) ≡ true
digit_is d small = grind (arith, nat_tests)

one_digit : (n d : ℕ) → d < 10 → digits_from n ((48 + d) ∷ []) ≡ Some (10 * n + d)
one_digit n d small =
    let same : 10 * n + (48 + d - 48) ≡ 10 * n + d = omega arith in
    rw (digit_is d small) (ap Some same)

chosen_both : (b : Bool) (x y : Option ℕ) (m k : ℕ) → (x ≡ Some m → y ≡ Some k) → cond b x None ≡ Some m
    → cond b y None ≡ Some k
chosen_both true x y m k goes is = goes is
chosen_both false x y m k goes is = absurd (cc is)

-- digits and one more
more_digits : (n : ℕ) (digits : List ℕ) (m d : ℕ) → d < 10 → digits_from n digits ≡ Some m
    → digits_from n (digits ++ (48 + d) ∷ []) ≡ Some (10 * m + d)
more_digits n [] m d small is =
    let same : n ≡ m = cc is in
    one_digit n d small ∙ ap (λ k. Some (10 * k + d)) same
more_digits n (byte ∷ bytes) m d small is =
    let next = 10 * n + (byte - 48) in
    chosen_both (is_digit byte) (digits_from next bytes) (digits_from next (bytes ++ (48 + d) ∷ [])) m (10 * m + d)
    (more_digits next bytes m d small) is

-- whether a text begins with a digit that isn't 0
abbrev begins : List ℕ → Bool
begins [] = false
begins (byte ∷ bytes) = not (byte == 48)

begins_more : (digits : List ℕ) (byte : ℕ) → begins digits ≡ true → begins (digits ++ byte ∷ []) ≡ true
begins_more [] byte h = absurd (cc h)
begins_more (first ∷ digits) byte h = h

begins_one : (n : ℕ) → 1 ≤ n → begins ((48 + n) ∷ []) ≡ true
begins_one n some = grind (arith, nat_tests)

read_long : (zero_first : Bool) (x : Option ℕ) → not zero_first ≡ true → cond zero_first None x ≡ x
read_long true x h = absurd (cc h)
read_long false x h = refl

read_whole : (digits : List ℕ) → begins digits ≡ true → number_in digits ≡ digits_from 0 digits
read_whole [] h = absurd (cc h)
read_whole (byte ∷ []) h = refl
read_whole (byte ∷ next ∷ bytes) h = read_long (byte == 48) (digits_from 0 (byte ∷ next ∷ bytes)) h

-- what digits are to a number: they spell it, no number above 0 begins with none, and so they are read as it
record Spells (n : ℕ) (digits : List ℕ) : Type 0 where
  spelt : digits_from 0 digits ≡ Some n
  front : 1 ≤ n → begins digits ≡ true
  whole : number_in digits ≡ Some n

spells_one : (n : ℕ) → n < 10 → Spells n ((48 + n) ∷ [])
spells_one n small =
    let same : 10 * 0 + n ≡ n = omega arith in
    let spelt = one_digit 0 n small ∙ ap Some same in
    record { spelt = spelt; front = begins_one n; whole = spelt }

spells_more : (n : ℕ) (digits : List ℕ) → 10 ≤ n → Spells (n / 10) digits → Spells n (digits ++ (48 + n % 10) ∷ [])
spells_more n digits large h =
    let same : 10 * (n / 10) + n % 10 ≡ n = omega arith in
    let spelt = more_digits 0 digits (n / 10) (n % 10) (omega arith) h.spelt ∙ ap Some same in
    let front = begins_more digits (48 + n % 10) (h.front (omega arith)) in
    record { spelt = spelt; front = λ some. front; whole = read_whole (digits ++ (48 + n % 10) ∷ []) front ∙ spelt }

-- a number's text spells it
number_spelt : (n : ℕ) → number_in (number_text n) ≡ Some n
number_spelt n = (number_by_steps Spells spells_one spells_more n).whole

-- .. within its range
range_spelt : (least most n : ℕ) → least ≤ n → n ≤ most → ranged least most (number_text n) ≡ Some n
unfolding ranged
range_spelt least most n from up_to =
    let low : nat_le least n ≡ true = grind (arith, nat_tests) in
    let high : nat_le n most ≡ true = grind (arith, nat_tests) in
    rw (number_spelt n) (rw (low, high) refl)

address_spelt : (addr : ℕ) → IsByte addr → address_in (number_text addr) ≡ Some addr
address_spelt addr fits = range_spelt 0 255 addr (omega arith) (omega arith)

-- an inhibit mask's text spells it
mask_spelt : (mask : ℕ) → mask < 2 ^ 16 → 1 ≤ mask → mask_in (mask_field mask) ≡ Some mask
unfolding mask_in
mask_spelt mask fits some =
    let bytes : List ℕ = mask / 256 ∷ mask % 256 ∷ [] in
    let is : 256 * (mask / 256) + mask % 256 ≡ mask = omega arith in
    let not_zero : (mask == 0) ≡ false = grind (arith, nat_tests) in
    rw (decode_of-encode_lower bytes (mask_bytes mask fits)) (rw (is, not_zero) refl)

-- a command at an address
at_spelt : (make : ℕ → Step) (addr : ℕ) → IsByte addr
    → ok_or (step_at make (number_text addr ∷ [])) kind.Form ≡ Ok (make addr)
at_spelt make addr fits = rw (address_spelt addr fits) refl

-- the fields of a command give it
fields_give : (c : Command) → IsTyped c → IsCommand c → step_fields (command_fields c) ≡ Ok (step.Command c)
fields_give (command.Start addr mask) h r =
    rw (address_spelt addr h.0, mask_spelt mask h.1 r) refl
fields_give (command.Round addr) h r = at_spelt (λ a. step.Command (command.Round a)) addr h
fields_give (command.Stop addr) h r = at_spelt (λ a. step.Command (command.Stop a)) addr h
fields_give (command.Pay addr id count) h r =
    let number = range_spelt 1 4294967295 id r.0 (omega (arith, h.1)) in
    let coins = range_spelt 1 255 count r.1 (omega (arith, h.2)) in
    rw (address_spelt addr h.0, number, coins) refl
fields_give (command.Settle addr) h r = at_spelt (λ a. step.Command (command.Settle a)) addr h
fields_give (command.Halt addr) h r = at_spelt (λ a. step.Command (command.Halt a)) addr h
fields_give command.Scan h r = refl
fields_give (command.Ident addr) h r = at_spelt (λ a. step.Command (command.Ident a)) addr h
fields_give (command.Path addr place path) h r =
    let at_place = range_spelt 0 COIN_PLACES place (omega arith) r.0 in
    let by_path = range_spelt 1 PATHS path r.1 r.2 in
    rw (address_spelt addr h.0, at_place, by_path) refl
fields_give (command.Route addr way) h r =
    let by_way = range_spelt RETURN_CODE STACK_CODE way (omega arith) r in
    rw (address_spelt addr h.0, by_way) refl
fields_give (command.Vend id price) h r =
    let number = range_spelt 1 4294967295 id r.0 (omega (arith, h.0)) in
    let worth = range_spelt 1 1000000000 price r.1 r.2 in
    rw (number, worth) refl

-- a command that is typed has a mask that fits
typed_fits : (c : Command) → IsTyped c → written.IsCommand c
typed_fits (command.Start addr mask) h = (tt, h.1, tt)
typed_fits c h = (tt, tt, tt)

-- fields that give a command, joined by spaces, are a line that gives it
joined_give : (fields : List (List ℕ)) (s : Step) → EachAbove 32 fields → step_fields fields ≡ Ok s
    → step_line (join_with_byte 32 fields) ≡ Ok s
unfolding step_line
joined_give [] s above gives = absurd (cc gives)
joined_give (field ∷ fields) s above gives = ap step_fields (cut_joined 32 field fields above) ∙ gives

-- the line of a command is the script's line that gives it
pub command_back : (c : Command) → IsTyped c → IsCommand c → step_line (command_line c) ≡ Ok (step.Command c)
command_back c typed range =
    joined_give (command_fields c) (step.Command c) (command_above c (typed_fits c typed)) (fields_give c typed range)

-- a line of fields that are some, after a word
word_before : (word field : List ℕ) (fields : List (List ℕ))
    → join_with_byte 32 (word ∷ field ∷ fields) ++ 10 ∷ []
    ≡ word ++ 32 ∷ (join_with_byte 32 (field ∷ fields) ++ 10 ∷ [])
word_before word field fields = append_assoc word (32 ∷ join_with_byte 32 (field ∷ fields)) (10 ∷ [])

-- the line of a command that was taken is its script's line after the word `ok`
pub taken_is : (c : Command) → line_of (entry.Taken c) ≡ codes "ok " ++ command_line c ++ 10 ∷ []
unfolding line_of
taken_is c =
    let s = shape_of c in
    word_before (codes "ok") s.word (field_texts s.first ++ field_texts s.second ++ field_texts s.third)
