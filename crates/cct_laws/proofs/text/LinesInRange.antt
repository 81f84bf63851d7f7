-- What a line says: a setup line, which keeps each device sound, or a step in range.
use Rattle.std.proofs.Common.{◌≡◌, ℕ, ◌+◌, ◌*◌, ◌%◌, ◌^◌, ◌<◌, ◌≤◌, ◌≢◌, ◌==◌, ◌&&◌, nat_le, Bool, true, false, cond, List, [], ◌∷◌, length, bytes_eq, codes, refl, ap, sym, subst, Option, Some, None, option_map, ok_or, Result, Ok, Err, arith}
use Rattle.std.specs.Prelude.{⊤}
use Rattle.std.specs.List.{list_all}
use Rattle.std.specs.Result.{result_ok}
use Rattle.std.proofs.lemmas.Bool.Decides.{nat_tests}
use Rattle.hex.specs.Hex.{IsBytes, decode_of, decode_pairs}
use Rattle.hex.specs.declared.error.FromHexError.{FromHexError}
use Rattle.hex.proofs.HexLemmas.{decode_pairs-ok}
use Rattle.cct_model.proofs.Sound.{printing_all, plain_acceptor_sound, plain_bills_sound, plain_device_sound, valued_sound, named_sound}
use Rattle.cct_model.specs.terms.device.DeviceBody.TheVariants.{Hopper}
use Rattle.cct_model.specs.terms.device.DeviceBody.{DeviceBody}
use Rattle.cct_model.specs.terms.device.DeviceSetup.{DeviceSetup}
use Rattle.cct_model.specs.lines.setup.SetupLine.{SetupLine}
use Rattle.cct_model.specs.lines.setup.SetupLine.TheVariants as says
use Rattle.cct_model.specs.lines.command.TheConstants.{GREATEST_AMOUNT, GREATEST_FIRST}
use Rattle.cct_model.specs.lines.command.Command.TheVariants as command
use Rattle.cct_model.specs.lines.command.Step.{Step}
use Rattle.cct_model.specs.lines.command.Step.TheVariants as step
use Rattle.cct_model.specs.lines.entry.LineKind.{LineKind}
use Rattle.cct_model.specs.lines.entry.LineKind.TheVariants as kind
use Rattle.cct_model.specs.Device.{IsWord, IsId, IsSound, IsSoundBody}
use Rattle.cct_model.specs.Grammar.{◌>>=◌, is_space, number_in, within, ranged, three_byte_in, check_in, is_printing, word_in, id_in, bytes_in, piece_in, plain_acceptor, plain_bills, counting_line, acceptor_line, bills_line, hopper_line, value_line, texts_line, alone, setup_fields, setup_line, mask_of_bytes, mask_in, address_in, step_at, place_step, fault_step, start_step, pay_step, path_step, route_step, vend_step, choice_in, crash_step, stock_step, change_step, step_fields, step_line}
use Rattle.cct_model.specs.Script.{word_of, IsCommand, IsInRange, IsFault, IsCrash}
use Rattle.cct_model.proofs.Added.{KeepsEach}
use Rattle.cct_model_wire.proofs.OfBytes.{IfThere}
use Rattle.cct_laws.specs.Law.{IsCommandOfBytes, HasBytes}
use Rattle.cct_laws.proofs.text.Words.{first_part}

-- a fact of what a line says, if it isn't refused
abbrev pub IfSaid : {A : Type 0} → (A → Type 0) → Result A LineKind → Type 0
IfSaid P (Ok x) = P x
IfSaid P (Err why) = ⊤

said_or : {A : Type 0} (P : A → Type 0) (found : Option A) (why : LineKind) → IfThere P found → IfSaid P (ok_or found why)
said_or P None why holds = tt
said_or P (Some x) why holds = holds

bind : {A B : Type 0} (P : B → Type 0) (found : Option A) (more : A → Option B) → ((x : A) → found ≡ Some x → IfThere P (more x)) → IfThere P (found >>= more)
bind P None more holds = tt
bind P (Some x) more holds = holds x refl

word_by : {A : Type 0} (P : A → Type 0) (here : Bool) (x y : Result A LineKind) → (here ≡ true → IfSaid P x) → IfSaid P y → IfSaid P (cond here x y)
word_by P true x y holds other = holds refl
word_by P false x y holds other = other

-- numbers within a range
within_by : (fits : Bool) (least most m n : ℕ) → (nat_le least m && nat_le m most) ≡ fits → cond fits (Some m) None ≡ Some n → (least ≤ n) × (n ≤ most)
within_by true least most m n test found =
    let is : m ≡ n = cc in
    let low : least ≤ m = grind (arith, nat_tests) in
    let high : m ≤ most = grind (arith, nat_tests) in
    subst (λ k. (least ≤ k) × (k ≤ most)) is (low, high)
within_by false least most m n test found = absurd cc

number_within : (least most : ℕ) (number : Option ℕ) (n : ℕ) → (number >>= within least most) ≡ Some n → (least ≤ n) × (n ≤ most)
number_within least most None n found = absurd cc
number_within least most (Some m) n found = within_by (nat_le least m && nat_le m most) least most m n refl found

ranged_in : (least most : ℕ) (field : List ℕ) (n : ℕ) → ranged least most field ≡ Some n → (least ≤ n) × (n ≤ most)
unfolding ranged
ranged_in least most field n found = number_within least most (number_in field) n found

three_hold : (a b c : Bool) → (a && b && c) ≡ true → (a ≡ true) × (b ≡ true) × (c ≡ true)
three_hold true true true all = (refl, refl, refl)
three_hold true true false all = absurd cc
three_hold true false c all = absurd cc
three_hold false b c all = absurd cc

two_hold : (a b : Bool) → (a && b) ≡ true → (a ≡ true) × (b ≡ true)
two_hold true true all = (refl, refl)
two_hold true false all = absurd cc
two_hold false b all = absurd cc

at_least : (n m : ℕ) → nat_le n m ≡ true → n ≤ m
at_least n m test = grind (arith, nat_tests)

same_number : (n m : ℕ) → (n == m) ≡ true → n ≡ m
same_number n m test = grind (arith, nat_tests)

word_by_tests : (field : List ℕ) → (nat_le 1 (length field) && nat_le (length field) 24 && list_all is_printing field) ≡ true → IsWord field
word_by_tests field test =
    let tests = three_hold _ _ _ test in
    (at_least 1 (length field) tests.0, at_least (length field) 24 tests.1, printing_all field tests.2)

found_if : (P : List ℕ → Type 0) (fits : Bool) (field text : List ℕ) → (fits ≡ true → P field) → cond fits (Some field) None ≡ Some text → P text
found_if P true field text holds found =
    let is : field ≡ text = cc in
    subst P is (holds refl)
found_if P false field text holds found = absurd cc

word_found : (field text : List ℕ) → word_in field ≡ Some text → IsWord text
unfolding word_in
word_found field text found = found_if IsWord (nat_le 1 (length field) && nat_le (length field) 24 && list_all is_printing field) field text (word_by_tests field) found

id_by_tests : (field : List ℕ) → ((length field == 6) && list_all is_printing field) ≡ true → IsId field
id_by_tests field test =
    let tests = two_hold _ _ test in
    (same_number (length field) 6 tests.0, printing_all field tests.1)

id_found : (field id : List ℕ) → id_in field ≡ Some id → IsId id
unfolding id_in
id_found field id found = found_if IsId ((length field == 6) && list_all is_printing field) field id (id_by_tests field) found

-- bytes
ok_of : (r : Result (List ℕ) FromHexError) (bytes : List ℕ) → result_ok r ≡ Some bytes → r ≡ Ok bytes
ok_of (Ok x) bytes found =
    let is : x ≡ bytes = cc in
    ap Ok is
ok_of (Err e) bytes found = absurd cc

even_by : (odd : Bool) (r s : Result (List ℕ) FromHexError) (bytes : List ℕ) → r ≢ Ok bytes → cond odd r s ≡ Ok bytes → s ≡ Ok bytes
even_by true r s bytes never found = absurd (never found)
even_by false r s bytes never found = found

bytes_decoded : (text bytes : List ℕ) → bytes_in text ≡ Some bytes → IsBytes bytes
bytes_decoded text bytes found =
    let pairs : decode_pairs 0 text ≡ Ok bytes = even_by (length text % 2 == 1) _ _ bytes (λ e. cc) (ok_of (decode_of text) bytes found) in
    (decode_pairs-ok 0 text bytes pairs).2

bytes_short : (text bytes : List ℕ) → bytes_in text ≡ Some bytes → 2 * length bytes ≤ length text
bytes_short text bytes found =
    let pairs : decode_pairs 0 text ≡ Ok bytes = even_by (length text % 2 == 1) _ _ bytes (λ e. cc) (ok_of (decode_of text) bytes found) in
    omega (arith, (decode_pairs-ok 0 text bytes pairs).1)

piece_by : (dash fits : Bool) (most : ℕ) (text piece : List ℕ) → nat_le (length text) (2 * most) ≡ fits → cond dash (Some []) (cond fits (bytes_in text) None) ≡ Some piece → length piece ≤ most
piece_by true fits most text piece test found =
    let is : [] ≡ piece = cc in
    subst (λ p. length p ≤ most) is (omega arith)
piece_by false true most text piece test found = omega (arith, bytes_short text piece found, at_least (length text) (2 * most) test)
piece_by false false most text piece test found = absurd cc

piece_short : (most : ℕ) (field piece : List ℕ) → piece_in most field ≡ Some piece → length piece ≤ most
unfolding piece_in
piece_short most [] piece found = absurd cc
piece_short most (byte ∷ bytes) piece found = piece_by (bytes_eq (byte ∷ bytes) (codes "-")) (nat_le (length (byte ∷ bytes)) (2 * most)) most (byte ∷ bytes) piece refl found

-- and has bytes
none_bytes : IsBytes []
none_bytes i = omega arith

decoded_by : (dash fits : Bool) (text piece : List ℕ) → cond dash (Some []) (cond fits (bytes_in text) None) ≡ Some piece → IsBytes piece
decoded_by true fits text piece found =
    let is : [] ≡ piece = cc in
    subst IsBytes is none_bytes
decoded_by false true text piece found = bytes_decoded text piece found
decoded_by false false text piece found = absurd cc

piece_bytes : (most : ℕ) (field piece : List ℕ) → piece_in most field ≡ Some piece → IsBytes piece
unfolding piece_in
piece_bytes most [] piece found = absurd cc
piece_bytes most (byte ∷ bytes) piece found = decoded_by (bytes_eq (byte ∷ bytes) (codes "-")) (nat_le (length (byte ∷ bytes)) (2 * most)) (byte ∷ bytes) piece found

-- a setup line keeps each device sound
abbrev pub KeepsSound : SetupLine → Type 0
KeepsSound line = KeepsEach IsSound line

three_bytes : (field : List ℕ) (n : ℕ) → three_byte_in field ≡ Some n → n < 2 ^ 24
three_bytes field n found = omega (arith, (ranged_in 0 16777215 field n found).1)

counting_said : (make : DeviceSetup → SetupLine) (plain : ℕ → DeviceBody) (fields : List (List ℕ)) →
    ((d : DeviceSetup) → IsSound d → KeepsSound (make d)) →
    ((accepts : ℕ) → accepts < 2 ^ 24 → IsSoundBody (plain accepts)) →
    IfThere KeepsSound (counting_line make plain fields)
counting_said make plain (a ∷ c ∷ s ∷ n ∷ []) keeps sound =
    bind KeepsSound (ranged 2 255 a) _ (λ addr at.
    bind KeepsSound (check_in c) _ (λ check under.
    bind KeepsSound (three_byte_in s) _ (λ serial numbered.
    bind KeepsSound (three_byte_in n) _ (λ accepts counted.
    keeps _ (plain_device_sound addr check serial (plain accepts) (ranged_in 2 255 a addr at).0
    (ranged_in 2 255 a addr at).1 (three_bytes s serial numbered)
    (sound accepts (three_bytes n accepts counted)))))))
counting_said make plain fields keeps sound = tt

acceptor_said : (fields : List (List ℕ)) → IfThere KeepsSound (acceptor_line fields)
acceptor_said fields = counting_said says.Acceptor plain_acceptor fields (λ d sound. sound) plain_acceptor_sound

bills_said : (fields : List (List ℕ)) → IfThere KeepsSound (bills_line fields)
bills_said fields = counting_said says.Bills plain_bills fields (λ d sound. sound) plain_bills_sound

hopper_said : (fields : List (List ℕ)) → IfThere KeepsSound (hopper_line fields)
hopper_said (a ∷ c ∷ s ∷ n ∷ v ∷ []) =
    bind KeepsSound (ranged 2 255 a) _ (λ addr at.
    bind KeepsSound (check_in c) _ (λ check under.
    bind KeepsSound (three_byte_in s) _ (λ serial numbered.
    bind KeepsSound (three_byte_in n) _ (λ life counted.
    bind KeepsSound (ranged 1 1000000 v) _ (λ value worth.
    plain_device_sound addr check serial (Hopper life value) (ranged_in 2 255 a addr at).0 (ranged_in 2 255 a addr at).1
    (three_bytes s serial numbered)
    (three_bytes n life counted, (ranged_in 1 1000000 v value worth).0, (ranged_in 1 1000000 v value worth).1))))))
hopper_said fields = tt

value_said : (fields : List (List ℕ)) → IfThere KeepsSound (value_line fields)
value_said (a ∷ p ∷ v ∷ i ∷ []) =
    bind KeepsSound (ranged 2 255 a) _ (λ addr at.
    bind KeepsSound (ranged 1 16 p) _ (λ place placed.
    bind KeepsSound (ranged 1 1000000 v) _ (λ value worth.
    bind KeepsSound (id_in i) _ (λ id named.
    λ d e sound was. valued_sound d e place value id d.body (ranged_in 1 1000000 v value worth).1 (id_found i id named) sound sound.body was))))
value_said fields = tt

texts_said : (fields : List (List ℕ)) → IfThere KeepsSound (texts_line fields)
texts_said (a ∷ m ∷ p ∷ s ∷ b ∷ []) =
    bind KeepsSound (ranged 2 255 a) _ (λ addr at.
    bind KeepsSound (word_in m) _ (λ maker by.
    bind KeepsSound (word_in p) _ (λ product of.
    bind KeepsSound (word_in s) _ (λ software with.
    bind KeepsSound (word_in b) _ (λ build from.
    λ d e sound was. named_sound d e _ (word_found m maker by) (word_found p product of) (word_found s software with) (word_found b build from) sound was)))))
texts_said fields = tt

alone_said : {A : Type 0} (P : A → Type 0) (x : A) (fields : List (List ℕ)) → P x → IfThere P (alone x fields)
alone_said P x [] holds = holds
alone_said P x (field ∷ fields) holds = tt

setup_fields_said : (word : List ℕ) (fields : List (List ℕ)) → IfSaid KeepsSound (setup_fields (word ∷ fields))
setup_fields_said word fields =
    word_by KeepsSound (bytes_eq word (codes "acceptor")) _ _ (λ _. said_or KeepsSound (acceptor_line fields) kind.Form (acceptor_said fields))
    (word_by KeepsSound (bytes_eq word (codes "hopper")) _ _ (λ _. said_or KeepsSound (hopper_line fields) kind.Form (hopper_said fields))
    (word_by KeepsSound (bytes_eq word (codes "bills")) _ _ (λ _. said_or KeepsSound (bills_line fields) kind.Form (bills_said fields))
    (word_by KeepsSound (bytes_eq word (codes "value")) _ _ (λ _. said_or KeepsSound (value_line fields) kind.Form (value_said fields))
    (word_by KeepsSound (bytes_eq word (codes "texts")) _ _ (λ _. said_or KeepsSound (texts_line fields) kind.Form (texts_said fields))
    (word_by KeepsSound (bytes_eq word (codes "begin")) _ _ (λ _. said_or KeepsSound (alone says.Begin fields) kind.Form (alone_said KeepsSound says.Begin fields tt)) tt)))))

-- a setup line
pub setup_said : (line : List ℕ) → IfSaid KeepsSound (setup_line line)
unfolding setup_line
setup_said line =
    let first = first_part is_space line in
    subst (λ parts. IfSaid KeepsSound (setup_fields parts)) (sym first.1) (setup_fields_said (word_of line) first.0)

-- a step in range, or the end
abbrev pub IsToday : Step → Type 0
IsToday (step.Coin addr place) = (1 ≤ place) × (place ≤ 16)
IsToday (step.Bill addr place) = (1 ≤ place) × (place ≤ 16)
IsToday (step.Alien addr) = ⊤
IsToday (step.Fall addr) = ⊤
IsToday (step.Jam addr) = ⊤
IsToday (step.Reset addr) = ⊤
IsToday (step.Fault f) = IsFault f × HasBytes (step.Fault f)
IsToday (step.Next addr) = addr < 256
IsToday (step.Command c) = IsCommand c × IsCommandOfBytes c
IsToday (step.Crash at choice) = IsCrash at
IsToday step.Balance = ⊤
IsToday (step.Stock addr count) = ⊤
IsToday (step.Change first amount) = IsInRange (step.Change first amount)
IsToday step.Serve = ⊤
IsToday step.End = ⊤

small_address : (field : List ℕ) (addr : ℕ) → address_in field ≡ Some addr → addr < 256
small_address field addr found = omega (arith, (ranged_in 0 255 field addr found).1)

at_said : (make : ℕ → Step) (fields : List (List ℕ)) → ((addr : ℕ) → addr < 256 → IsToday (make addr)) → IfThere IsToday (step_at make fields)
at_said make [] holds = tt
at_said make (a ∷ []) holds = made (address_in a) (small_address a)
  where
    made : (found : Option ℕ) → ((addr : ℕ) → found ≡ Some addr → addr < 256) → IfThere IsToday (option_map make found)
    made None small = tt
    made (Some addr) small = holds addr (small addr refl)
at_said make (a ∷ b ∷ fields) holds = tt

place_said : (make : ℕ → ℕ → Step) (fields : List (List ℕ)) →
    ((addr place : ℕ) → (1 ≤ place) × (place ≤ 16) → IsToday (make addr place)) → IfThere IsToday (place_step make fields)
place_said make (a ∷ p ∷ []) holds =
    bind IsToday (address_in a) _ (λ addr at.
    bind IsToday (ranged 1 16 p) _ (λ place placed. holds addr place (ranged_in 1 16 p place placed)))
place_said make fields holds = tt

-- a mask that isn't 0 is read from two bytes
mask_by : (none : Bool) (high low mask : ℕ) → high < 256 → low < 256 → (256 * high + low == 0) ≡ none → cond none None (Some (256 * high + low)) ≡ Some mask → (1 ≤ mask) × (mask < 65536)
mask_by true high low mask h l test found = absurd cc
mask_by false high low mask h l test found =
    let is : 256 * high + low ≡ mask = cc in
    let some : 1 ≤ 256 * high + low = grind (arith, nat_tests) in
    subst (λ m. (1 ≤ m) × (m < 65536)) is (some, omega arith)

mask_of_pair : (bytes : List ℕ) (mask : ℕ) → IsBytes bytes → mask_of_bytes bytes ≡ Some mask → (1 ≤ mask) × (mask < 65536)
mask_of_pair [] mask h found = absurd cc
mask_of_pair (a ∷ []) mask h found = absurd cc
mask_of_pair (high ∷ low ∷ []) mask h found = mask_by (256 * high + low == 0) high low mask (h 0) (h 1) refl found
mask_of_pair (a ∷ b ∷ c ∷ bytes) mask h found = absurd cc

mask_there : (bytes : Option (List ℕ)) (mask : ℕ) → ((bs : List ℕ) → bytes ≡ Some bs → IsBytes bs) → (bytes >>= mask_of_bytes) ≡ Some mask → (1 ≤ mask) × (mask < 65536)
mask_there None mask h found = absurd cc
mask_there (Some bs) mask h found = mask_of_pair bs mask (h bs refl) found

mask_found : (field : List ℕ) (mask : ℕ) → mask_in field ≡ Some mask → (1 ≤ mask) × (mask < 65536)
unfolding mask_in
mask_found field mask found = mask_there (bytes_in field) mask (bytes_decoded field) found

start_said : (fields : List (List ℕ)) → IfThere IsToday (start_step fields)
start_said (a ∷ m ∷ []) =
    bind IsToday (address_in a) _ (λ addr at.
    bind IsToday (mask_in m) _ (λ mask has.
    ((mask_found m mask has).0, (small_address a addr at, (mask_found m mask has).1))))
start_said fields = tt

pay_said : (fields : List (List ℕ)) → IfThere IsToday (pay_step fields)
pay_said (a ∷ i ∷ n ∷ []) =
    bind IsToday (address_in a) _ (λ addr at.
    bind IsToday (ranged 1 4294967295 i) _ (λ id numbered.
    bind IsToday (ranged 1 255 n) _ (λ count many.
    (((ranged_in 1 4294967295 i id numbered).0, (ranged_in 1 255 n count many).0, (ranged_in 1 255 n count many).1), small_address a addr at))))
pay_said fields = tt

path_said : (fields : List (List ℕ)) → IfThere IsToday (path_step fields)
path_said (a ∷ p ∷ q ∷ []) =
    bind IsToday (address_in a) _ (λ addr at.
    bind IsToday (ranged 0 16 p) _ (λ place placed.
    bind IsToday (ranged 1 8 q) _ (λ path sorted.
    (((ranged_in 0 16 p place placed).1, (ranged_in 1 8 q path sorted).0, (ranged_in 1 8 q path sorted).1), small_address a addr at))))
path_said fields = tt

route_said : (fields : List (List ℕ)) → IfThere IsToday (route_step fields)
route_said (a ∷ w ∷ []) =
    bind IsToday (address_in a) _ (λ addr at.
    bind IsToday (ranged 0 1 w) _ (λ way routed. ((ranged_in 0 1 w way routed).1, small_address a addr at)))
route_said fields = tt

vend_said : (fields : List (List ℕ)) → IfThere IsToday (vend_step fields)
vend_said (i ∷ p ∷ []) =
    bind IsToday (ranged 1 4294967295 i) _ (λ id numbered.
    bind IsToday (ranged 1 1000000000 p) _ (λ price priced. (
      (
        (ranged_in 1 4294967295 i id numbered).0,
        (ranged_in 1 1000000000 p price priced).0,
        (ranged_in 1 1000000000 p price priced).1,
      ),
      omega arith,
    )))
vend_said fields = tt

mapped : (make : List ℕ → Step) (found : Option (List ℕ)) → ((piece : List ℕ) → found ≡ Some piece → IsToday (make piece)) → IfThere IsToday (option_map make found)
mapped make None holds = tt
mapped make (Some piece) holds = holds piece refl

fault_by : (b : Bool) (x y : Option Step) → IfThere IsToday x → IfThere IsToday y → IfThere IsToday (cond b x y)
fault_by true x y holds other = holds
fault_by false x y holds other = other

fault_said : (fields : List (List ℕ)) → IfThere IsToday (fault_step fields)
fault_said (whom ∷ p ∷ []) =
    fault_by (bytes_eq whom (codes "devices")) _ _ (mapped _ (piece_in 260 p) (λ piece found. (piece_short 260 p piece found, piece_bytes 260 p piece found)))
    (fault_by (bytes_eq whom (codes "host")) _ _ (mapped _ (piece_in 260 p) (λ piece found. (piece_short 260 p piece found, piece_bytes 260 p piece found)))
    (fault_by (bytes_eq whom (codes "whole")) _ _ (mapped _ (piece_in 520 p) (λ piece found. (piece_short 520 p piece found, piece_bytes 520 p piece found))) tt))
fault_said fields = tt

-- the choice of a power cut may be any
chosen : (found : Option ℕ) → IfThere IsToday (option_map (step.Crash None) found)
chosen None = tt
chosen (Some choice) = tt

crash_said : (fields : List (List ℕ)) → IfThere IsToday (crash_step fields)
crash_said (x ∷ []) = chosen (choice_in x)
crash_said (a ∷ n ∷ x ∷ []) =
    bind IsToday (address_in a) _ (λ addr at.
    bind IsToday (ranged 0 4 n) _ (λ calls few.
    bind IsToday (choice_in x) _ (λ choice any. (ranged_in 0 4 n calls few).1)))
crash_said fields = tt

stock_said : (fields : List (List ℕ)) → IfThere IsToday (stock_step fields)
stock_said (a ∷ n ∷ []) =
    bind IsToday (address_in a) _ (λ addr at.
    bind IsToday (ranged 0 4294967295 n) _ (λ count few. tt))
stock_said fields = tt

change_said : (fields : List (List ℕ)) → IfThere IsToday (change_step fields)
change_said (i ∷ n ∷ []) =
    bind IsToday (ranged 1 GREATEST_FIRST i) _ (λ first early.
    bind IsToday (ranged 1 GREATEST_AMOUNT n) _ (λ amount small.
    let is_first = ranged_in 1 GREATEST_FIRST i first early in
    let is_amount = ranged_in 1 GREATEST_AMOUNT n amount small in
    (is_first.0, is_first.1, is_amount.0, is_amount.1)))
change_said fields = tt

step_fields_said : (word : List ℕ) (fields : List (List ℕ)) → IfSaid IsToday (step_fields (word ∷ fields))
step_fields_said word fields =
    let at = λ (make : ℕ → Step) (holds : (addr : ℕ) → addr < 256 → IsToday (make addr)). said_or IsToday (step_at make fields) kind.Form (at_said make fields holds) in
    word_by IsToday (bytes_eq word (codes "coin")) _ _ (λ _. said_or IsToday (place_step step.Coin fields) kind.Form (place_said step.Coin fields (λ addr place placed. placed)))
    (word_by IsToday (bytes_eq word (codes "alien")) _ _ (λ _. at step.Alien (λ addr small. tt))
    (word_by IsToday (bytes_eq word (codes "bill")) _ _ (λ _. said_or IsToday (place_step step.Bill fields) kind.Form (place_said step.Bill fields (λ addr place placed. placed)))
    (word_by IsToday (bytes_eq word (codes "fall")) _ _ (λ _. at step.Fall (λ addr small. tt))
    (word_by IsToday (bytes_eq word (codes "jam")) _ _ (λ _. at step.Jam (λ addr small. tt))
    (word_by IsToday (bytes_eq word (codes "reset")) _ _ (λ _. at step.Reset (λ addr small. tt))
    (word_by IsToday (bytes_eq word (codes "next")) _ _ (λ _. at step.Next (λ addr small. small))
    (word_by IsToday (bytes_eq word (codes "fault")) _ _ (λ _. said_or IsToday (fault_step fields) kind.Form (fault_said fields))
    (word_by IsToday (bytes_eq word (codes "start")) _ _ (λ _. said_or IsToday (start_step fields) kind.Form (start_said fields))
    (word_by IsToday (bytes_eq word (codes "round")) _ _ (λ _. at (λ a. step.Command (command.Round a)) (λ addr small. (tt, small)))
    (word_by IsToday (bytes_eq word (codes "stop")) _ _ (λ _. at (λ a. step.Command (command.Stop a)) (λ addr small. (tt, small)))
    (word_by IsToday (bytes_eq word (codes "settle")) _ _ (λ _. at (λ a. step.Command (command.Settle a)) (λ addr small. (tt, small)))
    (word_by IsToday (bytes_eq word (codes "halt")) _ _ (λ _. at (λ a. step.Command (command.Halt a)) (λ addr small. (tt, small)))
    (word_by IsToday (bytes_eq word (codes "ident")) _ _ (λ _. at (λ a. step.Command (command.Ident a)) (λ addr small. (tt, small)))
    (word_by IsToday (bytes_eq word (codes "pay")) _ _ (λ _. said_or IsToday (pay_step fields) kind.Form (pay_said fields))
    (word_by IsToday (bytes_eq word (codes "scan")) _ _ (λ _. said_or IsToday (alone (step.Command command.Scan) fields) kind.Form (alone_said IsToday (step.Command command.Scan) fields (tt, omega arith)))
    (word_by IsToday (bytes_eq word (codes "path")) _ _ (λ _. said_or IsToday (path_step fields) kind.Form (path_said fields))
    (word_by IsToday (bytes_eq word (codes "route")) _ _ (λ _. said_or IsToday (route_step fields) kind.Form (route_said fields))
    (word_by IsToday (bytes_eq word (codes "vend")) _ _ (λ _. said_or IsToday (vend_step fields) kind.Form (vend_said fields))
    (word_by IsToday (bytes_eq word (codes "crash")) _ _ (λ _. said_or IsToday (crash_step fields) kind.Form (crash_said fields))
    (word_by IsToday (bytes_eq word (codes "balance")) _ _ (λ _. said_or IsToday (alone step.Balance fields) kind.Form (alone_said IsToday step.Balance fields tt))
    (word_by IsToday (bytes_eq word (codes "stock")) _ _ (λ _. said_or IsToday (stock_step fields) kind.Form (stock_said fields))
    (word_by IsToday (bytes_eq word (codes "change")) _ _ (λ _. said_or IsToday (change_step fields) kind.Form (change_said fields))
    (word_by IsToday (bytes_eq word (codes "serve")) _ _ (λ _. said_or IsToday (alone step.Serve fields) kind.Form (alone_said IsToday step.Serve fields tt))
    (word_by IsToday (bytes_eq word (codes "end")) _ _ (λ _. said_or IsToday (alone step.End fields) kind.Form (alone_said IsToday step.End fields tt)) tt))))))))))))))))))))))))

-- a step line
pub step_said : (line : List ℕ) → IfSaid IsToday (step_line line)
unfolding step_line
step_said line =
    let first = first_part is_space line in
    subst (λ parts. IfSaid IsToday (step_fields parts)) (sym first.1) (step_fields_said (word_of line) first.0)
