-- One device after the other hears a piece.
use Rattle.std.proofs.Common.{◌≡◌, ℕ, ◌+◌, ◌<◌, ◌≤◌, List, [], ◌∷◌, ◌++◌, length, take, drop, set, get_or, sym, ap, subst, ◌∙◌, append_assoc, append-nil, arith}
use Rattle.std.specs.Prelude.{Err, Ok, OnOk, Result, unwrap_or}
use Rattle.std.specs.List.{All, flat_map}
use Rattle.std.proofs.lemmas.List.{drop-set-lt, drop_all, drop_more, length-append, take_all, take_at, take_more_set}
use Rattle.std.proofs.lemmas.List.Concat.{flat_map-cons}
use Rattle.std.proofs.lemmas.List.Elements.{All-append, All-cons, All-drop, All-head, All-nil}
use Rattle.std.proofs.lemmas.Grind.{drop_more_same}
use Rattle.std.proofs.Math.Seq.{map-set_same}
use Rattle.cct_model.specs.terms.device.DeviceSetup.{DeviceSetup}
use Rattle.cct_model.specs.Exchange.{answer, asks_of}
use Rattle.cct_model.specs.History.{Met, heard}
use Rattle.cct_bus.specs.declared.device.Device.{Device}
use Rattle.cct_bus.specs.Device.{Lived, Stands, setup_in, setups_in}
use Rattle.cct_bus.specs.Room.{most_answered, most_said}

-- devices of which one changed, but not its setup, have the setups that they had
pub setups_kept : (devices : List Device) (i : ℕ) (x y : Device) → x.setup ≡ y.setup → y ≡ get_or devices i y → setups_in (set devices i x) ≡ setups_in devices
setups_kept devices i x y same is = map-set_same setup_in devices i x y (ap (λ s. s.now) same ∙ ap setup_in is)

-- the devices from an index on are the one there and those after it
pub rest_is : (devices all : List Device) (i : ℕ) (y : Device) → i < length devices → y ≡ get_or devices i y → drop i devices ≡ drop i all → drop i all ≡ y ∷ drop (i + 1) all
rest_is devices all i y within is later =
    sym later ∙ drop_more devices i y within ∙ ap (λ d. d ∷ drop (i + 1) devices) (sym is) ∙ ap (λ ds. y ∷ ds) (drop_more_same devices all i later)

-- the devices after one that changed are those after it before
pub later_kept : (devices all : List Device) (i : ℕ) (x : Device) → drop i devices ≡ drop i all → drop (i + 1) (set devices i x) ≡ drop (i + 1) all
later_kept devices all i x later = drop-set-lt (i + 1) devices i x (omega arith) ∙ drop_more_same devices all i later

-- the room that is left after an answer
pub room_left : (all : List Device) (i : ℕ) (y : Device) (piece before said after : List ℕ) → drop i all ≡ y ∷ drop (i + 1) all
    → length before + most_answered piece (setups_in (drop i all)) ≤ 520 → length said ≤ most_said (setup_in y).addr piece → after ≡ before ++ said
    → length after + most_answered piece (setups_in (drop (i + 1) all)) ≤ 520
room_left all i y piece before said after rest room short is =
    let whole : most_answered piece (setups_in (drop i all)) ≡ most_said (setup_in y).addr piece + most_answered piece (setups_in (drop (i + 1) all)) = ap (λ ds. most_answered piece (setups_in ds)) rest in
    let sum : length after ≡ length before + length said = ap length is ∙ length-append before said in
    omega arith

-- what a history is after all devices heard a piece
abbrev pub hearing : List ℕ → (DeviceSetup → List Met) → DeviceSetup → List Met
hearing piece history d = heard (asks_of d piece) ∷ history d

-- the devices up to one that heard the piece have heard it
pub stand_more : (devices all : List Device) (i : ℕ) (x y : Device) (piece : List ℕ) (history : DeviceSetup → List Met) → i < length devices → x.setup ≡ y.setup → drop i all ≡ y ∷ drop (i + 1) all
    → ((past : List Met) → Lived y past → Lived x (heard (asks_of (setup_in y) piece) ∷ past)) → All (Stands history) all
    → All (Stands (hearing piece history)) (take i devices) → All (Stands (hearing piece history)) (take (i + 1) (set devices i x))
stand_more devices all i x y piece history within same rest hears stand before =
    let left : All (Stands history) (y ∷ drop (i + 1) all) = subst (λ ds. All (Stands history) ds) rest (All-drop (Stands history) i all stand) in
    let was : Stands history y = All-head (Stands history) y (drop (i + 1) all) left in
    let heard_it : Lived x (hearing piece history (setup_in y)) = hears (history (setup_in y)) was in
    let now : Stands (hearing piece history) x = subst (λ d. Lived x (hearing piece history d)) (sym (ap (λ s. s.now) same)) heard_it in
    subst (λ ds. All (Stands (hearing piece history)) ds) (sym (take_more_set devices i x within))
    (All-append (Stands (hearing piece history)) (take i devices) (x ∷ []) before (All-cons (Stands (hearing piece history)) x [] now (All-nil (Stands (hearing piece history)))))

-- what a device of a history answers
abbrev pub answer_of : List ℕ → (DeviceSetup → List Met) → DeviceSetup → List ℕ
answer_of piece history d = unwrap_or (answer d (history d) piece) []

-- the answers of the devices that are left, after what was said, are all answers
pub answers_more : (all : List Device) (i : ℕ) (y : Device) (piece before said after whole : List ℕ) (history : DeviceSetup → List Met) → drop i all ≡ y ∷ drop (i + 1) all
    → ((past : List Met) → Lived y past → said ≡ unwrap_or (answer (setup_in y) past piece) []) → All (Stands history) all → after ≡ before ++ said
    → before ++ flat_map (answer_of piece history) (setups_in (drop i all)) ≡ whole → after ++ flat_map (answer_of piece history) (setups_in (drop (i + 1) all)) ≡ whole
answers_more all i y piece before said after whole history rest says stand is so_far =
    let left : All (Stands history) (y ∷ drop (i + 1) all) = subst (λ ds. All (Stands history) ds) rest (All-drop (Stands history) i all stand) in
    let was : Stands history y = All-head (Stands history) y (drop (i + 1) all) left in
    let later = flat_map (answer_of piece history) (setups_in (drop (i + 1) all)) in
    let one : flat_map (answer_of piece history) (setups_in (drop i all)) ≡ answer_of piece history (setup_in y) ++ later =
    ap (λ ds. flat_map (answer_of piece history) (setups_in ds)) rest ∙ flat_map-cons (answer_of piece history) (setup_in y) (setups_in (drop (i + 1) all)) in
    ap (λ a. a ++ later) is
    ∙ append_assoc before said later
    ∙ ap (λ a. before ++ (a ++ later)) (says (history (setup_in y)) was)
    ∙ ap (λ a. before ++ a) (sym one)
    ∙ so_far

-- after the last device all have heard it
pub stand_all : (P : Device → Type 0) (devices : List Device) (i : ℕ) → length devices ≤ i → All P (take i devices) → All P devices
stand_all P devices i end stand = subst (λ ds. All P ds) (take_all i devices end) stand

-- and nothing is left to be answered
pub answers_all : (all : List Device) (i : ℕ) (piece before whole : List ℕ) (history : DeviceSetup → List Met) → length all ≤ i
    → before ++ flat_map (answer_of piece history) (setups_in (drop i all)) ≡ whole → before ≡ whole
answers_all all i piece before whole history end so_far =
    let none : flat_map (answer_of piece history) (setups_in (drop i all)) ≡ [] = ap (λ ds. flat_map (answer_of piece history) (setups_in ds)) (drop_all i all end) in
    sym (append-nil before) ∙ ap (λ a. before ++ a) (sym none) ∙ so_far

-- after a call that gave back Ok, what it promises there
pub ok_fact : {T E : Type 0} (r : Result T E) (v : T) (P : Type 0) → r ≡ Ok v → OnOk r P → P
ok_fact (Ok w) v P e h = h
ok_fact (Err w) v P e h = absurd cc

-- a list that was lent whole is what came back
pub refilled : (n : ℕ) (new old : List Device) → n ≡ length new → take n (new ++ drop (length new) old) ≡ new
refilled n new old e = take_at new (drop (length new) old) n (sym e)
