-- The trays of a setup in rising order of address, and their stocks.
use Rattle.std.proofs.Common.{◌≡◌, ℕ, suc, ◌+◌, ◌-◌, ◌<◌, ◌≤◌, ◌==◌, nat_le, nat_lt, Bool, true, false, not, cond, List, [], ◌∷◌, ◌++◌, length, get_or, take, drop, refl, sym, ap, ◌∙◌, arith, append_assoc, Some, None, if◌then◌else◌}
use Rattle.std.proofs.Math.ListN.{set}
use Rattle.std.specs.Prelude.{unwrap_or, ⊤}
use Rattle.std.specs.List.{insert, position, position_or_len}
use Rattle.std.proofs.lemmas.Bool.Decides.{nat_tests}
use Rattle.std.proofs.lemmas.List.{drop_more, drop-set-lt, take_all, take_more_set}
use Rattle.std.proofs.lemmas.List.Concat.{flat_map-cons}
use Rattle.cct_model.specs.terms.device.DeviceBody.{DeviceBody}
use Rattle.cct_model.specs.terms.device.DeviceBody.TheVariants.{Acceptor, Bill, Hopper}
use Rattle.cct_model.specs.terms.device.DeviceSetup.{DeviceSetup}
use Rattle.cct_model.specs.declared.change.Tray.{Tray}
use Rattle.cct_model.specs.Change.{restocked, tray_of, trays_of}
use Rattle.cct_model.specs.Exchange.{by_address, put_by_address}
use Rattle.cct_host_change.specs.Trays.{put_tray}

-- the place of the first that passes, or how many there are
known_or : (below : Bool) (i n : ℕ) → (below ≡ false → i ≡ n) → unwrap_or (cond below (Some i) None) n ≡ i
known_or true i n past = refl
known_or false i n past = sym (past refl)

step_at_most : (stops : Bool) (i n : ℕ) → i ≤ n → cond (not stops) (1 + i) 0 ≤ suc n
step_at_most true i n most = omega arith
step_at_most false i n most = omega arith

place_at_most : (p : Tray → Bool) (trays : List Tray) → position_or_len p trays ≤ length trays
place_at_most p [] = omega arith
place_at_most p (t ∷ ts) = step_at_most (p t) (position_or_len p ts) (length ts) (place_at_most p ts)

place_past : (i n : ℕ) → i ≤ n → nat_lt i n ≡ false → i ≡ n
place_past i n most test = grind (arith, nat_tests)

rank_is : (p : Tray → Bool) (trays : List Tray) → unwrap_or (position p trays) (length trays) ≡ position_or_len p trays
rank_is p trays =
    known_or (nat_lt (position_or_len p trays) (length trays)) (position_or_len p trays) (length trays)
    (place_past (position_or_len p trays) (length trays) (place_at_most p trays))

-- a tray that is put before the first whose address isn't below its own
is_not_below : ℕ → Tray → Bool
is_not_below addr t = nat_le addr t.addr

put_by : (stops : Bool) (t u : Tray) (us : List Tray) (rest : ℕ) → insert us rest t ≡ put_tray t us
    → insert (u ∷ us) (cond (not stops) (1 + rest) 0) t ≡ cond stops (t ∷ u ∷ us) (u ∷ put_tray t us)
put_by true t u us rest same = refl
put_by false t u us rest same =
    let next : 1 + rest ≡ suc rest = omega arith in
    ap (λ n. insert (u ∷ us) n t) next ∙ ap (λ ts. u ∷ ts) same

put_is : (t : Tray) (us : List Tray) → insert us (position_or_len (λ u. nat_le t.addr u.addr) us) t ≡ put_tray t us
put_is t [] = refl
put_is t (u ∷ us) = put_by (nat_le t.addr u.addr) t u us (position_or_len (λ v. nat_le t.addr v.addr) us) (put_is t us)

pub put_there : (t : Tray) (us : List Tray) (place : ℕ)
    → place ≡ unwrap_or (position (λ u. nat_le t.addr u.addr) us) (length us) → insert us place t ≡ put_tray t us
put_there t us place is =
    ap (λ i. insert us i t) (is ∙ rank_is (λ u. nat_le t.addr u.addr) us) ∙ put_is t us

-- no device of these has an address below this one
abbrev AreFrom : ℕ → List DeviceSetup → Type 0
AreFrom addr [] = ⊤
AreFrom addr (d ∷ ds) = (addr ≤ d.addr) × AreFrom addr ds

-- devices are in order of address
abbrev AreInOrder : List DeviceSetup → Type 0
AreInOrder [] = ⊤
AreInOrder (d ∷ ds) = AreFrom d.addr ds × AreInOrder ds

from_less : (low high : ℕ) (ds : List DeviceSetup) → low ≤ high → AreFrom high ds → AreFrom low ds
from_less low high [] less from = tt
from_less low high (d ∷ ds) less from = (omega (arith, from.0), from_less low high ds less from.1)

from_by : (below : Bool) (addr : ℕ) (d e : DeviceSetup) (es : List DeviceSetup) → addr ≤ d.addr → AreFrom addr (e ∷ es)
    → AreFrom addr (put_by_address d es) → AreFrom addr (cond below (d ∷ e ∷ es) (e ∷ put_by_address d es))
from_by true addr d e es low from rest = (low, from)
from_by false addr d e es low from rest = (from.0, rest)

from_put : (addr : ℕ) (d : DeviceSetup) (es : List DeviceSetup) → addr ≤ d.addr → AreFrom addr es → AreFrom addr (put_by_address d es)
from_put addr d [] low from = (low, tt)
from_put addr d (e ∷ es) low from = from_by (nat_le d.addr e.addr) addr d e es low from (from_put addr d es low from.1)

order_by : (below : Bool) (d e : DeviceSetup) (es : List DeviceSetup) → nat_le d.addr e.addr ≡ below → AreInOrder (e ∷ es)
    → AreInOrder (put_by_address d es) → AreInOrder (cond below (d ∷ e ∷ es) (e ∷ put_by_address d es))
order_by true d e es is order rest =
    let low : d.addr ≤ e.addr = grind (arith, nat_tests) in
    ((low, from_less d.addr e.addr es low order.0), order)
order_by false d e es is order rest =
    let low : e.addr ≤ d.addr = grind (arith, nat_tests) in
    (from_put e.addr d es low order.0, rest)

order_put : (d : DeviceSetup) (es : List DeviceSetup) → AreInOrder es → AreInOrder (put_by_address d es)
order_put d [] order = (tt, tt)
order_put d (e ∷ es) order = order_by (nat_le d.addr e.addr) d e es refl order (order_put d es order.1)

in_order : (ds : List DeviceSetup) → AreInOrder (by_address ds)
in_order [] = tt
in_order (d ∷ ds) = order_put d (by_address ds) (in_order ds)

-- the trays of one device more
trays-cons : (d : DeviceSetup) (ds : List DeviceSetup) → trays_of (d ∷ ds) ≡ tray_of d.addr d.body ++ trays_of ds
trays-cons d ds = flat_map-cons (λ d. tray_of d.addr d.body) d ds

-- a device without a tray adds none
none_by : (below : Bool) (d e : DeviceSetup) (es : List DeviceSetup) → trays_of (d ∷ e ∷ es) ≡ trays_of (e ∷ es)
    → trays_of (put_by_address d es) ≡ trays_of es
    → trays_of (cond below (d ∷ e ∷ es) (e ∷ put_by_address d es)) ≡ trays_of (e ∷ es)
none_by true d e es first rest = first
none_by false d e es first rest =
    trays-cons e (put_by_address d es) ∙ ap (λ ts. tray_of e.addr e.body ++ ts) rest ∙ sym (trays-cons e es)

none_put : (d : DeviceSetup) (es : List DeviceSetup) → tray_of d.addr d.body ≡ [] → trays_of (put_by_address d es) ≡ trays_of es
none_put d [] none = trays-cons d [] ∙ ap (λ ts. ts ++ []) none
none_put d (e ∷ es) none =
    none_by (nat_le d.addr e.addr) d e es (trays-cons d (e ∷ es) ∙ ap (λ ts. ts ++ trays_of (e ∷ es)) none) (none_put d es none)

-- a tray is before those of devices whose addresses aren't below its own
put_by_first : (below : Bool) (t u : Tray) (us : List Tray) → below ≡ true → cond below (t ∷ u ∷ us) (u ∷ put_tray t us) ≡ t ∷ u ∷ us
put_by_first true t u us is = refl
put_by_first false t u us is = absurd cc

put_before : (t : Tray) (addr : ℕ) (body : DeviceBody) (us : List Tray) → t.addr ≤ addr → put_tray t us ≡ t ∷ us
    → put_tray t (tray_of addr body ++ us) ≡ t ∷ tray_of addr body ++ us
put_before t addr (Acceptor accepts values ids) us low rest = rest
put_before t addr (Hopper life value) us low rest =
    put_by_first (nat_le t.addr addr) t (record { addr = addr; value = value; stock = 0 }) us (grind (arith, nat_tests))
put_before t addr (Bill accepts values ids) us low rest = rest

put_first : (t : Tray) (ds : List DeviceSetup) → AreFrom t.addr ds → put_tray t (trays_of ds) ≡ t ∷ trays_of ds
put_first t [] from = refl
put_first t (d ∷ ds) from =
    ap (put_tray t) (trays-cons d ds) ∙ put_before t d.addr d.body (trays_of ds) from.0 (put_first t ds from.1)
    ∙ ap (λ ts. t ∷ ts) (sym (trays-cons d ds))

-- and after that of a device whose address is below its own
put_by_later : (below : Bool) (t u : Tray) (us : List Tray) → below ≡ false → cond below (t ∷ u ∷ us) (u ∷ put_tray t us) ≡ u ∷ put_tray t us
put_by_later true t u us is = absurd cc
put_by_later false t u us is = refl

put_after : (t : Tray) (addr : ℕ) (body : DeviceBody) (us : List Tray) → nat_le t.addr addr ≡ false
    → put_tray t (tray_of addr body ++ us) ≡ tray_of addr body ++ put_tray t us
put_after t addr (Acceptor accepts values ids) us is = refl
put_after t addr (Hopper life value) us is =
    put_by_later (nat_le t.addr addr) t (record { addr = addr; value = value; stock = 0 }) us is
put_after t addr (Bill accepts values ids) us is = refl

one_by : (below : Bool) (d e : DeviceSetup) (es : List DeviceSetup) (t : Tray) → nat_le d.addr e.addr ≡ below
    → tray_of d.addr d.body ≡ t ∷ [] → t.addr ≡ d.addr → AreInOrder (e ∷ es)
    → trays_of (put_by_address d es) ≡ put_tray t (trays_of es)
    → trays_of (cond below (d ∷ e ∷ es) (e ∷ put_by_address d es)) ≡ put_tray t (trays_of (e ∷ es))
one_by true d e es t is one same order rest =
    let low : t.addr ≤ e.addr = grind (arith, nat_tests) in
    trays-cons d (e ∷ es) ∙ ap (λ ts. ts ++ trays_of (e ∷ es)) one
    ∙ sym (put_first t (e ∷ es) (low, from_less t.addr e.addr es low order.0))
one_by false d e es t is one same order rest =
    trays-cons e (put_by_address d es) ∙ ap (λ ts. tray_of e.addr e.body ++ ts) rest
    ∙ sym (put_after t e.addr e.body (trays_of es) (ap (λ a. nat_le a e.addr) same ∙ is))
    ∙ ap (put_tray t) (sym (trays-cons e es))

one_put : (d : DeviceSetup) (es : List DeviceSetup) (t : Tray) → tray_of d.addr d.body ≡ t ∷ [] → t.addr ≡ d.addr
    → AreInOrder es → trays_of (put_by_address d es) ≡ put_tray t (trays_of es)
one_put d [] t one same order = trays-cons d [] ∙ ap (λ ts. ts ++ []) one
one_put d (e ∷ es) t one same order =
    one_by (nat_le d.addr e.addr) d e es t refl one same order (one_put d es t one same order.1)

-- a list with a first element is that and what follows it
tail_whole : (n : ℕ) (ds : List DeviceSetup) → n ≡ length ds → take n ds ≡ ds
tail_whole n ds e = take_all n ds (omega arith)

pub first_apart : (devices : List DeviceSetup) (first : DeviceSetup) → 1 ≤ length devices → first ≡ get_or devices 0 first
    → devices ≡ first ∷ take (length devices - 1) (drop 1 devices)
first_apart [] first some is = absurd (omega arith)
first_apart (d ∷ ds) first some is =
    let rest : take (suc (length ds) - 1) ds ≡ ds = tail_whole (suc (length ds) - 1) ds (omega arith) in
    ap (λ x. x ∷ ds) (sym is) ∙ ap (λ xs. first ∷ xs) (sym rest)

-- the trays of a setup with one device more
pub added_none : (d : DeviceSetup) (ds : List DeviceSetup) → tray_of d.addr d.body ≡ [] → trays_of (by_address (d ∷ ds)) ≡ trays_of (by_address ds)
added_none d ds none = none_put d (by_address ds) none

pub added_one : (d : DeviceSetup) (ds : List DeviceSetup) (t : Tray) → tray_of d.addr d.body ≡ t ∷ [] → t.addr ≡ d.addr
    → trays_of (by_address (d ∷ ds)) ≡ put_tray t (trays_of (by_address ds))
added_one d ds t one same = one_put d (by_address ds) t one same (in_order ds)

-- one tray more has its stock set
abbrev pub one_restocked : ℕ → (ℕ → ℕ) → Tray → Tray
one_restocked addr becomes t = if t.addr == addr then record { addr = t.addr; value = t.value; stock = becomes t.stock } else t

pub restocked_more : (addr : ℕ) (becomes : ℕ → ℕ) (old now after : List Tray) (i : ℕ) (t : Tray) → i < length now
    → take i now ++ restocked addr becomes (drop i now) ≡ restocked addr becomes old → after ≡ set now i (one_restocked addr becomes (get_or now i t))
    → take (i + 1) after ++ restocked addr becomes (drop (i + 1) after) ≡ restocked addr becomes old
restocked_more addr becomes old now after i t some before is =
    let y = one_restocked addr becomes (get_or now i t) in
    let front : take (i + 1) after ≡ take i now ++ y ∷ [] = ap (take (i + 1)) is ∙ take_more_set now i y some in
    let back : drop (i + 1) after ≡ drop (i + 1) now = ap (drop (i + 1)) is ∙ drop-set-lt (i + 1) now i y (omega arith) in
    ap (λ ts. ts ++ restocked addr becomes (drop (i + 1) after)) front
    ∙ ap (λ ts. (take i now ++ y ∷ []) ++ restocked addr becomes ts) back
    ∙ append_assoc (take i now) (y ∷ []) (restocked addr becomes (drop (i + 1) now))
    ∙ ap (λ ts. take i now ++ restocked addr becomes ts) (sym (drop_more now i t some))
    ∙ before
