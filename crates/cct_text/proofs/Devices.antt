-- The devices that a scan lists are read back from their field.
use Rattle.std.proofs.Common.{◌≡◌, ℕ, zero, suc, ◌<◌, ◌≤◌, ◌==◌, ◌&&◌, ◌||◌, Bool, true, false, if◌then◌else◌, ◌⊎◌, inl, inr, List, [], ◌∷◌, ◌++◌, length, get_or, take, map, Option, Some, None, codes, refl, ap, sym, ◌∙◌, arith}
use Rattle.std.specs.List.{filter_map, cons_option}
use Rattle.std.proofs.lemmas.Bool.{cases_lt, eqb-true, eq-eqb}
use Rattle.std.proofs.lemmas.List.{map-append}
use Rattle.std.proofs.Math.Seq.{take-suc, take-length}
use Rattle.cct_model_lines.specs.declared.entry.Listed.{Listed}
use Rattle.cct_model_lines.specs.DeviceSet.{has, addresses_below, all_addresses}
use Rattle.cct_model_lines.specs.Text.{number_text, list_field, listed_text, listed_field}
use Rattle.cct_text.specs.Reading.{parts_at, Device, device_of, devices_in, is_listed, listed_in}
use Rattle.cct_text.specs.Written.{IsListed}
use Rattle.cct_text.proofs.Cuts.{all_above, EachAbove, above_append, above_weaker, number_above, joined_above, cut_joined}
use Rattle.cct_text.proofs.Back.{one_back, each_weaker}

-- an address with either check, and the device that it is, by whether either set has it
abbrev text_by : Bool → Bool → ℕ → Option (List ℕ)
text_by simple crc addr =
    if simple then Some (number_text addr ++ codes "/simple")
    else if crc then Some (number_text addr ++ codes "/crc")
    else None

abbrev device_by : Bool → Bool → ℕ → Option Device
device_by simple crc addr =
    if simple then Some (record { addr = addr; is_simple = true })
    else if crc then Some (record { addr = addr; is_simple = false })
    else None

abbrev device_at : Listed → ℕ → Option Device
device_at listed addr = device_by (has listed.simple addr) (has listed.crc addr) addr

abbrev read : List ℕ → Option Device
read text = device_of (parts_at 47 text)

simple_read : (addr : ℕ) → read (number_text addr ++ codes "/simple") ≡ Some (record { addr = addr; is_simple = true })
simple_read addr =
    let make : ℕ → Option Device = λ a. Some (record { addr = a; is_simple = true }) in
    ap device_of (cut_joined 47 (number_text addr) (codes "simple" ∷ []) (number_above addr, (refl, tt)))
    ∙ one_back make addr

crc_read : (addr : ℕ) → read (number_text addr ++ codes "/crc") ≡ Some (record { addr = addr; is_simple = false })
crc_read addr =
    let make : ℕ → Option Device = λ a. Some (record { addr = a; is_simple = false }) in
    ap device_of (cut_joined 47 (number_text addr) (codes "crc" ∷ []) (number_above addr, (refl, tt)))
    ∙ one_back make addr

read_next : (simple crc : Bool) (addr : ℕ) → (texts : List (List ℕ)) (devices : List Device)
    → filter_map read texts ≡ devices
    → filter_map read (cons_option (text_by simple crc addr) texts) ≡ cons_option (device_by simple crc addr) devices
read_next true crc addr texts devices h =
    ap (λ o. cons_option o (filter_map read texts)) (simple_read addr)
    ∙ ap (λ rest. record { addr = addr; is_simple = true } ∷ rest) h
read_next false true addr texts devices h =
    ap (λ o. cons_option o (filter_map read texts)) (crc_read addr)
    ∙ ap (λ rest. record { addr = addr; is_simple = false } ∷ rest) h
read_next false false addr texts devices h = h

devices_read : (listed : Listed) (addrs : List ℕ)
    → filter_map read (filter_map (listed_text listed) addrs) ≡ filter_map (device_at listed) addrs
devices_read listed [] = refl
devices_read listed (addr ∷ addrs) =
    read_next (has listed.simple addr) (has listed.crc addr) addr
    (filter_map (listed_text listed) addrs) (filter_map (device_at listed) addrs)
    (devices_read listed addrs)

-- the texts have no comma
above_next : (simple crc : Bool) (addr : ℕ) → (texts : List (List ℕ)) → EachAbove 44 texts
    → EachAbove 44 (cons_option (text_by simple crc addr) texts)
above_next true crc addr texts h = (
  above_append 44 (number_text addr) (codes "/simple")
      (above_weaker 44 47 (omega arith) (number_text addr) (number_above addr)) refl,
  h,
)
above_next false true addr texts h = (
  above_append 44 (number_text addr) (codes "/crc")
      (above_weaker 44 47 (omega arith) (number_text addr) (number_above addr)) refl,
  h,
)
above_next false false addr texts h = h

texts_above : (listed : Listed) (addrs : List ℕ) → EachAbove 44 (filter_map (listed_text listed) addrs)
texts_above listed [] = tt
texts_above listed (addr ∷ addrs) =
    above_next (has listed.simple addr) (has listed.crc addr) addr (filter_map (listed_text listed) addrs)
    (texts_above listed addrs)

-- the parts of a field
field_parts : (texts : List (List ℕ)) → EachAbove 44 texts → filter_map read (parts_at 44 (list_field texts)) ≡ filter_map read texts
field_parts [] h = refl
field_parts (text ∷ texts) h = ap (filter_map read) (cut_joined 44 text texts h)

field_above : (texts : List (List ℕ)) → EachAbove 44 texts → all_above 32 (list_field texts) ≡ true
field_above [] h = refl
field_above (text ∷ texts) h = joined_above 32 44 refl (text ∷ texts) (each_weaker 32 44 (omega arith) (text ∷ texts) h)

-- the addresses
all_are : (n : ℕ) → n ≡ 256 → all_addresses ≡ addresses_below n
unfolding all_addresses
all_are n e = ap addresses_below (sym e)

-- whether an address is in a list
stands : ℕ → List ℕ → Bool
stands addr [] = false
stands addr (a ∷ addrs) = (a == addr) || stands addr addrs

stands_last : (addr : ℕ) (addrs : List ℕ) (n : ℕ) → (stands addr addrs ≡ true) ⊎ (n ≡ addr) → stands addr (addrs ++ n ∷ []) ≡ true
unfolding stands
stands_last addr [] n (inl h) = absurd (cc h)
stands_last addr [] n (inr e) = ap (λ b. b || false) (eq-eqb n addr e)
stands_last addr (a ∷ addrs) n h =
    let more = stands_last addr addrs n in
    elim (a == addr) as (λ t. ((t || stands addr addrs ≡ true) ⊎ (n ≡ addr)) → (t || stands addr (addrs ++ n ∷ [])) ≡ true) [
      | true ↦ λ _. refl
      | false ↦ λ rest. more rest
    ] h

stands_below : (addr n : ℕ) → addr < n → stands addr (addresses_below n) ≡ true
stands_below addr zero below = absurd (omega arith)
stands_below addr (suc n) below =
    elim (cases_lt addr n) [
      | inl less ↦ stands_last addr (addresses_below n) n (inl (stands_below addr n less))
      | inr top ↦ stands_last addr (addresses_below n) n (inr (omega arith))
    ]

-- whether a device of two sets has a check
abbrev hits : Bool → Bool → Bool → Bool
hits true simple crc = simple
hits false simple crc = if simple then false else crc

and_false : (b : Bool) → (b && false) ≡ false
and_false true = refl
and_false false = refl

listed_step : (k simple crc : Bool) (a addr : ℕ) (devices : List Device)
    → is_listed k (cons_option (device_by simple crc a) devices) addr
    ≡ (if (a == addr) && hits k simple crc then true else is_listed k devices addr)
listed_step true true crc a addr devices = refl
listed_step true false true a addr devices = refl
listed_step true false false a addr devices =
    ap (λ b. if b then true else is_listed true devices addr) (sym (and_false (a == addr)))
listed_step false true crc a addr devices = refl
listed_step false false true a addr devices = refl
listed_step false false false a addr devices =
    ap (λ b. if b then true else is_listed false devices addr) (sym (and_false (a == addr)))

chosen : (hit rest seen wanted : Bool) → rest ≡ (seen && wanted) → hit ≡ wanted → (if hit then true else rest) ≡ wanted
chosen true rest seen wanted h e = e
chosen false rest seen wanted h e = h ∙ ap (λ b. seen && b) (sym e) ∙ and_false seen ∙ e

bool_step : (t hit rest seen wanted : Bool) → rest ≡ (seen && wanted) → (t ≡ true → hit ≡ wanted)
    → (if t && hit then true else rest) ≡ ((t || seen) && wanted)
bool_step true hit rest seen wanted h same = chosen hit rest seen wanted h (same refl)
bool_step false hit rest seen wanted h same = h

listed_among : (listed : Listed) (k : Bool) (addrs : List ℕ) (addr : ℕ)
    → is_listed k (filter_map (device_at listed) addrs) addr ≡ (stands addr addrs && hits k (has listed.simple addr) (has listed.crc addr))
unfolding stands
listed_among listed k [] addr = refl
listed_among listed k (a ∷ addrs) addr =
    let wanted : ℕ → Bool = λ x. hits k (has listed.simple x) (has listed.crc x) in
    listed_step k (has listed.simple a) (has listed.crc a) a addr (filter_map (device_at listed) addrs)
    ∙ bool_step (a == addr) (wanted a) (is_listed k (filter_map (device_at listed) addrs) addr) (stands addr addrs) (wanted addr)
    (listed_among listed k addrs addr) (λ t. ap wanted (eqb-true a addr t))

-- a set is that of what it has
members_of : (members : List Bool) (f : ℕ → Bool) (n : ℕ) → n ≤ length members
    → ((a : ℕ) → a < n → f a ≡ get_or members a false) → map f (addresses_below n) ≡ take n members
members_of members f zero few same = refl
members_of members f (suc n) few same =
    map-append f (addresses_below n) (n ∷ [])
    ∙ ap (λ front. front ++ f n ∷ []) (members_of members f n (omega arith) (λ a below. same a (omega arith)))
    ∙ ap (λ last. take n members ++ last ∷ []) (same n (omega arith))
    ∙ sym (take-suc members n false (omega arith))

members_all : (members : List Bool) (f : ℕ → Bool) → length members ≡ 256
    → ((a : ℕ) → a < length members → f a ≡ get_or members a false) → map f all_addresses ≡ members
members_all members f e same =
    ap (map f) (all_are (length members) e)
    ∙ members_of members f (length members) (omega arith) same
    ∙ take-length members

stands_all : (addr n : ℕ) → n ≡ 256 → addr < n → stands addr all_addresses ≡ true
stands_all addr n e below = ap (stands addr) (all_are n e) ∙ stands_below addr n below

crc_hit : (simple crc : Bool) → (simple ≡ true → crc ≡ false) → hits false simple crc ≡ crc
crc_hit true crc once = sym (once refl)
crc_hit false crc once = refl

-- the field of listed devices
pub devices_back : (listed : Listed) → devices_in (listed_field listed) ≡ filter_map (device_at listed) all_addresses
devices_back listed =
    field_parts (filter_map (listed_text listed) all_addresses) (texts_above listed all_addresses)
    ∙ devices_read listed all_addresses

pub listed_field_above : (listed : Listed) → all_above 32 (listed_field listed) ≡ true
listed_field_above listed =
    field_above (filter_map (listed_text listed) all_addresses) (texts_above listed all_addresses)

simple_back : (listed : Listed) → IsListed listed
    → map (is_listed true (filter_map (device_at listed) all_addresses)) all_addresses ≡ listed.simple.members
simple_back listed h =
    members_all listed.simple.members (is_listed true (filter_map (device_at listed) all_addresses)) h.simple
    (λ a below.
    listed_among listed true all_addresses a
    ∙ ap (λ b. b && has listed.simple a) (stands_all a (length listed.simple.members) h.simple below))

crc_back : (listed : Listed) → IsListed listed
    → map (is_listed false (filter_map (device_at listed) all_addresses)) all_addresses ≡ listed.crc.members
crc_back listed h =
    members_all listed.crc.members (is_listed false (filter_map (device_at listed) all_addresses)) h.crc
    (λ a below.
    listed_among listed false all_addresses a
    ∙ ap (λ b. b && hits false (has listed.simple a) (has listed.crc a)) (stands_all a (length listed.crc.members) h.crc below)
    ∙ crc_hit (has listed.simple a) (has listed.crc a) (h.once a))

abbrev of_members : List Bool → List Bool → Listed
of_members simple crc = record { simple = record { members = simple }; crc = record { members = crc } }

pub listed_back : (listed : Listed) → IsListed listed → listed_in (listed_field listed) ≡ listed
listed_back listed h =
    let devices = filter_map (device_at listed) all_addresses in
    ap (λ ds. of_members (map (is_listed true ds) all_addresses) (map (is_listed false ds) all_addresses))
    (devices_back listed)
    ∙ ap (λ simple. of_members simple (map (is_listed false devices) all_addresses)) (simple_back listed h)
    ∙ ap (of_members listed.simple.members) (crc_back listed h)
