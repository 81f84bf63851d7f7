-- Listed devices, address by address.
use Rattle.std.proofs.Common.{◌≡◌, ◌≢◌, ℕ, ◌+◌, ◌*◌, ◌≤◌, List, [], ◌∷◌, ◌++◌, length, Option, Some, None, refl, ap, sym, ◌∙◌, add-one, arith, append_assoc}
use Rattle.std.specs.List.{filter_map, cons_option}
use Rattle.std.proofs.lemmas.List.{append-nil, flat_map_more}
use Rattle.std.proofs.lemmas.List.Elements.{filter_map-append}
use Rattle.cct_model_lines.specs.declared.entry.Listed.{Listed}
use Rattle.cct_model_lines.specs.DeviceSet.{addresses_below, all_addresses}
use Rattle.cct_model_lines.specs.Text.{listed_text, listed_field, list_field}
use Rattle.cct_text.specs.Joined.{apart, found, separator_past}
use Rattle.cct_text.proofs.Texts.{joined_is}

-- the texts of the devices listed below an address
pub listed_below : Listed → ℕ → List (List ℕ)
listed_below listed i = filter_map (listed_text listed) (addresses_below i)

-- the separator after texts: a space where there is none yet, and else a comma
abbrev pub separator_after : List (List ℕ) → ℕ
separator_after [] = 32
separator_after (text ∷ texts) = 44

listed_none : (listed : Listed) → listed_below listed 0 ≡ []
unfolding listed_below
listed_none listed = refl

listed_more : (listed : Listed) (i : ℕ) → listed_below listed (i + 1) ≡ listed_below listed i ++ cons_option (listed_text listed i) []
unfolding listed_below
listed_more listed i =
    ap (λ n. filter_map (listed_text listed) (addresses_below n)) (add-one i)
    ∙ filter_map-append (listed_text listed) (addresses_below i) (i ∷ [])

all_are : (n : ℕ) → n ≡ 256 → addresses_below n ≡ all_addresses
unfolding all_addresses
all_are n e = ap addresses_below e

listed_all : (listed : Listed) (n : ℕ) → n ≡ 256 → listed_below listed n ≡ filter_map (listed_text listed) all_addresses
unfolding listed_below
listed_all listed n e = ap (filter_map (listed_text listed)) (all_are n e)

-- what is written once the addresses below i are looked at
pub record Lists (listed : Listed) (i : ℕ) (old new : List ℕ) (separator : ℕ) : Type 0 where
  pub text : new ≡ old ++ apart 32 44 (listed_below listed i)
  pub next : separator ≡ separator_after (listed_below listed i)
  pub room : length new ≤ length old + 11 * i

pub lists_none : (listed : Listed) (old : List ℕ) → Lists listed 0 old old 32
lists_none listed old = record {
  text = sym (append-nil old) ∙ ap (λ texts. old ++ apart 32 44 texts) (sym (listed_none listed));
  next = ap separator_after (sym (listed_none listed));
  room = omega arith;
}

-- one more text after the others
apart_more : (texts : List (List ℕ)) (text : List ℕ) → apart 32 44 (texts ++ text ∷ []) ≡ apart 32 44 texts ++ separator_after texts ∷ text
apart_more [] text = append-nil (32 ∷ text)
apart_more (first ∷ texts) text = sym (flat_map_more (λ t. 44 ∷ t) (32 ∷ first) texts text)

apart_found : (texts : List (List ℕ)) (o : Option (List ℕ)) → apart 32 44 (texts ++ cons_option o []) ≡ apart 32 44 texts ++ found (separator_after texts) o
apart_found texts None = ap (apart 32 44) (append-nil texts) ∙ sym (append-nil (apart 32 44 texts))
apart_found texts (Some text) = apart_more texts text

separator_more : (texts : List (List ℕ)) (text : List ℕ) → 44 ≡ separator_after (texts ++ text ∷ [])
separator_more [] text = refl
separator_more (first ∷ texts) text = refl

separator_found : (texts : List (List ℕ)) (o : Option (List ℕ)) → separator_past (separator_after texts) o ≡ separator_after (texts ++ cons_option o [])
separator_found texts None = ap separator_after (sym (append-nil texts))
separator_found texts (Some text) = separator_more texts text

pub lists_more : (listed : Listed) (i : ℕ) (old now new : List ℕ) (separator next : ℕ)
    → Lists listed i old now separator
    → new ≡ now ++ found separator (listed_text listed i) → length new ≤ length now + 11
    → next ≡ separator_past separator (listed_text listed i)
    → Lists listed (i + 1) old new next
lists_more listed i old now new separator next before written few after =
    let below = listed_below listed i in
    let o = listed_text listed i in
    record {
      text =
          written
          ∙ ap (λ text. text ++ found separator o) before.text
          ∙ append_assoc old (apart 32 44 below) (found separator o)
          ∙ ap (λ s. old ++ (apart 32 44 below ++ found s o)) before.next
          ∙ ap (λ text. old ++ text) (sym (apart_found below o))
          ∙ ap (λ texts. old ++ apart 32 44 texts) (sym (listed_more listed i));
      next =
          after
          ∙ ap (λ s. separator_past s o) before.next
          ∙ separator_found below o
          ∙ ap separator_after (sym (listed_more listed i));
      room = omega (arith, before.room, few);
    }

-- the field of texts, where there are some and where there are none
none_yet : (old new : List ℕ) (texts : List (List ℕ)) → new ≡ old ++ apart 32 44 texts → separator_after texts ≡ 32
    → new ++ 32 ∷ 45 ∷ [] ≡ old ++ 32 ∷ list_field texts
none_yet old new [] written none = ap (λ text. text ++ 32 ∷ 45 ∷ []) (written ∙ append-nil old)
none_yet old new (first ∷ texts) written none = absurd (omega (arith, none))

some_there : (old new : List ℕ) (texts : List (List ℕ)) → new ≡ old ++ apart 32 44 texts → separator_after texts ≢ 32
    → new ≡ old ++ 32 ∷ list_field texts
some_there old new [] written some = absurd (some refl)
some_there old new (first ∷ texts) written some =
    written ∙ ap (λ text. old ++ 32 ∷ text) (sym (joined_is 44 (first ∷ texts)))

pub lists_nothing : (listed : Listed) (n : ℕ) (old new : List ℕ) (separator : ℕ) → n ≡ 256 → Lists listed n old new separator → separator ≡ 32
    → new ++ 32 ∷ 45 ∷ [] ≡ old ++ 32 ∷ listed_field listed
lists_nothing listed n old new separator e lists none =
    let all = listed_all listed n e in
    none_yet old new (filter_map (listed_text listed) all_addresses)
    (lists.text ∙ ap (λ texts. old ++ apart 32 44 texts) all)
    (ap separator_after (sym all) ∙ sym lists.next ∙ none)

pub lists_some : (listed : Listed) (n : ℕ) (old new : List ℕ) (separator : ℕ) → n ≡ 256 → Lists listed n old new separator → separator ≢ 32
    → new ≡ old ++ 32 ∷ listed_field listed
lists_some listed n old new separator e lists some =
    let all = listed_all listed n e in
    some_there old new (filter_map (listed_text listed) all_addresses)
    (lists.text ∙ ap (λ texts. old ++ apart 32 44 texts) all)
    (λ none. some (lists.next ∙ ap separator_after all ∙ none))
