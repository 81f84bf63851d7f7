-- The line of an entry is read back as the entry, and a text as its entries.
use Rattle.std.proofs.Common.{◌≡◌, ℕ, ◌==◌, true, List, [], ◌∷◌, ◌++◌, Some, None, refl, ap, sym, ◌∙◌, arith, append_assoc}
use Rattle.std.specs.List.{All, filter_map, cons_option, join_with_byte}
use Rattle.std.proofs.lemmas.List.{append-nil}
use Rattle.std.proofs.lemmas.List.Elements.{All-head, All-tail, All-nil, All-cons}
use Rattle.std.proofs.lemmas.List.Splits.{slice_split_at}
use Rattle.cct_model_lines.specs.declared.entry.End.{End}
use Rattle.cct_model_lines.specs.declared.entry.End.TheVariants as end_of
use Rattle.cct_model_lines.specs.declared.entry.Said.{Said}
use Rattle.cct_model_lines.specs.declared.entry.Said.TheVariants as said_of
use Rattle.cct_model_lines.specs.declared.entry.Entry.{Entry}
use Rattle.cct_model_lines.specs.declared.entry.Entry.TheVariants as entry
use Rattle.cct_model_lines.specs.Text.{number_text, piece_field, coins_field, command_fields, end_fields, said_fields, fields_of, line_of, text}
use Rattle.cct_text.specs.Reading.{parts_at, number_in, piece_in, coins_in, made, either, taken_by, refused_by, command_in, read_fields, read_line, read_text}
use Rattle.cct_text.specs.Written.{IsEnd, IsWritten}
use Rattle.cct_text.proofs.Cuts.{all_above, EachAbove, above_weaker, each_append, number_field, piece_above, joined_above, cut_joined, has_none}
use Rattle.cct_text.proofs.Back.{each_weaker, one_back, two_back, three_back, four_back, five_back, piece_back, coins_back, coins_field_above, record_back, record_above, reason_back, reason_above, fault_back, fault_above, kind_back, kind_above}
use Rattle.cct_text.proofs.CommandFields.{command_back, command_above}
use Rattle.cct_text.proofs.Devices.{listed_back, listed_field_above}

-- ends
end_back : (addr : ℕ) (end : End) → IsEnd addr end → read_fields (end_fields addr end) ≡ Some (entry.Ended addr end)
end_back addr end_of.Started h = one_back (λ a. Some (entry.Ended a end_of.Started)) addr
end_back addr end_of.StartUnsure h = one_back (λ a. Some (entry.Ended a end_of.StartUnsure)) addr
end_back addr (end_of.Unquiet counter) h = two_back (λ a c. Some (entry.Ended a (end_of.Unquiet c))) addr counter
end_back addr end_of.Clean h = one_back (λ a. Some (entry.Ended a end_of.Clean)) addr
end_back addr end_of.Posted h = one_back (λ a. Some (entry.Ended a end_of.Posted)) addr
end_back addr end_of.Broke h = one_back (λ a. Some (entry.Ended a end_of.Broke)) addr
end_back addr end_of.Moved h = one_back (λ a. Some (entry.Ended a end_of.Moved)) addr
end_back addr end_of.Stopped h = one_back (λ a. Some (entry.Ended a end_of.Stopped)) addr
end_back addr end_of.Closed h = one_back (λ a. Some (entry.Ended a end_of.Closed)) addr
end_back addr end_of.OddLife h = one_back (λ a. Some (entry.Ended a end_of.OddLife)) addr
end_back addr end_of.NoAnswer h = one_back (λ a. Some (entry.Ended a end_of.NoAnswer)) addr
end_back addr (end_of.Listed listed) h =
    ap (λ l. Some (entry.Ended 0 (end_of.Listed l))) (listed_back listed h.1)
    ∙ ap (λ a. Some (entry.Ended a (end_of.Listed listed))) (sym h.0)
end_back addr end_of.Told h = one_back (λ a. Some (entry.Ended a end_of.Told)) addr
end_back addr (end_of.PathSet place path) h =
    three_back (λ a p q. Some (entry.Ended a (end_of.PathSet p q))) addr place path
end_back addr end_of.Routed h = one_back (λ a. Some (entry.Ended a end_of.Routed)) addr
end_back addr end_of.RouteUnsure h = one_back (λ a. Some (entry.Ended a end_of.RouteUnsure)) addr
end_back addr end_of.Sold h = ap (λ a. Some (entry.Ended a end_of.Sold)) (sym h)

end_above : (addr : ℕ) (end : End) → IsEnd addr end → EachAbove 32 (end_fields addr end)
end_above addr end_of.Started h = (refl, (number_field addr, tt))
end_above addr end_of.StartUnsure h = (refl, (number_field addr, tt))
end_above addr (end_of.Unquiet counter) h = (refl, (number_field addr, (number_field counter, tt)))
end_above addr end_of.Clean h = (refl, (number_field addr, tt))
end_above addr end_of.Posted h = (refl, (number_field addr, tt))
end_above addr end_of.Broke h = (refl, (number_field addr, tt))
end_above addr end_of.Moved h = (refl, (number_field addr, tt))
end_above addr end_of.Stopped h = (refl, (number_field addr, tt))
end_above addr end_of.Closed h = (refl, (number_field addr, tt))
end_above addr end_of.OddLife h = (refl, (number_field addr, tt))
end_above addr end_of.NoAnswer h = (refl, (number_field addr, tt))
end_above addr (end_of.Listed listed) h = (refl, (listed_field_above listed, tt))
end_above addr end_of.Told h = (refl, (number_field addr, tt))
end_above addr (end_of.PathSet place path) h =
    (refl, (number_field addr, (number_field place, (number_field path, tt))))
end_above addr end_of.Routed h = (refl, (number_field addr, tt))
end_above addr end_of.RouteUnsure h = (refl, (number_field addr, tt))
end_above addr end_of.Sold h = (refl, tt)

-- what a monitor says
said_back : (said : Said) → read_fields (said_fields said) ≡ Some (entry.Said said)
said_back (said_of.Sure addr first last coins) =
    three_back (λ a f l. Some (entry.Said (said_of.Sure a f l (coins_in (coins_field coins))))) addr first last
    ∙ ap (λ c. Some (entry.Said (said_of.Sure addr first last c))) (coins_back coins)
said_back (said_of.Doubt addr first last) =
    three_back (λ a f l. Some (entry.Said (said_of.Doubt a f l))) addr first last
said_back (said_of.Fell addr first last count) =
    four_back (λ a f l n. Some (entry.Said (said_of.Fell a f l n))) addr first last count

said_above : (said : Said) → EachAbove 32 (said_fields said)
said_above (said_of.Sure addr first last coins) =
    (refl, (number_field addr, (number_field first, (number_field last, (coins_field_above coins, tt)))))
said_above (said_of.Doubt addr first last) =
    (refl, (number_field addr, (number_field first, (number_field last, tt))))
said_above (said_of.Fell addr first last count) =
    (refl, (number_field addr, (number_field first, (number_field last, (number_field count, tt)))))

-- entries
pub entry_back : (e : Entry) → IsWritten e → read_fields (fields_of e) ≡ Some e
entry_back (entry.Accepted addr coin) h =
    three_back (λ a p q. Some (entry.Accepted a (record { place = p; path = q }))) addr coin.place coin.path
entry_back (entry.Held addr place) h = two_back (λ a p. Some (entry.Held a p)) addr place
entry_back (entry.Inhibited addr place) h = two_back (λ a p. Some (entry.Inhibited a p)) addr place
entry_back (entry.Alien addr) h = one_back (λ a. Some (entry.Alien a)) addr
entry_back (entry.Fell addr) h = one_back (λ a. Some (entry.Fell a)) addr
entry_back (entry.NoFall addr) h = one_back (λ a. Some (entry.NoFall a)) addr
entry_back (entry.Jammed addr) h = one_back (λ a. Some (entry.Jammed a)) addr
entry_back (entry.NoJam addr) h = one_back (λ a. Some (entry.NoJam a)) addr
entry_back (entry.Reset addr) h = one_back (λ a. Some (entry.Reset a)) addr
entry_back (entry.Fault f) h = ap (λ o. either (made entry.Fault o) None) (fault_back f h)
entry_back (entry.Taken c) h =
    ap (λ fields. either (taken_by (command_in fields)) None) (sym (append-nil (command_fields c)))
    ∙ ap (λ o. either (taken_by o) None) (command_back c [] h)
entry_back (entry.No c why) h =
    ap (λ o. either (refused_by o) None) (command_back c _ h)
    ∙ ap (λ o. either (made (entry.No c) o) None) (reason_back why)
entry_back (entry.Idle addr) h = one_back (λ a. Some (entry.Idle a)) addr
entry_back (entry.Wire addr sent heard) h =
    one_back (λ a. Some (entry.Wire a (piece_in (piece_field sent)) (piece_in (piece_field heard)))) addr
    ∙ ap (λ p. Some (entry.Wire addr p (piece_in (piece_field heard)))) (piece_back sent h.0)
    ∙ ap (λ p. Some (entry.Wire addr sent p)) (piece_back heard h.1)
entry_back (entry.Forged addr) h = one_back (λ a. Some (entry.Forged a)) addr
entry_back (entry.Put r) h = ap (λ o. either (made entry.Put o) None) (record_back r h)
entry_back (entry.Kept r) h = ap (λ o. either (made entry.Kept o) None) (record_back r h)
entry_back (entry.Crash records) h = one_back (λ n. Some (entry.Crash n)) records
entry_back (entry.Ended addr end) h = end_back addr end h
entry_back (entry.Balance totals) h =
    four_back (λ a r p s. Some (entry.Balance (record { available = a; reserved = r; paid = p; sold = s })))
    totals.available totals.reserved totals.paid totals.sold
entry_back (entry.Stock addr count) h = two_back (λ a n. Some (entry.Stock a n)) addr count
entry_back (entry.ChangeOk first amount) h = two_back (λ i n. Some (entry.ChangeOk i n)) first amount
entry_back entry.ChangeNo h = refl
entry_back entry.ServeIdle h = refl
entry_back (entry.ServeWait addr) h = one_back (λ a. Some (entry.ServeWait a)) addr
entry_back (entry.ServeOdd id) h = one_back (λ i. Some (entry.ServeOdd i)) id
entry_back (entry.Served amount) h = one_back (λ n. Some (entry.Served n)) amount
entry_back (entry.Short paid rest) h = two_back (λ p r. Some (entry.Short p r)) paid rest
entry_back (entry.Said said) h = said_back said
entry_back (entry.Line number why) h =
    ap (λ o. made (entry.Line (number_in (number_text number))) o) (kind_back why)
    ∙ one_back (λ n. Some (entry.Line n why)) number
entry_back entry.Words h = refl
entry_back (entry.DiskSize len) h = one_back (λ n. Some (entry.DiskSize n)) len
entry_back (entry.NotBlank at) h = one_back (λ n. Some (entry.NotBlank n)) at
entry_back entry.ReadFault h = refl
entry_back entry.DiskFault h = refl
entry_back entry.JournalAlien h = refl
entry_back (entry.JournalBad index) h = one_back (λ n. Some (entry.JournalBad n)) index
entry_back (entry.JournalLost found put) h = two_back (λ f p. Some (entry.JournalLost f p)) found put
entry_back (entry.Upgraded records) h = one_back (λ n. Some (entry.Upgraded n)) records
entry_back entry.UpgradeCurrent h = refl
entry_back (entry.UpgradeRoom used) h = one_back (λ n. Some (entry.UpgradeRoom n)) used
entry_back (entry.UpgradeEpoch addr) h = one_back (λ a. Some (entry.UpgradeEpoch a)) addr
entry_back (entry.Listing index r) h =
    ap (λ o. made (entry.Listing (number_in (number_text index))) o) (record_back r h)
    ∙ one_back (λ n. Some (entry.Listing n r)) index
entry_back (entry.Total posted lost paid unpaid sold) h =
    five_back (λ a b c d e. Some (entry.Total a b c d e)) posted lost paid unpaid sold
entry_back (entry.Load seed rounds) h = two_back (λ s n. Some (entry.Load s n)) seed rounds
entry_back (entry.Sum what amount) h = absurd h

entry_above : (e : Entry) → IsWritten e → EachAbove 32 (fields_of e)
entry_above (entry.Accepted addr coin) h =
    (refl, (number_field addr, (number_field coin.place, (number_field coin.path, tt))))
entry_above (entry.Held addr place) h = (refl, (number_field addr, (number_field place, tt)))
entry_above (entry.Inhibited addr place) h = (refl, (number_field addr, (number_field place, tt)))
entry_above (entry.Alien addr) h = (refl, (number_field addr, tt))
entry_above (entry.Fell addr) h = (refl, (number_field addr, tt))
entry_above (entry.NoFall addr) h = (refl, (number_field addr, tt))
entry_above (entry.Jammed addr) h = (refl, (number_field addr, tt))
entry_above (entry.NoJam addr) h = (refl, (number_field addr, tt))
entry_above (entry.Reset addr) h = (refl, (number_field addr, tt))
entry_above (entry.Fault f) h = (refl, fault_above f h)
entry_above (entry.Taken c) h = (refl, command_above c h)
entry_above (entry.No c why) h = (refl, each_append 32 (command_fields c) _ (command_above c h) (reason_above why))
entry_above (entry.Idle addr) h = (refl, (number_field addr, tt))
entry_above (entry.Wire addr sent heard) h =
    (refl, (number_field addr, (piece_above sent h.0, (piece_above heard h.1, tt))))
entry_above (entry.Forged addr) h = (refl, (number_field addr, tt))
entry_above (entry.Put r) h = (refl, record_above r h)
entry_above (entry.Kept r) h = (refl, record_above r h)
entry_above (entry.Crash records) h = (refl, (number_field records, tt))
entry_above (entry.Ended addr end) h = end_above addr end h
entry_above (entry.Balance totals) h = (
  refl,
  (
    number_field totals.available,
    (
      number_field totals.reserved,
      (
        number_field totals.paid,
        (number_field totals.sold, tt),
      ),
    ),
  ),
)
entry_above (entry.Stock addr count) h = (refl, (number_field addr, (number_field count, tt)))
entry_above (entry.ChangeOk first amount) h = (refl, (refl, (number_field first, (number_field amount, tt))))
entry_above entry.ChangeNo h = (refl, (refl, (refl, tt)))
entry_above entry.ServeIdle h = (refl, (refl, tt))
entry_above (entry.ServeWait addr) h = (refl, (refl, (number_field addr, tt)))
entry_above (entry.ServeOdd id) h = (refl, (refl, (number_field id, tt)))
entry_above (entry.Served amount) h = (refl, (number_field amount, tt))
entry_above (entry.Short paid rest) h = (refl, (number_field paid, (number_field rest, tt)))
entry_above (entry.Said said) h = said_above said
entry_above (entry.Line number why) h = (refl, (number_field number, (kind_above why, tt)))
entry_above entry.Words h = (refl, tt)
entry_above (entry.DiskSize len) h = (refl, (number_field len, tt))
entry_above (entry.NotBlank at) h = (refl, (number_field at, tt))
entry_above entry.ReadFault h = (refl, tt)
entry_above entry.DiskFault h = (refl, tt)
entry_above entry.JournalAlien h = (refl, (refl, tt))
entry_above (entry.JournalBad index) h = (refl, (refl, (number_field index, tt)))
entry_above (entry.JournalLost found put) h = (refl, (refl, (number_field found, (number_field put, tt))))
entry_above (entry.Upgraded records) h = (refl, (number_field records, tt))
entry_above entry.UpgradeCurrent h = (refl, (refl, tt))
entry_above (entry.UpgradeRoom used) h = (refl, (refl, (number_field used, tt)))
entry_above (entry.UpgradeEpoch addr) h = (refl, (refl, (number_field addr, tt)))
entry_above (entry.Listing index r) h = (refl, (number_field index, record_above r h))
entry_above (entry.Total posted lost paid unpaid sold) h = (
  refl,
  (
    number_field posted,
    (
      number_field lost,
      (
        number_field paid,
        (
          number_field unpaid,
          (number_field sold, tt),
        ),
      ),
    ),
  ),
)
entry_above (entry.Load seed rounds) h = (refl, (number_field seed, (number_field rounds, tt)))
entry_above (entry.Sum what amount) h = absurd h

-- fields that are read as an entry, joined by spaces, are read as that entry
joined_back : (fields : List (List ℕ)) (e : Entry) → EachAbove 32 fields → read_fields fields ≡ Some e
    → read_fields (parts_at 32 (join_with_byte 32 fields)) ≡ Some e
joined_back [] e above back = absurd (cc back)
joined_back (field ∷ fields) e above back = ap read_fields (cut_joined 32 field fields above) ∙ back

pub fields_back : (e : Entry) → IsWritten e → read_fields (parts_at 32 (join_with_byte 32 (fields_of e))) ≡ Some e
fields_back e h = joined_back (fields_of e) e (entry_above e h) (entry_back e h)

line_back : (e : Entry) → IsWritten e → read_line (join_with_byte 32 (fields_of e)) ≡ Some e
unfolding read_line
line_back e h = fields_back e h

-- a line has no line feed but its last byte
body_above : (e : Entry) → IsWritten e → all_above 10 (join_with_byte 32 (fields_of e)) ≡ true
body_above e h =
    above_weaker 10 31 (omega arith) (join_with_byte 32 (fields_of e))
    (joined_above 31 32 refl (fields_of e) (each_weaker 31 32 (omega arith) (fields_of e) (entry_above e h)))

line_first : (e : Entry) (rest : List ℕ) → line_of e ++ rest ≡ join_with_byte 32 (fields_of e) ++ 10 ∷ rest
unfolding line_of
line_first e rest = append_assoc (join_with_byte 32 (fields_of e)) (10 ∷ []) rest

read_more : (e : Entry) (rest : List ℕ) → IsWritten e
    → filter_map read_line (parts_at 10 (line_of e ++ rest)) ≡ e ∷ filter_map read_line (parts_at 10 rest)
read_more e rest h =
    let body = join_with_byte 32 (fields_of e) in
    ap (λ bytes. filter_map read_line (parts_at 10 bytes)) (line_first e rest)
    ∙ ap (filter_map read_line) (slice_split_at (λ b. b == 10) body 10 rest (has_none 10 body (body_above e h)) refl)
    ∙ ap (λ o. cons_option o (filter_map read_line (parts_at 10 rest))) (line_back e h)

read_nothing : filter_map read_line (parts_at 10 []) ≡ []
unfolding read_line
read_nothing = refl

lines_back : (entries : List Entry) → All IsWritten entries → filter_map read_line (parts_at 10 (text entries)) ≡ entries
lines_back [] h = read_nothing
lines_back (e ∷ entries) h =
    read_more e (text entries) (All-head IsWritten e entries h)
    ∙ ap (λ rest. e ∷ rest) (lines_back entries (All-tail IsWritten e entries h))

pub text_back : (entries : List Entry) → All IsWritten entries → read_text (text entries) ≡ entries
unfolding read_text
text_back entries h = lines_back entries h

pub text_is_one : (first second : List Entry) → All IsWritten first → All IsWritten second → text first ≡ text second → first ≡ second
text_is_one first second h k same = sym (text_back first h) ∙ ap read_text same ∙ text_back second k

head_same : (a b : Entry) → a ∷ [] ≡ b ∷ [] → a ≡ b
head_same a b e = cc e

pub line_is_one : (first second : Entry) → IsWritten first → IsWritten second → line_of first ≡ line_of second → first ≡ second
line_is_one first second h k same =
    head_same first second (text_is_one (first ∷ []) (second ∷ [])
    (All-cons IsWritten first [] h (All-nil IsWritten)) (All-cons IsWritten second [] k (All-nil IsWritten))
    (ap (λ line. line ++ []) same))
