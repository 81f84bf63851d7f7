-- What writing does to a sink, one part of what is reported after another.
use Rattle.std.proofs.Common.{◌≡◌, ◌≤◌, ◌-◌, ◌+◌, ◌<◌, ℕ, zero, suc, take, drop, get_or, length, arith, List, [], ◌∷◌, ◌++◌, map, reverse, Bool, true, false, Option, None, Result}
use Rattle.std.proofs.Common.{Ok, Err, refl, ap, sym, ◌∙◌, subst, append_assoc, inl, inr}
use Rattle.std.specs.Prelude.{OnOk, OnErr, MatchResult}
use Rattle.std.specs.Io.KnownBytes.{Appends}
use Rattle.std.specs.Option.{option_to_list}
use Rattle.std.proofs.lemmas.List.{append-nil, flat_map_more, map-append, reverse-append, reverse-reverse, take-append-drop, take_all, take_more}
use Rattle.std.proofs.lemmas.List.Concat.{flat_map-append}
use Rattle.std.proofs.lemmas.List.Elements.{All-append, All-cons, All-nil}
use Rattle.cct_edge.specs.Bytes.{AppendsFront}
use Rattle.cct_edge.specs.declared.fault.Failed.{Failed}
use Rattle.cct_edge.proofs.Chains.{Appends-nil, Appends-trans, Appends-then_front}
use Rattle.cct_model.specs.declared.judging.EpochState.TheVariants.{Idle}
use Rattle.cct_model.specs.terms.device.DeviceSetup.{DeviceSetup}
use Rattle.cct_model.specs.lines.entry.Entry.{Entry}
use Rattle.cct_model.specs.lines.entry.Entry.TheVariants as entry_of
use Rattle.cct_model.specs.Text.{line_of, text}
use Rattle.cct_text.specs.Writing.{Puts, PutsLine, Writes}
use Rattle.cct_live_service.specs.declared.notice.Notice.{Notice}
use Rattle.cct_disk.specs.declared.disk.Disk.{Ghosts}
use Rattle.cct_host.specs.declared.host.Host.{Host}
use Rattle.cct_host.specs.Host.{setup_of}
use Rattle.cct_live_service.specs.Reported.{IsStatusOf, TellsDevice, TellsDevices, TellsStatus, WritesStatus}
use Rattle.cct_live_service.specs.declared.watch.Watch.{Watch}
use Rattle.cct_live_service.specs.Status.{HoldsAs, Stand, addresses_in, addresses_told, end_notices, stand_notices, stands_notices}
use Rattle.cct_live_service.specs.Told.{Told, WritesTold, answer_news, as_told, attempt_told, entry, falls_short, finding, knows, last, maybe_told, news_of, notice, notices_told, operates, pays, refused, told_line, told_text, told_unsent, unheard, unsent}
use Rattle.cct_live_service.proofs.Standings.{stands_stand, status_stands}

-- the news of what is reported first and then
pub news_then : (first then : List Told) → news_of (first ++ then) ≡ news_of then ++ news_of first
news_then [] then = sym (append-nil (news_of then))
news_then (entry e ∷ first) then =
    ap (λ news. news ++ e ∷ []) (news_then first then) ∙ append_assoc (news_of then) (news_of first) (e ∷ [])
news_then (refused number why ∷ first) then = news_then first then
news_then (unsent addr sent ∷ first) then =
    ap (λ news. news ++ entry_of.Wire addr sent [] ∷ []) (news_then first then)
    ∙ append_assoc (news_of then) (news_of first) (entry_of.Wire addr sent [] ∷ [])
news_then (notice n ∷ first) then = news_then first then
news_then (finding f ∷ first) then = news_then first then
news_then (last e ∷ first) then = news_then first then
news_then (operates s e ∷ first) then = news_then first then
news_then (pays p answer ∷ first) then =
    ap (λ news. news ++ answer_news p answer) (news_then first then)
    ∙ append_assoc (news_of then) (news_of first) (answer_news p answer)
news_then (falls_short p paid rest ∷ first) then = news_then first then
news_then (knows all line ∷ first) then = news_then first then

-- entries that are reported as they are
pub news_as : (entries : List Entry) → news_of (as_told entries) ≡ reverse entries
news_as [] = refl
news_as (e ∷ entries) =
    ap (λ news. news ++ e ∷ []) (news_as entries) ∙ sym (reverse-append (e ∷ []) entries)

lines_as : (entries : List Entry) → map told_line (as_told entries) ≡ map line_of entries
lines_as [] = refl
lines_as (e ∷ entries) = ap (λ lines. line_of e ∷ lines) (lines_as entries)

text_as : (entries : List Entry) → told_text (as_told entries) ≡ text entries
text_as [] = refl
text_as (e ∷ entries) = ap (λ bytes. line_of e ++ bytes) (text_as entries)

-- notices aren't news
pub news_notices : (notices : List Notice) → news_of (notices_told notices) ≡ []
news_notices [] = refl
news_notices (n ∷ notices) = news_notices notices

rest_whole : (n : ℕ) (entries : List Entry) → length entries ≤ n → take n entries ≡ entries
rest_whole zero [] few = refl
rest_whole zero (e ∷ entries) few = absurd (never (length entries) few)
  where
    never : (m : ℕ) → suc m ≤ 0 → ⊥
    never m le = omega (arith, le)
rest_whole (suc n) [] few = refl
rest_whole (suc n) (e ∷ entries) few = ap (λ es. e ∷ es) (rest_whole n entries (less (length entries) few))
  where
    less : (m : ℕ) → suc m ≤ suc n → m ≤ n
    less m le = omega (arith, le)

-- the first of some entries, and the others
pub first_apart : (entries : List Entry) (first : Entry) → 1 ≤ length entries → first ≡ get_or entries 0 first →
    entries ≡ first ∷ take (length entries - 1) (drop 1 entries)
first_apart [] first some is = absurd (never some)
  where
    never : 1 ≤ 0 → ⊥
    never le = omega (arith, le)
first_apart (e ∷ entries) first some is =
    let rest : take (suc (length entries) - 1) entries ≡ entries =
    rest_whole (suc (length entries) - 1) entries (omega arith) in
    ap (λ x. x ∷ entries) (sym is) ∙ ap (λ es. first ∷ es) (sym rest)

-- an entry is its own news, also where it is reported as unsent
news_unsent : (e : Entry) (told : List Told) → news_of (told_unsent e (unheard e) ∷ told) ≡ news_of told ++ e ∷ []
news_unsent (entry_of.Wire addr sent []) told = refl
news_unsent (entry_of.Wire addr sent (byte ∷ heard)) told = refl
news_unsent e told = refl

-- the entries of an attempt, however they are reported
news_attempt : (is_sent : Bool) (entries : List Entry) → news_of (attempt_told is_sent entries) ≡ reverse entries
news_attempt true entries = news_as entries
news_attempt false [] = refl
news_attempt false (e ∷ entries) = news_unsent e (as_told entries) ∙ news_as (e ∷ entries)

-- the news of a `next`, after which notices are reported
pub news_next : (news : List Entry) (is_sent : Bool) (notices : List Notice) →
    news_of (attempt_told is_sent (reverse news) ++ notices_told notices) ≡ news
news_next news is_sent notices =
    news_then (attempt_told is_sent (reverse news)) (notices_told notices)
    ∙ ap (λ more. more ++ news_of (attempt_told is_sent (reverse news))) (news_notices notices)
    ∙ news_attempt is_sent (reverse news) ∙ reverse-reverse news

module _ {K : Type 0} (written : K → Option (List ℕ)) (puts : K → List ℕ → Result (Unit {0}) Failed → K → Type 0) where
  -- some puts, and then more
  puts_then : (a b c : K) (xs ys : List (List ℕ)) (result : Result (Unit {0}) Failed) →
      Puts puts a xs (Ok tt) b → Puts puts b ys result c → Puts puts a (xs ++ ys) result c
  puts_then a b c [] ys result h k = subst (λ from. Puts puts from ys result c) h.1 k
  puts_then a b c (x ∷ xs) ys result (inl h) k = inl (h.0, h.1, puts_then h.0 b c xs ys result h.2 k)
  puts_then a b c (x ∷ xs) ys result (inr h) k = cc h.1

  bytes_then : (a b c : Option (List ℕ)) (xs ys : List Told) (result : Result (Unit {0}) Failed) →
      Appends a b (told_text xs) → MatchResult result (λ _. Appends b c (told_text ys)) (λ _. AppendsFront b c (told_text ys)) →
      MatchResult result (λ _. Appends a c (told_text (xs ++ ys))) (λ _. AppendsFront a c (told_text (xs ++ ys)))
  bytes_then a b c xs ys (Ok done) h k =
      subst (Appends a c) (sym (flat_map-append told_line xs ys)) (Appends-trans a b c (told_text xs) (told_text ys) h k)
  bytes_then a b c xs ys (Err failed) h k =
      subst (AppendsFront a c) (sym (flat_map-append told_line xs ys))
      (Appends-then_front a b c (told_text xs) (told_text ys) h k)

  pub told_none : (a : K) → WritesTold written puts a [] (Ok tt) a
  told_none a = record { put = (refl, refl); bytes = Appends-nil (written a) }

  pub told_then : (a b c : K) (xs ys : List Told) (result : Result (Unit {0}) Failed) →
      WritesTold written puts a xs (Ok tt) b → WritesTold written puts b ys result c →
      WritesTold written puts a (xs ++ ys) result c
  told_then a b c xs ys result h k = record {
    put = subst (λ lines. Puts puts a lines result c) (sym (map-append told_line xs ys))
        (puts_then a b c (map told_line xs) (map told_line ys) result h.put k.put);
    bytes = bytes_then (written a) (written b) (written c) xs ys result h.bytes k.bytes;
  }

  -- entries that were written
  pub told_entries : (a b : K) (entries : List Entry) (result : Result (Unit {0}) Failed) →
      Writes written puts a entries result b → WritesTold written puts a (as_told entries) result b
  told_entries a b entries result h = record {
    put = subst (λ lines. Puts puts a lines result b) (sym (lines_as entries)) h.put;
    bytes = subst (λ bytes. MatchResult result (λ _. Appends (written a) (written b) bytes)
        (λ _. AppendsFront (written a) (written b) bytes)) (sym (text_as entries)) h.told;
  }

  put_one : (a b : K) (x : List ℕ) (result : Result (Unit {0}) Failed) → puts a x result b →
      Puts puts a (x ∷ []) result b
  put_one a b x (Ok tt) h = inl (b, h, (refl, refl))
  put_one a b x (Err failed) h = inr (failed, refl, h)

  bytes_one : (a b : Option (List ℕ)) (x : List ℕ) (result : Result (Unit {0}) Failed) → OnOk result (Appends a b x) →
      OnErr result (AppendsFront a b x) → MatchResult result (λ _. Appends a b x) (λ _. AppendsFront a b x)
  bytes_one a b x (Ok done) ok err = ok
  bytes_one a b x (Err failed) ok err = err

  -- one line that was written
  pub told_one : (a b : K) (x : Told) (result : Result (Unit {0}) Failed) →
      PutsLine written puts a (told_line x) result b → WritesTold written puts a (x ∷ []) result b
  told_one a b x result put = record {
    put = put_one a b (told_line x) result put.one;
    bytes = subst (λ bytes. MatchResult result (λ _. Appends (written a) (written b) bytes)
        (λ _. AppendsFront (written a) (written b) bytes)) (sym (append-nil (told_line x)))
        (bytes_one (written a) (written b) (told_line x) result put.ok put.err);
  }

  -- a line whose put failed, before others
  pub told_cut : (a b : K) (x : Told) (more : List Told) (failed : Failed) →
      PutsLine written puts a (told_line x) (Err failed) b → WritesTold written puts a (x ∷ more) (Err failed) b
  told_cut a b x more failed put = record {
    put = inr (failed, refl, put.one);
    bytes = (
      put.err.0,
      put.err.1 ++ told_text more,
      ap (λ bytes. bytes ++ told_text more) put.err.2 ∙ append_assoc put.err.0 put.err.1 (told_text more),
      put.err.3,
    );
  }

  -- the same lines, reported as something else
  pub told_as : (a b : K) (one other : List Told) (result : Result (Unit {0}) Failed) →
      map told_line one ≡ map told_line other → told_text one ≡ told_text other →
      WritesTold written puts a one result b → WritesTold written puts a other result b
  told_as a b one other result lines bytes h = record {
    put = subst (λ ls. Puts puts a ls result b) lines h.put;
    bytes = subst (λ bs. MatchResult result (λ _. Appends (written a) (written b) bs)
        (λ _. AppendsFront (written a) (written b) bs)) bytes h.bytes;
  }

  -- one that was cut short, before others
  pub told_short : (a b : K) (x : Told) (more : List Told) (failed : Failed) →
      WritesTold written puts a (x ∷ []) (Err failed) b → WritesTold written puts a (x ∷ more) (Err failed) b
  told_short a b x more failed h = record {
    put = put_short h.put;
    bytes = (
      h.bytes.0,
      h.bytes.1 ++ told_text more,
      ap (λ bytes. bytes ++ told_text more) (sym (append-nil (told_line x)) ∙ h.bytes.2)
          ∙ append_assoc h.bytes.0 h.bytes.1 (told_text more),
      h.bytes.3,
    );
  }
    where
      put_short : Puts puts a (told_line x ∷ []) (Err failed) b → Puts puts a (told_line x ∷ map told_line more) (Err failed) b
      put_short (inl put) = cc put.2.0
      put_short (inr put) = inr put

  -- a part that was cut short, before others
  pub told_broken : (a b : K) (xs ys : List Told) (failed : Failed) → WritesTold written puts a xs (Err failed) b →
      WritesTold written puts a (xs ++ ys) (Err failed) b
  told_broken a b xs ys failed h = record {
    put = subst (λ lines. Puts puts a lines (Err failed) b) (sym (map-append told_line xs ys))
        (put_broken a (map told_line xs) (map told_line ys) h.put);
    bytes = (
      h.bytes.0,
      h.bytes.1 ++ told_text ys,
      flat_map-append told_line xs ys ∙ ap (λ bytes. bytes ++ told_text ys) h.bytes.2
          ∙ append_assoc h.bytes.0 h.bytes.1 (told_text ys),
      h.bytes.3,
    );
  }
    where
      put_broken : (from : K) (ls more : List (List ℕ)) → Puts puts from ls (Err failed) b →
          Puts puts from (ls ++ more) (Err failed) b
      put_broken from [] more h = cc h.0
      put_broken from (l ∷ ls) more (inl h) = inl (h.0, h.1, put_broken h.0 ls more h.2)
      put_broken from (l ∷ ls) more (inr h) = inr h

  -- one notice or none, and then another
  pub told_two : (a b c : K) (first second : Option Notice) (result : Result (Unit {0}) Failed) →
      WritesTold written puts a (maybe_told first) (Ok tt) b → WritesTold written puts b (maybe_told second) result c →
      WritesTold written puts a (notices_told (option_to_list first ++ option_to_list second)) result c
  told_two a b c first second result h k =
      subst (λ all. WritesTold written puts a all result c)
      (sym (map-append (λ n. notice n) (option_to_list first) (option_to_list second)))
      (told_then a b c (maybe_told first) (maybe_told second) result h k)

  -- or not the other
  pub told_first : (a b : K) (first second : Option Notice) (failed : Failed) →
      WritesTold written puts a (maybe_told first) (Err failed) b →
      WritesTold written puts a (notices_told (option_to_list first ++ option_to_list second)) (Err failed) b
  told_first a b first second failed h =
      subst (λ all. WritesTold written puts a all (Err failed) b)
      (sym (map-append (λ n. notice n) (option_to_list first) (option_to_list second)))
      (told_broken a b (maybe_told first) (maybe_told second) failed h)

-- a device of which nothing is known but where it is
blank_at : DeviceSetup → Stand
blank_at d = record { addr = d.addr; job = None; epoch = Idle; order = None; held = None }

blanks_there : (ds : List DeviceSetup) → addresses_told (map blank_at ds) ≡ addresses_in ds
unfolding blank_at
blanks_there [] = refl
blanks_there (d ∷ ds) = ap (λ more. d.addr ∷ more) (blanks_there ds)

-- how a host stands is reported
module _ {K : Type 0} (written : K → Option (List ℕ)) (puts : K → List ℕ → Result (Unit {0}) Failed → K → Type 0)
    {D : Type 0} {g : Ghosts D} (host : Host D g) where
  writes_then : (a b c : K) (xs ys : List Notice) (answer : Result (Unit {0}) Failed) →
      WritesStatus written puts host a xs (Ok tt) b → WritesStatus written puts host b ys answer c →
      WritesStatus written puts host a (xs ++ ys) answer c
  writes_then a b c xs ys answer h k = (
    All-append (IsStatusOf host) xs ys h.0 k.0,
    subst (λ told. WritesTold written puts a told answer c) (sym (map-append (λ n. notice n) xs ys))
        (told_then written puts a b c (notices_told xs) (notices_told ys) answer h.1 k.1),
  )

  -- one notice of it, or two
  pub writes_one : (a b : K) (n : Notice) (answer : Result (Unit {0}) Failed) → IsStatusOf host n →
      WritesTold written puts a (notice n ∷ []) answer b → WritesStatus written puts host a (n ∷ []) answer b
  writes_one a b n answer is wrote = (All-cons (IsStatusOf host) n [] is (All-nil (IsStatusOf host)), wrote)

  pub writes_two : (a b : K) (n m : Notice) (answer : Result (Unit {0}) Failed) → IsStatusOf host n → IsStatusOf host m →
      WritesTold written puts a (notice n ∷ notice m ∷ []) answer b → WritesStatus written puts host a (n ∷ m ∷ []) answer b
  writes_two a b n m answer is also wrote =
      (All-cons (IsStatusOf host) n (m ∷ []) is (All-cons (IsStatusOf host) m [] also (All-nil (IsStatusOf host))), wrote)

  -- no device, and one more
  pub devices_none : (w : Watch) (a : K) → TellsDevices written puts host w [] a (Ok tt) a
  devices_none w a = ([], refl, All-nil (HoldsAs w), (All-nil (IsStatusOf host), told_none written puts a))

  pub devices_more : (w : Watch) (ds : List DeviceSetup) (i : ℕ) (d : DeviceSetup) (a b c : K)
      (answer : Result (Unit {0}) Failed) → i < length ds → d ≡ get_or ds i d →
      TellsDevices written puts host w (take i ds) a (Ok tt) b → TellsDevice written puts host w d.addr b answer c →
      TellsDevices written puts host w (take (i + 1) ds) a answer c
  devices_more w ds i d a b c answer within at h k = (
    h.0 ++ k.0 ∷ [],
    map-append (λ (s : Stand). s.addr) h.0 (k.0 ∷ []) ∙ ap (λ all. all ++ k.0.addr ∷ []) h.1
        ∙ ap (λ addr. addresses_in (take i ds) ++ addr ∷ []) k.1
        ∙ sym (map-append (λ (e : DeviceSetup). e.addr) (take i ds) (d ∷ [])) ∙ ap addresses_in (sym more),
    All-append (HoldsAs w) h.0 (k.0 ∷ []) h.2 (All-cons (HoldsAs w) k.0 [] k.2 (All-nil (HoldsAs w))),
    subst (λ all. WritesStatus written puts host a all answer c) (flat_map_more stand_notices [] h.0 k.0)
        (writes_then a b c (stands_notices h.0) (stand_notices k.0) answer h.3 k.3),
  )
    where
      more : take (i + 1) ds ≡ take i ds ++ d ∷ []
      more = take_more ds i d within ∙ ap (λ x. take i ds ++ x ∷ []) (sym at)

  -- the first devices, of which the last one couldn't be reported
  pub status_broken : (w : Watch) (n : ℕ) (a b : K) (failed : Failed) →
      TellsDevices written puts host w (take n (setup_of host).devices) a (Err failed) b →
      TellsStatus written puts host w a (Err failed) b
  status_broken w n a b failed h =
      let ds = (setup_of host).devices in
      let rest = map blank_at (drop n ds) in (
        stands_notices h.0,
        stands_notices rest ++ end_notices 0 0,
        tt,
        (
          h.0 ++ rest,
          0,
          0,
          map-append (λ (s : Stand). s.addr) h.0 rest ∙ ap (λ all. all ++ addresses_told rest) h.1
              ∙ ap (λ all. addresses_in (take n ds) ++ all) (blanks_there (drop n ds))
              ∙ sym (map-append (λ (e : DeviceSetup). e.addr) (take n ds) (drop n ds))
              ∙ ap addresses_in (take-append-drop n ds),
          sym (append_assoc (stands_notices h.0) (stands_notices rest) (end_notices 0 0))
              ∙ ap (λ all. all ++ end_notices 0 0) (sym (flat_map-append stand_notices h.0 rest)),
        ),
        stands_stand w h.0 h.2,
        h.3,
      )

  -- all devices, and then the last id and the room
  pub status_ended : (w : Watch) (n : ℕ) (a b c : K) (id records : ℕ) (answer : Result (Unit {0}) Failed) →
      length (setup_of host).devices ≤ n →
      TellsDevices written puts host w (take n (setup_of host).devices) a (Ok tt) b →
      WritesStatus written puts host b (end_notices id records) answer c → TellsStatus written puts host w a answer c
  status_ended w n a b c id records answer all h k = (
    stands_notices h.0 ++ end_notices id records,
    [],
    none_left answer,
    (
      h.0,
      id,
      records,
      h.1 ∙ ap addresses_in (take_all n (setup_of host).devices all),
      append-nil (stands_notices h.0 ++ end_notices id records),
    ),
    status_stands w h.0 id records h.2,
    writes_then a b c (stands_notices h.0) (end_notices id records) answer h.3 k,
  )
    where
      none : List Notice
      none = []

      none_left : (result : Result (Unit {0}) Failed) → OnOk result (none ≡ [])
      none_left (Ok done) = refl
      none_left (Err failed) = tt
