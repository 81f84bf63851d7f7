-- A world and the one in which each exchange heard what the model says: the devices met the same, and the lines are the same.
use Rattle.std.proofs.Common.{◌≡◌, inl, inr, ℕ, ◌==◌, Bool, true, false, cond, List, [], ◌∷◌, ◌++◌, refl, sym, ap, ap₂, ◌∙◌, subst, Option, Some, None, option_and_then, true≢false}
use Rattle.std.specs.Prelude.{flat_map, unwrap_or, is_none}
use Rattle.std.proofs.lemmas.Bool.{and_parts}
use Rattle.cct_model.specs.terms.wire.TheConstants.{BROADCAST}
use Rattle.cct_model.specs.terms.wire.CheckKind.{CheckKind}
use Rattle.cct_model.specs.terms.wire.CheckKind.TheVariants.{Simple, Crc}
use Rattle.cct_model.specs.terms.device.DeviceSetup.{DeviceSetup}
use Rattle.cct_model.specs.terms.device.Setup.{Setup}
use Rattle.cct_model.specs.terms.family.Happening.{Happening}
use Rattle.cct_model.specs.terms.family.Happening.TheVariants as happening
use Rattle.cct_model.specs.terms.request.ReplyForm.{ReplyForm}
use Rattle.cct_model.specs.lines.entry.Entry.{Entry}
use Rattle.cct_model.specs.lines.entry.Entry.TheVariants as entry
use Rattle.cct_model.specs.Exchange.{after_echo, answer, asked, asks_of, by_address, device_at, got, reply_from}
use Rattle.cct_model.specs.History.{heard}
use Rattle.cct_model.specs.Honest.{HonestPast, IsHonestFault, has_no_message, is_no_message}
use Rattle.cct_model.specs.Legal.{EntriesOfHappening, happening_entry}
use Rattle.cct_model.specs.Line.{exchange, put}
use Rattle.cct_model.specs.Job.{job}
use Rattle.cct_model.specs.Message.{message}
use Rattle.cct_model.specs.Records.{owner_in, records}
use Rattle.cct_model.specs.Request.{form_of}
use Rattle.cct_model.specs.Transcript.{doses, got_by, heard_after, heard_by_devices, heard_by_host, lines_of, meets, met, own, pending, sale_lines, sale_own, scan_line, scan_lines, scan_own}
use Rattle.cct_laws_live.proofs.Alike.{Alike}
use Rattle.cct_laws_live_devices.specs.Asked.{befalling}
use Rattle.cct_laws_live_devices.specs.Played.{mended}
use Rattle.cct_laws_live_devices.specs.World.{Answers, HeardAs, IsNoReply}
use Rattle.cct_laws_live_devices.proofs.Asked.{mapped_same, of_found}

-- where there is no reply, none is got
none_is : {A : Type 0} (found : Option A) → is_none found ≡ true → found ≡ None
none_is None test = refl
none_is (Some x) test = absurd cc

no_message : (kind : CheckKind) (rest : List ℕ) → is_no_message rest ≡ true → message kind rest ≡ None
no_message Simple rest test = none_is (message Simple rest) (and_parts (is_none (message Simple rest)) (is_none (message Crc rest)) test).0
no_message Crc rest test = none_is (message Crc rest) (and_parts (is_none (message Simple rest)) (is_none (message Crc rest)) test).1

behind_got : (kind : CheckKind) (addr : ℕ) (form : ReplyForm) (behind : Option (List ℕ)) → has_no_message behind ≡ true →
    option_and_then (λ piece. option_and_then (reply_from form addr) (message kind piece)) behind ≡ None
behind_got kind addr form None test = refl
behind_got kind addr form (Some rest) test = ap (option_and_then (reply_from form addr)) (no_message kind rest test)

none_got : (kind : CheckKind) (addr : ℕ) (form : ReplyForm) (sent piece : List ℕ) → IsNoReply sent piece →
    got kind addr form sent piece ≡ None
unfolding got
none_got kind addr form sent piece none = behind_got kind addr form (after_echo sent piece) none

form_got : (d : DeviceSetup) (sent piece : List ℕ) (form : Option ReplyForm) → IsNoReply sent piece →
    option_and_then (λ form. got d.kind d.addr form sent piece) form ≡ None
form_got d sent piece None none = refl
form_got d sent piece (Some form) none = none_got d.kind d.addr form sent piece none

none_by : (d : DeviceSetup) (sent piece : List ℕ) → IsNoReply sent piece → got_by d sent piece ≡ None
unfolding got_by
none_by d sent piece none = form_got d sent piece (option_and_then form_of (asked d.kind sent)) none

-- so what is heard as the model says is got as it says
pub got_same : (d : DeviceSetup) (addr : ℕ) (sent piece model : List ℕ) → HeardAs addr sent piece model →
    got_by d sent piece ≡ got_by d sent model
got_same d addr sent piece model (inl same) = ap (got_by d sent) same
got_same d addr sent piece model (inr (one, none, nor)) = none_by d sent piece none ∙ sym (none_by d sent model nor)

module _ (setup : Setup) where
  pub mended_pending : (past : List Entry) → pending (mended setup past) ≡ pending past
  mended_pending [] = refl
  mended_pending (entry.Fault f ∷ past) = refl
  mended_pending (entry.Wire addr sent piece ∷ past) = refl
  mended_pending (e ∷ past) = mended_pending past

  pub mended_met : (d : DeviceSetup) (past : List Entry) → met d (mended setup past) ≡ met d past
  mended_met d [] = refl
  mended_met d (entry.Wire addr sent piece ∷ past) =
      ap₂ (λ f ms. heard (asks_of d (heard_by_devices f sent)) ∷ ms) (mended_pending past) (mended_met d past)
  mended_met d (e ∷ past) = ap (λ ms. meets d [] e ++ ms) (mended_met d past)

  pub mended_heard : (past : List Entry) (sent : List ℕ) → heard_after setup (mended setup past) sent ≡ heard_after setup past sent
  unfolding heard_after
  mended_heard past sent =
      ap (λ f. heard_by_host f sent
      (flat_map (λ d. unwrap_or (answer d (met d (mended setup past)) (heard_by_devices f sent)) []) (by_address setup.devices)))
      (mended_pending past)
      ∙ ap (heard_by_host (pending past) sent)
      (mapped_same (λ d. unwrap_or (answer d (met d (mended setup past)) (heard_by_devices (pending past) sent)) [])
      (λ d. unwrap_or (answer d (met d past) (heard_by_devices (pending past) sent)) []) (by_address setup.devices)
      (λ d. ap (λ ms. unwrap_or (answer d ms (heard_by_devices (pending past) sent)) []) (mended_met d past)))

  pub mended_records : (past : List Entry) → records (mended setup past) ≡ records past
  mended_records [] = refl
  mended_records (entry.Put r ∷ past) = ap (λ rs. r ∷ rs) (mended_records past)
  mended_records (entry.Kept r ∷ past) = ap (λ rs. r ∷ rs) (mended_records past)
  mended_records (e ∷ past) = mended_records past

  pub as_model : (past : List Entry) (addr : ℕ) (sent piece : List ℕ) → HeardAs addr sent piece (heard_after setup past sent) →
      HeardAs addr sent piece (heard_after setup (mended setup past) sent)
  as_model past addr sent piece is = subst (HeardAs addr sent piece) (sym (mended_heard past sent)) is

  pub mended_lines : (d : DeviceSetup) (past : List Entry) → Answers setup past → lines_of d (mended setup past) ≡ lines_of d past
  mended_lines d [] all = refl
  mended_lines d (entry.Wire addr sent piece ∷ past) all =
      let f = pending past in
      ap (λ y. (cond (addr == d.addr) (exchange (asked d.kind sent) y ∷ []) []
      ++ doses d.body d.serial (met d (mended setup past)) (asks_of d (heard_by_devices (pending (mended setup past)) sent)))
      ++ lines_of d (mended setup past))
      (sym (got_same d addr sent piece (heard_after setup (mended setup past) sent) (as_model past addr sent piece all.0)))
      ∙ ap₂ (λ f ls. (cond (addr == d.addr) (exchange (asked d.kind sent) (got_by d sent piece) ∷ []) []
      ++ doses d.body d.serial (met d (mended setup past)) (asks_of d (heard_by_devices f sent))) ++ ls)
      (mended_pending past) (mended_lines d past all.1)
      ∙ ap (λ ms. (cond (addr == d.addr) (exchange (asked d.kind sent) (got_by d sent piece) ∷ []) []
      ++ doses d.body d.serial ms (asks_of d (heard_by_devices f sent))) ++ lines_of d past) (mended_met d past)
  mended_lines d (entry.Put r ∷ past) all =
      ap₂ (λ rs ls. cond (owner_in rs r == d.addr) (put r ∷ []) [] ++ ls) (mended_records past) (mended_lines d past all.1)
  mended_lines d (entry.Kept r ∷ past) all =
      ap₂ (λ rs ls. cond (owner_in rs r == d.addr) (put r ∷ []) [] ++ ls) (mended_records past) (mended_lines d past all.1)
  mended_lines d (e ∷ past) all = ap (λ ls. own d [] e ++ ls) (mended_lines d past all.1)

  scan_here : (addr : ℕ) (b : Bool) (sent piece model : List ℕ) → (addr == BROADCAST) ≡ b → HeardAs addr sent piece model →
      cond b (scan_line sent model ∷ []) [] ≡ cond b (scan_line sent piece ∷ []) []
  scan_here addr false sent piece model is same = refl
  scan_here addr true sent piece model is (inl same) = ap (λ p. scan_line sent p ∷ []) (sym same)
  scan_here addr true sent piece model is (inr (one, none, nor)) = absurd (true≢false (sym is ∙ one))

  mended_scan : (past : List Entry) → Answers setup past → scan_lines (mended setup past) ≡ scan_lines past
  mended_scan [] all = refl
  mended_scan (entry.Wire addr sent piece ∷ past) all =
      ap₂ (λ front ls. front ++ ls)
      (scan_here addr (addr == BROADCAST) sent piece (heard_after setup (mended setup past) sent) refl
      (as_model past addr sent piece all.0))
      (mended_scan past all.1)
  mended_scan (e ∷ past) all = ap (λ ls. scan_own e ++ ls) (mended_scan past all.1)

  mended_sale : (past : List Entry) → sale_lines (mended setup past) ≡ sale_lines past
  mended_sale [] = refl
  mended_sale (entry.Wire addr sent piece ∷ past) = mended_sale past
  mended_sale (e ∷ past) = ap (λ ls. sale_own e ++ ls) (mended_sale past)

  pub alike_mended : (past : List Entry) → Answers setup past → Alike (mended setup past) past
  alike_mended past all = record {
    recorded = mended_records past;
    devices = λ d. ap job (mended_lines d past all);
    scan = ap job (mended_scan past all);
    sale = ap job (mended_sale past);
  }

  pub mended_honest : (past : List Entry) → HonestPast past → HonestPast (mended setup past)
  mended_honest [] honest = tt
  mended_honest (entry.Wire addr sent piece ∷ past) honest =
      (subst (λ f. IsHonestFault f sent) (sym (mended_pending past)) honest.0, mended_honest past honest.1)
  mended_honest (e ∷ past) honest = (tt, mended_honest past honest.1)

  by_met : (addr : ℕ) (d : DeviceSetup) (past : List Entry) (what : Happening) →
      befalling addr d (met d past) what ≡ happening_entry addr d past what
  by_met addr d past (happening.Coin place) = refl
  by_met addr d past happening.Alien = refl
  by_met addr d past (happening.Bill place) = refl
  by_met addr d past happening.Fall = refl
  by_met addr d past happening.Jam = refl
  by_met addr d past happening.Reset = refl

  pub mended_happening : (past news : List Entry) (addr : ℕ) (what : Happening) → EntriesOfHappening setup past addr what news →
      EntriesOfHappening setup (mended setup past) addr what news
  mended_happening past news addr what is =
      of_found what (device_at setup.devices addr) (λ d. news ≡ happening_entry addr d past what ∷ [])
      (λ d. news ≡ happening_entry addr d (mended setup past) what ∷ [])
      (λ d at. at ∙ ap (λ e. e ∷ [])
      (sym (by_met addr d past what) ∙ ap (λ ms. befalling addr d ms what) (sym (mended_met d past))
      ∙ by_met addr d (mended setup past) what)) is
