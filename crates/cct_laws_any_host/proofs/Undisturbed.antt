-- What an exchange without a fault shows of an acceptor, where a host asks it for its credits or its mask.
use Rattle.std.proofs.Common.{◌≡◌, ℕ, List, refl, ap, sym, ◌∙◌, Some, option_and_then}
use Rattle.cct_model.specs.terms.device.DeviceSetup.{DeviceSetup}
use Rattle.cct_model.specs.terms.device.Setup.{Setup}
use Rattle.cct_model.specs.terms.request.Request.{Request}
use Rattle.cct_model.specs.terms.request.Request.TheVariants.{ReadCredits, GetMask}
use Rattle.cct_model.specs.terms.request.ReplyForm.TheVariants as form
use Rattle.cct_model.specs.lines.command.WireFault.TheVariants as fault
use Rattle.cct_model.specs.lines.entry.Entry.{Entry}
use Rattle.cct_model.specs.Reply as reply
use Rattle.cct_model.specs.Acceptor.{credits_of, events, mask_of}
use Rattle.cct_model.specs.Device.{IsAcceptor}
use Rattle.cct_model.specs.Exchange.{ask, asked_of, asks_of, got}
use Rattle.cct_model.specs.Message.{message}
use Rattle.cct_model.specs.Request.{form_of}
use Rattle.cct_model.specs.Setup.{IsSoundSetup}
use Rattle.cct_model.specs.Transcript.{got_by, heard_after, met, pending}
use Rattle.cct_laws.specs.Law.{IsOf}
use Rattle.cct_laws.proofs.wire.Exchanges.{Replied, asks_back, undisturbed_got}
use Rattle.cct_msg.proofs.Exchanges.{asked_back}
use Rattle.cct_audit_taps.specs.declared.shown.Shown.TheVariants.{Masked, Read}
use Rattle.cct_audit_taps.specs.Taps.{mask_in, read_in, shown, shown_by, tap_of}
use Rattle.cct_laws_any_host.proofs.Wire.{credits_replied, five_kept, mask_replied}

reads_credits : (d : DeviceSetup) (past : List Entry) → IsAcceptor d.body → Replied d (met d past) ReadCredits
unfolding form_of
reads_credits d past accepting = record {
  y = reply.credits (credits_of (met d past));
  form = form.Credits;
  replied = credits_replied d (met d past) accepting;
  wants = refl;
  shown = refl;
  whole = five_kept (events (met d past));
  sayable = tt;
  fits = λ number count is. absurd cc;
  to_its_device = refl;
}

reads_mask : (d : DeviceSetup) (past : List Entry) → IsAcceptor d.body → Replied d (met d past) GetMask
unfolding form_of
reads_mask d past accepting = record {
  y = reply.mask (mask_of (met d past));
  form = form.Mask;
  replied = mask_replied d (met d past) accepting;
  wants = refl;
  shown = refl;
  whole = tt;
  sayable = tt;
  fits = λ number count is. absurd cc;
  to_its_device = refl;
}

-- what is got is got in the form that is wanted
got_in : (d : DeviceSetup) (q : Request) (past : List Entry) (is : Replied d (met d past) q) (heard : List ℕ) →
    got_by d (ask d.kind d.addr q) heard ≡ got d.kind d.addr is.form (ask d.kind d.addr q) heard
unfolding got_by
got_in d q past is heard =
    ap (λ found. option_and_then (λ form. got d.kind d.addr form (ask d.kind d.addr q) heard) (option_and_then form_of found))
    (asked_back d.kind d.addr q is.fits)
    ∙ ap (option_and_then (λ form. got d.kind d.addr form (ask d.kind d.addr q) heard)) is.wants

-- what is shown of it
asked_there : (d : DeviceSetup) (q : Request) (past : List Entry) → Replied d (met d past) q →
    option_and_then (asked_of d.addr) (message d.kind (ask d.kind d.addr q)) ≡ Some q
unfolding asks_of
asked_there d q past is = asks_back d q is.fits is.to_its_device

module _ (setup : Setup) (d : DeviceSetup) (past : List Entry) (sound : IsSoundSetup setup) (own : IsOf setup d)
    (accepting : IsAcceptor d.body) (clear : pending past ≡ fault.Clear) where
  got_here : (q : Request) (is : Replied d (met d past) q) →
      got d.kind d.addr is.form (ask d.kind d.addr q) (heard_after setup past (ask d.kind d.addr q)) ≡ Some is.y
  got_here q is =
      sym (got_in d q past is (heard_after setup past (ask d.kind d.addr q)))
      ∙ undisturbed_got setup d past q is sound own clear

  pub credits_shown : shown d.kind d.addr (tap_of (ask d.kind d.addr ReadCredits) (heard_after setup past (ask d.kind d.addr ReadCredits)))
      ≡ Read (credits_of (met d past))
  unfolding reads_credits
  credits_shown =
      let sent = ask d.kind d.addr ReadCredits in
      let is = reads_credits d past accepting in
      ap (λ q. shown_by q (λ form. got d.kind d.addr form sent (heard_after setup past sent)))
      (asked_there d ReadCredits past is)
      ∙ ap read_in (got_here ReadCredits is)

  pub mask_shown : shown d.kind d.addr (tap_of (ask d.kind d.addr GetMask) (heard_after setup past (ask d.kind d.addr GetMask)))
      ≡ Masked (mask_of (met d past))
  unfolding reads_mask
  mask_shown =
      let sent = ask d.kind d.addr GetMask in
      let is = reads_mask d past accepting in
      ap (λ q. shown_by q (λ form. got d.kind d.addr form sent (heard_after setup past sent)))
      (asked_there d GetMask past is)
      ∙ ap mask_in (got_here GetMask is)
