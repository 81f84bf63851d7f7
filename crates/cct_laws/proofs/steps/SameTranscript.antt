-- Steps of which none names a put that a power cut interrupts have one transcript.
use Rattle.std.proofs.Common.{◌≡◌, ◌⊎◌, inl, inr, ℕ, ◌==◌, Bool, true, false, List, [], ◌∷◌, ◌++◌, append_assoc, reverse, refl, sym, ap, ap₂, subst, ◌∙◌, Option, Some, None, All, arith}
use Rattle.std.specs.Prelude.{MatchBool}
use Rattle.std.proofs.lemmas.List.{append-nil, reverse-append, reverse-reverse}
use Rattle.std.proofs.lemmas.List.Elements.{All-cons, All-head, All-nil, All-tail}
use Rattle.cct_model.specs.terms.wire.TheConstants.{BROADCAST, HOST}
use Rattle.cct_model.specs.terms.wire.CheckKind.{CheckKind}
use Rattle.cct_model.specs.terms.device.DeviceSetup.{DeviceSetup}
use Rattle.cct_model.specs.terms.device.Setup.{Setup}
use Rattle.cct_model.specs.terms.family.Happening.{Happening}
use Rattle.cct_model.specs.terms.family.Happening.TheVariants as happening
use Rattle.cct_model.specs.lines.command.Command.{Command}
use Rattle.cct_model.specs.lines.command.Command.TheVariants as command
use Rattle.cct_model.specs.lines.command.Step.{Step}
use Rattle.cct_model.specs.lines.command.Step.TheVariants as step
use Rattle.cct_model.specs.lines.entry.Entry.{Entry}
use Rattle.cct_model.specs.lines.entry.Entry.TheVariants as entry
use Rattle.cct_model.specs.declared.change.Due.{Due}
use Rattle.cct_model.specs.declared.change.Payment.{Payment}
use Rattle.cct_model.specs.declared.change.Phase.{Phase}
use Rattle.cct_model.specs.declared.change.Phase.TheVariants.{Begun, Opened, Odd}
use Rattle.cct_model.specs.declared.change.Session.{Session}
use Rattle.cct_model.specs.declared.change.Tray.{Tray}
use Rattle.cct_model.specs.AtDesk.{AtDeskFrom, EntriesAtDesk, LegalAtDesk}
use Rattle.cct_model.specs.Change.{Desk, GoesOn, IsStuck, PaysNext, PaysOn, Serves, ServesDue, Settles, clear_desk, desk_after, first_pay, pay_entries, settled, settled_trays}
use Rattle.cct_model.specs.Refusal.{refusal}
use Rattle.cct_model.specs.Family.{family_of, known_to}
use Rattle.cct_model.specs.Exchange.{device_at}
use Rattle.cct_model.specs.Line.{Line}
use Rattle.cct_model.specs.Order.{order}
use Rattle.cct_model.specs.Job.{Job, free, works, job, Row, sends, puts, no_row, epoch}
use Rattle.cct_model.specs.Rows.{row, row_of_sale}
use Rattle.cct_model.specs.Honest.{forged_after, without_forged}
use Rattle.cct_model.specs.Legal.{EntriesOnWire, NextEntries, RowEntries, PollEntries, ScanEntries, SaleRowEntries, SaleEntries, BareNext, OfDevice, OfKnowing, OfNext}
use Rattle.cct_model.specs.Scan.{scan_row}
use Rattle.cct_model.specs.Transcript.{heard_after, lines_of, onto, sale_lines, scan_lines}
use Rattle.cct_laws.specs.Law.{Begins, NamesNoPut}
use Rattle.cct_laws.proofs.steps.OneMore.{onto_is}
use Rattle.cct_laws.proofs.setups.UniquePlan.{one_chosen, paid_addr, paid_count}

-- two lists of entries of which a fact holds are the same
abbrev One : (List Entry → Type 0) → Type 0
One P = (xs ys : List Entry) → P xs → P ys → xs ≡ ys

one_is : (zs : List Entry) → One (λ news. news ≡ zs)
one_is zs xs ys first second = first ∙ sym second

none_is : One (λ news. ⊥)
none_is xs ys first second = absurd first

one_either : (test : Bool) (P Q : List Entry → Type 0) → One P → One Q → One (λ news. MatchBool test (P news) (Q news))
one_either true P Q one other = one
one_either false P Q one other = other

-- what comes without being asked
one_device : (found : Option DeviceSetup) (P : DeviceSetup → List Entry → Type 0) → ((d : DeviceSetup) → One (P d)) →
    One (λ news. OfDevice found (λ d. P d news))
one_device None P one = none_is
one_device (Some d) P one = one d

one_known : (what : Happening) (found : Option DeviceSetup) (zs : DeviceSetup → List Entry) →
    One (λ news. OfKnowing what found (λ d. news ≡ zs d))
one_known what found zs =
    one_device found (λ d news. MatchBool (known_to what (family_of d.body)) (news ≡ zs d) ⊥)
    (λ d. one_either (known_to what (family_of d.body)) (λ news. news ≡ zs d) (λ news. ⊥) (one_is (zs d)) none_is)

-- a `next`
one_row : (hears : List ℕ → List ℕ) (d : DeviceSetup) (past : List Entry) (c : Command) (since : List Line) (is : Row) →
    One (RowEntries hears d past c since is)
one_row hears d past c since (sends q) = one_is _
one_row hears d past c since (puts r) = one_is _
one_row hears d past c since no_row = none_is

one_next : (hears : List ℕ → List ℕ) (d : DeviceSetup) (past : List Entry) (at_work : Job) →
    One (λ news. NextEntries hears d past at_work news)
one_next hears d past free = one_is _
one_next hears d past (works c since) =
    one_row hears d past c since (row d c since (epoch (lines_of d past)) (order (lines_of d past)))

one_poll : (hears : List ℕ → List ℕ) (since : List Line) (poll : Option (CheckKind × ℕ)) →
    One (PollEntries hears since poll)
one_poll hears since None = none_is
one_poll hears since (Some (check, addr)) = one_is _

one_scan : (hears : List ℕ → List ℕ) (at_work : Job) → One (ScanEntries hears at_work)
one_scan hears free = one_is _
one_scan hears (works c since) = one_poll hears since (scan_row since)

one_sale_row : (c : Command) (since : List Line) (is : Row) → One (SaleRowEntries c since is)
one_sale_row c since (puts r) = one_is _
one_sale_row c since is = none_is

one_sale : (at_work : Job) → One (SaleEntries at_work)
one_sale free = one_is _
one_sale (works c since) = one_sale_row c since (row_of_sale c since)

one_bare : (hears : List ℕ → List ℕ) (past : List Entry) (addr : ℕ) → One (BareNext hears past addr)
one_bare hears past addr =
    one_either (addr == BROADCAST) (ScanEntries hears (job (scan_lines past))) _
    (one_scan hears (job (scan_lines past)))
    (one_either (addr == HOST) (SaleEntries (job (sale_lines past))) _ (one_sale (job (sale_lines past))) (one_is _))

one_there : (hears : List ℕ → List ℕ) (past : List Entry) (addr : ℕ) (found : Option DeviceSetup) →
    One (λ news. OfNext found (λ d. NextEntries hears d past (job (lines_of d past)) news) (BareNext hears past addr news))
one_there hears past addr None = one_bare hears past addr
one_there hears past addr (Some d) = one_next hears d past (job (lines_of d past))

one_on_wire : (setup : Setup) (past : List Entry) (addr : ℕ) → One (EntriesOnWire setup past addr)
one_on_wire setup past addr xs ys first second =
    let same = one_there (heard_after setup past) past addr (device_at setup.devices addr) (without_forged xs)
    (without_forged ys) first.0 second.0 in
    first.1 ∙ ap (λ told. forged_after past told ++ told) same ∙ sym second.1

-- a payment of a session is reported by its plan, and at most one plan is chosen
entries_paid : (capacity : ℕ) (setup : Setup) (past : List Entry) (s : Session) → ℕ → ℕ → ℕ → List Entry
entries_paid capacity setup past s addr id count =
    pay_entries s (record { addr = addr; id = id; count = count })
    (refusal capacity setup past (command.Pay addr id count))

abbrev pay_of : Payment → Option (ℕ × ℕ)
pay_of p = Some (p.addr, p.count)

one_pay : (trays : List Tray) (s : Session) (p q : Payment) → PaysNext trays s p → PaysNext trays s q →
    pay_of p ≡ pay_of q
one_pay trays s p q first second =
    sym first.pays
    ∙ ap (first_pay trays) (one_chosen trays s.rest first.counts second.counts first.chosen second.chosen)
    ∙ second.pays

no_stuck : (trays : List Tray) (s : Session) (p : Payment) → IsStuck trays s → PaysNext trays s p → ⊥
no_stuck trays s p (inl no_plan) will = no_plan will.counts will.chosen.fewest.plan
no_stuck trays s p (inr no_id) will = let within = will.within in omega (arith, no_id, within)

one_paid : (capacity : ℕ) (setup : Setup) (past : List Entry) (s : Session) (p q : Payment) →
    pay_of p ≡ pay_of q → p.id ≡ q.id →
    entries_paid capacity setup past s p.addr p.id p.count ≡ entries_paid capacity setup past s q.addr q.id q.count
one_paid capacity setup past s p q same ids =
    let addresses : p.addr ≡ q.addr = ap paid_addr same in
    let counts : p.count ≡ q.count = ap paid_count same in
    ap (λ a. entries_paid capacity setup past s a p.id p.count) addresses
    ∙ ap (λ i. entries_paid capacity setup past s q.addr i p.count) ids
    ∙ ap (entries_paid capacity setup past s q.addr q.id) counts

one_session : (capacity : ℕ) (setup : Setup) (past : List Entry) (trays : List Tray) (s : Session) →
    One (PaysOn capacity setup past trays s)
unfolding entries_paid
one_session capacity setup past trays s xs ys (inl stuck) (inl also) = stuck.1 ∙ sym also.1
one_session capacity setup past trays s xs ys (inl stuck) (inr paid) = absurd (no_stuck trays s paid.0 stuck.0 paid.1)
one_session capacity setup past trays s xs ys (inr paid) (inl stuck) = absurd (no_stuck trays s paid.0 stuck.0 paid.1)
one_session capacity setup past trays s xs ys (inr paid) (inr also) =
    paid.2
    ∙ one_paid capacity setup past s paid.0 also.0 (one_pay trays s paid.0 also.0 paid.1 also.1)
    (paid.1.id ∙ sym also.1.id)
    ∙ sym also.2

one_goes_on : (capacity : ℕ) (setup : Setup) (past : List Entry) (trays : List Tray) (s : Session) →
    One (GoesOn capacity setup past trays s)
one_goes_on capacity setup past trays s =
    one_either (s.rest == 0) (λ news. news ≡ entry.Served s.amount ∷ []) (PaysOn capacity setup past trays s) (one_is _)
    (one_session capacity setup past trays s)

one_settles : (capacity : ℕ) (setup : Setup) (past : List Entry) (trays : List Tray) (s : Session) (due : Due)
    (phase : Phase) → One (Settles capacity setup past trays s due phase)
one_settles capacity setup past trays s due Begun = one_is _
one_settles capacity setup past trays s due Opened = one_is _
one_settles capacity setup past trays s due Odd = one_is _
one_settles capacity setup past trays s due phase =
    one_goes_on capacity setup past (settled_trays due trays) (settled trays due s)

one_serves_due : (capacity : ℕ) (setup : Setup) (past : List Entry) (trays : List Tray) (s : Session)
    (due : Option Due) → One (ServesDue capacity setup past trays s due)
one_serves_due capacity setup past trays s None = one_goes_on capacity setup past trays s
one_serves_due capacity setup past trays s (Some due) = one_settles capacity setup past trays s due due.phase

one_serves : (capacity : ℕ) (setup : Setup) (past : List Entry) (trays : List Tray) (session : Option Session) →
    One (Serves capacity setup past trays session)
one_serves capacity setup past trays None = one_is _
one_serves capacity setup past trays (Some s) = one_serves_due capacity setup past trays s s.due

-- a step
pub one_step : (capacity : ℕ) (setup : Setup) (past : List Entry) (desk : Desk) (s : Step) → NamesNoPut s →
    One (EntriesAtDesk capacity setup past desk s)
one_step capacity setup past desk (step.Coin addr place) no_put =
    one_known (happening.Coin place) (device_at setup.devices addr) _
one_step capacity setup past desk (step.Alien addr) no_put = one_known happening.Alien (device_at setup.devices addr) _
one_step capacity setup past desk (step.Bill addr place) no_put =
    one_known (happening.Bill place) (device_at setup.devices addr) _
one_step capacity setup past desk (step.Fall addr) no_put = one_known happening.Fall (device_at setup.devices addr) _
one_step capacity setup past desk (step.Jam addr) no_put = one_known happening.Jam (device_at setup.devices addr) _
one_step capacity setup past desk (step.Reset addr) no_put = one_known happening.Reset (device_at setup.devices addr) _
one_step capacity setup past desk (step.Fault f) no_put = one_is _
one_step capacity setup past desk (step.Command c) no_put = one_is _
one_step capacity setup past desk (step.Next addr) no_put = one_on_wire setup past addr
one_step capacity setup past desk (step.Crash None choice) no_put = one_is _
one_step capacity setup past desk (step.Crash (Some at) choice) no_put = absurd no_put
one_step capacity setup past desk step.Balance no_put = one_is _
one_step capacity setup past desk (step.Stock addr count) no_put = one_is _
one_step capacity setup past desk (step.Change first amount) no_put = one_is _
one_step capacity setup past desk step.Serve no_put = one_serves capacity setup past desk.trays desk.session
one_step capacity setup past desk step.End no_put = none_is

-- steps leave a past as it is, and add to it
grown_at_desk : (capacity : ℕ) (setup : Setup) (past : List Entry) (desk : Desk) (steps : List Step) (end : List Entry)
    (last : Desk) → AtDeskFrom capacity setup past desk steps end last → (more : List Entry) × (end ≡ more ++ past)
grown_at_desk capacity setup past desk [] end last legal = ([], legal.0)
grown_at_desk capacity setup past desk (s ∷ steps) end last legal =
    let later = grown_at_desk capacity setup (legal.0 ++ past) (desk_after s legal.0 desk) steps end last legal.2 in
    (later.0 ++ legal.0, later.1 ∙ sym (append_assoc later.0 legal.0 past))

-- where some steps lead to one past, they and more lead on from it
leads_on : (capacity : ℕ) (setup : Setup) (past : List Entry) (desk : Desk) (played rest : List Step)
    (end later : List Entry) (last at_end : Desk) → All NamesNoPut played →
    AtDeskFrom capacity setup past desk played end last →
    AtDeskFrom capacity setup past desk (played ++ rest) later at_end → (more : List Entry) × (later ≡ more ++ end)
leads_on capacity setup past desk [] rest end later last at_end no_put legal more =
    subst (λ before. (more : List Entry) × (later ≡ more ++ before)) (sym legal.0)
    (grown_at_desk capacity setup past desk rest later at_end more)
leads_on capacity setup past desk (s ∷ played) rest end later last at_end no_put legal more =
    let same =
    one_step capacity setup past desk s (All-head NamesNoPut s played no_put) more.0 legal.0 more.1 legal.1 in
    leads_on capacity setup (legal.0 ++ past) (desk_after s legal.0 desk) played rest end later last at_end
    (All-tail NamesNoPut s played no_put) legal.2
    (subst (λ news. AtDeskFrom capacity setup (news ++ past) (desk_after s news desk) (played ++ rest) later at_end) same
    more.2)

-- transcripts by their pasts
past_of : (transcript : List Entry) → onto [] transcript ≡ reverse transcript
past_of transcript = onto_is [] transcript ∙ append-nil (reverse transcript)

begins_by : (shorter longer more : List Entry) → onto [] longer ≡ more ++ onto [] shorter → Begins shorter longer
begins_by shorter longer more is = (
  reverse more,
  sym (reverse-reverse longer)
      ∙ ap reverse (sym (past_of longer) ∙ is ∙ ap (λ xs. more ++ xs) (past_of shorter))
      ∙ reverse-append more (reverse shorter)
      ∙ ap (λ xs. xs ++ reverse more) (reverse-reverse shorter),
)

pub steps_begin : (capacity : ℕ) (setup : Setup) (played rest : List Step) (shorter longer : List Entry) →
    All NamesNoPut played → LegalAtDesk capacity setup played shorter → LegalAtDesk capacity setup (played ++ rest) longer →
    Begins shorter longer
steps_begin capacity setup played rest shorter longer no_put legal more =
    let on =
    leads_on capacity setup [] (clear_desk setup) played rest (onto [] shorter) (onto [] longer) legal.0 more.0 no_put
    legal.1 more.1 in
    begins_by shorter longer on.0 on.1

-- of two fronts of a list one begins the other
abbrev Fronts : List Step → List Step → Type 0
Fronts xs us = (rest : List Step) × (us ≡ xs ++ rest)

one_front : (xs ys us vs : List Step) → xs ++ ys ≡ us ++ vs → Fronts xs us ⊎ Fronts us xs
one_front [] ys us vs same = inl (us, refl)
one_front (x ∷ xs) ys [] vs same = inr (x ∷ xs, refl)
one_front (x ∷ xs) ys (u ∷ us) vs same = behind (one_front xs ys us vs tails)
  where
    heads : x ≡ u
    heads = cc

    tails : xs ++ ys ≡ us ++ vs
    tails = cc

    behind : Fronts xs us ⊎ Fronts us xs → Fronts (x ∷ xs) (u ∷ us) ⊎ Fronts (u ∷ us) (x ∷ xs)
    behind (inl front) = inl (front.0, ap₂ (λ y zs. y ∷ zs) (sym heads) front.1)
    behind (inr front) = inr (front.0, ap₂ (λ y zs. y ∷ zs) heads front.1)

all_front : (xs ys : List Step) → All NamesNoPut (xs ++ ys) → All NamesNoPut xs
all_front [] ys all = All-nil NamesNoPut
all_front (x ∷ xs) ys all =
    All-cons NamesNoPut x xs (All-head NamesNoPut x (xs ++ ys) all)
    (all_front xs ys (All-tail NamesNoPut x (xs ++ ys) all))

pub fronts_begin : (capacity : ℕ) (setup : Setup) (steps played unplayed others more : List Step)
    (first second : List Entry) → All NamesNoPut steps → steps ≡ played ++ unplayed → steps ≡ others ++ more →
    LegalAtDesk capacity setup played first → LegalAtDesk capacity setup others second →
    Begins first second ⊎ Begins second first
fronts_begin capacity setup steps played unplayed others more first second no_put is other_is legal other_legal =
    by_front (one_front played unplayed others more (sym is ∙ other_is))
  where
    by_front : Fronts played others ⊎ Fronts others played → Begins first second ⊎ Begins second first
    by_front (inl front) =
        inl (steps_begin capacity setup played front.0 first second
        (all_front played unplayed (subst (All NamesNoPut) is no_put)) legal
        (subst (λ steps. LegalAtDesk capacity setup steps second) front.1 other_legal))
    by_front (inr front) =
        inr (steps_begin capacity setup others front.0 second first
        (all_front others more (subst (All NamesNoPut) other_is no_put)) other_legal
        (subst (λ steps. LegalAtDesk capacity setup steps first) front.1 legal))
