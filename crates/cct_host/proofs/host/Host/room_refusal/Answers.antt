use Rattle.std.proofs.Common.{◌+◌, ◌≤◌, ◌∙◌, ap, subst, sym}
use Rattle.std.specs.Option.{option_or}
use Rattle.cct_model.specs.Exchange.{device_at}
use Rattle.cct_model.specs.Job.{address_of}
use Rattle.cct_model.specs.Refusal.{asks_room, first_of, room_fails, state_refusal, tests_of}
use Rattle.cct_host.specs.Host.{setup_of, capacity_in}
use Rattle.cct_host.specs.Desks as all_desks
use Rattle.cct_journal.specs.Journal as journals
use Rattle.cct_host.proofs.Testing.{first_of_room, room_asked}
use Rattle.cct_host.proofs.host.Host.room_refusal.Goals as goal

pub returns-clause-fits : goal.returns-clause-fits
returns-clause-fits g c none puts =
    let host = c.args.self.now in
    let found = device_at (setup_of host).devices (address_of c.args.command.now) in
    subst (λ n. journals.used_of host.journal + all_desks.held_of host.desks + n ≤ capacity_in host)
    (c.need_of.ensures found (sym c.is_there-there.ensures))
    (c.room_failing.ensures.fits none
    (ap asks_room c.room_tests.ensures ∙ room_asked found c.args.command.now puts))

pub returns-clause-stands : goal.returns-clause-stands
returns-clause-stands g c past keeps =
    let host = c.args.self.now in
    let setup = setup_of host in
    let command = c.args.command.now in
    let capacity = capacity_in host in
    let found = device_at setup.devices (address_of command) in
    ap (option_or (state_refusal setup past command))
    (c.room_failing.ensures.stands past keeps
    ∙ ap (first_of (room_fails capacity setup past c.need_of.result)) c.room_tests.ensures
    ∙ first_of_room capacity setup past c.need_of.result (tests_of command)
    ∙ ap (λ need. first_of (room_fails capacity setup past need) (tests_of command))
    (c.need_of.ensures found (sym c.is_there-there.ensures)))
