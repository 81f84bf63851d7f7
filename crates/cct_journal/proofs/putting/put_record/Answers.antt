use Rattle.std.proofs.Common.{[], ◌∷◌, ◌++◌, sym, subst, arith}
use Rattle.cct_journal.specs.Places.{after_put}
use Rattle.cct_journal.specs.Stands.{Stands}
use Rattle.cct_journal.proofs.TurnCalls.{puts_after, turned_puts}
use Rattle.cct_journal.specs.Turning.{put_bytes, put_calls}
use Rattle.cct_disk.proofs.Taking.{takes_most, takes_then}
use Rattle.cct_journal.proofs.putting.put_record.Goals as goal

pub returns-in_err-turned-clause-moments : goal.returns-in_err-turned-clause-moments
returns-in_err-turned-clause-moments g c =
    turned_puts g.D.Disk.moment g.D.Disk.left_since c.args.disk.now c.turn_if_full.new.disk c.args.place.now
    c.args.carry.now c.args.entry.now c.args.calls c.turn_if_full.ensures.moments

pub returns-in_err-put_slot-clause-moments : goal.returns-in_err-put_slot-clause-moments
returns-in_err-put_slot-clause-moments g c =
    let disk = g.D.Disk in
    puts_after disk.moment disk.left_since c.args.disk.now c.turn_if_full.new.disk c.args.place.now c.args.carry.now
    c.args.entry.now c.args.calls c.turn_if_full.ensures.moments c.put_slot.new.disk c.place_after.result.now
    (λ carry_of records stands. subst (λ place. Stands carry_of disk.honest disk.seen disk.may_leave
    c.turn_if_full.new.disk place records) (sym c.place_after.ensures)
    (c.in_ok-turned.ensures.done carry_of records stands))
    c.put_slot.ensures.moments c.put_slot.ensures.early

pub returns-clause-moments : goal.returns-clause-moments
returns-clause-moments g c =
    let disk = g.D.Disk in
    puts_after disk.moment disk.left_since c.args.disk.now c.turn_if_full.new.disk c.args.place.now c.args.carry.now
    c.args.entry.now c.args.calls c.turn_if_full.ensures.moments c.put_slot.new.disk c.place_after.result.now
    (λ carry_of records stands. subst (λ place. Stands carry_of disk.honest disk.seen disk.may_leave
    c.turn_if_full.new.disk place records) (sym c.place_after.ensures)
    (c.in_ok-turned.ensures.done carry_of records stands))
    c.put_slot.ensures.moments c.put_slot.ensures.early

pub returns-clause-done : goal.returns-clause-done
returns-clause-done g c all carry_of records stands =
    let disk = g.D.Disk in
    subst (λ place. Stands carry_of disk.honest disk.seen disk.may_leave c.put_slot.new.disk (after_put place)
    (records ++ c.args.entry.now ∷ []))
    c.place_after.ensures
    (c.in_ok-put_slot.ensures.done all carry_of records
    (subst (λ place. Stands carry_of disk.honest disk.seen disk.may_leave c.turn_if_full.new.disk place records)
    (sym c.place_after.ensures) (c.in_ok-turned.ensures.done carry_of records stands)))

pub returns-in_err-turned-clause-takes : goal.returns-in_err-turned-clause-takes
returns-in_err-turned-clause-takes g c =
    takes_most put_calls put_bytes (omega arith) (omega arith) c.turn_if_full.ensures.takes

pub returns-in_err-put_slot-clause-takes : goal.returns-in_err-put_slot-clause-takes
returns-in_err-put_slot-clause-takes g c =
    takes_most put_calls put_bytes (omega arith) (omega arith)
    (takes_then c.turn_if_full.ensures.takes c.put_slot.ensures.takes)

pub returns-clause-takes : goal.returns-clause-takes
returns-clause-takes g c =
    takes_most put_calls put_bytes (omega arith) (omega arith)
    (takes_then c.turn_if_full.ensures.takes c.put_slot.ensures.takes)
