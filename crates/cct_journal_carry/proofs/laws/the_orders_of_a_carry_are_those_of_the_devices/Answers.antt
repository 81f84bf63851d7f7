use Rattle.cct_journal_carry.proofs.Resumed.{named_looked_up, opened_looked_up, orders_looked_up}
use Rattle.cct_journal_carry.proofs.laws.the_orders_of_a_carry_are_those_of_the_devices.Goals as goal

pub returns : goal.returns
returns c = record { at_devices = orders_looked_up; opened = opened_looked_up; named = named_looked_up }
