use Rattle.std.proofs.Common.{ap, sym, ◌∙◌}
use Rattle.cct_model.specs.Script.{opens}
use Rattle.cct_bench.specs.Setup.{stage_of}
use Rattle.cct_bench.proofs.Reading.{setup_refused, setup_adds, setup_adds_not, setup_passes}
use Rattle.cct_bench.proofs.opening.take_setup_line.Goals as goal

pub returns-in_err-said : goal.returns-in_err-said
returns-in_err-said c =
    let setup = c.args.setup.now in
    let line = c.args.line.now in
    let why = c.in_err-said.field-0.0 in
    record {
      reads =
          setup_passes setup setup line c.from_residual.result why c.from_residual.ensures
          (setup_refused setup line why (sym c.in_err-said.ensures.value));
    }

pub returns-in_err-add : goal.returns-in_err-add
returns-in_err-add c =
    let setup = c.args.setup.now in
    let line = c.args.line.now in
    let why = c.in_err-add.field-0.0 in
    record {
      reads = setup_passes setup c.add.new.setup line c.from_residual-in_err-add.result why
          c.from_residual-in_err-add.ensures
          (setup_adds_not setup line c.in_ok-said.said why (sym c.in_ok-said.ensures.value)
          c.in_err-add.ensures.adds.0);
    }

pub returns : goal.returns
returns c = record {
  reads = setup_adds c.args.setup.now c.add.new.setup c.args.line.now c.in_ok-said.said
      (sym c.in_ok-said.ensures.value) c.in_ok-add.ensures.adds
      ∙ ap (λ opened. opens (stage_of opened c.add.new.setup)) (sym c.opened_by.ensures);
}
