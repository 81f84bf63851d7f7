use Rattle.cct_model_lines.specs.declared.setup.SetupLine.TheVariants as says
use Rattle.cct_model_lines.specs.Grammar.{added}
use Rattle.cct_script.proofs.Sound.{kept_sound}
use Rattle.cct_script.proofs.adding.add.Goals as goal

pub returns-in-Acceptor-clause-sound : goal.returns-in-Acceptor-clause-sound
unfolding added
returns-in-Acceptor-clause-sound c =
    kept_sound _ _ (says.Acceptor c.in-Acceptor.device) _ (rw c.in-Acceptor.is at c.requires) c.add_device.ensures

pub returns-in-Hopper-clause-sound : goal.returns-in-Hopper-clause-sound
unfolding added
returns-in-Hopper-clause-sound c =
    kept_sound _ _ (says.Hopper c.in-Hopper.device) _ (rw c.in-Hopper.is at c.requires) c.add_device-in-Hopper.ensures

pub returns-in-Bills-clause-sound : goal.returns-in-Bills-clause-sound
unfolding added
returns-in-Bills-clause-sound c =
    kept_sound _ _ (says.Bills c.in-Bills.device) _ (rw c.in-Bills.is at c.requires) c.add_device-in-Bills.ensures

pub returns-in-Value-clause-sound : goal.returns-in-Value-clause-sound
unfolding added
returns-in-Value-clause-sound c =
    let v = c.in-Value in
    kept_sound _ _ (says.Value v.addr v.place v.value v.id) _ (rw c.in-Value.is at c.requires) c.add_value.ensures

pub returns-in-Named-clause-sound : goal.returns-in-Named-clause-sound
unfolding added
returns-in-Named-clause-sound c =
    kept_sound _ _ (says.Named c.in-Named.addr c.in-Named.texts) _ (rw c.in-Named.is at c.requires) c.add_texts.ensures
