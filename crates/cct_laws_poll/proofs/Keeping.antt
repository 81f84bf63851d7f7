-- What is left of a part on which the calls of a step are made.
use Rattle.std.proofs.Common.{◌≡◌, ℕ, List, [], length, reverse, refl, sym, ap, subst}
use Rattle.cct_model.specs.lines.entry.Entry.{Entry}
use Rattle.cct_model.specs.Records.{records}
use Rattle.cct_host.specs.Attempt.{put_of}
use Rattle.cct_host.specs.Host.{StandsFor, disk_of, setup_of}
use Rattle.cct_host.specs.OnDisk.{StandsUpTo}
use Rattle.cct_disk_queue.specs.Calls.{Since}
use Rattle.cct_poll.specs.declared.poll.Poll.{Poll}
use Rattle.cct_poll.specs.Steps.{Steps}

pub keeps : (before after : Poll) (piece heard : List ℕ) (addr : ℕ) (told past : List Entry)
    (step : Steps piece heard addr before.host after.host told) → (disk_of before.host).calls ≡ []
    → StandsFor before.host past → (image : List ℕ) → Since (disk_of after.host).base (disk_of after.host).calls 0 image
    → StandsUpTo (setup_of before.host) (put_of step.what) (reverse (records past)) image
keeps before after piece heard addr told past step none stands image since =
    (step.moments past stands (refl, refl)).each image
    (subst (λ t. Since (disk_of after.host).base (disk_of after.host).calls t image) (sym (ap length none)) since)
