-- The images after a write that may be torn.
use Rattle.cct_disk.proofs.torn.TornDiskDisk.write.Goals as goal

pub returns-clause-images : goal.returns-clause-images
returns-clause-images c = rw (← c.self.view_is) c.write_or_tear.ensures.images
