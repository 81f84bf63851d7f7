-- The images after a write, and since before it.
use Rattle.std.proofs.Common.{◌∙◌, ap}
use Rattle.cct_disk.specs.Content.{written}
use Rattle.cct_disk.specs.Traced.{content_of}
use Rattle.cct_disk.specs.Memory.{MemoryDisk}
use Rattle.cct_disk.proofs.Images.{new_follows, new_time}
use Rattle.cct_disk.proofs.memory.MemDiskDisk.write.Goals as goal

pub returns-clause-images : goal.returns-clause-images
returns-clause-images c =
    new_follows c.args.at c.args.bytes.now c.args.self.now.content c.requires (content_of c.write.new.self)
    (c.write.ensures.content_is ∙ ap (λ (d : MemoryDisk). written c.args.at c.args.bytes.now d.content) c.self.view_is)

pub returns-clause-time : goal.returns-clause-time
returns-clause-time c =
    new_time c.args.at c.args.bytes.now c.args.self.now.content c.requires (content_of c.write.new.self)
    (c.write.ensures.content_is ∙ ap (λ (d : MemoryDisk). written c.args.at c.args.bytes.now d.content) c.self.view_is)
