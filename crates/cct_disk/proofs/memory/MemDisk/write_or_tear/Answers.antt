-- The images after a write that is torn or not, and since before it.
use Rattle.std.proofs.Common.{◌∙◌, ap, arith, rules}
use Rattle.cct_disk.specs.Content.{written, written_torn}
use Rattle.cct_disk.specs.Traced.{content_of}
use Rattle.cct_disk.specs.Memory.{MemoryDisk}
use Rattle.cct_disk.proofs.Images.{new_follows, new_time}
use Rattle.cct_disk.proofs.Tears.{torn_follows, torn_time}
use Rattle.cct_disk.proofs.memory.MemDisk.write_or_tear.Goals as goal

pub returns-then-has_room-clause-images : goal.returns-then-has_room-clause-images
returns-then-has_room-clause-images c =
    torn_follows c.args.choice c.args.at c.args.bytes.now c.args.self.now.content c.requires
    (content_of c.write_torn.new.self)
    (c.write_torn.ensures.content_is
    ∙ ap (λ (d : MemoryDisk). written_torn c.args.choice c.args.at c.args.bytes.now d.content) c.self.view_is)

pub returns-then-has_room-clause-time : goal.returns-then-has_room-clause-time
returns-then-has_room-clause-time c =
    torn_time c.args.choice c.args.at c.args.bytes.now c.args.self.now.content c.requires
    (content_of c.write_torn.new.self)
    (c.write_torn.ensures.content_is
    ∙ ap (λ (d : MemoryDisk). written_torn c.args.choice c.args.at c.args.bytes.now d.content) c.self.view_is)

pub returns-then-has_room-clause-answers : goal.returns-then-has_room-clause-answers
returns-then-has_room-clause-answers c =
    rw (← c.self.view_is) (record {
      fails = c.in-Err.ensures.fails;
      after = tt;
      torn = λ _. search rules;
      after_fault = λ lacks. absurd (grind (arith, lacks));
      cause = search rules;
    })

pub returns-clause-images : goal.returns-clause-images
returns-clause-images c =
    new_follows c.args.at c.args.bytes.now c.args.self.now.content c.requires (content_of c.write.new.self)
    (c.write.ensures.content_is ∙ ap (λ (d : MemoryDisk). written c.args.at c.args.bytes.now d.content) c.self.view_is)

pub returns-clause-time : goal.returns-clause-time
returns-clause-time c =
    new_time c.args.at c.args.bytes.now c.args.self.now.content c.requires (content_of c.write.new.self)
    (c.write.ensures.content_is ∙ ap (λ (d : MemoryDisk). written c.args.at c.args.bytes.now d.content) c.self.view_is)
