-- A journal is made on a part as it is, and why none is.
use Rattle.std.proofs.Common.{arith, ap, inl, length, refl, subst, Some}
use Rattle.cct_disk_queue.specs.Queue.{bytes_of, now_only}
use Rattle.cct_poll.specs.Starts.{WasMade}
use Rattle.cct_poll.proofs.Starting.{refused_alien}
use Rattle.cct_poll.proofs.poll.make_journal.Goals as goal

pub returns-in-Ok-clause-made : goal.returns-in-Ok-clause-made
returns-in-Ok-clause-made c =
    let disk = c.new.result in
    subst (λ disk. WasMade c.in-Ok.journal disk) c.new.ensures.value (record {
      read = disk;
      reads = record {
        same_size = refl;
        same_honest = refl;
        same_seen = refl;
        same_cuts = refl;
        images = λ _ image left. left;
        moments = λ _. record {
          later = omega arith;
          each = λ image left. now_only disk.base disk.calls image left;
          before = λ t image le left. inl left;
        };
      };
      creates = c.in-Ok.ensures.created;
      moments = c.in-Ok.ensures.moments;
    })

pub returns-in-Err-default-NotBlank-clause-refused : goal.returns-in-Err-default-NotBlank-clause-refused
returns-in-Err-default-NotBlank-clause-refused c = λ setup.
    refused_alien setup c.args.part.items c.in-Err-default-NotBlank.field-0-1-0 _ _ c.in-Err-default-NotBlank.field-0-1
    c.in-Err-default-NotBlank.field-0-1-is c.requires c.in-Err-default-NotBlank.ensures.refused
    (ap (λ disk. length (bytes_of disk)) c.new.ensures.value) (ap (λ disk. Some (bytes_of disk)) c.new.ensures.value)

pub returns-in-Ok-clause-sure : goal.returns-in-Ok-clause-sure
returns-in-Ok-clause-sure c = c.in-Ok.ensures.sure c.new.ensures.ready
