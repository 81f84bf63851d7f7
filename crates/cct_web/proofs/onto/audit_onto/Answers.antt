use Rattle.std.proofs.Common.{None, Some, ap, arith, refl, subst, take}
use Rattle.cct_edge.specs.Faults.{Rose}
use Rattle.cct_bench.specs.Audit.{AuditRan}
use Rattle.cct_edge_slices.specs.Slices.{given_left, page_bytes, page_room, written_on}
use Rattle.cct_web.specs.Audits.{AreFront, AreLines, Audits}
use Rattle.cct_web.proofs.Pages.{audit_stays, audited_page}
use Rattle.cct_web.proofs.onto.audit_onto.Goals as goal

pub returns-clause-audited : goal.returns-clause-audited
unfolding Audits
returns-clause-audited c =
    let ran = c.audit_capture-status in
    let audited = ran.ensures.audited in record {
      status = ran.result.0;
      coded = refl;
      one = ran.ensures.other;
      left = given_left ran.new.script;
      ran = subst (λ bytes. AuditRan bytes ran.result.0 None (given_left ran.new.script) ⊥ (AreLines (written_on ran.new.out))
          (AreFront (page_room c.args.page.now) (written_on ran.new.out))) audited.1 (audited_page audited.0 ran.result.0 (Some ran.result.1)
          (given_left ran.new.script) c.args.page.now ran.new.out
          (ap (λ count. take count (page_bytes c.args.page.now)) c.requires) (omega (arith, c.requires)) audited.2);
    }

pub returns-clause-stays : goal.returns-clause-stays
returns-clause-stays c =
    let ran = c.audit_capture-status in
    let audited = ran.ensures.audited in
    audit_stays audited.0 ran.result.0 (Some ran.result.1) (given_left ran.new.script) (Rose 0 0) c.args.page.now ran.new.out
    audited.2
