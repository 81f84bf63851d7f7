-- What a half that begins with a generation, a base and a carry says.
use Rattle.std.proofs.Common.{◌≡◌, inr, ℕ, ◌≤◌, Bool, List, cond, ◌∙◌, ap, arith}
use Rattle.std.proofs.lemmas.Bool.{ne_eqb}
use Rattle.cct_model_lines.specs.declared.carry.Carry.{Carry}
use Rattle.cct_record.specs.CarryBody.{bodies_of}
use Rattle.cct_journal.specs.Half.{IsOpen, generation_in, turns_in, version_in}
use Rattle.cct_journal.specs.Start.{Begins}
use Rattle.cct_journal.proofs.Heads.{begun_tells, begun_title, begun_version}

-- In every version but the first one the number in the header is the generation.
pub generation_by : (bytes : List ℕ) (version : ℕ) → version_in bytes ≡ version → 2 ≤ version
    → generation_in bytes ≡ turns_in bytes
generation_by bytes version is later =
    ap (λ b. cond b 0 (turns_in bytes)) (ne_eqb (version_in bytes) 1 (λ one. absurd (omega (arith, is, later, one))))

-- It is open.
pub begins_open : {second : Bool} {generation base : ℕ} {carry : Carry} (bytes : List ℕ)
    → Begins second generation base carry bytes → IsOpen second bytes
begins_open {second} {generation} {base} {carry} bytes begins = record {
  titled = begun_title 3 generation base (bodies_of carry) bytes begins.starts;
  version_is = inr (inr (begun_version 3 generation base (bodies_of carry) bytes begins.starts));
}

-- It says its generation.
pub begins_tells : {second : Bool} {generation base : ℕ} {carry : Carry} (bytes : List ℕ)
    → Begins second generation base carry bytes → generation_in bytes ≡ generation
begins_tells {second} {generation} {base} {carry} bytes begins =
    generation_by bytes 3 (begun_version 3 generation base (bodies_of carry) bytes begins.starts) (omega arith)
    ∙ begun_tells 3 generation base (bodies_of carry) bytes begins.starts begins.may.generation_fits
