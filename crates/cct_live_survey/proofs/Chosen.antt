-- One of two things by a test.
use Rattle.std.proofs.Common.{◌≡◌, Some, None, Bool, true, false, Option, ap, sym, if◌then◌else◌}

pub chosen : {A : Type 0} (x : A) {test : Bool} → test ≡ true → Some x ≡ (if test then Some x else None)
chosen x held = ap (λ t. if t then Some x else None) (sym held)

pub unchosen : {A : Type 0} (x : A) {test : Bool} → test ≡ false → None ≡ (if test then Some x else None)
unchosen x held = ap (λ t. if t then Some x else None) (sym held)
