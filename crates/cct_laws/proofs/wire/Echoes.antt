-- What follows the host's own echo in what it heard.
use Rattle.std.proofs.Common.{◌≡◌, ℕ, ◌==◌, Bool, true, false, cond, List, [], ◌∷◌, ◌++◌, refl, sym, Some, None, eq-eqb, eqb-true}
use Rattle.cct_model.specs.Exchange.{after_echo}
use Rattle.cct_laws.proofs.setups.DeviceAt.{same_some}

-- the host's own echo is taken off
pub echo_off : (sent rest : List ℕ) → after_echo sent (sent ++ rest) ≡ Some rest
unfolding after_echo
echo_off [] rest = refl
echo_off (byte ∷ sent) rest = rw (eq-eqb byte byte refl) (echo_off sent rest)

echo_by : (same : Bool) (s h : ℕ) (sent heard rest : List ℕ) → (s == h) ≡ same →
    (after_echo sent heard ≡ Some rest → heard ≡ sent ++ rest) → cond same (after_echo sent heard) None ≡ Some rest →
    h ∷ heard ≡ s ∷ sent ++ rest
echo_by true s h sent heard rest test later e =
    let first : h ≡ s = sym (eqb-true s h test) in
    let others : heard ≡ sent ++ rest = later e in
    cc
echo_by false s h sent heard rest test later e = absurd cc

-- where it is found, the rest is after it
pub echo_known : (sent heard rest : List ℕ) → after_echo sent heard ≡ Some rest → heard ≡ sent ++ rest
unfolding after_echo
echo_known [] heard rest e = same_some heard rest e
echo_known (s ∷ sent) [] rest e = absurd cc
echo_known (s ∷ sent) (h ∷ heard) rest e = echo_by (s == h) s h sent heard rest refl (echo_known sent heard rest) e
