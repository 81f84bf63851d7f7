-- How many of the calls that never fail a run of calls takes.
use Rattle.std.proofs.Common.{◌≡◌, ◌+◌, ◌≤◌, ℕ, List, refl, ◌∙◌, arith}
use Rattle.cct_disk.specs.Disk.{IsReady, Spares, Spends, Takes, sure_bytes, sure_calls}

module _ {D : Type 0} {below : D → List ℕ} {spent : D → ℕ → ℕ → Type 0} where
  -- no call
  pub takes_none : (calls bytes : ℕ) (disk : D) → Takes below spent calls bytes disk disk
  takes_none calls bytes disk = record {
    same_below = refl;
    spares = λ more many spares. record {
      taken = spares.taken;
      written = spares.written;
      is_spent = spares.is_spent;
      few = omega (arith, spares.few);
      short = omega (arith, spares.short);
    };
  }

  -- one call
  pub takes_one : {old new : D} (bytes : ℕ) → below new ≡ below old → Spends spent bytes old new
      → Takes below spent 1 bytes old new
  takes_one bytes same spends = record {
    same_below = same;
    spares = λ more many spares. record {
      taken = spares.taken + 1;
      written = spares.written + bytes;
      is_spent = spends spares.taken spares.written spares.is_spent (omega (arith, spares.few)) (omega (arith, spares.short));
      few = omega (arith, spares.few);
      short = omega (arith, spares.short);
    };
  }

  -- so many, and no more
  pub takes_most : {old new : D} {calls bytes : ℕ} (most many_most : ℕ) → calls ≤ most → bytes ≤ many_most
      → Takes below spent calls bytes old new → Takes below spent most many_most old new
  takes_most most many_most few short takes = record {
    same_below = takes.same_below;
    spares = λ more many spares. takes.spares more many (record {
      taken = spares.taken;
      written = spares.written;
      is_spent = spares.is_spent;
      few = omega (arith, spares.few, few);
      short = omega (arith, spares.short, short);
    });
  }

  -- one run after another
  pub takes_then : {old mid new : D} {calls bytes further behind : ℕ} → Takes below spent calls bytes old mid
      → Takes below spent further behind mid new → Takes below spent (calls + further) (bytes + behind) old new
  takes_then {old} {mid} {new} {calls} {bytes} {further} {behind} first second = record {
    same_below = second.same_below ∙ first.same_below;
    spares = λ more many spares. second.spares more many (first.spares (further + more) (behind + many) (record {
      taken = spares.taken;
      written = spares.written;
      is_spent = spares.is_spent;
      few = omega (arith, spares.few);
      short = omega (arith, spares.short);
    }));
  }

  -- and on a disk that was ready none has failed
  pub takes_sure : {faults : D → ℕ} {old new : D} {calls bytes : ℕ}
      → ((disk : D) (taken written : ℕ) → spent disk taken written → faults disk ≡ 0) → calls ≤ sure_calls
      → bytes ≤ sure_bytes → Takes below spent calls bytes old new → IsReady spent old → faults new ≡ 0
  takes_sure {faults} {old} {new} {calls} {bytes} unfailed few short takes ready =
      let left = takes.spares 0 0 (record {
        taken = 0;
        written = 0;
        is_spent = ready;
        few = omega (arith, few);
        short = omega (arith, short);
      }) in
      unfailed new left.taken left.written left.is_spent
