-- One text is written after another.
use Rattle.std.proofs.Common.{◌≡◌, ℕ, List, ◌++◌, Option, append_assoc, ◌∙◌, arith, sym, subst}
use Rattle.std.specs.Prelude.{Result, Ok, Err}
use Rattle.cct_edge.specs.Bytes.{AppendsFront, Serves}
use Rattle.cct_edge.specs.declared.fault.Failed.{Failed}
use Rattle.cct_edge.proofs.Chains.{Appends-trans, Appends-then_front, Rose-earlier}
use Rattle.cct_live_setup_copy.specs.Writing.{WritesText}

-- a front of a text is one of it and what follows
pub front_more : (a b : Option (List ℕ)) (xs ys : List ℕ) → AppendsFront a b xs → AppendsFront a b (xs ++ ys)
front_more a b xs ys h = (h.0, h.1 ++ ys, rw h.2 (append_assoc h.0 h.1 ys), h.3)

-- a source or a sink has served over two calls
serves_on : {K : Type 0} (written : K → Option (List ℕ)) (faults : K → ℕ) (a b c : K) (F G : Type 0) → Serves written faults a b F
    → Serves written faults b c G → Serves written faults a c G
serves_on written faults a b c F G h k = record {
  tells = k.tells ∙ h.tells;
  later = omega (arith, h.later, k.later);
  rose = λ g. Rose-earlier (faults a) (faults b) (faults c) h.later (k.rose g);
}

-- a put failed within the first of two texts
pub first_failed : {K : Type 0} (written : K → Option (List ℕ)) (faults : K → ℕ) (xs ys : List ℕ) (a b : K) (why : Failed)
    → WritesText written faults xs a (Err why) b → WritesText written faults (xs ++ ys) a (Err why) b
first_failed written faults xs ys a b why h = record {
  ok = tt;
  err = front_more (written a) (written b) xs ys h.err;
  serves = h.serves;
}

-- two texts were written, or the second broke off
pub both_written : {K : Type 0} (written : K → Option (List ℕ)) (faults : K → ℕ) (xs ys : List ℕ) (a b c : K)
    (r : Result (Unit {0}) Failed) → WritesText written faults xs a (Ok tt) b → WritesText written faults ys b r c
    → WritesText written faults (xs ++ ys) a r c
both_written written faults xs ys a b c (Ok u) h k = record {
  ok = Appends-trans (written a) (written b) (written c) xs ys h.ok k.ok;
  err = tt;
  serves = serves_on written faults a b c _ _ h.serves k.serves;
}
both_written written faults xs ys a b c (Err why) h k = record {
  ok = tt;
  err = Appends-then_front (written a) (written b) (written c) xs ys h.ok k.err;
  serves = serves_on written faults a b c _ _ h.serves k.serves;
}

-- one text is another
pub written_as : {K : Type 0} (written : K → Option (List ℕ)) (faults : K → ℕ) (text other : List ℕ) (a b : K)
    (r : Result (Unit {0}) Failed) → text ≡ other → WritesText written faults other a r b → WritesText written faults text a r b
written_as written faults text other a b r e h = let P : List ℕ → Type 0 = λ t. WritesText written faults t a r b in subst P (sym e) h
