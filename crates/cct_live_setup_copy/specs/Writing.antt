-- What writing a text does to a sink.
use Rattle.std.specs.Prelude.{ℕ, List, Option, Result, IsErr, OnErr, OnOk}
use Rattle.std.specs.Io.KnownBytes.{Appends}
use Rattle.cct_edge.specs.Bytes.{AppendsFront, Serves}
use Rattle.cct_edge.specs.declared.fault.Failed.{Failed}

-- A text was written whole, or a front of it where a put failed, and nothing else was.
pub record WritesText {K : Type 0} (written : K → Option (List ℕ)) (faults : K → ℕ) (text : List ℕ)
    (old : K)
    (result : Result (Unit {0}) Failed) (new : K) : Type 0 where
  pub ok : OnOk result (Appends (written old) (written new) text)
  pub err : OnErr result (AppendsFront (written old) (written new) text)
  pub serves : Serves written faults old new (IsErr result)
