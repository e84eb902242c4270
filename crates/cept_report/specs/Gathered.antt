-- A text of which the last part is gathered and not yet put. This project's own.
use Rattle.std.specs.Prelude.{◌≡◌, ℕ, List, ◌++◌, Result, OnOk, OnErr}
use Rattle.cept_outside.specs.Causes.{HasCause}
use Rattle.cept_outside.specs.SinkState.{SinkState, Gains, GainsPart}

-- the front of a text was put, and the rest is gathered
pub record GainsFront (old : SinkState) (text : List ℕ) (new : SinkState) (rest : List ℕ) : Type 0 where
  pub front : List ℕ
  pub gains : Gains old front new
  pub is : front ++ rest ≡ text

-- to what was gathered before a text comes: after a success the front of both was put, and the rest is gathered;
-- after a failure a part of both was put, and the failure has a cause
pub record Gathers {X E : Type 0} (old : SinkState) (before text : List ℕ) (result : Result X E) (new : SinkState)
    (rest : List ℕ) : Type 0 where
  pub whole : OnOk result (GainsFront old (before ++ text) new rest)
  pub part : OnErr result (GainsPart old (before ++ text) new)
  pub cause : HasCause old.faults new.faults result
