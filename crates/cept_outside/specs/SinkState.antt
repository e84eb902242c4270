-- A sink: bytes are put at its end, and flushed. This project's own.
use Rattle.std.specs.Prelude.{◌≡◌, ℕ, ◌+◌, ◌-◌, ◌^◌, ◌<◌, ◌≤◌, min, Bool, true, false, List, [], take, length, Option, Some}
use Rattle.std.specs.Prelude.{Result, OnOk, OnErr, IfOk, IsOk}
use Rattle.std.specs.Io.KnownBytes.{append_known}
use Rattle.std.specs.Option.{option_map}
use Rattle.cept_outside.specs.Causes.{HasCause}

-- what a sink means
pub record SinkState : Type 0 where
  -- the bytes put, where they are told
  pub bytes : Option (List ℕ)
  -- how many were put, up to the greatest u64, where that is told
  pub count : Option ℕ
  -- how many it holds at most, where that is told: a number that stays
  pub room : Option ℕ
  -- bytes were put since the last flush that succeeded
  pub unflushed : Bool
  -- how many flushes succeeded, up to the greatest u64
  pub flushes : ℕ
  -- no flush fails: a fact that stays
  pub always_flushes : Bool
  -- the count of faults, which never falls: no call fails where it doesn't rise
  pub faults : ℕ

-- a sink with so much room into which nothing was put, and of which no flush fails
abbrev pub empty_sink : ℕ → SinkState
empty_sink room = record {
  bytes = Some [];
  count = Some 0;
  room = Some room;
  unflushed = false;
  flushes = 0;
  always_flushes = true;
  faults = 0;
}

-- a count after so many more bytes, where it is told: it stands still at the greatest u64
abbrev pub count_after : Option ℕ → ℕ → Option ℕ
count_after count more = option_map (λ n. n + min more (2 ^ 64 - 1 - n)) count

-- a count of flushes after one more: it stands still at the greatest u64
abbrev pub one_more : ℕ → ℕ
one_more flushes = min (flushes + 1) (2 ^ 64 - 1)

-- the front of the piece is appended, at least a byte; a failure appends nothing
pub record Puts {E : Type 0} (old : SinkState) (piece : List ℕ) (result : Result ℕ E) (new : SinkState) : Type 0 where
  pub some : IfOk result (λ n. 1 ≤ n)
  pub within : IfOk result (λ n. n ≤ length piece)
  pub appended : IfOk result (λ n. new.bytes ≡ append_known old.bytes (take n piece))
  pub counted : IfOk result (λ n. new.count ≡ count_after old.count n)
  pub room : new.room ≡ old.room
  pub flushes : new.flushes ≡ old.flushes
  pub always : new.always_flushes ≡ old.always_flushes
  pub unflushed : OnOk result (new.unflushed ≡ true)
  pub failed : OnErr result ((new.bytes ≡ old.bytes) × (new.count ≡ old.count) × (new.unflushed ≡ old.unflushed))

-- nothing is appended, and after a success, which is counted, nothing is unflushed
pub record Flushes {X E : Type 0} (old : SinkState) (result : Result X E) (new : SinkState) : Type 0 where
  pub bytes : new.bytes ≡ old.bytes
  pub count : new.count ≡ old.count
  pub room : new.room ≡ old.room
  pub always : new.always_flushes ≡ old.always_flushes
  pub sure : old.always_flushes ≡ true → IsOk result
  pub flushed : OnOk result ((new.unflushed ≡ false) × (new.flushes ≡ one_more old.flushes))
  pub failed : OnErr result ((new.unflushed ≡ old.unflushed) × (new.flushes ≡ old.flushes))

-- these bytes were put, in one call or several, and nothing was flushed; unflushed stays where there are none
pub record Gains (old : SinkState) (part : List ℕ) (new : SinkState) : Type 0 where
  pub bytes : new.bytes ≡ append_known old.bytes part
  pub counted : new.count ≡ count_after old.count (length part)
  pub room : new.room ≡ old.room
  pub flushes : new.flushes ≡ old.flushes
  pub always : new.always_flushes ≡ old.always_flushes
  pub unflushed : 0 < length part → new.unflushed ≡ true
  pub unflushed_stays : part ≡ [] → new.unflushed ≡ old.unflushed

-- some bytes were put, in one call or several, whichever they are
pub record HasPut (old new : SinkState) : Type 0 where
  pub part : List ℕ
  pub gains : Gains old part new

-- a part of a text was put, from its front on, and not the whole
pub record GainsPart (old : SinkState) (text : List ℕ) (new : SinkState) : Type 0 where
  pub size : ℕ
  pub short : size < length text
  pub gains : Gains old (take size text) new

-- a text was put: the whole of it after a success; after a failure a part, and the failure has a cause
pub record PutsText {X E : Type 0} (old : SinkState) (text : List ℕ) (result : Result X E) (new : SinkState) : Type 0
  where
    pub whole : OnOk result (Gains old text new)
    pub part : OnErr result (GainsPart old text new)
    pub cause : HasCause old.faults new.faults result
