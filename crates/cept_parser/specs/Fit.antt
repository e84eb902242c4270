-- What the functions of the tables answer (this project's own). No public clause cites this file.
use Rattle.std.specs.Prelude.{ℕ, Bool, true, false, ◌&&◌, List, [], ◌∷◌, nat_lt, if◌then◌else◌, Option, Some, None}
use Rattle.cept_codes.specs.declared.item.Said.{Said}
use Rattle.cept_drcs.specs.Unit.{is_pattern}
use Rattle.cept_parser.specs.declared.context.Context.{Context}
use Rattle.cept_parser.specs.declared.context.Outcome.{Outcome}
use Rattle.cept_parser.specs.declared.fit.Fit.{Fit}
use Rattle.cept_parser.specs.declared.fit.Fit.TheVariants.{Misfit, Open, Whole, Longer}
use Rattle.cept_parser.specs.Bytes.{Standing}
use Rattle.cept_parser.specs.Grammar.{unit, fits, grows}

-- the word for bytes that fit or not, grow or not, and wholly are this
abbrev pub fit_by : Bool → Bool → Option Outcome → Fit
fit_by false more whole = Misfit
fit_by true more None = Open
fit_by true more (Some o) = if more then Longer else Whole

-- the same word, by what is read off the grammar
abbrev pub fit : Context → List ℕ → Fit
fit x u = fit_by (fits x u) (grows x u) (unit x u)

-- the bytes are closed: they are whole, and no more bytes fit or come
abbrev pub closes : Fit → Bool → Bool
closes Misfit ended = false
closes Open ended = false
closes Whole ended = true
closes Longer ended = ended

-- how bytes stand, and what is said and the context after them
pub record Answer : Type 0 where
  pub fit : Fit
  pub said : Said
  pub context : Context

-- the answer for bytes that stand so and end here or not: where they are closed, what they say and the context after
-- them, else what was said before and the context before
abbrev pub answer : Standing → Bool → Said → Context → Answer
answer s ended said x = record {
  fit = s.fit;
  said = if closes s.fit ended then s.outcome.said else said;
  context = if closes s.fit ended then s.outcome.next else x;
}

-- DrcsRun: a byte that begins a pattern for this code
abbrev pub starts_pattern : Context → ℕ → ℕ → Bool
starts_pattern x c a = nat_lt c 0x7F && is_pattern x.form (a ∷ [])
