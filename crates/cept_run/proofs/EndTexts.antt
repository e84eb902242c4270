-- The text at the end, by what is asked for.
use Rattle.std.proofs.Common.{◌≡◌, ℕ, Bool, true, false, cond, List, Some, None, length, Result, refl, sym}
use Rattle.std.proofs.Common.{◌∙◌, ap, subst}
use Rattle.std.proofs.lemmas.Option.{none-some, same_Some}
use Rattle.cept_codes.specs.declared.command.Command.{Command}
use Rattle.cept_codes.specs.declared.look.Look.{Look}
use Rattle.cept_outside.specs.SinkState.{SinkState, PutsText}
use Rattle.cept_parser.specs.Items.{closed_items}
use Rattle.cept_profile.specs.State.{State, state}
use Rattle.cept_run.specs.declared.words.ReportOptions.{ReportOptions}
use Rattle.cept_run.specs.declared.words.End.{End}
use Rattle.cept_run.specs.Events.{counts_text, end_text, painted_end, refused_count}
use Rattle.cept_run.specs.Reporting.{Plan, ReporterState, StandsAtEnd, remaining_at_end, screen_of}
use Rattle.cept_run.specs.Words.{is_painted}

-- the end that is asked for is this one
pub end_as : {X E : Type 0} (one other : End) (options : ReportOptions) (shown : List (List Look)) (page : List ℕ)
    (commands : List Command) (s t : SinkState) (result : Result X E) → one ≡ other
    → PutsText s (painted_end one options shown page commands) result t
    → PutsText s (painted_end other options shown page commands) result t
end_as one other options shown page commands s t result is puts =
    subst (λ (e : End). PutsText s (painted_end e options shown page commands) result t) is puts

-- the text at the end of a page that was painted, and of one that wasn't
pub painted_by : (options : ReportOptions) (shown : List (List Look)) (page : List ℕ) (commands : List Command)
    → is_painted options.way ≡ true
    → end_text options shown page commands ≡ painted_end options.end options shown page commands
painted_by options shown page commands is =
    ap (λ b. cond b (painted_end options.end options shown page commands)
    (counts_text options.way (length (closed_items page)) (refused_count (closed_items page)))) is

counted_by : (options : ReportOptions) (shown : List (List Look)) (page : List ℕ) (commands : List Command)
    → is_painted options.way ≡ false
    → end_text options shown page commands
    ≡ counts_text options.way (length (closed_items page)) (refused_count (closed_items page))
counted_by options shown page commands is =
    ap (λ b. cond b (painted_end options.end options shown page commands)
    (counts_text options.way (length (closed_items page)) (refused_count (closed_items page)))) is

module _ (plan : Plan) (reporter : ReporterState) (page : List ℕ)
    (stands : StandsAtEnd plan reporter (closed_items page)) where
  abbrev all : List Command
  all = remaining_at_end plan (closed_items page)

  -- there is a screen where commands are painted
  pub screen_is : (screen : State) → Some screen ≡ screen_of reporter.target
      → (is_painted plan.options.way ≡ true) × (screen ≡ state all)
  screen_is screen is = by_flag (is_painted plan.options.way) refl (is ∙ stands.screen)
    where
      by_flag : (b : Bool) → is_painted plan.options.way ≡ b → Some screen ≡ cond b (Some (state all)) None
          → (is_painted plan.options.way ≡ true) × (screen ≡ state all)
      by_flag true p e = (p, same_Some screen (state all) e)
      by_flag false p e = absurd (none-some screen (sym e))

  pub no_screen : None ≡ screen_of reporter.target → is_painted plan.options.way ≡ false
  no_screen is = by_flag (is_painted plan.options.way) (is ∙ stands.screen)
    where
      by_flag : (b : Bool) → None ≡ cond b (Some (state all)) None → b ≡ false
      by_flag true e = absurd (none-some (state all) e)
      by_flag false e = refl

  -- so the text at the end is one or the other
  pub painted_text : {X E : Type 0} (shown : List (List Look)) (s t : SinkState) (result : Result X E)
      → is_painted plan.options.way ≡ true → PutsText s (painted_end plan.options.end plan.options shown page all) result t
      → PutsText s (end_text plan.options shown page all) result t
  painted_text shown s t result is puts =
      subst (λ (text : List ℕ). PutsText s text result t)
      (sym (painted_by plan.options shown page all is)) puts

  pub counted_text : {X E : Type 0} (shown : List (List Look)) (s t : SinkState) (result : Result X E)
      → is_painted plan.options.way ≡ false
      → PutsText s (counts_text reporter.options.way reporter.items reporter.refused) result t
      → PutsText s (end_text plan.options shown page all) result t
  counted_text shown s t result is puts =
      subst (λ (text : List ℕ). PutsText s text result t)
      (sym (counted_by plan.options shown page all is))
      (subst (λ (a : ReportOptions). PutsText s (counts_text a.way (length (closed_items page)) (refused_count (closed_items page)))
      result t) stands.options_are
      (subst (λ n. PutsText s (counts_text reporter.options.way n (refused_count (closed_items page))) result t) stands.items
      (subst (λ n. PutsText s (counts_text reporter.options.way reporter.items n) result t) stands.refused puts)))
