-- Services: which commands are left out of a history with closed services.
use Rattle.std.proofs.Common.{◌≡◌, ℕ, true, false, List, [], ◌∷◌, ◌++◌, reverse, refl, sym, ◌∙◌, ap, append_assoc}
use Rattle.std.proofs.lemmas.Bool.{cond-true, cond-false, false≢true}
use Rattle.std.proofs.lemmas.List.{reverse-append}
use Rattle.std.specs.List.{AllByRecursion}
use Rattle.cept_codes.specs.declared.command.Command.{Command}
use Rattle.cept_codes.specs.declared.command.Command.TheVariants as commands
use Rattle.cept_profile.specs.ControlSettings.{ends_service, is_running, outer_back, before_service, outer_history}
use Rattle.cept_profile.proofs.OneMoreCommand.{reverse-one_more}
use Rattle.cept_profile.proofs.OneMoreState.{AllByRecursion-reverse}

-- nothing among these commands ends a service
abbrev GoesOn : List Command → Type 0
GoesOn commands = AllByRecursion (λ command. ends_service command ≡ false) commands

-- a service that goes on runs
runs : (row : ℕ) (service before : List Command) → GoesOn service
    → is_running (service ++ commands.ServiceBreak row ∷ before) ≡ true
runs row [] before all = refl
runs row (commands.ServiceBreak other ∷ service) before all = refl
runs row (commands.ServiceEnd ∷ service) before all = absurd (false≢true (sym all.0))
runs row (commands.FullDefaults set ∷ service) before all = absurd (false≢true (sym all.0))
runs row (_ ∷ service) before all = runs row service before all.1

-- before it stands what stood before its break
skips : (row : ℕ) (service before : List Command) → GoesOn service → is_running before ≡ false
    → before_service (service ++ commands.ServiceBreak row ∷ before) ≡ outer_back before
skips row [] before all none = cond-false (is_running before) (before_service before) (outer_back before) none
skips row (commands.ServiceBreak other ∷ service) before all none =
    cond-true (is_running (service ++ commands.ServiceBreak row ∷ before))
    (before_service (service ++ commands.ServiceBreak row ∷ before))
    (outer_back (service ++ commands.ServiceBreak row ∷ before)) (runs row service before all.1)
    ∙ skips row service before all.1 none
skips row (_ ∷ service) before all none = skips row service before all.1 none

outer_back-closed : (row : ℕ) (service before : List Command) → GoesOn service → is_running before ≡ false
    → outer_back (commands.ServiceEnd ∷ (service ++ commands.ServiceBreak row ∷ before)) ≡ outer_back before
outer_back-closed row service before all none =
    let earlier = service ++ commands.ServiceBreak row ∷ before in
    cond-true (is_running earlier) (before_service earlier) (commands.ServiceEnd ∷ outer_back earlier)
    (runs row service before all)
    ∙ skips row service before all none

-- the newest command of a closed service comes first
reverse-service : (before service : List Command) (row : ℕ)
    → reverse (before ++ commands.ServiceBreak row ∷ (service ++ commands.ServiceEnd ∷ [])) ≡ commands.ServiceEnd
    ∷ (reverse service ++ commands.ServiceBreak row ∷ reverse before)
reverse-service before service row =
    reverse-append before (commands.ServiceBreak row ∷ (service ++ commands.ServiceEnd ∷ []))
    ∙ ap (λ (newest : List Command). newest ++ reverse before)
    (reverse-append (commands.ServiceBreak row ∷ []) (service ++ commands.ServiceEnd ∷ [])
    ∙ ap (λ (newest : List Command). newest ++ commands.ServiceBreak row ∷ [])
    (reverse-one_more service commands.ServiceEnd))
    ∙ ap (λ (rest : List Command). commands.ServiceEnd ∷ rest)
    (append_assoc (reverse service) (commands.ServiceBreak row ∷ []) (reverse before))

pub outer_history-closed : (before service : List Command) (row : ℕ) → is_running (reverse before) ≡ false
    → AllByRecursion (λ command. ends_service command ≡ false) service
    → outer_history (before ++ commands.ServiceBreak row ∷ (service ++ commands.ServiceEnd ∷ [])) ≡ outer_history before
outer_history-closed before service row none all =
    ap (λ (newest : List Command). reverse (outer_back newest)) (reverse-service before service row)
    ∙ ap (λ (newest : List Command). reverse newest)
    (outer_back-closed row (reverse service) (reverse before)
    (AllByRecursion-reverse (λ command. ends_service command ≡ false) service all) none)

-- a command that closes no service stays
outer_back-open : (command : Command) (earlier : List Command)
    → (command ≡ commands.ServiceEnd → is_running earlier ≡ false) → outer_back (command ∷ earlier)
    ≡ command ∷ outer_back earlier
outer_back-open commands.ServiceEnd earlier none =
    cond-false (is_running earlier) (before_service earlier) (commands.ServiceEnd ∷ outer_back earlier) (none refl)
outer_back-open _ earlier none = refl

pub outer_history-open : (history : List Command) (command : Command)
    → (command ≡ commands.ServiceEnd → is_running (reverse history) ≡ false) → outer_history (history ++ command ∷ [])
    ≡ outer_history history ++ command ∷ []
outer_history-open history command none =
    ap (λ (newest : List Command). reverse (outer_back newest)) (reverse-one_more history command)
    ∙ ap (λ (newest : List Command). reverse newest) (outer_back-open command (reverse history) none)
    ∙ reverse-append (command ∷ []) (outer_back (reverse history))
