-- Worked tables: the number of each status, and which of them mean what, by computing.
use Rattle.std.proofs.Common.{◌≡◌, List, [], ◌∷◌, map, Bool, true, false, Ok, Err, refl}
use Rattle.std.specs.Prelude.{Result}
use Rattle.cept_run.specs.declared.page.Stop.{Stop}
use Rattle.cept_run.specs.declared.page.Stop.TheVariants as stops
use Rattle.cept_run.specs.declared.run.Status.{Status}
use Rattle.cept_run.specs.declared.run.Status.TheVariants.{Done, NoMemory, NotSeven, ReadFault, Refusals, Script}
use Rattle.cept_run.specs.declared.run.Status.TheVariants.{TooLong, Usage, WriteFault}
use Rattle.cept_run.specs.Run.{status_at_end, status_number}

-- all statuses, in the order of their numbers
abbrev statuses : List Status
statuses = Done ∷ Refusals ∷ Usage ∷ Script ∷ ReadFault ∷ WriteFault ∷ NoMemory ∷ TooLong ∷ NotSeven ∷ []

numbers : map status_number statuses ≡ 0 ∷ 1 ∷ 2 ∷ 3 ∷ 4 ∷ 5 ∷ 6 ∷ 7 ∷ 8 ∷ []
numbers = refl

-- a page was read without a refused item and with one; or the run stopped
ends : map (λ (answer : Result Bool Stop). status_at_end answer)
    (Ok false ∷ Ok true ∷ Err stops.Script ∷ Err stops.ReadFault ∷ Err stops.WriteFault ∷ Err stops.NoMemory
    ∷ Err stops.TooLong ∷ Err stops.NotSeven ∷ [])
    ≡ Done ∷ Refusals ∷ Script ∷ ReadFault ∷ WriteFault ∷ NoMemory ∷ TooLong ∷ NotSeven ∷ []
ends = refl
