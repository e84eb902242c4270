-- Chains (own): a list cut into its longest pieces in which each entry goes on from its neighbour before it.
use Rattle.std.specs.Prelude.{◌≡◌, Bool, true, false, List, [], ◌∷◌, if◌then◌else◌}

-- neighbours of a list: the first of them, and those after it
pub record Chain (X : Type 0) : Type 0 where
  pub first : X
  pub more : List X

-- all of them
abbrev pub members : {X : Type 0} → Chain X → List X
members c = c.first ∷ c.more

-- one entry alone
abbrev pub alone : {X : Type 0} → X → Chain X
alone x = record { first = x; more = [] }

-- one entry before a chain
abbrev pub longer : {X : Type 0} → X → Chain X → Chain X
longer x c = record { first = x; more = members c }

-- an entry before chains: it is the first of their first one where that goes on from it, else it stands alone
abbrev pub chains_after : {X : Type 0} → (X → X → Bool) → X → List (Chain X) → List (Chain X)
chains_after goes_on x [] = alone x ∷ []
chains_after goes_on x (c ∷ rest) = if goes_on x c.first then longer x c ∷ rest else alone x ∷ (c ∷ rest)

-- the chains of a list: cut between two neighbours exactly where the second doesn't go on from the first
unfoldable pub chains : {X : Type 0} → (X → X → Bool) → List X → List (Chain X)
chains goes_on [] = []
chains goes_on (x ∷ more) = chains_after goes_on x (chains goes_on more)

-- ---- what chains are

-- each of these goes on from the one before, the first of them from x
abbrev pub GoOnFrom : {X : Type 0} → (X → X → Bool) → X → List X → Type 0
GoOnFrom goes_on x [] = Unit {0}
GoOnFrom goes_on x (y ∷ more) = (goes_on x y ≡ true) × GoOnFrom goes_on y more

-- the last of them, x where there is none
abbrev pub last_from : {X : Type 0} → X → List X → X
last_from x [] = x
last_from x (y ∷ more) = last_from y more

-- the first of these chains, if there is one, doesn't go on from x
abbrev pub IsCutAfter : {X : Type 0} → (X → X → Bool) → X → List (Chain X) → Type 0
IsCutAfter goes_on x [] = Unit {0}
IsCutAfter goes_on x (c ∷ rest) = goes_on x c.first ≡ false

-- within each chain each entry goes on from the one before, and no chain goes on from the last entry before it
abbrev pub AreLongest : {X : Type 0} → (X → X → Bool) → List (Chain X) → Type 0
AreLongest goes_on [] = Unit {0}
AreLongest goes_on (c ∷ rest) =
    GoOnFrom goes_on c.first c.more × IsCutAfter goes_on (last_from c.first c.more) rest × AreLongest goes_on rest
