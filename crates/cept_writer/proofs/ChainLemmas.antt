-- The chains of a list are its longest pieces in which each entry goes on from the one before it.
use Rattle.std.proofs.Common.{◌≡◌, ℕ, zero, suc, ◌+◌, Bool, true, false, cond, List, [], ◌∷◌, ◌++◌, refl, sym, ap, ◌∙◌}
use Rattle.std.proofs.Common.{subst, length, ◌≤◌, arith}
use Rattle.std.proofs.lemmas.List.{length-append}
use Rattle.std.proofs.lemmas.Grind.{flat_map-append}
use Rattle.std.specs.List.{AllByRecursion, flat_map, range_with_len}
use Rattle.cept_writer.specs.Chains.{AreLongest, Chain, GoOnFrom, alone, chains, chains_after}
use Rattle.cept_writer.specs.Chains.{longer, members}

-- what holds of all entries of lists holds of those of each
all_of_first : {X : Type 0} (P : X → Type 0) (a b : List X) → AllByRecursion P (a ++ b)
    → AllByRecursion P a × AllByRecursion P b
all_of_first P [] b all = (tt, all)
all_of_first P (x ∷ a) b all = let more = all_of_first P a b all.1 in ((all.0, more.0), more.1)

all_parts : {X : Type 0} (P : X → Type 0) (cs : List (Chain X)) → AllByRecursion P (flat_map members cs)
    → AllByRecursion (λ c. AllByRecursion P (members c)) cs
all_parts P [] all = tt
all_parts P (c ∷ cs) all =
    let both = all_of_first P (members c) (flat_map members cs) all in
    (both.0, all_parts P cs both.1)

-- any pieces of the entries of a list, by its numbers
pub pieces_by_number : {X Y : Type 0} (f : ℕ → List X) (of_entry : X → List Y) (g : ℕ → List Y)
    → ((i : ℕ) → flat_map of_entry (f i) ≡ g i) → (from n : ℕ)
    → flat_map of_entry (flat_map f (range_with_len from n)) ≡ flat_map g (range_with_len from n)
pieces_by_number f of_entry g same from zero = refl
pieces_by_number f of_entry g same from (suc n) =
    flat_map-append of_entry (f from) (flat_map f (range_with_len (from + 1) n))
    ∙ ap (λ l. l ++ flat_map of_entry (flat_map f (range_with_len (from + 1) n))) (same from)
    ∙ ap (λ l. g from ++ l) (pieces_by_number f of_entry g same (from + 1) n)

module _ {X : Type 0} (goes_on : X → X → Bool) where
  joined_after : (x : X) (cs : List (Chain X)) → flat_map members (chains_after goes_on x cs) ≡ x ∷ flat_map members cs
  joined_after x [] = refl
  joined_after x (c ∷ rest) = by_test (goes_on x c.first) where
    by_test : (on : Bool) → flat_map members (cond on (longer x c ∷ rest) (alone x ∷ (c ∷ rest)))
        ≡ x ∷ flat_map members (c ∷ rest)
    by_test true = refl
    by_test false = refl

  -- one after the other they are the list
  pub chains_joined : (list : List X) → flat_map members (chains goes_on list) ≡ list
  unfolding chains
  chains_joined [] = refl
  chains_joined (x ∷ more) =
      joined_after x (chains goes_on more) ∙ ap (λ l. x ∷ l) (chains_joined more)

  longest_after : (x : X) (cs : List (Chain X)) → AreLongest goes_on cs → AreLongest goes_on (chains_after goes_on x cs)
  longest_after x [] are = (tt, tt, tt)
  longest_after x (c ∷ rest) are = by_test (goes_on x c.first) refl where
    by_test : (on : Bool) → goes_on x c.first ≡ on
        → AreLongest goes_on (cond on (longer x c ∷ rest) (alone x ∷ (c ∷ rest)))
    by_test true e = ((e, are.0), are.1, are.2)
    by_test false e = (tt, e, are)

  -- none can be longer
  pub chains_longest : (list : List X) → AreLongest goes_on (chains goes_on list)
  unfolding chains
  chains_longest [] = tt
  chains_longest (x ∷ more) = longest_after x (chains goes_on more) (chains_longest more)

  linked_of : (cs : List (Chain X)) → AreLongest goes_on cs
      → AllByRecursion (λ c. GoOnFrom goes_on c.first c.more) cs
  linked_of [] are = tt
  linked_of (c ∷ rest) are = (are.0, linked_of rest are.2)

  -- within each chain each entry goes on from the one before
  pub chains_linked : (list : List X) → AllByRecursion (λ c. GoOnFrom goes_on c.first c.more) (chains goes_on list)
  chains_linked list = linked_of (chains goes_on list) (chains_longest list)

  -- what holds of each entry holds of each within the chains
  pub all_in_chains : (P : X → Type 0) (list : List X) → AllByRecursion P list
      → AllByRecursion (λ c. AllByRecursion P (members c)) (chains goes_on list)
  all_in_chains P list all =
      all_parts P (chains goes_on list) (subst (AllByRecursion P) (sym (chains_joined list)) all)

  -- what holds of all chains of which each entry goes on from the one before
  pub each_chain : (P : X → Type 0) (Q : Chain X → Type 0)
      → ((c : Chain X) → GoOnFrom goes_on c.first c.more → AllByRecursion P (members c) → Q c)
      → (list : List X) → AllByRecursion P list → AllByRecursion Q (chains goes_on list)
  each_chain P Q holds list all =
      each_of (chains goes_on list) (chains_linked list) (all_in_chains P list all) where
        each_of : (cs : List (Chain X)) → AllByRecursion (λ c. GoOnFrom goes_on c.first c.more) cs
            → AllByRecursion (λ c. AllByRecursion P (members c)) cs → AllByRecursion Q cs
        each_of [] a b = tt
        each_of (c ∷ cs) a b = (holds c a.0 b.0, each_of cs a.1 b.1)

  within_all : (cs : List (Chain X)) (n : ℕ) → length (flat_map members cs) ≤ n
      → AllByRecursion (λ c. length (members c) ≤ n) cs
  within_all [] n few = tt
  within_all (c ∷ cs) n few =
      let both = length-append (members c) (flat_map members cs) in
      (omega (arith, few, both), within_all cs n (omega (arith, few, both)))

  -- the same, where a chain is known to be no longer than the list
  pub each_short_chain : (P : X → Type 0) (Q : Chain X → Type 0) (n : ℕ)
      → ((c : Chain X) → GoOnFrom goes_on c.first c.more → AllByRecursion P (members c) → length (members c) ≤ n → Q c)
      → (list : List X) → AllByRecursion P list → length list ≤ n → AllByRecursion Q (chains goes_on list)
  each_short_chain P Q n holds list all few =
      let same = ap length (chains_joined list) in
      each_of (chains goes_on list) (chains_linked list) (all_in_chains P list all)
      (within_all (chains goes_on list) n (omega (arith, few, same))) where
        each_of : (cs : List (Chain X)) → AllByRecursion (λ c. GoOnFrom goes_on c.first c.more) cs
            → AllByRecursion (λ c. AllByRecursion P (members c)) cs → AllByRecursion (λ c. length (members c) ≤ n) cs
            → AllByRecursion Q cs
        each_of [] a b d = tt
        each_of (c ∷ cs) a b d = (holds c a.0 b.0 d.0, each_of cs a.1 b.1 d.1)
