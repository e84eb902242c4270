-- Units have one to seven bytes and at most four commands, each byte below 256 and each command valid, and so have all
-- units and the page.
use Rattle.std.proofs.Common.{◌≡◌, ℕ, zero, suc, ◌*◌, ◌<◌, ◌≤◌, List, [], ◌∷◌, ◌++◌, length, sym, ap, ◌∙◌, arith}
use Rattle.std.proofs.lemmas.Bool.Decides.{nat_tests}
use Rattle.std.proofs.lemmas.List.{length-append, length-map}
use Rattle.std.specs.List.{AllByRecursion}
use Rattle.cept_codes.specs.declared.item.Item.{Item}
use Rattle.cept_codes.specs.declared.item.Said.TheVariants.{Command as Says}
use Rattle.cept_codes.specs.Command.{IsValidCommand}
use Rattle.cept_parser.specs.Runs.{colour}
use Rattle.cept_parser.specs.Items.{closed_items}
use Rattle.cept_parser.specs.Valid.{AreBytes}
use Rattle.cept_generator.specs.Generated.{unit_bytes, unit_commands, state_after_unit, bytes_of_units}
use Rattle.cept_generator.specs.Generated.{commands_of_units, head_bytes, generated, generated_commands}
use Rattle.cept_generator.proofs.UnitsRead.{page_said}

-- what holds of each element of two lists
all-append : {A : Type 0} (P : A → Type 0) (a b : List A) → AllByRecursion P a → AllByRecursion P b
    → AllByRecursion P (a ++ b)
all-append P [] b h k = k
all-append P (x ∷ a) b h k = (h.0, all-append P a b h.1 k)

-- ---- bytes

pub unit_some : (s : ℕ) → 1 ≤ length (unit_bytes s)
unfolding unit_bytes
unit_some s = grind (arith, nat_tests)

unit_short : (s : ℕ) → length (unit_bytes s) ≤ 7
unfolding unit_bytes
unit_short s = grind (arith, nat_tests)

unit_small : (s : ℕ) → AreBytes (unit_bytes s)
unfolding unit_bytes
unit_small s = grind (arith, nat_tests)

units_length : (n s : ℕ) → length (bytes_of_units n s) ≤ 7 * n
unfolding bytes_of_units
units_length zero s = omega arith
units_length (suc n) s =
    let first = unit_short s in
    let others = units_length n (state_after_unit s) in
    omega (arith, length-append (unit_bytes s) (bytes_of_units n (state_after_unit s)))

units_bytes : (n s : ℕ) → AreBytes (bytes_of_units n s)
unfolding bytes_of_units
units_bytes zero s = tt
units_bytes (suc n) s =
    all-append (λ a. a < 256) (unit_bytes s) (bytes_of_units n (state_after_unit s)) (unit_small s)
    (units_bytes n (state_after_unit s))

pub page_length : (number : ℕ) → length (generated number) ≤ 140003
unfolding generated
page_length number =
    let units = units_length 20000 number in
    omega (arith, length-append head_bytes (bytes_of_units 20000 number))

pub page_bytes : (number : ℕ) → AreBytes (generated number)
unfolding generated
page_bytes number = (omega arith, (omega arith, (omega arith, units_bytes 20000 number)))

-- ---- commands

unit_few : (s : ℕ) → length (unit_commands s) ≤ 4
unfolding unit_commands
unit_few s = grind (arith, nat_tests)

unit_valid : (s : ℕ) → AllByRecursion IsValidCommand (unit_commands s)
unfolding unit_commands colour
unit_valid s = grind (arith, nat_tests)

commands_length : (n s : ℕ) → length (commands_of_units n s) ≤ 4 * n
unfolding commands_of_units
commands_length zero s = omega arith
commands_length (suc n) s =
    let first = unit_few s in
    let others = commands_length n (state_after_unit s) in
    omega (arith, length-append (unit_commands s) (commands_of_units n (state_after_unit s)))

commands_valid : (n s : ℕ) → AllByRecursion IsValidCommand (commands_of_units n s)
unfolding commands_of_units
commands_valid zero s = tt
commands_valid (suc n) s =
    all-append IsValidCommand (unit_commands s) (commands_of_units n (state_after_unit s)) (unit_valid s)
    (commands_valid n (state_after_unit s))

pub page_valid : (number : ℕ) → AllByRecursion IsValidCommand (generated_commands number)
unfolding generated_commands
page_valid number = (tt, commands_valid 20000 number)

-- there are as many items as commands
pub page_items : (number : ℕ) → length (closed_items (generated number)) ≤ 80001
unfolding generated_commands
page_items number =
    let said : length (closed_items (generated number)) ≡ length (generated_commands number) =
    sym (length-map (closed_items (generated number)) (λ (i : Item). i.what)) ∙ ap length (page_said number)
    ∙ length-map (generated_commands number) (λ c. Says c) in
    let units = commands_length 20000 number in
    omega arith
