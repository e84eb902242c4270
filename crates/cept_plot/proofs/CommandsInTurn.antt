-- The commands of a drawing: those of one number more.
use Rattle.std.proofs.Common.{◌≡◌, ℕ, zero, suc, ◌+◌, ◌/◌, ◌%◌, Bool, List, [], ◌++◌}
use Rattle.std.proofs.Common.{flat_map, refl, sym, ap, ◌∙◌, append_assoc, arith}
use Rattle.std.proofs.lemmas.List.{append-nil}
use Rattle.std.specs.List.{range_with_len}
use Rattle.cept_codes.specs.declared.command.Command.{Command}
use Rattle.cept_profile.specs.State.{Core}
use Rattle.cept_plot.specs.Commands.{cell_commands, cells_commands}

-- those of the cell of this number, counted from 0 in reading order
abbrev pub numbered_cell_commands : Core → (ℕ → ℕ → Bool) → ℕ → List Command
numbered_cell_commands k f n = cell_commands k f (n / 40 + 1) (n % 40 + 1)

last_of_range : {X : Type 0} (g : ℕ → List X) (from n last : ℕ) → from + n ≡ last
    → flat_map g (range_with_len from (suc n)) ≡ flat_map g (range_with_len from n) ++ g last
last_of_range g from zero last e = append-nil (g from) ∙ ap g (omega arith)
last_of_range g from (suc n) last e =
    ap (λ (more : List _). g from ++ more) (last_of_range g (from + 1) n last (omega arith))
    ∙ sym (append_assoc (g from) (flat_map g (range_with_len (from + 1) n)) (g last))

pub cells_commands-none : (k : Core) (f : ℕ → ℕ → Bool) → cells_commands k f 0 ≡ []
unfolding cells_commands
cells_commands-none k f = refl

pub cells_commands-more : (k : Core) (f : ℕ → ℕ → Bool) (n : ℕ)
    → cells_commands k f (n + 1) ≡ cells_commands k f n ++ numbered_cell_commands k f n
unfolding cells_commands
cells_commands-more k f n =
    let one : n + 1 ≡ suc n = omega arith in
    ap (λ (m : ℕ). flat_map (numbered_cell_commands k f) (range_with_len 0 m)) one
    ∙ last_of_range (numbered_cell_commands k f) 0 n n (omega arith)
