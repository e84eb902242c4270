-- The cells of a drawing painted one after the other.
use Rattle.std.proofs.Common.{◌≡◌, ◌≢◌, ℕ, ◌+◌, ◌/◌, ◌%◌, ◌<◌, Bool, true, false, List, [], ◌∷◌, if◌then◌else◌}
use Rattle.std.proofs.Common.{sym, ap, subst, ◌∙◌}
use Rattle.std.proofs.lemmas.Bool.{eq-eqb, ne_eqb}
use Rattle.cept_codes.specs.declared.command.Command.{Command}
use Rattle.cept_codes.specs.declared.command.Command.TheVariants as commands
use Rattle.cept_codes.specs.Place.{Place, place_of}
use Rattle.cept_profile.specs.State.{Core, State, core_of}
use Rattle.cept_repaint.specs.GlassState.{GlassState}
use Rattle.cept_plot.specs.Commands.{cell_commands, cells_commands, code_of_value, is_written_anew}
use Rattle.cept_plot.specs.Commands.{value_commands, value_of_points}
use Rattle.cept_plot.specs.inside.Drawing.{StandsDrawn}
use Rattle.cept_plot.specs.inside.ValidPainted.{ArePaintedAndValid}
use Rattle.cept_plot.proofs.CommandsInTurn.{cells_commands-more, cells_commands-none, numbered_cell_commands}
use Rattle.cept_plot.proofs.DrawnInTurn.{stands_next, written_now}
use Rattle.cept_plot.proofs.PaintedInTurn.{painted_more, painted_none}

-- ---- one cell

-- the commands of a block mosaic
abbrev block_commands : ℕ → List Command
block_commands v = commands.LockLeft 1 ∷ commands.Graphic (code_of_value v) ∷ commands.LockLeft 0 ∷ []

-- the value of a cell: a space
pub painted_value-none : {v : ℕ} {old new : State} {before now : GlassState} {from to : ℕ} → v ≡ 0
    → ArePaintedAndValid (commands.Graphic 0x20 ∷ []) old new before now from to
    → ArePaintedAndValid (value_commands v) old new before now from to
painted_value-none {v} {old} {new} {before} {now} {from} {to} none painted =
    subst (λ (l : List Command). ArePaintedAndValid l old new before now from to)
    (sym (ap (λ t. if t then commands.Graphic 0x20 ∷ [] else block_commands v) (eq-eqb v 0 none))) painted

-- and a block mosaic
pub painted_value-some : {v w : ℕ} {a b c d : State} {x y z t : GlassState} {i j k l : ℕ} → v ≢ 0 → w ≡ code_of_value v
    → ArePaintedAndValid (commands.LockLeft 1 ∷ []) a b x y i j → ArePaintedAndValid (commands.Graphic w ∷ []) b c y z j k
    → ArePaintedAndValid (commands.LockLeft 0 ∷ []) c d z t k l → ArePaintedAndValid (value_commands v) a d x t i l
painted_value-some {v} {w} {a} {b} {c} {d} {x} {y} {z} {t} {i} {j} {k} {l} some code lock graphic unlock =
    subst (λ (m : List Command). ArePaintedAndValid m a d x t i l)
    (ap (λ n. commands.LockLeft 1 ∷ commands.Graphic n ∷ commands.LockLeft 0 ∷ []) code
    ∙ sym (ap (λ s. if s then commands.Graphic 0x20 ∷ [] else block_commands v) (ne_eqb v 0 some)))
    (painted_more lock (painted_more graphic unlock))

-- a cell that has to be written
pub painted_cell-written : (k : Core) (f : ℕ → ℕ → Bool) (r c : ℕ) {v : ℕ} {old mid new : State}
    {before between now : GlassState} {from at to : ℕ} → is_written_anew k f r c ≡ true → v ≡ value_of_points f r c
    → ArePaintedAndValid (commands.Position r c ∷ []) old mid before between from at
    → ArePaintedAndValid (value_commands v) mid new between now at to
    → ArePaintedAndValid (cell_commands k f r c) old new before now from to
painted_cell-written k f r c {v} {old} {mid} {new} {before} {between} {now} {from} {at} {to} written is place value =
    subst (λ (l : List Command). ArePaintedAndValid l old new before now from to)
    (ap (λ w. commands.Position r c ∷ value_commands w) is
    ∙ sym (ap (λ t. if t then commands.Position r c ∷ value_commands (value_of_points f r c) else []) written))
    (painted_more place value)

-- and one that hasn't
pub painted_cell-left : (k : Core) (f : ℕ → ℕ → Bool) (r c : ℕ) (s : State) (g : GlassState) (n : ℕ)
    → is_written_anew k f r c ≡ false → ArePaintedAndValid (cell_commands k f r c) s s g g n n
painted_cell-left k f r c s g n left =
    subst (λ (l : List Command). ArePaintedAndValid l s s g g n n)
    (sym (ap (λ t. if t then commands.Position r c ∷ value_commands (value_of_points f r c) else []) left))
    (painted_none s g n)

-- ---- cells in turn

-- the cells of the first n numbers were painted in turn, and the state stands after them
pub record StandsPainted (k : Core) (f : ℕ → ℕ → Bool) (n : ℕ) (old new : State) (before now : GlassState) (from to : ℕ)
    : Type 0 where
  pub painted : ArePaintedAndValid (cells_commands k f n) old new before now from to
  pub stands : StandsDrawn k f n new

pub StandsPainted-none : (k : Core) (f : ℕ → ℕ → Bool) (s : State) (g : GlassState) (from : ℕ) → StandsDrawn k f 0 s
    → StandsPainted k f 0 s s g g from from
StandsPainted-none k f s g from stands = record {
  painted = subst (λ (l : List Command). ArePaintedAndValid l s s g g from from) (sym (cells_commands-none k f))
      (painted_none s g from);
  stands = stands;
}

pub StandsPainted-more : {k : Core} {f : ℕ → ℕ → Bool} {n : ℕ} {old mid new : State} {before between now : GlassState}
    {from at to : ℕ} → StandsPainted k f n old mid before between from at → n < 960 → (p : Place) → p ≡ place_of n
    → ArePaintedAndValid (cell_commands (core_of mid) f p.row p.column) mid new between now at to
    → StandsPainted k f (n + 1) old new before now from to
StandsPainted-more {k} {f} {n} {old} {mid} {new} {before} {between} {now} {from} {at} {to} was below p here painted =
    let cell = commands.Position (n / 40 + 1) (n % 40 + 1) ∷ value_commands (value_of_points f (n / 40 + 1) (n % 40 + 1)) in
    let same : cell_commands (core_of mid) f p.row p.column ≡ numbered_cell_commands k f n =
    ap (λ (q : Place). cell_commands (core_of mid) f q.row q.column) here
    ∙ ap (λ t. if t then cell else []) (written_now k f n mid below was.stands) in
    let mine = subst (λ (l : List Command). ArePaintedAndValid l mid new between now at to) same painted in
    record {
      painted = subst (λ (l : List Command). ArePaintedAndValid l old new before now from to)
          (sym (cells_commands-more k f n)) (painted_more was.painted mine);
      stands = subst (λ (s : State). StandsDrawn k f (n + 1) s) (sym mine.in_turn.after)
          (stands_next k f n mid below was.stands);
    }

pub StandsPainted-all : {k : Core} {f : ℕ → ℕ → Bool} {n : ℕ} {old new : State} {before now : GlassState}
    {from to : ℕ} → StandsPainted k f n old new before now from to → n ≡ 960
    → ArePaintedAndValid (cells_commands k f 960) old new before now from to
StandsPainted-all {k} {f} {n} {old} {new} {before} {now} {from} {to} stands end =
    subst (λ m. ArePaintedAndValid (cells_commands k f m) old new before now from to) end stands.painted
