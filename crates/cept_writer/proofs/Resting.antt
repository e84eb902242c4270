-- Control at rest: as at the start but for what a written cell leaves, so that the next part of a page may follow.
use Rattle.std.proofs.Common.{◌≡◌, ℕ, zero, suc, ◌+◌, ◌≤◌, ◌<◌, Bool, true, false, cond, eqb, leb, Option, None}
use Rattle.std.proofs.Common.{List, [], ◌∷◌, ◌++◌, flat_map, refl, sym, subst, arith}
use Rattle.std.proofs.lemmas.Grind.{flat_map-append}
use Rattle.std.specs.List.{AllByRecursion, range_with_len}
use Rattle.cept_codes.specs.declared.attribute.Pen.{Pen}
use Rattle.cept_codes.specs.declared.command.C1Set.{C1Set}
use Rattle.cept_codes.specs.declared.command.Command.{Command}
use Rattle.cept_codes.specs.declared.glyph.Glyph.{Glyph}
use Rattle.cept_codes.specs.declared.stroke.Stroke.{Stroke}
use Rattle.cept_profile.specs.Control.{ControlState, Working, Sets, initial_sets}
use Rattle.cept_profile.specs.State.{Core}
use Rattle.cept_profile.proofs.Laws.{on_strokes, on_strokes-none, working_ahead}
use Rattle.cept_writer.specs.Chains.{Chain, members}
use Rattle.cept_writer.proofs.Drawing.{Draws, draws_joined, draws_none}

-- what stays while the parts of a page are written: the format, and the revision of the rules
pub record Fixed : Type 0 where
  pub rows : ℕ
  pub wrap : Bool
  pub revision : ℕ

-- those of a core
abbrev pub fixed_of : Core → Fixed
fixed_of k = record { rows = k.rows; wrap = k.wrap; revision = k.revision }

-- what cells leave as they please
pub record Hand : Type 0 where
  pub row : ℕ
  pub column : ℕ
  pub c1 : C1Set
  pub last : Option Glyph
  pub pen : Pen
  pub fast : ℕ
  pub run : Bool
  pub step : ℕ
  pub table : ℕ

-- control while a cell is written: with these sets, an accent that waits, and protection
abbrev pub control_in_cell : Fixed → Sets → Option ℕ → Bool → Hand → ControlState
control_in_cell fixed sets accent protect v = record {
  working = record {
    row = v.row;
    column = v.column;
    c1 = v.c1;
    sets = sets;
    accent = accent;
    last = v.last;
    pen = v.pen;
    fast = v.fast;
    run = v.run;
    step = v.step;
    table = v.table;
    protect = protect;
  };
  rows = fixed.rows;
  wrap = fixed.wrap;
  area = None;
  implicit = false;
  revision = fixed.revision;
  kept = None;
}

-- control at rest
abbrev pub control_at_rest : Fixed → Hand → ControlState
control_at_rest fixed v = control_in_cell fixed initial_sets None false v

-- from rest the commands make these strokes and leave control at rest
pub record Rests (fixed : Fixed) (v : Hand) (cs : List Command) (made : List Stroke) : Type 0 where
  pub hand : Hand
  pub draws : Draws (control_at_rest fixed v) cs made (control_at_rest fixed hand)

pub rests_none : (fixed : Fixed) (v : Hand) → Rests fixed v [] []
rests_none fixed v = record { hand = v; draws = draws_none (control_at_rest fixed v) }

-- a part of the commands of a page, from whatever hand
abbrev pub AlwaysRests : Fixed → List Command → List Stroke → Type 0
AlwaysRests fixed cs made = (v : Hand) → Rests fixed v cs made

pub rests_joined : (fixed : Fixed) (cs ds : List Command) (p q : List Stroke) → AlwaysRests fixed cs p
    → AlwaysRests fixed ds q → AlwaysRests fixed (cs ++ ds) (p ++ q)
rests_joined fixed cs ds p q a b v =
    let first = a v in
    let second = b first.hand in
    record {
      hand = second.hand;
      draws = draws_joined (control_at_rest fixed v) (control_at_rest fixed first.hand) (control_at_rest fixed second.hand)
          cs ds p q first.draws second.draws;
    }

-- parts by their numbers
pub rests_range : (fixed : Fixed) (f : ℕ → List Command) (g : ℕ → List Stroke) (low bound : ℕ)
    → ((j : ℕ) → low ≤ j → j < bound → AlwaysRests fixed (f j) (g j)) → (from n : ℕ) → low ≤ from → from + n ≤ bound
    → AlwaysRests fixed (flat_map f (range_with_len from n)) (flat_map g (range_with_len from n))
rests_range fixed f g low bound each from zero above below v = rests_none fixed v
rests_range fixed f g low bound each from (suc n) above below v =
    rests_joined fixed (f from) (flat_map f (range_with_len (from + 1) n)) (g from)
    (flat_map g (range_with_len (from + 1) n)) (each from above (omega (arith, below)))
    (rests_range fixed f g low bound each (from + 1) n (omega (arith, above)) (omega (arith, below))) v

-- chains of entries, of which each entry has its strokes
pub rests_in_chains : {X : Type 0} (fixed : Fixed) (text : Chain X → List Command) (made : X → List Stroke)
    (cs : List (Chain X)) → AllByRecursion (λ c. AlwaysRests fixed (text c) (flat_map made (members c))) cs
    → AlwaysRests fixed (flat_map text cs) (flat_map made (flat_map members cs))
rests_in_chains fixed text made [] each v = rests_none fixed v
rests_in_chains fixed text made (c ∷ cs) each v =
    subst (λ (l : List Stroke). Rests fixed v (text c ++ flat_map text cs) l)
    (sym (flat_map-append made (members c) (flat_map members cs)))
    (rests_joined fixed (text c) (flat_map text cs) (flat_map made (members c)) (flat_map made (flat_map members cs))
    each.0 (rests_in_chains fixed text made cs each.1) v)

-- ---- moving on

-- the row and the column n columns on
abbrev row_on : ℕ → Bool → Bool → ℕ → ℕ
row_on rows wrap within r = cond within r (cond wrap (cond (eqb r rows) 1 (r + 1)) r)

abbrev column_on : Bool → Bool → ℕ → ℕ
column_on wrap within c = cond within c (cond wrap 1 40)

-- the hand n columns on
unfoldable pub hand_ahead : Fixed → Hand → ℕ → Hand
hand_ahead fixed v n = record v {
  row = row_on fixed.rows fixed.wrap (leb (v.column + n) 40) v.row;
  column = column_on fixed.wrap (leb (v.column + n) 40) (v.column + n);
}

pub moves_on : (fixed : Fixed) (sets : Sets) (accent : Option ℕ) (protect : Bool) (v : Hand) (n : ℕ)
    → working_ahead (control_in_cell fixed sets accent protect v) n
    ≡ (control_in_cell fixed sets accent protect (hand_ahead fixed v n)).working
unfolding hand_ahead
moves_on fixed sets accent protect v n = by_test (leb (v.column + n) 40) fixed.wrap where
  s : ControlState
  s = control_in_cell fixed sets accent protect v

  by_test : (within wraps : Bool)
      → (cond {A = Working × List Stroke} within (record s.working { row = v.row; column = v.column + n }, [])
      (cond wraps (record s.working { row = cond (eqb v.row fixed.rows) (cond wraps 1 v.row) (v.row + 1); column = 1 }, [])
      (record s.working { row = v.row; column = 40 }, []))).0
      ≡ record s.working { row = row_on fixed.rows wraps within v.row; column = column_on wraps within (v.column + n) }
  by_test true wraps = refl
  by_test false true = refl
  by_test false false = refl

-- no row scrolls
pub stays : (fixed : Fixed) (sets : Sets) (accent : Option ℕ) (protect : Bool) (v : Hand) (n : ℕ)
    → on_strokes (control_in_cell fixed sets accent protect v) n ≡ []
stays fixed sets accent protect v n = on_strokes-none (control_in_cell fixed sets accent protect v) n refl
