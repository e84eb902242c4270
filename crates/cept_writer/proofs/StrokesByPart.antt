-- Strokes by the part of the page that they change: what a part keeps depends on its own strokes alone, and where it is
-- kept by numbers, on those of one number.
use Rattle.std.proofs.Common.{◌≡◌, ℕ, zero, suc, ◌+◌, ◌≤◌, ◌<◌, List, [], ◌∷◌, ◌++◌, flat_map, reverse, refl, sym, ap, ◌∙◌}
use Rattle.std.proofs.Common.{append_assoc, inl, inr, arith}
use Rattle.std.proofs.lemmas.Bool.{cases_eq}
use Rattle.std.proofs.lemmas.List.{append-nil, reverse-append}
use Rattle.std.specs.List.{AllByRecursion, range_with_len}
use Rattle.cept_codes.specs.declared.stroke.Stroke.{Stroke}
use Rattle.cept_codes.specs.declared.stroke.Stroke.TheVariants as strokes

-- the parts of a page, the strokes that reset it, and those that a written page doesn't make
pub data Kind : Type 0 where
  Reset : Kind
  Colours : Kind
  Names : Kind
  Patterns : Kind
  Screen : Kind
  Rows : Kind
  Cells : Kind
  Other : Kind

abbrev pub kind_of : Stroke → Kind
kind_of (strokes.Put p cell) = Cells
kind_of (strokes.Erase r from) = Other
kind_of strokes.Wipe = Reset
kind_of (strokes.Shift first last way) = Other
kind_of (strokes.Carry first last way) = Other
kind_of (strokes.RowAttr r attr) = Rows
kind_of (strokes.ScreenAttr attr) = Screen
kind_of strokes.ScreenClear = Reset
kind_of (strokes.Colour i paint) = Colours
kind_of (strokes.Dclut i entry) = Names
kind_of strokes.ColourDefaults = Reset
kind_of strokes.DrcsClear = Reset
kind_of (strokes.Drcs code pattern) = Patterns
kind_of (strokes.Format rows) = Reset

-- all of one kind
abbrev pub AllOf : Kind → List Stroke → Type 0
AllOf kind list = AllByRecursion (λ s. kind_of s ≡ kind) list

-- what is made of a value by strokes in their order
abbrev pub value_after : {X : Type 0} → (Stroke → X → X) → X → List Stroke → X
value_after step x [] = x
value_after step x (s ∷ more) = value_after step (step s x) more

pub folded-append : {X : Type 0} (step : Stroke → X → X) (x : X) (a b : List Stroke)
    → value_after step x (a ++ b) ≡ value_after step (value_after step x a) b
folded-append step x [] b = refl
folded-append step x (s ∷ a) b = folded-append step (step s x) a b

-- what looks back over strokes is made by them in their order
pub folded_back : {X : Type 0} (back : List Stroke → X) (step : Stroke → X → X) (IsAllowed : Stroke → Type 0)
    → ((s : Stroke) (earlier : List Stroke) → IsAllowed s → back (s ∷ earlier) ≡ step s (back earlier))
    → (made earlier : List Stroke) → AllByRecursion IsAllowed made
    → back (reverse made ++ earlier) ≡ value_after step (back earlier) made
folded_back back step IsAllowed more [] earlier all = refl
folded_back back step IsAllowed more (s ∷ made) earlier all =
    ap (λ (list : List Stroke). back (list ++ earlier)) (reverse-append (s ∷ []) made)
    ∙ ap back (append_assoc (reverse made) (s ∷ []) earlier)
    ∙ folded_back back step IsAllowed more made (s ∷ earlier) all.1
    ∙ ap (λ x. value_after step x made) (more s earlier all.0)

pub folded_from_none : {X : Type 0} (back : List Stroke → X) (step : Stroke → X → X) (IsAllowed : Stroke → Type 0)
    → ((s : Stroke) (earlier : List Stroke) → IsAllowed s → back (s ∷ earlier) ≡ step s (back earlier))
    → (made : List Stroke) → AllByRecursion IsAllowed made → back (reverse made) ≡ value_after step (back []) made
folded_from_none back step IsAllowed more made all =
    ap back (sym (append-nil (reverse made))) ∙ folded_back back step IsAllowed more made [] all

pub all_append : {X : Type 0} (P : X → Type 0) (xs ys : List X) → AllByRecursion P xs → AllByRecursion P ys
    → AllByRecursion P (xs ++ ys)
all_append P [] ys a b = b
all_append P (x ∷ xs) ys a b = (a.0, all_append P xs ys a.1 b)

-- strokes that leave a value
abbrev pub KeepsValue : {X : Type 0} → (Stroke → X → X) → List Stroke → Type 0
KeepsValue {X} step list = (x : X) → value_after step x list ≡ x

pub leave_append : {X : Type 0} (step : Stroke → X → X) (a b : List Stroke) → KeepsValue step a → KeepsValue step b
    → KeepsValue step (a ++ b)
leave_append step a b la lb x = folded-append step x a b ∙ lb (value_after step x a) ∙ la x

-- strokes before others that are left, and after
pub passed : {X : Type 0} (step : Stroke → X → X) (x : X) (a b : List Stroke) → KeepsValue step a
    → value_after step x (a ++ b) ≡ value_after step x b
passed step x a b la = folded-append step x a b ∙ ap (λ y. value_after step y b) (la x)

pub ended : {X : Type 0} (step : Stroke → X → X) (x : X) (a b : List Stroke) → KeepsValue step b
    → value_after step x (a ++ b) ≡ value_after step x a
ended step x a b lb = folded-append step x a b ∙ lb (value_after step x a)

-- a part is left by strokes of another kind
pub kind_leaves : {X : Type 0} (step : Stroke → X → X) (kind : Kind)
    → ((s : Stroke) → kind_of s ≡ kind → (x : X) → step s x ≡ x) → (list : List Stroke) → AllOf kind list → KeepsValue step list
kind_leaves step kind leaves [] all x = refl
kind_leaves step kind leaves (s ∷ list) all x =
    ap (λ y. value_after step y list) (leaves s all.0 x) ∙ kind_leaves step kind leaves list all.1 x

-- what strokes of other parts leave
abbrev pub IsKeptByOthers : {X : Type 0} → (Stroke → X → X) → Kind → Type 0
IsKeptByOthers {X} step own =
    (s : Stroke) (x : X) → (kind_of s ≡ own → ⊥) → (kind_of s ≡ Reset → ⊥) → (kind_of s ≡ Other → ⊥) → step s x ≡ x

-- ---- the strokes of a page after its reset, part by part

pub record Pieces : Type 0 where
  pub colours : List Stroke
  pub names : List Stroke
  pub patterns : List Stroke
  pub screen : List Stroke
  pub rows : List Stroke
  pub cells : List Stroke
  pub all_colours : AllOf Colours colours
  pub all_names : AllOf Names names
  pub all_patterns : AllOf Patterns patterns
  pub all_screen : AllOf Screen screen
  pub all_rows : AllOf Rows rows
  pub all_cells : AllOf Cells cells

abbrev pub strokes_together : Pieces → List Stroke
strokes_together p = p.colours ++ (p.names ++ (p.patterns ++ (p.screen ++ (p.rows ++ p.cells))))

-- strokes of another part pass a value
module _ {X : Type 0} (step : Stroke → X → X) (own : Kind) (left : IsKeptByOthers step own) (p : Pieces) where
  of_other : (kind : Kind) → (kind ≡ own → ⊥) → (kind ≡ Reset → ⊥) → (kind ≡ Other → ⊥) → (list : List Stroke)
      → AllOf kind list → KeepsValue step list
  of_other kind apart reset other =
      kind_leaves step kind
      (λ s e x. left s x (λ f. apart (sym e ∙ f)) (λ f. reset (sym e ∙ f)) (λ f. other (sym e ∙ f)))

  past_colours : (Colours ≡ own → ⊥) → KeepsValue step p.colours
  past_colours apart = of_other Colours apart (λ e. absurd cc) (λ e. absurd cc) p.colours p.all_colours

  past_names : (Names ≡ own → ⊥) → KeepsValue step p.names
  past_names apart = of_other Names apart (λ e. absurd cc) (λ e. absurd cc) p.names p.all_names

  past_patterns : (Patterns ≡ own → ⊥) → KeepsValue step p.patterns
  past_patterns apart = of_other Patterns apart (λ e. absurd cc) (λ e. absurd cc) p.patterns p.all_patterns

  past_screen : (Screen ≡ own → ⊥) → KeepsValue step p.screen
  past_screen apart = of_other Screen apart (λ e. absurd cc) (λ e. absurd cc) p.screen p.all_screen

  past_rows : (Rows ≡ own → ⊥) → KeepsValue step p.rows
  past_rows apart = of_other Rows apart (λ e. absurd cc) (λ e. absurd cc) p.rows p.all_rows

  past_cells : (Cells ≡ own → ⊥) → KeepsValue step p.cells
  past_cells apart = of_other Cells apart (λ e. absurd cc) (λ e. absurd cc) p.cells p.all_cells

-- each part depends on its own strokes
module _ {X : Type 0} (step : Stroke → X → X) (p : Pieces) (x : X) where
  pub of_colours : IsKeptByOthers step Colours → value_after step x (strokes_together p) ≡ value_after step x p.colours
  of_colours left =
      ended step x p.colours _
      (leave_append step p.names _ (past_names step Colours left p (λ e. absurd cc))
      (leave_append step p.patterns _ (past_patterns step Colours left p (λ e. absurd cc))
      (leave_append step p.screen _ (past_screen step Colours left p (λ e. absurd cc))
      (leave_append step p.rows p.cells (past_rows step Colours left p (λ e. absurd cc)) (past_cells step Colours left p (λ e. absurd cc))))))

  pub of_names : IsKeptByOthers step Names → value_after step x (strokes_together p) ≡ value_after step x p.names
  of_names left =
      passed step x p.colours _ (past_colours step Names left p (λ e. absurd cc))
      ∙ ended step x p.names _
      (leave_append step p.patterns _ (past_patterns step Names left p (λ e. absurd cc))
      (leave_append step p.screen _ (past_screen step Names left p (λ e. absurd cc))
      (leave_append step p.rows p.cells (past_rows step Names left p (λ e. absurd cc)) (past_cells step Names left p (λ e. absurd cc)))))

  pub of_patterns : IsKeptByOthers step Patterns → value_after step x (strokes_together p) ≡ value_after step x p.patterns
  of_patterns left =
      passed step x p.colours _ (past_colours step Patterns left p (λ e. absurd cc))
      ∙ passed step x p.names _ (past_names step Patterns left p (λ e. absurd cc))
      ∙ ended step x p.patterns _
      (leave_append step p.screen _ (past_screen step Patterns left p (λ e. absurd cc))
      (leave_append step p.rows p.cells (past_rows step Patterns left p (λ e. absurd cc)) (past_cells step Patterns left p (λ e. absurd cc))))

  pub of_screen : IsKeptByOthers step Screen → value_after step x (strokes_together p) ≡ value_after step x p.screen
  of_screen left =
      passed step x p.colours _ (past_colours step Screen left p (λ e. absurd cc))
      ∙ passed step x p.names _ (past_names step Screen left p (λ e. absurd cc))
      ∙ passed step x p.patterns _ (past_patterns step Screen left p (λ e. absurd cc))
      ∙ ended step x p.screen _
      (leave_append step p.rows p.cells (past_rows step Screen left p (λ e. absurd cc)) (past_cells step Screen left p (λ e. absurd cc)))

  pub of_rows : IsKeptByOthers step Rows → value_after step x (strokes_together p) ≡ value_after step x p.rows
  of_rows left =
      passed step x p.colours _ (past_colours step Rows left p (λ e. absurd cc))
      ∙ passed step x p.names _ (past_names step Rows left p (λ e. absurd cc))
      ∙ passed step x p.patterns _ (past_patterns step Rows left p (λ e. absurd cc))
      ∙ passed step x p.screen _ (past_screen step Rows left p (λ e. absurd cc))
      ∙ ended step x p.rows p.cells (past_cells step Rows left p (λ e. absurd cc))

  pub of_cells : IsKeptByOthers step Cells → value_after step x (strokes_together p) ≡ value_after step x p.cells
  of_cells left =
      passed step x p.colours _ (past_colours step Cells left p (λ e. absurd cc))
      ∙ passed step x p.names _ (past_names step Cells left p (λ e. absurd cc))
      ∙ passed step x p.patterns _ (past_patterns step Cells left p (λ e. absurd cc))
      ∙ passed step x p.screen _ (past_screen step Cells left p (λ e. absurd cc))
      ∙ passed step x p.rows p.cells (past_rows step Cells left p (λ e. absurd cc))

-- ---- all strokes but shifts and erasures

abbrev pub IsWritten : Stroke → Type 0
IsWritten s = kind_of s ≡ Other → ⊥

all_written : (kind : Kind) → (kind ≡ Other → ⊥) → (list : List Stroke) → AllOf kind list → AllByRecursion IsWritten list
all_written kind apart [] all = tt
all_written kind apart (s ∷ list) all = (λ e. apart (sym all.0 ∙ e), all_written kind apart list all.1)

pub together_written : (p : Pieces) → AllByRecursion IsWritten (strokes_together p)
together_written p =
    all_append IsWritten p.colours _ (all_written Colours (λ e. absurd cc) p.colours p.all_colours)
    (all_append IsWritten p.names _ (all_written Names (λ e. absurd cc) p.names p.all_names)
    (all_append IsWritten p.patterns _ (all_written Patterns (λ e. absurd cc) p.patterns p.all_patterns)
    (all_append IsWritten p.screen _ (all_written Screen (λ e. absurd cc) p.screen p.all_screen)
    (all_append IsWritten p.rows p.cells (all_written Rows (λ e. absurd cc) p.rows p.all_rows)
    (all_written Cells (λ e. absurd cc) p.cells p.all_cells)))))

-- ---- strokes by numbers

pub all_range : {X : Type 0} (P : X → Type 0) (f : ℕ → List X) (low bound : ℕ)
    → ((j : ℕ) → low ≤ j → j < bound → AllByRecursion P (f j)) → (from n : ℕ) → low ≤ from → from + n ≤ bound
    → AllByRecursion P (flat_map f (range_with_len from n))
all_range P f low bound each from zero above below = tt
all_range P f low bound each from (suc n) above below =
    all_append P (f from) (flat_map f (range_with_len (from + 1) n)) (each from above (omega (arith, below)))
    (all_range P f low bound each (from + 1) n (omega (arith, above)) (omega (arith, below)))

-- all numbers are passed that aren't this one
leave_above : {X : Type 0} (step : Stroke → X → X) (f : ℕ → List Stroke) (i : ℕ)
    → ((j : ℕ) → (j ≡ i → ⊥) → KeepsValue step (f j)) → (from n : ℕ) → i < from
    → KeepsValue step (flat_map f (range_with_len from n))
leave_above step f i others from zero past x = refl
leave_above step f i others from (suc n) past x =
    leave_append step (f from) (flat_map f (range_with_len (from + 1) n)) (others from (λ e. absurd (omega (arith, past, e))))
    (leave_above step f i others (from + 1) n (omega (arith, past))) x

-- only the strokes of this number count
pub only_one : {X : Type 0} (step : Stroke → X → X) (f : ℕ → List Stroke) (i : ℕ)
    → ((j : ℕ) → (j ≡ i → ⊥) → KeepsValue step (f j)) → (x : X) (from n : ℕ) → from ≤ i → i < from + n
    → value_after step x (flat_map f (range_with_len from n)) ≡ value_after step x (f i)
only_one step f i others x from zero low high = absurd (omega (arith, low, high))
only_one step f i others x from (suc n) low high =
    let rest : List Stroke = flat_map f (range_with_len (from + 1) n) in
    elim (cases_eq from i) [
      | inl e ↦ ended step x (f from) rest (leave_above step f i others (from + 1) n (omega (arith, e)))
          ∙ ap (λ (j : ℕ). value_after step x (f j)) e
      | inr e ↦ passed step x (f from) rest (others from e)
          ∙ only_one step f i others x (from + 1) n (omega (arith, low, e)) (omega (arith, high))
    ]
