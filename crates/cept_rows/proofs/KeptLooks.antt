-- Looks in little space: with the drawing of its pattern each is kept whole, and they compare as they do.
use Rattle.std.proofs.Common.{◌≡◌, ℕ, ◌-◌, ◌≤◌, ◌<◌, Bool, true, false, List}
use Rattle.std.proofs.Common.{get_or, ◌⊎◌, Decides, inl, inr, refl, sym, subst, ap, ◌∙◌}
use Rattle.std.proofs.Common.{arith, rules, replicate}
use Rattle.std.proofs.lemmas.Bool.{false≢true}
use Rattle.std.proofs.lemmas.Bool.Decides.{same_from_decides}
use Rattle.std.proofs.lemmas.List.{get_or-replicate}
use Rattle.cept_codes.specs.declared.look.Look.{Look}
use Rattle.cept_codes.specs.declared.look.Paint.{Paint}
use Rattle.cept_codes.specs.declared.look.Paint.TheVariants as paints
use Rattle.cept_codes.specs.declared.look.Shape.{Shape}
use Rattle.cept_codes.specs.declared.look.Shape.TheVariants as shapes
use Rattle.cept_codes.specs.Look.{IsValidLook, blank_look}
use Rattle.cept_codes.specs.Same.{same_look}
use Rattle.cept_codes.specs.Table.{row_of}
use Rattle.cept_codes.proofs.Laws.{look_decides}
use Rattle.cept_profile.specs.Tiling.{column_entry, covers_below}
use Rattle.cept_rows.specs.declared.drawing.Drawing.{Drawing}
use Rattle.cept_rows.specs.declared.small_look.Kind.{Kind}
use Rattle.cept_rows.specs.declared.small_look.Kind.TheVariants as kinds
use Rattle.cept_rows.specs.declared.small_look.Sign.{Sign}
use Rattle.cept_rows.specs.declared.small_look.SmallLook.{SmallLook}
use Rattle.cept_rows.specs.KeptRows.{kept_in}
use Rattle.cept_rows.specs.SmallLooks.{IsSmallLook, blank_small, has_pattern, is_drcs, look_kept}
use Rattle.cept_rows.specs.inside.SmallLooks.{drawing_of}
use Rattle.cept_rows.specs.SmallLooks.{no_drawing}
use Rattle.cept_rows.specs.SmallLooks.{paint_kept, shape_by, shape_kept, sign_of, small_of, tint_of}
use Rattle.cept_rows.proofs.Columns.{column_entry-row_of}

-- paints are kept
paint_kept-tint_of : (p : Paint) → paint_kept (tint_of p) ≡ p
paint_kept-tint_of (paints.Ink c) = refl
paint_kept-tint_of paints.Video = refl

-- and shapes
shape_kept-sign_of : (s : Shape) → shape_kept (sign_of s) (drawing_of s) ≡ s
shape_kept-sign_of shapes.Space = refl
shape_kept-sign_of (shapes.Char g) = refl
shape_kept-sign_of (shapes.Drcs pattern inks) = refl

-- so a look is kept whole
look_kept-small_of : (l : Look) → look_kept (small_of l) (drawing_of l.shape) ≡ l
look_kept-small_of l i =
    record l {
      shape = shape_kept-sign_of l.shape i;
      fore = paint_kept-tint_of l.fore i;
      back = paint_kept-tint_of l.back i;
    }

-- its small look can be kept
IsSmallLook-small_of : (l : Look) → IsValidLook l → IsSmallLook (small_of l) (drawing_of l.shape)
IsSmallLook-small_of l valid = record {
  valid = subst IsValidLook (sym (look_kept-small_of l)) valid;
  shown = ap small_of (look_kept-small_of l);
}

-- the same of what was found to be the small one of a look
pub small_is : (s : SmallLook) (d : Drawing) (l : Look) → s ≡ small_of l → d ≡ drawing_of l.shape → IsValidLook l
    → IsSmallLook s d
small_is s d l e f valid =
    subst (λ t. IsSmallLook t d) (sym e)
    (subst (λ t. IsSmallLook (small_of l) t) (sym f) (IsSmallLook-small_of l valid))

-- and what is kept is the look
pub kept_is : (s : SmallLook) (d : Drawing) (l : Look) → s ≡ small_of l → d ≡ drawing_of l.shape → look_kept s d ≡ l
kept_is s d l e f = (λ i. look_kept (e i) (f i)) ∙ look_kept-small_of l

-- ---- without a pattern the drawing counts for nothing

shape_by-plain : (k : Kind) (s : Sign) (d e : Drawing) → is_drcs k ≡ false → shape_by k s d ≡ shape_by k s e
shape_by-plain kinds.Space s d e plain = refl
shape_by-plain kinds.Char s d e plain = refl
shape_by-plain kinds.Drcs s d e plain = cc

pub look_kept-plain : (s : SmallLook) (d e : Drawing) → has_pattern s ≡ false → look_kept s d ≡ look_kept s e
look_kept-plain s d e plain i = record (look_kept s d) { shape = shape_by-plain s.sign.kind s.sign d e plain i }

pub IsSmallLook-plain : (s : SmallLook) (d e : Drawing) → has_pattern s ≡ false → IsSmallLook s d → IsSmallLook s e
IsSmallLook-plain s d e plain small = record {
  valid = subst IsValidLook (look_kept-plain s d e plain) small.valid;
  shown = ap small_of (sym (look_kept-plain s d e plain)) ∙ small.shown;
}

-- the same of what was found to be the small one of a look
pub plain_is : (s : SmallLook) (l : Look) → s ≡ small_of l → has_pattern s ≡ false → look_kept s no_drawing ≡ l
plain_is s l e plain = look_kept-plain s no_drawing (drawing_of l.shape) plain ∙ kept_is s (drawing_of l.shape) l e refl

pub plain_small : (s : SmallLook) (l : Look) → s ≡ small_of l → has_pattern s ≡ false → IsValidLook l
    → IsSmallLook s no_drawing
plain_small s l e plain valid =
    IsSmallLook-plain s (drawing_of l.shape) no_drawing plain (small_is s (drawing_of l.shape) l e refl valid)

-- ---- a row of them

-- a blank look
IsSmallLook-blank_small : IsSmallLook blank_small no_drawing
IsSmallLook-blank_small = IsSmallLook-small_of blank_look (search rules)

-- forty of them, whatever the drawings
pub small_in_flat : (drawn : List Drawing) (k : ℕ) → k < 40
    → IsSmallLook (get_or (replicate 40 blank_small) k blank_small) (get_or drawn k no_drawing)
small_in_flat drawn k below =
    subst (λ s. IsSmallLook s (get_or drawn k no_drawing)) (sym (get_or-replicate 40 k blank_small blank_small below))
    (IsSmallLook-plain blank_small no_drawing (get_or drawn k no_drawing) refl IsSmallLook-blank_small)

pub plain_in_flat : (k : ℕ) → k < 40 → has_pattern (get_or (replicate 40 blank_small) k blank_small) ≡ false
plain_in_flat k below = ap has_pattern (get_or-replicate 40 k blank_small blank_small below)

pub low_in_flat : (k : ℕ) → k < 40 → covers_below (get_or (replicate 40 blank_small) k blank_small).part ≡ false
low_in_flat k below = ap (λ s. covers_below s.part) (get_or-replicate 40 k blank_small blank_small below)

pub kept_in_flat : (drawn : List Drawing) (c : ℕ) → 1 ≤ c → c ≤ 40 → kept_in (replicate 40 blank_small) drawn c
    ≡ blank_look
kept_in_flat drawn c low high =
    ap (λ s. look_kept s (get_or drawn (c - 1) no_drawing))
    (get_or-replicate 40 (c - 1) blank_small blank_small (omega arith))

-- the look in a column
pub column_kept : (looks : List SmallLook) (drawn : List Drawing) (c : ℕ) → 1 ≤ c → c ≤ 40
    → column_entry blank_look (row_of (kept_in looks drawn)) c ≡ kept_in looks drawn c
column_kept looks drawn c low high = column_entry-row_of blank_look (kept_in looks drawn) c low high

-- ---- comparison

-- of a pattern the drawing is found again
drawn_by : (k : Kind) (s : Sign) (d : Drawing) → is_drcs k ≡ true → drawing_of (shape_by k s d) ≡ d
drawn_by kinds.Space s d pattern = cc
drawn_by kinds.Char s d pattern = cc
drawn_by kinds.Drcs s d pattern = refl

pub drawing_kept : (s : SmallLook) (d : Drawing) → has_pattern s ≡ true → drawing_of (look_kept s d).shape ≡ d
drawing_kept s d pattern = drawn_by s.sign.kind s.sign d pattern

-- the same small looks, and the same drawings of patterns
pub record AreAlike (a b : SmallLook) (da db : Drawing) : Type 0 where
  pub small : a ≡ b
  pub drawn : has_pattern a ≡ true → da ≡ db

-- are the same looks
alike_by : (p : Bool) (a b : SmallLook) (da db : Drawing) → has_pattern a ≡ p → AreAlike a b da db
    → look_kept a da ≡ look_kept b db
alike_by true a b da db e alike = λ i. look_kept (alike.small i) (alike.drawn e i)
alike_by false a b da db e alike = look_kept-plain a da db e ∙ ap (λ s. look_kept s db) alike.small

-- and no others are
alike_from : (a b : SmallLook) (da db : Drawing) → IsSmallLook a da → IsSmallLook b db
    → look_kept a da ≡ look_kept b db → AreAlike a b da db
alike_from a b da db is_a is_b e =
    let small : a ≡ b = sym is_a.shown ∙ ap small_of e ∙ is_b.shown in
    record {
      small = small;
      drawn = λ p. sym (drawing_kept a da p) ∙ ap (λ l. drawing_of l.shape) e
          ∙ drawing_kept b db (ap has_pattern (sym small) ∙ p);
    }

-- so looks compare as these do
pub same_kept : (r : Bool) (a b : SmallLook) (da db : Drawing) (l m : Look) → IsSmallLook a da → IsSmallLook b db
    → Decides r (AreAlike a b da db) → look_kept a da ≡ l → look_kept b db ≡ m → r ≡ same_look l m
same_kept r a b da db l m is_a is_b decides ea eb =
    same_from_decides r (same_look l m) decides (
      λ e. alike_from a b da db is_a is_b (ea ∙ (look_decides l m).0 e ∙ sym eb),
      λ alike. (look_decides l m).1 (sym ea ∙ alike_by (has_pattern a) a b da db refl alike ∙ eb),
    )

-- what a comparison of small looks and one of drawings say together
pub alike_small : (r : Bool) (a b : SmallLook) (da db : Drawing) → Decides r (a ≡ b) → r ≡ false
    → Decides r (AreAlike a b da db)
alike_small r a b da db small e = (
  λ yes. absurd (false≢true (sym e ∙ yes)),
  λ alike. small.1 alike.small,
)

pub alike_plain : (r s : Bool) (a b : SmallLook) (da db : Drawing) → Decides r (a ≡ b) → r ≡ true
    → has_pattern a ≡ false → s ≡ true → Decides s (AreAlike a b da db)
alike_plain r s a b da db small e plain is = (
  λ _. record { small = small.0 e; drawn = λ p. absurd (false≢true (sym plain ∙ p)) },
  λ _. is,
)

pub alike_drawn : (r s : Bool) (a b : SmallLook) (da db : Drawing) → Decides r (a ≡ b) → r ≡ true
    → has_pattern a ≡ true → Decides s (da ≡ db) → Decides s (AreAlike a b da db)
alike_drawn r s a b da db small e pattern drawn = (
  λ yes. record { small = small.0 e; drawn = λ p. drawn.0 yes },
  λ alike. drawn.1 (alike.drawn pattern),
)

-- and where one of them is no pattern, as their small looks do
pub same_plain : (r : Bool) (a b : SmallLook) (l m : Look) → a ≡ small_of l → b ≡ small_of m
    → (has_pattern (small_of l) ≡ false) ⊎ (has_pattern (small_of m) ≡ false) → Decides r (a ≡ b) → r ≡ same_look l m
same_plain r a b l m ea eb plain decides =
    let off : a ≡ b → has_pattern a ≡ false = λ e.
    elim plain [
      | inl f ↦ ap has_pattern ea ∙ f
      | inr f ↦ ap has_pattern (e ∙ eb) ∙ f
    ] in
    same_from_decides r (same_look l m) decides (
      λ e. ea ∙ ap small_of ((look_decides l m).0 e) ∙ sym eb,
      λ e. (look_decides l m).1 (sym (plain_is a l ea (off e)) ∙ ap (λ s. look_kept s no_drawing) e
          ∙ plain_is b m eb (ap has_pattern (sym e) ∙ off e)),
    )
