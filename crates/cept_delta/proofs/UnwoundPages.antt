-- A page unwound part by part: what is put back is valid where the unwound page is.
use Rattle.std.proofs.Common.{◌≡◌, ℕ, ◌≤◌, ◌<◌, Option, Some, None, IfSome, List, unwrap_or, ap, subst, ◌∙◌, arith}
use Rattle.cept_codes.specs.declared.attribute.Pen.{Pen}
use Rattle.cept_codes.specs.declared.cell.Cell.{Cell}
use Rattle.cept_codes.specs.declared.look.Paint.{Paint}
use Rattle.cept_codes.specs.declared.look.Paint.TheVariants as paints
use Rattle.cept_codes.specs.declared.look.Pattern.{Pattern}
use Rattle.cept_codes.specs.Attribute.{IsEntry}
use Rattle.cept_codes.specs.Look.{IsValidPaint, IsValidPattern, black_paint}
use Rattle.cept_codes.specs.Stroke.{IsPaintOf}
use Rattle.cept_codes.proofs.Laws.{entry-list_by_index}
use Rattle.cept_profile.specs.OldValues.{OldValues, old_dclut, old_paint, old_pattern, page_unwound}
use Rattle.cept_profile.specs.PageParts.{dclut_in, paint_in, pattern_in}
use Rattle.cept_profile.specs.State.{Page}
use Rattle.cept_profile.specs.Valid.{IsValidPage}

-- what is put back is so where what is there afterwards is
some_put : {X : Type 0} {P : X → Type 0} {Q : X → Type 0} (old : Option X) (x : X) → ((y : X) → P y → Q y)
    → P (unwrap_or old x) → IfSome old Q
some_put None x leads is = tt
some_put (Some y) x leads is = leads y is

IsValidPaint-of : (i : ℕ) (paint : Paint) → IsPaintOf i paint → IsValidPaint paint
IsValidPaint-of i (paints.Ink c) is = is
IsValidPaint-of i paints.Video is = tt

pub paints_put : (p : Page) (old : OldValues) → IsValidPage (page_unwound p old) → (i : ℕ) → i < 32
    → IfSome (old_paint old i) IsValidPaint
paints_put p old valid i below =
    some_put {P = IsPaintOf i} {Q = IsValidPaint} (old_paint old i) (paint_in p.paints i) (IsValidPaint-of i)
    (subst (IsPaintOf i) (entry-list_by_index black_paint 0 32
    (λ k. unwrap_or (old_paint old k) (paint_in p.paints k)) i (omega arith) (omega (arith, below)))
    (valid.paints i below))

pub dclut_put : (p : Page) (old : OldValues) → IsValidPage (page_unwound p old) → (i : ℕ) → i < 4
    → IfSome (old_dclut old i) IsEntry
dclut_put p old valid i below =
    some_put {P = IsEntry} {Q = IsEntry} (old_dclut old i) (dclut_in p.dclut i) (λ n is. is)
    (subst IsEntry (entry-list_by_index 0 0 4
    (λ k. unwrap_or (old_dclut old k) (dclut_in p.dclut k)) i (omega arith) (omega (arith, below)))
    (valid.dclut i below))

abbrev IsPatternOrNone : Option Pattern → Type 0
IsPatternOrNone pattern = IfSome pattern IsValidPattern

pub patterns_put : (p : Page) (old : OldValues) → IsValidPage (page_unwound p old) → (d : ℕ) → 0x21 ≤ d → d ≤ 0x7E
    → IfSome (old_pattern old d) (λ pattern. IfSome pattern IsValidPattern)
patterns_put p old valid d low high =
    some_put {P = IsPatternOrNone} {Q = IsPatternOrNone} (old_pattern old d) (pattern_in p.patterns d) (λ q is. is)
    (subst IsPatternOrNone (entry-list_by_index None 0x21 94
    (λ k. unwrap_or (old_pattern old k) (pattern_in p.patterns k)) d low (omega (arith, high)))
    (valid.patterns d low high))

-- pages with the same parts
pub same_parts : (p q : Page) → p.cells ≡ q.cells → p.row_pens ≡ q.row_pens → p.screen_pen ≡ q.screen_pen
    → p.paints ≡ q.paints → p.dclut ≡ q.dclut → p.patterns ≡ q.patterns → p ≡ q
same_parts p q cells row_pens screen_pen paints dclut patterns =
    ap (λ (x : List (List Cell)). record p { cells = x }) cells
    ∙ ap (λ (x : List Pen). record p { cells = q.cells; row_pens = x }) row_pens
    ∙ ap (λ (x : Pen). record p { cells = q.cells; row_pens = q.row_pens; screen_pen = x }) screen_pen
    ∙ ap (λ (x : List Paint). record q { paints = x; dclut = p.dclut; patterns = p.patterns }) paints
    ∙ ap (λ (x : List ℕ). record q { dclut = x; patterns = p.patterns }) dclut
    ∙ ap (λ (x : List (Option Pattern)). record q { patterns = x }) patterns
