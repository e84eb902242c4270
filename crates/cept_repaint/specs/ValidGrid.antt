-- Valid paints, and that valid grids and paints are facts with one proof at most, which a glass may keep beside them.
-- The proofs stand here and not in proofs/, since the ghost fields of glasses take nothing from there.
use Rattle.std.specs.Prelude.{ℕ, ◌<◌, ◌⊎◌, List}
use Rattle.std.specs.List.{AllByRecursion, AllByRecursion-prop}
use Rattle.std.proofs.Props.{props}
use Rattle.std.proofs.Common.{ap, inl, inr, arith}
use Rattle.cept_codes.specs.declared.glyph.SetId.{SetId}
use Rattle.cept_codes.specs.declared.glyph.SetId.TheVariants.{P, S, M, N, D}
use Rattle.cept_codes.specs.declared.glyph.Glyph.{Glyph}
use Rattle.cept_codes.specs.declared.look.Paint.{Paint}
use Rattle.cept_codes.specs.declared.look.Paint.TheVariants as paints
use Rattle.cept_codes.specs.declared.look.Pattern.{Pattern}
use Rattle.cept_codes.specs.declared.look.Inks.{Inks}
use Rattle.cept_codes.specs.declared.look.Shape.{Shape}
use Rattle.cept_codes.specs.declared.look.Shape.TheVariants as shapes
use Rattle.cept_codes.specs.declared.look.Look.{Look}
use Rattle.cept_codes.specs.Glyph.{IsValidAccent, IsCodeOf, IsValidGlyph}
use Rattle.cept_codes.specs.Look.{IsValidPaint, IsValidPattern, IsValidInks, IsValidShape, IsValidLook}
use Rattle.cept_codes.specs.Place.{Place, OnScreen}
use Rattle.cept_profile.specs.Valid.{IsValidGrid}

-- each paint is a valid look at a place of the screen
abbrev pub IsValidPaintAt : Place × Look → Type 0
IsValidPaintAt paint = OnScreen paint.0.row paint.0.column × IsValidLook paint.1

-- each of the paints is one
abbrev pub AreValidPaints : List (Place × Look) → Type 0
AreValidPaints paints = AllByRecursion IsValidPaintAt paints

-- where two facts with one proof at most exclude each other, the fact that one of them holds has one proof at most too
either-prop : {A B : Type 0} → IsProp A → IsProp B → (A → B → ⊥) → IsProp (A ⊎ B)
either-prop a b apart (inl x) (inl y) = ap inl (a x y)
either-prop a b apart (inl x) (inr y) = absurd (apart x y)
either-prop a b apart (inr x) (inl y) = absurd (apart y x)
either-prop a b apart (inr x) (inr y) = ap inr (b x y)

IsValidAccent-prop : (set : SetId) (accent : ℕ) → IsProp (IsValidAccent set accent)
IsValidAccent-prop P accent = either-prop (hlevel props) (hlevel props) (λ none range. omega (arith, none, range.0))
IsValidAccent-prop S accent = hlevel props
IsValidAccent-prop M accent = hlevel props
IsValidAccent-prop N accent = hlevel props
IsValidAccent-prop D accent = hlevel props

beside_accents-prop : (code : ℕ) → IsProp ((code < 0x40) ⊎ (0x4F < code))
beside_accents-prop code = either-prop (hlevel props) (hlevel props) (λ below above. omega (arith, below, above))

IsCodeOf-prop : (set : SetId) (code : ℕ) → IsProp (IsCodeOf set code)
IsCodeOf-prop P code = hlevel props
IsCodeOf-prop S code = hlevel (props, beside_accents-prop)
IsCodeOf-prop M code = hlevel props
IsCodeOf-prop N code = hlevel props
IsCodeOf-prop D code = hlevel props

IsValidGlyph-prop : (g : Glyph) → IsProp (IsValidGlyph g)
IsValidGlyph-prop g = hlevel (props, IsCodeOf-prop, IsValidAccent-prop)

IsValidPaint-prop : (paint : Paint) → IsProp (IsValidPaint paint)
IsValidPaint-prop (paints.Ink c) = hlevel props
IsValidPaint-prop paints.Video = hlevel props

IsValidPattern-prop : (pattern : Pattern) → IsProp (IsValidPattern pattern)
IsValidPattern-prop pattern = hlevel props

IsValidInks-prop : (inks : Inks) (planes : ℕ) → IsProp (IsValidInks inks planes)
IsValidInks-prop inks planes = hlevel (props, AllByRecursion-prop IsValidPaint IsValidPaint-prop)

IsValidShape-prop : (shape : Shape) → IsProp (IsValidShape shape)
IsValidShape-prop shapes.Space = hlevel props
IsValidShape-prop (shapes.Char g) = IsValidGlyph-prop g
IsValidShape-prop (shapes.Drcs pattern inks) = hlevel (props, IsValidPattern-prop, IsValidInks-prop)

IsValidLook-prop : (l : Look) → IsProp (IsValidLook l)
IsValidLook-prop l = hlevel (props, IsValidShape-prop, IsValidPaint-prop)

pub IsValidGrid-prop : (g : List (List Look)) → IsProp (IsValidGrid g)
IsValidGrid-prop g = hlevel (props, IsValidLook-prop)

IsValidPaintAt-prop : (paint : Place × Look) → IsProp (IsValidPaintAt paint)
IsValidPaintAt-prop paint = hlevel (props, IsValidLook-prop)

pub AreValidPaints-prop : (paints : List (Place × Look)) → IsProp (AreValidPaints paints)
AreValidPaints-prop paints = AllByRecursion-prop IsValidPaintAt IsValidPaintAt-prop paints
