-- Lists of paints and of the DCLUT: one entry written, and valid entries read with another default.
use Rattle.std.proofs.Common.{
  ◌≡◌,
  ℕ,
  zero,
  suc,
  ◌-◌,
  ◌<◌,
  ◌%◌,
  ◌==◌,
  cond,
  List,
  [],
  ◌∷◌,
  get_or,
  set,
  length,
  replicate,
  ◌≤◌,
}
use Rattle.std.proofs.Common.{refl, sym, ap, ◌∙◌, subst, arith, rules}
use Rattle.std.specs.List.{AllByRecursion}
use Rattle.std.proofs.lemmas.List.{length-replicate, get_or-replicate}
use Rattle.cept_codes.specs.declared.look.Paint.{Paint}
use Rattle.cept_codes.specs.declared.stroke.Stroke.TheVariants as strokes
use Rattle.cept_codes.specs.Look.{IsValidPaint, black_paint}
use Rattle.cept_codes.specs.Attribute.{IsEntry}
use Rattle.cept_codes.specs.Table.{HasMadeEntries, entry, list_by_index}
use Rattle.cept_codes.proofs.Laws.{set-entry, length-list_by_index, entry-list_by_index, HasMadeEntries-all}
use Rattle.cept_codes.proofs.Laws.{entry_from}
use Rattle.cept_profile.specs.Colours.{default_paint, default_paints}
use Rattle.cept_profile.specs.PageParts.{dclut_list_after, paints_after}
use Rattle.cept_colours.specs.Colours.{ColourTables, HasValidColours, default_colours}

-- one paint written
pub paints_written : (paints now : List Paint) (i j : ℕ) (paint : Paint) → length paints ≡ 32 → paints ≡ now
    → i < 32 → j ≡ i
    → set paints j paint ≡ paints_after now (strokes.Colour i paint)
paints_written paints now i j paint long same below e =
    set-entry black_paint paint 0 32 j i paints long (omega arith) (omega arith)
    ∙ ap (λ (l : List Paint). list_by_index 0 32 (λ k. cond (i == k) paint (entry black_paint 0 l k))) same

-- one entry of the DCLUT written
pub dclut_written : (dclut now : List ℕ) (i j v : ℕ) → length dclut ≡ 4 → dclut ≡ now → i < 4 → j ≡ i
    → set dclut j v ≡ dclut_list_after now (strokes.Dclut i v)
dclut_written dclut now i j v long same below e =
    set-entry 0 v 0 4 j i dclut long (omega arith) (omega arith)
    ∙ ap (λ (l : List ℕ). list_by_index 0 4 (λ k. cond (i == k) v (entry 0 0 l k))) same

-- before any paint is given
pub paints_black : HasMadeEntries black_paint 0 32 default_paint (λ _. black_paint) (replicate 32 black_paint) 0
paints_black = record {
  long = length-replicate 32 black_paint;
  made = λ k low high none. absurd (omega arith);
  left = λ k low high more. entry_from black_paint 0 (replicate 32 black_paint) k low
      ∙ get_or-replicate 32 (k - 0) black_paint black_paint (omega arith);
}

-- ---- the defaults are valid

all_valid : (xs : List Paint) → AllByRecursion IsValidPaint xs → (i : ℕ) → IsValidPaint (get_or xs i black_paint)
all_valid [] all i = record { r = omega arith; g = omega arith; b = omega arith }
all_valid (x ∷ xs) all zero = all.0
all_valid (x ∷ xs) all (suc i) = all_valid xs all.1 i

default_paints-valid : AllByRecursion IsValidPaint default_paints
unfolding default_paints
default_paints-valid = search rules

IsValidPaint-default_paint : (i : ℕ) → IsValidPaint (default_paint i)
IsValidPaint-default_paint i = all_valid default_paints default_paints-valid (i % 16)

pub HasValidColours-default : (c : ColourTables) → c ≡ default_colours → HasValidColours c
HasValidColours-default c e = subst (λ (t : ColourTables). HasValidColours t) (sym e) (record {
  colours = length-list_by_index 0 32 default_paint;
  paints = λ i low. subst IsValidPaint (sym (entry-list_by_index black_paint 0 32 default_paint i (omega arith)
      (omega arith)))
      (IsValidPaint-default_paint i);
  names = length-list_by_index 0 4 (λ i. i);
  dclut = λ i low. subst IsEntry (sym (entry-list_by_index 0 0 4 (λ k. k) i (omega arith) (omega arith))) (omega arith);
})

-- the DCLUT at the start
dclut_start : 0 ∷ 1 ∷ 2 ∷ 3 ∷ [] ≡ list_by_index 0 4 (λ i. i)
unfolding list_by_index
dclut_start = refl

-- all paints given
pub made : (paints : List Paint) (n : ℕ) → HasMadeEntries black_paint 0 32 default_paint (λ _. black_paint) paints n
    → 32 ≤ n → (let t : ColourTables = record { paints = paints; dclut = 0 ∷ 1 ∷ 2 ∷ 3 ∷ [] } in t) ≡ default_colours
made paints n m whole i = record {
  paints = HasMadeEntries-all black_paint 0 32 default_paint (λ _. black_paint) paints n m whole i;
  dclut = dclut_start i;
}
