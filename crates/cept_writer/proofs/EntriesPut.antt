-- Entries and patterns that are put by what is kept of the last one.
use Rattle.std.proofs.Common.{◌≡◌, ℕ, suc, ◌+◌, ◌<◌, Bool, true, false, cond, Option, List, [], ◌∷◌}
use Rattle.std.proofs.Common.{refl, ap, ◌∙◌, arith}
use Rattle.cept_codes.specs.declared.command.Command.TheVariants as commands
use Rattle.cept_codes.specs.declared.look.Paint.{Paint}
use Rattle.cept_codes.specs.declared.look.Paint.TheVariants as paints
use Rattle.cept_codes.specs.declared.look.Pattern.{Pattern}
use Rattle.cept_codes.specs.declared.look.Rgb.{Rgb}
use Rattle.cept_codes.specs.Command.{IsValidCommand}
use Rattle.cept_codes.specs.Look.{IsValidRgb}
use Rattle.cept_codes.specs.Same.{same_paint}
use Rattle.cept_codes.specs.Stroke.{IsPaintOf}
use Rattle.cept_profile.specs.Colours.{default_paint}
use Rattle.cept_profile.specs.PageParts.{paint_in, pattern_in}
use Rattle.cept_profile.specs.State.{Core}
use Rattle.cept_profile.specs.Valid.{AllValid, IsValidCore}
use Rattle.cept_writer.specs.declared.last.LastPattern.{LastPattern}
use Rattle.cept_writer.specs.CompactCommands.{CodedPattern, NumberedColour, changed_entry, coded_pattern, is_next_entry}
use Rattle.cept_writer.specs.EntryPieces.{entry_numbered, entry_piece, last_below}
use Rattle.cept_writer.specs.inside.EntryPieces.{entries_after, last_pattern, last_then}
use Rattle.cept_writer.specs.EntryPieces.{later_of, pattern_numbered, pattern_piece}
use Rattle.cept_writer.specs.inside.EntryPieces.{number_after, number_then}
use Rattle.cept_writer.specs.EntryPieces.{piece_after, pieces_in_turn}
use Rattle.cept_writer.specs.inside.EntryPieces.{patterns_after}
use Rattle.cept_writer.proofs.StrokesByPart.{all_range}

-- the last one of one number more
pub last_more : {X : Type 0} (of_number : ℕ → List X) (n : ℕ)
    → later_of (of_number n) (last_below of_number n) ≡ last_below of_number (n + 1)
unfolding last_below
last_more of_number n = ap (last_below of_number) (let e : suc n ≡ n + 1 = omega arith in e)

-- ---- colour entries

entry_by_last : (last here : List NumberedColour)
    → entries_after (number_after last) here ≡ piece_after entry_piece last here
entry_by_last [] [] = refl
entry_by_last [] (e ∷ more) = refl
entry_by_last (d ∷ rest) [] = refl
entry_by_last (d ∷ rest) (e ∷ more) = refl

number_by_last : (last here : List NumberedColour)
    → number_then (number_after last) here ≡ number_after (later_of here last)
number_by_last last [] = refl
number_by_last last (e ∷ more) = refl

-- the entry of a number, by the number that was kept and the paint that was read
pub entry_is : (defined : List Paint) (n : ℕ) (next : Option ℕ) (p : Paint)
    → next ≡ number_after (last_below (entry_numbered defined) n) → p ≡ paint_in defined n
    → entries_after next (changed_entry n p)
    ≡ piece_after entry_piece (last_below (entry_numbered defined) n) (entry_numbered defined n)
entry_is defined n next p kept is =
    ap (λ (o : Option ℕ). entries_after o (changed_entry n p)) kept
    ∙ ap (λ (q : Paint). entries_after (number_after (last_below (entry_numbered defined) n)) (changed_entry n q)) is
    ∙ entry_by_last (last_below (entry_numbered defined) n) (entry_numbered defined n)

-- and the number that is kept then
pub number_is : (defined : List Paint) (n : ℕ) (next : Option ℕ) (p : Paint)
    → next ≡ number_after (last_below (entry_numbered defined) n) → p ≡ paint_in defined n
    → number_then next (changed_entry n p) ≡ number_after (last_below (entry_numbered defined) (n + 1))
number_is defined n next p kept is =
    ap (λ (o : Option ℕ). number_then o (changed_entry n p)) kept
    ∙ ap (λ (q : Paint). number_then (number_after (last_below (entry_numbered defined) n)) (changed_entry n q)) is
    ∙ number_by_last (last_below (entry_numbered defined) n) (entry_numbered defined n)
    ∙ ap number_after (last_more (entry_numbered defined) n)

entry_valid : (last : List NumberedColour) (i : ℕ) (c : Rgb) → i < 32 → IsValidRgb c
    → AllValid (entry_piece last (record { number = i; colour = c }))
entry_valid [] i c below is = (omega (arith, below), ((omega (arith, below), is), tt))
entry_valid (d ∷ more) i c below is = by_test (is_next_entry d (record { number = i; colour = c })) where
  by_test : (next : Bool)
      → AllValid (cond next (commands.Entry i c ∷ []) (commands.ColourStart i ∷ commands.Entry i c ∷ []))
  by_test true = ((omega (arith, below), is), tt)
  by_test false = (omega (arith, below), ((omega (arith, below), is), tt))

changed_valid : (last : List NumberedColour) (i : ℕ) (p : Paint) → i < 32 → IsPaintOf i p
    → AllValid (piece_after entry_piece last (changed_entry i p))
changed_valid last i paints.Video below is = tt
changed_valid last i (paints.Ink c) below is = by_test (same_paint (paints.Ink c) (default_paint i)) where
  by_test : (same : Bool)
      → AllValid (piece_after entry_piece last (cond same [] (record { number = i; colour = c } ∷ [])))
  by_test true = tt
  by_test false = entry_valid last i c below is

pub entries_valid : (k : Core) → IsValidCore k
    → AllValid (pieces_in_turn entry_piece (entry_numbered k.page.paints) 32)
unfolding pieces_in_turn
entries_valid k is =
    let of_number = entry_numbered k.page.paints in
    all_range IsValidCommand (λ j. piece_after entry_piece (last_below of_number j) (of_number j)) 0 32
    (λ j low high. changed_valid (last_below of_number j) j (paint_in k.page.paints j) high (is.page.paints j high)) 0 32
    (omega arith) (omega arith)

-- ---- patterns

pattern_by_last : (last here : List CodedPattern)
    → patterns_after (last_pattern last) here ≡ piece_after pattern_piece last here
pattern_by_last [] [] = refl
pattern_by_last [] (d ∷ more) = refl
pattern_by_last (c ∷ rest) [] = refl
pattern_by_last (c ∷ rest) (d ∷ more) = refl

kept_by_last : (last here : List CodedPattern)
    → last_then (last_pattern last) here ≡ last_pattern (later_of here last)
kept_by_last last [] = refl
kept_by_last last (d ∷ more) = refl

-- the pattern of a code, by what was kept and by the pattern that was read
pub pattern_is : (patterns : List (Option Pattern)) (n : ℕ) (last : Option LastPattern) (o : Option Pattern)
    → last ≡ last_pattern (last_below (pattern_numbered patterns) n) → o ≡ pattern_in patterns (0x21 + n)
    → patterns_after last (coded_pattern (0x21 + n) o)
    ≡ piece_after pattern_piece (last_below (pattern_numbered patterns) n) (pattern_numbered patterns n)
pattern_is patterns n last o kept is =
    ap (λ (k : Option LastPattern). patterns_after k (coded_pattern (0x21 + n) o)) kept
    ∙ ap (λ (q : Option Pattern). patterns_after (last_pattern (last_below (pattern_numbered patterns) n))
    (coded_pattern (0x21 + n) q)) is
    ∙ pattern_by_last (last_below (pattern_numbered patterns) n) (pattern_numbered patterns n)

-- and what is kept then
pub kept_is : (patterns : List (Option Pattern)) (n : ℕ) (last : Option LastPattern) (o : Option Pattern)
    → last ≡ last_pattern (last_below (pattern_numbered patterns) n) → o ≡ pattern_in patterns (0x21 + n)
    → last_then last (coded_pattern (0x21 + n) o) ≡ last_pattern (last_below (pattern_numbered patterns) (n + 1))
kept_is patterns n last o kept is =
    ap (λ (k : Option LastPattern). last_then k (coded_pattern (0x21 + n) o)) kept
    ∙ ap (λ (q : Option Pattern). last_then (last_pattern (last_below (pattern_numbered patterns) n))
    (coded_pattern (0x21 + n) q)) is
    ∙ kept_by_last (last_below (pattern_numbered patterns) n) (pattern_numbered patterns n)
    ∙ ap last_pattern (last_more (pattern_numbered patterns) n)
