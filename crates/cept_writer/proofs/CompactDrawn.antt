-- The commands of the compact text make the strokes of the plain one, and leave control as these do.
use Rattle.std.proofs.Common.{◌≡◌, ℕ, Bool, true, false, cond, Option, None, Some, List, [], ◌∷◌, flat_map, map, refl}
use Rattle.std.proofs.Common.{ap, ◌∙◌, subst}
use Rattle.std.specs.List.{AllByRecursion}
use Rattle.cept_codes.specs.declared.command.Command.TheVariants as commands
use Rattle.cept_codes.specs.declared.look.Paint.{Paint}
use Rattle.cept_codes.specs.declared.look.Paint.TheVariants as paints
use Rattle.cept_codes.specs.declared.look.Pattern.{Pattern}
use Rattle.cept_codes.specs.declared.stroke.Stroke.{Stroke}
use Rattle.cept_codes.specs.declared.stroke.Stroke.TheVariants as strokes
use Rattle.cept_codes.specs.Same.{same_paint}
use Rattle.cept_profile.specs.Colours.{default_paint}
use Rattle.cept_profile.specs.PageParts.{paint_in, pattern_in}
use Rattle.cept_profile.specs.State.{Core}
use Rattle.cept_profile.specs.Valid.{IsValidCore}
use Rattle.cept_writer.specs.Chains.{Chain, chains, members}
use Rattle.cept_writer.specs.CompactCommands.{CodedPattern, NumberedColour, changed_below, changed_commands, changed_entry}
use Rattle.cept_writer.specs.CompactCommands.{codes_commands, coded_pattern, colours_commands, compact_commands}
use Rattle.cept_writer.specs.CompactCommands.{defined_below, defined_commands, form_commands, is_next_code, is_next_entry}
use Rattle.cept_writer.specs.CompactCommands.{is_of_same_form}
use Rattle.cept_writer.proofs.CellsWritten.{AreValidCells}
use Rattle.cept_writer.proofs.ChainLemmas.{chains_joined, pieces_by_number}
use Rattle.cept_writer.proofs.Drawing.{Draws, draws_joined}
use Rattle.cept_writer.proofs.PageDrawn.{PageDraws, first_draws, dclut_rests, ends, entries_strokes, entry_strokes, first_hand}
use Rattle.cept_writer.proofs.PageDrawn.{headed, page_strokes, pattern_strokes, patterns_strokes}
use Rattle.cept_writer.proofs.PageDrawn.{rows_rest, screen_rests, settles}
use Rattle.cept_writer.proofs.Resting.{AlwaysRests, Fixed, Hand, control_at_rest, fixed_of, rests_in_chains}
use Rattle.cept_writer.proofs.SegmentsDrawn.{Decides, segments_rest}

-- of each entry of a list
all_of : {X : Type 0} (P : X → Type 0) → ((x : X) → P x) → (list : List X) → AllByRecursion P list
all_of P holds [] = tt
all_of P holds (x ∷ list) = (holds x, all_of P holds list)

-- ---- colour entries

abbrev colour_put : NumberedColour → List Stroke
colour_put e = strokes.Colour e.number (paints.Ink e.colour) ∷ []

changed_puts : (defined : List Paint) (n : ℕ) → flat_map colour_put (changed_below defined n) ≡ entries_strokes defined n
unfolding changed_below entries_strokes
changed_puts defined n =
    pieces_by_number (λ i. changed_entry i (paint_in defined i)) colour_put (λ i. entry_strokes i (paint_in defined i))
    (λ i. each i (paint_in defined i)) 0 n where
      each : (i : ℕ) (p : Paint) → flat_map colour_put (changed_entry i p) ≡ entry_strokes i p
      each i paints.Video = refl
      each i (paints.Ink c) = by_test (same_paint (paints.Ink c) (default_paint i)) where
        by_test : (same : Bool) → flat_map colour_put (cond same [] (record { number = i; colour = c } ∷ []))
            ≡ cond same [] (strokes.Colour i (paints.Ink c) ∷ [])
        by_test true = refl
        by_test false = refl

-- ---- patterns

abbrev pattern_put : CodedPattern → List Stroke
pattern_put d = strokes.Drcs d.code d.pattern ∷ []

defined_puts : (patterns : List (Option Pattern)) (n : ℕ)
    → flat_map pattern_put (defined_below patterns n) ≡ patterns_strokes patterns n
unfolding defined_below patterns_strokes
defined_puts patterns n =
    pieces_by_number (λ code. coded_pattern code (pattern_in patterns code)) pattern_put
    (λ code. pattern_strokes code (pattern_in patterns code)) (λ code. each code (pattern_in patterns code)) 0x21 n where
      each : (code : ℕ) (o : Option Pattern) → flat_map pattern_put (coded_pattern code o) ≡ pattern_strokes code o
      each code None = refl
      each code (Some pattern) = refl

module _ (fixed : Fixed) where
  colours_draw : (v : Hand) (list : List NumberedColour)
      → Draws (control_at_rest fixed v) (map (λ e. commands.Entry e.number e.colour) list) (flat_map colour_put list)
      (control_at_rest fixed v)
  colours_draw v [] = record { control = refl; strokes = refl }
  colours_draw v (e ∷ list) =
      let rest = colours_draw v list in
      record {
        control = rest.control;
        strokes = ap (λ (l : List Stroke). strokes.Colour e.number (paints.Ink e.colour) ∷ l) rest.strokes;
      }

  colours_rest : (c : Chain NumberedColour)
      → AlwaysRests fixed (colours_commands c) (flat_map colour_put (members c))
  colours_rest c v =
      let all = colours_draw v (members c) in
      record { hand = v; draws = record { control = all.control; strokes = all.strokes } }

  changed_rest : (defined : List Paint) → AlwaysRests fixed (changed_commands defined) (entries_strokes defined 32)
  unfolding changed_commands
  changed_rest defined =
      let list : List NumberedColour = changed_below defined 32 in
      subst (λ (l : List Stroke). AlwaysRests fixed (changed_commands defined) l)
      (ap (flat_map colour_put) (chains_joined is_next_entry list) ∙ changed_puts defined 32)
      (rests_in_chains fixed colours_commands colour_put (chains is_next_entry list)
      (all_of (λ c. AlwaysRests fixed (colours_commands c) (flat_map colour_put (members c))) colours_rest
      (chains is_next_entry list)))

  patterns_draw : (v : Hand) (list : List CodedPattern)
      → Draws (control_at_rest fixed v) (map (λ d. commands.DrcsPattern d.code d.pattern) list)
      (flat_map pattern_put list) (control_at_rest fixed v)
  patterns_draw v [] = record { control = refl; strokes = refl }
  patterns_draw v (d ∷ list) =
      let rest = patterns_draw v list in
      record {
        control = rest.control;
        strokes = ap (λ (l : List Stroke). strokes.Drcs d.code d.pattern ∷ l) rest.strokes;
      }

  codes_rest : (c : Chain CodedPattern) → AlwaysRests fixed (codes_commands c) (flat_map pattern_put (members c))
  codes_rest c v =
      let all = patterns_draw v (members c) in
      record { hand = v; draws = record { control = all.control; strokes = all.strokes } }

  form_rests : (c : Chain CodedPattern) → AlwaysRests fixed (form_commands c) (flat_map pattern_put (members c))
  form_rests c v =
      let list : List (Chain CodedPattern) = chains is_next_code (members c) in
      let all = subst (λ (l : List CodedPattern). AlwaysRests fixed (flat_map codes_commands list) (flat_map pattern_put l))
      (chains_joined is_next_code (members c))
      (rests_in_chains fixed codes_commands pattern_put list
      (all_of (λ d. AlwaysRests fixed (codes_commands d) (flat_map pattern_put (members d))) codes_rest list)) v in
      record { hand = all.hand; draws = record { control = all.draws.control; strokes = all.draws.strokes } }

  defined_rest : (patterns : List (Option Pattern))
      → AlwaysRests fixed (defined_commands patterns) (patterns_strokes patterns 94)
  unfolding defined_commands
  defined_rest patterns =
      let list : List CodedPattern = defined_below patterns 94 in
      subst (λ (l : List Stroke). AlwaysRests fixed (defined_commands patterns) l)
      (ap (flat_map pattern_put) (chains_joined is_of_same_form list) ∙ defined_puts patterns 94)
      (rests_in_chains fixed form_commands pattern_put (chains is_of_same_form list)
      (all_of (λ c. AlwaysRests fixed (form_commands c) (flat_map pattern_put (members c))) form_rests
      (chains is_of_same_form list)))

-- ---- the page

pub compact_draws : Decides → (k : Core) → IsValidCore k → PageDraws k (compact_commands k)
unfolding compact_commands page_strokes
compact_draws decides k is =
    let cells : AreValidCells k.rows k.page.cells = record { valid = is.page.cells; past = is.past } in
    let a = headed (fixed_of k) (changed_commands k.page.paints) (entries_strokes k.page.paints 32)
    (changed_rest (fixed_of k) k.page.paints) first_hand in
    let b = dclut_rests (fixed_of k) k.page.dclut a.hand in
    let c = defined_rest (fixed_of k) k.page.patterns b.hand in
    let d = screen_rests (fixed_of k) k.page.screen_pen is.page.screen_pen.row c.hand in
    let e = rows_rest (fixed_of k) k.page.row_pens is.page.row_pens is.unset d.hand in
    let f = segments_rest decides (fixed_of k) k.page.cells cells e.hand in
    let last = settles k f.hand k.area k.implicit in
    record {
      hand = f.hand;
      draws = draws_joined _ _ _ _ _ _ _ (first_draws k is.revision) (draws_joined _ _ _ _ _ _ _ a.draws (draws_joined _ _ _ _ _ _ _ b.draws
          (draws_joined _ _ _ _ _ _ _ c.draws (draws_joined _ _ _ _ _ _ _ d.draws (draws_joined _ _ _ _ _ _ _ e.draws
          (ends _ _ _ _ _ _ f.draws last))))));
    }
