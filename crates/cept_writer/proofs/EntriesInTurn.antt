-- The entries and the patterns of the compact text are their pieces, one number after the other.
use Rattle.std.proofs.Common.{◌≡◌, ℕ, zero, suc, ◌+◌, Bool, true, false, cond, Option, None, Some, List, [], ◌∷◌, ◌++◌, map}
use Rattle.std.proofs.Common.{flat_map, refl, sym, ap, ◌∙◌, append_assoc, arith}
use Rattle.std.specs.List.{range_with_len}
use Rattle.cept_codes.specs.declared.command.Command.{Command}
use Rattle.cept_codes.specs.declared.command.Command.TheVariants as commands
use Rattle.cept_codes.specs.declared.look.Paint.{Paint}
use Rattle.cept_codes.specs.declared.look.Paint.TheVariants as paints
use Rattle.cept_codes.specs.declared.look.Pattern.{Pattern}
use Rattle.cept_codes.specs.Same.{same_paint}
use Rattle.cept_parser.specs.Spelling.{form_of}
use Rattle.cept_profile.specs.Colours.{default_paint}
use Rattle.cept_profile.specs.PageParts.{paint_in, pattern_in}
use Rattle.cept_writer.specs.Chains.{Chain, alone, chains, chains_after, longer}
use Rattle.cept_writer.specs.CompactCommands.{CodedPattern, NumberedColour, changed_below, changed_commands, changed_entry}
use Rattle.cept_writer.specs.CompactCommands.{codes_commands, coded_pattern, colours_commands, defined_below}
use Rattle.cept_writer.specs.CompactCommands.{defined_commands, form_commands, is_next_code, is_next_entry, is_of_same_form}
use Rattle.cept_writer.specs.EntryPieces.{entry_numbered, entry_piece, headed_piece, last_below, later_of, pattern_numbered}
use Rattle.cept_writer.specs.EntryPieces.{pattern_piece, piece_after, pieces_in_turn}

-- ---- numbers in turn

-- none or one
abbrev IsOneAtMost : {X : Type 0} → List X → Type 0
IsOneAtMost [] = Unit {0}
IsOneAtMost (x ∷ []) = Unit {0}
IsOneAtMost (x ∷ (y ∷ more)) = ⊥

-- a list in its order, each by the one before it
abbrev text_after : {X : Type 0} → (List X → X → List Command) → List X → List X → List Command
text_after piece last [] = []
text_after piece last (x ∷ more) = piece last x ++ text_after piece (x ∷ []) more

module _ {X : Type 0} (piece : List X → X → List Command) (of_number : ℕ → List X)
    (few : (n : ℕ) → IsOneAtMost (of_number n)) where
  one_more_text : (last here rest : List X) → IsOneAtMost here
      → piece_after piece last here ++ text_after piece (later_of here last) rest ≡ text_after piece last (here ++ rest)
  one_more_text last [] rest is = refl
  one_more_text last (x ∷ []) rest is = refl
  one_more_text last (x ∷ (y ∷ more)) rest is = absurd is

  texts_from : (m n : ℕ)
      → flat_map (λ j. piece_after piece (last_below of_number j) (of_number j)) (range_with_len n m)
      ≡ text_after piece (last_below of_number n) (flat_map of_number (range_with_len n m))
  unfolding last_below
  texts_from zero n = refl
  texts_from (suc m) n =
      ap (λ (l : List Command). piece_after piece (last_below of_number n) (of_number n) ++ l)
      (texts_from m (n + 1)
      ∙ ap (λ (k : ℕ). text_after piece (last_below of_number k) (flat_map of_number (range_with_len (n + 1) m)))
      (let e : n + 1 ≡ suc n = omega arith in e))
      ∙ one_more_text (last_below of_number n) (of_number n) (flat_map of_number (range_with_len (n + 1) m)) (few n)

  in_turn : (n : ℕ) → pieces_in_turn piece of_number n ≡ text_after piece [] (flat_map of_number (range_with_len 0 n))
  unfolding pieces_in_turn last_below
  in_turn n = texts_from n 0

-- ---- colour entries

abbrev entry_command : NumberedColour → Command
entry_command e = commands.Entry e.number e.colour

record Run (e : NumberedColour) (list : List NumberedColour) : Type 0 where
  more : List NumberedColour
  rest : List (Chain NumberedColour)
  is : chains is_next_entry (e ∷ list) ≡ record { first = e; more = more } ∷ rest
  text : text_after entry_piece (e ∷ []) list ≡ map entry_command more ++ flat_map colours_commands rest

run_of : (e : NumberedColour) (list : List NumberedColour) → Run e list
unfolding chains
run_of e [] = record { more = []; rest = []; is = refl; text = refl }
run_of e (d ∷ list) = by_test (run_of d list) (is_next_entry e d) refl where
  by_test : Run d list → (next : Bool) → is_next_entry e d ≡ next → Run e (d ∷ list)
  by_test r true is = record {
    more = d ∷ r.more;
    rest = r.rest;
    is = ap (chains_after is_next_entry e) r.is
        ∙ ap (λ (t : Bool). cond t (longer e (record { first = d; more = r.more }) ∷ r.rest)
        (alone e ∷ (record { first = d; more = r.more } ∷ r.rest))) is;
    text = ap (λ (t : Bool). cond t (entry_command d ∷ []) (commands.ColourStart d.number ∷ entry_command d ∷ [])
        ++ text_after entry_piece (d ∷ []) list) is
        ∙ ap (λ (l : List Command). entry_command d ∷ l) r.text;
  }
  by_test r false is = record {
    more = [];
    rest = record { first = d; more = r.more } ∷ r.rest;
    is = ap (chains_after is_next_entry e) r.is
        ∙ ap (λ (t : Bool). cond t (longer e (record { first = d; more = r.more }) ∷ r.rest)
        (alone e ∷ (record { first = d; more = r.more } ∷ r.rest))) is;
    text = ap (λ (t : Bool). cond t (entry_command d ∷ []) (commands.ColourStart d.number ∷ entry_command d ∷ [])
        ++ text_after entry_piece (d ∷ []) list) is
        ∙ ap (λ (l : List Command). commands.ColourStart d.number ∷ (entry_command d ∷ l)) r.text;
  }

runs_are : (list : List NumberedColour)
    → text_after entry_piece [] list ≡ flat_map colours_commands (chains is_next_entry list)
unfolding chains
runs_are [] = refl
runs_are (e ∷ list) =
    let r = run_of e list in
    ap (λ (l : List Command). commands.ColourStart e.number ∷ (entry_command e ∷ l)) r.text
    ∙ ap (flat_map colours_commands) (sym r.is)

pub entries_are_pieces : (defined : List Paint)
    → pieces_in_turn entry_piece (entry_numbered defined) 32 ≡ changed_commands defined
unfolding changed_commands changed_below
entries_are_pieces defined =
    in_turn entry_piece (entry_numbered defined) (λ n. one n (paint_in defined n)) 32
    ∙ runs_are (flat_map (entry_numbered defined) (range_with_len 0 32)) where
      one : (n : ℕ) (p : Paint) → IsOneAtMost (changed_entry n p)
      one n paints.Video = tt
      one n (paints.Ink c) = by_test (same_paint (paints.Ink c) (default_paint n)) where
        by_test : (same : Bool) → IsOneAtMost {X = NumberedColour} (cond same [] (record { number = n; colour = c } ∷ []))
        by_test true = tt
        by_test false = tt

-- ---- patterns

abbrev pattern_command : CodedPattern → Command
pattern_command d = commands.DrcsPattern d.code d.pattern

record OneForm (d : CodedPattern) (list : List CodedPattern) : Type 0 where
  more : List CodedPattern
  rest : List (Chain CodedPattern)
  is : chains is_of_same_form (d ∷ list) ≡ record { first = d; more = more } ∷ rest
  codes : List CodedPattern
  others : List (Chain CodedPattern)
  within : chains is_next_code (d ∷ more) ≡ record { first = d; more = codes } ∷ others
  text : text_after pattern_piece (d ∷ []) list
      ≡ map pattern_command codes ++ (flat_map codes_commands others ++ flat_map form_commands rest)

-- the patterns of a form after its header
form_is : (d : CodedPattern) (list : List CodedPattern) (f : OneForm d list)
    → headed_piece d ++ text_after pattern_piece (d ∷ []) list
    ≡ form_commands (record { first = d; more = f.more }) ++ flat_map form_commands f.rest
form_is d list f =
    ap (λ (l : List Command). headed_piece d ++ l) f.text
    ∙ ap (λ (l : List Command). commands.DrcsHeader false (form_of d.pattern)
    ∷ (commands.DrcsStart d.code ∷ (pattern_command d ∷ l)))
    (sym (append_assoc (map pattern_command f.codes) (flat_map codes_commands f.others) (flat_map form_commands f.rest)))
    ∙ ap (λ (l : List (Chain CodedPattern)). commands.DrcsHeader false (form_of d.pattern)
    ∷ (flat_map codes_commands l ++ flat_map form_commands f.rest)) (sym f.within)

one_form : (d : CodedPattern) (list : List CodedPattern) → OneForm d list
unfolding chains
one_form d [] =
    record { more = []; rest = []; is = refl; codes = []; others = []; within = refl; text = refl }
one_form d (e ∷ list) = by_tests (one_form e list) (is_of_same_form d e) (is_next_code d e) refl refl where
  by_tests : OneForm e list → (form next : Bool) → is_of_same_form d e ≡ form → is_next_code d e ≡ next
      → OneForm d (e ∷ list)
  by_tests f false next is_form is_next = record {
    more = [];
    rest = record { first = e; more = f.more } ∷ f.rest;
    is = ap (chains_after is_of_same_form d) f.is
        ∙ ap (λ (t : Bool). cond t (longer d (record { first = e; more = f.more }) ∷ f.rest)
        (alone d ∷ (record { first = e; more = f.more } ∷ f.rest))) is_form;
    codes = [];
    others = [];
    within = refl;
    text = ap (λ (t : Bool). cond t (cond (is_next_code d e) (pattern_command e ∷ [])
        (commands.DrcsStart e.code ∷ pattern_command e ∷ [])) (headed_piece e)
        ++ text_after pattern_piece (e ∷ []) list) is_form ∙ form_is e list f;
  }
  by_tests f true true is_form is_next = record {
    more = e ∷ f.more;
    rest = f.rest;
    is = ap (chains_after is_of_same_form d) f.is
        ∙ ap (λ (t : Bool). cond t (longer d (record { first = e; more = f.more }) ∷ f.rest)
        (alone d ∷ (record { first = e; more = f.more } ∷ f.rest))) is_form;
    codes = e ∷ f.codes;
    others = f.others;
    within = ap (chains_after is_next_code d) f.within
        ∙ ap (λ (t : Bool). cond t (longer d (record { first = e; more = f.codes }) ∷ f.others)
        (alone d ∷ (record { first = e; more = f.codes } ∷ f.others))) is_next;
    text = ap (λ (t : Bool). cond t (cond (is_next_code d e) (pattern_command e ∷ [])
        (commands.DrcsStart e.code ∷ pattern_command e ∷ [])) (headed_piece e)
        ++ text_after pattern_piece (e ∷ []) list) is_form
        ∙ ap (λ (t : Bool). cond t (pattern_command e ∷ []) (commands.DrcsStart e.code ∷ pattern_command e ∷ [])
        ++ text_after pattern_piece (e ∷ []) list) is_next
        ∙ ap (λ (l : List Command). pattern_command e ∷ l) f.text;
  }
  by_tests f true false is_form is_next = record {
    more = e ∷ f.more;
    rest = f.rest;
    is = ap (chains_after is_of_same_form d) f.is
        ∙ ap (λ (t : Bool). cond t (longer d (record { first = e; more = f.more }) ∷ f.rest)
        (alone d ∷ (record { first = e; more = f.more } ∷ f.rest))) is_form;
    codes = [];
    others = record { first = e; more = f.codes } ∷ f.others;
    within = ap (chains_after is_next_code d) f.within
        ∙ ap (λ (t : Bool). cond t (longer d (record { first = e; more = f.codes }) ∷ f.others)
        (alone d ∷ (record { first = e; more = f.codes } ∷ f.others))) is_next;
    text = ap (λ (t : Bool). cond t (cond (is_next_code d e) (pattern_command e ∷ [])
        (commands.DrcsStart e.code ∷ pattern_command e ∷ [])) (headed_piece e)
        ++ text_after pattern_piece (e ∷ []) list) is_form
        ∙ ap (λ (t : Bool). cond t (pattern_command e ∷ []) (commands.DrcsStart e.code ∷ pattern_command e ∷ [])
        ++ text_after pattern_piece (e ∷ []) list) is_next
        ∙ ap (λ (l : List Command). commands.DrcsStart e.code ∷ (pattern_command e ∷ l)) (f.text
        ∙ sym (append_assoc (map pattern_command f.codes) (flat_map codes_commands f.others)
        (flat_map form_commands f.rest)));
  }

forms_are : (list : List CodedPattern)
    → text_after pattern_piece [] list ≡ flat_map form_commands (chains is_of_same_form list)
unfolding chains
forms_are [] = refl
forms_are (d ∷ list) =
    let f = one_form d list in
    form_is d list f ∙ ap (flat_map form_commands) (sym f.is)

numbers_moved : (patterns : List (Option Pattern)) (from j n : ℕ) → 0x21 + j ≡ from
    → flat_map (pattern_numbered patterns) (range_with_len j n)
    ≡ flat_map (λ code. coded_pattern code (pattern_in patterns code)) (range_with_len from n)
numbers_moved patterns from j zero e = refl
numbers_moved patterns from j (suc n) e =
    ap (λ (k : ℕ). coded_pattern k (pattern_in patterns k)
    ++ flat_map (pattern_numbered patterns) (range_with_len (j + 1) n)) e
    ∙ ap (λ (l : List CodedPattern). coded_pattern from (pattern_in patterns from) ++ l)
    (numbers_moved patterns (from + 1) (j + 1) n (omega (arith, e)))

pub patterns_are_pieces : (patterns : List (Option Pattern))
    → pieces_in_turn pattern_piece (pattern_numbered patterns) 94 ≡ defined_commands patterns
unfolding defined_commands defined_below
patterns_are_pieces patterns =
    in_turn pattern_piece (pattern_numbered patterns) (λ n. one (0x21 + n) (pattern_in patterns (0x21 + n))) 94
    ∙ forms_are (flat_map (pattern_numbered patterns) (range_with_len 0 94))
    ∙ ap (λ (l : List CodedPattern). flat_map form_commands (chains is_of_same_form l))
    (numbers_moved patterns 0x21 0 94 refl) where
      one : (code : ℕ) (o : Option Pattern) → IsOneAtMost (coded_pattern code o)
      one code None = tt
      one code (Some p) = tt
