-- Pages read from their bytes, and decoders brought back by snapshots.
use Rattle.std.proofs.Common.{◌≡◌, ℕ, ◌+◌, ◌<◌, ◌≤◌, Bool, true, false, Option, Some, None, List, [], ◌∷◌, ◌++◌, length}
use Rattle.std.proofs.Common.{map, take, get_or, eqb, if◌then◌else◌, refl, sym, ◌∙◌, ap, subst, arith, append_assoc}
use Rattle.std.proofs.Common.{append-nil, inl, inr}
use Rattle.std.proofs.lemmas.Bool.{cases_lt, lt-ltb}
use Rattle.std.proofs.lemmas.List.{get_or-map, get_or-replicate, get_or_default, get_or_past, length-replicate}
use Rattle.std.proofs.lemmas.List.{same_lists, take_more}
use Rattle.cept_codes.specs.declared.command.Command.{Command}
use Rattle.cept_codes.specs.declared.item.Item.{Item}
use Rattle.cept_control.specs.Numbers.{bit, number_or}
use Rattle.cept_parser.specs.declared.context.Context.{Context}
use Rattle.cept_parser.specs.Items.{closed_items, commands, items, reading_within}
use Rattle.cept_parser.specs.State.{ParserState, running_state}
use Rattle.cept_profile.specs.Control.{ControlState}
use Rattle.cept_profile.specs.State.{State, core, core_of, state}
use Rattle.cept_redraw.specs.Marks.{no_marks}
use Rattle.cept_live.specs.Live.{IsPhase, LiveState, Stands}
use Rattle.cept_live.specs.Parts.{phase_by}

-- ---- items

-- at the start no item was seen
pub stands-start : (screen : State) → screen ≡ state [] → Stands screen (items [])
unfolding reading_within
stands-start screen is = record { valid = tt; is = is }

-- no item
pub stands-none : (screen : State) (seen : List Item) → Stands screen seen → Stands screen (seen ++ [])
stands-none screen seen stands = subst (Stands screen) (sym (append-nil seen)) stands

-- the items so far, and one more
pub stands-next : (mid new : State) (seen xs : List Item) (i : ℕ) (d : Item) → i < length xs
    → ((before : List Item) → Stands mid before → Stands new (before ++ get_or xs i d ∷ []))
    → Stands mid (seen ++ take i xs) → Stands new (seen ++ take (i + 1) xs)
stands-next mid new seen xs i d below one so_far =
    let more = append_assoc seen (take i xs) (get_or xs i d ∷ []) ∙ ap (λ l. seen ++ l) (sym (take_more xs i d below)) in
    subst (Stands new) more (one (seen ++ take i xs) so_far)

-- ---- pages

-- a written page brings its core back
pub core_back : (history : List Command) (screen : State) (page text : List ℕ) → core (commands text) ≡ core history
    → text ≡ page → Stands screen (closed_items page) → core_of screen ≡ core history
core_back history screen page text law is stands =
    ap core_of stands.is ∙ ap (λ (b : List ℕ). core (commands b)) (sym is) ∙ law

-- a screen with the core of another and its control is that one
pub page_back : (history : List Command) (screen : State) (control : ControlState) → core_of screen ≡ core history
    → control ≡ (state history).control
    → (let s : State = record { page = screen.page; control = control } in s) ≡ state history
page_back history screen control same is = λ i. record { page = (same i).page; control = is i }

-- ---- marks

-- of the places below a number those are marked whose bit is 1, and no others
pub record AreMarked (bits : List ℕ) (n : ℕ) (marks : List Bool) : Type 0 where
  pub places : length marks ≡ 960
  pub below : (k : ℕ) → k < n → get_or marks k false ≡ eqb (get_or bits k 0) 1
  pub others : (k : ℕ) → n < k + 1 → get_or marks k false ≡ false

pub marks_none : (bits : List ℕ) → AreMarked bits 0 no_marks
unfolding no_marks
marks_none bits = record {
  places = length-replicate 960 false;
  below = λ k below. absurd (omega (arith, below));
  others = λ k at. elim (cases_lt k 960) [
    | inl within ↦ get_or-replicate 960 k false false within
    | inr past ↦ get_or_past no_marks k false (omega (arith, past, length-replicate 960 false))
  ];
}

pub marks_all : (bits : List ℕ) (n : ℕ) (marks : List Bool) → 960 ≤ n → n ≤ 960 → AreMarked bits n marks
    → AreMarked bits 960 marks
marks_all bits n marks least most marked =
    subst (λ (m : ℕ). AreMarked bits m marks) (let e : n ≡ 960 = omega (arith, least, most) in e) marked

bit_back : (b : Bool) → eqb (bit b) 1 ≡ b
bit_back true = refl
bit_back false = refl

pub marks_back : (flags : List Bool) (bits : List ℕ) (marks : List Bool) → map bit flags ≡ bits → length flags ≡ 960
    → AreMarked bits 960 marks → marks ≡ flags
marks_back flags bits marks is places marked =
    same_lists marks flags (marked.places ∙ sym places) (λ k d below.
    let here : k < length flags = omega (arith, below, marked.places, places) in
    get_or_default marks k d false below ∙ marked.below k (omega (arith, below, marked.places))
    ∙ ap (λ (l : List ℕ). eqb (get_or l k 0) 1) (sym is) ∙ ap (λ n. eqb n 1) (get_or-map bit flags k d 0 here)
    ∙ bit_back (get_or flags k d))

-- ---- decoders

pub phase_back : (phase : Option ℕ) → IsPhase phase → phase_by (number_or 255 phase) ≡ phase
phase_back None valid = refl
phase_back (Some k) valid = ap (λ b. if b then Some k else None) (lt-ltb k 6 (valid k refl))

-- a parser that runs, by its parts
pub parser_back : (s : ParserState) (place : ℕ) (context : Context) (pending : List ℕ) → s.finished ≡ false
    → place ≡ s.place → context ≡ s.context → pending ≡ s.pending → running_state place context pending ≡ s
parser_back s place context pending running at in_context waits = λ i. record {
  place = at i;
  context = in_context i;
  pending = waits i;
  finished = (sym running) i;
}

-- a decoder by its parts
pub live_back : (live : LiveState) (parser : ParserState) (screen : State) (phase : Option ℕ) (renewed : List Bool)
    (past future : List State) → parser ≡ live.parser → screen ≡ live.screen → phase ≡ live.phase → renewed ≡ live.renewed
    → past ≡ live.past → future ≡ live.future → (let l : LiveState = record {
      parser = parser;
      screen = screen;
      phase = phase;
      renewed = renewed;
      past = past;
      future = future;
    } in l) ≡ live
live_back live parser screen phase renewed past future reads shows flashes told undone ahead = λ i. record {
  parser = reads i;
  screen = shows i;
  phase = flashes i;
  renewed = told i;
  past = undone i;
  future = ahead i;
}
