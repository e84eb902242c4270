-- The screen and its cells, piece by piece.
use Rattle.std.proofs.Common.{◌≡◌, ℕ, ◌+◌, ◌*◌, ◌<◌, List, [], ◌∷◌, ◌++◌, refl, sym, ◌∙◌, ap, subst}
use Rattle.std.proofs.Common.{arith, zero-add}
use Rattle.std.specs.Char.{encode_utf8}
use Rattle.cept_codes.specs.declared.look.Look.{Look}
use Rattle.cept_codes.specs.Look.{blank_look}
use Rattle.cept_codes.specs.Place.{Place, place_of}
use Rattle.cept_codes.specs.Table.{value_at}
use Rattle.cept_outside.specs.SinkState.{SinkState, Gains, GainsPart}
use Rattle.cept_profile.specs.Changes.{look_at}
use Rattle.cept_report.specs.Screen.{look_sign, row_line, screen_text, cell_text, cells_text}
use Rattle.cept_report.proofs.TextsInPieces.{pieces, pieces-more, Gains-piece, Gains-piece_failed}

-- the sign in row r and column c
abbrev pub sign_at : List (List Look) → ℕ → ℕ → List ℕ
sign_at g r c = look_sign (value_at blank_look g r c)

-- the line of the place with this number
abbrev pub line_at : List (List Look) → ℕ → List ℕ
line_at g n = cell_text (place_of n) (look_at g (place_of n))

pub row_line-is : (g : List (List Look)) (r : ℕ) → row_line g r ≡ pieces (sign_at g r) 1 40 ++ 10 ∷ []
unfolding row_line pieces
row_line-is g r = refl

pub screen_text-is : (g : List (List Look)) (rows : ℕ) → screen_text g rows ≡ pieces (row_line g) 1 rows
unfolding screen_text pieces
screen_text-is g rows = refl

pub cells_text-is : (g : List (List Look)) (rows : ℕ) → cells_text g rows ≡ pieces (line_at g) 0 (40 * rows)
unfolding cells_text pieces
cells_text-is g rows = refl

-- one sign more
pub row_line-more : (g : List (List Look)) (r i : ℕ) (before after : List ℕ) (p : Place) (l : Look)
    → before ≡ pieces (sign_at g r) 1 i → p ≡ record { row = r; column = i + 1 } → l ≡ look_at g p
    → after ≡ before ++ look_sign l
    → after ≡ pieces (sign_at g r) 1 (i + 1)
row_line-more g r i before after p l eb ep el ea =
    let here : l ≡ value_at blank_look g r (1 + i) = el ∙ ap (λ (q : Place). look_at g q) ep
    ∙ ap (λ k. value_at blank_look g r k) (let e : i + 1 ≡ 1 + i = omega arith in e) in
    ea ∙ ap (λ b. b ++ look_sign l) eb ∙ ap (λ (k : Look). pieces (sign_at g r) 1 i ++ look_sign k) here
    ∙ sym (pieces-more (sign_at g r) 1 i)

-- the line of the place with this number, by the place and its look
pub line_at-is : (g : List (List Look)) (n : ℕ) (p : Place) (l : Look) → p ≡ place_of n → l ≡ look_at g p
    → cell_text p l ≡ line_at g (0 + n)
line_at-is g n p l ep el =
    ap (λ (k : Look). cell_text p k) el ∙ ap (λ (q : Place). cell_text q (look_at g q)) ep
    ∙ ap (line_at g) (sym (zero-add n))

-- a row of the screen was put, a part of one, and all
next_row : (g : List (List Look)) (i : ℕ) (line : List ℕ) → line ≡ row_line g (i + 1) → line ≡ row_line g (1 + i)
next_row g i line is = is ∙ ap (row_line g) (let e : i + 1 ≡ 1 + i = omega arith in e)

pub Gains-row : (s t u : SinkState) (g : List (List Look)) (i : ℕ) (line : List ℕ) → line ≡ row_line g (i + 1)
    → Gains s (pieces (row_line g) 1 i) t → Gains t line u → Gains s (pieces (row_line g) 1 (i + 1)) u
Gains-row s t u g i line is before now = Gains-piece s t u (row_line g) 1 i line (next_row g i line is) before now

pub Gains-row_failed : (s t u : SinkState) (g : List (List Look)) (i rows : ℕ) (line : List ℕ) → i < rows
    → line ≡ row_line g (i + 1) → Gains s (pieces (row_line g) 1 i) t
    → GainsPart t line u
    → GainsPart s (screen_text g rows) u
Gains-row_failed s t u g i rows line h is before part =
    subst (λ (text : List ℕ). GainsPart s text u) (sym (screen_text-is g rows))
    (Gains-piece_failed s t u (row_line g) 1 i rows line h (next_row g i line is) before part)

pub Gains-screen : (s t : SinkState) (g : List (List Look)) (i rows : ℕ) → i ≡ rows
    → Gains s (pieces (row_line g) 1 i) t → Gains s (screen_text g rows) t
Gains-screen s t g i rows e before = subst (λ (text : List ℕ). Gains s text t)
    (ap (pieces (row_line g) 1) e ∙ sym (screen_text-is g rows)) before

-- a part of the line of a place was put, and all lines
pub Gains-cell_failed : (s t u : SinkState) (g : List (List Look)) (n rows : ℕ) (line : List ℕ) → n < 40 * rows
    → line ≡ line_at g (0 + n) → Gains s (pieces (line_at g) 0 n) t
    → GainsPart t line u
    → GainsPart s (cells_text g rows) u
Gains-cell_failed s t u g n rows line h is before part =
    subst (λ (text : List ℕ). GainsPart s text u) (sym (cells_text-is g rows))
    (Gains-piece_failed s t u (line_at g) 0 n (40 * rows) line h is before part)

pub Gains-cells : (s t : SinkState) (g : List (List Look)) (n rows : ℕ) → n ≡ 40 * rows
    → Gains s (pieces (line_at g) 0 n) t → Gains s (cells_text g rows) t
Gains-cells s t g n rows e before = subst (λ (text : List ℕ). Gains s text t)
    (ap (pieces (line_at g) 0) e ∙ sym (cells_text-is g rows)) before

-- a white square in UTF-8
pub white_square : encode_utf8 0x25A1 ≡ 0xE2 ∷ 0x96 ∷ 0xA1 ∷ []
unfolding encode_utf8
white_square = refl
