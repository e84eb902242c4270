-- One more cell in the numbers of the walk, from 0: what is carried to it and what it leaves.
use Rattle.std.proofs.Common.{◌+◌, ◌-◌, ◌≢◌, List, length, slice_index_or, slice_set, get_or-set_other, get_or-set_same}
use Rattle.std.proofs.Common.{below_more, add-one, ◌≡◌, ℕ, ◌≤◌, ◌<◌, zero, suc, true, false}
use Rattle.std.proofs.Common.{Option, None, refl, sym, subst, ◌∙◌, ap, arith}
use Rattle.cept_codes.specs.declared.attribute.Full.{Full}
use Rattle.cept_codes.specs.declared.attribute.Pen.{Pen}
use Rattle.cept_codes.specs.Cell.{blank_cell}
use Rattle.cept_codes.specs.declared.cell.Cell.{Cell}
use Rattle.cept_codes.specs.declared.cell.Marker.{Marker}
use Rattle.cept_codes.specs.declared.cell.What.{What}
use Rattle.cept_codes.specs.declared.cell.What.TheVariants as whats
use Rattle.cept_codes.specs.declared.glyph.Glyph.{Glyph}
use Rattle.cept_codes.specs.Attribute.{IsValidFull, unset_pen}
use Rattle.cept_codes.specs.Cell.{IsValidMarker}
use Rattle.cept_codes.specs.declared.cell.Marker.TheVariants as markers
use Rattle.cept_profile.specs.Attributes.{cascade}
use Rattle.std.proofs.lemmas.Bool.{cond-false, cond-true}
use Rattle.cept_profile.specs.Serial.{acts_there, row_in, is_marker}
use Rattle.cept_profile.specs.Serial.{serial_attributes, held_sign}
use Rattle.cept_profile.specs.Influence.{Influence, full_after, influence, influence_after}
use Rattle.cept_profile.specs.Influence.{influence_in, held_sign_in}
use Rattle.cept_attrs.specs.Walk.{IsInfluence, influence_with_sign, influence_with_sign_at}
use Rattle.cept_profile.proofs.Laws.{influence-suc, serial_attributes-suc, held_sign-suc, in_plain, unmarked}

-- ---- in the code's numbers, from 0

cell_at : (cells : List Cell) (k : ℕ) → row_in cells (suc k) ≡ (slice_index_or cells k blank_cell).what
cell_at cells k = let e : suc k - 1 ≡ k = omega arith in ap (λ n. (slice_index_or cells n blank_cell).what) e

pub influence-next : (cells : List Cell) (pen screen : Pen) (k : ℕ)
    → influence (row_in cells) pen screen (k + 1)
    ≡ influence_after (slice_index_or cells k blank_cell).what (influence (row_in cells) pen screen k)
influence-next cells pen screen k =
    rw (
      add-one k,
      influence-suc (row_in cells) pen screen k,
    )
    (ap (λ w. influence_after w (influence (row_in cells) pen screen k)) (cell_at cells k))

pub serial_attributes-next : (cells : List Cell) (pen screen : Pen) (k : ℕ)
    → serial_attributes (row_in cells) pen screen (k + 1)
    ≡ (influence_in (slice_index_or cells k blank_cell).what (influence (row_in cells) pen screen k)).full
serial_attributes-next cells pen screen k =
    rw (
      add-one k,
      serial_attributes-suc (row_in cells) pen screen k,
    )
    (ap (λ w. (influence_in w (influence (row_in cells) pen screen k)).full) (cell_at cells k))

pub held_sign-next : (cells : List Cell) (pen screen : Pen) (k : ℕ)
    → held_sign (row_in cells) (k + 1)
    ≡ held_sign_in (slice_index_or cells k blank_cell).what (influence (row_in cells) pen screen k)
held_sign-next cells pen screen k =
    let e : k + 1 ≡ suc k = add-one k in
    ap (λ n. held_sign (row_in cells) n) e ∙ held_sign-suc (row_in cells) pen screen k
    ∙ ap (λ w. held_sign_in w (influence (row_in cells) pen screen k)) (cell_at cells k)

-- a list that is done up to an index, and one more
pub one_done : {X : Type 0} (xs : List X) (i : ℕ) (x : X) (f : ℕ → X) → i < length xs
    → ((k : ℕ) (d : X) → k < i → slice_index_or xs k d ≡ f k)
    → x ≡ f i → (k : ℕ) (d : X) → k < i + 1 → slice_index_or (slice_set xs i x) k d ≡ f k
one_done {X = X} xs i x f long done here k d h =
    below_more (λ k. (d : X) → slice_index_or (slice_set xs i x) k d ≡ f k) i
    (λ k below d. let other : k ≢ i = omega arith in rw get_or-set_other (done k d below))
    (λ d. rw get_or-set_same here)
    k h d

-- ---- a sign that is taken up only at a marker

-- at a marker the cell to the left is the one before it, or in the first column the marker itself
pub settled_here : (cells : List Cell) (k : ℕ) (s : Influence) → is_marker (slice_index_or cells k blank_cell).what ≡ true
    → influence_with_sign (row_in cells k) s ≡ influence_with_sign_at (row_in cells) k s
settled_here cells zero s marked = rw marked refl
settled_here cells (suc k) s marked = refl

-- after a cell without a marker its sign waits
settled_by : (w : What) (s t : Influence) → is_marker w ≡ false → t.full ≡ s.full → t.hold ≡ s.hold
    → influence_with_sign w s ≡ influence_after w t
settled_by (whats.Marker m) s t plain f h = cc
settled_by w s t plain f h = rw (f, h) refl

-- to take up a sign changes no attribute and no hold
settled_full : (row : ℕ → What) (k : ℕ) (s : Influence) → (influence_with_sign_at row k s).full ≡ s.full
settled_full row zero s = refl
settled_full row (suc k) s = refl

settled_hold : (row : ℕ → What) (k : ℕ) (s : Influence) → (influence_with_sign_at row k s).hold ≡ s.hold
settled_hold row zero s = refl
settled_hold row (suc k) s = refl

pub plain_held : (w : What) (s : Influence) → is_marker w ≡ false → held_sign_in w s ≡ None
plain_held w s plain = rw plain refl

-- in a row without markers the attributes are those of the row and the screen everywhere, and no sign is held
pub unmarked_full : (row : ℕ → What) (pen screen : Pen) (c : ℕ) → ((d : ℕ) → 1 ≤ d → d ≤ 40 → is_marker (row d) ≡ false)
    → 1 ≤ c → c ≤ 40 → serial_attributes row pen screen c ≡ cascade unset_pen pen screen
unmarked_full row pen screen zero plain low high = absurd (omega arith)
unmarked_full row pen screen (suc c) plain low high =
    rw (serial_attributes-suc row pen screen c)
    (in_plain (row (suc c)) (influence row pen screen c) (plain (suc c) low high)
    ∙ unmarked row pen screen c (λ d from to. plain d from (omega arith)))

pub unmarked_held : (row : ℕ → What) (c : ℕ) → ((d : ℕ) → 1 ≤ d → d ≤ 40 → is_marker (row d) ≡ false)
    → 1 ≤ c → c ≤ 40 → held_sign row c ≡ None
unmarked_held row c plain low high = rw (plain c low high) refl

-- what is not a marker
pub plain_from : (w : What) → ((m : Marker) → w ≡ whats.Marker m → ⊥) → is_marker w ≡ false
plain_from (whats.Marker m) h = absurd (h m refl)
plain_from w h = refl

-- ---- a marker, in plain values: what stands there, what was carried with the sign to the left taken up, and what
-- the marker makes of it

pub record IsMarked (cells : List Cell) (pen screen : Pen) (k : ℕ) (m : Marker) (s : Influence) : Type 0 where
  pub there : (slice_index_or cells k blank_cell).what ≡ whats.Marker m
  pub influence : influence (row_in cells) pen screen k ≡ s

-- the sign of a cell waits for the next one
waits : (cells : List Cell) (k : ℕ) (s : Influence)
    → influence_with_sign_at (row_in cells) (k + 1) s ≡ influence_with_sign (slice_index_or cells k blank_cell).what s
waits cells k s = rw (add-one k) (ap (λ w. influence_with_sign w s) (cell_at cells k))

pub is_marked : (cells : List Cell) (pen screen : Pen) (k left : ℕ) (m : Marker) (s t : Influence)
    → (slice_index_or cells k blank_cell).what ≡ whats.Marker m
    → left ≡ k - 1 → influence (row_in cells) pen screen k ≡ influence_with_sign_at (row_in cells) k s
    → t ≡ influence_with_sign (slice_index_or cells left blank_cell).what s
    → IsMarked cells pen screen k m t
is_marked cells pen screen k left m s t there l c e = record {
  there = there;
  influence = c ∙ sym (settled_here cells k s (ap is_marker there))
      ∙ sym (e ∙ ap (λ n. influence_with_sign (slice_index_or cells n blank_cell).what s) l);
}

pub marked_carried : (cells : List Cell) (pen screen : Pen) (k : ℕ) (m : Marker) (s t : Influence)
    → IsMarked cells pen screen k m s
    → t ≡ influence_after (whats.Marker m) s → influence (row_in cells) pen screen (k + 1)
    ≡ influence_with_sign_at (row_in cells) (k + 1) t
marked_carried cells pen screen k m s t h e =
    rw (waits cells k t, influence-next cells pen screen k, h.there, h.influence) (sym e)

pub marked_full : (cells : List Cell) (pen screen : Pen) (k : ℕ) (m : Marker) (s : Influence) (full : Full)
    → IsMarked cells pen screen k m s
    → full ≡ (influence_in (whats.Marker m) s).full → full ≡ serial_attributes (row_in cells) pen screen (k + 1)
marked_full cells pen screen k m s full h e = rw (serial_attributes-next cells pen screen k, h.there, h.influence) e

pub marked_held : (cells : List Cell) (pen screen : Pen) (k : ℕ) (m : Marker) (s : Influence) (sign : Option Glyph)
    → IsMarked cells pen screen k m s
    → sign ≡ held_sign_in (whats.Marker m) s → sign ≡ held_sign (row_in cells) (k + 1)
marked_held cells pen screen k m s sign h e = rw (held_sign-next cells pen screen k, h.there, h.influence) e

-- ---- another cell, in plain values

pub record IsPlain (cells : List Cell) (pen screen : Pen) (k : ℕ) (s : Influence) : Type 0 where
  pub there : is_marker (slice_index_or cells k blank_cell).what ≡ false
  pub influence : influence (row_in cells) pen screen k ≡ influence_with_sign_at (row_in cells) k s

pub plain_carried : (cells : List Cell) (pen screen : Pen) (k : ℕ) (s : Influence) → IsPlain cells pen screen k s
    → influence (row_in cells) pen screen (k + 1) ≡ influence_with_sign_at (row_in cells) (k + 1) s
plain_carried cells pen screen k s h =
    rw (waits cells k s, influence-next cells pen screen k, h.influence)
    (sym (settled_by (slice_index_or cells k blank_cell).what s (influence_with_sign_at (row_in cells) k s) h.there
    (settled_full (row_in cells) k s) (settled_hold (row_in cells) k s)))

pub plain_full : (cells : List Cell) (pen screen : Pen) (k : ℕ) (s : Influence) → IsPlain cells pen screen k s
    → s.full ≡ serial_attributes (row_in cells) pen screen (k + 1)
plain_full cells pen screen k s h =
    rw (serial_attributes-next cells pen screen k, h.influence)
    (sym (in_plain (slice_index_or cells k blank_cell).what (influence_with_sign_at (row_in cells) k s) h.there
    ∙ settled_full (row_in cells) k s))

-- ---- the same by columns, from 1

back_again : (c : ℕ) → 1 ≤ c → c - 1 + 1 ≡ c
back_again c low = omega arith

pub passed_influence : (cells : List Cell) (row screen : Pen) (c : ℕ) (s : Influence) → 1 ≤ c
    → is_marker (row_in cells c) ≡ false → IsInfluence (row_in cells) row screen (c - 1) s
    → IsInfluence (row_in cells) row screen c s
unfolding IsInfluence
passed_influence cells row screen c s low plain is =
    subst (λ n. influence (row_in cells) row screen n ≡ influence_with_sign_at (row_in cells) n s) (back_again c low)
    (plain_carried cells row screen (c - 1) s (record { there = plain; influence = is }))

pub passed_full : (cells : List Cell) (row screen : Pen) (c : ℕ) (s : Influence) → 1 ≤ c
    → is_marker (row_in cells c) ≡ false → IsInfluence (row_in cells) row screen (c - 1) s
    → s.full ≡ serial_attributes (row_in cells) row screen c
unfolding IsInfluence
passed_full cells row screen c s low plain is =
    plain_full cells row screen (c - 1) s (record { there = plain; influence = is })
    ∙ ap (serial_attributes (row_in cells) row screen) (back_again c low)

pub passed_held : (cells : List Cell) (c : ℕ) → is_marker (row_in cells c) ≡ false → held_sign (row_in cells) c ≡ None
passed_held cells c plain = rw plain refl

-- what stands in the column, and what was carried with the sign to the left taken up
pub marked_at : (cells : List Cell) (row screen : Pen) (c left : ℕ) (m : Marker) (s t : Influence)
    → row_in cells c ≡ whats.Marker m → left ≡ c - 1 - 1 → IsInfluence (row_in cells) row screen (c - 1) s
    → t ≡ influence_with_sign (slice_index_or cells left blank_cell).what s → IsMarked cells row screen (c - 1) m t
unfolding IsInfluence
marked_at cells row screen c left m s t there l is e = is_marked cells row screen (c - 1) left m s t there l is e

pub marked_influence : (cells : List Cell) (row screen : Pen) (c : ℕ) (m : Marker) (s t : Influence) → 1 ≤ c
    → IsMarked cells row screen (c - 1) m s → t ≡ influence_after (whats.Marker m) s
    → IsInfluence (row_in cells) row screen c t
unfolding IsInfluence
marked_influence cells row screen c m s t low h e =
    subst (λ n. influence (row_in cells) row screen n ≡ influence_with_sign_at (row_in cells) n t) (back_again c low)
    (marked_carried cells row screen (c - 1) m s t h e)

-- what is in force in the cell of a marker, where it acts there, and where it doesn't
pub full_at_once : (cells : List Cell) (row screen : Pen) (c : ℕ) (m : Marker) (s t : Influence) → 1 ≤ c
    → IsMarked cells row screen (c - 1) m s → t ≡ influence_after (whats.Marker m) s → acts_there (whats.Marker m) ≡ true
    → t.full ≡ serial_attributes (row_in cells) row screen c
full_at_once cells row screen c m s t low h e acts =
    marked_full cells row screen (c - 1) m s t.full h (ap (λ (x : Influence). x.full) (e
    ∙ sym (cond-true _ _ _ acts)))
    ∙ ap (serial_attributes (row_in cells) row screen) (back_again c low)

pub full_later : (cells : List Cell) (row screen : Pen) (c : ℕ) (left : What) (m : Marker) (s t : Influence) → 1 ≤ c
    → IsMarked cells row screen (c - 1) m t → t ≡ influence_with_sign left s → acts_there (whats.Marker m) ≡ false
    → s.full ≡ serial_attributes (row_in cells) row screen c
full_later cells row screen c left m s t low h e acts =
    marked_full cells row screen (c - 1) m t s.full h (ap (λ (x : Influence). x.full) (sym e
    ∙ sym (cond-false _ _ _ acts)))
    ∙ ap (serial_attributes (row_in cells) row screen) (back_again c low)

pub held_at : (cells : List Cell) (row screen : Pen) (c : ℕ) (m : Marker) (s : Influence) (sign : Option Glyph) → 1 ≤ c
    → IsMarked cells row screen (c - 1) m s → sign ≡ held_sign_in (whats.Marker m) s
    → sign ≡ held_sign (row_in cells) c
held_at cells row screen c m s sign low h e =
    marked_held cells row screen (c - 1) m s sign h e ∙ ap (λ n. held_sign (row_in cells) n) (back_again c low)

-- a valid marker leaves valid attributes
full_after-valid : (m : Marker) (f : Full) → IsValidMarker m → IsValidFull f → IsValidFull (full_after m f)
full_after-valid (markers.Alpha e) f v h = record { fore = v; back = h.back }
full_after-valid (markers.Mosaic e) f v h = record { fore = v; back = h.back }
full_after-valid markers.BlackBack f v h = record { fore = h.fore; back = omega arith }
full_after-valid markers.NewBack f v h = record { fore = h.fore; back = h.fore }
full_after-valid m f v h = record { fore = h.fore; back = h.back }

pub marked_valid : (left : What) (m : Marker) (s t u : Influence) → t ≡ influence_with_sign left s
    → u ≡ influence_after (whats.Marker m) t → IsValidMarker m → IsValidFull s.full → IsValidFull u.full
marked_valid left m s t u e f v h =
    subst (λ (x : Influence). IsValidFull x.full) (sym (f ∙ ap (influence_after (whats.Marker m)) e))
    (full_after-valid m s.full v h)
