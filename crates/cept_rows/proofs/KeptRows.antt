-- Rows of small looks: what stands in a column, and a column set.
use Rattle.std.proofs.Common.{refl, ◌≡◌, ℕ, ◌-◌, ◌≤◌, ◌<◌, ◌==◌, ◌&&◌, ◌||◌, Bool, false, true, not, List, get_or, set}
use Rattle.std.proofs.Common.{length, sym, subst, ap}
use Rattle.std.proofs.Common.{◌∙◌, arith, inl, inr, zero, suc}
use Rattle.std.proofs.lemmas.Bool.{cases_eq, cases_lt}
use Rattle.std.proofs.lemmas.List.{get_or-set_other, get_or-set_same, get_or_default, length-set}
use Rattle.cept_codes.specs.declared.look.Look.{Look}
use Rattle.cept_codes.specs.declared.look.Part.{Part}
use Rattle.cept_codes.specs.Look.{IsValidLook, blank_look}
use Rattle.cept_profile.specs.Look.{part_of}
use Rattle.cept_profile.specs.Tiling.{column_entry, covers_below}
use Rattle.cept_rows.specs.declared.drawing.Drawing.{Drawing}
use Rattle.cept_rows.specs.declared.row_looks.RowLooks.TheInside.{Inside}
use Rattle.cept_rows.specs.declared.small_look.SmallLook.{SmallLook}
use Rattle.cept_rows.specs.KeptRows.{IsKeptRow, kept_in, looks_kept}
use Rattle.cept_rows.specs.inside.KeptRows.{HasNoPatterns}
use Rattle.cept_rows.specs.SmallLooks.{IsSmallLook, blank_small, has_pattern, look_kept, no_drawing}
use Rattle.cept_rows.specs.inside.SmallLooks.{drawing_of}
use Rattle.cept_rows.specs.SmallLooks.{small_of}
use Rattle.cept_rows.proofs.Columns.{column_entry-past, length-row_of, same_rows, set-row_of}
use Rattle.cept_rows.proofs.KeptLooks.{IsSmallLook-plain, column_kept, drawing_kept, look_kept-plain}

-- ---- read

-- forty columns
pub columns_of : (a : Inside) (now : List Look) → looks_kept a ≡ now → length now ≡ 40
columns_of a now is = ap length (sym is) ∙ length-row_of (kept_in a.looks a.drawn)

-- the look in a column
look_at : (a : Inside) (now : List Look) (c : ℕ) → looks_kept a ≡ now → 1 ≤ c → c ≤ 40
    → kept_in a.looks a.drawn c ≡ column_entry blank_look now c
look_at a now c is low high =
    sym (column_kept a.looks a.drawn c low high) ∙ ap (λ l. column_entry blank_look l c) is

-- as it is read, whatever stands past the last
pub entry_at : (a : Inside) (now : List Look) (c : ℕ) (s : SmallLook) (d : Drawing) → IsKeptRow a → looks_kept a ≡ now
    → 1 ≤ c → c ≤ 40 → look_kept (get_or a.looks (c - 1) s) (get_or a.drawn (c - 1) d) ≡ column_entry blank_look now c
entry_at a now c s d kept is low high =
    (λ i. look_kept (get_or_default a.looks (c - 1) s blank_small (omega (arith, kept.columns)) i)
    (get_or_default a.drawn (c - 1) d no_drawing (omega (arith, kept.drawings)) i))
    ∙ look_at a now c is low high

-- they can be kept
pub kept_at : (a : Inside) (c : ℕ) (s : SmallLook) (d : Drawing) → IsKeptRow a → 1 ≤ c → c ≤ 40
    → IsSmallLook (get_or a.looks (c - 1) s) (get_or a.drawn (c - 1) d)
kept_at a c s d kept low high =
    subst (λ x. IsSmallLook x (get_or a.drawn (c - 1) d))
    (get_or_default a.looks (c - 1) blank_small s (omega (arith, kept.columns)))
    (subst (λ x. IsSmallLook (get_or a.looks (c - 1) blank_small) x)
    (get_or_default a.drawn (c - 1) no_drawing d (omega (arith, kept.drawings))) (kept.small (c - 1) (omega arith)))

-- the small look
pub small_at : (a : Inside) (now : List Look) (c : ℕ) (s : SmallLook) → IsKeptRow a → looks_kept a ≡ now → 1 ≤ c
    → c ≤ 40 → get_or a.looks (c - 1) s ≡ small_of (column_entry blank_look now c)
small_at a now c s kept is low high =
    sym (kept_at a c s no_drawing kept low high).shown
    ∙ ap small_of (entry_at a now c s no_drawing kept is low high)

-- the drawing of a pattern
pub drawing_at : (a : Inside) (now : List Look) (c : ℕ) (d : Drawing) → IsKeptRow a → looks_kept a ≡ now → 1 ≤ c
    → c ≤ 40 → has_pattern (small_of (column_entry blank_look now c)) ≡ true
    → get_or a.drawn (c - 1) d ≡ drawing_of (column_entry blank_look now c).shape
drawing_at a now c d kept is low high pattern =
    sym (drawing_kept (get_or a.looks (c - 1) blank_small) (get_or a.drawn (c - 1) d)
    (ap has_pattern (small_at a now c blank_small kept is low high) ∙ pattern))
    ∙ ap (λ l. drawing_of l.shape) (entry_at a now c blank_small d kept is low high)

-- and the look is valid
pub valid_at : (a : Inside) (now : List Look) (c : ℕ) → IsKeptRow a → looks_kept a ≡ now → 1 ≤ c → c ≤ 40
    → IsValidLook (column_entry blank_look now c)
valid_at a now c kept is low high =
    subst IsValidLook (look_at a now c is low high) (kept.small (c - 1) (omega arith)).valid

-- what is so of each look is so outside the row too
everywhere : (P : Look → Type 0) (a : Inside) (now : List Look) → looks_kept a ≡ now → P blank_look
    → ((k : ℕ) → k < 40 → P (look_kept (get_or a.looks k blank_small) (get_or a.drawn k no_drawing))) → (c : ℕ)
    → P (column_entry blank_look now c)
everywhere P a now is blank each zero = blank
everywhere P a now is blank each (suc c) =
    elim (cases_lt c 40) [
      | inl below ↦
          subst P (look_at a now (suc c) is (omega arith) (omega arith)) (each (suc c - 1) (omega (arith, below)))
      | inr past ↦
          subst P (sym (column_entry-past blank_look now (suc c) (columns_of a now is) (omega arith))) blank
    ]

-- without the flags
pub unset : (b : Bool) → not b ≡ true → b ≡ false
unset true e = cc
unset false e = refl

pub no_patterns : (a : Inside) (now : List Look) → IsKeptRow a → looks_kept a ≡ now → a.patterned ≡ false
    → HasNoPatterns now
no_patterns a now kept is e =
    everywhere (λ l. has_pattern (small_of l) ≡ false) a now is refl
    (λ k below. ap has_pattern (kept.small k below).shown ∙ kept.plain e k below)

pub none_covers : (a : Inside) (now : List Look) → IsKeptRow a → looks_kept a ≡ now → a.tall ≡ false → (c : ℕ)
    → covers_below (part_of (column_entry blank_look now c)) ≡ false
none_covers a now kept is e =
    everywhere (λ l. covers_below (part_of l) ≡ false) a now is refl (λ k below. kept.low e k below)

-- other drawings beside a row without patterns
pub drawings_kept : (a : Inside) (drawn : List Drawing) → IsKeptRow a → a.patterned ≡ false → length drawn ≡ 40
    → IsKeptRow (record a { drawn = drawn })
drawings_kept a drawn kept e long = record {
  columns = kept.columns;
  drawings = long;
  small = λ k below. IsSmallLook-plain (get_or a.looks k blank_small) (get_or a.drawn k no_drawing)
      (get_or drawn k no_drawing) (kept.plain e k below) (kept.small k below);
  plain = kept.plain;
  low = kept.low;
}

pub drawings_shown : (a : Inside) (drawn : List Drawing) → IsKeptRow a → a.patterned ≡ false
    → looks_kept (record a { drawn = drawn }) ≡ looks_kept a
drawings_shown a drawn kept e =
    same_rows (kept_in a.looks drawn) (kept_in a.looks a.drawn)
    (λ c low high. look_kept-plain (get_or a.looks (c - 1) blank_small) (get_or drawn (c - 1) no_drawing)
    (get_or a.drawn (c - 1) no_drawing) (kept.plain e (c - 1) (omega arith)))

-- ---- set

-- what is set, and what stays
at_set : {X : Type 0} (P : X → Type 0) (list : List X) (k j : ℕ) (x d : X) → length list ≡ 40 → k < 40 → P x
    → P (get_or list j d) → P (get_or (set list k x) j d)
at_set P list k j x d long below px pj =
    elim (cases_eq j k) [
      | inl e ↦
          subst P (sym (ap (λ n. get_or (set list k x) n d) e
          ∙ get_or-set_same list k x d (omega (arith, below, long)))) px
      | inr other ↦ subst P (sym (get_or-set_other list k j x d other)) pj
    ]

-- a flag that was unset stays so, and what it was set by was not there
flag_unset : (was sets : Bool) → (was || sets) ≡ false → (was ≡ false) × (sets ≡ false)
flag_unset true sets e = cc
flag_unset false sets e = (refl, e)

never : (b : Bool) → (b && false) ≡ false
never true = refl
never false = refl

-- a look of this height covers nothing
low_part : (p : Part) → (p.h == 2) ≡ false → covers_below p ≡ false
low_part p e = ap (λ b. p.dy == 0 && b) e ∙ never (p.dy == 0)

-- a look without a pattern
put_kept : (a : Inside) (c : ℕ) (s : SmallLook) (tall : Bool) → IsKeptRow a → 1 ≤ c → c ≤ 40
    → has_pattern s ≡ false → (tall ≡ false → (a.tall ≡ false) × (covers_below s.part ≡ false))
    → IsSmallLook s no_drawing → IsKeptRow (record a { looks = set a.looks (c - 1) s; tall = tall })
put_kept a c s tall kept low high plain short small = record {
  columns = length-set a.looks (c - 1) s ∙ kept.columns;
  drawings = kept.drawings;
  small = λ k below. at_set (λ x. IsSmallLook x (get_or a.drawn k no_drawing)) a.looks (c - 1) k s blank_small
      kept.columns (omega arith) (IsSmallLook-plain s no_drawing (get_or a.drawn k no_drawing) plain small)
      (kept.small k below);
  plain = λ e k below. at_set (λ x. has_pattern x ≡ false) a.looks (c - 1) k s blank_small kept.columns (omega arith)
      plain (kept.plain e k below);
  low = λ e k below. at_set (λ x. covers_below x.part ≡ false) a.looks (c - 1) k s blank_small kept.columns
      (omega arith) (short e).1 (kept.low (short e).0 k below);
}

-- of single height
pub put_short : (a : Inside) (c : ℕ) (s : SmallLook) → IsKeptRow a → 1 ≤ c → c ≤ 40
    → has_pattern s ≡ false → covers_below s.part ≡ false
    → IsSmallLook s no_drawing → IsKeptRow (record a { looks = set a.looks (c - 1) s })
put_short a c s kept low high plain short small =
    put_kept a c s a.tall kept low high plain (λ e. (e, short)) small

-- of any
pub put_tall : (a : Inside) (c : ℕ) (s : SmallLook) → IsKeptRow a → 1 ≤ c → c ≤ 40
    → has_pattern s ≡ false → IsSmallLook s no_drawing
    → IsKeptRow (record a { looks = set a.looks (c - 1) s; tall = a.tall || (s.part.h == 2) })
put_tall a c s kept low high plain small =
    put_kept a c s (a.tall || (s.part.h == 2)) kept low high plain
    (λ e. let unset = flag_unset a.tall (s.part.h == 2) e in (unset.0, low_part s.part unset.1)) small

-- they show it
pub put_shown : (a : Inside) (now : List Look) (c : ℕ) (s : SmallLook) (tall : Bool) → IsKeptRow a
    → looks_kept a ≡ now → 1 ≤ c → c ≤ 40 → has_pattern s ≡ false
    → looks_kept (record a { looks = set a.looks (c - 1) s; tall = tall }) ≡ set now (c - 1) (look_kept s no_drawing)
put_shown a now c s tall kept is low high plain =
    set-row_of (kept_in a.looks a.drawn) (kept_in (set a.looks (c - 1) s) a.drawn) (look_kept s no_drawing) c low high
    (ap (λ x. look_kept x (get_or a.drawn (c - 1) no_drawing))
    (get_or-set_same a.looks (c - 1) s blank_small (omega (arith, kept.columns)))
    ∙ look_kept-plain s (get_or a.drawn (c - 1) no_drawing) no_drawing plain)
    (λ d from to other. ap (λ x. look_kept x (get_or a.drawn (d - 1) no_drawing))
    (get_or-set_other a.looks (c - 1) (d - 1) s blank_small (λ e. other (omega (arith, e)))))
    ∙ ap (λ l. set l (c - 1) (look_kept s no_drawing)) is

-- a look of a row without patterns
pub copied_kept : (a b : Inside) (c : ℕ) (d : SmallLook) → IsKeptRow a → IsKeptRow b → 1 ≤ c → c ≤ 40
    → b.patterned ≡ false
    → IsKeptRow (record a { looks = set a.looks (c - 1) (get_or b.looks (c - 1) d); tall = a.tall || b.tall })
copied_kept a b c d kept other low high e =
    let same : get_or b.looks (c - 1) blank_small ≡ get_or b.looks (c - 1) d =
    get_or_default b.looks (c - 1) blank_small d (omega (arith, other.columns)) in
    let index : c - 1 < 40 = omega arith in
    put_kept a c (get_or b.looks (c - 1) d) (a.tall || b.tall) kept low high
    (sym (ap has_pattern same) ∙ other.plain e (c - 1) index)
    (λ f. let unset = flag_unset a.tall b.tall f in
    (unset.0, sym (ap (λ s. covers_below s.part) same) ∙ other.low unset.1 (c - 1) index))
    (IsSmallLook-plain (get_or b.looks (c - 1) d) (get_or b.drawn (c - 1) no_drawing) no_drawing
    (sym (ap has_pattern same) ∙ other.plain e (c - 1) index) (kept_at b c d no_drawing other low high))

pub copied_shown : (a b : Inside) (now from : List Look) (c : ℕ) (d : SmallLook) → IsKeptRow a → IsKeptRow b
    → looks_kept a ≡ now → looks_kept b ≡ from → 1 ≤ c → c ≤ 40 → b.patterned ≡ false
    → looks_kept (record a { looks = set a.looks (c - 1) (get_or b.looks (c - 1) d); tall = a.tall || b.tall })
    ≡ set now (c - 1) (column_entry blank_look from c)
copied_shown a b now from c d kept other is there low high e =
    let plain : has_pattern (get_or b.looks (c - 1) d) ≡ false =
    ap has_pattern (get_or_default b.looks (c - 1) d blank_small (omega (arith, other.columns)))
    ∙ other.plain e (c - 1) (omega arith) in
    put_shown a now c (get_or b.looks (c - 1) d) (a.tall || b.tall) kept is low high plain
    ∙ ap (λ l. set now (c - 1) l)
    (look_kept-plain (get_or b.looks (c - 1) d) no_drawing (get_or b.drawn (c - 1) no_drawing) plain
    ∙ entry_at b from c d no_drawing other there low high)

-- a row in which this drawing stands beside this look
abbrev with_drawn : Inside → ℕ → SmallLook → Drawing → Bool → Inside
with_drawn a c s d pattern = record {
  looks = set a.looks (c - 1) s;
  drawn = set a.drawn (c - 1) d;
  patterned = a.patterned || pattern;
  tall = a.tall || (s.part.h == 2);
}

pub put_drawn_kept : (a : Inside) (c : ℕ) (s : SmallLook) (d : Drawing) (pattern : Bool) → IsKeptRow a → 1 ≤ c → c ≤ 40
    → pattern ≡ has_pattern s → IsSmallLook s d → IsKeptRow (with_drawn a c s d pattern)
put_drawn_kept a c s d pattern kept low high which small = record {
  columns = length-set a.looks (c - 1) s ∙ kept.columns;
  drawings = length-set a.drawn (c - 1) d ∙ kept.drawings;
  small = λ k below. elim (cases_eq k (c - 1)) [
    | inl e ↦
        subst (λ n. IsSmallLook (get_or (set a.looks (c - 1) s) n blank_small)
        (get_or (set a.drawn (c - 1) d) n no_drawing)) (sym e)
        (subst (λ x. IsSmallLook x (get_or (set a.drawn (c - 1) d) (c - 1) no_drawing))
        (sym (get_or-set_same a.looks (c - 1) s blank_small (omega (arith, kept.columns))))
        (subst (λ x. IsSmallLook s x)
        (sym (get_or-set_same a.drawn (c - 1) d no_drawing (omega (arith, kept.drawings)))) small))
    | inr other ↦
        subst (λ x. IsSmallLook x (get_or (set a.drawn (c - 1) d) k no_drawing))
        (sym (get_or-set_other a.looks (c - 1) k s blank_small other))
        (subst (λ x. IsSmallLook (get_or a.looks k blank_small) x)
        (sym (get_or-set_other a.drawn (c - 1) k d no_drawing other)) (kept.small k below))
  ];
  plain = λ e k below.
      let unset = flag_unset a.patterned pattern e in
      at_set (λ x. has_pattern x ≡ false) a.looks (c - 1) k s blank_small kept.columns
      (omega arith) (sym which ∙ unset.1) (kept.plain unset.0 k below);
  low = λ e k below.
      let unset = flag_unset a.tall (s.part.h == 2) e in
      at_set (λ x. covers_below x.part ≡ false) a.looks (c - 1) k s blank_small kept.columns
      (omega arith) (low_part s.part unset.1) (kept.low unset.0 k below);
}

pub put_drawn_shown : (a : Inside) (now : List Look) (c : ℕ) (s : SmallLook) (d : Drawing) (pattern : Bool)
    → IsKeptRow a
    → looks_kept a ≡ now → 1 ≤ c → c ≤ 40 → looks_kept (with_drawn a c s d pattern) ≡ set now (c - 1) (look_kept s d)
put_drawn_shown a now c s d pattern kept is low high =
    set-row_of (kept_in a.looks a.drawn) (kept_in (set a.looks (c - 1) s) (set a.drawn (c - 1) d)) (look_kept s d) c low
    high
    (λ i. look_kept (get_or-set_same a.looks (c - 1) s blank_small (omega (arith, kept.columns)) i)
    (get_or-set_same a.drawn (c - 1) d no_drawing (omega (arith, kept.drawings)) i))
    (λ n from to other. λ i.
    look_kept (get_or-set_other a.looks (c - 1) (n - 1) s blank_small (λ e. other (omega (arith, e))) i)
    (get_or-set_other a.drawn (c - 1) (n - 1) d no_drawing (λ e. other (omega (arith, e))) i))
    ∙ ap (λ l. set l (c - 1) (look_kept s d)) is
