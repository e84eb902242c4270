-- Rows of which the flagged columns are those of another row.
use Rattle.std.proofs.Common.{◌≡◌, ℕ, ◌+◌, ◌-◌, ◌<◌, ◌≤◌, ◌||◌, Bool, true, false, cond, List, length, get_or, set}
use Rattle.std.proofs.Common.{refl, inl, inr, sym, ap, subst, ◌∙◌, arith}
use Rattle.std.proofs.lemmas.Bool.{cases_eq, or_parts}
use Rattle.std.proofs.lemmas.List.{ext_get_or, get_or-set_other, get_or-set_same, length-set}
use Rattle.cept_codes.specs.declared.look.Look.{Look}
use Rattle.cept_codes.specs.Look.{blank_look}
use Rattle.cept_codes.specs.Table.{entry, row_of}
use Rattle.cept_codes.proofs.Laws.{entry_from}
use Rattle.cept_profile.specs.Tiling.{column_entry, covers_below}
use Rattle.cept_rows.specs.declared.row_looks.RowLooks.TheInside.{Inside}
use Rattle.cept_rows.specs.declared.small_look.SmallLook.{SmallLook}
use Rattle.cept_rows.specs.KeptRows.{IsKeptRow, kept_in, looks_kept}
use Rattle.cept_rows.specs.SmallLooks.{IsSmallLook, blank_small, has_pattern, look_kept, no_drawing}
use Rattle.cept_rows.proofs.Columns.{column_entry-at, get_or-row_of, length-row_of, same_rows}
use Rattle.cept_rows.proofs.KeptLooks.{IsSmallLook-plain, look_kept-plain}
use Rattle.cept_rows.proofs.KeptRows.{entry_at}

-- ---- one after the other

-- the first n of forty are those of another list where they are flagged, and all else is as it was
pub record IsCopiedTo {X : Type 0} (d : X) (flags : List Bool) (from was now : List X) (n : ℕ) : Type 0 where
  pub long : length now ≡ 40
  pub made : (k : ℕ) → k < n → get_or now k d ≡ cond (get_or flags k false) (get_or from k d) (get_or was k d)
  pub left : (k : ℕ) → n ≤ k → get_or now k d ≡ get_or was k d

pub IsCopiedTo-none : {X : Type 0} (d : X) (flags : List Bool) (from was : List X) → length was ≡ 40
    → IsCopiedTo d flags from was was 0
IsCopiedTo-none d flags from was long = record {
  long = long;
  made = λ k none. absurd (omega arith);
  left = λ k low. refl;
}

-- the same of a list that is this one
pub IsCopiedTo-as : {X : Type 0} {d : X} {flags : List Bool} {from was now next : List X} {n : ℕ} → next ≡ now
    → IsCopiedTo d flags from was now n → IsCopiedTo d flags from was next n
IsCopiedTo-as {X} {d} {flags} {from} {was} {now} {next} {n} e m =
    subst (λ (l : List X). IsCopiedTo d flags from was l n) (sym e) m

-- a flagged one
pub IsCopiedTo-more : {X : Type 0} {d : X} {flags : List Bool} {from was now : List X} {n : ℕ}
    → IsCopiedTo d flags from was now n → n < 40 → get_or flags n false ≡ true → (next : List X) (i : ℕ) (x : X) → i ≡ n
    → x ≡ get_or from n d → next ≡ set now i x → IsCopiedTo d flags from was next (n + 1)
IsCopiedTo-more {X} {d} {flags} {from} {was} {now} {n} m below flagged next i x at is en = record {
  long = ap length en ∙ length-set now i x ∙ m.long;
  made = λ k low. ap (λ (l : List X). get_or l k d) en ∙ elim (cases_eq k n) [
    | inl here ↦
        ap (λ j. get_or (set now i x) j d) (here ∙ sym at)
        ∙ get_or-set_same now i x d (omega (arith, at, below, m.long)) ∙ is ∙ ap (λ j. get_or from j d) (sym here)
        ∙ sym (ap (λ b. cond b (get_or from k d) (get_or was k d))
        (ap (λ j. get_or flags j false) here ∙ flagged))
    | inr apart ↦
        get_or-set_other now i k x d (λ same. apart (same ∙ at)) ∙ m.made k (omega (arith, low, apart))
  ];
  left = λ k low.
      ap (λ (l : List X). get_or l k d) en
      ∙ get_or-set_other now i k x d (λ same. omega (arith, same, at, low)) ∙ m.left k (omega (arith, low));
}

-- and one that isn't flagged
pub IsCopiedTo-left : {X : Type 0} {d : X} {flags : List Bool} {from was now : List X} {n : ℕ}
    → IsCopiedTo d flags from was now n → get_or flags n false ≡ false → IsCopiedTo d flags from was now (n + 1)
IsCopiedTo-left {X} {d} {flags} {from} {was} {now} {n} m unflagged = record {
  long = m.long;
  made = λ k low. elim (cases_eq k n) [
    | inl here ↦
        m.left k (omega (arith, here))
        ∙ sym (ap (λ b. cond b (get_or from k d) (get_or was k d))
        (ap (λ j. get_or flags j false) here ∙ unflagged))
    | inr apart ↦ m.made k (omega (arith, low, apart))
  ];
  left = λ k low. m.left k (omega (arith, low));
}

-- an entry of a row, from 0
flag_at : (flags : List Bool) (i : ℕ) → entry false 1 flags (i + 1) ≡ get_or flags i false
flag_at flags i =
    entry_from false 1 flags (i + 1) (omega arith)
    ∙ (let back : i + 1 - 1 ≡ i = omega arith in ap (λ k. get_or flags k false) back)

pub column_at : {X : Type 0} (d : X) (xs : List X) (i : ℕ) → column_entry d xs (i + 1) ≡ get_or xs i d
column_at d xs i =
    column_entry-at d xs (i + 1) (omega arith)
    ∙ (let back : i + 1 - 1 ≡ i = omega arith in ap (λ k. get_or xs k d) back)

-- all forty, by their columns
pub IsCopiedTo-all : {X : Type 0} {d : X} {flags : List Bool} {from was now : List X} {n : ℕ}
    → IsCopiedTo d flags from was now n → 40 ≤ n
    → now ≡ row_of (λ c. cond (entry false 1 flags c) (column_entry d from c) (column_entry d was c))
IsCopiedTo-all {X} {d} {flags} {from} {was} {now} {n} m past =
    let f : ℕ → X = λ c. cond (entry false 1 flags c) (column_entry d from c) (column_entry d was c) in
    ext_get_or d now (row_of f) (m.long ∙ sym (length-row_of f)) (λ i below.
    let back : i ≡ i + 1 - 1 = omega arith in
    m.made i (omega (arith, below, past, m.long))
    ∙ (λ j. cond (sym (flag_at flags i) j) (sym (column_at d from i) j) (sym (column_at d was i) j))
    ∙ sym (ap (λ k. get_or (row_of f) k d) back
    ∙ get_or-row_of f (i + 1) d (omega arith) (omega (arith, below, m.long))))

-- ---- at once, from a row without patterns

-- what is so of both is so of the one that is taken
of_either : {X : Type 0} (P : X → Type 0) (b : Bool) (x y : X) → P x → P y → P (cond b x y)
of_either P true x y px py = px
of_either P false x y px py = py

take_then : {X Y : Type 0} (f : X → Y) (b : Bool) (x y : X) → f (cond b x y) ≡ cond b (f x) (f y)
take_then f true x y = refl
take_then f false x y = refl

-- the flagged small looks are those of another row
abbrev pub AreCopied : List Bool → List SmallLook → List SmallLook → List SmallLook → Type 0
AreCopied flags from was now =
    (k : ℕ) → k < 40 → get_or now k blank_small
    ≡ cond (get_or flags k false) (get_or from k blank_small) (get_or was k blank_small)

pub flagged_kept : (a b : Inside) (flags : List Bool) (looks : List SmallLook) → IsKeptRow a → IsKeptRow b
    → b.patterned ≡ false → length looks ≡ 40 → AreCopied flags b.looks a.looks looks
    → IsKeptRow (record a { looks = looks; tall = a.tall || b.tall })
flagged_kept a b flags looks kept other e long copied = record {
  columns = long;
  drawings = kept.drawings;
  small = λ k below. either (λ s. IsSmallLook s (get_or a.drawn k no_drawing)) k below
      (IsSmallLook-plain (get_or b.looks k blank_small) (get_or b.drawn k no_drawing) (get_or a.drawn k no_drawing)
      (other.plain e k below) (other.small k below)) (kept.small k below);
  plain = λ f k below. either (λ s. has_pattern s ≡ false) k below (other.plain e k below) (kept.plain f k below);
  low = λ f k below.
      let unset = or_parts a.tall b.tall f in
      either (λ s. covers_below s.part ≡ false) k below (other.low unset.1 k below) (kept.low unset.0 k below);
}
  where
    either : (P : SmallLook → Type 0) (k : ℕ) → k < 40 → P (get_or b.looks k blank_small)
        → P (get_or a.looks k blank_small) → P (get_or looks k blank_small)
    either P k below px py =
        subst P (sym (copied k below))
        (of_either P (get_or flags k false) (get_or b.looks k blank_small) (get_or a.looks k blank_small) px py)

pub flagged_shown : (a b : Inside) (now from : List Look) (flags : List Bool) (looks : List SmallLook) → IsKeptRow a
    → IsKeptRow b → looks_kept a ≡ now → looks_kept b ≡ from → b.patterned ≡ false
    → AreCopied flags b.looks a.looks looks
    → looks_kept (record a { looks = looks; tall = a.tall || b.tall })
    ≡ row_of (λ c. cond (entry false 1 flags c) (column_entry blank_look from c) (column_entry blank_look now c))
flagged_shown a b now from flags looks kept other is there e copied =
    same_rows (kept_in looks a.drawn)
    (λ c. cond (entry false 1 flags c) (column_entry blank_look from c) (column_entry blank_look now c))
    (λ c low high.
    let k : ℕ = c - 1 in
    let below : k < 40 = omega (arith, low, high) in
    ap (λ s. look_kept s (get_or a.drawn k no_drawing)) (copied k below)
    ∙ take_then (λ s. look_kept s (get_or a.drawn k no_drawing)) (get_or flags k false) (get_or b.looks k blank_small)
    (get_or a.looks k blank_small)
    ∙ (λ i. cond (sym (entry_from false 1 flags c low) i)
    ((look_kept-plain (get_or b.looks k blank_small) (get_or a.drawn k no_drawing) (get_or b.drawn k no_drawing)
    (other.plain e k below) ∙ entry_at b from c blank_small no_drawing other there low high) i)
    (entry_at a now c blank_small no_drawing kept is low high i)))
