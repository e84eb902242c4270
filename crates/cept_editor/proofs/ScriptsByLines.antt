-- A script told by its lines: each edit is that of its line, the edits stand in the order of their lines, and the first
-- fault is that of the first line outside the grammar.
use Rattle.std.proofs.Common.{◌≡◌, ℕ, ◌+◌, ◌-◌, ◌<◌, ◌≤◌, ◌==◌, Bool, cond, List, [], ◌∷◌, ◌++◌, length}
use Rattle.std.proofs.Common.{get_or, filter, All, AllPairs, Option, Some, None, IfSome, Result, Ok, Err, IsOk, is_ok, refl, sym, ap}
use Rattle.std.proofs.Common.{◌∙◌, add-one, arith, subst, inl, inr}
use Rattle.std.proofs.lemmas.Bool.{cases_eq, eq-eqb, ne_eqb}
use Rattle.std.proofs.lemmas.List.Elements.{All-nil, All-cons, All-weaker, All-head, All-tail}
use Rattle.std.proofs.lemmas.List.Kept.{AllPairs-cons}
use Rattle.cept_codes.specs.declared.line_reason.LineReason.{LineReason}
use Rattle.cept_codes.specs.Table.{entry}
use Rattle.cept_words.specs.Lines.{lines}
use Rattle.cept_editor.specs.Meaning.{Step, line_meaning}
use Rattle.cept_words.specs.Faults.{Fault, fault_from, fault_or}
use Rattle.cept_editor.specs.Script.{EditLine, edit_of, edits, edits_from, first_fault, numbered_line}
use Rattle.cept_editor.specs.Script.{IsFirstFault}
use Rattle.cept_codes.proofs.Laws.{entry_from}

-- ---- the numbers of edits

-- the line of an edit is this one or a later one below the end
abbrev IsWithin : ℕ → ℕ → EditLine → Type 0
IsWithin s end e = (s ≤ e.line) × (e.line < end)

-- of two edits the first has the smaller number
abbrev IsBefore : EditLine → EditLine → Type 0
IsBefore e f = e.line < f.line

widened : (s end : ℕ) (es : List EditLine) → All (IsWithin (s + 1) end) es → All (IsWithin s end) es
widened s end es all =
    All-weaker (IsWithin (s + 1) end) (IsWithin s end) (λ e is. (omega (arith, is.0), is.1)) es all

within_more : (s end : ℕ) (m : Result (Option Step) LineReason) (es : List EditLine) → s < end
    → All (IsWithin (s + 1) end) es → All (IsWithin s end) (edit_of s m ++ es)
within_more s end (Ok (Some step)) es some all =
    All-cons (IsWithin s end) (record { line = s; step = step }) es (omega arith, some) (widened s end es all)
within_more s end (Ok None) es some all = widened s end es all
within_more s end (Err reason) es some all = widened s end es all

within_from : (s end : ℕ) (ls : List (List ℕ)) → end ≡ s + length ls → All (IsWithin s end) (edits_from s ls)
unfolding edits_from
within_from s end [] e = All-nil (IsWithin s end)
within_from s end (l ∷ ls) e =
    within_more s end (line_meaning l) (edits_from (s + 1) ls) (omega (arith, e))
    (within_from (s + 1) end ls (omega (arith, e)))

ordered_more : (s end : ℕ) (m : Result (Option Step) LineReason) (es : List EditLine)
    → All (IsWithin (s + 1) end) es → AllPairs IsBefore es → AllPairs IsBefore (edit_of s m ++ es)
ordered_more s end (Ok (Some step)) es all pairs =
    let x : EditLine = record { line = s; step = step } in
    AllPairs-cons IsBefore x es
    (All-weaker (IsWithin (s + 1) end) (IsBefore x) (λ e is. omega (arith, is.0)) es all) pairs
ordered_more s end (Ok None) es all pairs = pairs
ordered_more s end (Err reason) es all pairs = pairs

ordered_from : (s : ℕ) (ls : List (List ℕ)) → AllPairs IsBefore (edits_from s ls)
unfolding edits_from
ordered_from s [] = λ i j d less below. absurd (omega (arith, below))
ordered_from s (l ∷ ls) =
    ordered_more s (s + 1 + length ls) (line_meaning l) (edits_from (s + 1) ls)
    (within_from (s + 1) (s + 1 + length ls) ls refl) (ordered_from (s + 1) ls)

-- ---- the edits of a line

-- an edit of this line
abbrev is_of : ℕ → EditLine → Bool
is_of n e = e.line == n

none_of : (n : ℕ) (es : List EditLine) → All (λ e. n < e.line) es → filter (is_of n) es ≡ []
none_of n [] all = refl
none_of n (e ∷ es) all =
    let after : n < e.line = All-head (λ (f : EditLine). n < f.line) e es all in
    ap (λ b. cond b (e ∷ filter (is_of n) es) (filter (is_of n) es))
    (ne_eqb e.line n (λ same. absurd (omega (arith, same, after))))
    ∙ none_of n es (All-tail (λ (f : EditLine). n < f.line) e es all)

here : (s : ℕ) (m : Result (Option Step) LineReason) (es : List EditLine) → All (λ e. s < e.line) es
    → filter (is_of s) (edit_of s m ++ es) ≡ edit_of s m
here s (Ok (Some step)) es all =
    let x : EditLine = record { line = s; step = step } in
    ap (λ b. cond b (x ∷ filter (is_of s) es) (filter (is_of s) es)) (eq-eqb s s refl)
    ∙ ap (λ ys. x ∷ ys) (none_of s es all)
here s (Ok None) es all = none_of s es all
here s (Err reason) es all = none_of s es all

there : (n s : ℕ) (m : Result (Option Step) LineReason) (es : List EditLine) → s < n
    → filter (is_of n) (edit_of s m ++ es) ≡ filter (is_of n) es
there n s (Ok (Some step)) es less =
    ap (λ b. cond b (record { line = s; step = step } ∷ filter (is_of n) es) (filter (is_of n) es))
    (ne_eqb s n (λ same. absurd (omega (arith, same, less))))
there n s (Ok None) es less = refl
there n s (Err reason) es less = refl

-- a line after the first of some lines
later_line : (s n : ℕ) (l : List ℕ) (ls : List (List ℕ)) → s < n → entry [] s (l ∷ ls) n ≡ entry [] (s + 1) ls n
later_line s n l ls less =
    let e : n - s ≡ n - (s + 1) + 1 = omega (arith, less) in
    entry_from [] s (l ∷ ls) n (omega (arith, less)) ∙ ap (λ i. get_or (l ∷ ls) i []) e ∙ next (n - (s + 1))
    ∙ sym (entry_from [] (s + 1) ls n (omega (arith, less)))
  where
    next : (i : ℕ) → get_or (l ∷ ls) (i + 1) [] ≡ get_or ls i []
    next i = rw add-one refl

first_line : (s : ℕ) (l : List ℕ) (ls : List (List ℕ)) → entry [] s (l ∷ ls) s ≡ l
first_line s l ls =
    let e : s - s ≡ 0 = omega arith in
    entry_from [] s (l ∷ ls) s (omega arith) ∙ ap (λ i. get_or (l ∷ ls) i []) e

of_line : (s n : ℕ) (ls : List (List ℕ)) → s ≤ n → n < s + length ls
    → filter (is_of n) (edits_from s ls) ≡ edit_of n (line_meaning (entry [] s ls n))
unfolding edits_from
of_line s n [] from to = absurd (omega (arith, from, to))
of_line s n (l ∷ ls) from to = elim (cases_eq n s) [
  | inl same ↦ subst
      (λ k. filter (is_of k) (edit_of s (line_meaning l) ++ edits_from (s + 1) ls)
      ≡ edit_of k (line_meaning (entry [] s (l ∷ ls) k)))
      (sym same)
      (here s (line_meaning l) (edits_from (s + 1) ls)
      (All-weaker (IsWithin (s + 1) (s + 1 + length ls)) (λ e. s < e.line) (λ e is. omega (arith, is.0))
      (edits_from (s + 1) ls) (within_from (s + 1) (s + 1 + length ls) ls refl))
      ∙ ap (λ line. edit_of s (line_meaning line)) (sym (first_line s l ls)))
  | inr other ↦
      let less : s < n = omega (arith, from, other) in
      there n s (line_meaning l) (edits_from (s + 1) ls) less
      ∙ of_line (s + 1) n ls (omega (arith, less)) (omega (arith, to))
      ∙ ap (λ line. edit_of n (line_meaning line)) (sym (later_line s n l ls less))
]

-- ---- the first fault

-- a fault of lines, the first of which has number s
record IsFaultFrom (s : ℕ) (ls : List (List ℕ)) (fault : Fault) : Type 0 where
  from : s ≤ fault.line
  to : fault.line < s + length ls
  reason : line_meaning (entry [] s ls fault.line) ≡ Err fault.reason
  first : (n : ℕ) → s ≤ n → n < fault.line → IsOk (line_meaning (entry [] s ls n))

-- the first of some lines, and the others
one_before : (P : List ℕ → Type 0) (s : ℕ) (l : List ℕ) (ls : List (List ℕ)) (end : ℕ) → P l
    → ((n : ℕ) → s + 1 ≤ n → n < end → P (entry [] (s + 1) ls n)) → (n : ℕ) → s ≤ n → n < end
    → P (entry [] s (l ∷ ls) n)
one_before P s l ls end is others n from to = elim (cases_eq n s) [
  | inl same ↦ subst (λ k. P (entry [] s (l ∷ ls) k)) (sym same) (subst P (sym (first_line s l ls)) is)
  | inr other ↦
      let less : s < n = omega (arith, from, other) in
      subst P (sym (later_line s n l ls less)) (others n (omega (arith, less)) to)
]

fault_more : (s : ℕ) (l : List ℕ) (ls : List (List ℕ)) (m : Result (Option Step) LineReason) (later : Option Fault)
    → line_meaning l ≡ m → IfSome later (IsFaultFrom (s + 1) ls)
    → IfSome (fault_or s m later) (IsFaultFrom s (l ∷ ls))
fault_more s l ls (Err reason) later is each = record {
  from = omega arith;
  to = omega arith;
  reason = ap line_meaning (first_line s l ls) ∙ is;
  first = λ n from to. absurd (omega (arith, from, to));
}
fault_more s l ls (Ok step) None is each = tt
fault_more s l ls (Ok step) (Some fault) is each = record {
  from = omega (arith, each.from);
  to = omega (arith, each.to);
  reason = ap line_meaning (later_line s fault.line l ls (omega (arith, each.from))) ∙ each.reason;
  first = one_before (λ line. IsOk (line_meaning line)) s l ls fault.line (ap is_ok is) each.first;
}

fault_at : (s : ℕ) (ls : List (List ℕ)) → IfSome (fault_from line_meaning s ls) (IsFaultFrom s ls)
unfolding fault_from
fault_at s [] = tt
fault_at s (l ∷ ls) = fault_more s l ls (line_meaning l) (fault_from line_meaning (s + 1) ls) refl (fault_at (s + 1) ls)

none_more : (s : ℕ) (m : Result (Option Step) LineReason) (later : Option Fault) → fault_or s m later ≡ None
    → IsOk m × (later ≡ None)
none_more s (Ok step) later e = (refl, e)
none_more s (Err reason) later e = cc

no_fault_from : (s : ℕ) (ls : List (List ℕ)) → fault_from line_meaning s ls ≡ None → (n : ℕ) → s ≤ n → n < s + length ls
    → IsOk (line_meaning (entry [] s ls n))
unfolding fault_from
no_fault_from s [] e n from to = absurd (omega (arith, from, to))
no_fault_from s (l ∷ ls) e n from to =
    let both : IsOk (line_meaning l) × (fault_from line_meaning (s + 1) ls ≡ None) = none_more s (line_meaning l) _ e in
    one_before (λ line. IsOk (line_meaning line)) s l ls (s + 1 + length ls) both.0
    (no_fault_from (s + 1) ls both.1) n from (omega (arith, to))

-- ---- scripts

pub edits_of_line : (bytes : List ℕ) (n : ℕ) → 1 ≤ n → n ≤ length (lines bytes)
    → filter (λ e. e.line == n) (edits bytes) ≡ edit_of n (line_meaning (numbered_line (lines bytes) n))
edits_of_line bytes n from to = of_line 1 n (lines bytes) from (omega (arith, to))

pub edits_within : (bytes : List ℕ) → All (λ e. (1 ≤ e.line) × (e.line ≤ length (lines bytes))) (edits bytes)
edits_within bytes =
    All-weaker (IsWithin 1 (1 + length (lines bytes))) (λ e. (1 ≤ e.line) × (e.line ≤ length (lines bytes)))
    (λ e is. (is.0, omega (arith, is.1))) (edits bytes) (within_from 1 (1 + length (lines bytes)) (lines bytes) refl)

pub edits_in_order : (bytes : List ℕ) → AllPairs (λ e f. e.line < f.line) (edits bytes)
edits_in_order bytes = ordered_from 1 (lines bytes)

pub fault_is_first : (bytes : List ℕ) → IfSome (first_fault bytes) (IsFirstFault (lines bytes))
fault_is_first bytes = told (first_fault bytes) (fault_at 1 (lines bytes))
  where
    told : (o : Option Fault) → IfSome o (IsFaultFrom 1 (lines bytes)) → IfSome o (IsFirstFault (lines bytes))
    told None is = tt
    told (Some fault) is = record { from = is.from; to = omega (arith, is.to); reason = is.reason; first = is.first }

pub no_fault : (bytes : List ℕ) → first_fault bytes ≡ None → (n : ℕ) → 1 ≤ n → n ≤ length (lines bytes)
    → IsOk (line_meaning (numbered_line (lines bytes) n))
no_fault bytes e n from to = no_fault_from 1 (lines bytes) e n from (omega (arith, to))
