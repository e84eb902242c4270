-- Lists of the patterns of codes.
use Rattle.std.proofs.Common.{◌≡◌, ℕ, ◌+◌, ◌-◌, ◌==◌, cond, List, length, set, sym, ap}
use Rattle.std.proofs.Common.{subst, ◌∙◌, arith, refl}
use Rattle.std.proofs.Common.{[], ◌∷◌, ◌++◌, take, drop, append-nil, inl, inr, Option, None, IfSome}
use Rattle.std.proofs.lemmas.Bool.{cases_lt}
use Rattle.std.proofs.lemmas.List.{drop_all, take_all}
use Rattle.cept_codes.specs.declared.look.Pattern.{Pattern}
use Rattle.cept_codes.specs.Look.{IsValidPattern}
use Rattle.cept_codes.specs.Table.{list_by_index}
use Rattle.cept_codes.proofs.Laws.{set-entry, length-list_by_index, entry-list_by_index, entry_past, indexed_more}
use Rattle.cept_codes.proofs.Laws.{entry_below}
use Rattle.cept_drcs.specs.Patterns.{IsPatternCode, pattern_in, list_of_codes, HasValidPatterns}

-- one written
pub pattern_written : (ps now : List (Option Pattern)) (i code : ℕ) (p : Option Pattern) → length ps ≡ 94 → ps ≡ now
    → IsPatternCode code → i ≡ code → set ps (i - 0x21) p
    ≡ list_of_codes (λ d. cond (code == d) p (pattern_in now d))
pattern_written ps now i code p long same is e =
    set-entry None p 0x21 94 (i - 0x21) code ps long (omega (arith, is.0, is.1)) (omega (arith, is.0))
    ∙ ap (λ (l : List (Option Pattern)). list_of_codes (λ d. cond (code == d) p (pattern_in l d))) same

-- where no code has a pattern, none is found, whatever the code
none_in : (code : ℕ) → pattern_in (list_of_codes (λ _. None)) code ≡ None
none_in code =
    let none : List (Option Pattern) = list_of_codes (λ _. None) in
    elim (cases_lt code 0x21) [
      | inl below ↦ entry_below None 0x21 none code below
      | inr from ↦ elim (cases_lt code 0x7F) [
        | inl within ↦ entry-list_by_index None 0x21 94 (λ _. None) code from (omega arith)
        | inr past ↦ entry_past None 0x21 none code (omega (
          arith,
          length-list_by_index {X = Option Pattern} 0x21 94 (λ _. None),
        ))
      ]
    ]

pub HasValidPatterns-none : (ps : List (Option Pattern)) → ps ≡ list_of_codes (λ _. None) → HasValidPatterns ps
HasValidPatterns-none ps e = subst (λ (l : List (Option Pattern)). HasValidPatterns l) (sym e) (record {
  codes = length-list_by_index 0x21 94 (λ _. None);
  valid = λ code. subst (λ (o : Option Pattern). IfSome o IsValidPattern) (sym (none_in code)) tt;
})

-- all of a vector replaced by no pattern
pub cleared : (items none : List (Option Pattern)) (n : ℕ) → length items ≡ 94 → n ≡ 94
    → none ≡ list_of_codes (λ _. None) → HasValidPatterns (take n (none ++ drop (length none) items))
cleared items none n long en e =
    let count : length none ≡ 94 = ap length e ∙ length-list_by_index 0x21 94 (λ _. None) in
    let rest : drop (length none) items ≡ [] = drop_all (length none) items (omega arith) in
    let same : take n (none ++ drop (length none) items) ≡ none =
    ap (λ l. take n (none ++ l)) rest ∙ ap (take n) (append-nil none) ∙ take_all n none (omega arith) in
    HasValidPatterns-none (take n (none ++ drop (length none) items)) (same ∙ e)

-- one more without a pattern
pub none_more : (ps more : List (Option Pattern)) (n k : ℕ) → more ≡ ps ++ None ∷ []
    → ps ≡ list_by_index 0x21 n (λ _. None) → k ≡ n + 1 → more ≡ list_by_index 0x21 k (λ _. None)
none_more ps more n k em e ek =
    em ∙ ap (λ (l : List (Option Pattern)). l ++ None ∷ []) e ∙ indexed_more 0x21 n (0x21 + n) (λ _. None) refl
    ∙ ap (λ (j : ℕ). list_by_index {X = Option Pattern} 0x21 j (λ _. None)) (sym ek)

pub all_none : (ps : List (Option Pattern)) (n : ℕ) → ps ≡ list_by_index 0x21 n (λ _. None) → n ≡ 94
    → HasValidPatterns ps
all_none ps n e en =
    HasValidPatterns-none ps (e ∙ ap (λ (j : ℕ). list_by_index {X = Option Pattern} 0x21 j (λ _. None)) en)
