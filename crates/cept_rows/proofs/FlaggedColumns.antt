-- A row of which the flagged columns are resolved, each by itself, one after the other.
use Rattle.std.proofs.Common.{◌≡◌, ℕ, zero, suc, ◌+◌, ◌-◌, ◌<◌, ◌≤◌, Bool, true, false, not, List, length, get_or, set}
use Rattle.std.proofs.Common.{inl, inr, replicate, sym, ap, subst, ◌∙◌, arith}
use Rattle.std.proofs.lemmas.Bool.{cases_lt, cond-false, cond-true}
use Rattle.std.proofs.lemmas.List.{get_or-replicate, length-replicate}
use Rattle.cept_codes.specs.declared.look.Look.{Look}
use Rattle.cept_codes.specs.Look.{blank_look}
use Rattle.cept_codes.specs.Same.{same_look}
use Rattle.cept_codes.specs.Table.{HasMadeEntries, entry, list_by_index, row_of}
use Rattle.cept_codes.proofs.Laws.{HasMadeEntries-all, HasMadeEntries-more, entry_from, look_decides, row_of-list_by_index}
use Rattle.cept_codes.proofs.Laws.{same_indexed}
use Rattle.cept_profile.specs.Tiling.{column_entry}
use Rattle.cept_rows.specs.Flagged.{look_after}
use Rattle.cept_rows.specs.inside.Flagged.{IsResolvedTo, differs_after}
use Rattle.cept_rows.proofs.Columns.{column_entry-at, column_entry-row_of}

-- an entry that is left as it was is made, where that is what it was to be
left_more : {X : Type 0} {d : X} {from count n : ℕ} {f g : ℕ → X} {list : List X} → HasMadeEntries d from count f g list n
    → f (from + n) ≡ g (from + n) → HasMadeEntries d from count f g list (n + 1)
left_more {X} {d} {from} {count} {n} {f} {g} {list} m same = record {
  long = m.long;
  made = λ j low high below. elim (cases_lt j (from + n)) [
    | inl earlier ↦ m.made j low high earlier
    | inr last ↦
        let here : j ≡ from + n = omega arith in m.left j low high last ∙ ap g here ∙ sym same ∙ ap f (sym here)
  ];
  left = λ j low high more. m.left j low high (omega arith);
}

read : (looks : List Look) (c : ℕ) → 1 ≤ c → entry blank_look 1 looks c ≡ column_entry blank_look looks c
read looks c low = entry_from blank_look 1 looks c low ∙ sym (column_entry-at blank_look looks c low)

pub IsResolvedTo-none : (flags : List Bool) (own : ℕ → Look) (was : List Look) → length was ≡ 40
    → IsResolvedTo flags own was was (replicate 40 false) 0
IsResolvedTo-none flags own was long = record {
  looks = record {
    long = long;
    made = λ c low high none. absurd (omega arith);
    left = λ c low high more. read was c low;
  };
  answers = record {
    long = length-replicate 40 false;
    made = λ c low high none. absurd (omega arith);
    left = λ c low high more. entry_from false 1 (replicate 40 false) c low
        ∙ get_or-replicate 40 (c - 1) false false (omega (arith, low, high));
  };
}

-- what stood in the next column stands there still
next : {flags : List Bool} {own : ℕ → Look} {was now : List Look} {differ : List Bool} {n : ℕ}
    → IsResolvedTo flags own was now differ n → n < 40
    → column_entry blank_look now (n + 1) ≡ column_entry blank_look was (n + 1)
next {now = now} {n = n} m below =
    sym (read now (n + 1) (omega arith)) ∙ m.looks.left (n + 1) (omega arith) (omega arith) (omega arith)

flag_read : (flags : List Bool) (n : ℕ) → entry false 1 flags (n + 1) ≡ get_or flags n false
flag_read flags n =
    entry_from false 1 flags (n + 1) (omega arith)
    ∙ (let back : n + 1 - 1 ≡ n = omega arith in ap (λ i. get_or flags i false) back)

-- the same of values that are these
pub IsResolvedTo-as : {flags : List Bool} {own : ℕ → Look} {was now next : List Look} {differ more : List Bool} {n : ℕ}
    → next ≡ now → more ≡ differ → IsResolvedTo flags own was now differ n → IsResolvedTo flags own was next more n
IsResolvedTo-as {flags} {own} {was} {now} {next} {differ} {more} {n} en em m =
    subst (λ (l : List Look). IsResolvedTo flags own was l more n) (sym en)
    (subst (λ (l : List Bool). IsResolvedTo flags own was now l n) (sym em) m)

-- and of so many columns
pub IsResolvedTo-to : {flags : List Bool} {own : ℕ → Look} {was now : List Look} {differ : List Bool} {n m : ℕ} → n ≡ m
    → IsResolvedTo flags own was now differ n → IsResolvedTo flags own was now differ m
IsResolvedTo-to {flags} {own} {was} {now} {differ} same r =
    subst (λ i. IsResolvedTo flags own was now differ i) same r

-- a flagged column
pub IsResolvedTo-more : {flags : List Bool} {own : ℕ → Look} {was now : List Look} {differ : List Bool} {n : ℕ}
    → IsResolvedTo flags own was now differ n → n < 40 → get_or flags n false ≡ true → (fresh : Look) (differs : Bool)
    → (next : List Look) (i : ℕ) → i ≡ n → fresh ≡ own (n + 1) → next ≡ set now (n + 1 - 1) fresh
    → differs ≡ not (same_look (column_entry blank_look now (n + 1)) fresh)
    → IsResolvedTo flags own was next (set differ i differs) (n + 1)
IsResolvedTo-more {flags} {own} {was} {now} {differ} {n} m below flagged fresh differs after i at is en ed =
    let flag : entry false 1 flags (n + 1) ≡ true = flag_read flags n ∙ flagged in
    let made : fresh ≡ look_after flags own was (n + 1) =
    is ∙ sym (cond-true (entry false 1 flags (n + 1)) (own (n + 1)) (column_entry blank_look was (n + 1)) flag) in
    let place : 1 + n ≡ n + 1 = omega arith in
    record {
      looks = subst (λ (l : List Look).
          HasMadeEntries blank_look 1 40 (look_after flags own was) (column_entry blank_look was) l (n + 1))
          (sym en) (HasMadeEntries-more blank_look fresh 1 40 (look_after flags own was) (column_entry blank_look was)
          now n (n + 1 - 1) (n + 1) m.looks below (omega arith) place made);
      answers = HasMadeEntries-more false differs 1 40 (differs_after flags own was) (λ _. false) differ n i (n + 1)
          m.answers below at place (ed ∙ (λ j. not (same_look (next m below j) (made j))));
    }

-- and one that isn't flagged
pub IsResolvedTo-left : {flags : List Bool} {own : ℕ → Look} {was now : List Look} {differ : List Bool} {n : ℕ}
    → IsResolvedTo flags own was now differ n → get_or flags n false ≡ false
    → IsResolvedTo flags own was now differ (n + 1)
IsResolvedTo-left {flags} {own} {was} {now} {differ} {n} m unflagged =
    let place : 1 + n ≡ n + 1 = omega arith in
    let flag : entry false 1 flags (1 + n) ≡ false =
    ap (entry false 1 flags) place ∙ flag_read flags n ∙ unflagged in
    let stays : look_after flags own was (1 + n) ≡ column_entry blank_look was (1 + n) =
    cond-false (entry false 1 flags (1 + n)) (own (1 + n)) (column_entry blank_look was (1 + n)) flag in
    record {
      looks = left_more m.looks stays;
      answers = left_more m.answers (ap not ((look_decides (column_entry blank_look was (1 + n))
          (look_after flags own was (1 + n))).1 (sym stays)));
    }

-- and several that aren't
pub IsResolvedTo-skip : {flags : List Bool} {own : ℕ → Look} {was now : List Look} {differ : List Bool} {n : ℕ} (m : ℕ)
    → IsResolvedTo flags own was now differ n → ((k : ℕ) → n ≤ k → k < n + m → get_or flags k false ≡ false)
    → IsResolvedTo flags own was now differ (n + m)
IsResolvedTo-skip {flags} {own} {was} {now} {differ} {n} zero r none =
    let same : n ≡ n + zero = omega arith in IsResolvedTo-to same r
IsResolvedTo-skip {flags} {own} {was} {now} {differ} {n} (suc m) r none =
    let more : n + m + 1 ≡ n + suc m = omega arith in
    IsResolvedTo-to more
    (IsResolvedTo-left (IsResolvedTo-skip m r (λ k low below. none k low (omega (arith, below))))
    (none (n + m) (omega arith) (omega arith)))

pub IsResolvedTo-looks : {flags : List Bool} {own : ℕ → Look} {was now : List Look} {differ : List Bool} {n : ℕ}
    → IsResolvedTo flags own was now differ n → 40 ≤ n → now ≡ row_of (look_after flags own was)
IsResolvedTo-looks {flags} {own} {was} {now} {differ} {n} m past =
    HasMadeEntries-all blank_look 1 40 (look_after flags own was) (column_entry blank_look was) now n m.looks past
    ∙ sym (row_of-list_by_index (look_after flags own was))

pub IsResolvedTo-differ : {flags : List Bool} {own : ℕ → Look} {was now : List Look} {differ : List Bool} {n : ℕ}
    → IsResolvedTo flags own was now differ n → 40 ≤ n
    → differ ≡ list_by_index 1 40 (λ c. not (same_look (column_entry blank_look was c) (column_entry blank_look now c)))
IsResolvedTo-differ {flags} {own} {was} {now} {differ} {n} m past =
    HasMadeEntries-all false 1 40 (differs_after flags own was) (λ _. false) differ n m.answers past
    ∙ same_indexed 1 40 (differs_after flags own was) _ (λ c low high.
    let is : look_after flags own was c ≡ column_entry blank_look now c =
    sym (ap (λ (l : List Look). column_entry blank_look l c) (IsResolvedTo-looks m past)
    ∙ column_entry-row_of blank_look (look_after flags own was) c low (omega (arith, high))) in
    ap (λ l. not (same_look (column_entry blank_look was c) l)) is)
