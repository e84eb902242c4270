-- One walk down from a row in which something changed: rows above it and rows that nothing covers otherwise aren't due.
use Rattle.std.proofs.Common.{◌≡◌, ◌≢◌, ℕ, zero, suc, ◌+◌, ◌-◌, ◌<◌, ◌≤◌, ◌==◌, ◌||◌, Bool, true, false, List}
use Rattle.std.proofs.Common.{inl, inr, sym, ap, subst, ◌∙◌, arith}
use Rattle.std.proofs.lemmas.Bool.{cases_lt, or_left, or_right}
use Rattle.std.proofs.lemmas.Bool.Decides.{nat_tests}
use Rattle.std.proofs.lemmas.List.{get_or_past}
use Rattle.cept_codes.specs.declared.look.Look.{Look}
use Rattle.cept_codes.specs.Look.{blank_look}
use Rattle.cept_codes.specs.Place.{OnScreen}
use Rattle.cept_codes.specs.Table.{entry, list_by_index, IsTable}
use Rattle.cept_codes.proofs.Laws.{entry-list_by_index}
use Rattle.cept_profile.specs.Edges.{edges_of_core, is_last}
use Rattle.cept_profile.specs.Look.{look, looks_of}
use Rattle.cept_profile.specs.RowsFromAbove.{is_covered_otherwise, look_seen, looks_in}
use Rattle.cept_profile.specs.State.{Core}
use Rattle.cept_profile.specs.Tiling.{column_entry}
use Rattle.cept_profile.proofs.Laws.{looks_in-from_above}
use Rattle.cept_rows.specs.RowsByCell.{FollowsToTheRight, IsCoveredAlike}
use Rattle.cept_redraw.specs.inside.Due.{at_rest, is_due, FollowsBeside, OtherRowsStay}
use Rattle.cept_redraw.specs.inside.Kept.{row_beneath, IsRefreshedRow, IsRightOf, is_other_above}
use Rattle.cept_redraw.specs.Marks.{no_marks}
use Rattle.cept_redraw.proofs.LeftOfColumns.{column_of}
use Rattle.cept_redraw.proofs.RestingRows.{due-rest, row_from-rest}
use Rattle.cept_redraw.proofs.RowsOfLooks.{column_entry-at, length-looks_in, look_seen-at, looks_in-same}
use Rattle.cept_redraw.proofs.WalkedRows.{WalkedTo, WalkedTo-first, WalkedTo-kept, WalkedTo-more, above_is, beneath_is}

-- just this row is flagged
abbrev pub alone : ℕ → List Bool
alone row = list_by_index 1 24 (λ q. row == q)

-- a row that isn't flagged, and that nothing covers otherwise, isn't due
undue : (row : ℕ) (k : Core) (was : List (List Look)) (r : ℕ) → 1 ≤ r → r ≤ 24 → row ≢ r
    → is_covered_otherwise was r (looks_of k) r ≡ false → is_due (alone row) at_rest was (looks_of k) r ≡ false
undue row k was r top bottom apart none =
    let no : (row == r) ≡ false = grind (arith, nat_tests, apart) in
    let flag : entry false 1 (alone row) r ≡ false =
    entry-list_by_index false 1 24 (λ q. row == q) r top (omega (arith, bottom)) ∙ no in
    due-rest (alone row) was (looks_of k) r top bottom ∙ (λ i. flag i || none i)

-- so many rows further, among which it isn't, where the first is covered as before
rested : {row : ℕ} {k : Core} {was now : List (List Look)} {former marks : List Bool} {start steps at : ℕ}
    → WalkedTo (alone row) at_rest k was now former marks false start steps at → IsTable was → 1 ≤ at
    → OtherRowsStay (alone row) at_rest was k → (n : ℕ) → at + n ≤ 25 → ((r : ℕ) → at ≤ r → r < at + n → row ≢ r)
    → WalkedTo (alone row) at_rest k was now former marks false start steps (at + n)
rested {row} {k} {was} {now} {former} {marks} {start} {steps} {at} m is top others zero within apart =
    let e : at ≡ at + 0 = omega arith in
    subst (λ r. WalkedTo (alone row) at_rest k was now former marks false start steps r) e m
rested {row} {k} {was} {now} {former} {marks} {start} {steps} {at} m is top others (suc n) within apart =
    let e : at + n + 1 ≡ at + suc n = omega arith in
    let before : WalkedTo (alone row) at_rest k was now former marks false start steps (at + n) =
    rested m is top others n (omega (arith, within)) (λ r low high. apart r low (omega (arith, high))) in
    subst (λ r. WalkedTo (alone row) at_rest k was now former marks false start steps r) e
    (WalkedTo-kept before is (omega (arith, top)) (omega (arith, within)) others
    (undue row k was (at + n) (omega (arith, top)) (omega (arith, within)) (apart (at + n) (omega arith) (omega arith))
    (sym before.covering)) (row_from-rest (at + n) (omega (arith, top)) (omega (arith, within))))

-- the walk has come to a row that is due
pub record WalkedDown (row : ℕ) (k : Core) (was now : List (List Look)) (former marks : List Bool)
    (start steps at : ℕ) : Type 0 where
  pub covered : Bool
  pub walked : WalkedTo (alone row) at_rest k was now former marks covered start steps at
  pub due : at ≤ 24 → is_due (alone row) at_rest was (looks_of k) at ≡ true

pub WalkedDown-first : (row : ℕ) (k : Core) (was : List (List Look)) (marks : List Bool) (steps : ℕ) → 1 ≤ row → row ≤ 24
    → IsTable was → marks ≡ no_marks → OtherRowsStay (alone row) at_rest was k
    → WalkedDown row k was was marks marks steps steps row
WalkedDown-first row k was marks steps top bottom is none others = record {
  covered = false;
  walked =
      let e : 1 + (row - 1) ≡ row = omega (arith, top) in
      subst (λ r. WalkedTo (alone row) at_rest k was was marks marks false steps steps r) e
      (rested (WalkedTo-first (alone row) at_rest k was marks steps is none) is (omega arith) others (row - 1)
      (omega (arith, bottom)) (λ r low high same. omega (arith, low, high, same, top)));
  due = λ _.
      let yes : (row == row) ≡ true = grind (arith, nat_tests) in
      due-rest (alone row) was (looks_of k) row top bottom
      ∙ or_left (entry false 1 (alone row) row) (is_covered_otherwise was row (looks_of k) row)
      (entry-list_by_index false 1 24 (λ q. row == q) row top (omega (arith, bottom)) ∙ yes);
}

-- a row further
further : {row : ℕ} {k : Core} {was mid : List (List Look)} {former between : List Bool} {start steps at : ℕ}
    → WalkedDown row k was mid former between start steps at → IsTable was → 1 ≤ at → at ≤ 24 → (last : Bool)
    → last ≡ is_last (edges_of_core k) at → (now : List (List Look)) (marks : List Bool) (next : Bool) (more : ℕ)
    → IsRefreshedRow (row_beneath (looks_in mid (at - 1)) k.page at last) at mid now between marks
    → next ≡ is_other_above (looks_in mid at) (looks_in now at) → more ≡ steps + 1
    → WalkedTo (alone row) at_rest k was now former marks next start more (at + 1)
further m is top bottom last el now marks next more r en tick =
    WalkedTo-more m.walked is top bottom (m.due bottom) last el now marks next more r en tick

-- one that covers the row below otherwise
pub WalkedDown-more : {row : ℕ} {k : Core} {was mid : List (List Look)} {former between : List Bool}
    {start steps at : ℕ} → WalkedDown row k was mid former between start steps at → IsTable was → 1 ≤ at → at ≤ 24
    → (last : Bool) → last ≡ is_last (edges_of_core k) at → (now : List (List Look)) (marks : List Bool) (next : Bool)
    (more : ℕ) → IsRefreshedRow (row_beneath (looks_in mid (at - 1)) k.page at last) at mid now between marks
    → next ≡ is_other_above (looks_in mid at) (looks_in now at) → more ≡ steps + 1 → next ≡ true
    → WalkedDown row k was now former marks start more (at + 1)
WalkedDown-more {row} {k} {was} {mid} {former} {between} {start} {steps} {at} m is top bottom last el now marks next more
    r en tick covers =
    let done : WalkedTo (alone row) at_rest k was now former marks next start more (at + 1) =
    further m is top bottom last el now marks next more r en tick in
    record {
      covered = next;
      walked = done;
      due = λ below.
          due-rest (alone row) was (looks_of k) (at + 1) (omega arith) below
          ∙ or_right (entry false 1 (alone row) (at + 1)) (is_covered_otherwise was (at + 1) (looks_of k) (at + 1))
          (sym done.covering ∙ covers);
    }

-- one that doesn't: the rows below it stay
pub WalkedDown-end : {row : ℕ} {k : Core} {was mid : List (List Look)} {former between : List Bool}
    {start steps at : ℕ} → WalkedDown row k was mid former between start steps at → IsTable was → 1 ≤ at → at ≤ 24
    → row ≤ at → OtherRowsStay (alone row) at_rest was k → (last : Bool) → last ≡ is_last (edges_of_core k) at
    → (now : List (List Look)) (marks : List Bool) (next : Bool) (more : ℕ)
    → IsRefreshedRow (row_beneath (looks_in mid (at - 1)) k.page at last) at mid now between marks
    → next ≡ is_other_above (looks_in mid at) (looks_in now at) → more ≡ steps + 1 → next ≡ false
    → WalkedTo (alone row) at_rest k was now former marks false start more 25
WalkedDown-end {row} {k} {was} {mid} {former} {between} {start} {steps} {at} m is top bottom past others last el now marks
    next more r en tick none =
    let done : WalkedTo (alone row) at_rest k was now former marks false start more (at + 1) =
    subst (λ b. WalkedTo (alone row) at_rest k was now former marks b start more (at + 1)) none
    (further m is top bottom last el now marks next more r en tick) in
    let e : at + 1 + (24 - at) ≡ 25 = omega (arith, bottom) in
    subst (λ n. WalkedTo (alone row) at_rest k was now former marks false start more n) e
    (rested done is (omega arith) others (24 - at) (omega (arith, bottom)) (λ r low high same. omega (arith, low, same, past)))

-- ---- looks around a row

-- the looks that are kept of the row to which the walk has come are those from before
stands : {row : ℕ} {k : Core} {was now : List (List Look)} {former marks : List Bool} {start steps at : ℕ}
    → WalkedDown row k was now former marks start steps at → IsTable was → 1 ≤ at → at ≤ 24
    → looks_in now at ≡ looks_in was at
stands {was = was} {now = now} {at = at} m is top bottom =
    looks_in-same now was at m.walked.refreshed.is is top bottom
    (λ c on. m.walked.refreshed.below at c on (omega (arith, on)))

-- to the right of a column from which on the row above looks as it did, this row follows
pub right_is : {row : ℕ} {k : Core} {was now : List (List Look)} {former marks : List Bool} {start steps at : ℕ}
    → WalkedDown row k was now former marks start steps at → IsTable was → 1 ≤ at → at ≤ 24 → (until end : ℕ)
    → FollowsBeside row until was k → (at ≡ row → until ≤ end)
    → ((d : ℕ) → end ≤ d → look_seen was (at - 1) d ≡ look_seen now (at - 1) d) → (last : Bool)
    → last ≡ is_last (edges_of_core k) at
    → FollowsToTheRight end (column_entry blank_look (looks_in now at))
    (column_entry blank_look (row_beneath (looks_in now (at - 1)) k.page at last))
right_is {row} {k} {was} {now} {former} {marks} {start} {steps} {at} m is top bottom until end beside first above last el
    c past right alike =
    let on : OnScreen at c = record {
      from_top = top;
      to_bottom = bottom;
      from_left = omega (arith, past);
      to_right = right;
    } in
    let over : looks_in now (at - 1) ≡ looks_in (looks_of k) (at - 1) =
    above_is k was now former marks at top bottom m.walked.refreshed in
    let here : looks_in now at ≡ looks_in was at = stands m is top bottom in
    let fresh : row_beneath (looks_in now (at - 1)) k.page at last ≡ looks_in (looks_of k) at =
    (λ i. row_beneath (over i) k.page at (el i)) ∙ sym (looks_in-from_above k at top bottom) in
    ap (λ (l : List Look). column_entry blank_look l c) here ∙ look_seen-at was at c is on
    ∙ beside at c on (λ same. omega (arith, first same, past))
    (λ d low high. above d (omega (arith, low, past)) ∙ ap (λ (l : List Look). column_entry blank_look l d) over)
    (subst (λ (l : List Look). IsCoveredAlike (look_seen was at (c - 1)) (column_entry blank_look l (c - 1))) fresh
    (subst (λ (l : List Look). IsCoveredAlike (column_entry blank_look l (c - 1)) (column_entry blank_look (row_beneath (looks_in now (at - 1)) k.page at last) (c - 1))) here alike))
    ∙ sym (column_of (look k at) c (omega (arith, past)) right)
    ∙ ap (λ (l : List Look). column_entry blank_look l c)
    (sym (beneath_is k (looks_in now (at - 1)) at last top bottom over el))

-- past the last column nothing is seen
past_row : (t : List (List Look)) (r d : ℕ) → IsTable t → 1 ≤ r → r ≤ 24 → 40 < d → look_seen t r d ≡ blank_look
past_row t r d is low high past =
    column_entry-at blank_look (looks_in t r) d (omega (arith, past))
    ∙ get_or_past (looks_in t r) (d - 1) blank_look (omega (arith, past, length-looks_in t r is low high))

-- from the column after the last one that changed the row looks as it did
pub seen_still : {row : ℕ} {k : Core} {was mid : List (List Look)} {former between : List Bool} {start steps at : ℕ}
    → WalkedDown row k was mid former between start steps at → IsTable was → 1 ≤ at → at ≤ 24
    → (now : List (List Look)) → IsTable now → (end : ℕ) → IsRightOf end (looks_in mid at) (looks_in now at)
    → (d : ℕ) → end + 1 ≤ d → look_seen was at d ≡ look_seen now at d
seen_still {was = was} {mid = mid} {at = at} m is top bottom now table end stays d past =
    elim (cases_lt 40 d) [
      | inl beyond ↦ past_row was at d is top bottom beyond ∙ sym (past_row now at d table top bottom beyond)
      | inr within ↦
          ap (λ (l : List Look). column_entry blank_look l d) (sym (stands m is top bottom))
          ∙ stays d (omega (arith, past)) (omega (arith, within))
    ]
