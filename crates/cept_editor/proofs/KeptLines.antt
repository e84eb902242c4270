-- Lines that were read one after the other.
use Rattle.std.proofs.Common.{rules}
use Rattle.std.proofs.Common.{◌≡◌, ℕ, ◌+◌, ◌-◌, ◌<◌, ◌≤◌, ◌^◌, List, [], ◌∷◌, ◌++◌, map, length}
use Rattle.std.proofs.Common.{zero, suc, take, drop, slice_index_or, Option, Some, None, Result, Ok, Err, refl, sym, ap, ◌∙◌, subst, arith}
use Rattle.std.specs.List.{AllByRecursion}
use Rattle.std.proofs.lemmas.List.{append_assoc, drop_all, length-drop, length-append, drop-drop, map-append, get_or-map, length-map}
use Rattle.cept_codes.specs.declared.line_reason.LineReason.{LineReason}
use Rattle.cept_words.specs.Cut.{IsFirstLine}
use Rattle.cept_words.specs.Lines.{lines}
use Rattle.cept_editor.specs.declared.places.OrderLine.{OrderLine}
use Rattle.cept_editor.specs.declared.script.ScriptFault.{ScriptFault}
use Rattle.cept_editor.specs.declared.script.ScriptFault.TheVariants as faults
use Rattle.cept_editor.specs.Fault.{SaysFault}
use Rattle.cept_editor.specs.Meaning.{Step, line_meaning}
use Rattle.cept_editor.specs.Places.{IsPlacedOrder, step_at, edit_at}
use Rattle.cept_editor.specs.inside.Places.{EndsAt, HasKept, IsUnkept, HasOrders}
use Rattle.cept_editor.proofs.ValidOrders.{order_valid}
use Rattle.cept_words.specs.Faults.{Fault, fault_or, fault_from}
use Rattle.cept_editor.specs.Script.{EditLine, edit_of, edits_from, edits, first_fault}
use Rattle.cept_editor.specs.Script.{AreValidEdits}

-- so many lines were read, and these bytes are left
pub record HasRead (bytes : List ℕ) (ps : List OrderLine) (n : ℕ) (rest : List ℕ) : Type 0 where
  pub edits : edits bytes ≡ map (edit_at bytes) ps ++ edits_from (n + 1) (lines rest)
  pub fault : first_fault bytes ≡ fault_from line_meaning (n + 1) (lines rest)
  pub places : AllByRecursion (λ l. IsPlacedOrder bytes l.order) ps
  pub count : length ps ≤ n
  pub number : n + length rest ≤ length bytes
  pub left : rest ≡ drop (length bytes - length rest) bytes

-- ---- the first line

-- what stands after the first line of what is left
after_is : (bytes left part rest : List ℕ) → left ≡ drop (length bytes - length left) bytes
    → length left ≤ length bytes → rest ≡ drop (length part + 1) left → rest ≡ drop (length bytes - length rest) bytes
after_is bytes left part [] e few after = sym (drop_all (length bytes - 0) bytes (omega arith))
after_is bytes left part (a ∷ more) e few after =
    let size : length (a ∷ more) ≡ length left - (length part + 1) =
    ap length after ∙ length-drop (length part + 1) left in
    let place : (length bytes - length left) + (length part + 1) ≡ length bytes - length (a ∷ more) =
    omega (arith, size, few) in
    after ∙ ap (drop (length part + 1)) e ∙ drop-drop (length part + 1) (length bytes - length left) bytes
    ∙ ap (λ (k : ℕ). drop k bytes) place

-- ---- one line more

-- the first line of what is left ends there
line_ends : (bytes left part : List ℕ) (end : ℕ) → left ≡ drop (length bytes - length left) bytes
    → length left ≤ length bytes → part ≡ take (length part) left → length part ≤ length left
    → end ≡ (length bytes - length left) + length part → EndsAt bytes end part
line_ends bytes left part end e few begins size is =
    let count : end - (end - length part) ≡ length part = omega (arith, is) in
    let place : end - length part ≡ length bytes - length left = omega (arith, is) in
    record {
      long = omega (arith, is);
      within = omega (arith, is, size, few);
      is =
          begins ∙ ap (take (length part)) e
          ∙ ap (λ (i : ℕ). take (length part) (drop i bytes)) (sym place)
          ∙ ap (λ (i : ℕ). take i (drop (end - length part) bytes)) (sym count);
    }

kept_edits : (bytes : List ℕ) (ps qs : List OrderLine) (m : Result (Option Step) LineReason) (n : ℕ)
    (more : List EditLine) → HasKept bytes n m ps qs
    → map (edit_at bytes) ps ++ (edit_of n m ++ more) ≡ map (edit_at bytes) qs ++ more
kept_edits bytes ps qs (Ok None) n more kept =
    ap (λ (xs : List OrderLine). map (edit_at bytes) xs ++ more) (sym kept)
kept_edits bytes ps qs (Ok (Some step)) n more (p, after, at, placed) =
    ap (λ (e : EditLine). map (edit_at bytes) ps ++ (e ∷ more)) (sym at)
    ∙ sym (append_assoc (map (edit_at bytes) ps) (edit_at bytes p ∷ []) more)
    ∙ ap (λ (xs : List EditLine). xs ++ more) (sym (map-append (edit_at bytes) ps (p ∷ [])))
    ∙ ap (λ (xs : List OrderLine). map (edit_at bytes) xs ++ more) (sym after)
kept_edits bytes ps qs (Err reason) n more kept = absurd kept

kept_fault : (bytes : List ℕ) (ps qs : List OrderLine) (m : Result (Option Step) LineReason) (n : ℕ)
    (later : Option Fault) → HasKept bytes n m ps qs → fault_or n m later ≡ later
kept_fault bytes ps qs (Ok None) n later kept = refl
kept_fault bytes ps qs (Ok (Some step)) n later kept = refl
kept_fault bytes ps qs (Err reason) n later kept = absurd kept

one_more : (bytes : List ℕ) (ps : List OrderLine) (p : OrderLine)
    → AllByRecursion (λ l. IsPlacedOrder bytes l.order) ps → IsPlacedOrder bytes p.order
    → AllByRecursion (λ l. IsPlacedOrder bytes l.order) (ps ++ p ∷ [])
one_more bytes [] p all here = (here, tt)
one_more bytes (q ∷ ps) p all here = (all.0, one_more bytes ps p all.1 here)

kept_places : (bytes : List ℕ) (ps qs : List OrderLine) (m : Result (Option Step) LineReason) (n : ℕ)
    → HasKept bytes n m ps qs → AllByRecursion (λ l. IsPlacedOrder bytes l.order) ps
    → AllByRecursion (λ l. IsPlacedOrder bytes l.order) qs
kept_places bytes ps qs (Ok None) n kept all =
    subst (AllByRecursion (λ (l : OrderLine). IsPlacedOrder bytes l.order)) (sym kept) all
kept_places bytes ps qs (Ok (Some step)) n (p, after, at, placed) all =
    subst (AllByRecursion (λ (l : OrderLine). IsPlacedOrder bytes l.order)) (sym after) (one_more bytes ps p all placed)
kept_places bytes ps qs (Err reason) n kept all = absurd kept

kept_count : (bytes : List ℕ) (ps qs : List OrderLine) (m : Result (Option Step) LineReason) (n : ℕ)
    → HasKept bytes n m ps qs → length qs ≤ length ps + 1
kept_count bytes ps qs (Ok None) n kept = let e : length qs ≡ length ps = ap length kept in omega (arith, e)
kept_count bytes ps qs (Ok (Some step)) n (p, after, at, placed) =
    let e : length qs ≡ length (ps ++ p ∷ []) = ap length after in
    omega (arith, e, length-append ps (p ∷ []))
kept_count bytes ps qs (Err reason) n kept = absurd kept

pub read_more : (bytes : List ℕ) (ps qs : List OrderLine) (n end : ℕ) (left part rest : List ℕ) → HasRead bytes ps n left
    → IsFirstLine left part rest → end ≡ (length bytes - length left) + length part
    → ((script : List ℕ) → EndsAt script end part → HasKept script (n + 1) (line_meaning part) ps qs)
    → HasRead bytes qs (n + 1) rest
unfolding edits_from fault_from
read_more bytes ps qs n end left part rest r first place keeps =
    let few : length left ≤ length bytes = omega (arith, r.number) in
    let kept = keeps bytes (line_ends bytes left part end r.left few first.start first.within place) in
    record {
      edits =
          r.edits ∙ ap (λ (ls : List (List ℕ)). map (edit_at bytes) ps ++ edits_from (n + 1) ls) first.lines
          ∙ kept_edits bytes ps qs (line_meaning part) (n + 1) (edits_from (n + 1 + 1) (lines rest)) kept;
      fault =
          r.fault ∙ ap (λ (ls : List (List ℕ)). fault_from line_meaning (n + 1) ls) first.lines
          ∙ kept_fault bytes ps qs (line_meaning part) (n + 1) (fault_from line_meaning (n + 1 + 1) (lines rest)) kept;
      places = kept_places bytes ps qs (line_meaning part) (n + 1) kept r.places;
      count = omega (arith, kept_count bytes ps qs (line_meaning part) (n + 1) kept, r.count);
      number = omega (arith, r.number, first.shorter);
      left = after_is bytes left part rest r.left few first.after;
    }

-- ---- the first and the last

pub read_none : (bytes : List ℕ) (ps : List OrderLine) → ps ≡ [] → HasRead bytes ps 0 bytes
read_none bytes ps e =
    subst (λ (qs : List OrderLine). HasRead bytes qs 0 bytes) (sym e) (record {
      edits = refl;
      fault = refl;
      places = tt;
      count = omega arith;
      number = omega arith;
      left = ap (λ (k : ℕ). drop k bytes) (let z : 0 ≡ length bytes - length bytes = omega arith in z);
    })

pub read_all : (bytes : List ℕ) (ps : List OrderLine) (n : ℕ) (left : List ℕ) → HasRead bytes ps n left
    → length left ≡ 0 → length bytes ≤ 2 ^ 20 → HasOrders bytes ps
unfolding edits_from fault_from
read_all bytes ps n [] r e few = search rules
read_all bytes ps n (a ∷ left) r e few = absurd (omega arith)

fault_said : (m : Result (Option Step) LineReason) (n : ℕ) (first later : Option Fault) (fault : ScriptFault)
    → first ≡ fault_or n m later → IsUnkept m n fault → SaysFault first fault
fault_said m n first later (faults.BadLine k reason) e u =
    e ∙ ap (λ (x : Result (Option Step) LineReason). fault_or n x later) u.1
    ∙ ap (λ (j : ℕ). Some (record { line = j; reason = reason })) (sym u.0)
fault_said m n first later faults.NoMemory e u = tt

pub read_fault : (bytes : List ℕ) (ps : List OrderLine) (n end : ℕ) (left part rest : List ℕ) (fault : ScriptFault)
    → HasRead bytes ps n left → IsFirstLine left part rest → end ≡ (length bytes - length left) + length part
    → ((script : List ℕ) → EndsAt script end part → IsUnkept (line_meaning part) (n + 1) fault)
    → SaysFault (first_fault bytes) fault
unfolding fault_from
read_fault bytes ps n end left part rest fault r first place unkept =
    fault_said (line_meaning part) (n + 1) (first_fault bytes) (fault_from line_meaning (n + 1 + 1) (lines rest)) fault
    (r.fault ∙ ap (λ (ls : List (List ℕ)). fault_from line_meaning (n + 1) ls) first.lines)
    (unkept bytes (line_ends bytes left part end r.left (omega (arith, r.number)) first.start first.within place))

valid_each : (bytes : List ℕ) (ps : List OrderLine) → AllByRecursion (λ l. IsPlacedOrder bytes l.order) ps
    → AreValidEdits (map (edit_at bytes) ps)
valid_each bytes [] all = tt
valid_each bytes (p ∷ ps) all = (order_valid _ _ p.order all.0.sound, valid_each bytes ps all.1)

pub valid_edits : (bytes : List ℕ) (ps : List OrderLine) → HasOrders bytes ps → AreValidEdits (edits bytes)
valid_edits bytes ps h = subst AreValidEdits (sym h.edits) (valid_each bytes ps h.places.each)

-- ---- one edit

-- the order of one line of all
placed_of : (text : List ℕ) (ps : List OrderLine) (k : ℕ) (p : OrderLine)
    → AllByRecursion (λ l. IsPlacedOrder text l.order) ps → k < length ps → p ≡ slice_index_or ps k p
    → IsPlacedOrder text p.order
placed_of text [] k p all l e = absurd (omega (arith, l))
placed_of text (q ∷ ps) zero p all l e =
    subst (λ (x : OrderLine). IsPlacedOrder text x.order) (sym e) all.0
placed_of text (q ∷ ps) (suc k) p all l e = placed_of text ps k p all.1 (omega (arith, l)) e

pub placed_at : (text : List ℕ) (ps : List OrderLine) (k : ℕ) (p : OrderLine)
    → AllByRecursion (λ l. IsPlacedOrder text l.order) ps → k < length (map (edit_at text) ps)
    → p ≡ slice_index_or ps k p → IsPlacedOrder text p.order
placed_at text ps k p all l e =
    let count : length (map (edit_at text) ps) ≡ length ps = length-map ps (edit_at text) in
    placed_of text ps k p all (omega (arith, l, count)) e

pub step_is : (text : List ℕ) (ps : List OrderLine) (k : ℕ) (p : OrderLine) (default : EditLine)
    → k < length (map (edit_at text) ps) → p ≡ slice_index_or ps k p
    → step_at text p.order ≡ (slice_index_or (map (edit_at text) ps) k default).step
step_is text ps k p default l e =
    let count : length (map (edit_at text) ps) ≡ length ps = length-map ps (edit_at text) in
    ap (λ (q : OrderLine). (edit_at text q).step) e
    ∙ ap (λ (x : EditLine). x.step)
    (sym (get_or-map (edit_at text) ps k p default (omega (arith, l, count))))
