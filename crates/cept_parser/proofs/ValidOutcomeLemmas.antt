-- Every whole unit says something valid and leads to a valid context, and what fits has few bytes.
use Rattle.std.proofs.Common.{◌≡◌, ℕ, ◌+◌, ◌-◌, ◌<◌, ◌≤◌, Bool, true, false, not, ◌&&◌, cond, eqb, ltb, leb, List}
use Rattle.std.proofs.Common.{[], ◌∷◌, length, Some, refl, subst, arith, ◌⊎◌, inl, inr}
use Rattle.std.proofs.lemmas.Bool.{and_parts, cases_lt, not-false, leb-true, ltb-true}
use Rattle.std.proofs.lemmas.Bool.Decides.{nat_tests}
use Rattle.cept_codes.specs.Command.{IsValidSaid, IsValidForm, IsGraphic, IsC1, IsScreenC1, IsArea}
use Rattle.cept_codes.specs.Look.{IsValidRgb, is_plane_count}
use Rattle.cept_codes.specs.Place.{OnScreen}
use Rattle.cept_codes.specs.declared.item.Said.{Said}
use Rattle.cept_drcs.proofs.Laws.{unit_valid as pattern_valid}
use Rattle.cept_parser.specs.declared.context.Mode.{Mode}
use Rattle.cept_parser.specs.declared.context.Mode.TheVariants.{Text, TableRun, DclutRun, DrcsRun, Skip}
use Rattle.cept_parser.specs.declared.context.ColourKind.{ColourKind}
use Rattle.cept_parser.specs.declared.context.ColourKind.TheVariants.{ColourTable, LookUpTable}
use Rattle.cept_parser.specs.declared.context.Context.{Context}
use Rattle.cept_parser.specs.declared.context.Outcome.{Outcome}
use Rattle.cept_parser.specs.Context.{with_mode, start_context}
use Rattle.cept_parser.specs.Bytes.{is_between, is_plain, is_digit, two_digits, is_row, contains}
use Rattle.cept_parser.specs.Bytes.{outcome, is_whole, Standing, Table, complete, then_plain}
use Rattle.cept_parser.specs.Controls.{one_byte}
use Rattle.cept_parser.specs.Escape.{is_c1_final, escape}
use Rattle.cept_parser.specs.Csi.{area, csi}
use Rattle.cept_parser.specs.Units.{us_position, drcs_form, drcs_header, drcs_unit, colour_header, last_place}
use Rattle.cept_parser.specs.Units.{run_from, colour_start, colour_unit, format, service_break, service_unit, us_unit}
use Rattle.cept_parser.specs.Runs.{bit, colour_part, colour, table_entry, run_unit}
use Rattle.cept_parser.specs.inside.Fit.{misplacement}
use Rattle.cept_parser.specs.Fit.{starts_pattern}
use Rattle.cept_parser.specs.Grammar.{repetition, csi_unit, after_escape, standing, unit, fits}
use Rattle.cept_parser.specs.Valid.{IsValidContext, IsValidMode, AreBytes}
use Rattle.cept_parser.proofs.ChoiceLemmas.{each_test, each_table}
use Rattle.cept_parser.proofs.GrammarLemmas.{fits_hundred as hundred, unit_told}
use Rattle.cept_parser.proofs.UnitLemmas.{whole_pattern}

-- a closed unit says something valid, and the context after it is valid
pub record IsValidOutcome (o : Outcome) : Type 0 where
  pub said : IsValidSaid o.said
  pub next : IsValidContext o.next

-- what is whole in a table is valid
abbrev Valid : Table → Type 0
Valid F = (u : List ℕ) → is_whole (F u).fit ≡ true → IsValidOutcome (F u).outcome

pub text_valid : (x : Context) → IsValidContext x → IsValidContext (with_mode x Text)
text_valid x v = record { mode = tt; form = v.form }

pub start_valid : IsValidContext start_context
start_valid = record { mode = tt; form = record { size = refl; planes = refl } }

-- what is said is valid, and so is the mode after it
said_valid : (x : Context) (m : Mode) (s : Said) → IsValidContext x → IsValidMode m → IsValidSaid s
    → IsValidOutcome (outcome x m s)
said_valid x m s v n h = record { said = h; next = record { mode = n; form = v.form } }

complete_valid : (o : Outcome) → IsValidOutcome o → Valid (complete o)
complete_valid o h u w = h

plain_valid : (x : Context) (k : ℕ → Table) → ((c : ℕ) → is_plain c ≡ true → Valid (k c)) → Valid (then_plain x k)
plain_valid x k h [] w = absurd cc
plain_valid x k h (c ∷ u) w =
    each_test (λ (s : Standing). is_whole s.fit ≡ true → IsValidOutcome s.outcome) (is_plain c) (λ p. h c p u)
    (λ _ v. absurd cc) w

-- what a plain byte decides is valid for every plain byte
one_valid : (x : Context) (k : ℕ → Outcome) → ((c : ℕ) → is_plain c ≡ true → IsValidOutcome (k c))
    → Valid (then_plain x (λ c. complete (k c)))
one_valid x k h = plain_valid x (λ c. complete (k c)) (λ c p. complete_valid (k c) (h c p))

abbrev Fine : Said → Type 0
Fine s = IsValidSaid s

-- C0, C1 and the right half
c1_byte : (a : ℕ) → eqb a 0x9B ≡ false → is_between 0x80 0x9F a ≡ true → IsC1 (a - 0x80)
c1_byte a c h = (grind (arith, nat_tests), grind (arith, nat_tests))

above_controls : (a : ℕ) → leb a 0x1F ≡ false → 0x20 ≤ a
above_controls a l = grind (arith, nat_tests)

above_c1 : (a : ℕ) → 0x80 ≤ a → is_between 0x80 0x9F a ≡ false → 0xA0 ≤ a
above_c1 a g h = grind (arith, nat_tests)

graphic_byte : (a : ℕ) → a < 256 → leb a 0x1F ≡ false → is_between 0x80 0x9F a ≡ false → IsGraphic a
graphic_byte a b l h =
    let low = above_controls a l in
    let high : 0x80 ≤ a → (0xA0 ≤ a) × (a ≤ 0xFF) = λ g. (above_c1 a g h, omega arith) in
    elim (cases_lt a 0x80) [ inl s ↦ inl (low, omega arith) | inr g ↦ inr (high g) ]

control_valid : (a : ℕ) → a < 256 → eqb a 0x9B ≡ false → IsValidSaid (one_byte a)
unfolding one_byte
control_valid a b c =
    each_test Fine (eqb a 0x00) (λ _. tt) (λ _.
    each_test Fine (eqb a 0x08) (λ _. tt) (λ _.
    each_test Fine (eqb a 0x09) (λ _. tt) (λ _.
    each_test Fine (eqb a 0x0A) (λ _. tt) (λ _.
    each_test Fine (eqb a 0x0B) (λ _. tt) (λ _.
    each_test Fine (eqb a 0x0C) (λ _. tt) (λ _.
    each_test Fine (eqb a 0x0D) (λ _. tt) (λ _.
    each_test Fine (eqb a 0x0E) (λ _. omega arith) (λ _.
    each_test Fine (eqb a 0x0F) (λ _. omega arith) (λ _.
    each_test Fine (eqb a 0x11) (λ _. tt) (λ _.
    each_test Fine (eqb a 0x14) (λ _. tt) (λ _.
    each_test Fine (eqb a 0x18) (λ _. tt) (λ _.
    each_test Fine (eqb a 0x19) (λ _. omega arith) (λ _.
    each_test Fine (eqb a 0x1D) (λ _. omega arith) (λ _.
    each_test Fine (eqb a 0x1E) (λ _. tt) (λ _.
    each_test Fine (leb a 0x1F) (λ _. tt) (λ l.
    each_test Fine (is_between 0x80 0x9F a) (λ h. c1_byte a c h) (λ h. graphic_byte a b l h)))))))))))))))))

-- escape sequences
c1_final : (f : ℕ) → is_c1_final f ≡ true → IsC1 (f - 0x40)
c1_final f h = (grind (arith, nat_tests), grind (arith, nat_tests))

screen_above : (f : ℕ) → is_between 0x4C 0x4F f ≡ false → 12 ≤ f - 0x40 → 15 < f - 0x40
screen_above f k l = grind (arith, nat_tests)

screen_final : (f : ℕ) → is_c1_final f ≡ true → is_between 0x4C 0x4F f ≡ false → IsScreenC1 (f - 0x40)
screen_final f h k =
    let above : 12 ≤ f - 0x40 → 15 < f - 0x40 = λ l. screen_above f k l in
    (c1_final f h, elim (cases_lt (f - 0x40) 12) [ inl l ↦ inl l | inr l ↦ inr (above l) ])

escape_1_valid : (f : ℕ) → IsValidSaid (escape (f ∷ []))
unfolding escape
escape_1_valid f =
    each_test Fine (is_c1_final f) (λ h. c1_final f h) (λ _.
    each_test Fine (eqb f 0x6E) (λ _. omega arith) (λ _.
    each_test Fine (eqb f 0x6F) (λ _. omega arith) (λ _.
    each_test Fine (eqb f 0x7C) (λ _. omega arith) (λ _.
    each_test Fine (eqb f 0x7D) (λ _. omega arith) (λ _.
    each_test Fine (eqb f 0x7E) (λ _. omega arith) (λ _. tt))))))

set_number : (i : ℕ) → is_between 0x28 0x2B i ≡ true → i - 0x28 ≤ 3
set_number i h = grind (arith, nat_tests)

escape_2_valid : (i f : ℕ) → IsValidSaid (escape (i ∷ f ∷ []))
unfolding escape
escape_2_valid i f =
    each_test Fine (eqb i 0x22 && eqb f 0x40) (λ _. tt) (λ _.
    each_test Fine (eqb i 0x22 && eqb f 0x41) (λ _. tt) (λ _.
    each_test Fine (is_between 0x28 0x2B i && eqb f 0x40) (λ h. set_number i (and_parts _ _ h).0) (λ _.
    each_test Fine (is_between 0x28 0x2B i && eqb f 0x62) (λ h. set_number i (and_parts _ _ h).0) (λ _.
    each_test Fine (is_between 0x28 0x2B i && eqb f 0x63) (λ h. set_number i (and_parts _ _ h).0) (λ _.
    each_test Fine (is_between 0x28 0x2B i && eqb f 0x64) (λ h. set_number i (and_parts _ _ h).0) (λ _. tt))))))

-- what passes the sizes is none
no_size : (a b c : Bool) → (a && b) ≡ false → (a && c) ≡ true → b ≡ false
no_size true b c h k = h
no_size false b c h k = absurd cc

escape_3_valid : (i j f : ℕ) → IsValidSaid (escape (i ∷ j ∷ f ∷ []))
unfolding escape
escape_3_valid i j f =
    each_test Fine (eqb i 0x23 && eqb j 0x20 && is_between 0x4C 0x4F f) (λ _. tt) (λ n.
    each_test Fine (eqb i 0x23 && eqb j 0x20 && is_c1_final f)
    (λ h. screen_final f (and_parts _ _ h).1 (no_size (eqb i 0x23 && eqb j 0x20) _ _ n h)) (λ _.
    each_test Fine (eqb i 0x23 && eqb j 0x21 && is_c1_final f) (λ h. c1_final f (and_parts _ _ h).1) (λ _.
    each_test Fine (is_between 0x28 0x2B i && eqb j 0x20 && eqb f 0x40)
    (λ h. set_number i (and_parts _ _ (and_parts _ _ h).0).0) (λ _. tt))))

escape_valid : (u : List ℕ) → IsValidSaid (escape u)
unfolding escape
escape_valid [] = tt
escape_valid (f ∷ []) = escape_1_valid f
escape_valid (i ∷ f ∷ []) = escape_2_valid i f
escape_valid (i ∷ j ∷ f ∷ []) = escape_3_valid i j f
escape_valid (i ∷ j ∷ f ∷ a ∷ u) = tt

-- control sequences
table_number : (p : ℕ) → is_between 0x30 0x33 p ≡ true → p - 0x30 ≤ 3
table_number p h = grind (arith, nat_tests)

flash_number : (p : ℕ) → is_between 0x30 0x36 p ≡ true → p - 0x30 ≤ 6
flash_number p h = grind (arith, nat_tests)

csi_2_valid : (p f : ℕ) → IsValidSaid (csi (p ∷ f ∷ []))
unfolding csi
csi_2_valid p f =
    each_test Fine (is_between 0x30 0x33 p && eqb f 0x40) (λ h. table_number p (and_parts _ _ h).0) (λ _.
    each_test Fine (is_between 0x30 0x36 p && eqb f 0x41) (λ h. flash_number p (and_parts _ _ h).0) (λ _.
    each_test Fine (eqb p 0x31 && eqb f 0x50) (λ _. tt) (λ _.
    each_test Fine (eqb p 0x31 && eqb f 0x51) (λ _. tt) (λ _.
    each_test Fine (eqb p 0x32 && eqb f 0x53) (λ _. tt) (λ _.
    each_test Fine (eqb p 0x32 && eqb f 0x54) (λ _. tt) (λ _.
    each_test Fine (eqb p 0x30 && eqb f 0x60) (λ _. tt) (λ _.
    each_test Fine (eqb p 0x31 && eqb f 0x60) (λ _. tt) (λ _.
    each_test Fine (eqb p 0x32 && eqb f 0x60) (λ _. tt) (λ _.
    each_test Fine (eqb p 0x33 && eqb f 0x60) (λ _. tt) (λ _. tt))))))))))

area_rows : (n m : ℕ) → (leb 1 n && leb n m && leb m 24) ≡ true → IsArea n m
area_rows n m h =
    let p = and_parts _ (leb m 24) h in
    let q = and_parts (leb 1 n) (leb n m) p.0 in
    (leb-true 1 n q.0, leb-true n m q.1, leb-true m 24 p.1)

area_valid : (u : List ℕ) → IsValidSaid (area u)
unfolding area
area_valid [] = tt
area_valid (a ∷ []) = tt
area_valid (a ∷ b ∷ []) = tt
area_valid (a ∷ b ∷ s ∷ []) = tt
area_valid (a ∷ b ∷ s ∷ c ∷ []) = tt
area_valid (a ∷ b ∷ s ∷ c ∷ d ∷ []) = tt
area_valid (a ∷ b ∷ s ∷ c ∷ d ∷ f ∷ []) =
    let n = two_digits a b in
    let m = two_digits c d in
    each_test Fine (not (is_digit a && is_digit b && eqb s 0x3B && is_digit c && is_digit d)) (λ _. tt) (λ _.
    each_test Fine (not (is_between 0x55 0x56 f)) (λ _. tt) (λ _.
    each_test Fine (not (leb 1 n && leb n m && leb m 24)) (λ _. tt) (λ h. let r = area_rows n m (not-false _ h) in
    each_test Fine (eqb f 0x55) (λ _. r) (λ _. r))))
area_valid (a ∷ b ∷ s ∷ c ∷ d ∷ f ∷ g ∷ u) = tt

csi_valid : (u : List ℕ) → IsValidSaid (csi u)
unfolding csi
csi_valid [] = area_valid []
csi_valid (f ∷ []) = each_test Fine (eqb f 0x42) (λ _. tt) (λ _. tt)
csi_valid (p ∷ f ∷ []) = csi_2_valid p f
csi_valid (a ∷ b ∷ c ∷ []) = area_valid _
csi_valid (b ∷ s ∷ d ∷ f ∷ []) = area_valid _
csi_valid (a ∷ b ∷ c ∷ d ∷ f ∷ []) = each_test Fine (eqb c 0x3B) (λ _. area_valid _) (λ _. area_valid _)
csi_valid (a ∷ b ∷ c ∷ d ∷ e ∷ f ∷ u) = area_valid _

-- units after US
on_screen : (r c : ℕ) → is_row r ≡ true → is_between 0x41 0x68 c ≡ true → OnScreen (r - 0x40) (c - 0x40)
on_screen r c h g =
    record {
      from_top = grind (arith, nat_tests);
      to_bottom = grind (arith, nat_tests);
      from_left =
          grind (arith, nat_tests);
      to_right = grind (arith, nat_tests);
    }

position_valid : (x : Context) (r : ℕ) → IsValidContext x → Valid (us_position x r)
unfolding us_position
position_valid x r v =
    one_valid x _ (λ c _. each_test IsValidOutcome (is_row r && is_between 0x41 0x68 c) (λ h. let p =
    and_parts (is_row r) (is_between 0x41 0x68 c) h in
    said_valid x Text _ v tt (on_screen r c p.0 p.1)) (λ _. said_valid x Text _ v tt tt))

-- every size of a form is one of the six
planes_valid : (a b : Bool) → is_plane_count (cond a 2 (cond b 4 1)) ≡ true
planes_valid true b = refl
planes_valid false true = refl
planes_valid false false = refl

form_valid : (u : List ℕ) → IsValidForm (drcs_form u)
unfolding drcs_form
form_valid u =
    let p = planes_valid (contains u 0x42) (contains u 0x44) in
    each_test IsValidForm (contains u 0x36) (λ _. record { size = refl; planes = p }) (λ _.
    each_test IsValidForm (contains u 0x3A) (λ _. record { size = refl; planes = p }) (λ _.
    each_test IsValidForm (contains u 0x3B) (λ _. record { size = refl; planes = p }) (λ _.
    each_test IsValidForm (contains u 0x3C) (λ _. record { size = refl; planes = p }) (λ _.
    each_test IsValidForm (contains u 0x3F) (λ _. record { size = refl; planes = p })
    (λ _. record { size = refl; planes = p })))))

drcs_code : (c : ℕ) → is_between 0x21 0x7E c ≡ true → (0x21 ≤ c) × (c ≤ 0x7E)
drcs_code c h = (grind (arith, nat_tests), grind (arith, nat_tests))

drcs_valid : (x : Context) → IsValidContext x → Valid (drcs_unit x)
unfolding drcs_unit drcs_header
drcs_valid x v =
    plain_valid x _ (λ c _. each_table Valid (eqb c 0x20)
    (λ _ u _. record { said = form_valid u; next = record { mode = tt; form = form_valid u } }) (λ _.
    each_table Valid (is_between 0x21 0x7E c) (λ h. let d = drcs_code c h in
    complete_valid _ (said_valid x (DrcsRun c) _ v (d.0, omega arith) d))
    (λ _. complete_valid _ (said_valid x Skip _ v tt tt))))

run_from_valid : (k : ColourKind) (n : ℕ) → leb n (last_place k) ≡ true → IsValidMode (run_from k n) × (n ≤ 31)
run_from_valid ColourTable n h = let l = leb-true n 31 h in (omega arith, omega arith)
run_from_valid LookUpTable n h = let l = leb-true n 3 h in (omega arith, omega arith)

colour_start_valid : (x : Context) (t : ℕ) → IsValidContext x → Valid (colour_start x t)
unfolding colour_start
colour_start_valid x t v =
    one_valid x _ (λ o _. let i = two_digits t o in
    each_test IsValidOutcome (is_digit o && leb i (last_place x.kind)) (λ h. let r =
    run_from_valid x.kind i (and_parts (is_digit o) _ h).1 in
    said_valid x (run_from x.kind i) _ v r.0 r.1) (λ _. said_valid x Skip _ v tt tt))

colour_valid : (x : Context) → IsValidContext x → Valid (colour_unit x)
unfolding colour_unit colour_header
colour_valid x v =
    plain_valid x _ (λ a _. each_table Valid (eqb a 0x20)
    (λ _ u _. record { said = tt; next = record { mode = tt; form = v.form } }) (λ _.
    each_table Valid (eqb a 0x21) (λ _. complete_valid _ (said_valid x Skip _ v tt tt)) (λ _.
    each_table Valid (is_digit a) (λ _. colour_start_valid x a v)
    (λ _. complete_valid _ (said_valid x Skip _ v tt tt)))))

format_valid : (x : Context) (u : List ℕ) → IsValidContext x → IsValidOutcome (format x u)
unfolding format
format_valid x u v =
    said_valid x Text _ v tt (each_test (λ (r : ℕ). (r ≡ 24)
    ⊎ (r ≡ 20)) (contains u 0x42) (λ _. inr refl) (λ _. inl refl))

row_number : (r : ℕ) → is_row r ≡ true → (1 ≤ r - 0x40) × (r - 0x40 ≤ 24)
row_number r h = (grind (arith, nat_tests), grind (arith, nat_tests))

break_valid : (x : Context) → IsValidContext x → Valid (service_break x)
unfolding service_break
break_valid x v =
    one_valid x _ (λ r _. each_test IsValidOutcome (is_row r) (λ h. said_valid x Text _ v tt (row_number r h))
    (λ _. said_valid x Skip _ v tt tt))

service_unit_valid : (x : Context) → IsValidContext x → Valid (service_unit x)
unfolding service_unit
service_unit_valid x v =
    plain_valid x _ (λ a _. each_table Valid (eqb a 0x40) (λ _. break_valid x v) (λ _.
    each_table Valid (eqb a 0x41) (λ _. complete_valid _ (said_valid start_context Text _ start_valid tt tt)) (λ _.
    each_table Valid (eqb a 0x42) (λ _. complete_valid _ (said_valid start_context Text _ start_valid tt tt)) (λ _.
    each_table Valid (eqb a 0x43) (λ _. complete_valid _ (said_valid x Text _ v tt tt)) (λ _.
    each_table Valid (eqb a 0x44) (λ _. complete_valid _ (said_valid x Text _ v tt tt)) (λ _.
    each_table Valid (eqb a 0x45) (λ _. complete_valid _ (said_valid x Text _ v tt (inr refl))) (λ _.
    each_table Valid (eqb a 0x46) (λ _. complete_valid _ (said_valid x Text _ v tt (inl refl))) (λ _.
    each_table Valid (eqb a 0x4F) (λ _. complete_valid _ (said_valid x Text _ v tt tt))
    (λ _. complete_valid _ (said_valid x Skip _ v tt tt))))))))))

us_valid : (x : Context) → IsValidContext x → Valid (us_unit x)
unfolding us_unit
us_valid x v =
    plain_valid x _ (λ a _. each_table Valid (eqb a 0x23) (λ _. drcs_valid x v) (λ _.
    each_table Valid (eqb a 0x26) (λ _. colour_valid x v) (λ _.
    each_table Valid (eqb a 0x2D) (λ _ u _. format_valid x u v) (λ _.
    each_table Valid (eqb a 0x2F) (λ _. service_unit_valid x v) (λ _.
    each_table Valid (is_between 0x20 0x3F a) (λ _. complete_valid _ (said_valid x Skip _ v tt tt))
    (λ _. position_valid x a v))))))

-- units of a run
bit_small : (k a : ℕ) → bit k a ≤ 1
bit_small k a = omega arith

part_small : (k a b : ℕ) → colour_part k a b ≤ 15
part_small k a b =
    let p = bit_small (k + 3) a in
    let q = bit_small k a in
    let r = bit_small (k + 3) b in
    let s = bit_small k b in
    omega arith

colour_fine : (a b : ℕ) → IsValidRgb (colour a b)
unfolding colour
colour_fine a b = record { r = part_small 2 a b; g = part_small 1 a b; b = part_small 0 a b }

misplaced_valid : (x : Context) → IsValidContext x → IsValidOutcome (misplacement x)
misplaced_valid x v = said_valid x Skip _ v tt tt

entry_valid : (x : Context) (i a : ℕ) → IsValidContext x → i < 32 → Valid (table_entry x i a)
unfolding table_entry
entry_valid x i a v l =
    one_valid x _ (λ b _. each_test IsValidOutcome (leb 0x40 b)
    (λ _. said_valid x (TableRun (i + 1)) _ v (omega arith) (omega arith, colour_fine a b)) (λ _. misplaced_valid x v))

plain_graphic : (a : ℕ) → is_plain a ≡ true → IsGraphic a
plain_graphic a h = inl (grind (arith, nat_tests), grind (arith, nat_tests))

run_valid : (m : Mode) (x : Context) (a : ℕ) → IsValidMode m → IsValidContext x → is_plain a ≡ true
    → Valid (run_unit m x a)
run_valid Text x a n v p = complete_valid _ (said_valid x Text _ v tt (plain_graphic a p))
run_valid Skip x a n v p = complete_valid _ (said_valid x Skip _ v tt tt)
run_valid (TableRun i) x a n v p =
    each_table Valid (ltb i 32 && leb 0x40 a) (λ h. entry_valid x i a v (ltb-true i 32 (and_parts _ _ h).0))
    (λ _. complete_valid _ (misplaced_valid x v))
run_valid (DclutRun i) x a n v p =
    each_table Valid (ltb i 4 && leb 0x40 a) (λ h. let l = ltb-true i 4 (and_parts _ _ h).0 in
    complete_valid _ (said_valid x (DclutRun (i + 1)) _ v (omega arith) (omega arith, omega arith)))
    (λ _. complete_valid _ (misplaced_valid x v))
run_valid (DrcsRun c) x a n v p =
    each_table Valid (starts_pattern x c a) (λ s u w. let l = ltb-true c 0x7F (and_parts _ _ s).0 in
    said_valid x (DrcsRun (c + 1)) _ v (omega (arith, n.0), omega arith)
    (n.0, omega arith, pattern_valid x.form (a ∷ u) v.form (whole_pattern _ _ w)))
    (λ _. complete_valid _ (misplaced_valid x v))

repeat_valid : (x : Context) → IsValidContext x → Valid (repetition x)
unfolding repetition
repeat_valid x v =
    one_valid x _ (λ c p. each_test IsValidOutcome (leb 0x40 c) (λ _. said_valid x Text _ v tt (repeat_number c p))
    (λ _. said_valid x Text _ v tt tt))
  where
    repeat_number : (c : ℕ) → is_plain c ≡ true → c - 0x40 ≤ 63
    repeat_number c p = grind (arith, nat_tests)

csi_unit_valid : (x : Context) → IsValidContext x → Valid (csi_unit x)
unfolding csi_unit
csi_unit_valid x v u w = said_valid x Text _ v tt (csi_valid u)

escapes_valid : (x : Context) → IsValidContext x → Valid (after_escape x)
escapes_valid x v [] w = absurd cc
escapes_valid x v (a ∷ u) w =
    each_test (λ (s : Standing). is_whole s.fit ≡ true → IsValidOutcome s.outcome) (eqb a 0x5B)
    (λ _. csi_unit_valid x v u) (λ _ _. said_valid x Text _ v tt (escape_valid (a ∷ u))) w

first_valid : (x : Context) (a : ℕ) → IsValidContext x → a < 256 → Valid (λ u. standing x (a ∷ u))
first_valid x a v b =
    each_table Valid (is_plain a) (λ p. run_valid x.mode x a v.mode v p) (λ p.
    each_table Valid (eqb a 0x12) (λ _. repeat_valid x v) (λ _.
    each_table Valid (eqb a 0x1B) (λ _. escapes_valid x v) (λ _.
    each_table Valid (eqb a 0x1F) (λ _. us_valid x v) (λ _.
    each_table Valid (eqb a 0x9B) (λ _. csi_unit_valid x v)
    (λ c. complete_valid _ (said_valid x Text _ v tt (control_valid a b c)))))))

-- what is whole is valid, in a valid context
pub unit_valid : (x : Context) (u : List ℕ) (o : Outcome) → IsValidContext x → AreBytes u → unit x u ≡ Some o
    → IsValidOutcome o
unfolding unit
unit_valid x [] o v b e = absurd cc
unit_valid x (a ∷ u) o v b e =
    let t = unit_told (standing x (a ∷ u)) o e in
    subst IsValidOutcome t.1 (first_valid x a v b.0 u t.0)

-- the context after what is whole in a table is valid
abbrev LeadsToValid : Table → Type 0
LeadsToValid F = (u : List ℕ) → is_whole (F u).fit ≡ true → IsValidContext (F u).outcome.next

valid_leads : (F : Table) → Valid F → LeadsToValid F
valid_leads F h u w = (h u w).next

first_leads : (x : Context) (a : ℕ) → IsValidContext x → LeadsToValid (λ u. standing x (a ∷ u))
first_leads x a v =
    each_table LeadsToValid (is_plain a) (λ p. valid_leads _ (run_valid x.mode x a v.mode v p)) (λ _.
    each_table LeadsToValid (eqb a 0x12) (λ _. valid_leads _ (repeat_valid x v)) (λ _.
    each_table LeadsToValid (eqb a 0x1B) (λ _. valid_leads _ (escapes_valid x v)) (λ _.
    each_table LeadsToValid (eqb a 0x1F) (λ _. valid_leads _ (us_valid x v)) (λ _.
    each_table LeadsToValid (eqb a 0x9B) (λ _. valid_leads _ (csi_unit_valid x v)) (λ _ u w. text_valid x v)))))

-- a unit leads from a valid context to a valid one, whatever numbers stand for its bytes
pub unit_leads : (x : Context) (u : List ℕ) (o : Outcome) → IsValidContext x → unit x u ≡ Some o
    → IsValidContext o.next
unfolding unit
unit_leads x [] o v e = absurd cc
unit_leads x (a ∷ u) o v e =
    let t = unit_told (standing x (a ∷ u)) o e in
    subst (λ (o : Outcome). IsValidContext o.next) t.1 (first_leads x a v u t.0)

-- what fits has at most a hundred bytes
pub fits_hundred : (x : Context) (u : List ℕ) → IsValidContext x → fits x u ≡ true → length u ≤ 100
fits_hundred x u v h = hundred x u v.form h
