-- One more cell by looking back: what counts after it follows from what counts before it.
use Rattle.std.proofs.Common.{◌≡◌, eqb, ℕ, ◌≤◌, ◌<◌, zero, suc, Bool, true, false}
use Rattle.std.proofs.Common.{cond, Option, None, unwrap_or, refl, sym, ◌∙◌, ap, arith}
use Rattle.std.specs.Option.{option_or}
use Rattle.std.proofs.lemmas.Bool.{lt-ltb, le-ltb, cond_both}
use Rattle.std.proofs.lemmas.Bool.Decides.{nat_tests}
use Rattle.cept_codes.specs.declared.attribute.Pen.{Pen}
use Rattle.cept_codes.specs.declared.cell.Marker.TheVariants as markers
use Rattle.cept_codes.specs.declared.cell.What.{What}
use Rattle.cept_codes.specs.declared.cell.What.TheVariants as whats
use Rattle.cept_codes.specs.Attribute.{unset_pen}
use Rattle.cept_profile.specs.Attributes.{cascade, first_value}
use Rattle.cept_profile.specs.Serial.{acting, acts_there, fore_at, held_sign, hold_said, is_holding, is_marker, kept_sign}
use Rattle.cept_profile.specs.Serial.{marker_pen, nearest_said, pen_of, serial_attributes}
use Rattle.cept_profile.specs.Influence.{Influence, influence, influence_after}
use Rattle.cept_profile.specs.Influence.{influence_in, held_sign_in}

-- ---- what is said nearest

nearest_said-alike : {X : Type 0} (f g : ℕ → Option X) (c : ℕ) → ((d : ℕ) → d ≤ c → f d ≡ g d)
    → nearest_said f c ≡ nearest_said g c
nearest_said-alike f g zero same = refl
nearest_said-alike f g (suc c) same =
    λ i. option_or (same (suc c) (omega arith) i) (nearest_said-alike f g c (λ d h. same d (omega arith)) i)

-- left of a column all acts
acting-left : (row : ℕ → What) (c d : ℕ) → d ≤ c → acting row (suc c) d ≡ row d
acting-left row c d h = let below : d < suc c = omega arith in rw (lt-ltb d (suc c) below) refl

-- in it a marker that acts there
acting-here : (row : ℕ → What) (c : ℕ)
    → acting row (suc c) (suc c) ≡ cond (acts_there (row (suc c))) (row (suc c)) whats.Blank
acting-here row c =
    let here : eqb (suc c) (suc c) ≡ true = grind (arith, nat_tests) in
    rw (le-ltb (suc c) (suc c) (omega arith), here) refl

-- in the next column what a marker says that acts there, else what is said nearest before it
acting_said : {X : Type 0} (row : ℕ → What) (says : ℕ → What → Option X) (c : ℕ)
    → nearest_said (λ d. says d (acting row (suc c) d)) (suc c)
    ≡ option_or (says (suc c) (cond (acts_there (row (suc c))) (row (suc c)) whats.Blank))
    (nearest_said (λ d. says d (row d)) c)
acting_said row says c = λ i.
    option_or (says (suc c) (acting-here row c i))
    (nearest_said-alike (λ d. says d (acting row (suc c) d)) (λ d. says d (row d)) c
    (λ d h. ap (says d) (acting-left row c d h)) i)

-- ---- attributes

-- a pen after what a marker says
abbrev pen_after : Pen → Pen → Pen
pen_after said p = record {
  fore = option_or said.fore p.fore;
  back = option_or said.back p.back;
  flash = option_or said.flash p.flash;
  conceal = option_or said.conceal p.conceal;
  lined = option_or said.lined p.lined;
  boxed = option_or said.boxed p.boxed;
  size = option_or said.size p.size;
  invert = None;
}

pen_of-suc : (row : ℕ → What) (fore : ℕ → ℕ) (c : ℕ)
    → pen_of (acting row (suc c)) fore (suc c)
    ≡ pen_after (marker_pen (fore (suc c)) (cond (acts_there (row (suc c))) (row (suc c)) whats.Blank)) (pen_of row fore c)
pen_of-suc row fore c = λ i. record {
  fore = acting_said row (λ d w. (marker_pen (fore d) w).fore) c i;
  back = acting_said row (λ d w. (marker_pen (fore d) w).back) c i;
  flash = acting_said row (λ d w. (marker_pen (fore d) w).flash) c i;
  conceal = acting_said row (λ d w. (marker_pen (fore d) w).conceal) c i;
  lined = acting_said row (λ d w. (marker_pen (fore d) w).lined) c i;
  boxed = acting_said row (λ d w. (marker_pen (fore d) w).boxed) c i;
  size = acting_said row (λ d w. (marker_pen (fore d) w).size) c i;
  invert = None;
}

-- what is said of the foreground depends on none
fore_said : (fore : ℕ) (w : What) → (marker_pen 0 w).fore ≡ (marker_pen fore w).fore
fore_said fore (whats.Marker (markers.Alpha x)) = refl
fore_said fore (whats.Marker (markers.Mosaic x)) = refl
fore_said fore (whats.Marker m) = refl
fore_said fore w = refl

-- and nothing that acts from its own cell says it
no_fore_said : (w : What) → acts_there w ≡ true → (marker_pen 0 w).fore ≡ None
no_fore_said (whats.Marker (markers.Alpha x)) acts = absurd (cc)
no_fore_said (whats.Marker (markers.Mosaic x)) acts = absurd (cc)
no_fore_said (whats.Marker m) acts = refl
no_fore_said w acts = refl

fore_at-suc : (row : ℕ → What) (pen screen : Pen) (c : ℕ)
    → fore_at row pen screen (suc c) ≡ (influence row pen screen c).full.fore
unfolding influence
fore_at-suc row pen screen c =
    ap (λ o. first_value o pen.fore screen.fore 7)
    (acting_said row (λ d w. (marker_pen 0 w).fore) c
    ∙ cond_both (acts_there (row (suc c))) (row (suc c)) whats.Blank
    (λ w. option_or (marker_pen 0 w).fore (nearest_said (λ d. (marker_pen 0 (row d)).fore) c)
    ≡ nearest_said (λ d. (marker_pen 0 (row d)).fore) c)
    (λ acts. rw (no_fore_said (row (suc c)) acts) refl)
    (λ acts. refl)
    ∙ nearest_said-alike (λ d. (marker_pen 0 (row d)).fore)
    (λ d. (marker_pen (fore_at row pen screen d) (row d)).fore) c (λ d h. fore_said (fore_at row pen screen d) (row d)))

full_by : (row : ℕ → What) (pen screen : Pen) (c : ℕ) (w : What) (fore : ℕ)
    → fore ≡ (influence row pen screen c).full.fore
    → cascade (pen_after (marker_pen fore w) (pen_of row (fore_at row pen screen) c)) pen screen
    ≡ (influence_after w (influence row pen screen c)).full
unfolding influence
full_by row pen screen c (whats.Marker (markers.Alpha x)) fore e = refl
full_by row pen screen c (whats.Marker (markers.Mosaic x)) fore e = refl
full_by row pen screen c (whats.Marker markers.BlackBack) fore e = refl
full_by row pen screen c (whats.Marker markers.NewBack) fore e = rw e refl
full_by row pen screen c (whats.Marker (markers.Flash x)) fore e = refl
full_by row pen screen c (whats.Marker (markers.Conceal x)) fore e = refl
full_by row pen screen c (whats.Marker (markers.Lined x)) fore e = refl
full_by row pen screen c (whats.Marker (markers.Boxed x)) fore e = refl
full_by row pen screen c (whats.Marker (markers.Size x)) fore e = refl
full_by row pen screen c (whats.Marker m) fore e = refl
full_by row pen screen c w fore e = refl

-- where the marker counts, what is said up to it, else what is said before it
serial_by : (row : ℕ → What) (pen screen : Pen) (c : ℕ) (w : What) (counts : Bool)
    → cascade (pen_after (marker_pen (fore_at row pen screen (suc c)) (cond counts w whats.Blank))
    (pen_of row (fore_at row pen screen) c)) pen screen
    ≡ (cond counts (influence_after w (influence row pen screen c)) (influence row pen screen c)).full
unfolding influence
serial_by row pen screen c w true =
    full_by row pen screen c w (fore_at row pen screen (suc c)) (fore_at-suc row pen screen c)
serial_by row pen screen c w false = refl

-- ---- hold

hold_by : (row : ℕ → What) (pen screen : Pen) (c : ℕ) (w : What)
    → unwrap_or (option_or (hold_said w) (nearest_said (λ d. hold_said (row d)) c)) false
    ≡ (influence_after w (influence row pen screen c)).hold
unfolding influence
hold_by row pen screen c (whats.Marker markers.Hold) = refl
hold_by row pen screen c (whats.Marker markers.Release) = refl
hold_by row pen screen c (whats.Marker m) = refl
hold_by row pen screen c w = refl

hold_in : (row : ℕ → What) (pen screen : Pen) (c : ℕ) (w : What) (counts : Bool)
    → unwrap_or (option_or (hold_said (cond counts w whats.Blank)) (nearest_said (λ d. hold_said (row d)) c)) false
    ≡ (cond counts (influence_after w (influence row pen screen c)) (influence row pen screen c)).hold
unfolding influence
hold_in row pen screen c w true = hold_by row pen screen c w
hold_in row pen screen c w false = refl

holding_by : (row : ℕ → What) (pen screen : Pen) (c : ℕ)
    → is_holding row (suc c) ≡ (influence_in (row (suc c)) (influence row pen screen c)).hold
unfolding is_holding
holding_by row pen screen c =
    ap (λ o. unwrap_or o false) (acting_said row (λ d. hold_said) c)
    ∙ hold_in row pen screen c (row (suc c)) (acts_there (row (suc c)))

-- ---- the kept sign

kept_by : (row : ℕ → What) (c : ℕ) (w : What) (s : Influence) → row (suc c) ≡ w → s.kept_sign ≡ kept_sign row c
    → kept_sign row (suc c) ≡ (influence_after w s).kept_sign
unfolding kept_sign
kept_by row c (whats.Marker (markers.Size x)) s e k = rw e refl
kept_by row c (whats.Marker m) s e k = rw (e, k) refl
kept_by row c w s e k = rw e refl

kept_sign-suc : (row : ℕ → What) (pen screen : Pen) (c : ℕ)
    → (influence row pen screen (suc c)).kept_sign ≡ (influence_after (row (suc c)) (influence row pen screen c)).kept_sign
unfolding influence
kept_sign-suc row pen screen c = kept_by row c (row (suc c)) (influence row pen screen c) refl refl

-- ---- one more cell

same_parts : (a b : Influence) → a.full ≡ b.full → a.hold ≡ b.hold → a.kept_sign ≡ b.kept_sign → a ≡ b
same_parts a b f h k = λ i. record { full = f i; hold = h i; kept_sign = k i }

full-suc : (row : ℕ → What) (pen screen : Pen) (c : ℕ)
    → (influence row pen screen (suc c)).full ≡ (influence_after (row (suc c)) (influence row pen screen c)).full
unfolding influence
full-suc row pen screen c = serial_by row pen screen c (row (suc c)) true

hold-suc : (row : ℕ → What) (pen screen : Pen) (c : ℕ)
    → (influence row pen screen (suc c)).hold ≡ (influence_after (row (suc c)) (influence row pen screen c)).hold
unfolding influence
hold-suc row pen screen c = hold_in row pen screen c (row (suc c)) true

pub influence-suc : (row : ℕ → What) (pen screen : Pen) (c : ℕ)
    → influence row pen screen (suc c) ≡ influence_after (row (suc c)) (influence row pen screen c)
influence-suc row pen screen c =
    same_parts _ _ (full-suc row pen screen c) (hold-suc row pen screen c) (kept_sign-suc row pen screen c)

pub serial_attributes-suc : (row : ℕ → What) (pen screen : Pen) (c : ℕ)
    → serial_attributes row pen screen (suc c) ≡ (influence_in (row (suc c)) (influence row pen screen c)).full
unfolding serial_attributes
serial_attributes-suc row pen screen c =
    ap (λ p. cascade p pen screen) (pen_of-suc row (fore_at row pen screen) c)
    ∙ serial_by row pen screen c (row (suc c)) (acts_there (row (suc c)))

kept_there : (row : ℕ → What) (pen screen : Pen) (c : ℕ) → kept_sign row c ≡ (influence row pen screen c).kept_sign
unfolding influence
kept_there row pen screen c = refl

pub held_sign-suc : (row : ℕ → What) (pen screen : Pen) (c : ℕ)
    → held_sign row (suc c) ≡ held_sign_in (row (suc c)) (influence row pen screen c)
held_sign-suc row pen screen c =
    rw (holding_by row pen screen c, ← influence-suc row pen screen c)
    (rw (← kept_there row pen screen (suc c)) refl)

-- ---- rows without markers

pub influence-start : (row : ℕ → What) (pen screen : Pen)
    → record { full = cascade unset_pen pen screen; hold = false; kept_sign = None } ≡ influence row pen screen 0
unfolding influence kept_sign
influence-start row pen screen = refl

plain_after : (w : What) (s : Influence) → is_marker w ≡ false → (influence_after w s).full ≡ s.full
plain_after (whats.Marker m) s plain = cc
plain_after w s plain = refl

pub in_plain : (w : What) (s : Influence) → is_marker w ≡ false → (influence_in w s).full ≡ s.full
in_plain (whats.Marker m) s plain = cc
in_plain w s plain = refl

pub unmarked : (row : ℕ → What) (pen screen : Pen) (c : ℕ) → ((d : ℕ) → 1 ≤ d → d ≤ c → is_marker (row d) ≡ false)
    → (influence row pen screen c).full ≡ cascade unset_pen pen screen
unmarked row pen screen zero plain = ap (λ (s : Influence). s.full) (sym (influence-start row pen screen))
unmarked row pen screen (suc c) plain =
    rw (influence-suc row pen screen c)
    (plain_after (row (suc c)) (influence row pen screen c) (plain (suc c) (omega arith) (omega arith))
    ∙ unmarked row pen screen c (λ d low high. plain d low (omega arith)))
