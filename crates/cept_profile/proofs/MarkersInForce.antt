-- Laws of serial attributes.
use Rattle.std.proofs.Common.{◌≡◌, ℕ, ◌≤◌, ◌<◌, zero, suc, false, ◌&&◌, Option, Some, None, MatchOption}
use Rattle.std.proofs.Common.{IfSome, refl, sym, ◌∙◌, ap, subst, inl, inr, arith, rules}
use Rattle.std.specs.Option.{option_or}
use Rattle.std.proofs.lemmas.Bool.{cases_eq, cond_both}
use Rattle.cept_codes.specs.declared.attribute.Full.{Full}
use Rattle.cept_codes.specs.declared.attribute.Pen.{Pen}
use Rattle.cept_codes.specs.declared.cell.Marker.{Marker}
use Rattle.cept_codes.specs.declared.cell.Marker.TheVariants as markers
use Rattle.cept_codes.specs.declared.cell.What.{What}
use Rattle.cept_codes.specs.declared.cell.What.TheVariants as whats
use Rattle.cept_codes.specs.declared.glyph.Glyph.{Glyph}
use Rattle.cept_codes.specs.Attribute.{IsValidFull, IsValidPen, IsEntry, unset_pen}
use Rattle.cept_codes.specs.Cell.{IsValidMarker, IsValidWhat}
use Rattle.cept_codes.specs.Glyph.{IsValidGlyph}
use Rattle.cept_profile.specs.Attributes.{cascade, first_value}
use Rattle.cept_profile.specs.Serial.{acts_there, held_sign, is_marker, is_mosaic, mosaic_of, nearest_said, serial_attributes}
use Rattle.cept_profile.specs.Influence.{Influence, influence_after, influence, held_sign_in, influence_in, kept_sign_after, full_after}
use Rattle.cept_profile.proofs.OneMoreCell.{influence-start, influence-suc, serial_attributes-suc, held_sign-suc, unmarked}
use Rattle.cept_profile.proofs.OneMoreCell.{in_plain}

-- ---- what is said nearest

-- what is said in the greatest column up to c in which anything is said, if there is one
abbrev IsNearest : {X : Type 0} → (ℕ → Option X) → ℕ → Option X → Type 0
IsNearest says c found =
    MatchOption found ((d : ℕ) → 1 ≤ d → d ≤ c → says d ≡ None)
    (λ x. (d : ℕ) × (1 ≤ d) × (d ≤ c) × (says d ≡ Some x) × ((e : ℕ) → d < e → e ≤ c → says e ≡ None))

further : {X : Type 0} (says : ℕ → Option X) (c d : ℕ) → says (suc c) ≡ None → (d ≤ c → says d ≡ None) → d ≤ suc c
    → says d ≡ None
further says c d miss before h =
    elim (cases_eq d (suc c)) [ inl e ↦ rw e miss | inr other ↦ before (omega arith) ]

one_less : {X : Type 0} (says : ℕ → Option X) (c : ℕ) (found : Option X) → says (suc c) ≡ None → IsNearest says c found
    → IsNearest says (suc c) found
one_less says c None miss h = λ d low high. further says c d miss (h d low) high
one_less says c (Some x) miss h =
    (h.0, h.1, omega (arith, h.2), h.3, λ e low high. further says c e miss (h.4 e low) high)

one_more : {X : Type 0} (says : ℕ → Option X) (c : ℕ) (here : Option X) → says (suc c) ≡ here
    → IsNearest says c (nearest_said says c) → IsNearest says (suc c) (option_or here (nearest_said says c))
one_more says c None miss h = one_less says c (nearest_said says c) miss h
one_more says c (Some x) hit h = (suc c, omega arith, omega arith, hit, λ e low high. absurd (omega arith))

pub nearest : {X : Type 0} (says : ℕ → Option X) (c : ℕ) → IsNearest says c (nearest_said says c)
nearest says zero = λ d low high. absurd (omega arith)
nearest says (suc c) = one_more says c (says (suc c)) refl (nearest says c)

-- ---- cells to the right

influence-alike : (f g : ℕ → What) (pen screen : Pen) (c : ℕ) → ((d : ℕ) → 1 ≤ d → d ≤ c → f d ≡ g d)
    → influence f pen screen c ≡ influence g pen screen c
influence-alike f g pen screen zero same = sym (influence-start f pen screen) ∙ influence-start g pen screen
influence-alike f g pen screen (suc c) same =
    influence-suc f pen screen c
    ∙ ap (λ w. influence_after w (influence f pen screen c)) (same (suc c) (omega arith) (omega arith))
    ∙ ap (λ s. influence_after (g (suc c)) s) (influence-alike f g pen screen c (λ d low high. same d low (omega arith)))
    ∙ sym (influence-suc g pen screen c)

pub serial_attributes-alike : (f g : ℕ → What) (pen screen : Pen) (c : ℕ) → 1 ≤ c
    → ((d : ℕ) → 1 ≤ d → d ≤ c → f d ≡ g d)
    → serial_attributes f pen screen c ≡ serial_attributes g pen screen c
serial_attributes-alike f g pen screen zero low same = absurd (omega arith)
serial_attributes-alike f g pen screen (suc c) low same =
    serial_attributes-suc f pen screen c
    ∙ ap (λ w. (influence_in w (influence f pen screen c)).full) (same (suc c) (omega arith) (omega arith))
    ∙ ap (λ s. (influence_in (g (suc c)) s).full) (influence-alike f g pen screen c (λ d low high. same d low (omega arith)))
    ∙ sym (serial_attributes-suc g pen screen c)

pub held_sign-alike : (f g : ℕ → What) (c : ℕ) → 1 ≤ c → ((d : ℕ) → 1 ≤ d → d ≤ c → f d ≡ g d)
    → held_sign f c ≡ held_sign g c
held_sign-alike f g zero low same = absurd (omega arith)
held_sign-alike f g (suc c) low same =
    held_sign-suc f unset_pen unset_pen c
    ∙ ap (λ w. held_sign_in w (influence f unset_pen unset_pen c)) (same (suc c) (omega arith) (omega arith))
    ∙ ap (λ s. held_sign_in (g (suc c)) s)
    (influence-alike f g unset_pen unset_pen c (λ d low high. same d low (omega arith)))
    ∙ sym (held_sign-suc g unset_pen unset_pen c)

-- ---- rows without markers

pub serial_attributes-unmarked : (row : ℕ → What) (pen screen : Pen) (c : ℕ) → 1 ≤ c
    → ((d : ℕ) → 1 ≤ d → d ≤ c → is_marker (row d) ≡ false)
    → serial_attributes row pen screen c ≡ cascade unset_pen pen screen
serial_attributes-unmarked row pen screen zero low plain = absurd (omega arith)
serial_attributes-unmarked row pen screen (suc c) low plain =
    serial_attributes-suc row pen screen c
    ∙ in_plain (row (suc c)) (influence row pen screen c) (plain (suc c) low (omega arith))
    ∙ unmarked row pen screen c (λ d from to. plain d from (omega arith))

-- ---- validity

record IsValidCarried (s : Influence) : Type 0 where
  pub full : IsValidFull s.full
  pub kept_sign : IfSome s.kept_sign IsValidGlyph

first_value-entry : (a b : Option ℕ) (e : ℕ) → IfSome a IsEntry → IfSome b IsEntry → IsEntry e
    → IsEntry (first_value None a b e)
first_value-entry (Some x) b e p q r = p
first_value-entry None (Some y) e p q r = q
first_value-entry None None e p q r = r

mosaic_of-valid : (w : What) → IsValidWhat w → IfSome (mosaic_of w) IsValidGlyph
mosaic_of-valid (whats.Serial g) v =
    cond_both (is_mosaic g.set) (Some g) None (λ o. IfSome o IsValidGlyph) (λ e. v) (λ e. tt)
mosaic_of-valid w v = tt

full_after-valid : (m : Marker) (f : Full) → IsValidMarker m → IsValidFull f → IsValidFull (full_after m f)
full_after-valid (markers.Alpha e) f v h = record { fore = v; back = h.back }
full_after-valid (markers.Mosaic e) f v h = record { fore = v; back = h.back }
full_after-valid markers.BlackBack f v h = record { fore = h.fore; back = omega arith }
full_after-valid markers.NewBack f v h = record { fore = h.fore; back = h.fore }
full_after-valid m f v h = record { fore = h.fore; back = h.back }

kept_sign_after-valid : (m : Marker) (g : Option Glyph) → IfSome g IsValidGlyph
    → IfSome (kept_sign_after m g) IsValidGlyph
kept_sign_after-valid (markers.Size s) g v = tt
kept_sign_after-valid m g v = v

influence_after-valid : (w : What) (s : Influence) → IsValidWhat w → IsValidCarried s → IsValidCarried (influence_after w s)
influence_after-valid (whats.Marker m) s v h =
    record { full = full_after-valid m s.full v h.full; kept_sign = kept_sign_after-valid m s.kept_sign h.kept_sign }
influence_after-valid w s v h = assumption (mosaic_of-valid w v)

influence-valid : (row : ℕ → What) (pen screen : Pen) (c : ℕ) → IsValidPen pen → IsValidPen screen
    → ((d : ℕ) → 1 ≤ d → d ≤ c → IsValidWhat (row d)) → IsValidCarried (influence row pen screen c)
influence-valid row pen screen zero p s v =
    subst IsValidCarried (influence-start row pen screen)
    (search rules)
influence-valid row pen screen (suc c) p s v =
    subst IsValidCarried (sym (influence-suc row pen screen c))
    (influence_after-valid (row (suc c)) (influence row pen screen c) (v (suc c) (omega arith) (omega arith))
    (influence-valid row pen screen c p s (λ d low high. v d low (omega arith))))

influence_in-valid : (w : What) (s : Influence) → IsValidWhat w → IsValidCarried s → IsValidCarried (influence_in w s)
influence_in-valid w s v h =
    cond_both (acts_there w) (influence_after w s) s IsValidCarried (λ e. influence_after-valid w s v h) (λ e. h)

pub serial_attributes-valid : (row : ℕ → What) (pen screen : Pen) (c : ℕ) → 1 ≤ c → IsValidPen pen → IsValidPen screen
    → ((d : ℕ) → 1 ≤ d → d ≤ c → IsValidWhat (row d)) → IsValidFull (serial_attributes row pen screen c)
serial_attributes-valid row pen screen zero low p s v = absurd (omega arith)
serial_attributes-valid row pen screen (suc c) low p s v =
    subst IsValidFull (sym (serial_attributes-suc row pen screen c))
    (influence_in-valid (row (suc c)) (influence row pen screen c) (v (suc c) low (omega arith))
    (influence-valid row pen screen c p s (λ d from to. v d from (omega arith)))).full

unset_pen-valid : IsValidPen unset_pen
unset_pen-valid = record { fore = tt; back = tt }

pub held_sign-valid : (row : ℕ → What) (c : ℕ) → 1 ≤ c → ((d : ℕ) → 1 ≤ d → d ≤ c → IsValidWhat (row d))
    → IfSome (held_sign row c) IsValidGlyph
held_sign-valid row zero low v = absurd (omega arith)
held_sign-valid row (suc c) low v =
    subst (λ g. IfSome g IsValidGlyph) (sym (held_sign-suc row unset_pen unset_pen c))
    (cond_both (is_marker (row (suc c)) && (influence_in (row (suc c)) (influence row unset_pen unset_pen c)).hold)
    (influence_after (row (suc c)) (influence row unset_pen unset_pen c)).kept_sign None (λ g. IfSome g IsValidGlyph)
    (λ e. (influence_after-valid (row (suc c)) (influence row unset_pen unset_pen c) (v (suc c) low (omega arith))
    (influence-valid row unset_pen unset_pen c unset_pen-valid unset_pen-valid
    (λ d from to. v d from (omega arith)))).kept_sign)
    (λ e. tt))
