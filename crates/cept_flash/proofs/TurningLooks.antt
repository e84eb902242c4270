-- A look at two phases: the same, but where what is seen flashing turns.
use Rattle.std.proofs.Common.{◌≡◌, ◌≢◌, ℕ, ◌/◌, ◌==◌, ◌&&◌, ◌||◌, Bool, true, false, not, if◌then◌else◌, refl, sym, ap, ◌∙◌, arith}
use Rattle.std.proofs.lemmas.Bool.{and_parts, eqb-true, false_from_ne_true, true≢false, false≢true}
use Rattle.cept_codes.specs.declared.attribute.Flash.{Flash}
use Rattle.cept_codes.specs.declared.attribute.Flash.TheVariants as flashes
use Rattle.cept_codes.specs.declared.look.Look.{Look}
use Rattle.cept_codes.specs.declared.look.Paint.{Paint}
use Rattle.cept_codes.specs.declared.look.Paint.TheVariants as paints
use Rattle.cept_codes.specs.declared.look.Shape.{Shape}
use Rattle.cept_codes.specs.declared.look.Shape.TheVariants as shapes
use Rattle.cept_codes.specs.Same.{same_look}
use Rattle.cept_codes.proofs.Laws.{look_decides}
use Rattle.cept_flash.specs.Phases.{halved, is_dimmed, is_on, look_at_phase}
use Rattle.cept_flash.specs.SeenFlashing.{flashes_seen, has_light, is_seen_flashing, is_space}
use Rattle.cept_flash.specs.inside.SeenFlashing.{differ, turns}

same : (a b : Look) → a ≡ b → same_look a b ≡ true
same a b e = (look_decides a b).1 e

other : (a b : Look) → a ≢ b → same_look a b ≡ false
other a b apart = false_from_ne_true (same_look a b) (λ e. apart ((look_decides a b).0 e))

pub symmetric : (a b : Look) → same_look a b ≡ same_look b a
symmetric a b = by_test (same_look a b) refl
  where
    by_test : (x : Bool) → same_look a b ≡ x → same_look a b ≡ same_look b a
    by_test true e = e ∙ sym (same b a (sym ((look_decides a b).0 e)))
    by_test false e = e ∙ sym (other b a (λ q. true≢false (sym (same a b (sym q)) ∙ e)))

-- a look with its sign seen or not, and dimmed or not
abbrev seen_as : Look → Bool → Bool → Look
seen_as l on dim = record l {
  shape = if on then l.shape else shapes.Space;
  fore = if dim then halved l.fore else l.fore;
  flash = flashes.Steady;
  lined = on && l.lined;
}

-- ---- seen and not

seen_or_not : (l : Look) (dim : Bool) (s : Shape) (b : Bool) → l.shape ≡ s → l.lined ≡ b
    → same_look (seen_as l true dim) (seen_as l false dim) ≡ not (not (is_space s) || b)
seen_or_not l dim shapes.Space false es eb =
    same (seen_as l true dim) (seen_as l false dim) (λ i. record (seen_as l false dim) { shape = es i; lined = eb i })
seen_or_not l dim shapes.Space true es eb =
    other (seen_as l true dim) (seen_as l false dim) (λ q. true≢false (sym eb ∙ ap (λ (x : Look). x.lined) q))
seen_or_not l dim (shapes.Char g) b es eb =
    other (seen_as l true dim) (seen_as l false dim)
    (λ q. false≢true (sym (ap is_space es) ∙ ap (λ (x : Look). is_space x.shape) q))
seen_or_not l dim (shapes.Drcs p inks) b es eb =
    other (seen_as l true dim) (seen_as l false dim)
    (λ q. false≢true (sym (ap is_space es) ∙ ap (λ (x : Look). is_space x.shape) q))

and_false : (x : Bool) → (x && false) ≡ false
and_false true = refl
and_false false = refl

and_true : (x : Bool) → (x && true) ≡ x
and_true true = refl
and_true false = refl

by_sight : (l : Look) (a b : Bool) → same_look (seen_as l a false) (seen_as l b false)
    ≡ not ((not (is_space l.shape) || l.lined) && (differ a b || differ false false))
by_sight l true true =
    same (seen_as l true false) (seen_as l true false) refl ∙ ap not (sym (and_false (not (is_space l.shape) || l.lined)))
by_sight l false false =
    same (seen_as l false false) (seen_as l false false) refl
    ∙ ap not (sym (and_false (not (is_space l.shape) || l.lined)))
by_sight l true false =
    seen_or_not l false l.shape l.lined refl refl ∙ ap not (sym (and_true (not (is_space l.shape) || l.lined)))
by_sight l false true =
    symmetric (seen_as l false false) (seen_as l true false) ∙ seen_or_not l false l.shape l.lined refl refl
    ∙ ap not (sym (and_true (not (is_space l.shape) || l.lined)))

-- ---- dimmed and not

-- the parts of a paint
abbrev red : Paint → ℕ
red (paints.Ink c) = c.r
red paints.Video = 0

abbrev green : Paint → ℕ
green (paints.Ink c) = c.g
green paints.Video = 0

abbrev blue : Paint → ℕ
blue (paints.Ink c) = c.b
blue paints.Video = 0

half_of_nothing : (n : ℕ) → n / 2 ≡ n → n ≡ 0
half_of_nothing n e = omega (arith, e)

dimmed_or_not : (l : Look) (p : Paint) → l.fore ≡ p
    → same_look (seen_as l true true) (seen_as l true false) ≡ not (has_light p)
dimmed_or_not l paints.Video e =
    let stays : halved l.fore ≡ l.fore = ap halved e ∙ sym e in
    same (seen_as l true true) (seen_as l true false) (λ i. record (seen_as l true false) { fore = stays i })
dimmed_or_not l (paints.Ink c) e = by_light ((c.r == 0) && (c.g == 0) && (c.b == 0)) refl
  where
    by_light : (x : Bool) → ((c.r == 0) && (c.g == 0) && (c.b == 0)) ≡ x
        → same_look (seen_as l true true) (seen_as l true false) ≡ not (not ((c.r == 0) && (c.g == 0) && (c.b == 0)))
    by_light true t =
        let parts = and_parts ((c.r == 0) && (c.g == 0)) (c.b == 0) t in
        let front = and_parts (c.r == 0) (c.g == 0) parts.0 in
        let no_red : c.r ≡ 0 = eqb-true c.r 0 front.0 in
        let no_green : c.g ≡ 0 = eqb-true c.g 0 front.1 in
        let no_blue : c.b ≡ 0 = eqb-true c.b 0 parts.1 in
        let black : paints.Ink c ≡ paints.Ink (record { r = 0; g = 0; b = 0 }) =
        (λ i. paints.Ink (record { r = no_red i; g = no_green i; b = no_blue i })) in
        let stays : halved l.fore ≡ l.fore = ap halved (e ∙ black) ∙ sym (e ∙ black) in
        same (seen_as l true true) (seen_as l true false) (λ i. record (seen_as l true false) { fore = stays i })
        ∙ ap (λ b. not (not b)) (sym t)
    by_light false t =
        other (seen_as l true true) (seen_as l true false) (λ q.
        let stays : halved (paints.Ink c) ≡ paints.Ink c =
        ap halved (sym e) ∙ ap (λ (x : Look). x.fore) q ∙ e in
        let no_red : c.r ≡ 0 = half_of_nothing c.r (ap red stays) in
        let no_green : c.g ≡ 0 = half_of_nothing c.g (ap green stays) in
        let no_blue : c.b ≡ 0 = half_of_nothing c.b (ap blue stays) in
        true≢false ((λ i. (sym no_red i == 0) && (sym no_green i == 0) && (sym no_blue i == 0)) ∙ t))
        ∙ ap (λ b. not (not b)) (sym t)

by_dimming : (l : Look) (a b : Bool) → same_look (seen_as l true a) (seen_as l true b)
    ≡ not (has_light l.fore && (differ true true || differ a b))
by_dimming l true true = same (seen_as l true true) (seen_as l true true) refl ∙ ap not (sym (and_false (has_light l.fore)))
by_dimming l false false =
    same (seen_as l true false) (seen_as l true false) refl ∙ ap not (sym (and_false (has_light l.fore)))
by_dimming l true false = dimmed_or_not l l.fore refl ∙ ap not (sym (and_true (has_light l.fore)))
by_dimming l false true =
    symmetric (seen_as l true false) (seen_as l true true) ∙ dimmed_or_not l l.fore refl
    ∙ ap not (sym (and_true (has_light l.fore)))

-- ---- by the flash

by_flash : (l : Look) (f : Flash) (k m : ℕ)
    → same_look (seen_as l (is_on f k) (is_dimmed f k)) (seen_as l (is_on f m) (is_dimmed f m))
    ≡ not (is_seen_flashing l f && turns f k m)
by_flash l flashes.Steady k m = same (seen_as l true false) (seen_as l true false) refl
by_flash l flashes.Reduced k m = by_dimming l (is_dimmed flashes.Reduced k) (is_dimmed flashes.Reduced m)
by_flash l flashes.Plain k m = by_sight l (is_on flashes.Plain k) (is_on flashes.Plain m)
by_flash l flashes.Inverted k m = by_sight l (is_on flashes.Inverted k) (is_on flashes.Inverted m)
by_flash l flashes.Fast1 k m = by_sight l (is_on flashes.Fast1 k) (is_on flashes.Fast1 m)
by_flash l flashes.Fast2 k m = by_sight l (is_on flashes.Fast2 k) (is_on flashes.Fast2 m)
by_flash l flashes.Fast3 k m = by_sight l (is_on flashes.Fast3 k) (is_on flashes.Fast3 m)

pub same_at_phases : (l : Look) (k m : ℕ)
    → same_look (look_at_phase l k) (look_at_phase l m) ≡ not (flashes_seen l && turns l.flash k m)
same_at_phases l k m = by_flash l l.flash k m
