-- Worked cases: what is shown, by computing.
use Rattle.std.proofs.Common.{◌≡◌, true, false, Some, None, [], ◌∷◌, refl}
use Rattle.cept_codes.specs.declared.attribute.Flash.TheVariants as flashes
use Rattle.cept_codes.specs.declared.glyph.SetId.TheVariants as sets
use Rattle.cept_codes.specs.declared.item.Reason.TheVariants as reasons
use Rattle.cept_codes.specs.declared.look.Look.{Look}
use Rattle.cept_codes.specs.declared.look.Shape.TheVariants as shapes
use Rattle.cept_codes.specs.Look.{blank_look}
use Rattle.cept_live.specs.Notices.{Change, Refusal}
use Rattle.cept_live.specs.Shown.{look_shown, looks_said, phase_after}

first_phase_is_0 : phase_after None ≡ 0
first_phase_is_0 = refl

next_phase_is_3 : phase_after (Some 2) ≡ 3
next_phase_is_3 = refl

first_comes_after_the_last : phase_after (Some 5) ≡ 0
first_comes_after_the_last = refl

-- a P that flashes inverted: it isn't seen at phase 0, and is at phase 3
abbrev flashing : Look
flashing = record blank_look {
  shape = shapes.Char (record { set = sets.P; code = 0x50; accent = 0 });
  flash = flashes.Inverted;
}

unseen_at_0 : look_shown (Some 0) false flashing ≡ blank_look
unseen_at_0 = refl

seen_at_3 : look_shown (Some 3) false flashing ≡ record flashing { flash = flashes.Steady }
seen_at_3 = refl

renewed_is_as_fed : look_shown (Some 0) true flashing ≡ flashing
renewed_is_as_fed = refl

unflashed_is_as_fed : look_shown None false flashing ≡ flashing
unflashed_is_as_fed = refl

refusals_show_nothing : looks_said (Refusal 7 2 reasons.UnknownEscape ∷ Change 9 (record { row = 1; column = 2 }) flashing ∷ [])
    ≡ (record { row = 1; column = 2 }, flashing) ∷ []
refusals_show_nothing = refl
