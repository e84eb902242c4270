-- Worked tables: what of each flash is seen at each of the six phases, and which turns change it, by computing.
use Rattle.std.proofs.Common.{◌≡◌, ℕ, List, [], ◌∷◌, map, Bool, true, false, refl}
use Rattle.std.specs.List.{range_with_len}
use Rattle.cept_codes.specs.declared.attribute.Flash.{Flash}
use Rattle.cept_codes.specs.declared.attribute.Flash.TheVariants.{Fast1, Fast2, Fast3, Inverted, Plain, Reduced, Steady}
use Rattle.cept_codes.specs.declared.glyph.SetId.TheVariants.{P}
use Rattle.cept_codes.specs.declared.look.Look.{Look}
use Rattle.cept_codes.specs.declared.look.Paint.{Paint}
use Rattle.cept_codes.specs.declared.look.Paint.TheVariants.{Ink, Video}
use Rattle.cept_codes.specs.declared.look.Shape.TheVariants.{Char, Space}
use Rattle.cept_flash.specs.Phases.{halved, is_dimmed, is_on, look_at_phase, next_phase}
use Rattle.cept_flash.specs.inside.SeenFlashing.{turns}

-- ---- what is seen

-- what holds of each flash at the phases 0 to 5
abbrev of_flashes : {X : Type 0} → (Flash → ℕ → X) → List (Flash × List X) → Type 0
of_flashes {X} f rows =
    map (λ (row : Flash × List X). map (f row.0) (range_with_len 0 6)) rows ≡ map (λ (row : Flash × List X). row.1) rows

-- it is so, and it isn't
abbrev yes : Bool
yes = true

abbrev no : Bool
no = false

-- steady and reduced always, plain in the first three phases, inverted in the last three, the fast ones in two each
seen : of_flashes is_on (
    (Steady, yes ∷ yes ∷ yes ∷ yes ∷ yes ∷ yes ∷ [])
    ∷ (Plain, yes ∷ yes ∷ yes ∷ no ∷ no ∷ no ∷ [])
    ∷ (Inverted, no ∷ no ∷ no ∷ yes ∷ yes ∷ yes ∷ [])
    ∷ (Reduced, yes ∷ yes ∷ yes ∷ yes ∷ yes ∷ yes ∷ [])
    ∷ (Fast1, yes ∷ yes ∷ no ∷ no ∷ no ∷ no ∷ [])
    ∷ (Fast2, no ∷ no ∷ yes ∷ yes ∷ no ∷ no ∷ [])
    ∷ (Fast3, no ∷ no ∷ no ∷ no ∷ yes ∷ yes ∷ []) ∷ [])
seen = refl

-- reduced alone, in the last three
dimmed : of_flashes is_dimmed (
    (Steady, no ∷ no ∷ no ∷ no ∷ no ∷ no ∷ [])
    ∷ (Plain, no ∷ no ∷ no ∷ no ∷ no ∷ no ∷ [])
    ∷ (Inverted, no ∷ no ∷ no ∷ no ∷ no ∷ no ∷ [])
    ∷ (Reduced, no ∷ no ∷ no ∷ yes ∷ yes ∷ yes ∷ [])
    ∷ (Fast1, no ∷ no ∷ no ∷ no ∷ no ∷ no ∷ [])
    ∷ (Fast2, no ∷ no ∷ no ∷ no ∷ no ∷ no ∷ [])
    ∷ (Fast3, no ∷ no ∷ no ∷ no ∷ no ∷ no ∷ []) ∷ [])
dimmed = refl

-- ---- which turns change something

-- the phase after each
phases_in_turn : map next_phase (0 ∷ 1 ∷ 2 ∷ 3 ∷ 4 ∷ 5 ∷ []) ≡ 1 ∷ 2 ∷ 3 ∷ 4 ∷ 5 ∷ 0 ∷ []
phases_in_turn = refl

-- from each phase to the next, the last time from 5 to 0
changed_by_turns : of_flashes (λ flash k. turns flash k (next_phase k)) (
    (Steady, no ∷ no ∷ no ∷ no ∷ no ∷ no ∷ [])
    ∷ (Plain, no ∷ no ∷ yes ∷ no ∷ no ∷ yes ∷ [])
    ∷ (Inverted, no ∷ no ∷ yes ∷ no ∷ no ∷ yes ∷ [])
    ∷ (Reduced, no ∷ no ∷ yes ∷ no ∷ no ∷ yes ∷ [])
    ∷ (Fast1, no ∷ yes ∷ no ∷ no ∷ no ∷ yes ∷ [])
    ∷ (Fast2, no ∷ yes ∷ no ∷ yes ∷ no ∷ no ∷ [])
    ∷ (Fast3, no ∷ no ∷ no ∷ yes ∷ no ∷ yes ∷ []) ∷ [])
changed_by_turns = refl

-- ---- half the intensity

-- red, green and blue
abbrev rgb : ℕ → ℕ → ℕ → Paint
rgb red green blue = Ink (record { r = red; g = green; b = blue })

-- the halves of 0 to 15, rounded down
abbrev halves : List ℕ
halves = 0 ∷ 0 ∷ 1 ∷ 1 ∷ 2 ∷ 2 ∷ 3 ∷ 3 ∷ 4 ∷ 4 ∷ 5 ∷ 5 ∷ 6 ∷ 6 ∷ 7 ∷ 7 ∷ []

halves_of_red : map (λ n. halved (rgb n 15 5)) (range_with_len 0 16) ≡ map (λ h. rgb h 7 2) halves
halves_of_red = refl

halves_of_green : map (λ n. halved (rgb 15 n 5)) (range_with_len 0 16) ≡ map (λ h. rgb 7 h 2) halves
halves_of_green = refl

halves_of_blue : map (λ n. halved (rgb 15 5 n)) (range_with_len 0 16) ≡ map (λ h. rgb 7 2 h) halves
halves_of_blue = refl

-- the picture behind the screen stays
picture_stays : halved Video ≡ Video
picture_stays = refl

-- ---- looks

-- a lined A with an accent, the lower right of four, orange on blue, concealed and boxed
abbrev sign : Flash → Look
sign way = record {
  shape = Char (record { set = P; code = 0x41; accent = 0x48 });
  dy = 1;
  dx = 1;
  w = 2;
  h = 2;
  fore = rgb 15 8 1;
  back = rgb 3 5 15;
  flash = way;
  conceal = true;
  lined = true;
  boxed = true;
}

-- the same at a phase: it is steady, and as it is; or of half the intensity; or without sign and line
abbrev whole : Look
whole = sign Steady

abbrev dim : Look
dim = record (sign Steady) { fore = rgb 7 4 0 }

abbrev gone : Look
gone = record (sign Steady) { shape = Space; lined = false }

looks_of_a_sign : of_flashes (λ flash k. look_at_phase (sign flash) k) (
    (Steady, whole ∷ whole ∷ whole ∷ whole ∷ whole ∷ whole ∷ [])
    ∷ (Plain, whole ∷ whole ∷ whole ∷ gone ∷ gone ∷ gone ∷ [])
    ∷ (Inverted, gone ∷ gone ∷ gone ∷ whole ∷ whole ∷ whole ∷ [])
    ∷ (Reduced, whole ∷ whole ∷ whole ∷ dim ∷ dim ∷ dim ∷ [])
    ∷ (Fast1, whole ∷ whole ∷ gone ∷ gone ∷ gone ∷ gone ∷ [])
    ∷ (Fast2, gone ∷ gone ∷ whole ∷ whole ∷ gone ∷ gone ∷ [])
    ∷ (Fast3, gone ∷ gone ∷ gone ∷ gone ∷ whole ∷ whole ∷ []) ∷ [])
looks_of_a_sign = refl
