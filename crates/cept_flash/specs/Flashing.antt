-- What a flashing screen keeps (own): looks, a phase, and the places whose look isn't the same at all phases.
use Rattle.std.specs.Prelude.{ℕ, ◌≡◌, ◌<◌, ◌≤◌, true, List, length, slice_index_or}
use Rattle.cept_codes.specs.declared.look.Look.{Look}
use Rattle.cept_codes.specs.Place.{Place, OnScreen, place_of}
use Rattle.cept_flash.specs.declared.blink.Flashing.{Flashing}
use Rattle.cept_flash.specs.SeenFlashing.{flashes_seen}
use Rattle.cept_profile.specs.Changes.{look_at}

-- the looks of all places, and the phase
pub record FlashingGrid : Type 0 where
  pub looks : List (List Look)
  pub phase : ℕ

-- a place, with the flash of its look
abbrev pub flashing_at : List (List Look) → Place → Flashing
flashing_at looks p = record { at = p; flash = (look_at looks p).flash }

-- this place has such a look, with this flash
pub record IsFlashing (looks : List (List Look)) (f : Flashing) : Type 0 where
  pub on_screen : OnScreen f.at.row f.at.column
  pub flash : f.flash ≡ (look_at looks f.at).flash
  pub seen : flashes_seen (look_at looks f.at) ≡ true

-- each has such a look, and each place with a number below n that has one is among them; there are at most n
pub record AreFlashing (looks : List (List Look)) (list : List Flashing) (n : ℕ) : Type 0 where
  pub few : length list ≤ n
  pub only : (i : ℕ) (d : Flashing) → i < length list → IsFlashing looks (slice_index_or list i d)
  pub each : (m : ℕ) → m < n → flashes_seen (look_at looks (place_of m)) ≡ true → (i : ℕ) × (i < length list)
      × ((d : Flashing) → slice_index_or list i d ≡ flashing_at looks (place_of m))

-- a phase, and all places with such a look
pub record IsKept (looks : List (List Look)) (phase : ℕ) (list : List Flashing) : Type 0 where
  pub valid : phase < 6
  pub all : AreFlashing looks list 960
