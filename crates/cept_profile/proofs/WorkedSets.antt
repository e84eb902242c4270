-- Worked tables: which set a byte is of, what its code gives, and what each shift and designation changes, by
-- computing.
use Rattle.cept_profile.proofs.WhatComputes.{computing}
use Rattle.std.proofs.Common.{◌≡◌, ℕ, List, [], ◌∷◌, ◌++◌, map, Option, Some, None, true, false, refl}
use Rattle.std.specs.List.{range_with_len}
use Rattle.cept_codes.specs.declared.command.Command.{Command}
use Rattle.cept_codes.specs.declared.command.Command.TheVariants.{Graphic, LockLeft, LockRight, Single, Designate}
use Rattle.cept_codes.specs.declared.glyph.Read.{Read}
use Rattle.cept_codes.specs.declared.glyph.Read.TheVariants as reads
use Rattle.cept_codes.specs.declared.glyph.SetId.{SetId}
use Rattle.cept_codes.specs.declared.glyph.SetId.TheVariants.{P, S, M, N, D}
use Rattle.cept_profile.specs.Control.{control}
use Rattle.cept_profile.specs.Sets.{Sets, code_of, set_of, read_as}

-- the sets with these designations, locks and single shift
abbrev pub sets : SetId → SetId → SetId → SetId → ℕ → ℕ → Option ℕ → Sets
sets first second third fourth left right shift = record
    { g0 = first; g1 = second; g2 = third; g3 = fourth; left = left; right = right; single = shift }

-- the sets after these commands
abbrev pub sets_after : List Command → Sets
sets_after commands = (control commands).working.sets

pub at_the_start : sets_after [] ≡ sets P M S N 0 2 None
at_the_start = refl

-- ---- what each command changes

-- a single shift waits, and other sets than at the start are locked
abbrev pub shifted_before : List Command
shifted_before = LockLeft 1 ∷ LockRight 3 ∷ Single 3 ∷ []

pub before : sets_after shifted_before ≡ sets P M S N 1 3 (Some 3)
before = refl

-- locks to the left bytes, to the right ones, single shifts, designations
pub one_change_each : map (λ (command : Command). sets_after (shifted_before ++ command ∷ []))
    (LockLeft 0 ∷ LockLeft 1 ∷ LockLeft 2 ∷ LockLeft 3 ∷ LockRight 1 ∷ LockRight 2 ∷ LockRight 3 ∷ Single 2 ∷ Single 3
    ∷ Designate 0 D ∷ Designate 1 D ∷ Designate 2 D ∷ Designate 3 D ∷ []) ≡
    sets P M S N 0 3 (Some 3) ∷ sets P M S N 1 3 (Some 3) ∷ sets P M S N 2 3 (Some 3) ∷ sets P M S N 3 3 (Some 3)
    ∷ sets P M S N 1 1 (Some 3) ∷ sets P M S N 1 2 (Some 3) ∷ sets P M S N 1 3 (Some 3) ∷ sets P M S N 1 3 (Some 2)
    ∷ sets P M S N 1 3 (Some 3)
    ∷ sets D M S N 1 3 (Some 3) ∷ sets P D S N 1 3 (Some 3) ∷ sets P M D N 1 3 (Some 3) ∷ sets P M S D 1 3 (Some 3) ∷ []
one_change_each = refl

-- a graphic byte spends the shift, whatever it gives, and changes nothing else
pub byte_spends_the_shift : map (λ byte. sets_after (shifted_before ++ Graphic byte ∷ []))
    (0x20 ∷ 0x41 ∷ 0xA0 ∷ 0xC8 ∷ []) ≡
    sets P M S N 1 3 None ∷ sets P M S N 1 3 None ∷ sets P M S N 1 3 None ∷ sets P M S N 1 3 None ∷ []
unfolding computing
byte_spends_the_shift = refl

-- ---- the set of a byte

-- the set of the bytes 4/1 and 12/1, outside a mosaic run and in one
abbrev pub sets_of_bytes : Sets → List SetId
sets_of_bytes s = set_of s 0x41 false ∷ set_of s 0xC1 false ∷ set_of s 0x41 true ∷ set_of s 0xC1 true ∷ []

-- by the lock of the byte's side, and M for a left byte in a run
pub by_locks : map (λ (s : Sets). sets_of_bytes s)
    (sets P S N D 0 1 None ∷ sets P S N D 1 2 None ∷ sets P S N D 2 3 None ∷ sets P S N D 3 1 None ∷ []) ≡
    (P ∷ S ∷ M ∷ S ∷ []) ∷ (S ∷ N ∷ M ∷ N ∷ []) ∷ (N ∷ D ∷ M ∷ D ∷ []) ∷ (D ∷ S ∷ M ∷ S ∷ []) ∷ []
unfolding computing
by_locks = refl

-- by the single shift on either side, in a run too
pub by_shifts : map (λ (s : Sets). sets_of_bytes s) (sets P S N D 0 1 (Some 2) ∷ sets P S N D 0 1 (Some 3) ∷ []) ≡
    (N ∷ N ∷ N ∷ N ∷ []) ∷ (D ∷ D ∷ D ∷ D ∷ []) ∷ []
unfolding computing
by_shifts = refl

-- the halves meet between 7/15 and 10/0
pub edges_of_the_halves : map (λ byte. set_of (sets P S N D 0 1 None) byte false)
    (0x20 ∷ 0x7F ∷ 0xA0 ∷ 0xFF ∷ []) ≡ P ∷ P ∷ S ∷ S ∷ []
unfolding computing
edges_of_the_halves = refl

-- ---- codes

-- the seven low bits
pub codes_of_bytes : map code_of (0x20 ∷ 0x7F ∷ 0xA0 ∷ 0xC8 ∷ 0xFF ∷ []) ≡ 0x20 ∷ 0x7F ∷ 0x20 ∷ 0x48 ∷ 0x7F ∷ []
codes_of_bytes = refl

abbrev pub each_set : List SetId
each_set = P ∷ S ∷ M ∷ N ∷ D ∷ []

-- a sign of a set
abbrev pub sign_read : SetId → ℕ → Read
sign_read set code = reads.Glyph (record { set = set; code = code; accent = 0 })

-- code 2/0 is the space of P in each set
pub space_of_each_set : map (λ (set : SetId). read_as set 0x20) each_set ≡
    sign_read P 0x20 ∷ sign_read P 0x20 ∷ sign_read P 0x20 ∷ sign_read P 0x20 ∷ sign_read P 0x20 ∷ []
unfolding computing
space_of_each_set = refl

-- codes 2/1, 4/8 and 7/15 of each set: of S 4/8 is an accent
pub codes_of_each_set : map (λ (set : SetId). map (read_as set) (0x21 ∷ 0x48 ∷ 0x7F ∷ [])) each_set ≡
    (sign_read P 0x21 ∷ sign_read P 0x48 ∷ sign_read P 0x7F ∷ [])
    ∷ (sign_read S 0x21 ∷ reads.Accent 0x48 ∷ sign_read S 0x7F ∷ [])
    ∷ (sign_read M 0x21 ∷ sign_read M 0x48 ∷ sign_read M 0x7F ∷ [])
    ∷ (sign_read N 0x21 ∷ sign_read N 0x48 ∷ sign_read N 0x7F ∷ [])
    ∷ (sign_read D 0x21 ∷ sign_read D 0x48 ∷ sign_read D 0x7F ∷ []) ∷ []
unfolding computing
codes_of_each_set = refl

-- the accents of S are its codes 4/0 to 4/15
pub accents_of_S : map (read_as S) (range_with_len 0x3F 18) ≡
    sign_read S 0x3F
    ∷ reads.Accent 0x40 ∷ reads.Accent 0x41 ∷ reads.Accent 0x42 ∷ reads.Accent 0x43 ∷ reads.Accent 0x44
    ∷ reads.Accent 0x45 ∷ reads.Accent 0x46 ∷ reads.Accent 0x47
    ∷ reads.Accent 0x48 ∷ reads.Accent 0x49 ∷ reads.Accent 0x4A ∷ reads.Accent 0x4B ∷ reads.Accent 0x4C
    ∷ reads.Accent 0x4D ∷ reads.Accent 0x4E ∷ reads.Accent 0x4F
    ∷ sign_read S 0x50 ∷ []
unfolding computing
accents_of_S = refl
