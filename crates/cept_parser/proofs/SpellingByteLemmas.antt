-- Spellings are of bytes, and each has one at least.
use Rattle.std.proofs.Common.{◌≡◌, ℕ, zero, suc, ◌+◌, ◌<◌, ◌≤◌, Bool, true, false, ◌&&◌, cond, eqb, ltb}
use Rattle.std.proofs.Common.{List, [], ◌∷◌, ◌++◌, length, refl, arith, inl, inr, IsTrue}
use Rattle.std.proofs.lemmas.Bool.{cases_Bool, and_parts, ltb-true}
use Rattle.std.proofs.lemmas.Bool.Decides.{nat_tests}
use Rattle.std.specs.List.{flat_map, range_with_len}
use Rattle.cept_codes.specs.declared.command.C1Set.TheVariants as c1_set
use Rattle.cept_codes.specs.declared.command.Command.{Command}
use Rattle.cept_codes.specs.declared.command.Command.TheVariants as command
use Rattle.cept_codes.specs.declared.command.Form.{Form}
use Rattle.cept_codes.specs.declared.glyph.SetId.{SetId}
use Rattle.cept_codes.specs.declared.glyph.SetId.TheVariants.{P, S, M, N, D}
use Rattle.cept_codes.specs.declared.look.Pattern.{Pattern}
use Rattle.cept_codes.specs.Command.{IsArea}
use Rattle.cept_codes.specs.Look.{is_plane_count, IsValidPattern}
use Rattle.cept_parser.specs.declared.context.Context.{Context}
use Rattle.cept_parser.specs.Spelling.{spelling, context_after, spellings, size_byte, set_bytes, IsSpelled, AreSpelled}
use Rattle.cept_parser.specs.Spelling.{half_line_byte}
use Rattle.cept_parser.specs.Spelling.{line_bytes, plane_bytes, pattern_bytes}
use Rattle.cept_parser.specs.Valid.{AreBytes}
use Rattle.cept_parser.proofs.GrammarLemmas.{unit_none}
use Rattle.cept_parser.proofs.PatternPixelLemmas.{half_within}
use Rattle.cept_parser.proofs.SpelledLemmas.{colour_within, last_small}
use Rattle.cept_parser.proofs.SpellingLemmas.{Spells, spelled}

-- ---- lists of bytes

pub bytes-append : (a b : List ℕ) → AreBytes a → AreBytes b → AreBytes (a ++ b)
bytes-append [] b h k = k
bytes-append (c ∷ a) b h k = (h.0, bytes-append a b h.1 k)

bytes_each : (f : ℕ → List ℕ) (from n : ℕ) → ((i : ℕ) → i < from + n → AreBytes (f i))
    → AreBytes (flat_map f (range_with_len from n))
bytes_each f from zero h = tt
bytes_each f from (suc n) h =
    bytes-append (f from) (flat_map f (range_with_len (from + 1) n)) (h from (omega arith))
    (bytes_each f (from + 1) n (λ i l. h i (omega arith)))

abbrev are_bytes : List ℕ → Bool
are_bytes [] = true
are_bytes (a ∷ b) = ltb a 256 && are_bytes b

-- those that are written out are tested
tested : (b : List ℕ) → are_bytes b ≡ true → AreBytes b
tested [] h = tt
tested (a ∷ b) h = let p = and_parts (ltb a 256) (are_bytes b) h in (ltb-true a 256 p.0, tested b p.1)

-- ---- patterns

half_byte : (t : Pattern) (p y x : ℕ) → half_line_byte t p y x < 256
half_byte t p y x = let w = half_within t p y x in omega (arith, w.1)

line_are : (t : Pattern) (p y : ℕ) → AreBytes (line_bytes t p y)
unfolding line_bytes
line_are t p y =
    elim (cases_Bool (eqb t.w 12)) [
      | inl e ↦ rw e (half_byte t p y 0, (half_byte t p y 6, tt))
      | inr e ↦ rw e (half_byte t p y 0, tt)
    ]

plane_are : (t : Pattern) (p : ℕ) → p < 4 → AreBytes (plane_bytes t p)
unfolding plane_bytes
plane_are t p l = (omega arith, bytes_each (line_bytes t p) 0 t.h (λ y m. line_are t p y))

few_planes : (n : ℕ) → IsTrue (is_plane_count n) → n ≤ 4
few_planes n t = grind (arith, nat_tests)

pattern_are : (t : Pattern) → IsValidPattern t → AreBytes (pattern_bytes t)
unfolding pattern_bytes
pattern_are t v =
    let few = few_planes t.planes v.planes in
    bytes_each (plane_bytes t) 0 t.planes (λ p l. plane_are t p (omega arith))

-- ---- commands

size_small : (f : Form) → size_byte f < 256
size_small f = grind (arith, nat_tests)

few_forms : (n : ℕ) → IsTrue (is_plane_count n) → 0x40 + n < 256
few_forms n t = let l = few_planes n t in omega arith

set_are : (s : SetId) → AreBytes (set_bytes s)
set_are P = tested (0x40 ∷ []) refl
set_are S = tested (0x62 ∷ []) refl
set_are M = tested (0x63 ∷ []) refl
set_are N = tested (0x64 ∷ []) refl
set_are D = tested (0x20 ∷ 0x40 ∷ []) refl

format_are : (a b : Bool) → AreBytes (0x1F ∷ 0x2D ∷ cond a 0x42 0x41 ∷ cond b 0x70 0x71 ∷ [])
format_are true true = tested (0x1F ∷ 0x2D ∷ 0x42 ∷ 0x70 ∷ []) refl
format_are true false = tested (0x1F ∷ 0x2D ∷ 0x42 ∷ 0x71 ∷ []) refl
format_are false true = tested (0x1F ∷ 0x2D ∷ 0x41 ∷ 0x70 ∷ []) refl
format_are false false = tested (0x1F ∷ 0x2D ∷ 0x41 ∷ 0x71 ∷ []) refl

one_are : (b : Bool) (m n : ℕ) → m < 256 → n < 256 → AreBytes (cond b m n ∷ [])
one_are true m n l k = (l, tt)
one_are false m n l k = (k, tt)

area_are : (a b : ℕ) → IsArea a b → AreBytes (spelling (command.AreaCreate a b))
unfolding spelling
area_are a b h =
    let l = h.1 in
    let m = h.2 in
    (omega arith, (omega arith, (omega arith, (omega arith, (omega arith, (omega arith, (omega arith, tt)))))))

pub spelling_bytes : (x : Context) (c : Command) → IsSpelled x c → AreBytes (spelling c)
unfolding IsSpelled spelling
spelling_bytes x (command.FullDefaults c1_set.Serial) h = tested (0x1F ∷ 0x2F ∷ 0x41 ∷ []) refl
spelling_bytes x (command.FullDefaults c1_set.Parallel) h = tested (0x1F ∷ 0x2F ∷ 0x42 ∷ []) refl
spelling_bytes x (command.Revision revision) h =
    (omega arith, (omega arith, one_are (eqb revision 2) 0x45 0x46 (omega arith) (omega arith)))
spelling_bytes x (command.Format rows wrap) h = format_are (eqb rows 20) wrap
spelling_bytes x (command.ColourHeader true) h = tested (0x1F ∷ 0x26 ∷ 0x20 ∷ 0x22 ∷ []) refl
spelling_bytes x (command.ColourHeader false) h = tested (0x1F ∷ 0x26 ∷ 0x20 ∷ 0x20 ∷ []) refl
spelling_bytes x (command.ColourStart i) h =
    let l = last_small x.kind i h in
    (omega arith, (omega arith, (omega arith, (omega arith, tt))))
spelling_bytes x (command.Entry i c) h =
    (omega (arith, (colour_within 2 c).1), (omega (arith, (colour_within 0 c).1), tt))
spelling_bytes x (command.Dclut i v) h = let l = h.1.1 in (omega arith, tt)
spelling_bytes x (command.DrcsHeader false f) h = (
  omega arith,
  (
    omega arith,
    (omega arith, (omega arith, (omega arith, (size_small f, (few_forms f.planes h.planes, tt))))),
  ),
)
spelling_bytes x (command.DrcsStart c) h = let l = h.1 in (omega arith, (omega arith, (omega arith, tt)))
spelling_bytes x (command.DrcsPattern c t) h = pattern_are t h.3
spelling_bytes x (command.Table k) h = (omega arith, (omega arith, (omega arith, tt)))
spelling_bytes x (command.C1 n) h = let l = h.0 in (omega arith, tt)
spelling_bytes x (command.FlashMode k) h = (omega arith, (omega arith, (omega arith, tt)))
spelling_bytes x command.StopConceal h = tested (0x9B ∷ 0x42 ∷ []) refl
spelling_bytes x (command.FullScreen n) h =
    let l = h.0.0 in
    (omega arith, (omega arith, (omega arith, (omega arith, tt))))
spelling_bytes x (command.FullRow n) h =
    let l = h.0 in
    (omega arith, (omega arith, (omega arith, (omega arith, tt))))
spelling_bytes x (command.Position r c) h =
    let l = h.to_bottom in
    let m = h.to_right in
    (omega arith, (omega arith, (omega arith, tt)))
spelling_bytes x (command.Protect on) h = (omega arith, (omega arith, one_are on 0x50 0x51 (omega arith) (omega arith)))
spelling_bytes x (command.DesignateC1 c1_set.Serial) h = tested (0x1B ∷ 0x22 ∷ 0x40 ∷ []) refl
spelling_bytes x (command.DesignateC1 c1_set.Parallel) h = tested (0x1B ∷ 0x22 ∷ 0x41 ∷ []) refl
spelling_bytes x (command.Graphic b) h = let l = h.2 in (omega arith, tt)
spelling_bytes x (command.LockLeft g) h = one_are (eqb g 0) 0x0F 0x0E (omega arith) (omega arith)
spelling_bytes x (command.Designate g s) h = (omega arith, (omega arith, set_are s))
spelling_bytes x (command.Single g) h = one_are (eqb g 2) 0x19 0x1D (omega arith) (omega arith)
spelling_bytes x (command.Repeat n) h = (omega arith, (omega arith, tt))
spelling_bytes x (command.AreaCreate a b) h = area_are a b h
spelling_bytes x (command.Implicit true) h = tested (0x9B ∷ 0x32 ∷ 0x60 ∷ []) refl
spelling_bytes x (command.Implicit false) h = tested (0x9B ∷ 0x33 ∷ 0x60 ∷ []) refl
spelling_bytes x _ h = absurd h

pub spellings_bytes : (x : Context) (cs : List Command) → AreSpelled x cs → AreBytes (spellings cs)
spellings_bytes x [] h = tt
spellings_bytes x (c ∷ cs) h =
    bytes-append (spelling c) (spellings cs) (spelling_bytes x c h.0) (spellings_bytes (context_after x c) cs h.2)

some_bytes : (x : Context) (c : Command) (u : List ℕ) → u ≡ spelling c → Spells x c → 1 ≤ length u
some_bytes x c [] e h = let n = unit_none x in absurd cc
some_bytes x c (a ∷ u) e h = omega arith

pub spelling_some : (x : Context) (c : Command) → IsSpelled x c → 1 ≤ length (spelling c)
spelling_some x c h = some_bytes x c (spelling c) refl (spelled x c h)
