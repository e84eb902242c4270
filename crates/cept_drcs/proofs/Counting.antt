-- How many bytes a pattern has: each of them adds to its planes, its lines or a half line.
use Rattle.std.proofs.Common.{◌≡◌, ℕ, ◌+◌, ◌-◌, ◌*◌, ◌<◌, ◌≤◌, true, false, List, [], ◌∷◌, ◌++◌, inl, inr}
use Rattle.std.proofs.Common.{length, ◌==◌, IsTrue, sym, ap, ◌∙◌, zero-mul, arith}
use Rattle.std.proofs.lemmas.Bool.{cases_Bool, and_parts, ltb-true, both_ways}
use Rattle.std.proofs.lemmas.Bool.Decides.{nat_tests}
use Rattle.std.proofs.lemmas.List.{length-append}
use Rattle.std.proofs.lemmas.Nat.{mul-le}
use Rattle.cept_codes.specs.declared.command.Form.{Form}
use Rattle.cept_codes.specs.Command.{IsValidForm}
use Rattle.cept_codes.specs.Look.{is_pattern_size}
use Rattle.cept_drcs.specs.Block.{BlockPart, blank}
use Rattle.cept_drcs.specs.Adding.{adds, may_come, part_after_byte, part_after_bytes, last_line}
use Rattle.cept_drcs.specs.Cut.{Block, is_opener}
use Rattle.cept_drcs.specs.Loading.{plane_of}
use Rattle.cept_drcs.proofs.BlockLemmas.{halves}
use Rattle.cept_drcs.specs.Unit.{is_pattern}
use Rattle.cept_drcs.specs.Loading.{Loading, fresh, load, loads}
use Rattle.cept_drcs.proofs.BlockLemmas.{IsWithin, blank_within, draw_within, draw_measured, part_is}
use Rattle.cept_drcs.proofs.Bridge.{stand, above_next, length-above_next, next_plane, first, loads_opener}
use Rattle.cept_drcs.proofs.Bridge.{loads_other, loads_first}
use Rattle.cept_drcs.proofs.Reading.{load_opener, load_other, load_first, pattern_loads, Ends, ended, no_pattern}
use Rattle.cept_drcs.proofs.Growing.{four_planes}

-- planes passed, two for each line, and a half line
abbrev weight : Loading → ℕ
weight l = l.plane + (2 * length l.lines + halves l.half)

opener_weighs : (f : Form) (p q : ℕ) (up : List ℕ) (d : BlockPart) → length up ≡ p * f.h → IsWithin f d → p < q
    → weight (stand f p up d) < weight (stand f q (above_next f q up d) blank)
opener_weighs f p q up d e w l =
    let n = length-above_next f p q up d e w l in
    let m = next_plane p q f.h l in
    let r = w.room in
    let a = length-append up d.lines in
    let b = length-append (above_next f q up d) [] in
    omega arith

other_weighs : (f : Form) (p : ℕ) (up : List ℕ) (d : BlockPart) (a : ℕ) → may_come (f.h - length d.lines) a ≡ true
    → weight (stand f p up d) < weight (stand f p up (part_after_byte f d a))
other_weighs f p up d a h =
    let m = (draw_measured f d a h).more in
    let more = adds f.w (f.h - length d.lines) (last_line d.lines) d.half a in
    let n = length-append up d.lines in
    let k = length-append up (d.lines ++ more.lines) in
    let j = length-append d.lines more.lines in
    let z = ap (λ (e : BlockPart). weight (stand f p up e)) (part_is f d a) in
    omega arith

-- each byte weighs something
bytes_weigh : (f : Form) (p : ℕ) (up : List ℕ) (d : BlockPart) (u : List ℕ) → length up ≡ p * f.h → IsWithin f d
    → loads (stand f p up d) u ≡ true → length u + weight (stand f p up d) ≤ weight (load (stand f p up d) u)
unfolding load
bytes_weigh f p up d [] e w h = omega arith
bytes_weigh f p up d (a ∷ u) e w h =
    let Goal : Type 0 = length (a ∷ u) + weight (stand f p up d) ≤ weight (load (stand f p up d) (a ∷ u)) in
    let opener : is_opener a ≡ true → Goal =
    λ t.
    let q = plane_of a in
    let g = and_parts _ _ (sym (loads_opener f p up d a u t) ∙ h) in
    let l = ltb-true p q (and_parts _ _ g.0).0 in
    let i = bytes_weigh f q (above_next f q up d) blank u (length-above_next f p q up d e w l) (blank_within f) g.1 in
    let s = opener_weighs f p q up d e w l in
    let z = ap weight (load_opener f p up d a u t) in
    omega arith in
    let other : is_opener a ≡ false → Goal =
    λ t.
    let g = and_parts _ _ (sym (loads_other f p up d a u t e) ∙ h) in
    let i = bytes_weigh f p up (part_after_byte f d a) u e (draw_within f d a w g.0) g.1 in
    let s = other_weighs f p up d a g.0 in
    let z = ap weight (load_other f p up d a u t e) in
    omega arith in
    elim (cases_Bool (is_opener a)) [ inl t ↦ opener t | inr t ↦ other t ]

ends_weigh : (f : Form) (l : Loading) (b : Block) → Ends f l b → weight l < f.planes + 2 * (f.planes * f.h)
ends_weigh f l b k =
    let d = part_after_bytes f blank b.bytes in
    let z = ap weight k.state in
    let n = length-append k.above d.lines in
    let m = next_plane b.plane f.planes f.h k.plane in
    let e = k.long in
    let r = k.within.room in
    let s = k.plane in
    omega arith

-- an opener for each plane, and two bytes for each line
pub unit_length : (f : Form) (u : List ℕ) → is_pattern f u ≡ true → length u ≤ f.planes + 2 * (f.planes * f.h)
unit_length f [] h = absurd (both_ways _ (no_pattern f) h)
unit_length f (a ∷ u) h =
    let e = ended f a u h in
    let s = ends_weigh f (load (fresh f) (a ∷ u)) e.last e.ends in
    let p : loads (fresh f) (a ∷ u) ≡ true = pattern_loads f a u h in
    let g : loads (first f) u ≡ true = (and_parts (a == 0x30) (loads (first f) u) (sym (loads_first f a u) ∙ p)).1 in
    let i : length u + weight (first f) ≤ weight (load (first f) u) =
    bytes_weigh f 0 [] blank u (sym (zero-mul f.h)) (blank_within f) g in
    let z = ap weight (load_first f a u) in
    omega arith

pub twelve_lines : (w h : ℕ) → IsTrue (is_pattern_size w h) → h ≤ 12
twelve_lines w h t = grind (arith, nat_tests)

pub hundred : (f : Form) (u : List ℕ) → IsValidForm f → is_pattern f u ≡ true → length u ≤ 100
hundred f u v h =
    let n = unit_length f u h in
    let p = four_planes f.planes v.planes in
    let m = mul-le f.planes f.h 4 12 p (twelve_lines f.w f.h v.size) in
    omega arith
