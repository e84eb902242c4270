-- The bytes of a pattern read one by one, beside their blocks.
use Rattle.std.proofs.Common.{◌≡◌, ℕ, ◌+◌, ◌-◌, ◌*◌, ◌<◌, ◌≤◌, Bool, true, false, ◌&&◌, ◌||◌, List, [], ◌∷◌, ◌++◌}
use Rattle.std.proofs.Common.{inl, inr, length, replicate, ◌==◌, nat_le, nat_lt, Option, Some, None, refl, sym, ap}
use Rattle.std.proofs.Common.{◌∙◌, le_refl, zero-mul, arith}
use Rattle.std.proofs.lemmas.Bool.{cases_Bool, and_parts, ltb-true, eqb-true}
use Rattle.std.proofs.lemmas.Bool.Decides.{nat_tests}
use Rattle.std.proofs.lemmas.Nat.{row_fits}
use Rattle.std.proofs.Math.Bool.{and_assoc}
use Rattle.std.proofs.lemmas.List.{length-append, length-replicate, append_assoc, append-nil, drop_at}
use Rattle.cept_codes.specs.declared.command.Form.{Form}
use Rattle.cept_drcs.specs.Block.{BlockPart, blank, all_may_come}
use Rattle.cept_drcs.specs.Block.{has_pixels}
use Rattle.cept_drcs.specs.Adding.{is_sign, adds, may_come, part_after_byte, last_line}
use Rattle.cept_drcs.specs.Cut.{is_opener, blocks}
use Rattle.cept_drcs.proofs.Cuts.{Cut, cut, cut_opener, cut_other}
use Rattle.cept_drcs.specs.Loading.{plane_of}
use Rattle.cept_drcs.specs.Unit.{are_blocks, is_pattern}
use Rattle.cept_drcs.specs.Loading.{Loading, fresh, takes, loading_after, loads, closed_lines, filled_lines, room, before}
use Rattle.cept_drcs.specs.Loading.{loading_with}
use Rattle.cept_drcs.proofs.BlockLemmas.{halves}
use Rattle.cept_drcs.proofs.BlockLemmas.{IsWithin, blank_within, draw_within, part_is}

-- the state with this plane open, these lines above it and this block drawn
abbrev pub stand : Form → ℕ → List ℕ → BlockPart → Loading
stand f p up d = record { form = f; begun = true; plane = p; lines = up ++ d.lines; half = d.half }

-- the lines above a plane that is opened after these
abbrev pub above_next : Form → ℕ → List ℕ → BlockPart → List ℕ
above_next f p up d = filled_lines (p * f.h) (closed_lines (up ++ d.lines) d.half)

-- a plane further on begins after all lines of this one
pub next_plane : (p q h : ℕ) → p < q → p * h + h ≤ q * h
next_plane p q h l = row_fits p h q h l (le_refl h)

pub length-closed_lines : (ls : List ℕ) (half : Option ℕ) → length (closed_lines ls half) ≡ length ls + halves half
length-closed_lines ls None = length-append ls [] ∙ refl
length-closed_lines ls (Some l) = length-append ls (l ∷ [])

pub length-above_next : (f : Form) (p q : ℕ) (up : List ℕ) (d : BlockPart) → length up ≡ p * f.h → IsWithin f d → p < q
    → length (above_next f q up d) ≡ q * f.h
length-above_next f p q up d e w l =
    let ls = closed_lines (up ++ d.lines) d.half in
    let n = length-append ls (replicate (q * f.h - length ls) 0) in
    let m = length-replicate {A = ℕ} (q * f.h - length ls) 0 in
    let c = length-closed_lines (up ++ d.lines) d.half in
    let a = length-append up d.lines in
    let b = next_plane p q f.h l in
    omega arith

pub takes_opener : (f : Form) (p : ℕ) (up : List ℕ) (d : BlockPart) (a : ℕ) → is_opener a ≡ true
    → takes (stand f p up d) a ≡ (nat_lt p (plane_of a) && nat_lt (plane_of a) f.planes)
unfolding takes
takes_opener f p up d a t = rw t refl

pub taken_opener : (f : Form) (p : ℕ) (up : List ℕ) (d : BlockPart) (a : ℕ) → is_opener a ≡ true
    → loading_after (stand f p up d) a ≡ stand f (plane_of a) (above_next f (plane_of a) up d) blank
unfolding loading_after
taken_opener f p up d a t = rw (t, append-nil) refl

pub room_is : (f : Form) (p : ℕ) (up : List ℕ) (d : BlockPart) → length up ≡ p * f.h
    → room (stand f p up d) ≡ f.h - length d.lines
room_is f p up d e = let n = length-append up d.lines in omega arith

before_is : (f : Form) (p : ℕ) (up : List ℕ) (d : BlockPart) → length up ≡ p * f.h
    → before (stand f p up d) ≡ last_line d.lines
before_is f p up d e = ap last_line (drop_at up d.lines (p * f.h) e)

pub takes_other : (f : Form) (p : ℕ) (up : List ℕ) (d : BlockPart) (a : ℕ) → is_opener a ≡ false → length up ≡ p * f.h
    → takes (stand f p up d) a ≡ may_come (f.h - length d.lines) a
unfolding takes
takes_other f p up d a t e = let r = room_is f p up d e in rw t (ap (λ n. may_come n a) r)

pub taken_other : (f : Form) (p : ℕ) (up : List ℕ) (d : BlockPart) (a : ℕ) → is_opener a ≡ false → length up ≡ p * f.h
    → loading_after (stand f p up d) a ≡ stand f p up (part_after_byte f d a)
unfolding loading_after
taken_other f p up d a t e =
    let r = room_is f p up d e in
    let b = before_is f p up d e in
    let n : adds f.w (room (stand f p up d)) (before (stand f p up d)) d.half a
    ≡ adds f.w (f.h - length d.lines) (last_line d.lines) d.half a =
    ap (λ k. adds f.w k (before (stand f p up d)) d.half a) r
    ∙ ap (λ k. adds f.w (f.h - length d.lines) k d.half a) b in
    let whole_block : loading_with (stand f p up d) (adds f.w (f.h - length d.lines) (last_line d.lines) d.half a)
    ≡ stand f p up (part_after_byte f d a) =
    rw append_assoc refl ∙ ap (stand f p up) (sym (part_is f d a)) in
    rw t (ap (loading_with (stand f p up d)) n ∙ whole_block)

pub loads_opener : (f : Form) (p : ℕ) (up : List ℕ) (d : BlockPart) (a : ℕ) (u : List ℕ) → is_opener a ≡ true
    → loads (stand f p up d) (a ∷ u)
    ≡ ((nat_lt p (plane_of a) && nat_lt (plane_of a) f.planes)
    && loads (stand f (plane_of a) (above_next f (plane_of a) up d) blank) u)
unfolding loads
loads_opener f p up d a u t = rw (takes_opener f p up d a t, taken_opener f p up d a t) refl

pub loads_other : (f : Form) (p : ℕ) (up : List ℕ) (d : BlockPart) (a : ℕ) (u : List ℕ) → is_opener a ≡ false
    → length up ≡ p * f.h
    → loads (stand f p up d) (a ∷ u) ≡ (may_come (f.h - length d.lines) a && loads (stand f p up (part_after_byte f d a)) u)
unfolding loads
loads_other f p up d a u t e = rw (takes_other f p up d a t e, taken_other f p up d a t e) refl

left : (n h : ℕ) → nat_lt n h ≡ nat_lt 0 (h - n)
left n h = grind (arith, nat_tests)

all_may_come-more : (f : Form) (d : BlockPart) (a : ℕ) (u : List ℕ)
    → all_may_come f d (a ∷ u) ≡ (may_come (f.h - length d.lines) a && all_may_come f (part_after_byte f d a) u)
unfolding all_may_come
all_may_come-more f d a u =
    ap (λ b. b && (has_pixels a || is_sign a) && all_may_come f (part_after_byte f d a) u) (left (length d.lines) f.h)

-- what the blocks of cut bytes must be, where this block is drawn so far
abbrev pub go_on : Form → ℕ → BlockPart → Cut → Bool
go_on f p d c = all_may_come f d c.front && are_blocks f (p + 1) c.blocks

go_on_opener : (f : Form) (p : ℕ) (d : BlockPart) (a : ℕ) (u : List ℕ) → is_opener a ≡ true
    → go_on f p d (cut (a ∷ u))
    ≡ ((nat_lt p (plane_of a) && nat_lt (plane_of a) f.planes) && go_on f (plane_of a) blank (cut u))
unfolding all_may_come are_blocks
go_on_opener f p d a u t =
    let e : nat_le (p + 1) (plane_of a) ≡ nat_lt p (plane_of a) = grind (arith, nat_tests) in
    rw (cut_opener a u t, e) (sym (and_assoc (nat_lt p (plane_of a)) _ _))

go_on_other : (f : Form) (p : ℕ) (d : BlockPart) (a : ℕ) (u : List ℕ) → is_opener a ≡ false
    → go_on f p d (cut (a ∷ u)) ≡ (may_come (f.h - length d.lines) a && go_on f p (part_after_byte f d a) (cut u))
go_on_other f p d a u t =
    let c = cut u in
    ap (λ (e : Cut). go_on f p d e) (cut_other a u t)
    ∙ ap (λ b. b && are_blocks f (p + 1) c.blocks) (all_may_come-more f d a c.front)
    ∙ and_assoc (may_come (f.h - length d.lines) a) _ _

-- two tests after one that are the same where it holds
pub and_under : (b x y : Bool) → (b ≡ true → x ≡ y) → (b && x) ≡ (b && y)
and_under true x y h = h refl
and_under false x y h = refl

-- reading on is judging the cut bytes
pub loads_is : (f : Form) (p : ℕ) (up : List ℕ) (d : BlockPart) (u : List ℕ) → length up ≡ p * f.h → IsWithin f d
    → loads (stand f p up d) u ≡ go_on f p d (cut u)
unfolding loads cut blocks all_may_come are_blocks
loads_is f p up d [] e w = refl
loads_is f p up d (a ∷ u) e w =
    let opener : is_opener a ≡ true → loads (stand f p up d) (a ∷ u) ≡ go_on f p d (cut (a ∷ u)) =
    λ t. loads_opener f p up d a u t
    ∙ and_under (nat_lt p (plane_of a) && nat_lt (plane_of a) f.planes) _ _ (λ b.
    let long = length-above_next f p (plane_of a) up d e w (ltb-true p (plane_of a) (and_parts _ _ b).0) in
    loads_is f (plane_of a) (above_next f (plane_of a) up d) blank u long (blank_within f))
    ∙ sym (go_on_opener f p d a u t) in
    let other : is_opener a ≡ false → loads (stand f p up d) (a ∷ u) ≡ go_on f p d (cut (a ∷ u)) =
    λ t. loads_other f p up d a u t e
    ∙ and_under (may_come (f.h - length d.lines) a) _ _ (λ b. loads_is f p up (part_after_byte f d a) u e (draw_within f d a w b))
    ∙ sym (go_on_other f p d a u t) in
    elim (cases_Bool (is_opener a)) [ inl t ↦ opener t | inr t ↦ other t ]

-- the first byte opens plane 0
abbrev pub first : Form → Loading
first f = stand f 0 [] blank

pub loads_first : (f : Form) (a : ℕ) (u : List ℕ) → loads (fresh f) (a ∷ u) ≡ ((a == 0x30) && loads (first f) u)
unfolding loads takes loading_after
loads_first f a u = refl

pattern_first : (f : Form) (u : List ℕ) → nat_lt 0 f.planes ≡ true → is_pattern f (0x30 ∷ u) ≡ go_on f 0 blank (cut u)
unfolding is_pattern cut blocks are_blocks
pattern_first f u h = rw h refl

pub pattern_other : (f : Form) (a : ℕ) (u : List ℕ) → (a == 0x30) ≡ false → is_pattern f (a ∷ u) ≡ false
unfolding is_pattern
pattern_other f a u h = rw h refl

-- a pattern is what is taken byte by byte
pub unit_loads : (f : Form) (a : ℕ) (u : List ℕ) → nat_lt 0 f.planes ≡ true
    → is_pattern f (a ∷ u) ≡ loads (fresh f) (a ∷ u)
unit_loads f a u h =
    let same : (a == 0x30) ≡ true → is_pattern f (a ∷ u) ≡ loads (fresh f) (a ∷ u) =
    λ t. ap (λ b. is_pattern f (b ∷ u)) (eqb-true a 0x30 t) ∙ pattern_first f u h
    ∙ sym (loads_is f 0 [] blank u (sym (zero-mul f.h)) (blank_within f)) ∙ sym (loads_first f a u ∙ rw t refl) in
    elim (cases_Bool (a == 0x30)) [
      | inl t ↦ same t
      | inr t ↦ pattern_other f a u t ∙ sym (loads_first f a u ∙ rw t refl)
    ]
