-- Where a byte fits after a pattern, and where none does.
use Rattle.std.proofs.Common.{◌≡◌, ◌↔◌, ℕ, ◌+◌, ◌-◌, ◌<◌, ◌≤◌, Bool, true, false, not, ◌&&◌, ◌||◌, List, [], ◌∷◌, ◌++◌}
use Rattle.std.proofs.Common.{inl, inr, length, ◌==◌, nat_lt, IsTrue, refl, sym, ap, ◌∙◌, arith}
use Rattle.std.proofs.lemmas.Bool.{cases_Bool, and_parts, or_parts, ltb-true}
use Rattle.std.proofs.lemmas.Bool.{both_ways, not-true, false_from_ne_true}
use Rattle.std.proofs.lemmas.Bool.Decides.{nat_tests}
use Rattle.std.proofs.lemmas.List.Folds.{list_any_at}
use Rattle.std.proofs.lemmas.List.FromFn.{length-range_with_len, get_or-range_with_len}
use Rattle.std.specs.List.{list_any, range_with_len}
use Rattle.cept_codes.specs.declared.command.Form.{Form}
use Rattle.cept_codes.specs.Command.{IsValidForm}
use Rattle.cept_codes.specs.Look.{is_plane_count}
use Rattle.cept_drcs.specs.Block.{blank}
use Rattle.cept_drcs.specs.Adding.{may_come, part_after_bytes}
use Rattle.cept_drcs.specs.Cut.{Block, blocks, is_opener}
use Rattle.cept_drcs.specs.Loading.{plane_of}
use Rattle.cept_drcs.proofs.Cuts.{cut}
use Rattle.cept_drcs.specs.Unit.{is_pattern, pattern_grows, IsLonger}
use Rattle.cept_drcs.specs.Loading.{Loading, fresh, takes, loading_after, load, loads, is_full, Leads}
use Rattle.cept_drcs.proofs.Bridge.{stand, takes_opener, takes_other, unit_loads}
use Rattle.cept_drcs.proofs.Bridge.{room_is}
use Rattle.cept_drcs.proofs.Reading.{loads_more, some_plane, pattern_planes, pattern_loads, pattern_of_leads}
use Rattle.cept_drcs.proofs.Reading.{Ends, IsEnded, ended, no_pattern}

-- a byte fits after this last block of a unit: it hasn't all its lines, or there is a further plane with an opener
abbrev pub block_grows : Form → Block → Bool
block_grows f b =
    nat_lt (length (part_after_bytes f blank b.bytes).lines) f.h || (nat_lt b.plane 3 && nat_lt (b.plane + 1) f.planes)

-- ---- a block that doesn't grow

opener_ends : (p a n : ℕ) → is_opener a ≡ true → (nat_lt p 3 && nat_lt (p + 1) n) ≡ false
    → (nat_lt p (plane_of a) && nat_lt (plane_of a) n) ≡ false
opener_ends p a n t h = grind (arith, nat_tests)

byte_ends : (n h a : ℕ) → nat_lt n h ≡ false → may_come (h - n) a ≡ false
byte_ends n h a e = let z : nat_lt 0 (h - n) ≡ false = grind (arith, nat_tests) in rw z refl

-- no byte is taken after it
takes_none : (f : Form) (l : Loading) (b : Block) (a : ℕ) → Ends f l b → block_grows f b ≡ false → takes l a ≡ false
takes_none f l b a k h =
    let d = part_after_bytes f blank b.bytes in
    let g = or_parts (nat_lt (length d.lines) f.h) (nat_lt b.plane 3 && nat_lt (b.plane + 1) f.planes) h in
    ap (λ m. takes m a) k.state
    ∙ elim (cases_Bool (is_opener a)) as (λ z. takes (stand f b.plane k.above d) a ≡ false) [
      | inl t ↦ takes_opener f b.plane k.above d a t ∙ opener_ends b.plane a f.planes t g.1
      | inr t ↦ takes_other f b.plane k.above d a t k.long ∙ byte_ends (length d.lines) f.h a g.0
    ]

-- ---- a block that grows

-- a byte that is taken in a state
pub record IsTaken (l : Loading) : Type 0 where
  pub byte : ℕ
  pub small : byte < 256
  pub taken : takes l byte ≡ true

line_fits : (n h : ℕ) → nat_lt n h ≡ true → may_come (h - n) 0x20 ≡ true
line_fits n h e = let z : nat_lt 0 (h - n) ≡ true = grind (arith, nat_tests) in rw z refl

opener_fits : (p n : ℕ) → nat_lt p 3 ≡ true → nat_lt (p + 1) n ≡ true
    → (nat_lt p (plane_of (p + 0x31)) && nat_lt (plane_of (p + 0x31)) n) ≡ true
opener_fits p n t h = grind (arith, nat_tests)

opener_is : (p : ℕ) → nat_lt p 3 ≡ true → is_opener (p + 0x31) ≡ true
opener_is p t = grind (arith, nat_tests)

line_taken : (f : Form) (l : Loading) (b : Block) → Ends f l b
    → nat_lt (length (part_after_bytes f blank b.bytes).lines) f.h ≡ true → IsTaken l
line_taken f l b k h = record {
  byte = 0x20;
  small = omega arith;
  taken = ap (λ m. takes m 0x20) k.state ∙ takes_other f b.plane k.above (part_after_bytes f blank b.bytes) 0x20 refl k.long
      ∙ line_fits _ f.h h;
}

opener_taken : (f : Form) (l : Loading) (b : Block) → Ends f l b
    → (nat_lt b.plane 3 && nat_lt (b.plane + 1) f.planes) ≡ true → IsTaken l
opener_taken f l b k h =
    let g = and_parts _ _ h in
    let s = ltb-true b.plane 3 g.0 in
    record {
      byte = b.plane + 0x31;
      small = omega arith;
      taken = ap (λ m. takes m (b.plane + 0x31)) k.state
          ∙ takes_opener f b.plane k.above (part_after_bytes f blank b.bytes) (b.plane + 0x31) (opener_is b.plane g.0)
          ∙ opener_fits b.plane f.planes g.0 g.1;
    }

takes_one : (f : Form) (l : Loading) (b : Block) → Ends f l b → block_grows f b ≡ true → IsTaken l
takes_one f l b k h =
    elim (cases_Bool (nat_lt (length (part_after_bytes f blank b.bytes).lines) f.h)) [
      | inl t ↦ line_taken f l b k t
      | inr t ↦ opener_taken f l b k (rw t at h)
    ]

-- ---- the laws

more_is : (f : Form) (a : ℕ) (u : List ℕ) (c : ℕ) → is_pattern f (a ∷ u) ≡ true
    → is_pattern f (a ∷ u ++ c ∷ []) ≡ takes (load (fresh f) (a ∷ u)) c
more_is f a u c h =
    unit_loads f a (u ++ c ∷ []) (pattern_planes f a u h) ∙ loads_more (fresh f) (a ∷ u) c
    ∙ rw (pattern_loads f a u h) refl

no_number : (p : ℕ → Bool) → ((n : ℕ) → p n ≡ false) → (ns : List ℕ) → list_any p ns ≡ false
no_number p h [] = refl
no_number p h (n ∷ ns) = rw (h n) (no_number p h ns)

some_number : (p : ℕ → Bool) (n : ℕ) → n < 256 → p n ≡ true → list_any p (range_with_len 0 256) ≡ true
some_number p n l h =
    let e : 0 + n ≡ n = omega arith in
    list_any_at p (range_with_len 0 256) n 0 (rw (length-range_with_len 0 256) l)
    (ap p (get_or-range_with_len 0 256 n 0 l ∙ e) ∙ h)

ended_grows : (f : Form) (a : ℕ) (u : List ℕ) → is_pattern f (a ∷ u) ≡ true
    → (e : IsEnded f (a ∷ u) (load (fresh f) (a ∷ u))) → pattern_grows f (a ∷ u) ≡ block_grows f e.last
unfolding pattern_grows
ended_grows f a u h e =
    let fits : ℕ → Bool = λ c. is_pattern f (a ∷ u ++ c ∷ []) in
    elim (cases_Bool (block_grows f e.last)) [
      | inl t ↦ let k = takes_one f _ e.last e.ends t in
          some_number fits k.byte k.small (more_is f a u k.byte h ∙ k.taken) ∙ sym t
      | inr t ↦ no_number fits (λ c. more_is f a u c h ∙ takes_none f _ e.last c e.ends t) (range_with_len 0 256) ∙ sym t
    ]

-- a pattern grows where its last block does
pub grows_by_last : (f : Form) (u : List ℕ) (bs : List Block) (b : Block) → is_pattern f u ≡ true
    → blocks u ≡ bs ++ b ∷ [] → pattern_grows f u ≡ block_grows f b
unfolding cut
grows_by_last f [] bs b h e = absurd (both_ways _ (no_pattern f) h)
grows_by_last f (a ∷ u) bs b h e =
    let k = ended f a u h in
    ended_grows f a u h k ∙ ap (block_grows f) (k.is_last bs b e)

-- after a pattern that doesn't grow no byte makes a longer one
pub no_longer : (f : Form) (a : ℕ) (u : List ℕ) (c : ℕ) → is_pattern f (a ∷ u) ≡ true → pattern_grows f (a ∷ u) ≡ false
    → is_pattern f (a ∷ u ++ c ∷ []) ≡ false
no_longer f a u c h g =
    let e = ended f a u h in
    more_is f a u c h ∙ takes_none f _ e.last c e.ends (sym (ended_grows f a u h e) ∙ g)

-- after one that grows some byte does
pub longer : (f : Form) (a : ℕ) (u : List ℕ) → is_pattern f (a ∷ u) ≡ true → pattern_grows f (a ∷ u) ≡ true
    → IsLonger f (a ∷ u)
longer f a u h g =
    let e = ended f a u h in
    let t = takes_one f _ e.last e.ends (sym (ended_grows f a u h e) ∙ g) in
    record { byte = t.byte; small = t.small; longer = more_is f a u t.byte h ∙ t.taken }

pub four_planes : (n : ℕ) → IsTrue (is_plane_count n) → n ≤ 4
four_planes n t = grind (arith, nat_tests)

full_test : (n h p planes r : ℕ) → r ≡ h - n → p < planes → planes ≤ 4
    → (r == 0 && p + 1 == planes) ≡ not (nat_lt n h || (nat_lt p 3 && nat_lt (p + 1) planes))
full_test n h p planes r e l m = grind (arith, nat_tests)

full_ends : (f : Form) (l : Loading) (b : Block) → IsValidForm f → Ends f l b → is_full l ≡ not (block_grows f b)
full_ends f l b v k =
    let d = part_after_bytes f blank b.bytes in
    ap is_full k.state
    ∙ full_test (length d.lines) f.h b.plane f.planes _ (room_is f b.plane k.above d k.long) k.plane
    (four_planes f.planes v.planes)

-- a state is full where the bytes that led to it don't grow
pub full_grows : (f : Form) (a : ℕ) (u : List ℕ) (l : Loading) → Leads f (a ∷ u) l
    → is_full l ≡ not (pattern_grows f (a ∷ u))
full_grows f a u l k =
    let h = pattern_of_leads f a u l k in
    let e = ended f a u h in
    ap is_full k.state ∙ full_ends f _ e.last k.form e.ends ∙ ap not (sym (ended_grows f a u h e))

-- no byte is taken exactly in a full state
full_none : (f : Form) (a : ℕ) (u : List ℕ) (l : Loading) → Leads f (a ∷ u) l → is_full l ≡ true
    → (c : ℕ) → is_pattern f (a ∷ u ++ c ∷ []) ≡ false
full_none f a u l k h c =
    no_longer f a u c (pattern_of_leads f a u l k) (not-true _ (sym (full_grows f a u l k) ∙ h))

none_full : (f : Form) (a : ℕ) (u : List ℕ) (l : Loading) → Leads f (a ∷ u) l
    → ((c : ℕ) → is_pattern f (a ∷ u ++ c ∷ []) ≡ false) → is_full l ≡ true
none_full f a u l k h =
    let p = pattern_of_leads f a u l k in
    let never : pattern_grows f (a ∷ u) ≡ true → ⊥ = λ g.
    let n = longer f a u p g in both_ways _ (h n.byte) n.longer in
    full_grows f a u l k ∙ ap not (false_from_ne_true _ never)

begins : (f : Form) → nat_lt 0 f.planes ≡ true → is_pattern f (0x30 ∷ []) ≡ true
unfolding loads takes loading_after
begins f h = unit_loads f 0x30 [] h

pub full_units : (f : Form) (u : List ℕ) (l : Loading) → Leads f u l
    → (is_full l ≡ true) ↔ ((c : ℕ) → is_pattern f (u ++ c ∷ []) ≡ false)
unfolding load
full_units f [] l k = (
  λ h. absurd (both_ways _ (ap is_full k.state) h),
  λ h. absurd (both_ways _ (h 0x30) (begins f (some_plane f k.form))),
)
full_units f (a ∷ u) l k = (full_none f a u l k, none_full f a u l k)
