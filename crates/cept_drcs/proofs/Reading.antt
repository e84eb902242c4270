-- Reading bytes of patterns one by one: bytes in two parts, and states that bytes lead to.
use Rattle.std.proofs.Common.{◌≡◌, ℕ, ◌*◌, ◌<◌, true, false, ◌&&◌, List, [], ◌∷◌, ◌++◌, inl, inr}
use Rattle.std.proofs.Common.{length, ◌==◌, nat_lt, IsTrue, refl, sym, ap, ◌∙◌, subst, zero-mul, arith}
use Rattle.std.proofs.lemmas.Bool.{cases_Bool, and_parts, and_from, ltb-true, eqb-true, both_ways, lt-ltb}
use Rattle.std.proofs.lemmas.Bool.Decides.{nat_tests}
use Rattle.std.proofs.lemmas.List.{append_assoc, append-nil}
use Rattle.std.proofs.Math.Bool.{and_assoc}
use Rattle.cept_codes.specs.declared.command.Form.{Form}
use Rattle.cept_codes.specs.Command.{IsValidForm}
use Rattle.cept_codes.specs.Look.{is_plane_count}
use Rattle.cept_drcs.specs.Block.{BlockPart, blank}
use Rattle.cept_drcs.specs.Adding.{part_after_byte, part_after_bytes}
use Rattle.cept_drcs.specs.Cut.{Block, is_opener, blocks}
use Rattle.cept_drcs.specs.Loading.{plane_of}
use Rattle.cept_drcs.proofs.Cuts.{cut, cut_none, cut_opener, cut_other}
use Rattle.cept_drcs.specs.Unit.{is_pattern, are_blocks}
use Rattle.cept_drcs.specs.Loading.{Loading, fresh, takes, loading_after, load, loads, Leads}
use Rattle.cept_drcs.proofs.BlockLemmas.{IsWithin, blank_within, draw_within, part_after_bytes-more}
use Rattle.cept_drcs.proofs.Bridge.{stand, above_next, length-above_next, taken_opener}
use Rattle.cept_drcs.proofs.Bridge.{taken_other, first, loads_first, pattern_other, unit_loads, loads_opener}
use Rattle.cept_drcs.proofs.Bridge.{loads_other}

-- ---- bytes in two parts

pub loads-append : (l : Loading) (u v : List ℕ) → loads l (u ++ v) ≡ (loads l u && loads (load l u) v)
unfolding loads load
loads-append l [] v = refl
loads-append l (a ∷ u) v =
    ap (λ b. takes l a && b) (loads-append (loading_after l a) u v)
    ∙ sym (and_assoc (takes l a) (loads (loading_after l a) u) (loads (load (loading_after l a) u) v))

pub load-append : (l : Loading) (u v : List ℕ) → load l (u ++ v) ≡ load (load l u) v
unfolding load
load-append l [] v = refl
load-append l (a ∷ u) v = load-append (loading_after l a) u v

pub loads_one : (l : Loading) (a : ℕ) → loads l (a ∷ []) ≡ takes l a
unfolding loads
loads_one l a = grind arith

load_one_more : (l : Loading) (a : ℕ) → load l (a ∷ []) ≡ loading_after l a
unfolding load
load_one_more l a = refl

-- one byte more
pub loads_more : (l : Loading) (u : List ℕ) (a : ℕ) → loads l (u ++ a ∷ []) ≡ (loads l u && takes (load l u) a)
loads_more l u a = loads-append l u (a ∷ []) ∙ ap (λ b. loads l u && b) (loads_one (load l u) a)

pub load_more : (l : Loading) (u : List ℕ) (a : ℕ) → load l (u ++ a ∷ []) ≡ loading_after (load l u) a
load_more l u a = load-append l u (a ∷ []) ∙ load_one_more (load l u) a

-- ---- forms with a plane

planes_some : (n : ℕ) → IsTrue (is_plane_count n) → 0 < n
planes_some n t = grind (arith, nat_tests)

pub some_plane : (f : Form) → IsValidForm f → nat_lt 0 f.planes ≡ true
some_plane f v = lt-ltb 0 f.planes (planes_some f.planes v.planes)

first_planes : (f : Form) (u : List ℕ) → is_pattern f (0x30 ∷ u) ≡ true → nat_lt 0 f.planes ≡ true
unfolding is_pattern cut blocks are_blocks
first_planes f u h = (and_parts _ _ h).0

-- a form of which there is a pattern has a plane
pub pattern_planes : (f : Form) (a : ℕ) (u : List ℕ) → is_pattern f (a ∷ u) ≡ true → nat_lt 0 f.planes ≡ true
pattern_planes f a u h =
    elim (cases_Bool (a == 0x30)) [
      | inl t ↦ first_planes f u (subst (λ (b : ℕ). is_pattern f (b ∷ u) ≡ true) (eqb-true a 0x30 t) h)
      | inr t ↦ absurd (both_ways _ (pattern_other f a u t) h)
    ]

-- bytes that are a pattern are read one by one
pub pattern_loads : (f : Form) (a : ℕ) (u : List ℕ) → is_pattern f (a ∷ u) ≡ true → loads (fresh f) (a ∷ u) ≡ true
pattern_loads f a u h = sym (unit_loads f a u (pattern_planes f a u h)) ∙ h

pub no_pattern : (f : Form) → is_pattern f [] ≡ false
unfolding is_pattern
no_pattern f = refl

valid_starts : (f : Form) (a : ℕ) → nat_lt 0 f.planes ≡ true → is_pattern f (a ∷ []) ≡ (a == 0x30)
unfolding loads takes
valid_starts f a h = unit_loads f a [] h ∙ loads_one (fresh f) a

-- the byte that begins patterns
pub starts : (f : Form) (a : ℕ) → IsValidForm f → is_pattern f (a ∷ []) ≡ (a == 0x30)
starts f a v = valid_starts f a (some_plane f v)

-- ---- the laws of reading

-- a beginning of a pattern is a pattern
pub beginning : (f : Form) (a : ℕ) (u v : List ℕ) → is_pattern f (a ∷ u ++ v) ≡ true → is_pattern f (a ∷ u) ≡ true
beginning f a u v h =
    unit_loads f a u (pattern_planes f a (u ++ v) h)
    ∙ (and_parts _ _ (sym (loads-append (fresh f) (a ∷ u) v) ∙ pattern_loads f a (u ++ v) h)).0

more_loads : (f : Form) (u : List ℕ) (a : ℕ) → nat_lt 0 f.planes ≡ true
    → is_pattern f (u ++ a ∷ []) ≡ loads (fresh f) (u ++ a ∷ [])
more_loads f [] a h = unit_loads f a [] h
more_loads f (b ∷ u) a h = unit_loads f b (u ++ a ∷ []) h

-- a byte is taken where it makes a pattern of those that led here
pub takes_is : (f : Form) (u : List ℕ) (l : Loading) (a : ℕ) → Leads f u l → takes l a ≡ is_pattern f (u ++ a ∷ [])
takes_is f u l a k =
    sym (more_loads f u a (some_plane f k.form) ∙ loads_more (fresh f) u a
    ∙ rw k.continue (ap (λ m. takes m a) (sym k.state)))

pub leads_more : (f : Form) (u : List ℕ) (l : Loading) (a : ℕ) → Leads f u l → takes l a ≡ true
    → Leads f (u ++ a ∷ []) (loading_after l a)
leads_more f u l a k t = record {
  form = k.form;
  continue = loads_more (fresh f) u a ∙ and_from _ _ k.continue (ap (λ m. takes m a) (sym k.state) ∙ t);
  state = ap (λ m. loading_after m a) k.state ∙ sym (load_more (fresh f) u a);
}

pub leads_none : (f : Form) → IsValidForm f → Leads f [] (fresh f)
unfolding loads load
leads_none f v = record { form = v; continue = refl; state = refl }

-- the bytes of a pattern lead to a state
pub leads_pattern : (f : Form) (a : ℕ) (u : List ℕ) → IsValidForm f → is_pattern f (a ∷ u) ≡ true
    → Leads f (a ∷ u) (load (fresh f) (a ∷ u))
leads_pattern f a u v h = record { form = v; continue = pattern_loads f a u h; state = refl }

-- bytes that lead to a state are none, or a pattern
pub pattern_of_leads : (f : Form) (a : ℕ) (u : List ℕ) (l : Loading) → Leads f (a ∷ u) l → is_pattern f (a ∷ u) ≡ true
pattern_of_leads f a u l k = unit_loads f a u (some_plane f k.form) ∙ k.continue

-- ---- where bytes end

pub load_opener : (f : Form) (p : ℕ) (up : List ℕ) (d : BlockPart) (a : ℕ) (u : List ℕ) → is_opener a ≡ true
    → load (stand f p up d) (a ∷ u) ≡ load (stand f (plane_of a) (above_next f (plane_of a) up d) blank) u
unfolding load
load_opener f p up d a u t = ap (λ m. load m u) (taken_opener f p up d a t)

pub load_other : (f : Form) (p : ℕ) (up : List ℕ) (d : BlockPart) (a : ℕ) (u : List ℕ) → is_opener a ≡ false
    → length up ≡ p * f.h → load (stand f p up d) (a ∷ u) ≡ load (stand f p up (part_after_byte f d a)) u
unfolding load
load_other f p up d a u t e = ap (λ m. load m u) (taken_other f p up d a t e)

pub load_first : (f : Form) (a : ℕ) (u : List ℕ) → load (fresh f) (a ∷ u) ≡ load (first f) u
unfolding load loading_after
load_first f a u = refl

-- a state with this block open, drawn as far as its bytes say
pub record Ends (f : Form) (l : Loading) (b : Block) : Type 0 where
  pub above : List ℕ
  pub long : length above ≡ b.plane * f.h
  pub state : l ≡ stand f b.plane above (part_after_bytes f blank b.bytes)
  pub within : IsWithin f (part_after_bytes f blank b.bytes)
  pub plane : b.plane < f.planes

-- a block of this plane, of these bytes
abbrev pub block : ℕ → List ℕ → Block
block p u = record { plane = p; bytes = u }

-- the last of blocks, this one where there are no more
abbrev pub last_block : Block → List Block → Block
last_block b [] = b
last_block b (c ∷ bs) = last_block c bs

last_append : (d : Block) (bs : List Block) (b : Block) → last_block d (bs ++ b ∷ []) ≡ b
last_append d [] b = refl
last_append d (c ∷ bs) b = last_append c bs b

pub ends_behind : (f : Form) (p : ℕ) (up w u : List ℕ) → length up ≡ p * f.h → IsWithin f (part_after_bytes f blank w)
    → p < f.planes → loads (stand f p up (part_after_bytes f blank w)) u ≡ true
    → Ends f (load (stand f p up (part_after_bytes f blank w)) u) (last_block (block p (w ++ (cut u).front)) (cut u).blocks)
unfolding load
ends_behind f p up w [] e n l h =
    rw cut_none (subst (λ (v : List ℕ). Ends f (stand f p up (part_after_bytes f blank w)) (block p v)) (sym (append-nil w)) (record {
      above = up;
      long = e;
      state = refl;
      within = n;
      plane = l;
    }))
ends_behind f p up w (a ∷ u) e n l h =
    let d = part_after_bytes f blank w in
    let c = cut (a ∷ u) in
    let Goal : Type 0 = Ends f (load (stand f p up d) (a ∷ u)) (last_block (block p (w ++ c.front)) c.blocks) in
    let opener : is_opener a ≡ true → Goal =
    λ t.
    let g = and_parts _ _ (sym (loads_opener f p up d a u t) ∙ h) in
    let b = and_parts _ _ g.0 in
    let q = ltb-true p (plane_of a) b.0 in
    let long = length-above_next f p (plane_of a) up d e n q in
    let few = ltb-true (plane_of a) f.planes b.1 in
    let z = ends_behind f (plane_of a) (above_next f (plane_of a) up d) [] u long (blank_within f) few g.1 in
    rw (taken_opener f p up d a t, cut_opener a u t) z in
    let other : is_opener a ≡ false → Goal =
    λ t.
    let g = and_parts _ _ (sym (loads_other f p up d a u t e) ∙ h) in
    let m = part_after_bytes-more f blank w a in
    let i : IsWithin f (part_after_bytes f blank (w ++ a ∷ [])) = subst (IsWithin f) (sym m) (draw_within f d a n g.0) in
    let k : loads (stand f p up (part_after_bytes f blank (w ++ a ∷ []))) u ≡ true = ap (λ x. loads (stand f p up x) u) m ∙ g.1 in
    let z = ends_behind f p up (w ++ a ∷ []) u e i l k in
    rw (taken_other f p up d a t e, cut_other a u t) (rw (m, append_assoc) at z) in
    elim (cases_Bool (is_opener a)) [ inl t ↦ opener t | inr t ↦ other t ]

-- a pattern, the state that its bytes lead to, and its last block
pub record IsEnded (f : Form) (u : List ℕ) (l : Loading) : Type 0 where
  pub last : Block
  pub ends : Ends f l last
  pub is_last : (bs : List Block) (b : Block) → (cut u).blocks ≡ bs ++ b ∷ [] → last ≡ b

first_ended : (f : Form) (u : List ℕ) → is_pattern f (0x30 ∷ u) ≡ true
    → IsEnded f (0x30 ∷ u) (load (fresh f) (0x30 ∷ u))
unfolding cut blocks load loading_after
first_ended f u h =
    let some : 0 < f.planes = ltb-true 0 f.planes (pattern_planes f 0x30 u h) in
    let loaded : loads (first f) u ≡ true = sym (loads_first f 0x30 u) ∙ pattern_loads f 0x30 u h in
    record {
      last = last_block (block 0 (cut u).front) (cut u).blocks;
      ends = ends_behind f 0 [] [] u (sym (zero-mul f.h)) (blank_within f) some loaded;
      is_last = λ bs b e. ap (last_block (block 0 [])) e ∙ last_append (block 0 []) bs b;
    }

pub ended : (f : Form) (a : ℕ) (u : List ℕ) → is_pattern f (a ∷ u) ≡ true
    → IsEnded f (a ∷ u) (load (fresh f) (a ∷ u))
ended f a u h =
    let Ended : ℕ → Type 0 = λ b. is_pattern f (b ∷ u) ≡ true → IsEnded f (b ∷ u) (load (fresh f) (b ∷ u)) in
    elim (cases_Bool (a == 0x30)) [
      | inl t ↦ subst Ended (sym (eqb-true a 0x30 t)) (first_ended f u) h
      | inr t ↦ absurd (both_ways _ (pattern_other f a u t) h)
    ]
