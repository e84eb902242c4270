-- Lines that are drawn whole, and a plane that is opened.
use Rattle.std.proofs.Common.{◌≡◌, ◌⊎◌, ℕ, ◌+◌, ◌-◌, ◌*◌, ◌^◌, ◌<◌, ◌≤◌, ◌==◌}
use Rattle.std.proofs.Common.{cond, Bool, true, false}
use Rattle.std.proofs.Common.{List, ◌++◌, length, replicate, drop, get_or, refl, sym, ap, subst}
use Rattle.std.proofs.Common.{◌∙◌, inl, inr, arith}
use Rattle.std.proofs.Common.{None}
use Rattle.cept_codes.specs.declared.command.Form.{Form}
use Rattle.std.proofs.lemmas.Bool.{eq-eqb, cond-false, cond-true, true≢false}
use Rattle.std.proofs.lemmas.List.{length-append, length-replicate, length-drop}
use Rattle.std.proofs.lemmas.List.{get_or-map, get_or-drop, drop_all}
use Rattle.cept_drcs.specs.Loading.{Loading, all_lines, room, loading_at_plane, loading_with, above, before}
use Rattle.cept_drcs.specs.inside.Loading.{completed_loading}
use Rattle.cept_drcs.specs.Strips.{strip_of, line_of_strips, left_over, pairs, whole_lines}
use Rattle.cept_drcs.specs.inside.Strips.{strip_line}
use Rattle.cept_drcs.specs.Strips.{half_of, strips_in}
use Rattle.cept_drcs.specs.Kept.{IsKeptDrawing, plane_end}
use Rattle.cept_drcs.specs.Adding.{whole, last_line}
use Rattle.cept_drcs.proofs.StripLemmas.{map-added, in_pairs-same, left_over-same, in_pairs-pairs}
use Rattle.cept_drcs.proofs.StripLemmas.{left_over-pairs, length-pairs, in_pairs-at}
use Rattle.cept_drcs.proofs.StripLemmas.{strip_none, joined_none, strip_full, joined_full}
use Rattle.cept_drcs.proofs.BlockLemmas.{halves}
use Rattle.cept_drcs.proofs.Bridge.{next_plane, length-closed_lines}
use Rattle.cept_drcs.proofs.KeptDrawings.{shown, loading, lines_b, half_b, strips_b, count_b, count_is}
use Rattle.cept_drcs.proofs.KeptDrawings.{halves_b, none_half}
use Rattle.cept_drcs.proofs.KeptDrawings.{form_width, not_six, shown_is, end_most, kept_more}

-- ---- whole lines drawn

same_b : (b : Bool) (ss : List ℕ) (n a : ℕ) → half_b b ss ≡ None
    → (lines_b b (ss ++ replicate (strips_b b n) a) ≡ lines_b b ss ++ replicate n (cond b (strip_of a) (line_of_strips a a)))
    × (half_b b (ss ++ replicate (strips_b b n) a) ≡ None)
same_b true ss n a w = (map-added ss n a, refl)
same_b false ss n a w = (in_pairs-same ss n a w, left_over-same ss n a w)

pairs_b : (b : Bool) (ss : List ℕ) (n x y : ℕ) → half_b b ss ≡ None → b ≡ false
    → (lines_b b (ss ++ pairs n x y) ≡ lines_b b ss ++ replicate n (cond b (strip_of y) (line_of_strips x y)))
    × (half_b b (ss ++ pairs n x y) ≡ None)
pairs_b true ss n x y w e = absurd (true≢false e)
pairs_b false ss n x y w e = (in_pairs-pairs ss n x y w, left_over-pairs ss n x y w)

no_half : (f : Form) (begun : Bool) (plane : ℕ) (ss : List ℕ) (l : Loading)
    → shown f begun plane ss ≡ l → l.half ≡ None → half_of f.w ss ≡ None
no_half f begun plane ss l view whole = ap (λ (l : Loading). l.half) view ∙ whole

-- the same strip so often that it makes n lines
same_shown : (f : Form) (begun : Bool) (plane : ℕ) (ss more : List ℕ) (l : Loading) (n a line : ℕ)
    → shown f begun plane ss ≡ l → l.half ≡ None → more ≡ ss ++ replicate (strips_in f.w n) a
    → cond (f.w == 6) (strip_of a) (line_of_strips a a) ≡ line
    → shown f begun plane more ≡ loading_with l (whole (replicate n line))
same_shown f begun plane ss more l n a line view none em el =
    let both = same_b (f.w == 6) ss n a (no_half f begun plane ss l view none) in
    ap (shown f begun plane) em
    ∙ shown_is f begun plane (ss ++ replicate (strips_in f.w n) a) (whole_lines f.w ss ++ replicate n line) None
    (both.0 ∙ ap (λ (x : ℕ). whole_lines f.w ss ++ replicate n x) el) both.1
    ∙ ap (λ (l : Loading). loading_with l (whole (replicate n line))) view

zero_line : (b : Bool) → cond b (strip_of 0) (line_of_strips 0 0) ≡ 0
zero_line true = strip_none
zero_line false = joined_none

full_line : (w : ℕ) → (w ≡ 6) ⊎ (w ≡ 12) → cond (w == 6) (strip_of 0x3F) (line_of_strips 0x3F 0x3F) ≡ 2 ^ w - 1
full_line w width =
    elim width [
      | inl six ↦ ap (λ v. cond (v == 6) (strip_of 0x3F) (line_of_strips 0x3F 0x3F)) six ∙ strip_full
          ∙ ap (λ v. 2 ^ v - 1) (sym six)
      | inr twelve ↦ ap (λ v. cond (v == 6) (strip_of 0x3F) (line_of_strips 0x3F 0x3F)) twelve ∙ joined_full
          ∙ ap (λ v. 2 ^ v - 1) (sym twelve)
    ]

pub skipped_shown : (f : Form) (begun : Bool) (plane len strips : ℕ) (ss more : List ℕ) (l : Loading) (n : ℕ)
    → shown f begun plane ss ≡ l → l.half ≡ None → len ≡ length ss → strips ≡ strips_in f.w n
    → more ≡ ss ++ replicate (len + strips - length ss) 0 → shown f begun plane more ≡ loading_with l (whole (replicate n 0))
skipped_shown f begun plane len strips ss more l n view none el es em =
    let many : len + strips - length ss ≡ strips_in f.w n = omega (arith, el, es) in
    same_shown f begun plane ss more l n 0 0 view none (em ∙ ap (λ k. ss ++ replicate k 0) many) (zero_line (f.w == 6))

pub filled_shown : (f : Form) (begun : Bool) (plane stop strips : ℕ) (ss more : List ℕ) (l : Loading) (n : ℕ)
    → IsKeptDrawing f begun plane stop ss → shown f begun plane ss ≡ l → l.half ≡ None → strips ≡ strips_in f.w n
    → more ≡ ss ++ replicate strips 0x3F → shown f begun plane more ≡ loading_with l (whole (replicate n (2 ^ l.form.w - 1)))
filled_shown f begun plane stop strips ss more l n k view none es em =
    same_shown f begun plane ss more l n 0x3F (2 ^ f.w - 1) view none (em ∙ ap (λ k. ss ++ replicate k 0x3F) es)
    (full_line f.w (form_width f k.form))
    ∙ ap (λ (w : ℕ). loading_with l (whole (replicate n (2 ^ w - 1)))) (ap (λ (l : Loading). l.form.w) view)

-- the line before, again
pub repeated_six : (f : Form) (begun : Bool) (plane : ℕ) (ss more : List ℕ) (l : Loading) (n x y line : ℕ)
    → shown f begun plane ss ≡ l → l.half ≡ None → f.w ≡ 6 → more ≡ ss ++ replicate n y
    → strip_line l.form.w x y ≡ line → shown f begun plane more ≡ loading_with l (whole (replicate n line))
repeated_six f begun plane ss more l n x y line view none six em el =
    let narrow : (f.w == 6) ≡ true = eq-eqb f.w 6 six in
    let strips : n ≡ strips_in f.w n = sym (cond-true (f.w == 6) n (2 * n) narrow) in
    let alone : cond (f.w == 6) (strip_of y) (line_of_strips y y) ≡ strip_line f.w x y =
    ap (λ (b : Bool). cond b (strip_of y) (line_of_strips y y)) narrow
    ∙ sym (ap (λ (b : Bool). cond b (strip_of y) (line_of_strips x y)) narrow) in
    same_shown f begun plane ss more l n y line view none (em ∙ ap (λ k. ss ++ replicate k y) strips)
    (alone ∙ ap (λ (l : Loading). strip_line l.form.w x y) view ∙ el)

pub repeated_pairs : (f : Form) (begun : Bool) (plane : ℕ) (ss more : List ℕ) (l : Loading) (n x y line : ℕ)
    → shown f begun plane ss ≡ l → l.half ≡ None → (f.w ≡ 6 → ⊥) → more ≡ ss ++ pairs n x y
    → strip_line l.form.w x y ≡ line → shown f begun plane more ≡ loading_with l (whole (replicate n line))
repeated_pairs f begun plane ss more l n x y line view none ne em el =
    let both = pairs_b (f.w == 6) ss n x y (no_half f begun plane ss l view none) (not_six f.w ne) in
    ap (shown f begun plane) em
    ∙ shown_is f begun plane (ss ++ pairs n x y) (whole_lines f.w ss ++ replicate n line) None
    (both.0 ∙ ap (λ (z : ℕ). whole_lines f.w ss ++ replicate n z) (ap (λ (l : Loading). strip_line l.form.w x y) view
    ∙ el)) both.1
    ∙ ap (λ (l : Loading). loading_with l (whole (replicate n line))) view

-- ---- room for them

fit_b : (b : Bool) (n m len count : ℕ) → strips_b b len + 0 ≡ count → count ≤ strips_b b m → n ≤ m - len
    → count + strips_b b n ≤ strips_b b m
fit_b true n m len count e h k = omega arith
fit_b false n m len count e h k = omega arith

pub lines_fit_in : (f : Form) (begun : Bool) (plane stop : ℕ) (ss : List ℕ) (l : Loading) (n : ℕ)
    → IsKeptDrawing f begun plane stop ss → shown f begun plane ss ≡ l → l.half ≡ None → n ≤ room l
    → length ss + strips_in f.w n ≤ plane_end f plane
lines_fit_in f begun plane stop ss l n k view none h =
    let counted : strips_b (f.w == 6) (length (whole_lines f.w ss)) + 0 ≡ length ss =
    ap (λ n. strips_b (f.w == 6) (length (whole_lines f.w ss)) + n)
    (sym (none_half _ (no_half f begun plane ss l view none))) ∙ count_is f.w ss in
    let left : n ≤ room (shown f begun plane ss) = subst (λ (l : Loading). n ≤ room l) (sym view) h in
    fit_b (f.w == 6) n (plane * f.h + f.h) (length (whole_lines f.w ss)) (length ss) counted k.room left

pub pairs_fit_in : (f : Form) (begun : Bool) (plane stop : ℕ) (ss : List ℕ) (l : Loading) (n : ℕ)
    → IsKeptDrawing f begun plane stop ss → shown f begun plane ss ≡ l → l.half ≡ None → n ≤ room l → (f.w ≡ 6 → ⊥)
    → length ss + 2 * n ≤ 96
pairs_fit_in f begun plane stop ss l n k view none h ne =
    let strips : strips_in f.w n ≡ 2 * n = cond-false (f.w == 6) n (2 * n) (not_six f.w ne) in
    omega (arith, lines_fit_in f begun plane stop ss l n k view none h, end_most f begun plane stop ss k)

pub kept_lines : (f : Form) (begun : Bool) (plane stop : ℕ) (ss more : List ℕ) (l : Loading) (n : ℕ)
    → IsKeptDrawing f begun plane stop ss → shown f begun plane ss ≡ l → l.half ≡ None → n ≤ room l
    → length more ≡ length ss + strips_in f.w n → IsKeptDrawing f begun plane stop more
kept_lines f begun plane stop ss more l n k view none h long =
    kept_more f begun plane stop ss more k (omega arith)
    (omega (arith, lines_fit_in f begun plane stop ss l n k view none h))

-- how many strips they are
pub long_pairs : (f : Form) (ss more : List ℕ) (n x y : ℕ) → (f.w ≡ 6 → ⊥) → more ≡ ss ++ pairs n x y
    → length more ≡ length ss + strips_in f.w n
long_pairs f ss more n x y ne em =
    let strips : strips_in f.w n ≡ 2 * n = cond-false (f.w == 6) n (2 * n) (not_six f.w ne) in
    omega (arith, ap length em, length-append ss (pairs n x y), length-pairs n x y)

pub long_same : (f : Form) (ss more : List ℕ) (n strips y : ℕ) → strips ≡ strips_in f.w n
    → more ≡ ss ++ replicate strips y → length more ≡ length ss + strips_in f.w n
long_same f ss more n strips y es em =
    omega (arith, ap length em, length-append ss (replicate strips y), length-replicate strips y)

pub long_skipped : (ss more : List ℕ) (w n len strips : ℕ) → len ≡ length ss → strips ≡ strips_in w n
    → more ≡ ss ++ replicate (len + strips - length ss) 0 → length more ≡ length ss + strips_in w n
long_skipped ss more w n len strips el es em =
    omega (
      arith,
      ap length em,
      length-append ss (replicate (len + strips - length ss) 0),
      length-replicate {A = ℕ} (len + strips - length ss) 0,
    )

-- ---- a plane opened

strips_rise : (b : Bool) (m n : ℕ) → strips_b b m ≤ strips_b b (m + n)
strips_rise true m n = omega arith
strips_rise false m n = omega arith

zeros_b : (b : Bool) (ss : List ℕ) (m first : ℕ) → half_b b ss ≡ None → first ≡ strips_b b m
    → first - length ss ≡ strips_b b (m - length (lines_b b ss))
zeros_b true ss m first w e = omega (arith, count_b true ss)
zeros_b false ss m first w e = omega (arith, count_b false ss, none_half (left_over ss) w)

fits_b : (b : Bool) (ss : List ℕ) (m : ℕ) → half_b b ss ≡ None → length (lines_b b ss) ≤ m → length ss ≤ strips_b b m
fits_b true ss m w h = omega (arith, count_b true ss)
fits_b false ss m w h = omega (arith, count_b false ss, none_half (left_over ss) w)

pub opened_fits : (f : Form) (begun : Bool) (plane : ℕ) (ss : List ℕ) (l done : Loading) (p first : ℕ)
    → shown f begun plane ss ≡ done → done ≡ completed_loading l → length (all_lines l) ≤ p * l.form.h
    → first ≡ strips_in f.w (p * f.h) → length ss ≤ first
opened_fits f begun plane ss l done p first view full h e =
    let all : shown f begun plane ss ≡ completed_loading l = view ∙ full in
    let none : half_of f.w ss ≡ None = ap (λ (l : Loading). l.half) all in
    let lines : length (whole_lines f.w ss) ≡ length (all_lines l) = ap (λ (l : Loading). length l.lines) all in
    let high : p * l.form.h ≡ p * f.h = ap (λ (l : Loading). p * l.form.h) (sym all) in
    omega (arith, fits_b (f.w == 6) ss (p * f.h) none (omega arith))

pub opened_shown : (f : Form) (begun : Bool) (plane : ℕ) (ss more : List ℕ) (l done : Loading) (p first : ℕ)
    → shown f begun plane ss ≡ done → done ≡ completed_loading l → first ≡ strips_in f.w (p * f.h)
    → more ≡ ss ++ replicate (first - length ss) 0 → shown f begun p more ≡ loading_at_plane l p
opened_shown f begun plane ss more l done p first view full e em =
    let all : shown f begun plane ss ≡ completed_loading l = view ∙ full in
    let none : half_of f.w ss ≡ None = ap (λ (l : Loading). l.half) all in
    let n : ℕ = p * f.h - length (whole_lines f.w ss) in
    let many : first - length ss ≡ strips_in f.w n = zeros_b (f.w == 6) ss (p * f.h) first none e in
    same_shown f begun p ss more (shown f begun p ss) n 0 0 refl none (em ∙ ap (λ k. ss ++ replicate k 0) many)
    (zero_line (f.w == 6))
    ∙ ap (λ (m : Loading). loading m.form m.begun p (m.lines ++ replicate (p * m.form.h - length m.lines) 0) None) all

pub opened_kept : (f : Form) (begun : Bool) (plane stop : ℕ) (ss more : List ℕ) (l done : Loading) (p first last : ℕ)
    → IsKeptDrawing f begun plane stop ss → shown f begun plane ss ≡ done → done ≡ completed_loading l → l.begun ≡ true
    → length (all_lines l) ≤ p * l.form.h → p < l.form.planes → first ≡ strips_in f.w (p * f.h)
    → last ≡ plane_end f p → more ≡ ss ++ replicate (first - length ss) 0 → IsKeptDrawing f begun p last more
opened_kept f begun plane stop ss more l done p first last k view full b h below e el em =
    let long : length more ≡ length ss + (first - length ss) =
    ap length em ∙ length-append ss (replicate (first - length ss) 0)
    ∙ ap (λ n. length ss + n) (length-replicate (first - length ss) 0) in
    let fits : length ss ≤ first = opened_fits f begun plane ss l done p first view full h e in
    let more_lines : strips_in f.w (p * f.h) ≤ plane_end f p = strips_rise (f.w == 6) (p * f.h) f.h in
    let open_now : begun ≡ true = ap (λ (l : Loading). l.begun) (view ∙ full) ∙ b in
    record {
      form = k.form;
      open_plane = subst (λ (m : Loading). p < m.form.planes) (sym (view ∙ full)) below;
      earlier = omega arith;
      room = omega arith;
      stop_is = el ∙ sym (ap (λ (c : Bool). cond c (plane_end f p) 0) open_now);
    }

-- ---- the line before

last_b : (b : Bool) (ss : List ℕ) (n count : ℕ) → half_b b ss ≡ None → count ≡ length ss
    → length (lines_b b ss) ≡ n + 1
    → get_or (lines_b b ss) n 0 ≡ cond b (strip_of (get_or ss (count - 1) 0))
    (line_of_strips (get_or ss (count - 2) 0) (get_or ss (count - 1) 0))
last_b true ss n count w e h =
    let last : count - 1 ≡ n = omega (arith, count_b true ss) in
    get_or-map strip_of ss n 0 0 (omega (arith, count_b true ss)) ∙ ap (λ k. strip_of (get_or ss k 0)) (sym last)
last_b false ss n count w e h =
    let left : 2 * n ≡ count - 2 = omega (arith, count_b false ss, none_half (left_over ss) w) in
    let right : 2 * n + 1 ≡ count - 1 = omega (arith, count_b false ss, none_half (left_over ss) w) in
    in_pairs-at ss n (omega arith) ∙ ap (λ k. line_of_strips (get_or ss k 0) (get_or ss (2 * n + 1) 0)) left
    ∙ ap (λ k. line_of_strips (get_or ss (count - 2) 0) (get_or ss k 0)) right

-- as many strips as so many lines have are so many lines
start_b : (b : Bool) (ss : List ℕ) (m : ℕ) → half_b b ss ≡ None → length ss ≡ strips_b b m
    → length (lines_b b ss) ≡ m
start_b true ss m w e = omega (arith, count_b true ss)
start_b false ss m w e = omega (arith, count_b false ss, none_half (left_over ss) w)

past_b : (b : Bool) (ss : List ℕ) (m : ℕ) → half_b b ss ≡ None → strips_b b m ≤ length ss
    → (length ss ≡ strips_b b m → ⊥) → m < length (lines_b b ss)
past_b true ss m w h ne = omega (arith, count_b true ss)
past_b false ss m w h ne = omega (arith, count_b false ss, none_half (left_over ss) w)

-- the last of the lines from this one on, and where there is none
last_from : (ls : List ℕ) (m n : ℕ) → length ls ≡ n + 1 → m ≤ n → last_line (drop m ls) ≡ get_or ls n 0
last_from ls m n e h =
    let last : m + (length (drop m ls) - 1) ≡ n = omega (arith, length-drop m ls) in
    get_or-drop m ls (length (drop m ls) - 1) 0 ∙ ap (λ k. get_or ls k 0) last

no_last : (ls : List ℕ) (m : ℕ) → length ls ≡ m → last_line (drop m ls) ≡ 0
no_last ls m e = ap last_line (drop_all m ls (omega arith))

pub nothing_before : (f : Form) (begun : Bool) (plane stop count first : ℕ) (ss : List ℕ) (l : Loading)
    → shown f begun plane ss ≡ l → l.half ≡ None → count ≡ length ss → first ≡ strips_in f.w (plane * f.h)
    → count ≡ first → strip_line l.form.w 0 0 ≡ before l
nothing_before f begun plane stop count first ss l view none e ef same =
    let half = no_half f begun plane ss l view none in
    let lines : length (whole_lines f.w ss) ≡ plane * f.h =
    start_b (f.w == 6) ss (plane * f.h) half (sym e ∙ same ∙ ef) in
    ap (λ (l : Loading). strip_line l.form.w 0 0) (sym view) ∙ zero_line (f.w == 6)
    ∙ sym (no_last (whole_lines f.w ss) (plane * f.h) lines) ∙ ap before view

pub line_before : (f : Form) (begun : Bool) (plane stop count first left x y : ℕ) (ss : List ℕ) (l : Loading)
    → IsKeptDrawing f begun plane stop ss → shown f begun plane ss ≡ l → l.half ≡ None → count ≡ length ss
    → first ≡ strips_in f.w (plane * f.h) → (count ≡ first → ⊥) → left ≡ count - 2 → x ≡ get_or ss left 0
    → y ≡ get_or ss (count - 1) 0 → strip_line l.form.w x y ≡ before l
line_before f begun plane stop count first left x y ss l k view none e ef apart eleft ex ey =
    let half = no_half f begun plane ss l view none in
    let n : ℕ = length (whole_lines f.w ss) - 1 in
    let more : plane * f.h < length (whole_lines f.w ss) =
    past_b (f.w == 6) ss (plane * f.h) half k.earlier (λ same. apart (e ∙ same ∙ sym ef)) in
    let long : length (whole_lines f.w ss) ≡ n + 1 = omega arith in
    ap (λ (l : Loading). strip_line l.form.w x y) (sym view)
    ∙ ap (λ (z : ℕ). strip_line f.w z y) (ex ∙ ap (λ k. get_or ss k 0) eleft)
    ∙ ap (λ (z : ℕ). strip_line f.w (get_or ss (count - 2) 0) z) ey
    ∙ sym (last_from (whole_lines f.w ss) (plane * f.h) n long (omega arith)
    ∙ last_b (f.w == 6) ss n count half e long) ∙ ap before view

-- ---- a plane after the open one

behind_b : (b : Bool) (ss : List ℕ) (m : ℕ) → strips_b b m ≤ length ss → m ≤ length (lines_b b ss)
behind_b true ss m h = omega (arith, count_b true ss)
behind_b false ss m h = omega (arith, count_b false ss, halves_b false (left_over ss))

pub earlier_lines : (f : Form) (begun : Bool) (plane stop : ℕ) (ss : List ℕ) (l : Loading)
    → IsKeptDrawing f begun plane stop ss → shown f begun plane ss ≡ l → above l ≤ length l.lines
earlier_lines f begun plane stop ss l k view =
    subst (λ (l : Loading). above l ≤ length l.lines) view (behind_b (f.w == 6) ss (plane * f.h) k.earlier)

within_b : (b : Bool) (ss : List ℕ) (m : ℕ) → length ss ≤ strips_b b m
    → length (lines_b b ss) + halves (half_b b ss) ≤ m
within_b true ss m h = omega (arith, count_b true ss)
within_b false ss m h = omega (arith, count_b false ss, halves_b false (left_over ss))

pub later_plane : (f : Form) (begun : Bool) (plane stop : ℕ) (ss : List ℕ) (l : Loading) (q : ℕ)
    → IsKeptDrawing f begun plane stop ss → shown f begun plane ss ≡ l → l.plane < q → length (all_lines l) ≤ q * l.form.h
later_plane f begun plane stop ss l q k view h =
    let far : plane < q = subst (λ (l : Loading). l.plane < q) (sym view) h in
    let most : length (whole_lines f.w ss) + halves (half_of f.w ss) ≤ plane * f.h + f.h =
    within_b (f.w == 6) ss (plane * f.h + f.h) k.room in
    let long : length (all_lines (shown f begun plane ss)) ≤ q * f.h =
    omega (arith, length-closed_lines (whole_lines f.w ss) (half_of f.w ss), next_plane plane q f.h far) in
    subst (λ (l : Loading). length (all_lines l) ≤ q * l.form.h) view long
