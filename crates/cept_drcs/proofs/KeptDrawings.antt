-- What a drawing keeps of its bytes, as a pattern on its way.
use Rattle.std.proofs.Common.{◌≡◌, ◌⊎◌, ℕ, ◌+◌, ◌-◌, ◌*◌, ◌%◌, ◌/◌, ◌<◌, ◌≤◌, ◌==◌, nat_lt}
use Rattle.std.proofs.Common.{cond, Bool, true, false, ◌&&◌}
use Rattle.std.proofs.Common.{List, [], ◌∷◌, ◌++◌, length, map, replicate, refl, sym, ap}
use Rattle.std.proofs.Common.{◌∙◌, arith, rules}
use Rattle.std.proofs.Common.{Option, None, Some}
use Rattle.cept_codes.specs.declared.command.Form.{Form}
use Rattle.cept_codes.specs.declared.look.Pattern.{Pattern}
use Rattle.cept_codes.specs.Command.{IsValidForm}
use Rattle.std.specs.Option.{option_to_list}
use Rattle.std.proofs.lemmas.Bool.{ne_eqb, cond-false, ltb-true, lt-ltb}
use Rattle.std.proofs.lemmas.Bool.Decides.{nat_tests}
use Rattle.std.proofs.lemmas.List.{length-map, length_push}
use Rattle.cept_drcs.specs.Loading.{Loading, all_lines, room, takes, fresh, loading_with, before}
use Rattle.cept_drcs.specs.inside.Loading.{completed_loading}
use Rattle.cept_drcs.specs.Unit.{lines_from}
use Rattle.cept_drcs.specs.Loading.{pattern_of}
use Rattle.cept_drcs.specs.Strips.{words}
use Rattle.cept_drcs.specs.Strips.{strip_of, in_pairs, left_over, whole_lines}
use Rattle.cept_drcs.specs.Strips.{half_of, strips_in, number_of}
use Rattle.cept_drcs.specs.Kept.{IsKeptDrawing, plane_end}
use Rattle.cept_drcs.specs.Block.{BlockPart, has_pixels}
use Rattle.cept_drcs.specs.Adding.{is_sign, adds, whole}
use Rattle.cept_drcs.specs.Cut.{is_opener}
use Rattle.cept_drcs.proofs.StripLemmas.{pairs_length, in_pairs-completed, left_over-completed}
use Rattle.cept_drcs.proofs.StripLemmas.{drawn_strip, adds_pixels, lines_pushed, half_pushed}
use Rattle.cept_drcs.proofs.BlockLemmas.{halves}
use Rattle.cept_drcs.proofs.StripNumbers.{number_is}
use Rattle.cept_drcs.proofs.Takes.{takes_first, takes_opener, takes_sign}

-- a pattern on its way
abbrev pub loading : Form → Bool → ℕ → List ℕ → Option ℕ → Loading
loading f begun plane ls half = record { form = f; begun = begun; plane = plane; lines = ls; half = half }

-- the lines of strips, and the half line, where a line is one strip or is two
abbrev pub lines_b : Bool → List ℕ → List ℕ
lines_b b ss = cond b (map strip_of ss) (in_pairs ss)

abbrev pub half_b : Bool → List ℕ → Option ℕ
half_b b ss = cond b None (left_over ss)

-- so many lines, in strips
abbrev pub strips_b : Bool → ℕ → ℕ
strips_b b n = cond b n (2 * n)

-- what the fields show
abbrev pub shown : Form → Bool → ℕ → List ℕ → Loading
shown f begun plane ss = loading f begun plane (whole_lines f.w ss) (half_of f.w ss)

-- ---- forms

pub form_width : (f : Form) → IsValidForm f → (f.w ≡ 6) ⊎ (f.w ≡ 12)
form_width f v = search rules

pub lines_fit : (f : Form) (p : ℕ) → IsValidForm f → p < f.planes → p * f.h + f.h ≤ 48
lines_fit f p v h = search rules

pub strips_most : (w n : ℕ) → strips_in w n ≤ 2 * n
strips_most w n = search rules

pub kept_few : (f : Form) (begun : Bool) (plane stop : ℕ) (ss : List ℕ) → IsKeptDrawing f begun plane stop ss
    → length ss ≤ 96
kept_few f begun plane stop ss k =
    omega (arith, k.room, strips_most f.w (plane * f.h + f.h), lines_fit f plane k.form k.open_plane)

-- ---- lines and strips

-- as many strips as lines, or twice as many, and one that is left over
pub count_b : (b : Bool) (ss : List ℕ) → strips_b b (length (lines_b b ss)) + halves (half_b b ss) ≡ length ss
count_b true ss = omega (arith, length-map ss strip_of)
count_b false ss = pairs_length ss

pub count_is : (w : ℕ) (ss : List ℕ)
    → strips_in w (length (whole_lines w ss)) + halves (half_of w ss) ≡ length ss
count_is w ss = count_b (w == 6) ss

pub halves_b : (b : Bool) (half : Option ℕ) → halves (cond b None half) ≤ cond b 0 1
halves_b true half = omega arith
halves_b false None = omega arith
halves_b false (Some l) = omega arith

pub halves_few : (w : ℕ) (ss : List ℕ) → halves (half_of w ss) ≤ cond (w == 6) 0 1
halves_few w ss = halves_b (w == 6) (left_over ss)

room_b : (b : Bool) (n m half count : ℕ) → strips_b b n + half ≡ count → half ≤ cond b 0 1
    → nat_lt count (strips_b b m) ≡ nat_lt 0 (m - n)
room_b true n m half count e h = grind (arith, nat_tests)
room_b false n m half count e h = grind (arith, nat_tests)

pub room_left : (f : Form) (begun : Bool) (plane : ℕ) (ss : List ℕ)
    → nat_lt (length ss) (plane_end f plane) ≡ nat_lt 0 (room (shown f begun plane ss))
room_left f begun plane ss =
    room_b (f.w == 6) (length (whole_lines f.w ss)) (plane * f.h + f.h) (halves (half_of f.w ss)) (length ss)
    (count_is f.w ss) (halves_few f.w ss)

begun_b : (b : Bool) (n count stop : ℕ) (more : Bool) → stop ≡ cond b n 0 → nat_lt count n ≡ more
    → nat_lt count stop ≡ (b && more)
begun_b true n count stop more e h = ap (nat_lt count) e ∙ h
begun_b false n count stop more e h = ap (nat_lt count) e ∙ grind (arith, nat_tests)

pub has_room : (f : Form) (begun : Bool) (plane stop count : ℕ) (ss : List ℕ) (l : Loading)
    → IsKeptDrawing f begun plane stop ss → shown f begun plane ss ≡ l → count ≡ length ss
    → nat_lt count stop ≡ (l.begun && nat_lt 0 (room l))
has_room f begun plane stop count ss l k view e =
    begun_b begun (plane_end f plane) count stop (nat_lt 0 (room (shown f begun plane ss))) k.stop_is
    (ap (λ n. nat_lt n (plane_end f plane)) e ∙ room_left f begun plane ss)
    ∙ ap (λ (l : Loading). l.begun && nat_lt 0 (room l)) view

-- ---- bytes that continue the pattern

pub first_taken : (f : Form) (begun : Bool) (plane : ℕ) (ss : List ℕ) (l : Loading) (a : ℕ)
    → shown f begun plane ss ≡ l → begun ≡ false → (a == 0x30) ≡ takes l a
first_taken f begun plane ss l a view b =
    sym (takes_first (shown f begun plane ss) a b) ∙ ap (λ (l : Loading). takes l a) view

pub opener_taken : (f : Form) (begun : Bool) (plane : ℕ) (ss : List ℕ) (l : Loading) (a : ℕ)
    → shown f begun plane ss ≡ l → begun ≡ true → is_opener a ≡ true → plane < a - 0x30
    → nat_lt (a - 0x30) f.planes ≡ takes l a
opener_taken f begun plane ss l a view b t h =
    let later : nat_lt plane (a - 0x30) ≡ true = grind (arith, nat_tests) in
    sym (takes_opener (shown f begun plane ss) a b t ∙ ap (λ (c : Bool). c && nat_lt (a - 0x30) f.planes) later)
    ∙ ap (λ (l : Loading). takes l a) view

pub opener_refused : (f : Form) (begun : Bool) (plane : ℕ) (ss : List ℕ) (l : Loading) (a : ℕ)
    → shown f begun plane ss ≡ l → begun ≡ true → is_opener a ≡ true → a - 0x30 ≤ plane
    → nat_lt plane (a - 0x30) ≡ takes l a
opener_refused f begun plane ss l a view b t h =
    let earlier : nat_lt plane (a - 0x30) ≡ false = grind (arith, nat_tests) in
    earlier
    ∙ sym (takes_opener (shown f begun plane ss) a b t ∙ ap (λ (c : Bool). c && nat_lt (a - 0x30) f.planes) earlier)
    ∙ ap (λ (l : Loading). takes l a) view

pub sign_taken : (l : Loading) (a : ℕ) (more : Bool) → l.begun ≡ true → is_opener a ≡ false → has_pixels a ≡ false
    → is_sign a ≡ true → more ≡ (l.begun && nat_lt 0 (room l)) → more ≡ takes l a
sign_taken l a more b t p s e =
    e ∙ ap (λ (c : Bool). c && nat_lt 0 (room l)) (b ∙ sym s) ∙ sym (takes_sign l a b t p)

pub sign_refused : (l : Loading) (a : ℕ) → l.begun ≡ true → is_opener a ≡ false → has_pixels a ≡ false
    → is_sign a ≡ false → is_sign a ≡ takes l a
sign_refused l a b t p s =
    s ∙ sym (takes_sign l a b t p ∙ ap (λ (c : Bool). c && nat_lt 0 (room l)) s)

-- ---- nothing drawn

none_b : (b : Bool) → (lines_b b [] ≡ []) × (half_b b [] ≡ None)
unfolding in_pairs left_over
none_b true = (refl, refl)
none_b false = (refl, refl)

pub fresh_shown : (f : Form) (ss : List ℕ) → ss ≡ [] → shown f false 0 ss ≡ fresh f
fresh_shown f ss e =
    ap (shown f false 0) e ∙ ap (λ (ls : List ℕ). loading f false 0 ls (half_of f.w [])) (none_b (f.w == 6)).0
    ∙ ap (λ (half : Option ℕ). loading f false 0 [] half) (none_b (f.w == 6)).1

-- ---- lines left

pub none_half : (half : Option ℕ) → half ≡ None → halves half ≡ 0
none_half half e = ap halves e

left_b : (b : Bool) (n m count : ℕ) → strips_b b n + 0 ≡ count
    → cond b (strips_b b m - count) ((strips_b b m - count) / 2) ≡ m - n
left_b true n m count e = omega arith
left_b false n m count e = omega arith

pub room_is : (f : Form) (begun : Bool) (plane stop count : ℕ) (ss : List ℕ) (l : Loading)
    → IsKeptDrawing f begun plane stop ss → shown f begun plane ss ≡ l → l.begun ≡ true → l.half ≡ None → count ≡ length ss
    → cond (f.w == 6) (stop - count) ((stop - count) / 2) ≡ room l
room_is f begun plane stop count ss l k view b whole e =
    let open_now : begun ≡ true = ap (λ (l : Loading). l.begun) view ∙ b in
    let none : half_of f.w ss ≡ None = ap (λ (l : Loading). l.half) view ∙ whole in
    let until : stop ≡ strips_b (f.w == 6) (plane * f.h + f.h) =
    k.stop_is ∙ ap (λ (c : Bool). cond c (plane_end f plane) 0) open_now in
    let counted : strips_b (f.w == 6) (length (whole_lines f.w ss)) + 0 ≡ count =
    ap (λ n. strips_b (f.w == 6) (length (whole_lines f.w ss)) + n) (sym (none_half _ none))
    ∙ count_is f.w ss ∙ sym e in
    ap (λ n. cond (f.w == 6) (n - count) ((n - count) / 2)) until
    ∙ left_b (f.w == 6) (length (whole_lines f.w ss)) (plane * f.h + f.h) count counted
    ∙ ap (λ (l : Loading). room l) view

-- a width that isn't six
pub not_six : (w : ℕ) → (w ≡ 6 → ⊥) → (w == 6) ≡ false
not_six w h = ne_eqb w 6 h

pub room_in_pairs : (f : Form) (begun : Bool) (plane stop count : ℕ) (ss : List ℕ) (l : Loading)
    → IsKeptDrawing f begun plane stop ss → shown f begun plane ss ≡ l → l.begun ≡ true → l.half ≡ None → count ≡ length ss
    → (f.w ≡ 6 → ⊥) → (stop - count) / 2 ≡ room l
room_in_pairs f begun plane stop count ss l k view b whole e h =
    sym (cond-false (f.w == 6) (stop - count) ((stop - count) / 2) (not_six f.w h))
    ∙ room_is f begun plane stop count ss l k view b whole e

-- ---- a half line completed

-- the same fields, of other strips
pub shown_is : (f : Form) (begun : Bool) (plane : ℕ) (ss ls : List ℕ) (half : Option ℕ)
    → whole_lines f.w ss ≡ ls → half_of f.w ss ≡ half → shown f begun plane ss ≡ loading f begun plane ls half
shown_is f begun plane ss ls half el eh =
    ap (λ (ls : List ℕ). loading f begun plane ls (half_of f.w ss)) el
    ∙ ap (λ (half : Option ℕ). loading f begun plane ls half) eh

pub completed_shown : (f : Form) (begun : Bool) (plane count : ℕ) (ss more : List ℕ) (l : Loading)
    → shown f begun plane ss ≡ l → count ≡ length ss → (f.w ≡ 6 → ⊥)
    → more ≡ ss ++ replicate (count + count % 2 - length ss) 0 → shown f begun plane more ≡ completed_loading l
completed_shown f begun plane count ss more l view e h em =
    let wide : (f.w == 6) ≡ false = not_six f.w h in
    let odd : count + count % 2 - length ss ≡ length ss % 2 = omega arith in
    let same : more ≡ ss ++ replicate (length ss % 2) 0 = em ∙ ap (λ n. ss ++ replicate n 0) odd in
    let lines : whole_lines f.w more ≡ whole_lines f.w ss ++ option_to_list (half_of f.w ss) =
    ap (λ (b : Bool). lines_b b more) wide ∙ ap in_pairs same ∙ in_pairs-completed ss
    ∙ ap (λ (b : Bool). lines_b b ss ++ option_to_list (half_b b ss)) (sym wide) in
    let half : half_of f.w more ≡ None =
    ap (λ (b : Bool). half_b b more) wide ∙ ap left_over same ∙ left_over-completed ss in
    shown_is f begun plane more (whole_lines f.w ss ++ option_to_list (half_of f.w ss)) None lines half
    ∙ ap completed_loading view

-- ---- six pixels drawn

pub pixels_shown : (f : Form) (begun : Bool) (plane : ℕ) (ss more : List ℕ) (l : Loading) (a : ℕ)
    → shown f begun plane ss ≡ l → has_pixels a ≡ true → more ≡ ss ++ a ∷ []
    → shown f begun plane more ≡ loading_with l (adds l.form.w (room l) (before l) l.half a)
pixels_shown f begun plane ss more l a view t em =
    let d : BlockPart = drawn_strip (f.w == 6) (half_of f.w ss) (strip_of a) in
    ap (shown f begun plane) em
    ∙ shown_is f begun plane (ss ++ a ∷ []) (whole_lines f.w ss ++ d.lines) d.half
    (lines_pushed (f.w == 6) ss a) (half_pushed (f.w == 6) ss a)
    ∙ ap (λ (d : BlockPart). loading_with (shown f begun plane ss) d)
    (sym (adds_pixels f.w (room (shown f begun plane ss)) (before (shown f begun plane ss)) (half_of f.w ss) a t))
    ∙ ap (λ (l : Loading). loading_with l (adds l.form.w (room l) (before l) l.half a)) view

pub pixels_fit : (f : Form) (begun : Bool) (plane : ℕ) (ss : List ℕ) (l : Loading)
    → shown f begun plane ss ≡ l → 0 < room l → length ss < plane_end f plane
pixels_fit f begun plane ss l view h =
    ltb-true (length ss) (plane_end f plane) (room_left f begun plane ss
    ∙ ap (λ (l : Loading). nat_lt 0 (room l)) view ∙ lt-ltb 0 (room l) h)

pub end_most : (f : Form) (begun : Bool) (plane stop : ℕ) (ss : List ℕ) → IsKeptDrawing f begun plane stop ss
    → plane_end f plane ≤ 96
end_most f begun plane stop ss k =
    omega (arith, strips_most f.w (plane * f.h + f.h), lines_fit f plane k.form k.open_plane)

-- more strips in the same plane
pub kept_more : (f : Form) (begun : Bool) (plane stop : ℕ) (ss more : List ℕ) → IsKeptDrawing f begun plane stop ss
    → length ss ≤ length more → length more ≤ plane_end f plane → IsKeptDrawing f begun plane stop more
kept_more f begun plane stop ss more k low high = record {
  form = k.form;
  open_plane = k.open_plane;
  earlier = omega (arith, k.earlier, low);
  room = high;
  stop_is = k.stop_is;
}

pub kept_pixels : (f : Form) (begun : Bool) (plane stop : ℕ) (ss more : List ℕ) (l : Loading) (a : ℕ)
    → IsKeptDrawing f begun plane stop ss → shown f begun plane ss ≡ l → 0 < room l → more ≡ ss ++ a ∷ []
    → IsKeptDrawing f begun plane stop more
kept_pixels f begun plane stop ss more l a k view h em =
    let long : length more ≡ length ss + 1 = ap length em ∙ length_push ss a in
    kept_more f begun plane stop ss more k (omega arith) (omega (arith, pixels_fit f begun plane ss l view h))

-- ---- the pattern

pub drawn_pattern : (f : Form) (begun : Bool) (plane stop : ℕ) (ss bits : List ℕ) (l : Loading)
    → IsKeptDrawing f begun plane stop ss → shown f begun plane ss ≡ l → bits ≡ words 9 (number_of 96 0 ss)
    → (let p : Pattern = record { w = f.w; h = f.h; planes = f.planes; bits = bits } in p)
    ≡ pattern_of l.form (lines_from l.form.w 0 (all_lines l))
drawn_pattern f begun plane stop ss bits l k view e =
    let same : bits ≡ words 9 (lines_from f.w 0 (all_lines (shown f begun plane ss))) =
    e ∙ ap (words 9) (sym (number_is f.w 96 ss (form_width f k.form) (kept_few f begun plane stop ss k))) in
    ap (λ (b : List ℕ). let p : Pattern = record { w = f.w; h = f.h; planes = f.planes; bits = b } in p) same
    ∙ ap (λ (l : Loading). pattern_of l.form (lines_from l.form.w 0 (all_lines l))) view
