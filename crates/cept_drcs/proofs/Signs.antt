-- Signs of whole lines: a half line is completed first.
use Rattle.std.proofs.Common.{◌≡◌, ℕ, ◌+◌, ◌-◌, ◌≤◌, true, false, List, [], ◌∷◌, ◌++◌, length, drop}
use Rattle.std.proofs.Common.{get_or, refl, sym, ap}
use Rattle.std.proofs.Common.{◌∙◌, arith, append-nil, Option, None, Some}
use Rattle.std.proofs.lemmas.List.{append_assoc, length_push, length-drop, get_or-drop, get_or_push}
use Rattle.cept_drcs.specs.Block.{has_pixels, sign_lines}
use Rattle.cept_drcs.specs.Adding.{adds, whole, last_line}
use Rattle.cept_drcs.specs.Cut.{is_opener}
use Rattle.cept_drcs.specs.Loading.{Loading, above, room, before, loading_after, loading_with}
use Rattle.cept_drcs.specs.inside.Loading.{completed_loading}
use Rattle.cept_drcs.proofs.KeptDrawings.{loading}

adds_none : (w r b a : ℕ) → has_pixels a ≡ false → adds w r b None a ≡ whole (sign_lines w r b a)
unfolding adds
adds_none w r b a p = simp p

adds_some : (w r b l a : ℕ) → has_pixels a ≡ false → adds w r b (Some l) a ≡ whole (l ∷ sign_lines w (r - 1) l a)
unfolding adds
adds_some w r b l a p = simp p

-- the line before is the one that was completed
last_completed : (ls : List ℕ) (m x : ℕ) → m ≤ length ls → last_line (drop m (ls ++ x ∷ [])) ≡ x
last_completed ls m x h =
    let all : List ℕ = ls ++ x ∷ [] in
    let last : m + (length (drop m all) - 1) ≡ length ls = omega (arith, length-drop m all, length_push ls x) in
    get_or-drop m all (length (drop m all) - 1) 0 ∙ ap (λ k. get_or all k 0) last
    ∙ get_or_push ls x 0 (length ls) refl

-- a sign where no half line stands, and where one does
sign_by : (l : Loading) (ls : List ℕ) (half : Option ℕ) (a : ℕ) → has_pixels a ≡ false → above l ≤ length ls
    → (let m : Loading = loading l.form l.begun l.plane ls half in
    loading_with (completed_loading m) (whole (sign_lines m.form.w (room (completed_loading m)) (before (completed_loading m)) a))
    ≡ loading_with m (adds m.form.w (room m) (before m) m.half a))
sign_by l ls None a p h =
    let m : Loading = loading l.form l.begun l.plane ls None in
    ap (λ (x : List ℕ). let n : Loading = loading l.form l.begun l.plane x None in
    loading_with n (whole (sign_lines n.form.w (room n) (before n) a))) (append-nil ls)
    ∙ ap (loading_with m) (sym (adds_none l.form.w (room m) (before m) a p))
sign_by l ls (Some x) a p h =
    let m : Loading = loading l.form l.begun l.plane ls (Some x) in
    let less : room (completed_loading m) ≡ room m - 1 = omega (arith, length_push ls x) in
    let drawn_now : List ℕ = sign_lines l.form.w (room m - 1) x a in
    ap (λ r. loading_with (completed_loading m) (whole (sign_lines l.form.w r (before (completed_loading m)) a))) less
    ∙ ap (λ b. loading_with (completed_loading m) (whole (sign_lines l.form.w (room m - 1) b a))) (last_completed ls (above l) x h)
    ∙ ap (λ (y : List ℕ). loading l.form l.begun l.plane y None) (append_assoc ls (x ∷ []) drawn_now)
    ∙ ap (loading_with m) (sym (adds_some l.form.w (room m) (before m) x a p))

sign_is : (l done new : Loading) (a : ℕ) → has_pixels a ≡ false → above l ≤ length l.lines → done ≡ completed_loading l
    → new ≡ loading_with done (whole (sign_lines done.form.w (room done) (before done) a))
    → new ≡ loading_with l (adds l.form.w (room l) (before l) l.half a)
sign_is l done new a p h ed en =
    en ∙ ap (λ (m : Loading). loading_with m (whole (sign_lines m.form.w (room m) (before m) a))) ed
    ∙ sign_by l l.lines l.half a p h

pub sign_drawn : (l done new : Loading) (a : ℕ) → l.begun ≡ true → is_opener a ≡ false → has_pixels a ≡ false
    → above l ≤ length l.lines → done ≡ completed_loading l
    → new ≡ loading_with done (whole (sign_lines done.form.w (room done) (before done) a)) → new ≡ loading_after l a
unfolding loading_after
sign_drawn l done new a b o p h ed en =
    let drawn_now : loading_after l a ≡ loading_with l (adds l.form.w (room l) (before l) l.half a) = simp (b, o) in
    sign_is l done new a p h ed en ∙ sym drawn_now
