-- What a phase of flashing changes on what was shown.
use Rattle.std.proofs.Common.{◌≡◌, ℕ, ◌+◌, ◌<◌, ◌≤◌, Bool, true, false, not, Option, List, length, set}
use Rattle.std.proofs.Common.{sym, ◌∙◌, ap, subst, arith}
use Rattle.std.proofs.lemmas.List.{get_or_past}
use Rattle.std.proofs.lemmas.List.FromFn.{get_or-map-range_with_len, length-map-range_with_len}
use Rattle.cept_codes.specs.declared.look.Look.{Look}
use Rattle.cept_codes.specs.Look.{blank_look}
use Rattle.cept_codes.specs.Place.{OnScreen, Place, number, place_of}
use Rattle.cept_codes.specs.Same.{same_look}
use Rattle.cept_codes.specs.Table.{value_at}
use Rattle.cept_codes.proofs.Laws.{number-lt, number-place_of, place_of-number, value_at-table}
use Rattle.cept_flash.specs.Phases.{frame, look_at_phase}
use Rattle.cept_profile.specs.Changes.{differences, look_at, marked_looks}
use Rattle.cept_redraw.specs.Marks.{is_marked}
use Rattle.cept_live.specs.declared.notice.Notice.{Notice}
use Rattle.cept_live.specs.Live.{Tells}
use Rattle.cept_live.specs.Notices.{Change, Saying, change_sayings, notice_of}
use Rattle.cept_live.specs.declared.flashing.Before.{Before}
use Rattle.cept_live.specs.declared.flashing.Before.TheVariants as befores
use Rattle.cept_live.specs.Shown.{look_shown, shown_of}
use Rattle.cept_live.specs.inside.Turning.{look_before, looks_before}
use Rattle.cept_live.proofs.SayingsTold.{Tells-more, Tells-none, sayings_below, sayings_below-all, sayings_below-next, sayings_below-none}
use Rattle.cept_live.proofs.SayingsTold.{sayings_below-unmarked}

-- ---- one place

-- the mark of a place where two grids may differ
pub differences-at : (g h : List (List Look)) (p : Place) → OnScreen p.row p.column
    → is_marked (differences g h) (number p.row p.column) ≡ not (same_look (look_at g p) (look_at h p))
unfolding differences
differences-at g h p on =
    get_or-map-range_with_len (λ k. not (same_look (look_at g (place_of k)) (look_at h (place_of k)))) 0 960
    (number p.row p.column) (number p.row p.column) false (number-lt p.row p.column on) (omega arith)
    ∙ ap (λ (q : Place). not (same_look (look_at g q) (look_at h q))) (place_of-number p on)

pub length-differences : (g h : List (List Look)) → length (differences g h) ≡ 960
unfolding differences
length-differences g h =
    length-map-range_with_len (λ k. not (same_look (look_at g (place_of k)) (look_at h (place_of k)))) 0 960

-- the look of a place at a phase
pub look_at-frame : (looks : List (List Look)) (k : ℕ) (p : Place) → OnScreen p.row p.column
    → look_at (frame looks k) p ≡ look_at_phase (look_at looks p) k
unfolding frame
look_at-frame looks k p on =
    value_at-table (λ r c. look_at_phase (value_at blank_look looks r c) k) blank_look p.row p.column on

-- and as it is shown
pub look_at-shown_of : (looks : List (List Look)) (phase : Option ℕ) (renewed : List Bool) (p : Place) → OnScreen p.row p.column
    → look_at (shown_of looks phase renewed) p
    ≡ look_shown phase (is_marked renewed (number p.row p.column)) (look_at looks p)
unfolding shown_of
look_at-shown_of looks phase renewed p on =
    value_at-table (λ r c. look_shown phase (is_marked renewed (number r c)) (value_at blank_look looks r c)) blank_look
    p.row p.column on

-- and as it is shown before a phase begins
pub look_at-before : (before : Before) (looks : List (List Look)) (renewed : List Bool) (p : Place)
    → OnScreen p.row p.column → look_at (looks_before before looks renewed) p
    ≡ look_before before (is_marked renewed (number p.row p.column)) (look_at looks p)
look_at-before befores.Blank looks renewed p on = value_at-table (λ _ _. blank_look) blank_look p.row p.column on
look_at-before (befores.Shown phase) looks renewed p on = look_at-shown_of looks phase renewed p on

-- whether it is shown otherwise at phase k
pub turned-at : (before : Before) (looks : List (List Look)) (renewed : List Bool) (k : ℕ) (p : Place)
    → OnScreen p.row p.column
    → is_marked (differences (looks_before before looks renewed) (frame looks k)) (number p.row p.column)
    ≡ not (same_look (look_before before (is_marked renewed (number p.row p.column)) (look_at looks p))
    (look_at_phase (look_at looks p) k))
turned-at before looks renewed k p on =
    differences-at (looks_before before looks renewed) (frame looks k) p on
    ∙ (λ i. not (same_look (look_at-before before looks renewed p on i) (look_at-frame looks k p on i)))

-- ---- one place after the other

pub turned-none : (list : List Notice) (at : ℕ) (marks : List Bool) (g : List (List Look))
    → Tells list 0 (sayings_below at marks g 0) 0 list
turned-none list at marks g =
    subst (λ (xs : List Saying). Tells list 0 xs 0 list) (sym (sayings_below-none at marks g)) (Tells-none list 0)

-- a place that is marked
pub turned-told : (list now : List Notice) (to at : ℕ) (marks : List Bool) (g : List (List Look)) (n : ℕ) (p : Place)
    → p ≡ place_of n → to < length list → is_marked marks n ≡ true → Tells list 0 (sayings_below at marks g n) to now
    → Tells list 0 (sayings_below at marks g (n + 1)) (to + 1) (set now to (notice_of (Change at p (look_at g p))))
turned-told list now to at marks g n p here room marked so_far =
    let more = Tells-more list now 0 to (sayings_below at marks g n) (Change at (place_of n) (look_at g (place_of n))) room so_far in
    subst (λ (q : Place). Tells list 0 (sayings_below at marks g (n + 1)) (to + 1) (set now to (notice_of (Change at q (look_at g q)))))
    (sym here)
    (subst (λ (xs : List Saying). Tells list 0 xs (to + 1) (set now to (notice_of (Change at (place_of n) (look_at g (place_of n))))))
    (sym (sayings_below-next at marks g n n (omega arith) (λ k least below. absurd (omega (arith, least, below))) marked)) more)

-- one that isn't
pub turned-left : (list now : List Notice) (to at : ℕ) (marks : List Bool) (g : List (List Look)) (n : ℕ)
    → is_marked marks n ≡ false → Tells list 0 (sayings_below at marks g n) to now
    → Tells list 0 (sayings_below at marks g (n + 1)) to now
turned-left list now to at marks g n left so_far =
    subst (λ (xs : List Saying). Tells list 0 xs to now)
    (sym (sayings_below-unmarked at marks g n (n + 1) (omega arith)
    (λ k least below. ap (is_marked marks) (let e : k ≡ n = omega (arith, least, below) in e) ∙ left))) so_far

-- all places
pub turned-all : (list now : List Notice) (to at : ℕ) (marks : List Bool) (g : List (List Look)) (n : ℕ) → length marks ≡ 960
    → 960 ≤ n → n ≤ 960 → Tells list 0 (sayings_below at marks g n) to now
    → Tells list 0 (change_sayings at (marked_looks marks g)) to now
turned-all list now to at marks g n places low high so_far =
    subst (λ (xs : List Saying). Tells list 0 xs to now)
    (sayings_below-all at marks g n high (λ k least. get_or_past marks k false (omega (arith, places, least, low)))) so_far

-- the number of a place
pub marked-here : (marks : List Bool) (p : Place) (n : ℕ) → p ≡ place_of n → is_marked marks (number p.row p.column) ≡ is_marked marks n
marked-here marks p n here =
    ap (λ (q : Place). is_marked marks (number q.row q.column)) here ∙ ap (is_marked marks) (number-place_of n)
