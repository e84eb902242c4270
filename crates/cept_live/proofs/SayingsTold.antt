-- What is told from a place of a list on, one saying after the other, and of marked places.
use Rattle.std.proofs.Common.{◌≡◌, ℕ, ◌+◌, ◌<◌, ◌≤◌, Bool, true, false, List, [], ◌∷◌, ◌++◌, length, take, drop, map, set}
use Rattle.std.proofs.Common.{refl, sym, ◌∙◌, ap, subst, arith, append_assoc, append-nil, length-append}
use Rattle.std.proofs.lemmas.List.{take_more_set, length-set, map-append, drop-set-lt, drop-drop}
use Rattle.cept_codes.specs.declared.look.Look.{Look}
use Rattle.cept_codes.specs.Place.{Place, number, place_of}
use Rattle.cept_codes.proofs.Laws.{place_of-number, number-lt}
use Rattle.cept_profile.specs.Changes.{look_at, marked_looks, marked_looks_below}
use Rattle.cept_profile.proofs.Laws.{marked_looks_below-next, marked_looks_below-unmarked, marked_looks_below-whole}
use Rattle.cept_redraw.specs.Marks.{is_marked, IsFirstFrom}
use Rattle.cept_live.specs.declared.notice.Notice.{Notice}
use Rattle.cept_live.specs.Notices.{Saying, Change, Refusal, change_sayings, notice_of}
use Rattle.cept_live.specs.Live.{Tells}
use Rattle.cept_live.specs.Renewed.{marked_with, marked_with_saying}

-- ---- sayings

pub Tells-none : (list : List Notice) (from : ℕ) → Tells list from [] from list
Tells-none list from =
    record { count = omega arith; front = sym (append-nil _); rest = refl; room = refl }

-- what stays from a place on stays from a later one on
rest_later : (list now : List Notice) (to more : ℕ) → drop to now ≡ drop to list → drop (to + more) now ≡ drop (to + more) list
rest_later list now to more rest = sym (drop-drop more to now) ∙ ap (drop more) rest ∙ drop-drop more to list

-- one saying more
pub Tells-more : (list now : List Notice) (from to : ℕ) (xs : List Saying) (x : Saying) → to < length list
    → Tells list from xs to now → Tells list from (xs ++ x ∷ []) (to + 1) (set now to (notice_of x))
Tells-more list now from to xs x low so_far = record {
  count = omega (arith, so_far.count, length-append xs (x ∷ []));
  front = take_more_set now to (notice_of x) (omega (arith, so_far.room, low))
      ∙ ap (λ l. l ++ notice_of x ∷ []) so_far.front ∙ append_assoc (take from list) (map notice_of xs) (notice_of x ∷ [])
      ∙ ap (λ l. take from list ++ l) (sym (map-append notice_of xs (x ∷ [])));
  rest = drop-set-lt (to + 1) now to (notice_of x) (omega arith) ∙ rest_later list now to 1 so_far.rest;
  room = length-set now to (notice_of x) ∙ so_far.room;
}

-- sayings, and then others
pub Tells-append : (list mid now : List Notice) (from to at : ℕ) (xs ys : List Saying)
    → Tells list from xs at mid → Tells mid at ys to now → Tells list from (xs ++ ys) to now
Tells-append list mid now from to at xs ys first second = record {
  count = omega (arith, first.count, second.count, length-append xs ys);
  front = second.front ∙ ap (λ l. l ++ map notice_of ys) first.front
      ∙ append_assoc (take from list) (map notice_of xs) (map notice_of ys)
      ∙ ap (λ l. take from list ++ l) (sym (map-append notice_of xs ys));
  rest = second.rest ∙ ap (λ n. drop n mid) second.count ∙ rest_later list mid at (length ys) first.rest
      ∙ ap (λ n. drop n list) (sym second.count);
  room = second.room ∙ first.room;
}

-- ---- the places of sayings

pub marked_with-none : (marks : List Bool) → marked_with marks [] ≡ marks
unfolding marked_with
marked_with-none marks = refl

-- of sayings, and then of others
pub marked_with-append : (marks : List Bool) (xs ys : List Saying)
    → marked_with marks (xs ++ ys) ≡ marked_with (marked_with marks xs) ys
unfolding marked_with
marked_with-append marks [] ys = refl
marked_with-append marks (x ∷ xs) ys = marked_with-append (marked_with_saying marks x) xs ys

-- of one saying more
pub marked_with-more : (marks : List Bool) (xs : List Saying) (x : Saying)
    → marked_with marks (xs ++ x ∷ []) ≡ marked_with_saying (marked_with marks xs) x
unfolding marked_with
marked_with-more marks xs x = marked_with-append marks xs (x ∷ [])

-- there are as many flags as before
pub length-marked_with : (marks : List Bool) (xs : List Saying) → length (marked_with marks xs) ≡ length marks
unfolding marked_with
length-marked_with marks [] = refl
length-marked_with marks (x ∷ xs) = length-marked_with (marked_with_saying marks x) xs ∙ length-saying x
  where
    length-saying : (x : Saying) → length (marked_with_saying marks x) ≡ length marks
    length-saying (Change at place look) = length-set marks (number place.row place.column) true
    length-saying (Refusal at size reason) = refl

-- ---- marked places

-- what is told of marked places, and which places that are renewed are marked for it
pub record TellsMarked (list : List Notice) (from : ℕ) (renewed : List Bool) (more : List Saying) (to : ℕ) (now : List Notice)
    (after : List Bool) : Type 0 where
  pub tells : Tells list from more to now
  pub renews : after ≡ marked_with renewed more

-- the sayings of marked places with numbers below n
abbrev pub sayings_below : ℕ → List Bool → List (List Look) → ℕ → List Saying
sayings_below at marks g n = change_sayings at (marked_looks_below marks g n)

-- none so far
pub sayings_below-none : (at : ℕ) (marks : List Bool) (g : List (List Look)) → sayings_below at marks g 0 ≡ []
unfolding marked_looks_below
sayings_below-none at marks g = refl

pub marked-none : (list : List Notice) (from at : ℕ) (renewed marks : List Bool) (g : List (List Look))
    → TellsMarked list from renewed (sayings_below at marks g 0) from list renewed
marked-none list from at renewed marks g =
    subst (λ (xs : List Saying). TellsMarked list from renewed xs from list renewed) (sym (sayings_below-none at marks g))
    (record { tells = Tells-none list from; renews = sym (marked_with-none renewed) })

-- the next marked number
pub sayings_below-next : (at : ℕ) (marks : List Bool) (g : List (List Look)) (low n : ℕ) → low ≤ n
    → ((k : ℕ) → low ≤ k → k < n → is_marked marks k ≡ false) → is_marked marks n ≡ true
    → sayings_below at marks g (n + 1) ≡ sayings_below at marks g low ++ Change at (place_of n) (look_at g (place_of n)) ∷ []
sayings_below-next at marks g low n least none here =
    ap (change_sayings at) (marked_looks_below-next marks g low n least none here)
    ∙ map-append (λ (x : Place × Look). Change at x.0 x.1) (marked_looks_below marks g low)
    ((place_of n, look_at g (place_of n)) ∷ [])

-- numbers that aren't marked
pub sayings_below-unmarked : (at : ℕ) (marks : List Bool) (g : List (List Look)) (low n : ℕ) → low ≤ n
    → ((k : ℕ) → low ≤ k → k < n → is_marked marks k ≡ false) → sayings_below at marks g n ≡ sayings_below at marks g low
sayings_below-unmarked at marks g low n least none =
    ap (change_sayings at) (marked_looks_below-unmarked marks g low n least none)

-- the next marked place
pub sayings_below-place : (at : ℕ) (marks : List Bool) (g : List (List Look)) (low : ℕ) (p : Place) → IsFirstFrom marks low p
    → sayings_below at marks g (number p.row p.column + 1) ≡ sayings_below at marks g low ++ Change at p (look_at g p) ∷ []
sayings_below-place at marks g low p first =
    sayings_below-next at marks g low (number p.row p.column) first.at_least first.first first.marked
    ∙ ap (λ (q : Place). sayings_below at marks g low ++ Change at q (look_at g q) ∷ []) (place_of-number p first.on_screen)

pub marked-next : (list now : List Notice) (from to at : ℕ) (renewed after marks : List Bool) (g : List (List Look)) (low : ℕ)
    (p : Place) → IsFirstFrom marks low p → to < length list
    → TellsMarked list from renewed (sayings_below at marks g low) to now after
    → TellsMarked list from renewed (sayings_below at marks g (number p.row p.column + 1)) (to + 1)
    (set now to (notice_of (Change at p (look_at g p)))) (set after (number p.row p.column) true)
marked-next list now from to at renewed after marks g low p first room so_far =
    subst (λ (xs : List Saying). TellsMarked list from renewed xs (to + 1)
    (set now to (notice_of (Change at p (look_at g p)))) (set after (number p.row p.column) true))
    (sym (sayings_below-place at marks g low p first))
    (record {
      tells = Tells-more list now from to _ (Change at p (look_at g p)) room so_far.tells;
      renews = ap (λ (m : List Bool). set m (number p.row p.column) true) so_far.renews
          ∙ sym (marked_with-more renewed (sayings_below at marks g low) (Change at p (look_at g p)));
    })

-- the same in marks alone
pub marks-none : (at : ℕ) (old marks : List Bool) (g : List (List Look)) → old ≡ marked_with old (sayings_below at marks g 0)
marks-none at old marks g = sym (marked_with-none old) ∙ ap (marked_with old) (sym (sayings_below-none at marks g))

pub marks-next : (at : ℕ) (old after marks : List Bool) (g : List (List Look)) (low : ℕ) (p : Place) → IsFirstFrom marks low p
    → after ≡ marked_with old (sayings_below at marks g low)
    → set after (number p.row p.column) true ≡ marked_with old (sayings_below at marks g (number p.row p.column + 1))
marks-next at old after marks g low p first so_far =
    ap (λ (m : List Bool). set m (number p.row p.column) true) so_far
    ∙ sym (marked_with-more old (sayings_below at marks g low) (Change at p (look_at g p)))
    ∙ ap (marked_with old) (sym (sayings_below-place at marks g low p first))

-- no further place is marked
pub sayings_below-all : (at : ℕ) (marks : List Bool) (g : List (List Look)) (low : ℕ) → low ≤ 960
    → ((n : ℕ) → low ≤ n → is_marked marks n ≡ false)
    → sayings_below at marks g low ≡ change_sayings at (marked_looks marks g)
sayings_below-all at marks g low within none =
    sym (sayings_below-unmarked at marks g low 960 within (λ k least _. none k least))
    ∙ ap (change_sayings at) (marked_looks_below-whole marks g)

pub number-below : (marks : List Bool) (low : ℕ) (p : Place) → IsFirstFrom marks low p → number p.row p.column < 960
number-below marks low p first = number-lt p.row p.column first.on_screen
