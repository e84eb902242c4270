-- A page that is taken piece by piece.
use Rattle.cept_run.specs.Reporting.{Plan}
use Rattle.std.proofs.Common.{◌≡◌, ℕ, ◌+◌, ◌-◌, ◌≤◌, arith, length-take, length-drop, Option, Some, Result}
use Rattle.std.proofs.Common.{List, [], ◌∷◌, ◌++◌, length, take, drop, refl, sym, ◌∙◌, ap, subst, take-take, append_assoc}
use Rattle.std.proofs.Common.{length-append}
use Rattle.std.specs.Io.KnownBytes.{prepend_known}
use Rattle.std.proofs.lemmas.List.{length-take-le}
use Rattle.std.proofs.Math.Seq.{take-add, take-append-add}
use Rattle.cept_codes.specs.declared.item.Item.{Item}
use Rattle.cept_parser.specs.Items.{items, closed_items, closing_items, reading}
use Rattle.cept_outside.specs.Causes.{Rose}
use Rattle.cept_outside.specs.ShelfState.{ShelfState, KeepsFiles, Takes}
use Rattle.cept_outside.proofs.Laws.{left_after}
use Rattle.cept_editor.specs.Made.{Output}
use Rattle.cept_run.specs.Page.{KeepsShelf}
use Rattle.cept_run.specs.Reporting.{DecoderState, HasRead}

-- so many bytes were taken and read; they are those of a page that is told
pub record HasCome (plan : Plan) (first : ShelfState) (place : ℕ) (shelf : ShelfState) (decoder : DecoderState)
    (start now : Output) : Type 0 where
  pub bytes : List ℕ
  pub count : length bytes ≡ place
  pub read : HasRead plan decoder bytes start now
  pub known : (page : List ℕ) → first.left ≡ Some page
      → (bytes ≡ take place page) × (shelf.left ≡ Some (drop place page))

-- the bytes of one piece more: what is left, and the front of the page with a part of the piece
pub left_more : (page piece : List ℕ) (place n : ℕ) (known : Option (List ℕ))
    → Some (drop place page) ≡ prepend_known (take n piece) known → n ≤ length piece
    → known ≡ Some (drop (place + n) page)
left_more page piece place n known e h = (left_after page (take n piece) place n (Some (drop place page)) known
    (length-take-le n piece h) e refl).0

pub front_with : (page piece bytes : List ℕ) (place n m : ℕ) (known : Option (List ℕ)) → bytes ≡ take place page
    → Some (drop place page) ≡ prepend_known (take n piece) known → n ≤ length piece → m ≤ n
    → bytes ++ take m piece ≡ take (place + m) page
front_with page piece bytes place n m known is e h le =
    let moved = (left_after page (take n piece) place n (Some (drop place page)) known (length-take-le n piece h) e
    refl).1 in
    let part : take m piece ≡ take m (drop place page) =
    sym (take-take m n piece le) ∙ ap (take m) moved ∙ take-take m n (drop place page) le in
    ap (λ b. b ++ take m piece) is ∙ ap (λ l. take place page ++ l) part ∙ sym (take-add place m page)

-- the front of a piece more, of bytes that were taken with a longer part of it
pub front_of_piece : (bytes piece : List ℕ) (place n m : ℕ) → length bytes ≡ place → m ≤ n
    → take (place + m) (bytes ++ take n piece) ≡ bytes ++ take m piece
front_of_piece bytes piece place n m count le =
    ap (λ k. take (k + m) (bytes ++ take n piece)) (sym count) ∙ take-append-add bytes (take n piece) m
    ∙ ap (λ l. bytes ++ l) (take-take m n piece le)

-- what was taken was there
pub taken_there : (page piece : List ℕ) (place n : ℕ) (known : Option (List ℕ))
    → Some (drop place page) ≡ prepend_known (take n piece) known → n ≤ length piece → n ≤ length page - place
taken_there page piece place n known e h =
    let moved = (left_after page (take n piece) place n (Some (drop place page)) known (length-take-le n piece h) e
    refl).1 in
    omega (arith, ap length moved, length-take-le n piece h, length-take n (drop place page), length-drop place page)

pub nil_from_length : (xs : List ℕ) → length xs ≡ 0 → xs ≡ []
nil_from_length [] h = refl
nil_from_length (x ∷ xs) h = absurd (omega (arith, h))

-- the files stayed twice
pub KeepsFiles-more : (a b c : ShelfState) → KeepsFiles a b → KeepsFiles b c → KeepsFiles a c
KeepsFiles-more a b c h k = record {
  files = k.files ∙ h.files;
  tells_selected = k.tells_selected ∙ h.tells_selected;
  tells_left = k.tells_left ∙ h.tells_left;
}

-- nothing was taken, or a piece more
pub KeepsShelf-none : (s : ShelfState) → KeepsShelf s s
KeepsShelf-none s = record {
  files = record { files = refl; tells_selected = refl; tells_left = refl };
  selected = refl;
  missed = refl;
  faults = omega arith;
}

pub keeps_shelf_more : {E : Type 0} (before now after : ShelfState) (into : List ℕ) (result : Result ℕ E)
    → KeepsShelf before now → Takes {E = E} now into result after → now.faults ≤ after.faults → KeepsShelf before after
keeps_shelf_more before now after into result keeps takes later = record {
  files = KeepsFiles-more before now after keeps.files takes.keeps;
  selected = takes.selected ∙ keeps.selected;
  missed = takes.missed ∙ keeps.missed;
  faults = omega (arith, keeps.faults);
}

-- a fault since a count that was as before
pub Rose-since : (before now after : ℕ) → now ≡ before → Rose now after → Rose before after
Rose-since before now after same rose = subst (λ n. Rose n after) same rose

-- the items of a page begin with those of its front: a law of reading says which others come
pub more_items : (front rest page : List ℕ) (others : List Item) → front ++ rest ≡ page
    → items (front ++ rest) ≡ items front ++ others
    → (more : List Item) × (closed_items page ≡ items front ++ more)
more_items front rest page others is law =
    let closing = closing_items (reading page) in (
      others ++ closing,
      ap (λ l. l ++ closing) (ap items (sym is) ∙ law) ∙ append_assoc (items front) others closing,
    )

-- ---- a script that is taken piece by piece

-- these bytes were taken; they are those of a script that is told
pub record HasTaken (first : ShelfState) (bytes : List ℕ) (shelf : ShelfState) : Type 0 where
  pub known : (script : List ℕ) → first.left ≡ Some script
      → (bytes ≡ take (length bytes) script) × (shelf.left ≡ Some (drop (length bytes) script))

-- none
pub HasTaken-none : (first : ShelfState) (bytes : List ℕ) → bytes ≡ [] → HasTaken first bytes first
HasTaken-none first bytes none = subst (λ (b : List ℕ). HasTaken first b first) (sym none)
    (record { known = λ script is. (refl, is) })

-- a piece more
pub HasTaken-more : (first now after : ShelfState) (bytes piece : List ℕ) (n : ℕ) → HasTaken first bytes now
    → now.left ≡ prepend_known (take n piece) after.left → n ≤ length piece
    → HasTaken first (bytes ++ take n piece) after
HasTaken-more first now after bytes piece n has moved within =
    let more : length (bytes ++ take n piece) ≡ length bytes + n =
    omega (arith, length-append bytes (take n piece), length-take-le n piece within) in
    record {
      known = λ script is.
          let known = has.known script is in
          let come = sym known.1 ∙ moved in
          subst (λ k. (bytes ++ take n piece ≡ take k script) × (after.left ≡ Some (drop k script))) (sym more) (
            front_with script piece bytes (length bytes) n n after.left known.0 come within (omega arith),
            left_more script piece (length bytes) n after.left come within,
          );
    }
