-- Pieces of a page that are converted.
use Rattle.std.proofs.Common.{◌≡◌, ℕ, ◌+◌, ◌<◌, ◌≤◌, List, [], ◌∷◌, ◌++◌, Bool, length, get_or, take, drop, refl, sym}
use Rattle.std.proofs.Common.{ap, ◌∙◌, subst, arith, append_assoc, append-nil, length-append, take-append-drop, drop-cons}
use Rattle.std.proofs.Common.{add-one}
use Rattle.std.proofs.lemmas.List.{take_more, take_all}
use Rattle.std.proofs.lemmas.List.{length-take-le}
use Rattle.std.proofs.Common.{true, false, not}
use Rattle.cept_seven.specs.declared.from_seven.Heard.{Heard}
use Rattle.cept_seven.specs.declared.from_seven.Heard.TheVariants.{Byte, Silent, Refused}
use Rattle.cept_run.specs.declared.converting.Path.TheVariants as paths
use Rattle.cept_run.specs.declared.words.BytesAction.TheVariants as actions
use Rattle.std.proofs.Common.{Some, min, ◌^◌, inl, inr, Result, Ok, Err}
use Rattle.cept_outside.specs.ShelfState.{ShelfState}
use Rattle.cept_run.specs.declared.converting.Path.{Path}
use Rattle.cept_run.specs.declared.words.BytesAction.{BytesAction}
use Rattle.cept_run.specs.Converted.{converted_front, readable_front}
use Rattle.cept_run.specs.Taking.{AreLeft, TakesWhole, TakesFront}
use Rattle.cept_run.specs.inside.Converting.{Converts, IsAfter, HasConverted, ConvertsPart, PieceConverted, EndConverted, PageConverted}
use Rattle.cept_run.specs.declared.page.Stop.{Stop}
use Rattle.cept_run.specs.declared.page.Stop.TheVariants as stops
use Rattle.std.proofs.Math.Seq.{take-append-add}
use Rattle.cept_outside.specs.Causes.{Rose}
use Rattle.cept_outside.specs.SinkState.{SinkState, Gains, GainsPart}
use Rattle.cept_outside.proofs.Laws.{Gains-append, Gains-nil}
use Rattle.cept_seven.specs.Seven.{ends_right, unclosed, texts}
use Rattle.cept_seven.specs.Eight.{Leads, ShiftState, eight, accepted, bytes_heard, eight_after, accepted_after}

front_more : (b piece : List ℕ) (i d : ℕ) → i < length piece
    → (b ++ take i piece) ++ get_or piece i d ∷ [] ≡ b ++ take (i + 1) piece
front_more b piece i d l =
    append_assoc b (take i piece) (get_or piece i d ∷ []) ∙ ap (λ w. b ++ w) (sym (take_more piece i d l))

front_rest : (b piece : List ℕ) (i d : ℕ) → i < length piece
    → (b ++ take i piece) ++ get_or piece i d ∷ drop (i + 1) piece ≡ b ++ piece
front_rest b piece i d l =
    append_assoc b (take i piece) (get_or piece i d ∷ drop (i + 1) piece)
    ∙ ap (λ w. b ++ w) (ap (λ w. take i piece ++ w) (ap (λ k. get_or piece i d ∷ drop k piece) (add-one i)
    ∙ sym (drop-cons piece i d l)) ∙ take-append-drop i piece)

-- all of them
front_all : (b piece : List ℕ) (i : ℕ) → length piece ≤ i → b ++ take i piece ≡ b ++ piece
front_all b piece i l = ap (λ w. b ++ w) (take_all i piece l)

-- ---- to seven bits

-- these bytes of a piece were converted to this text
pub record ToSevenCome (b part text : List ℕ) (form : Bool) : Type 0 where
  pub text_is : unclosed b ++ text ≡ unclosed (b ++ part)
  pub stands : form ≡ ends_right (b ++ part)

pub seven_starts : (b text : List ℕ) (form : Bool) → text ≡ [] → form ≡ ends_right b → ToSevenCome b [] text form
seven_starts b text form e l = record {
  text_is = ap (λ w. unclosed b ++ w) e ∙ append-nil (unclosed b) ∙ ap unclosed (sym (append-nil b));
  stands = l ∙ ap ends_right (sym (append-nil b));
}

pub seven_goes_on : (b piece text more : List ℕ) (i : ℕ) (form : Bool) → i < length piece
    → unclosed b ++ more ≡ unclosed ((b ++ take i piece) ++ get_or piece i 0 ∷ [])
    → form ≡ ends_right ((b ++ take i piece) ++ get_or piece i 0 ∷ [])
    → ToSevenCome b (take (i + 1) piece) more form
seven_goes_on b piece text more i form l e f = record {
  text_is = e ∙ ap unclosed (front_more b piece i 0 l);
  stands = f ∙ ap ends_right (front_more b piece i 0 l);
}

pub seven_converted : (b piece text : List ℕ) (i : ℕ) (form : Bool) → length piece ≤ i
    → ToSevenCome b (take i piece) text form → Converts actions.Seven b piece text true (paths.Seven form)
seven_converted b piece text i form l come = (
  sym (come.text_is ∙ ap unclosed (front_all b piece i l)),
  (λ e. come.stands ∙ ap ends_right (front_all b piece i l)),
  (λ e. cc),
)

-- ---- back to eight

-- these bytes of a piece were converted back to this text
pub record FromSevenCome (b part text : List ℕ) (form : ShiftState) : Type 0 where
  pub text_is : eight (b ++ part) ≡ eight b ++ text
  pub leads : Leads (b ++ part) form

pub eight_starts : (b text : List ℕ) (form : ShiftState) → text ≡ [] → Leads b form → FromSevenCome b [] text form
eight_starts b text form e l = record {
  text_is = ap eight (append-nil b) ∙ sym (append-nil (eight b)) ∙ ap (λ w. eight b ++ w) (sym e);
  leads = subst (λ (s : List ℕ). Leads s form) (sym (append-nil b)) l;
}

pub eight_goes_on : (b piece text more : List ℕ) (i : ℕ) (old new : ShiftState) (r : Heard) → i < length piece
    → FromSevenCome b (take i piece) text old
    → eight ((b ++ take i piece) ++ get_or piece i 0 ∷ []) ≡ eight (b ++ take i piece) ++ bytes_heard r
    → Leads ((b ++ take i piece) ++ get_or piece i 0 ∷ []) new → more ≡ text ++ bytes_heard r
    → FromSevenCome b (take (i + 1) piece) more new
eight_goes_on b piece text more i old new r l come e f is = record {
  text_is = ap eight (sym (front_more b piece i 0 l)) ∙ e ∙ ap (λ w. w ++ bytes_heard r) come.text_is
      ∙ append_assoc (eight b) text (bytes_heard r) ∙ ap (λ w. eight b ++ w) (sym is);
  leads = subst (λ (s : List ℕ). Leads s new) (front_more b piece i 0 l) f;
}

-- what was read before is as it was
read_before : (b : List ℕ) (form : ShiftState) → Leads b form → converted_front actions.Eight b ≡ eight b
read_before b form l = ap eight l.accepted

pub eight_converted : (b piece text : List ℕ) (i : ℕ) (form old : ShiftState) → length piece ≤ i → Leads b old
    → FromSevenCome b (take i piece) text form → Converts actions.Eight b piece text true (paths.Eight form)
eight_converted b piece text i form old l first come =
    let all = front_all b piece i l in
    let leads : Leads (b ++ piece) form = subst (λ (s : List ℕ). Leads s form) all come.leads in (
      read_before (b ++ piece) form leads ∙ ap eight (sym all) ∙ come.text_is
          ∙ ap (λ w. w ++ text) (sym (read_before b old first)),
      (λ e. leads),
      (λ e. cc),
    )

pub eight_refused : (b piece text : List ℕ) (i : ℕ) (form old new : ShiftState) → i < length piece → Leads b old
    → FromSevenCome b (take i piece) text form
    → ((rest : List ℕ) → accepted ((b ++ take i piece) ++ get_or piece i 0 ∷ rest) ≡ b ++ take i piece)
    → Converts actions.Eight b piece text false (paths.Eight new)
eight_refused b piece text i form old new l first come ends =
    let rest = drop (i + 1) piece in
    let front : accepted (b ++ piece) ≡ b ++ take i piece =
    ap accepted (sym (front_rest b piece i 0 l)) ∙ ends rest in (
      ap eight front ∙ come.text_is ∙ ap (λ w. w ++ text) (sym (read_before b old first)),
      (λ e. cc),
      (λ e. shorter (sym front)),
    )
  where
    shorter : b ++ take i piece ≡ accepted (b ++ piece) → accepted (b ++ piece) ≡ b ++ piece → ⊥
    shorter f e = omega (
      arith,
      ap length (f ∙ e),
      length-append b (take i piece),
      length-append b piece,
      length-take-le i piece (omega arith),
    )

-- a byte that gives something isn't refused
pub byte_kept : (r : Heard) (a : ℕ) → r ≡ Byte a → r ≡ Refused → ⊥
byte_kept r a e f = let no : Byte a ≡ Refused = sym e ∙ f in cc

pub silent_kept : (r : Heard) → r ≡ Silent → r ≡ Refused → ⊥
silent_kept r e f = let no : Silent ≡ Refused = sym e ∙ f in cc

-- ---- texts that are put

module _ (start mid after : SinkState) (front text whole : List ℕ) (is : whole ≡ front ++ text)
    (put : Gains start front mid) where
  pub all_put : Gains mid text after → Gains start whole after
  all_put more = subst (λ (t : List ℕ). Gains start t after) (sym is) (Gains-append start mid after front text put more)

  pub part_put : GainsPart mid text after → GainsPart start whole after
  part_put part = record {
    size = length front + part.size;
    short = omega (arith, part.short, ap length is, length-append front text);
    gains = subst (λ (t : List ℕ). Gains start t after)
        (sym (ap (take (length front + part.size)) is ∙ take-append-add front text part.size))
        (Gains-append start mid after front (take part.size text) put part.gains);
  }

-- a fault since a count that was as before
pub fault_since : (start mid after : ℕ) → mid ≡ start → Rose mid after → Rose start after
fault_since start mid after stays = subst (λ n. Rose n after) stays

pub later_since : (start mid after : ℕ) → mid ≡ start → mid ≤ after → start ≤ after
later_since start mid after stays l = omega arith

-- the page can end, or not
pub can_end : (left can : Bool) → left ≡ not can → left ≡ false → can ≡ true
can_end left true e f = refl
can_end left false e f = let no : true ≡ false = sym e ∙ f in cc

pub cannot_end : (left can : Bool) → left ≡ not can → left ≡ true → can ≡ false
cannot_end left false e f = refl
cannot_end left true e f = let no : false ≡ true = sym e ∙ f in cc

-- ---- a page of a shelf

-- what a path stands after was read
pub after_read : (action : BytesAction) (b : List ℕ) (path : Path) → IsAfter action b path → readable_front action b ≡ b
after_read actions.Seven b (paths.Seven form) s = refl
after_read actions.Seven b (paths.Eight form) s = elim s [ ]
after_read actions.Eight b (paths.Seven form) s = elim s [ ]
after_read actions.Eight b (paths.Eight form) s = s.accepted

-- before the first byte nothing is put
pub nothing_converted : (action : BytesAction) (path : Path) (start : SinkState) → IsAfter action [] path
    → HasConverted action [] path start start
unfolding texts accepted_after eight_after
nothing_converted actions.Seven path start s = record { stands = s; puts = record { put = Gains-nil start; stays = refl } }
nothing_converted actions.Eight path start s = record { stands = s; puts = record { put = Gains-nil start; stays = refl } }

-- so many bytes were taken and converted; they are those of a page that is told
pub record HasConvertedSo (action : BytesAction) (first : ShelfState) (place : ℕ) (shelf : ShelfState) (path : Path)
    (start now : SinkState) : Type 0 where
  pub bytes : List ℕ
  pub count : length bytes ≡ place
  pub so : HasConverted action bytes path start now
  pub known : (page : List ℕ) → first.left ≡ Some page
      → (bytes ≡ take place page) × (shelf.left ≡ Some (drop place page))

-- the conversion of a piece stopped, after these bytes were taken, of which the front was to be converted
module _ (action : BytesAction) (before after : ShelfState) (start now : SinkState) (bytes front : List ℕ) (path : Path)
    (takes : TakesFront bytes before after) (front_is : front ≡ take (min after.taken (2 ^ 24)) bytes)
    (counted : length front ≡ min after.taken (2 ^ 24))
    (known : (page : List ℕ) → AreLeft before page → front ≡ take (min after.taken (2 ^ 24)) page) where
  pub piece_stopped : (stop : Stop) → PieceConverted {X = Unit {0}} action front start (Err stop) path now
      → PageConverted action before start (Err stop) after now
  piece_stopped stops.NotSeven ends = record {
    bytes = front;
    count = counted;
    known = known;
    cause = inl ends.1;
    puts = ends.0;
    stays = takes.stays;
  }
  piece_stopped stops.WriteFault ends = inl (record {
    bytes = bytes;
    takes = takes;
    cut = subst (λ (b : List ℕ). ConvertsPart action b start now) front_is ends;
  })
  piece_stopped stops.ReadFault ends = elim ends [ ]
  piece_stopped stops.TooLong ends = elim ends [ ]
  piece_stopped stops.Script ends = elim ends [ ]
  piece_stopped stops.NoMemory ends = elim ends [ ]

-- the page ended after these bytes
module _ (action : BytesAction) (before after : ShelfState) (start now : SinkState) (bytes : List ℕ)
    (takes : TakesWhole (AreLeft before) (2 ^ 24) bytes before after) (read : readable_front action bytes ≡ bytes) where
  pub page_ended : (result : Result Bool Stop) → EndConverted action bytes start result now
      → PageConverted action before start result after now
  page_ended (Ok refused) ends = (
    record { bytes = bytes; takes = takes; read = read; can_end = ends.1; put = ends.0 },
    ends.2,
  )
  page_ended (Err stops.NotSeven) ends = record {
    bytes = bytes;
    count = omega (arith, takes.taken.taken, takes.few);
    known = λ page is.
        let all : min after.taken (2 ^ 24) ≡ length bytes = omega (arith, takes.taken.taken, takes.few) in
        takes.known page is
        ∙ sym (ap (λ k. take k page) (all ∙ ap length (takes.known page is)) ∙ take_all (length page) page (omega arith));
    cause = inr (takes, read, ends.1);
    puts = ends.0;
    stays = takes.stays;
  }
  page_ended (Err stops.WriteFault) ends = inr (record {
    bytes = bytes;
    takes = takes;
    read = read;
    can_end = ends.1;
    cut = ends.0;
  })
  page_ended (Err stops.ReadFault) ends = elim ends [ ]
  page_ended (Err stops.TooLong) ends = elim ends [ ]
  page_ended (Err stops.Script) ends = elim ends [ ]
  page_ended (Err stops.NoMemory) ends = elim ends [ ]
