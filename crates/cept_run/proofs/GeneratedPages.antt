-- A generated page, put or read piece by piece.
use Rattle.cept_run.specs.Reporting.{Plan}
use Rattle.std.proofs.Common.{◌≡◌, false, ℕ, ◌+◌, ◌<◌, List, [], ◌++◌, length, take, Ok, Err, refl, sym, ◌∙◌, ap, subst, arith}
use Rattle.std.proofs.Common.{append_assoc, append-nil, length-append}
use Rattle.std.proofs.Math.Seq.{take-append-add}
use Rattle.std.proofs.lemmas.List.{take-append-le}
use Rattle.cept_outside.specs.Causes.{Rose}
use Rattle.cept_outside.specs.SinkState.{SinkState, Gains, PutsText}
use Rattle.cept_outside.proofs.Laws.{Gains-nil, Gains-append}
use Rattle.cept_codes.specs.declared.item.Item.{Item}
use Rattle.cept_editor.specs.Made.{Output, AreCutOff}
use Rattle.cept_parser.specs.Items.{items, closed_items}
use Rattle.cept_run.specs.Events.{item_events}
use Rattle.cept_run.specs.Reporting.{DecoderState, HasRead, HasReported}
use Rattle.cept_run.proofs.PagesInPieces.{more_items}
use Rattle.cept_run.proofs.ReportedItems.{cut_longer, has_reported_same, reads_as}

-- the page was put up to what is left of it, and no fault was counted
pub record HasPutUpTo (page left : List ℕ) (before now : SinkState) : Type 0 where
  pub front : List ℕ
  pub split : page ≡ front ++ left
  pub gains : Gains before front now
  pub stays : now.faults ≡ before.faults

pub put_nothing_yet : (page left : List ℕ) (s : SinkState) → left ≡ page → HasPutUpTo page left s s
put_nothing_yet page left s is = record { front = []; split = sym is; gains = Gains-nil s; stays = refl }

module _ (page left rest piece : List ℕ) (before mid after : SinkState)
    (has : HasPutUpTo page left before mid) (next : left ≡ piece ++ rest) where
  split_more : page ≡ (has.front ++ piece) ++ rest
  split_more = has.split ∙ ap (λ l. has.front ++ l) next ∙ sym (append_assoc has.front piece rest)

  pub put_piece : {X E : Type 0} {x : X} → PutsText {E = E} mid piece (Ok x) after → HasPutUpTo page rest before after
  put_piece puts = record {
    front = has.front ++ piece;
    split = split_more;
    gains = Gains-append before mid after has.front piece has.gains puts.whole;
    stays = puts.cause.stays ∙ has.stays;
  }

  part_of_page : (k : ℕ) → k < length piece → take (length has.front + k) page ≡ has.front ++ take k piece
  part_of_page k short = ap (take (length has.front + k)) (has.split ∙ ap (λ l. has.front ++ l) next)
      ∙ take-append-add has.front (piece ++ rest) k
      ∙ ap (λ l. has.front ++ l) (take-append-le k piece rest (omega (arith, short)))

  pub put_part : {X Y E F : Type 0} {f : E} {g : F} → PutsText {X = X} mid piece (Err f) after
      → PutsText {X = Y} before page (Err g) after
  put_part puts =
      let k = puts.part.size in
      record {
        whole = tt;
        part = record {
          size = length has.front + k;
          short = omega (
            arith,
            puts.part.short,
            ap length split_more,
            length-append (has.front ++ piece) rest,
            length-append has.front piece,
          );
          gains = subst (λ (t : List ℕ). Gains before t after) (sym (part_of_page k puts.part.short))
              (Gains-append before mid after has.front (take k piece) has.gains puts.part.gains);
        };
        cause = record {
          later = omega (arith, puts.cause.later, has.stays);
          failed = subst (λ n. Rose n after.faults) has.stays puts.cause.failed;
          stays = tt;
        };
      }

pub put_to_last : {X E : Type 0} {x : X} (page left : List ℕ) (before now : SinkState)
    → HasPutUpTo page left before now → left ≡ [] → PutsText {E = E} before page (Ok x) now
put_to_last page left before now has none = record {
  whole = subst (λ (t : List ℕ). Gains before t now)
      (sym (has.split ∙ ap (λ l. has.front ++ l) none ∙ append-nil has.front)) has.gains;
  part = tt;
  cause = record { later = omega (arith, has.stays); failed = tt; stays = has.stays };
}

-- ---- the page is read

-- the decoder has read so many bytes of the page, up to what is left of it
pub record HasReadUpTo (plan : Plan) (page left : List ℕ) (count : ℕ) (decoder : DecoderState) (start now : Output)
    : Type 0 where
  pub front : List ℕ
  pub split : page ≡ front ++ left
  pub count_is : count ≡ length front
  pub running : decoder.parser.finished ≡ false
  pub read : HasRead plan decoder front start now

pub read_nothing_yet : (plan : Plan) (page left : List ℕ) (decoder : DecoderState) (start : Output) → left ≡ page
    → HasRead plan decoder [] start start → HasReadUpTo plan page left 0 decoder start start
read_nothing_yet plan page left decoder start is read = record {
  front = [];
  split = sym is;
  count_is = refl;
  running = read.parser.running;
  read = read;
}

module _ (plan : Plan) (page left rest piece : List ℕ) (count : ℕ) (decoder : DecoderState) (start now : Output)
    (has : HasReadUpTo plan page left count decoder start now) (next : left ≡ piece ++ rest) where
  pub read_split : page ≡ (has.front ++ piece) ++ rest
  read_split = has.split ∙ ap (λ l. has.front ++ l) next ∙ sym (append_assoc has.front piece rest)

  -- it is as long as its parts together
  pub read_length : length page ≡ count + length piece + length rest
  read_length = omega (
    arith,
    has.count_is,
    ap length read_split,
    length-append (has.front ++ piece) rest,
    length-append has.front piece,
  )

  pub read_piece : (total : ℕ) (new : DecoderState) (after : Output) → total ≡ count + length piece
      → new.parser.finished ≡ false → HasRead plan new (has.front ++ piece) start after
      → HasReadUpTo plan page rest total new start after
  read_piece total new after is running read = record {
    front = has.front ++ piece;
    split = read_split;
    count_is = omega (arith, is, has.count_is, length-append has.front piece);
    running = running;
    read = read;
  }

  -- the sink failed at an item of the piece: a law of reading says which items come after it
  pub cut_in_piece : (others : List Item) (after : Output)
      → items ((has.front ++ piece) ++ rest) ≡ items (has.front ++ piece) ++ others
      → AreCutOff (item_events plan.options (items (has.front ++ piece))) start after
      → AreCutOff (item_events plan.options (closed_items page)) start after
  cut_in_piece others after law off =
      let more = more_items (has.front ++ piece) rest page others (sym read_split) law in
      cut_longer plan (items (has.front ++ piece)) more.0 (closed_items page) start after (sym more.1) off

-- nothing is left
module _ (plan : Plan) (page left : List ℕ) (count : ℕ) (decoder : DecoderState) (start now : Output)
    (has : HasReadUpTo plan page left count decoder start now) (none : left ≡ []) where
  all_read : has.front ≡ page
  all_read = sym (has.split ∙ ap (λ l. has.front ++ l) none ∙ append-nil has.front)

  pub count_of_page : count ≡ length page
  count_of_page = has.count_is ∙ ap length all_read

  pub reported_to_end : (new : DecoderState) (after : Output)
      → HasReported plan new.reporter (closed_items has.front) start after
      → HasReported plan new.reporter (closed_items page) start after
  reported_to_end new after reported =
      has_reported_same plan new.reporter (closed_items has.front) (closed_items page) start after
      (ap closed_items all_read) reported

  pub cut_at_last : (after : Output) → AreCutOff (item_events plan.options (closed_items has.front)) start after
      → AreCutOff (item_events plan.options (closed_items page)) start after
  cut_at_last after off = reads_as plan (closed_items has.front) (closed_items page) start after
      (ap closed_items all_read) off
