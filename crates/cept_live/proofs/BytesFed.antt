-- Bytes fed one after the other, and the end of the page.
use Rattle.std.proofs.Common.{◌≡◌, ℕ, ◌+◌, ◌^◌, ◌<◌, ◌≤◌, ◌⊎◌, true, false, None, Some, Bool, List, [], ◌∷◌, ◌++◌, length, map, take, get_or}
use Rattle.std.proofs.Common.{refl, sym, ◌∙◌, ap, subst, arith, append_assoc, append-nil, length-append}
use Rattle.std.proofs.Common.{inl, inr}
use Rattle.std.proofs.lemmas.Bool.{cases_eq, true≢false}
use Rattle.std.proofs.lemmas.List.{length-replicate, take_more, map-append}
use Rattle.cept_codes.specs.declared.item.Item.{Item}
use Rattle.cept_codes.specs.declared.look.Look.{Look}
use Rattle.cept_parser.specs.Items.{items, closed_items, reading_within}
use Rattle.cept_parser.specs.State.{Leads}
use Rattle.cept_profile.specs.State.{state}
use Rattle.cept_redraw.specs.Marks.{no_marks}
use Rattle.cept_live.specs.declared.notice.Notice.{Notice}
use Rattle.cept_live.specs.Notices.{Saying, notice_of, sayings_after}
use Rattle.cept_live.specs.Live.{live_start}
use Rattle.cept_live.specs.Live.{Ends, Feeds, FeedsNothing, HasFed, IsPhase, LiveState, Stands, TakesNoMore, Tells}
use Rattle.cept_live.specs.inside.Live.{TakesItems}
use Rattle.cept_live.specs.Live.{TellsAll}
use Rattle.cept_live.specs.Renewed.{marked_with}
use Rattle.cept_live.specs.Shown.{Begins}
use Rattle.cept_live.proofs.SayingsTold.{length-marked_with, Tells-none, Tells-append, marked_with-none, marked_with-append}
use Rattle.cept_live.proofs.ItemsTaken.{sayings_after-append, sayings_after-none}

-- before the first byte
pub length-no_marks : length no_marks ≡ 960
unfolding no_marks
length-no_marks = length-replicate 960 false

pub HasFed-none : (live : LiveState) → Leads [] live.parser → live.screen ≡ state [] → live.phase ≡ None
    → live.renewed ≡ no_marks → live.past ≡ [] → live.future ≡ [] → HasFed live []
unfolding reading_within
HasFed-none live leads is phase renewed past future = record {
  parser = leads;
  screen = record { valid = tt; is = is };
  phase = subst IsPhase (sym phase) (λ k e. absurd (let no : None ≡ Some k = e in cc));
  places = ap (λ (m : List Bool). length m) renewed ∙ length-no_marks;
  past = past;
  future = future;
}

-- as a new decoder stands
pub live_start-is : (live : LiveState) → Leads [] live.parser → live.screen ≡ state [] → live.phase ≡ None
    → live.renewed ≡ no_marks → live.past ≡ [] → live.future ≡ [] → live ≡ live_start
unfolding reading_within
live_start-is live leads screen phase renewed past future = λ i. record {
  parser = record {
    place = leads.place i;
    context = leads.context i;
    pending = leads.pending i;
    finished = leads.running i;
  };
  screen = screen i;
  phase = phase i;
  renewed = renewed i;
  past = past i;
  future = future i;
}

-- the items that bytes close are taken
pub fed : (old new : LiveState) (more : List ℕ) (closed : List Item) (list now : List Notice) (from to : ℕ)
    → new.parser.place ≡ old.parser.place + length more
    → ((b : List ℕ) → Leads b old.parser → items (b ++ more) ≡ items b ++ closed)
    → ((b : List ℕ) → Leads b old.parser → Leads (b ++ more) new.parser)
    → new.phase ≡ old.phase → new.past ≡ old.past → new.future ≡ old.future
    → TakesItems old.screen old.renewed closed list from new.screen new.renewed to now
    → Feeds old more list from new to now
fed old new more closed list now from to place split leads phase past future taken = record {
  place = place;
  phase = phase;
  past = past;
  future = future;
  room = taken.room;
  feeds = λ b has. record {
    parser = leads b has.parser;
    screen = subst (Stands new.screen) (sym (split b has.parser)) (taken.stands (items b) has.screen);
    phase = subst IsPhase (sym phase) has.phase;
    places = ap (λ (m : List Bool). length m) (taken.marks_are (items b) has.screen)
        ∙ length-marked_with old.renewed (sayings_after (items b) closed) ∙ has.places;
    past = past ∙ has.past;
    future = future ∙ has.future;
  };
  tells = λ b has. record {
    closed = closed;
    are = split b has.parser;
    tells = taken.tells (items b) has.screen;
    marks_are = taken.marks_are (items b) has.screen;
  };
}

-- no byte
pub Feeds-none : (live : LiveState) (list : List Notice) (from : ℕ) → Feeds live [] list from live from list
Feeds-none live list from = record {
  place = omega arith;
  phase = refl;
  past = refl;
  future = refl;
  room = refl;
  feeds = λ b has. subst (HasFed live) (sym (append-nil b)) has;
  tells = λ b has. record {
    closed = [];
    are = ap items (append-nil b) ∙ sym (append-nil (items b));
    tells = subst (λ (xs : List Saying). Tells list from xs from list) (sym (sayings_after-none (items b))) (Tells-none list from);
    marks_are = sym (marked_with-none live.renewed) ∙ ap (marked_with live.renewed) (sym (sayings_after-none (items b)));
  };
}

-- bytes, and then others
pub Feeds-append : (old mid new : LiveState) (xs ys : List ℕ) (list between now : List Notice) (from at to : ℕ)
    → Feeds old xs list from mid at between → Feeds mid ys between at new to now
    → Feeds old (xs ++ ys) list from new to now
Feeds-append old mid new xs ys list between now from at to first second = record {
  place = omega (arith, first.place, second.place, length-append xs ys);
  phase = second.phase ∙ first.phase;
  past = second.past ∙ first.past;
  future = second.future ∙ first.future;
  room = second.room ∙ first.room;
  feeds = λ b has. subst (HasFed new) (append_assoc b xs ys) (second.feeds (b ++ xs) (first.feeds b has));
  tells = λ b has.
      let one = first.tells b has in
      let two = second.tells (b ++ xs) (first.feeds b has) in
      record {
        closed = one.closed ++ two.closed;
        are = ap items (sym (append_assoc b xs ys)) ∙ two.are ∙ ap (λ l. l ++ two.closed) one.are
            ∙ append_assoc (items b) one.closed two.closed;
        tells = subst (λ (l : List Saying). Tells list from l to now) (sym (sayings_after-append (items b) one.closed two.closed))
            (Tells-append list between now from to at _ _ one.tells
            (subst (λ (l : List Item). Tells between at (sayings_after l two.closed) to now) one.are two.tells));
        marks_are = two.marks_are
            ∙ ap (λ (m : List Bool). marked_with m (sayings_after (items (b ++ xs)) two.closed)) one.marks_are
            ∙ ap (λ (l : List Item). marked_with (marked_with old.renewed (sayings_after (items b) one.closed)) (sayings_after l two.closed))
            one.are
            ∙ sym (marked_with-append old.renewed (sayings_after (items b) one.closed) (sayings_after (items b ++ one.closed) two.closed))
            ∙ ap (marked_with old.renewed) (sym (sayings_after-append (items b) one.closed two.closed));
      };
}

-- the bytes so far, and one more
pub Feeds-next : (old mid new : LiveState) (xs : List ℕ) (i d : ℕ) (list between now : List Notice) (from at to : ℕ)
    → i < length xs → Feeds old (take i xs) list from mid at between
    → Feeds mid (get_or xs i d ∷ []) between at new to now
    → Feeds old (take (i + 1) xs) list from new to now
Feeds-next old mid new xs i d list between now from at to h first second =
    subst (λ (l : List ℕ). Feeds old l list from new to now) (sym (take_more xs i d h))
    (Feeds-append old mid new (take i xs) (get_or xs i d ∷ []) list between now from at to first second)

-- where no byte was taken, nothing happened, and one was taken only where that is possible
pub record FeedsIfPossible (old : LiveState) (list : List Notice) (taken put : ℕ) (new : LiveState) (now : List Notice)
    : Type 0 where
  pub none : taken ≡ 0 → FeedsNothing old list taken put new now
  pub possible : 0 < taken → (old.parser.finished ≡ false) × (old.parser.place < 2 ^ 32) × (1920 ≤ length list)

pub possible-none : (live : LiveState) (list : List Notice) → FeedsIfPossible live list 0 0 live list
possible-none live list = record {
  none = λ e. record { taken_none = refl; put_none = refl; stays = record { live = refl; notices = refl } };
  possible = λ some. absurd (omega (arith, some));
}

-- one byte more
pub possible-next : (old mid new : LiveState) (list part now : List Notice) (taken put more : ℕ)
    → FeedsIfPossible old list taken put mid part → mid.parser.finished ≡ false → mid.parser.place < 2 ^ 32
    → put + 1920 ≤ length part → FeedsIfPossible old list (taken + 1) more new now
possible-next old mid new list part now taken put more so_far running few enough = record {
  none = λ e. absurd (omega (arith, e));
  possible = λ some. elim (cases_eq taken 0) [
    | inl first ↦
        let nothing = so_far.none first in (
          sym (ap (λ (l : LiveState). l.parser.finished) nothing.stays.live) ∙ running,
          subst (λ (l : LiveState). l.parser.place < 2 ^ 32) nothing.stays.live few,
          omega (arith, nothing.put_none, ap (λ (l : List Notice). length l) nothing.stays.notices, enough),
        )
    | inr later ↦ so_far.possible (omega (arith, later))
  ];
}

-- where none can be taken, none is
pub possible-refused : (old new : LiveState) (list now : List Notice) (taken put : ℕ)
    → FeedsIfPossible old list taken put new now → TakesNoMore old ⊎ (length list < 1920)
    → FeedsNothing old list taken put new now
possible-refused old new list now taken put fed refused = elim (cases_eq taken 0) [
  | inl first ↦ fed.none first
  | inr later ↦ absurd (not_both refused (fed.possible (omega (arith, later))))
]
  where
    not_both : TakesNoMore old ⊎ (length list < 1920)
        → (old.parser.finished ≡ false) × (old.parser.place < 2 ^ 32) × (1920 ≤ length list) → ⊥
    not_both (inl (inl finished)) can = true≢false (sym finished ∙ can.0)
    not_both (inl (inr many)) can = omega (arith, many, can.1)
    not_both (inr few) can = omega (arith, few, can.2)

-- bytes, and then others, each told in a list from its start on
pub TellsAll-append : (old mid new : LiveState) (xs ys : List ℕ) (list now other after : List Notice) (at to : ℕ)
    → Feeds old xs list 0 mid at now → Feeds mid ys other 0 new to after
    → TellsAll old (xs ++ ys) (take at now ++ take to after)
TellsAll-append old mid new xs ys list now other after at to first second = record {
  tells = λ b has.
      let one = first.tells b has in
      let two = second.tells (b ++ xs) (first.feeds b has) in (
        one.closed ++ two.closed,
        ap items (sym (append_assoc b xs ys)) ∙ two.are ∙ ap (λ l. l ++ two.closed) one.are
            ∙ append_assoc (items b) one.closed two.closed,
        ap (λ l. l ++ take to after) one.tells.front
            ∙ ap (λ l. map notice_of (sayings_after (items b) one.closed) ++ l)
            (two.tells.front ∙ ap (λ (l : List Item). map notice_of (sayings_after l two.closed)) one.are)
            ∙ sym (map-append notice_of (sayings_after (items b) one.closed) (sayings_after (items b ++ one.closed) two.closed))
            ∙ ap (map notice_of) (sym (sayings_after-append (items b) one.closed two.closed)),
      );
}

-- a phase that begins leaves what was fed
pub HasFed-begun : (old new : LiveState) (before : List (List Look)) (phase to : ℕ) (list now : List Notice) (bytes : List ℕ)
    → Begins old before phase list new to now → HasFed old bytes → HasFed new bytes
HasFed-begun old new before phase to list now bytes begins has =
    subst (λ (l : LiveState). HasFed l bytes) (sym begins.live)
    (record {
      parser = has.parser;
      screen = has.screen;
      phase = λ k e. let same : phase ≡ k = cc in subst (λ n. n < 6) same begins.valid;
      places = length-no_marks;
      past = has.past;
      future = has.future;
    })

-- the items that the end closes are taken
pub ended : (old new : LiveState) (closed : List Item) (list now : List Notice) (from to : ℕ)
    → old.parser.finished ≡ false → from + 1920 ≤ length list → new.parser.finished ≡ true → new.parser.place ≡ old.parser.place
    → ((b : List ℕ) → Leads b old.parser → closed_items b ≡ items b ++ closed)
    → new.phase ≡ old.phase → new.past ≡ old.past → new.future ≡ old.future
    → TakesItems old.screen old.renewed closed list from new.screen new.renewed to now → Ends old list from new to now
ended old new closed list now from to running enough finished place split phase past future taken = record {
  running = running;
  enough = enough;
  finished = finished;
  place = place;
  phase = phase;
  past = past;
  future = future;
  room = taken.room;
  stands = λ b has. subst (Stands new.screen) (sym (split b has.parser)) (taken.stands (items b) has.screen);
  tells = λ b has. record {
    closed = closed;
    are = split b has.parser;
    tells = taken.tells (items b) has.screen;
    marks_are = taken.marks_are (items b) has.screen;
  };
}
